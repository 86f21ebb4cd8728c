-- Rules 8 to 10 with an entry more, payments, and rests counted in weeks. Assumes nothing.
use mathlib.Core.Path.{◌≡◌, refl, sym, ap, ap₂, ◌∙◌}
use mathlib.Core.Logic.{◌⊎◌, inl, inr}
use mathlib.Core.Bool.{Bool, true, false, not}
use mathlib.Core.List.{List, [], ◌∷◌}
use Prim.Native.Nat.{ℕ, zero, suc, ◌+◌, ◌-◌, ◌≤◌, ◌<◌, min}
use native.Mathlib.Nat.{le_refl}
use native.Mathlib.Omega.{arith}
use lib.Dec.{leb, ltb, eqb, eqb-suc-zero, leb-suc-suc}
use lib.ListN.{length, get_or, set, length-set, get_or-eq_default}
use lib.Seq.{get_or-set_same, get_or-set_other}
use borrow.Author.Tests.{leb-true, leb-false, le-leb, lt-leb, lt-ltb, le-ltb, ltb-true, ltb-false, eqb-true, eqb-false, eq-eqb, ne_eqb}
use Rattle.recording.specs.Tests.{◌and◌, ◌or◌, pick, one, all_of}
use Rattle.recording.specs.Weeks.{week_start}
use Rattle.recording.specs.declared.Span.{Span}
use Rattle.recording.proofs.TestLaws.{less_or_not, one_most}
use Rattle.rules.specs.Broken.{unless}
use Rattle.rules.specs.Reading.{Entry, minutes, regular_minutes, weekly_kind, as_read, is_weekly, reduction_of, kind_of, standing_of}
use Rattle.rules.specs.ReadingRules.{least_net, weeks_to_compensate, deadline, end_of, by_deadline, settles, compensated, shortened_at_most, rule9_from, in_gap, rule10_from}
use Rattle.rules.specs.declared.Kind.{Kind}
use Rattle.rules.specs.declared.Kind.TheVariants.{Daily, Weekly}
use Rattle.rules.specs.declared.Standing.TheVariants.{Regular, Reduced}
use Rattle.rules_items.specs.Items.{end_at, time_by, smaller, short_after, broken_by, Tallied, tally_by, added_to, incremented, spans_from, spans_in, test_from}

-- ---- the smaller of two rules, by tests
pub smaller_tests : (a b : ℕ) → smaller a b ≡ pick (eqb a 0) b (pick (eqb b 0) a (pick (leb a b) a b))
smaller_tests zero b = refl
smaller_tests (suc a) zero = rw (eqb-suc-zero a) refl
smaller_tests (suc a) (suc b) = rw (eqb-suc-zero a, eqb-suc-zero b, leb-suc-suc a b) refl

-- ---- the smaller of two broken rules: each is 0 or past the rules that are read before it
abbrev Past : ℕ → ℕ → Type 0
Past n x = (x ≡ 0) ⊎ (n < x)

past_unless : (m n : ℕ) (b : Bool) (x : ℕ) → m < n → Past n x → Past m (unless b n x)
past_unless m n true x h (inl e) = inl e
past_unless m n true x h (inr l) = inr (omega arith)
past_unless m n false x h p = inr h

smaller_first : (n y : ℕ) → Past (suc n) y → smaller (suc n) y ≡ suc n
smaller_first n zero p = refl
smaller_first n (suc y) (inl e) = absurd (omega arith)
smaller_first n (suc y) (inr l) = rw (le-leb n y (omega arith)) refl

smaller_second : (n x : ℕ) → Past (suc n) x → smaller x (suc n) ≡ suc n
smaller_second n zero p = refl
smaller_second n (suc x) (inl e) = absurd (omega arith)
smaller_second n (suc x) (inr l) = rw (lt-leb x n (omega arith)) refl

unless_both : (n : ℕ) (r t : Bool) (x y z : ℕ) → Past (suc n) x → Past (suc n) y → z ≡ smaller x y
    → unless (r and t) (suc n) z ≡ smaller (unless r (suc n) x) (unless t (suc n) y)
unfolding ◌and◌
unless_both n true true x y z p q e = e
unless_both n true false x y z p q e = sym (smaller_second n x p)
unless_both n false true x y z p q e = sym (smaller_first n y q)
unless_both n false false x y z p q e = sym (rw (le-leb n n (le_refl _)) refl)

-- ---- the smaller rule, of three
smaller-min : (a b : ℕ) → smaller (suc a) (suc b) ≡ suc (min a b)
smaller-min a b = at (leb a b) refl
  where
    at : (t : Bool) → leb a b ≡ t → pick t (suc a) (suc b) ≡ suc (min a b)
    at true e = omega (arith, leb-true a b e)
    at false e = omega (arith, leb-false a b e)

smaller_assoc : (a b c : ℕ) → smaller (smaller a b) c ≡ smaller a (smaller b c)
smaller_assoc zero b c = refl
smaller_assoc (suc a) zero c = refl
smaller_assoc (suc a) (suc b) zero = ap (λ (x : ℕ). smaller x 0) (smaller-min a b) ∙ sym (smaller-min a b)
smaller_assoc (suc a) (suc b) (suc c) =
    ap (λ (x : ℕ). smaller x (suc c)) (smaller-min a b) ∙ smaller-min (min a b) c ∙ omega arith
    ∙ sym (ap (smaller (suc a)) (smaller-min b c) ∙ smaller-min a (min b c))

three : (r8 r9 r10 t8 t9 t10 : Bool)
    → unless (r8 and t8) 8 (unless (r9 and t9) 9 (unless (r10 and t10) 10 0))
    ≡ smaller (unless r8 8 (unless r9 9 (unless r10 10 0))) (unless t8 8 (unless t9 9 (unless t10 10 0)))
three r8 r9 r10 t8 t9 t10 =
    let p10 : (b : Bool) → Past 9 (unless b 10 0) = λ b. past_unless 9 10 b 0 (omega arith) (inl refl) in
    let p9 : (a b : Bool) → Past 8 (unless a 9 (unless b 10 0)) = λ a b. past_unless 8 9 a _ (omega arith) (p10 b) in
    unless_both 7 r8 t8 _ _ _ (p9 r9 r10) (p9 t9 t10)
    (unless_both 8 r9 t9 _ _ _ (p10 r10) (p10 t10)
    (unless_both 9 r10 t10 0 0 0 (inl refl) (inl refl) refl))

-- ---- rule 8, as the code asks it
by_test : (b : Bool) (s : ℕ) (rs : List Span) (c deadline : ℕ) → pick b (ltb s deadline) (leb (end_of rs c) deadline) ≡ by_deadline b s rs c deadline
by_test true s rs c deadline = refl
by_test false s rs c deadline = refl

time_settles : (m : Kind) (s : ℕ) (rs : List Span) (week c : ℕ) → time_by m week c (end_of rs c) s ≡ settles m s rs c (week_start (week + weeks_to_compensate))
time_settles Daily s rs week c = refl
time_settles (Weekly Regular) s rs week c = refl
time_settles (Weekly (Reduced d)) s rs week c = by_test (eqb c 0) s rs c (week_start (week + weeks_to_compensate))

pub test_next : (counts : Entry → Bool) (s : ℕ) (rs : List Span) (t : Tallied) (e : Entry) (es : List Entry)
    → test_from counts s rs t (e ∷ es) ≡ test_from counts s rs (tally_by (counts e) s (end_of rs e.compensated_by) t e) es
unfolding test_from tally_by broken_by all_of rule9_from rule10_from short_after compensated
test_next counts s rs t e es =
    let t8 = time_by (as_read e) e.week e.compensated_by (end_of rs e.compensated_by) s in
    let t9 = leb (short_after (counts e) t.short e) shortened_at_most in
    let t10 = not (is_weekly (as_read e)) or in_gap t.last e.span.start in
    let r8 = all_of (compensated s rs) es in
    let r9 = rule9_from counts (short_after (counts e) t.short e) es in
    let r10 = rule10_from (pick (is_weekly (as_read e)) e.span.end t.last) s es in
    ap (smaller t.rule)
    (ap (λ (b : Bool). unless (b and r8) 8 (unless (t9 and r9) 9 (unless (t10 and r10) 10 0))) (sym (time_settles (as_read e) s rs e.week e.compensated_by))
    ∙ three t8 t9 t10 r8 r9 r10)
    ∙ sym (smaller_assoc t.rule (unless t8 8 (unless t9 9 (unless t10 10 0))) (unless r8 8 (unless r9 9 (unless r10 10 0))))

-- ---- where the rest of a number ends
end_from_law : (starts ends : List ℕ) (i n c : ℕ) → end_of (spans_from starts ends i n) (suc c) ≡ pick (ltb c n) (get_or ends (i + c) 0) 0
unfolding end_of spans_from
end_from_law starts ends i zero c = rw (le-ltb c 0 (omega arith)) refl
end_from_law starts ends i (suc n) zero =
    let e : i ≡ i + 0 = omega arith in
    rw (lt-ltb 0 (suc n) (omega arith)) (ap (λ (x : ℕ). get_or ends x 0) e)
end_from_law starts ends i (suc n) (suc c) =
    let e : suc i + c ≡ i + suc c = omega arith in
    end_from_law starts ends (suc i) n c ∙ ap₂ (λ (b : Bool) (x : ℕ). pick b (get_or ends x 0) 0) (same (ltb c n) refl) e
  where
    same : (b : Bool) → ltb c n ≡ b → b ≡ ltb (suc c) (suc n)
    same true t = sym (lt-ltb (suc c) (suc n) (omega (arith, ltb-true c n t)))
    same false t = sym (le-ltb (suc c) (suc n) (omega (arith, ltb-false c n t)))

end_zero : (rs : List Span) → end_of rs 0 ≡ 0
unfolding end_of
end_zero [] = refl
end_zero (r ∷ rs) = refl

pub end_of_spans : (starts ends : List ℕ) (k c : ℕ) → end_at ends k c ≡ end_of (spans_in starts ends k) c
end_of_spans starts ends k zero = sym (end_zero (spans_in starts ends k))
end_of_spans starts ends k (suc c) =
    let e : c ≡ 0 + c = omega arith in
    ap (λ (x : ℕ). pick (ltb c k) (get_or ends x 0) 0) e ∙ sym (end_from_law starts ends 0 k c)

-- ---- a payment, and a rest counted
set_at : (xs : List ℕ) (c v j : ℕ) → j < length xs → get_or (set xs c (get_or xs c 0 + v)) j 0 ≡ pick (eqb c j) v 0 + get_or xs j 0
set_at xs c v j h = at (eqb c j) refl
  where
    at : (b : Bool) → eqb c j ≡ b → get_or (set xs c (get_or xs c 0 + v)) j 0 ≡ pick b v 0 + get_or xs j 0
    at true e =
        let q : c ≡ j = eqb-true c j e in
        rw q (get_or-set_same xs j (get_or xs j 0 + v) 0 h ∙ omega arith)
    at false e = get_or-set_other xs c j (get_or xs c 0 + v) 0 (λ q. eqb-false c j e (sym q)) ∙ omega arith

same_suc : (c j : ℕ) → eqb c j ≡ eqb (suc c) (suc j)
same_suc c j = at (eqb c j) refl
  where
    at : (b : Bool) → eqb c j ≡ b → b ≡ eqb (suc c) (suc j)
    at true e = sym (eq-eqb (suc c) (suc j) (ap suc (eqb-true c j e)))
    at false e = sym (ne_eqb (suc c) (suc j) (λ q. eqb-false c j e (omega arith)))

pub added_to-at : (compensations : List ℕ) (c d j : ℕ) → j < length compensations → get_or (added_to compensations c d) j 0 ≡ pick (eqb c (suc j)) d 0 + get_or compensations j 0
added_to-at compensations zero d j h = rw (ne_eqb 0 (suc j) (λ q. omega arith)) (omega arith)
added_to-at compensations (suc c) d j h = set_at compensations c d j h ∙ ap (λ (b : Bool). pick b d 0 + get_or compensations j 0) (same_suc c j)

pub added_to-length : (compensations : List ℕ) (c d : ℕ) → length (added_to compensations c d) ≡ length compensations
added_to-length compensations zero d = refl
added_to-length compensations (suc c) d = length-set compensations c _

pick_le : (b : Bool) (d n : ℕ) → d ≤ n → pick b d 0 ≤ n
pick_le true d n h = h
pick_le false d n h = omega arith

pub added_to-below : (compensations : List ℕ) (c d n m : ℕ) → ((i : ℕ) → get_or compensations i 0 ≤ n) → d ≤ m → (i : ℕ) → get_or (added_to compensations c d) i 0 ≤ n + m
added_to-below compensations c d n m f h i = at (less_or_not i (length compensations))
  where
    at : (i < length compensations) ⊎ (length compensations ≤ i) → get_or (added_to compensations c d) i 0 ≤ n + m
    at (inl l) = omega (arith, added_to-at compensations c d i l, f i, pick_le (eqb c (suc i)) d m h)
    at (inr l) = omega (arith, get_or-eq_default (added_to compensations c d) 0 {n = i} (rw (added_to-length compensations c d) l))

pub incremented_at : (b : Bool) (counts : List ℕ) (w v : ℕ) → v < length counts → get_or (incremented b counts w) v 0 ≡ one (b and eqb w v) + get_or counts v 0
unfolding ◌and◌
incremented_at true counts w v h = set_at counts w 1 v h ∙ ap (λ (n : ℕ). n + get_or counts v 0) (as_one (eqb w v))
  where
    as_one : (b : Bool) → pick b 1 0 ≡ one b
    as_one true = refl
    as_one false = refl
incremented_at false counts w v h = omega arith

pub incremented-length : (b : Bool) (counts : List ℕ) (w : ℕ) → length (incremented b counts w) ≡ length counts
incremented-length true counts w = length-set counts w _
incremented-length false counts w = refl

pub incremented_below : (b : Bool) (counts : List ℕ) (w n : ℕ) → ((i : ℕ) → get_or counts i 0 ≤ n) → (i : ℕ) → get_or (incremented b counts w) i 0 ≤ n + 1
incremented_below b counts w n f i = at (less_or_not i (length counts))
  where
    at : (i < length counts) ⊎ (length counts ≤ i) → get_or (incremented b counts w) i 0 ≤ n + 1
    at (inl l) = omega (arith, incremented_at b counts w i l, f i, one_most (b and eqb w i))
    at (inr l) = omega (arith, get_or-eq_default (incremented b counts w) 0 {n = i} (rw (incremented-length b counts w) l))

-- ---- a rest that is long enough is reduced by no more than a regular one has
pub is_outstanding-little : (e : Entry) → leb (least_net (as_read e) + e.compensation) (minutes e) ≡ true → reduction_of (as_read e) ≤ regular_minutes
unfolding as_read
is_outstanding-little e t = at (eqb e.kind weekly_kind) (ltb (minutes e) (regular_minutes + e.compensation)) t
  where
    at : (a b : Bool) → leb (least_net (kind_of a (standing_of b (regular_minutes + e.compensation - minutes e))) + e.compensation) (minutes e) ≡ true
        → reduction_of (kind_of a (standing_of b (regular_minutes + e.compensation - minutes e))) ≤ regular_minutes
    at false b u = omega arith
    at true false u = omega arith
    at true true u = omega (arith, leb-true _ (minutes e) u)
