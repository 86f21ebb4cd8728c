-- Rules 6 to 11 hold of each stretch, for the reading restricted to its long rests.
-- Assumes nothing.
use mathlib.Core.Path.{◌≡◌, refl, sym, ap, ap₂, ◌∙◌}
use mathlib.Core.Logic.{◌⊎◌, inl, inr}
use mathlib.Core.Bool.{Bool, true, false, not}
use mathlib.Core.List.{List, [], ◌∷◌, ◌++◌, map, Memᴰ as In}
use Prim.Native.Nat.{ℕ, zero, suc, ◌+◌, ◌≤◌, ◌<◌}
use native.Mathlib.Nat.{le_refl, le_trans}
use native.Mathlib.Omega.{arith}
use lib.Dec.{leb, ltb, eqb}
use lib.ListN.{length, drop, get_or}
use lib.Seq.{take-append-le}
use borrow.Author.Tests.{leb-true, leb-false, le-leb, ltb-true, lt-ltb, eqb-true, eqb-false, ne_eqb}
use Rattle.recording.specs.Tests.{◌and◌, ◌or◌, pick, one, all_of, count_of}
use Rattle.recording.specs.Rests.{judged_end, closed_rests}
use Rattle.recording.specs.Weeks.{week_start, is_rest, touches, rest_only}
use Rattle.recording.specs.declared.Span.{Span}
use Rattle.recording.proofs.TestLaws.{and_left, and_right, and_both, or_cases, or_left, or_right, or_else, is_false, below_at, at_below}
use Rattle.recording.proofs.LongRests.{Ordered, none, next}
use Rattle.rules.specs.Reading.{Entry, daily_kind, weekly_kind, as_read, is_weekly, is_regular, reduction_of, compensation_of, entry_fields, entry_of, entries_from, up_to, restrict_from}
use Rattle.rules.specs.ReadingRules.{formed_daily, formed_weekly, formed, long_enough, deadline, end_of, by_deadline, settles, compensated, weekly_gap, in_gap}
use Rattle.rules.specs.ReadingRules.{portion_under, day_before, full_portion, second_period, shortened, shortened_at_most, rule9_from}
use Rattle.rules.specs.ReadingRules.{rule10_from, of_kind, counted_in, enough_in, rule11}
use Rattle.rules.specs.declared.Kind.{Kind}
use Rattle.rules.specs.declared.Kind.TheVariants.{Daily, Weekly}
use Rattle.rules.specs.declared.Standing.TheVariants.{Regular, Reduced}
use Rattle.rules.proofs.RuleLaws.{rule9_same}
use Rattle.rules.proofs.SplitDays.{split_stretch}

-- ---- entries: the same but for a carrier past the k-th rest
abbrev pub cut : ℕ → Entry → Entry
cut k e = record {
  number = e.number;
  before = e.before;
  span = e.span;
  kind = e.kind;
  week = e.week;
  compensated_by = up_to k e.compensated_by;
  compensation = e.compensation;
}

up_to_same : (c k j : ℕ) (b : Bool) → leb c k ≡ b → 1 ≤ j → j ≤ k → eqb (pick b c 0) j ≡ eqb c j
up_to_same c k j true t h l = refl
up_to_same c k j false t h l = ne_eqb 0 j (λ e. omega arith) ∙ sym (ne_eqb c j (λ e. omega (arith, leb-false c k t)))

compensation_cut : (k j : ℕ) (es : List Entry) → 1 ≤ j → j ≤ k → compensation_of j (map (cut k) es) ≡ compensation_of j es
unfolding compensation_of as_read
compensation_cut k j [] h l = refl
compensation_cut k j (e ∷ es) h l =
    ap₂ ◌+◌ (ap (λ (b : Bool). pick b (reduction_of (as_read e)) 0) (up_to_same e.compensated_by k j _ refl h l)) (compensation_cut k j es h l)

pub entries_cut : (k n p : ℕ) (earlier : List Entry) (rs : List Span) (fields : List ℕ) → 1 ≤ n → n + length rs ≤ suc k
    → entries_from n p (map (cut k) earlier) rs (restrict_from k (length rs) fields) ≡ map (cut k) (entries_from n p earlier rs fields)
unfolding entries_from restrict_from
entries_cut k n p earlier [] fields h l = refl
entries_cut k n p earlier (r ∷ rs) fields h l =
    let q : compensation_of n (map (cut k) earlier) ≡ compensation_of n earlier = compensation_cut k n earlier h (omega arith) in
    let f : ℕ → Entry = λ z. record {
      number = n;
      before = p;
      span = r;
      kind = get_or fields 0 0;
      week = get_or fields 1 0;
      compensated_by = up_to k (get_or fields 2 0);
      compensation = z;
    } in
    (λ i. f (q i) ∷ entries_from (suc n) r.end (f (q i) ∷ map (cut k) earlier) rs (restrict_from k (length rs) (drop entry_fields fields)))
    ∙ ap (λ (es : List Entry). f (compensation_of n earlier) ∷ es)
    (entries_cut k (suc n) r.end (entry_of n p earlier r fields ∷ earlier) rs (drop entry_fields fields) (omega arith) (omega arith))

-- ---- the entries past the stretch: each starts at s or later
pub data Starts (s : ℕ) : List Entry → Type 0 where
  nil : Starts s []
  cons : {e : Entry} {es : List Entry} → s ≤ e.span.start → Starts s es → Starts s (e ∷ es)

starts : {to : ℕ} (s n p : ℕ) (earlier : List Entry) (fields : List ℕ) {from : ℕ} {qs : List Span} → s ≤ from → Ordered to from qs → Starts s (entries_from n p earlier qs fields)
unfolding entries_from
starts s n p earlier fields h none = nil
starts s n p earlier fields h (next {r = r} l m e o) =
    cons (le_trans h l) (starts s (suc n) r.end (entry_of n p earlier r fields ∷ earlier) (drop entry_fields fields) (omega arith) o)

pub record Parts (s n p : ℕ) (earlier : List Entry) (rs qs : List Span) (fields : List ℕ) : Type 0 where
  pub later : List Entry
  pub joined : entries_from n p earlier (rs ++ qs) fields ≡ entries_from n p earlier rs fields ++ later
  pub starting : Starts s later

pub parts : (s n p : ℕ) (earlier : List Entry) (rs : List Span) (fields : List ℕ) {to : ℕ} {qs : List Span} → Ordered to s qs → Parts s n p earlier rs qs fields
unfolding entries_from
parts s n p earlier [] fields {qs = qs} o =
    record { later = entries_from n p earlier qs fields; joined = refl; starting = starts s n p earlier fields (le_refl _) o }
parts s n p earlier (r ∷ rs) fields o =
    let i = parts s (suc n) r.end (entry_of n p earlier r fields ∷ earlier) rs (drop entry_fields fields) o in
    record { later = i.later; joined = ap (λ (es : List Entry). entry_of n p earlier r fields ∷ es) i.joined; starting = i.starting }

-- ---- a test at every entry, with another that is known of it
pub all_cut : (k : ℕ) (f g h : Entry → Bool) → ((e : Entry) → g e ≡ true → h e ≡ true → f (cut k e) ≡ true)
    → (es fs : List Entry) → all_of g (es ++ fs) ≡ true → all_of h (es ++ fs) ≡ true → all_of f (map (cut k) es) ≡ true
unfolding all_of
all_cut k f g h m [] fs s t = refl
all_cut k f g h m (e ∷ es) fs s t =
    and_both _ _ (m e (and_left _ _ s) (and_left _ _ t)) (all_cut k f g h m es fs (and_right _ _ s) (and_right _ _ t))

-- ---- rule 6
cut_zero : (c : ℕ) (b : Bool) → eqb c 0 ≡ true → eqb (pick b c 0) 0 ≡ true
cut_zero c true t = t
cut_zero c false t = refl

carrier_cut : (k K n c : ℕ) (b : Bool) → leb c k ≡ b → eqb c 0 or (ltb n c and leb c K) ≡ true
    → eqb (pick b c 0) 0 or (ltb n (pick b c 0) and leb (pick b c 0) k) ≡ true
carrier_cut k K n c false q t = or_left _ _ refl
carrier_cut k K n c true q t = at (or_cases _ _ t)
  where
    at : (eqb c 0 ≡ true) ⊎ (ltb n c and leb c K ≡ true) → eqb c 0 or (ltb n c and leb c k) ≡ true
    at (inl z) = or_left _ _ z
    at (inr u) = or_right _ _ (and_both _ _ (and_left _ _ u) q)

pub formed-cut : (k K : ℕ) (e : Entry) → formed K e ≡ true → formed k (cut k e) ≡ true
unfolding formed formed_daily formed_weekly
formed-cut k K e t = at (or_cases (formed_daily e) (formed_weekly K e) t)
  where
    at : (formed_daily e ≡ true) ⊎ (formed_weekly K e ≡ true) → formed_daily (cut k e) or formed_weekly k (cut k e) ≡ true
    at (inl d) = or_left _ _ (and_both _ _ (and_left _ _ d) (cut_zero e.compensated_by (leb e.compensated_by k) (and_right _ _ d)))
    at (inr w) = or_right _ _ (and_both _ _ (and_left _ _ w) (carrier_cut k K e.number e.compensated_by _ refl (and_right _ _ w)))

-- ---- rule 7
pub long_cut : (k : ℕ) (e : Entry) → long_enough e ≡ true → long_enough (cut k e) ≡ true
unfolding long_enough as_read
long_cut k e t = t

-- ---- rule 8: where a carrier ends
end_in : (rs qs : List Span) (c : ℕ) → c ≤ length rs → 1 ≤ c → end_of (rs ++ qs) c ≡ end_of rs c
unfolding end_of
end_in [] qs c h l = absurd (omega arith)
end_in (r ∷ rs) qs zero h l = refl
end_in (r ∷ rs) qs (suc zero) h l = refl
end_in (r ∷ rs) qs (suc (suc c)) h l = end_in rs qs (suc c) (omega arith) (omega arith)

end_past : (s : ℕ) {to from : ℕ} {qs : List Span} (c : ℕ) → Ordered to from qs → s ≤ from → 1 ≤ c → c ≤ length qs → s < end_of qs c
unfolding end_of
end_past s c none g h l = absurd (omega arith)
end_past s zero (next a b d o) g h l = absurd (omega arith)
end_past s (suc zero) (next a b d o) g h l = omega arith
end_past s (suc (suc c)) (next a b d o) g h l = end_past s (suc c) o (omega arith) (omega arith) (omega arith)

end_out : (s : ℕ) (rs : List Span) {to : ℕ} {qs : List Span} (c : ℕ) → Ordered to s qs → length rs < c → c ≤ length (rs ++ qs) → s < end_of (rs ++ qs) c
unfolding end_of
end_out s [] c o h l = end_past s c o (le_refl _) h l
end_out s (r ∷ rs) zero o h l = absurd (omega arith)
end_out s (r ∷ rs) (suc zero) o h l = absurd (omega arith)
end_out s (r ∷ rs) (suc (suc c)) o h l = end_out s rs (suc c) o (omega arith) (omega arith)

-- a carrier of the right form is no more than the number of long rests
carrier_at_most : (K c n : ℕ) → (eqb c 0 ≡ true) ⊎ (ltb n c and leb c K ≡ true) → c ≤ K
carrier_at_most K c n (inl z) = omega (arith, eqb-true c 0 z)
carrier_at_most K c n (inr u) = leb-true c K (and_right _ _ u)

pub carrier_le : (K : ℕ) (e : Entry) → formed K e ≡ true → e.compensated_by ≤ K
unfolding formed formed_daily formed_weekly
carrier_le K e t = at (or_cases (formed_daily e) (formed_weekly K e) t)
  where
    at : (formed_daily e ≡ true) ⊎ (formed_weekly K e ≡ true) → e.compensated_by ≤ K
    at (inl d) = carrier_at_most K e.compensated_by e.number (inl (and_right _ _ d))
    at (inr w) = carrier_at_most K e.compensated_by e.number (or_cases _ _ (and_right _ _ w))

module _ (s' s : ℕ) (rs qs : List Span) {to : ℕ} (less : s' ≤ s) (o : Ordered to s' qs) where
  deadline_cut : (c due : ℕ) (z b : Bool) → eqb c 0 ≡ z → leb c (length rs) ≡ b → c ≤ length (rs ++ qs)
      → by_deadline z s (rs ++ qs) c due ≡ true → by_deadline (eqb (pick b c 0) 0) s' rs (pick b c 0) due ≡ true
  deadline_cut c due true true z q l t = rw z (lt-ltb s' due (omega (arith, ltb-true s due t)))
  deadline_cut c due true false z q l t = lt-ltb s' due (omega (arith, ltb-true s due t))
  deadline_cut c due false true z q l t =
      let p : 1 ≤ c = omega (arith, eqb-false c 0 z) in
      rw z (rw (end_in rs qs c (leb-true c (length rs) q) p) at t)
  deadline_cut c due false false z q l t =
      lt-ltb s' due (omega (arith, end_out s' rs c o (leb-false c (length rs) q) l, leb-true (end_of (rs ++ qs) c) due t))

  settles_cut : (m : Kind) (c due : ℕ) → c ≤ length (rs ++ qs) → settles m s (rs ++ qs) c due ≡ true → settles m s' rs (up_to (length rs) c) due ≡ true
  settles_cut Daily c due l t = refl
  settles_cut (Weekly Regular) c due l t = cut_zero c (leb c (length rs)) t
  settles_cut (Weekly (Reduced d)) c due l t = deadline_cut c due _ _ refl refl l t

  pub compensated-cut : (e : Entry) → formed (length (rs ++ qs)) e ≡ true → compensated s (rs ++ qs) e ≡ true → compensated s' rs (cut (length rs) e) ≡ true
  unfolding compensated as_read
  compensated-cut e g t = settles_cut (as_read e) e.compensated_by (deadline e) (carrier_le _ e g) t

-- ---- rule 9
-- which daily rests count is the same in the stretch
pub counts_cut : (k : ℕ) (xs ys : List ℕ) (e : Entry) → e.span.start ≤ judged_end xs → shortened (closed_rests (xs ++ ys)) e ≡ shortened (closed_rests xs) (cut k e)
unfolding shortened as_read portion_under
counts_cut k xs ys e h =
    ap (λ (b : Bool). not (is_weekly (as_read e)) and portion_under full_portion e and not (not (portion_under second_period e) and b)) (split_stretch xs ys (day_before e) h)

first9 : (g : Entry → Bool) (n : ℕ) (es fs : List Entry) → rule9_from g n (es ++ fs) ≡ true → rule9_from g n es ≡ true
unfolding rule9_from
first9 g n [] fs t = refl
first9 g n (e ∷ es) fs t = and_both _ _ (and_left _ _ t) (first9 g (pick (is_weekly (as_read e)) 0 (n + one (g e))) es fs (and_right _ _ t))

cut9 : (f : Entry → Bool) (k n : ℕ) (es : List Entry) → rule9_from f n (map (cut k) es) ≡ rule9_from (λ e. f (cut k e)) n es
unfolding rule9_from as_read
cut9 f k n [] = refl
cut9 f k n (e ∷ es) =
    let m = pick (is_weekly (as_read e)) 0 (n + one (f (cut k e))) in
    ap (λ (b : Bool). leb m shortened_at_most and b) (cut9 f k m es)

pub prefix9 : (f g : Entry → Bool) (k n : ℕ) (es fs : List Entry) → ((e : Entry) → In e es → g e ≡ f (cut k e)) → rule9_from g n (es ++ fs) ≡ true
    → rule9_from f n (map (cut k) es) ≡ true
prefix9 f g k n es fs same t = cut9 f k n es ∙ sym (rule9_same g (λ e. f (cut k e)) n es (λ e i d. same e i)) ∙ first9 g n es fs t

-- ---- rule 10: to an earlier judged end, or to a weekly rest that starts there or later, is no further
gap_less : (q s' s : ℕ) → s' ≤ s → in_gap q s ≡ true → in_gap q s' ≡ true
gap_less q s' s h t = le-leb s' (q + weekly_gap) (omega (arith, leb-true s (q + weekly_gap) t))

gap_next : (b : Bool) (q s' a z : ℕ) (later : ℕ → Bool) → s' ≤ a → (later q ≡ true → in_gap q s' ≡ true)
    → not b or in_gap q a ≡ true → later (pick b z q) ≡ true → in_gap q s' ≡ true
gap_next true q s' a z later l i u v = gap_less q s' a l (or_else _ _ refl u)
gap_next false q s' a z later l i u v = i v

gap_past : (q s' s : ℕ) {fs : List Entry} → s' ≤ s → Starts s' fs → rule10_from q s fs ≡ true → in_gap q s' ≡ true
unfolding rule10_from
gap_past q s' s h nil t = gap_less q s' s h t
gap_past q s' s h (cons {e = e} {es = fs} l f) t =
    gap_next (is_weekly (as_read e)) q s' e.span.start e.span.end (λ x. rule10_from x s fs) l (λ v. gap_past q s' s h f v) (and_left _ _ t) (and_right _ _ t)

pub prefix10 : (k q s' s : ℕ) (es : List Entry) {fs : List Entry} → s' ≤ s → Starts s' fs → rule10_from q s (es ++ fs) ≡ true → rule10_from q s' (map (cut k) es) ≡ true
unfolding rule10_from as_read
prefix10 k q s' s [] h f t = gap_past q s' s h f t
prefix10 k q s' s (e ∷ es) h f t = and_both _ _ (and_left _ _ t) (prefix10 k (pick (is_weekly (as_read e)) e.span.end q) s' s es h f (and_right _ _ t))

-- ---- rule 11
pub rest_only_prefix : (xs ys : List ℕ) (w : ℕ) → week_start (w + 1) ≤ length xs → rest_only xs w ≡ rest_only (xs ++ ys) w
unfolding rest_only
rest_only_prefix xs ys w h = sym (ap (λ (l : List ℕ). all_of is_rest (drop (week_start w) l)) (take-append-le (week_start (w + 1)) xs ys h))

-- an entry of the right form that is read as weekly has a minute in its week
pub record InItsWeek (e : Entry) : Type 0 where
  pub from : e.span.start < week_start (e.week + 1)
  pub upto : week_start e.week < e.span.end

as_weekly : (e : Entry) (b : Bool) → eqb e.kind weekly_kind ≡ b → is_weekly (as_read e) ≡ true → b ≡ true
unfolding as_read
as_weekly e true q t = refl
as_weekly e false q t = rw q at t

pub in_its_week : (k : ℕ) (e : Entry) → formed k e ≡ true → is_weekly (as_read e) ≡ true → InItsWeek e
unfolding formed formed_daily formed_weekly touches
in_its_week k e g t = at (or_cases (formed_daily e) (formed_weekly k e) g)
  where
    at : (formed_daily e ≡ true) ⊎ (formed_weekly k e ≡ true) → InItsWeek e
    at (inl d) =
        let d1 = and_left _ _ d in
        absurd (omega (arith, eqb-true e.kind daily_kind (and_left _ _ d1), eqb-true e.kind weekly_kind (as_weekly e _ refl t)))
    at (inr v) =
        let v1 = and_left _ _ v in
        let v2 = and_right _ _ v1 in
        record { from = ltb-true _ _ (and_left _ _ v2); upto = ltb-true _ _ (and_right _ _ v2) }

module _ (K w : ℕ) (f : Kind → Bool) (weekly : (m : Kind) → f m ≡ true → is_weekly m ≡ true) (s : ℕ) (h : week_start (w + 1) ≤ s) where
  -- an entry of the right form that starts at s or later is counted in no week that ends by s
  not_counted : (e : Entry) → s ≤ e.span.start → formed K e ≡ true → of_kind f w e ≡ true → ⊥
  unfolding of_kind
  not_counted e l g t =
      let i = in_its_week K e g (weekly (as_read e) (and_left _ _ t)) in
      omega (arith, i.from, eqb-true e.week w (and_right _ _ t))

  pub none_counted : {fs : List Entry} → Starts s fs → all_of (formed K) fs ≡ true → count_of (of_kind f w) fs ≡ 0
  unfolding count_of all_of
  none_counted nil g = refl
  none_counted (cons {e = e} l st) g =
      rw (is_false (of_kind f w e) (λ t. not_counted e l (and_left _ _ g) t)) (omega (arith, none_counted st (and_right _ _ g)))

  count_cut : (k : ℕ) (es : List Entry) {fs : List Entry} → Starts s fs → all_of (formed K) (es ++ fs) ≡ true
      → count_of (of_kind f w) (map (cut k) es) ≡ count_of (of_kind f w) (es ++ fs)
  unfolding count_of all_of of_kind as_read
  count_cut k [] st g = sym (none_counted st g)
  count_cut k (e ∷ es) st g = ap (λ (n : ℕ). one (of_kind f w e) + n) (count_cut k es st (and_right _ _ g))

  counted_cut : (k : ℕ) (p q : ℕ → Bool) → p w ≡ q w → (es : List Entry) {fs : List Entry} → Starts s fs → all_of (formed K) (es ++ fs) ≡ true
      → counted_in f p (map (cut k) es) w ≡ counted_in f q (es ++ fs) w
  unfolding counted_in
  counted_cut k p q e es st g = ap₂ (λ (b : Bool) (n : ℕ). pick b 1 n) e (count_cut k es st g)

pub regular_weekly : (m : Kind) → is_regular m ≡ true → is_weekly m ≡ true
regular_weekly Daily t = t
regular_weekly (Weekly s) t = refl

-- a pair of weeks that ends by S has enough; the pairs that do not are not asked
pub pair_enough : (p : ℕ → Bool) (s : ℕ) (es : List Entry) → rule11 p s es ≡ true → (w : ℕ) → week_start (w + 2) ≤ s → enough_in p es w ≡ true
unfolding rule11
pair_enough p s es t w h =
    let u = below_at _ _ t w (omega arith) in
    or_else _ _ (rw (le-leb (week_start (w + 2)) s h)) u

pub pairs_enough : (p : ℕ → Bool) (s : ℕ) (es : List Entry) → ((w : ℕ) → week_start (w + 2) ≤ s → enough_in p es w ≡ true) → rule11 p s es ≡ true
unfolding rule11
pairs_enough p s es f = at_below _ _ (λ w l. go w _ refl)
  where
    go : (w : ℕ) (b : Bool) → leb (week_start (w + 2)) s ≡ b → not b or enough_in p es w ≡ true
    go w true e = or_right _ _ (f w (leb-true (week_start (w + 2)) s e))
    go w false e = or_left _ _ refl

pub prefix11 : (K k s' s : ℕ) (p q : ℕ → Bool) → ((w : ℕ) → week_start (w + 1) ≤ s' → p w ≡ q w) → (es : List Entry) {fs : List Entry}
    → s' ≤ s → Starts s' fs → all_of (formed K) (es ++ fs) ≡ true → rule11 q s (es ++ fs) ≡ true → rule11 p s' (map (cut k) es) ≡ true
unfolding enough_in
prefix11 K k s' s p q same es {fs} h st g t =
    pairs_enough p s' (map (cut k) es) (λ w u.
    let a : week_start (w + 1) ≤ s' = omega arith in
    let b : week_start (w + 1 + 1) ≤ s' = omega arith in
    let v = pair_enough q s (es ++ fs) t w (le_trans u h) in
    let c0 = counted_cut K w is_weekly (λ m z. z) s' a k p q (same w a) es st g in
    let c1 = counted_cut K (w + 1) is_weekly (λ m z. z) s' b k p q (same (w + 1) b) es st g in
    let r0 = counted_cut K w is_regular regular_weekly s' a k p q (same w a) es st g in
    let r1 = counted_cut K (w + 1) is_regular regular_weekly s' b k p q (same (w + 1) b) es st g in
    and_both _ _ (rw (c0, c1) (and_left _ _ v)) (rw (r0, r1) (and_right _ _ v)))
