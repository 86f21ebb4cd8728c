-- Document 02, request 6, laws of the definition: every span of the weeks is judged, the list has just those that are a breach while no shorter span inside
-- them is one, by first week, then last, and none twice. Assumes nothing.
use mathlib.Core.Path.{◌≡◌, refl, sym, ap, subst, ◌∙◌}
use mathlib.Core.Logic.{◌⊎◌, inl, inr}
use mathlib.Core.Bool.{Bool, true, false, not}
use mathlib.Core.List.Memᴰ
use mathlib.Core.List.Memᴰ.{head as here}
use mathlib.Core.List.Memᴰ.{tail as there}
use mathlib.Core.List.{List, [], ◌∷◌, ◌++◌, Memᴰ as In}
use mathlib.Core.Option.{Option, none, some}
use Prim.Native.Nat.{ℕ, zero, suc, ◌+◌, ◌-◌, ◌*◌, ◌≤◌, ◌<◌}
use native.Mathlib.Nat.{eq-or-lt_of_le, le_refl, zero-add, suc-add}
use native.Mathlib.Omega.{arith}
use lib.ListN.{length, take, drop}
use borrow.Author.Tests.{leb-true, le-leb, ltb-true, lt-ltb, not-true}
use Rattle.recording.specs.Tests.{◌and◌, pick, any_of, keep}
use Rattle.recording.specs.Weeks.{week_minutes, week_start}
use Rattle.recording.proofs.TestLaws.{and_left, and_right, and_both, clash, is_false, any_of_law, of_any, Witness, keep_in, in_keep}
use Rattle.rules.specs.Verdict.{prefix, first_lawful, breach_minute, article, verdict_by, verdict}
use Rattle.rules.specs.Spans.{weeks_begun, spans_beginning, spans_from, spans, span_minutes, is_breach, breaching, shorter_inside, least_breach, breach_spans}
use Rattle.rules.specs.declared.Weeks.{Weeks}
use Rattle.rules.proofs.Breach.{HasLawful, first_none, is_none_law}

abbrev pub span : ℕ → ℕ → Weeks
span a b = record { first = a; last = b }

-- ---- a recording is a breach exactly if it has no lawful reading
pub lawful_passes : (ms : List ℕ) → HasLawful ms → is_breach (verdict ms) ≡ false
unfolding verdict
lawful_passes ms h = at (first_lawful ms) refl
  where
    at : (o : Option (List ℕ)) → first_lawful ms ≡ o → is_breach (verdict_by o (breach_minute ms) (article (prefix (breach_minute ms) ms))) ≡ false
    at none e = absurd (first_none ms e h)
    at (some r) e = refl

pub none_breaches : (ms : List ℕ) → (HasLawful ms → ⊥) → is_breach (verdict ms) ≡ true
unfolding verdict
none_breaches ms h = rw (is_none_law ms h) refl

-- ---- the span's minutes are a stretch of those from its Monday on
drop-take : (f x : ℕ) (l : List ℕ) → drop f (take (f + x) l) ≡ take x (drop f l)
drop-take zero x l = ap (λ (n : ℕ). take n l) (zero-add x)
drop-take (suc f) zero [] = rw suc-add refl
drop-take (suc f) (suc x) [] = rw suc-add refl
drop-take (suc f) x (a ∷ l) = rw suc-add (drop-take f x l)

pub span_is : (ms : List ℕ) (s : Weeks) → s.first ≤ s.last → span_minutes ms s ≡ prefix (week_minutes * (s.last + 1 - s.first)) (drop (week_start s.first) ms)
unfolding span_minutes
span_is ms s h =
    let e : week_start (s.last + 1) ≡ week_start s.first + week_minutes * (s.last + 1 - s.first) = omega arith in
    ap (λ (n : ℕ). drop (week_start s.first) (take n ms)) e ∙ drop-take (week_start s.first) (week_minutes * (s.last + 1 - s.first)) ms

-- ---- the spans of n weeks from a week on are those that lie in them
in_right : {x : Weeks} (xs : List Weeks) {ys : List Weeks} → In x ys → In x (xs ++ ys)
in_right [] i = i
in_right (z ∷ xs) i = there (in_right xs i)

in_left : {x : Weeks} {xs : List Weeks} (ys : List Weeks) → In x xs → In x (xs ++ ys)
in_left ys (here e) = here e
in_left ys (there i) = there (in_left ys i)

in_either : {x : Weeks} (xs : List Weeks) {ys : List Weeks} → In x (xs ++ ys) → In x xs ⊎ In x ys
in_either [] i = inr i
in_either {x} (z ∷ xs) {ys} i = at (Memᴰ.cases_cons i) (in_either xs)
  where
    more : In x xs ⊎ In x ys → In x (z ∷ xs) ⊎ In x ys
    more (inl j) = inl (there j)
    more (inr j) = inr j

    at : (x ≡ z) ⊎ In x (xs ++ ys) → (In x (xs ++ ys) → In x xs ⊎ In x ys) → In x (z ∷ xs) ⊎ In x ys
    at (inl e) f = inl (here e)
    at (inr j) f = more (f j)

beginning_in : (a b : ℕ) (last n : ℕ) → last ≤ b → b < last + n → In (span a b) (spans_beginning a last n)
unfolding spans_beginning
beginning_in a b last zero h l = absurd (omega arith)
beginning_in a b last (suc n) h l = at (eq-or-lt_of_le h) (λ g. beginning_in a b (suc last) n g (omega arith))
  where
    at : (last ≡ b) ⊎ (last < b) → (last < b → In (span a b) (spans_beginning a (suc last) n)) → In (span a b) (span a last ∷ spans_beginning a (suc last) n)
    at (inl e) f = here (ap (span a) (sym e))
    at (inr g) f = there (f g)

pub from_in : (a b first n : ℕ) → first ≤ a → a ≤ b → b < first + n → In (span a b) (spans_from first n)
unfolding spans_from
from_in a b first zero h g l = absurd (omega arith)
from_in a b first (suc n) h g l = at (eq-or-lt_of_le h) (λ k. from_in a b (suc first) n k g (omega arith))
  where
    at : (first ≡ a) ⊎ (first < a) → (first < a → In (span a b) (spans_from (suc first) n)) → In (span a b) (spans_beginning first first (suc n) ++ spans_from (suc first) n)
    at (inl e) f = in_left (spans_from (suc first) n) (subst (λ (x : ℕ). In (span a b) (spans_beginning x x (suc n))) (sym e) (beginning_in a b a (suc n) g (omega arith)))
    at (inr k) f = in_right (spans_beginning first first (suc n)) (f k)

pub record Within (first end : ℕ) (s : Weeks) : Type 0 where
  pub from : first ≤ s.first
  pub proper : s.first ≤ s.last
  pub to : s.last < end

record Begins (first last end : ℕ) (s : Weeks) : Type 0 where
  from : s.first ≡ first
  least : last ≤ s.last
  to : s.last < end

of_beginning : (first last n : ℕ) {s : Weeks} → In s (spans_beginning first last n) → Begins first last (last + n) s
unfolding spans_beginning
of_beginning first last zero i = absurd (Memᴰ.not-nil i)
of_beginning first last (suc n) {s} i = at (Memᴰ.cases_cons i) (of_beginning first (suc last) n)
  where
    at : (s ≡ span first last) ⊎ In s (spans_beginning first (suc last) n) → (In s (spans_beginning first (suc last) n) → Begins first (suc last) (suc last + n) s)
        → Begins first last (last + suc n) s
    at (inl e) f = rw e (record { from = refl; least = le_refl _; to = omega arith })
    at (inr j) f = let k = f j in record { from = k.from; least = omega (arith, k.least); to = omega (arith, k.to) }

pub of_from : (first n : ℕ) {s : Weeks} → In s (spans_from first n) → Within first (first + n) s
unfolding spans_from
of_from first zero i = absurd (Memᴰ.not-nil i)
of_from first (suc n) {s} i = at (in_either (spans_beginning first first (suc n)) i) (of_from (suc first) n)
  where
    at : In s (spans_beginning first first (suc n)) ⊎ In s (spans_from (suc first) n) → (In s (spans_from (suc first) n) → Within (suc first) (suc first + n) s)
        → Within first (first + suc n) s
    at (inl j) f = let k = of_beginning first first (suc n) j in record { from = omega (arith, k.from); proper = omega (arith, k.from, k.least); to = k.to }
    at (inr j) f = let k = f j in record { from = omega (arith, k.from); proper = k.proper; to = omega (arith, k.to) }

-- ---- a shorter span inside
pub record Inside (s t : Weeks) : Type 0 where
  pub after : s.first ≤ t.first
  pub before : t.last ≤ s.last
  pub shorter : t.last - t.first < s.last - s.first

pub inside_is : (s t : Weeks) → shorter_inside s t ≡ true → Inside s t
unfolding shorter_inside
inside_is s t e =
    let l = and_left _ _ e in
    record { after = leb-true _ _ (and_left _ _ l); before = leb-true _ _ (and_right _ _ l); shorter = ltb-true _ _ (and_right _ _ e) }

pub is_inside : (s t : Weeks) → Inside s t → shorter_inside s t ≡ true
unfolding shorter_inside
is_inside s t k = and_both _ _ (and_both _ _ (le-leb _ _ k.after) (le-leb _ _ k.before)) (lt-ltb _ _ k.shorter)

-- ---- NONE MISSING, NONE TOO MANY: a span is listed exactly if it is one of the recording's weeks, is a breach, and holds no shorter one
module _ (ms : List ℕ) where
  pub record Least (s : Weeks) : Type 0 where
    pub within : Within 0 (weeks_begun (length ms)) s
    pub broken : breaching ms s ≡ true
    pub none_inside : (t : Weeks) → Within 0 (weeks_begun (length ms)) t → Inside s t → breaching ms t ≡ false

  weeks_from : {s : Weeks} → Within 0 (0 + weeks_begun (length ms)) s → Within 0 (weeks_begun (length ms)) s
  weeks_from k = record { from = k.from; proper = k.proper; to = omega (arith, k.to) }

  abbrev holds : Weeks → Weeks → Bool
  holds s t = shorter_inside s t and breaching ms t

  pub listed_least : {s : Weeks} → In s (breach_spans ms) → Least s
  unfolding breach_spans least_breach
  listed_least {s} i =
      let k = keep_in (least_breach (breaching ms) (spans ms)) (spans ms) i in
      record {
        within = weeks_from (of_from 0 (weeks_begun (length ms)) k.listed);
        broken = and_left _ _ k.passes;
        none_inside = λ t w e. is_false (breaching ms t) (λ b. clash (any_of (holds s) (spans ms))
            (any_of_law (holds s) (from_in t.first t.last 0 (weeks_begun (length ms)) (omega arith) w.proper (omega (arith, w.to))) (and_both _ _ (is_inside s t e) b))
            (not-true (any_of (holds s) (spans ms)) (and_right _ _ k.passes)));
      }

  pub least_listed : {s : Weeks} → Least s → In s (breach_spans ms)
  unfolding breach_spans least_breach
  least_listed {s} k =
      in_keep (least_breach (breaching ms) (spans ms)) (from_in s.first s.last 0 (weeks_begun (length ms)) (omega arith) k.within.proper (omega (arith, k.within.to)))
      (and_both _ _ k.broken (ap not (is_false (any_of (holds s) (spans ms)) (λ e. none_there (of_any (holds s) (spans ms) e)))))
    where
      none_there : Witness (holds s) (spans ms) → ⊥
      none_there w =
          clash (breaching ms w.item) (and_right _ _ w.passes)
          (k.none_inside w.item (weeks_from (of_from 0 (weeks_begun (length ms)) w.listed)) (inside_is s w.item (and_left _ _ w.passes)))

-- ---- BY FIRST WEEK, THEN LAST, EACH JUST ONCE: every one comes before all that follow it
pub data Before (s t : Weeks) : Type 0 where
  begins : s.first < t.first → Before s t
  ends : s.first ≡ t.first → s.last < t.last → Before s t

pub never_itself : (s : Weeks) → Before s s → ⊥
never_itself s (begins h) = omega arith
never_itself s (ends e h) = omega arith

pub data Rising : List Weeks → Type 0 where
  none_left : Rising []
  one_more : {s : Weeks} {ss : List Weeks} → ((t : Weeks) → In t ss → Before s t) → Rising ss → Rising (s ∷ ss)

kept_rising : (f : Weeks → Bool) {ss : List Weeks} → Rising ss → Rising (keep f ss)
unfolding keep
kept_rising f none_left = none_left
kept_rising f (one_more {s} {ss} b r) = at (f s) (kept_rising f r)
  where
    at : (t : Bool) → Rising (keep f ss) → Rising (pick t (s ∷ keep f ss) (keep f ss))
    at true k = one_more (λ x i. b x (keep_in f ss i).listed) k
    at false k = k

append_rising : {xs ys : List Weeks} → Rising xs → Rising ys → ((s t : Weeks) → In s xs → In t ys → Before s t) → Rising (xs ++ ys)
append_rising none_left r b = r
append_rising {ys = ys} (one_more {s} {ss} a q) r b =
    one_more (λ t i. at t (in_either ss i)) (append_rising q r (λ x t i j. b x t (there i) j))
  where
    at : (t : Weeks) → In t ss ⊎ In t ys → Before s t
    at t (inl i) = a t i
    at t (inr i) = b s t (here refl) i

beginning_rising : (first last n : ℕ) → Rising (spans_beginning first last n)
unfolding spans_beginning
beginning_rising first last zero = none_left
beginning_rising first last (suc n) = one_more (λ t i. later t (of_beginning first (suc last) n i)) (beginning_rising first (suc last) n)
  where
    later : (t : Weeks) → Begins first (suc last) (suc last + n) t → Before (span first last) t
    later t k = ends (sym k.from) k.least

from_rising : (first n : ℕ) → Rising (spans_from first n)
unfolding spans_from
from_rising first zero = none_left
from_rising first (suc n) =
    append_rising (beginning_rising first first (suc n)) (from_rising (suc first) n)
    (λ s t i j. begins (omega (arith, (of_beginning first first (suc n) i).from, (of_from (suc first) n j).from)))

pub spans_rising : (ms : List ℕ) → Rising (breach_spans ms)
unfolding breach_spans
spans_rising ms = kept_rising (least_breach (breaching ms) (spans ms)) (from_rising 0 (weeks_begun (length ms)))
