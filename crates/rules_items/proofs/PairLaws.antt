-- Rule 11: the walks over the rests and over the pairs of weeks. Assumes nothing.
use mathlib.Core.Path.{◌≡◌, refl, sym, ap, ap₂, ◌∙◌}
use mathlib.Core.Logic.{◌⊎◌, inl, inr}
use mathlib.Core.Bool.{Bool, true, false, not}
use mathlib.Core.List.{List, ◌∷◌}
use Prim.Native.Nat.{ℕ, zero, suc, ◌+◌, ◌-◌, ◌≤◌, ◌<◌}
use native.Mathlib.Nat.{eq-or-lt_of_le}
use native.Mathlib.Numerals.{add-one}
use native.Mathlib.Omega.{arith}
use lib.Dec.{leb}
use lib.ListN.{get_or}
use borrow.Author.Tests.{le-leb, lt-leb}
use Rattle.recording.specs.Tests.{◌and◌, ◌or◌, pick, any_of, all_below, count_of}
use Rattle.recording.specs.Operations.{total_at_most}
use Rattle.recording.specs.Weeks.{week_start, week, week_of, inside}
use Rattle.rules.specs.Reading.{Entry, is_weekly, is_regular}
use Rattle.rules.specs.ReadingRules.{of_kind, counted_in, weekly_at_least, regular_at_least, enough_in, rule11}
use Rattle.rules_items.specs.Items.{span_at, spans_from, spans_in, counted_by, enough_with, rule11_with, rest_weeks}

-- ---- a week inside one of the rests
module _ (starts ends : List ℕ) (k w : ℕ) where
  pub record Looking (i : ℕ) : Type 0 where
    pub same : rest_weeks (spans_in starts ends k) w ≡ any_of (inside (week w)) (spans_from starts ends i (k - i))

  pub look_start : Looking 0
  look_start = let e : k ≡ k - 0 = omega arith in record { same = ap (λ (n : ℕ). any_of (inside (week w)) (spans_from starts ends 0 n)) e }

  spans_next : (i : ℕ) → i < k → spans_from starts ends i (k - i) ≡ span_at starts ends i ∷ spans_from starts ends (i + 1) (k - (i + 1))
  unfolding spans_from
  spans_next i h =
      let e : k - i ≡ suc (k - suc i) = omega arith in
      ap (spans_from starts ends i) e ∙ ap (λ (n : ℕ). span_at starts ends i ∷ spans_from starts ends n (k - n)) (sym (add-one i))

  pub look_found : {i : ℕ} → Looking i → i < k → inside (week w) (span_at starts ends i) ≡ true → true ≡ rest_weeks (spans_in starts ends k) w
  unfolding any_of ◌or◌
  look_found {i} l h t = sym (l.same ∙ ap (any_of (inside (week w))) (spans_next i h) ∙ rw t refl)

  pub look_on : {i : ℕ} → Looking i → i < k → inside (week w) (span_at starts ends i) ≡ false → Looking (i + 1)
  unfolding any_of ◌or◌
  look_on {i} l h t = record { same = l.same ∙ ap (any_of (inside (week w))) (spans_next i h) ∙ rw t refl }

  pub look_none : {i : ℕ} → Looking i → k ≤ i → false ≡ rest_weeks (spans_in starts ends k) w
  unfolding any_of spans_from
  look_none {i} l h = let e : k - i ≡ 0 = omega arith in sym (l.same ∙ rw e refl)

-- ---- a pair of weeks
pub pick_most : (b : Bool) (x n : ℕ) → x ≤ n → 1 ≤ n → pick b 1 x ≤ n
pick_most true x n h l = l
pick_most false x n h l = h

module _ (p : ℕ → Bool) (weekly regular : List ℕ) (w : ℕ) {h t : Bool} {a b : ℕ} (ph : h ≡ p w) (pt : t ≡ p (w + 1))
    (qa : a ≡ pick h 1 (get_or weekly w 0)) (qb : b ≡ pick t 1 (get_or weekly (w + 1) 0)) where
  weekly_sum : a + b ≡ counted_by p weekly w + counted_by p weekly (w + 1)
  weekly_sum = ap₂ ◌+◌ (qa ∙ ap (λ (x : Bool). pick x 1 (get_or weekly w 0)) ph) (qb ∙ ap (λ (x : Bool). pick x 1 (get_or weekly (w + 1) 0)) pt)

  pub enough_few : a + b < weekly_at_least → false ≡ enough_with p weekly regular w
  unfolding enough_with ◌and◌
  enough_few l = rw (← weekly_sum, lt-leb weekly_at_least (a + b) l) refl

  pub enough_both : {c d : ℕ} → weekly_at_least ≤ a + b → c ≡ pick h 1 (get_or regular w 0) → d ≡ pick t 1 (get_or regular (w + 1) 0)
      → leb regular_at_least (c + d) ≡ enough_with p weekly regular w
  unfolding enough_with ◌and◌
  enough_both {c} {d} l qc qd =
      rw (← weekly_sum, le-leb weekly_at_least (a + b) l)
      (ap (leb regular_at_least)
      (ap₂ ◌+◌ (qc ∙ ap (λ (x : Bool). pick x 1 (get_or regular w 0)) ph) (qd ∙ ap (λ (x : Bool). pick x 1 (get_or regular (w + 1) 0)) pt)))

-- ---- the pairs of weeks
pub all_kept : (n : ℕ) (f : ℕ → Bool) → ((v : ℕ) → v < n → f v ≡ true) → true ≡ all_below n f
unfolding all_below ◌and◌
all_kept zero f h = refl
all_kept (suc n) f h = rw (h n (omega arith)) (all_kept n f (λ v l. h v (omega arith)))

none_of : (a : Bool) {b : Bool} → false ≡ b → false ≡ a and b
unfolding ◌and◌
none_of true e = e
none_of false e = refl

pub one_broken : (n : ℕ) (f : ℕ → Bool) (w : ℕ) → w < n → f w ≡ false → false ≡ all_below n f
unfolding all_below ◌and◌
one_broken zero f w l e = absurd (omega arith)
one_broken (suc n) f w l e = go (eq-or-lt_of_le (let k : w ≤ n = omega arith in k)) (λ m. one_broken n f w m e)
  where
    go : (w ≡ n) ⊎ (w < n) → (w < n → false ≡ all_below n f) → false ≡ f n and all_below n f
    go (inl q) before = rw (ap f (sym q) ∙ e) refl
    go (inr m) before = none_of (f n) (before m)

-- ---- counts that are those of the entries make it the rule
module _ (p : ℕ → Bool) (s : ℕ) (es : List Entry) (weekly regular : List ℕ) (limit : s ≤ total_at_most)
    (weeklies : (w : ℕ) → w < 256 → get_or weekly w 0 ≡ count_of (of_kind is_weekly w) es)
    (regulars : (w : ℕ) → w < 256 → get_or regular w 0 ≡ count_of (of_kind is_regular w) es) where
  enough_same : (w : ℕ) → w < week_of s → enough_with p weekly regular w ≡ enough_in p es w
  unfolding enough_with enough_in counted_in
  enough_same w h =
      let a : w < 256 = omega arith in
      let b : w + 1 < 256 = omega arith in
      rw (weeklies w a, weeklies (w + 1) b, regulars w a, regulars (w + 1) b) refl

  each_same : (f g : ℕ → Bool) (n : ℕ) → ((w : ℕ) → w < n → f w ≡ g w) → all_below n f ≡ all_below n g
  unfolding all_below
  each_same f g zero h = refl
  each_same f g (suc n) h = ap₂ ◌and◌ (h n (omega arith)) (each_same f g n (λ w l. h w (omega arith)))

  pub rule11_with_law : rule11_with p s weekly regular ≡ rule11 p s es
  unfolding rule11_with rule11
  rule11_with_law = each_same _ _ (week_of s) (λ w h. ap (λ (b : Bool). not (leb (week_start (w + 2)) s) or b) (enough_same w h))
