-- Weeks of rest minutes only, where the long rests lie in order: a week is inside a rest near it or inside none. Assumes nothing.
use mathlib.Core.Path.{◌≡◌, sym, subst}
use mathlib.Core.Logic.{◌⊎◌, inl, inr, ⊎_elim}
use mathlib.Core.Bool.{Bool, true, false, false≢true}
use mathlib.Core.List.{List}
use Prim.Native.Nat.{ℕ, zero, suc, ◌+◌, ◌-◌, ◌≤◌, ◌<◌}
use native.Mathlib.Nat.{eq-or-lt_of_le}
use native.Mathlib.Omega.{arith}
use lib.ListN.{length, get_or-eq_default}
use borrow.Author.Tests.{leb-true}
use Rattle.recording.specs.Tests.{any_of}
use Rattle.recording.specs.Weeks.{week_start, week, week_of, inside}
use Rattle.recording.proofs.TestLaws.{and_left, and_right, or_cases, or_left, or_right, clash, is_false, same_test, less_or_not}
use Rattle.rules_items.specs.Items.{span_at, spans_from, spans_in, rest_weeks}
use Rattle.verdict_completion.specs.Completable.{Course, at, Lies}
use Rattle.verdict_steps.specs.Steps.{Ordered}

-- the long rests of a course lie in order
pub in_order : (c : Course) → Lies c → Ordered c.starts c.ends
in_order c l = record { ends_too = l.ends_too; proper = l.proper; ordered = l.ordered }

-- a rest ends by the start of each later one
ends_by : {starts ends : List ℕ} → Ordered starts ends → (j i : ℕ) → i < j → j < length starts → at ends i ≤ at starts j
ends_by o zero i l h = absurd (omega arith)
ends_by {starts} {ends} o (suc j) i l h = go (eq-or-lt_of_le (let k : i ≤ j = omega arith in k)) (λ k. ends_by o j i k (omega arith))
  where
    go : (i ≡ j) ⊎ (i < j) → (i < j → at ends i ≤ at starts j) → at ends i ≤ at starts (suc j)
    go (inl e) before = subst (λ (x : ℕ). at ends x ≤ at starts (suc j)) (sym e) (o.ordered j h)
    go (inr k) before = omega (arith, before k, o.proper j (omega arith), o.ordered j h)

module _ (starts ends : List ℕ) (w : ℕ) where
  -- whether the week w lies inside the rest of index i, and inside any
  abbrev pub covers : ℕ → Bool
  covers i = inside (week w) (span_at starts ends i)

  abbrev pub rests : Bool
  rests = rest_weeks (spans_in starts ends (length starts)) w

  covers_from : (i : ℕ) → covers i ≡ true → at starts i ≤ week_start w
  unfolding inside
  covers_from i t = leb-true _ _ (and_left _ _ t)

  covers_to : (i : ℕ) → covers i ≡ true → week_start (w + 1) ≤ at ends i
  unfolding inside
  covers_to i t = leb-true _ _ (and_right _ _ t)

  -- a rest that covers the week
  record Covered : Type 0 where
    pub place : ℕ
    pub holds : covers place ≡ true

  covered_from : (n i : ℕ) → any_of (inside (week w)) (spans_from starts ends i n) ≡ true → Covered
  unfolding any_of spans_from
  covered_from zero i t = absurd (false≢true t)
  covered_from (suc n) i t = ⊎_elim (λ e. record { place = i; holds = e }) (covered_from n (suc i)) (or_cases _ _ t)

  covers_any : (n i x : ℕ) → i ≤ x → x < i + n → covers x ≡ true → any_of (inside (week w)) (spans_from starts ends i n) ≡ true
  unfolding any_of spans_from
  covers_any zero i x a b t = absurd (omega arith)
  covers_any (suc n) i x a b t =
      ⊎_elim
      (λ e. or_left _ _ (subst (λ (y : ℕ). covers y ≡ true) (sym e) t))
      (λ l. or_right _ _ (covers_any n (suc i) x l (omega arith) t))
      (eq-or-lt_of_le a)

  -- past the last rest there is none
  pub past_rests : (i : ℕ) → length ends ≡ length starts → length starts ≤ i → covers i ≡ false
  past_rests i e l = is_false (covers i) (λ t. omega (arith, covers_to i t, get_or-eq_default ends 0 (subst (λ (n : ℕ). n ≤ i) (sym e) l)))

  module _ (order : Ordered starts ends) where
    within : (i : ℕ) → covers i ≡ true → i < length starts
    within i t = ⊎_elim (λ l. l) (λ l. clash (covers i) t (past_rests i order.ends_too l)) (less_or_not i (length starts))

    pub rest_found : (i : ℕ) → covers i ≡ true → rests ≡ true
    rest_found i t = covers_any (length starts) 0 i (omega arith) (omega (arith, within i t)) t

    rest_none : ((i : ℕ) → covers i ≡ true → ⊥) → rests ≡ false
    rest_none n = is_false rests (λ t. let q = covered_from (length starts) 0 t in n q.place q.holds)

    -- where no rest but that of index j can cover the week
    rest_only : (j : ℕ) → ((i : ℕ) → covers i ≡ true → i ≡ j) → rests ≡ covers j
    rest_only j only =
        same_test rests (covers j)
        (λ t. let q = covered_from (length starts) 0 t in subst (λ (x : ℕ). covers x ≡ true) (only q.place q.holds) q.holds)
        (rest_found j)

    -- no rest before one that starts by the end of the week covers it, and none after one that ends later than the week starts
    none_before : (j i : ℕ) → j < length starts → at starts j < week_start (w + 1) → i < j → covers i ≡ true → ⊥
    none_before j i h from l t = omega (arith, from, covers_to i t, ends_by order j i l h)

    none_after : (j i : ℕ) → week_start w < at ends j → j < i → covers i ≡ true → ⊥
    none_after j i upto l t = omega (arith, upto, covers_from i t, ends_by order i j l (within i t))

    -- a week in which the rest of index j has a minute lies inside that rest or inside none
    pub week_of_rest : (j : ℕ) → j < length starts → at starts j < week_start (w + 1) → week_start w < at ends j → rests ≡ covers j
    week_of_rest j h from upto =
        rest_only j
        (λ i t. ⊎_elim (λ l. absurd (none_before j i h from l t))
        (λ l. ⊎_elim (λ e. sym e) (λ k. absurd (none_after j i upto k t)) (eq-or-lt_of_le l)) (less_or_not i j))

    -- a week after that in which the rest before j starts, and not after that in which j starts
    module _
        (j : ℕ)
        (in_range_law : j ≤ length starts)
        (after : 0 < j → week_of (at starts (j - 1)) < w)
        (upto : j < length starts → w ≤ week_of (at starts j))
      where
        near : covers j ≡ false → (i : ℕ) → covers i ≡ true → i + 1 ≡ j
        near n i t = ⊎_elim lower (λ l. ⊎_elim same higher (eq-or-lt_of_le l)) (less_or_not i j)
          where
            lower : i < j → i + 1 ≡ j
            lower l =
                ⊎_elim
                (λ k. absurd (none_before (j - 1) i (omega arith) (omega (arith, after (omega arith))) (omega arith) t))
                (λ k. omega (arith, k, l))
                (less_or_not (i + 1) j)

            same : j ≡ i → i + 1 ≡ j
            same e = clash (covers j) (subst (λ (x : ℕ). covers x ≡ true) (sym e) t) n

            higher : j < i → i + 1 ≡ j
            higher l =
                let h : j < length starts = omega (arith, l, within i t) in
                absurd (none_after j i (omega (arith, upto h, order.proper j h)) l t)

        pub near_none : j ≡ 0 → covers j ≡ false → rests ≡ false
        near_none z n = rest_none (λ i t. omega (arith, z, near n i t))

        pub near_before : covers j ≡ false → rests ≡ covers (j - 1)
        near_before n = rest_only (j - 1) (λ i t. omega (arith, near n i t))
