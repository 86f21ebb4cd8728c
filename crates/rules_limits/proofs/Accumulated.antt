-- Rule 1 with one minute more. Assumes nothing.
use mathlib.Core.Path.{◌≡◌, refl, ap, ◌∙◌}
use mathlib.Core.Bool.{Bool, true, false}
use mathlib.Core.List.{List, [], ◌∷◌, ◌++◌}
use Prim.Native.Nat.{ℕ, zero, suc, ◌+◌, ◌-◌, ◌≤◌, zero-le}
use native.Mathlib.Omega.{arith}
use lib.Dec.{leb}
use lib.ListN.{length}
use Rattle.recording.specs.Tests.{◌and◌}
use Rattle.recording.specs.Rests.{end_from, judged_end}
use Rattle.rules.specs.declared.Accumulated.{Accumulated}
use Rattle.rules.specs.Fixed.{cleared, rested, drove, accumulated_at_most, keeps_accumulated, rule1}

-- the sum after the minutes, and the rest that is under way there
unfoldable pub accumulated_from : Accumulated → ℕ → List ℕ → Accumulated
accumulated_from d n [] = d
accumulated_from d n (zero ∷ ms) = accumulated_from d (suc n) ms
accumulated_from d n (suc a ∷ ms) = accumulated_from (drove (suc a) (rested n d)) 0 ms

unfoldable rest_from : ℕ → List ℕ → ℕ
rest_from n [] = n
rest_from n (zero ∷ ms) = rest_from (suc n) ms
rest_from n (suc a ∷ ms) = rest_from 0 ms

rest_is : (from now : ℕ) (ms : List ℕ) → from ≤ now → rest_from (now - from) ms + end_from from now ms ≡ now + length ms
unfolding rest_from end_from
rest_is from now [] h = omega arith
rest_is from now (zero ∷ ms) h =
    let e : suc now - from ≡ suc (now - from) = omega arith in
    omega (arith, rw e at (rest_is from (suc now) ms (omega arith)))
rest_is from now (suc a ∷ ms) h =
    let e : suc now - suc now ≡ 0 = omega arith in
    omega (arith, rw e at (rest_is (suc now) (suc now) ms (omega arith)))

rest_length : (ms : List ℕ) → rest_from 0 ms ≡ length ms - judged_end ms
unfolding judged_end
rest_length ms = omega (arith, rest_is 0 0 ms zero-le)

-- ---- a minute of rest
kept_rest : (d : Accumulated) (n : ℕ) (xs : List ℕ) → keeps_accumulated d n (xs ++ 0 ∷ []) ≡ keeps_accumulated d n xs
unfolding keeps_accumulated
kept_rest d n [] = refl
kept_rest d n (zero ∷ xs) = kept_rest d (suc n) xs
kept_rest d n (suc a ∷ xs) = ap (λ (b : Bool). leb (drove (suc a) (rested n d)).sum accumulated_at_most and b) (kept_rest (drove (suc a) (rested n d)) 0 xs)

accumulated_rest : (d : Accumulated) (n : ℕ) (xs : List ℕ) → accumulated_from d n (xs ++ 0 ∷ []) ≡ accumulated_from d n xs
unfolding accumulated_from
accumulated_rest d n [] = refl
accumulated_rest d n (zero ∷ xs) = accumulated_rest d (suc n) xs
accumulated_rest d n (suc a ∷ xs) = accumulated_rest (drove (suc a) (rested n d)) 0 xs

-- ---- another minute
module _ (a : ℕ) where
  accumulated_busy : (d : Accumulated) (n : ℕ) (xs : List ℕ) → accumulated_from d n (xs ++ suc a ∷ []) ≡ drove (suc a) (rested (rest_from n xs) (accumulated_from d n xs))
  unfolding accumulated_from rest_from
  accumulated_busy d n [] = refl
  accumulated_busy d n (zero ∷ xs) = accumulated_busy d (suc n) xs
  accumulated_busy d n (suc b ∷ xs) = accumulated_busy (drove (suc b) (rested n d)) 0 xs

  and_regroup : (x y z : Bool) → x and (y and z) ≡ x and y and z
  unfolding ◌and◌
  and_regroup true y z = refl
  and_regroup false y z = refl

  and-true : (x : Bool) → x and true ≡ true and x
  unfolding ◌and◌
  and-true true = refl
  and-true false = refl

  kept_busy : (d : Accumulated) (n : ℕ) (xs : List ℕ) → keeps_accumulated d n (xs ++ suc a ∷ []) ≡ keeps_accumulated d n xs and leb (accumulated_from d n (xs ++ suc a ∷ [])).sum accumulated_at_most
  unfolding keeps_accumulated accumulated_from
  kept_busy d n [] = and-true (leb (drove (suc a) (rested n d)).sum accumulated_at_most)
  kept_busy d n (zero ∷ xs) = kept_busy d (suc n) xs
  kept_busy d n (suc b ∷ xs) =
      ap (λ (x : Bool). leb (drove (suc b) (rested n d)).sum accumulated_at_most and x) (kept_busy (drove (suc b) (rested n d)) 0 xs)
      ∙ and_regroup (leb (drove (suc b) (rested n d)).sum accumulated_at_most) _ _

-- the sum of the minutes so far
abbrev pub accumulated_by : List ℕ → Accumulated
accumulated_by ms = accumulated_from cleared 0 ms

module _ (xs : List ℕ) where
  pub rule1_rest : rule1 (xs ++ 0 ∷ []) ≡ rule1 xs
  unfolding rule1
  rule1_rest = kept_rest cleared 0 xs

  pub accumulated_after_rest : accumulated_by (xs ++ 0 ∷ []) ≡ accumulated_by xs
  accumulated_after_rest = accumulated_rest cleared 0 xs

  pub rule1_busy : (a : ℕ) → rule1 (xs ++ suc a ∷ []) ≡ rule1 xs and leb (accumulated_by (xs ++ suc a ∷ [])).sum accumulated_at_most
  unfolding rule1
  rule1_busy a = kept_busy a cleared 0 xs

  pub accumulated_after_busy : (a : ℕ) → accumulated_by (xs ++ suc a ∷ []) ≡ drove (suc a) (rested (length xs - judged_end xs) (accumulated_by xs))
  accumulated_after_busy a = accumulated_busy a cleared 0 xs ∙ ap (λ (n : ℕ). drove (suc a) (rested n (accumulated_by xs))) (rest_length xs)
