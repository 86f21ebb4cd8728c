-- Driving has been done since the sum was last cleared, or since minute 0 if it never was, just where the sum is over 0, and no first part is without it.
-- Assumes nothing.
use mathlib.Core.Path.{◌≡◌, refl, sym, ap, ◌∙◌}
use mathlib.Core.Logic.{◌⊎◌, inl, inr}
use mathlib.Core.Bool.{Bool, true, false, false≢true}
use mathlib.Core.List.{List, [], ◌∷◌}
use Prim.Native.Nat.{ℕ, zero, suc, ◌+◌, ◌<◌}
use native.Mathlib.Omega.{arith}
use lib.Dec.{leb, ltb}
use borrow.Author.Tests.{lt-ltb, ltb-true}
use Rattle.recording.specs.Tests.{◌and◌, ◌or◌, pick, one, any_of, count_of}
use Rattle.recording.specs.Words.{is_driving}
use Rattle.recording.proofs.TestLaws.{and_right, or_cases}
use Rattle.rules.specs.declared.Accumulated.{Accumulated}
use Rattle.rules.specs.Fixed.{cleared, clears, first_part, splits, rested, drove}
use Rattle.rules_limits.proofs.Accumulated.{accumulated_from, accumulated_by}

-- the minutes since the sum was last cleared, or since minute 0, but for those of rest; the latest first
unfoldable pub since_from : List ℕ → Accumulated → ℕ → List ℕ → List ℕ
since_from since d n [] = since
since_from since d n (zero ∷ ms) = since_from since d (suc n) ms
since_from since d n (suc a ∷ ms) = since_from (suc a ∷ pick (clears n d) [] since) (drove (suc a) (rested n d)) 0 ms

abbrev pub since_cleared : List ℕ → List ℕ
since_cleared ms = since_from [] cleared 0 ms

-- ---- the sum is their driving
driving_rested : (since : List ℕ) (n : ℕ) (d : Accumulated) → count_of is_driving since ≡ d.sum → count_of is_driving (pick (clears n d) [] since) ≡ (rested n d).sum
unfolding rested count_of
driving_rested since n d e = at (clears n d) (record { sum = d.sum; split = splits n d or d.split }) e
  where
    at : (b : Bool) (kept : Accumulated) → count_of is_driving since ≡ kept.sum → count_of is_driving (pick b [] since) ≡ (pick b cleared kept).sum
    at true kept h = refl
    at false kept h = h

driving_from : (since : List ℕ) (d : Accumulated) (n : ℕ) (ms : List ℕ) → count_of is_driving since ≡ d.sum
    → count_of is_driving (since_from since d n ms) ≡ (accumulated_from d n ms).sum
unfolding since_from accumulated_from drove count_of
driving_from since d n [] e = e
driving_from since d n (zero ∷ ms) e = driving_from since d (suc n) ms e
driving_from since d n (suc a ∷ ms) e =
    driving_from (suc a ∷ pick (clears n d) [] since) (drove (suc a) (rested n d)) 0 ms (ap (λ (k : ℕ). one (is_driving (suc a)) + k) (driving_rested since n d e))

pub driving_since : (ms : List ℕ) → count_of is_driving (since_cleared ms) ≡ (accumulated_by ms).sum
unfolding count_of
driving_since ms = driving_from [] cleared 0 ms refl

-- ---- so a rest is a first part only if there is any
some_counted : (f : ℕ → Bool) (xs : List ℕ) → ltb 0 (count_of f xs) ≡ any_of f xs
unfolding count_of any_of ◌or◌
some_counted f [] = refl
some_counted f (x ∷ xs) = at (f x) (some_counted f xs)
  where
    at : (b : Bool) → ltb 0 (count_of f xs) ≡ any_of f xs → ltb 0 (one b + count_of f xs) ≡ b or any_of f xs
    at true e = lt-ltb 0 (1 + count_of f xs) (omega arith)
    at false e = let z : 0 + count_of f xs ≡ count_of f xs = omega arith in ap (ltb 0) z ∙ e

pub first_part_law : (n : ℕ) (ms : List ℕ) → splits n (accumulated_by ms) ≡ leb first_part n and any_of is_driving (since_cleared ms)
first_part_law n ms = ap (λ (b : Bool). leb first_part n and b) (ap (ltb 0) (sym (driving_since ms)) ∙ some_counted is_driving (since_cleared ms))

-- ---- and none is left where the sum is 0
Driven : Accumulated → Type 0
Driven d = d.split ≡ true → 0 < d.sum

driven_rested : (n : ℕ) (d : Accumulated) → Driven d → Driven (rested n d)
unfolding Driven rested
driven_rested n d h = at (clears n d) (record { sum = d.sum; split = splits n d or d.split }) (λ t. begun (or_cases _ _ t))
  where
    begun : (splits n d ≡ true) ⊎ (d.split ≡ true) → 0 < d.sum
    begun (inl t) = ltb-true 0 d.sum (and_right _ _ t)
    begun (inr t) = h t

    at : (b : Bool) (kept : Accumulated) → Driven kept → Driven (pick b cleared kept)
    at true kept k = λ t. absurd (false≢true t)
    at false kept k = k

driven_more : (a : ℕ) (d : Accumulated) → Driven d → Driven (drove a d)
unfolding Driven drove
driven_more a d h = λ t. omega (arith, h t)

driven_from : (d : Accumulated) (n : ℕ) (ms : List ℕ) → Driven d → Driven (accumulated_from d n ms)
unfolding accumulated_from
driven_from d n [] h = h
driven_from d n (zero ∷ ms) h = driven_from d (suc n) ms h
driven_from d n (suc a ∷ ms) h = driven_from (drove (suc a) (rested n d)) 0 ms (driven_more (suc a) (rested n d) (driven_rested n d h))

pub driving_before : (ms : List ℕ) → (accumulated_by ms).split ≡ true → 0 < (accumulated_by ms).sum
unfolding Driven
driving_before ms = driven_from cleared 0 ms (λ t. absurd (false≢true t))
