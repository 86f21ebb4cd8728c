-- The walks over the minutes, at two lists put together: a stretch, and what follows it.
-- Assumes nothing.
use mathlib.Core.Path.{◌≡◌, ap, ◌∙◌}
use mathlib.Core.List.{List, [], ◌∷◌, ◌++◌}
use Prim.Native.Nat.{ℕ, zero, suc, ◌+◌, ◌≤◌, zero-le}
use native.Mathlib.Nat.{le_refl}
use native.Mathlib.Omega.{arith}
use lib.Dec.{ltb}
use lib.ListN.{length}
use Rattle.recording.specs.Tests.{keep}
use Rattle.recording.specs.Rests.{with_rest, end_from, judged_end, closed_from, closed_rests, is_long, long_from, long_rests}
use Rattle.recording.proofs.TestLaws.{pick_append, keep_append}

-- ---- S
end_append : (from now : ℕ) (xs ys : List ℕ) → end_from from now (xs ++ ys) ≡ end_from (end_from from now xs) (now + length xs) ys
unfolding end_from
end_append from now [] ys = ap (λ (n : ℕ). end_from from n ys) (omega arith)
end_append from now (zero ∷ xs) ys =
    end_append from (suc now) xs ys ∙ ap (λ (n : ℕ). end_from (end_from from (suc now) xs) n ys) (omega arith)
end_append from now (suc a ∷ xs) ys =
    end_append (suc now) (suc now) xs ys ∙ ap (λ (n : ℕ). end_from (end_from (suc now) (suc now) xs) n ys) (omega arith)

pub end_from_law : (from now : ℕ) (ms : List ℕ) → from ≤ now → from ≤ end_from from now ms
unfolding end_from
end_from_law from now [] h = le_refl _
end_from_law from now (zero ∷ ms) h = end_from_law from (suc now) ms (omega arith)
end_from_law from now (suc a ∷ ms) h = omega (arith, end_from_law (suc now) (suc now) ms (le_refl _))

pub end_to : (from now : ℕ) (ms : List ℕ) → from ≤ now → end_from from now ms ≤ now + length ms
unfolding end_from
end_to from now [] h = omega arith
end_to from now (zero ∷ ms) h = omega (arith, end_to from (suc now) ms (omega arith))
end_to from now (suc a ∷ ms) h = omega (arith, end_to (suc now) (suc now) ms (le_refl _))

pub judged_within : (ms : List ℕ) → judged_end ms ≤ length ms
unfolding judged_end
judged_within ms = omega (arith, end_to 0 0 ms zero-le)

-- ---- rests
closed_append : (from now : ℕ) (xs ys : List ℕ)
    → closed_from from now (xs ++ ys) ≡ closed_from from now xs ++ closed_from (end_from from now xs) (now + length xs) ys
unfolding closed_from end_from
closed_append from now [] ys = ap (λ (n : ℕ). closed_from from n ys) (omega arith)
closed_append from now (zero ∷ xs) ys =
    closed_append from (suc now) xs ys
    ∙ ap (λ (n : ℕ). closed_from from (suc now) xs ++ closed_from (end_from from (suc now) xs) n ys) (omega arith)
closed_append from now (suc a ∷ xs) ys =
    ap (with_rest from now)
    (closed_append (suc now) (suc now) xs ys
    ∙ ap (λ (n : ℕ). closed_from (suc now) (suc now) xs ++ closed_from (end_from (suc now) (suc now) xs) n ys) (omega arith))
    ∙ pick_append (ltb from now) _ _ _

-- what follows the stretch xs goes on from its judged end, as if the rest that was open there were under way
module _ (xs ys : List ℕ) where
  at_length : {A : Type 0} (f : ℕ → A) → f (0 + length xs) ≡ f (length xs)
  at_length f = ap f (omega arith)

  pub judged_append : judged_end (xs ++ ys) ≡ end_from (judged_end xs) (length xs) ys
  unfolding judged_end
  judged_append = end_append 0 0 xs ys ∙ at_length (λ n. end_from (end_from 0 0 xs) n ys)

  pub closed_rests_append : closed_rests (xs ++ ys) ≡ closed_rests xs ++ closed_from (judged_end xs) (length xs) ys
  unfolding judged_end closed_rests
  closed_rests_append = closed_append 0 0 xs ys ∙ at_length (λ n. closed_from 0 0 xs ++ closed_from (end_from 0 0 xs) n ys)

  pub long_rests_append : long_rests (xs ++ ys) ≡ long_rests xs ++ long_from (judged_end xs) (length xs) ys
  unfolding long_rests closed_rests
  long_rests_append = ap (keep is_long) closed_rests_append ∙ keep_append is_long _ _

  pub judged_mono : judged_end xs ≤ judged_end (xs ++ ys)
  judged_mono = rw judged_append (end_from_law _ _ ys (judged_within xs))
