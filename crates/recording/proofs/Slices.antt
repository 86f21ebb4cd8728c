-- A part of a slice, and what is put into one from a place on. Assumes nothing.
use mathlib.Core.Path.{◌≡◌, ap, ◌∙◌}
use mathlib.Core.List.{List, [], ◌∷◌, ◌++◌}
use Prim.Native.Nat.{ℕ, suc, ◌+◌, ◌-◌, ◌≤◌}
use native.Mathlib.Omega.{arith}
use lib.ListN.{length, take, drop, set, length-drop}
use lib.Seq.{take_all, sets, sets-eq}

-- the part of a slice from a place on
pub part_rest : (t : List ℕ) (i : ℕ) → take (length t - i) (drop i t) ≡ drop i t
part_rest t i = take_all (length t - i) (drop i t) (rw length-drop (omega arith))

-- one list after another
pub sets_append : (t : List ℕ) (at : ℕ) (xs ys : List ℕ) → sets t at (xs ++ ys) ≡ sets (sets t at xs) (at + length xs) ys
sets_append t at [] ys = ap (λ (n : ℕ). sets t n ys) (omega arith)
sets_append t at (x ∷ xs) ys = sets_append (set t at x) (suc at) xs ys ∙ ap (λ (n : ℕ). sets (sets (set t at x) (suc at) xs) n ys) (omega arith)

-- a list over the front of a slice
pub put_in_front : (new old : List ℕ) → length new ≤ length old → sets old 0 new ≡ new ++ drop (length new) old
put_in_front new old h =
    let z : 0 + length new ≡ length new = omega arith in
    sets-eq new old 0 (omega arith) ∙ ap (λ (k : ℕ). new ++ drop k old) z
