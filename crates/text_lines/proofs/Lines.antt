-- A text and its first line. Assumes nothing.
use mathlib.Core.Path.{◌≡◌, refl, sym, ◌∙◌}
use mathlib.Core.Bool.{Bool, true, false}
use mathlib.Core.List.{List, [], ◌∷◌, ◌++◌, append-nil}
use native.Mathlib.Numerals.{add-one}
use Prim.Native.Nat.{ℕ, zero, suc, ◌+◌, ◌<◌}
use native.Mathlib.Omega.{arith}
use lib.Dec.{eqb, ltb}
use lib.ListN.{length, take, drop, get_or}
use lib.Seq.{append_snoc, drop-length}
use borrow.Author.Tests.{eqb-false, ltb-false}
use Rattle.std.specs.Prelude.{None, Some, cond}
use Rattle.std.specs.List.{position, position_or_len}
use Rattle.std.proofs.lemmas.List.Quantifiers.{position-Some}
use Rattle.std.proofs.lemmas.List.Sums.{fails_before_first}
use Rattle.text_lines.specs.Form.{line_end}
use Rattle.text_lines.specs.Reading.{line_of, lines_from, lines_in}
use Rattle.text_lines.specs.LineByLine.{FirstLine}
use Rattle.text_lines.specs.declared.Line.{Line}
use Rattle.text_lines.specs.declared.Line.TheVariants as line

abbrev is_end : ℕ → Bool
is_end b = eqb b line_end

-- the line `l` so far goes on to the first line end
lines_cut : (l t : List ℕ) (n : ℕ) → n < length t → is_end (get_or t n 0) ≡ true → ((k : ℕ) → k < n → is_end (get_or t k 0) ≡ false)
    → lines_from l t ≡ line_of (l ++ take n t) ∷ lines_in (drop (suc n) t)
unfolding lines_from
lines_cut l [] n h e f = absurd (omega arith)
lines_cut l (b ∷ bs) zero h e f = rw (e, append-nil l) refl
lines_cut l (b ∷ bs) (suc n) h e f =
    rw (f 0 (omega arith)) (lines_cut (l ++ b ∷ []) bs n (omega arith) e (λ k i. f (suc k) (omega arith)) ∙ rw (append_snoc l b (take n bs)) refl)

-- no line end: what is left is no line
lines_open : (l t : List ℕ) → ((k : ℕ) → k < length t → is_end (get_or t k 0) ≡ false) → 0 < length l + length t → lines_from l t ≡ line.Other ∷ []
unfolding lines_from
lines_open [] [] f h = absurd (omega arith)
lines_open (x ∷ l) [] f h = refl
lines_open l (b ∷ bs) f h = rw (f 0 (omega arith)) (lines_open (l ++ b ∷ []) bs (λ k i. f (suc k) (omega arith)) (omega (arith, snoc_length l)))
  where
    snoc_length : (xs : List ℕ) → 0 < length (xs ++ b ∷ [])
    snoc_length [] = omega arith
    snoc_length (x ∷ xs) = omega arith

none_ends : (t : List ℕ) → position is_end t ≡ None → (k : ℕ) → k < length t → is_end (get_or t k 0) ≡ false
none_ends t e k h = go (ltb (position_or_len is_end t) (length t)) refl e
  where
    go : (b : Bool) → ltb (position_or_len is_end t) (length t) ≡ b → cond b (Some (position_or_len is_end t)) None ≡ None → is_end (get_or t k 0) ≡ false
    go true p q = let z : ◌≡◌ {A = ℕ} 0 1 = cc in absurd (omega arith)
    go false p q = fails_before_first is_end t k 0 (omega (arith, ltb-false _ _ p))

pub first_open : (t : List ℕ) → false ≡ eqb (length t) 0 → None ≡ position is_end t → FirstLine t line.Other (length t)
unfolding lines_from
first_open t h e = record { lines = lines_open [] t (none_ends t (sym e)) (let z = eqb-false (length t) 0 (sym h) in omega arith) ∙ rw drop-length refl; within = omega arith }

pub first_cut : {n : ℕ} {l : Line} (t : List ℕ) → Some n ≡ position is_end t → l ≡ line_of (take n t) → FirstLine t l (n + 1)
first_cut {n} {l} t e f =
    let p = position-Some is_end t n 0 (sym e) in
    record { lines = lines_cut [] t n p.0 p.1 p.2 ∙ rw (f, add-one) refl; within = omega (arith, p.0) }
