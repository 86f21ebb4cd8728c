-- Inner: what the functions of reading answer. Nobody has to believe it: no public contract cites it.
-- Assumes nothing.
use Rattle.std.specs.Prelude.{List, [], ◌∷◌, ℕ, zero, suc, ◌≡◌, ◌≤◌, length, drop, Option, None, Some}
use Rattle.recording.specs.Words.{word_of}
use Rattle.text_lines.specs.declared.Line.{Line}
use Rattle.text_lines.specs.Reading.{lines_in}

-- a number, where 0 stands for none
abbrev pub unless_0 : ℕ → Option ℕ
unless_0 zero = None
unless_0 (suc n) = Some (suc n)

-- the word of a run of so many minutes
abbrev pub word_unless_0 : ℕ → ℕ → Option ℕ
word_unless_0 zero a = None
word_unless_0 (suc n) a = Some (word_of (suc n) a)

-- the first line of a text, and where the next one begins
pub record FirstLine (text : List ℕ) (first : Line) (next : ℕ) : Type 0 where
  pub lines : lines_in text ≡ first ∷ lines_in (drop next text)
  pub within : next ≤ length text
