-- `text::put_words` meets its contract. The invariant: the words that are left, put from here on, make what the whole text makes. Assumes nothing.
use mathlib.Core.Path.{◌≡◌}
use Prim.Native.Nat.{◌+◌}
use lib.ListN.{length, drop}
use lib.Seq.{sets}
use Rattle.text_lines.specs.Reading.{lines_in, words_of}
use Rattle.text.proofs.put_words.Given as goal

abbrev pub invariant-loop-line : goal.invariant-loop-line
invariant-loop-line l =
    (sets l.initial.words 0 (words_of (lines_in l.text)) ≡ sets l.words l.at (words_of (lines_in (drop l.line-iterator.at l.line-iterator.text.now)))) ×
    (length (words_of (lines_in l.text)) ≡ l.at + length (words_of (lines_in (drop l.line-iterator.at l.line-iterator.text.now))))
