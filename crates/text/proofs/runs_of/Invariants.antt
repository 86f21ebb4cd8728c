-- `text::runs_of` meets its contract. The invariant: the lines that are left come to what the whole text comes to. Assumes nothing.
use mathlib.Core.Path.{◌≡◌}
use Prim.Native.Nat.{◌+◌}
use lib.ListN.{length, drop}
use Rattle.text_lines.specs.Reading.{lines_in, stage_from, words_of}
use Rattle.text_lines.specs.declared.Stage.TheVariants as stage
use Rattle.text.proofs.runs_of.Given as goal

abbrev pub invariant-loop-line : goal.invariant-loop-line
invariant-loop-line l =
    (stage_from stage.Before (lines_in l.text) ≡ stage_from l.stage (lines_in (drop l.line-iterator.at l.line-iterator.text.now))) ×
    (length (words_of (lines_in l.text)) ≡ l.runs + length (words_of (lines_in (drop l.line-iterator.at l.line-iterator.text.now))))
