-- `recording::place_of` meets its contract. Assumes nothing.
use Rattle.recording.specs.Scan.{Walking}
use Rattle.recording.proofs.place_of.Given as goal

abbrev pub invariant-loop-word : goal.invariant-loop-word
invariant-loop-word l = Walking l.words l.place l.word-index
