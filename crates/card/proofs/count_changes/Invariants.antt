-- `card::count_changes` meets its contract. Assumes nothing.
use Rattle.recording.specs.Words.{code_of}
use Rattle.card.proofs.Putting.{Counting}
use Rattle.card.proofs.count_changes.Given as goal

abbrev pub invariant-loop-word : goal.invariant-loop-word
invariant-loop-word l = Counting l.words l.sum (code_of l.before) l.changes l.word-index
