-- `card_reader::judge` meets its contract. Assumes nothing.
use Rattle.card_reader.specs.Reading.{changes_in}
use Rattle.card_reader.proofs.Judging.{Judging}
use Rattle.card_reader.proofs.judge.Given as goal

abbrev pub invariant-loop-change : goal.invariant-loop-change
invariant-loop-change l = Judging (changes_in l.bytes) l.found (changes_in l.change-iterator.bytes.now)
