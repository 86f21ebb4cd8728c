-- `card_reader::put_words` meets its contract. Assumes nothing.
use lib.ListN.{length}
use Rattle.card_reader.specs.Reading.{changes_in}
use Rattle.card_reader.proofs.Judging.{PuttingWords}
use Rattle.card_reader.proofs.put_words.Given as goal

abbrev pub invariant-loop-change : goal.invariant-loop-change
invariant-loop-change l = PuttingWords (changes_in l.bytes) l.initial.words l.words (changes_in l.changes.bytes.now) l.at

abbrev pub decreases-loop-change : goal.decreases-loop-change
decreases-loop-change l = length (changes_in l.changes.bytes.now)
