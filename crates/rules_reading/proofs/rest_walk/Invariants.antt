-- `rules_reading::rest_walk` meets its contract. Assumes nothing.
use Rattle.std.proofs.Common.{length}
use Rattle.rules_items.specs.Items.{tallied}
use Rattle.rules_reading.proofs.WalkLaws.{Walking}
use Rattle.rules_reading.proofs.rest_walk.Given as goal

abbrev pub invariant-loop-i : goal.invariant-loop-i
invariant-loop-i l = Walking l.rests.starts.now l.rests.ends.now l.rests.nets.now l.reading (length l.rests.starts.now) l.s l.i (tallied l.tally) l.compensations l.counts
