-- What is broken by one account or by the other meets its contract. Assumes nothing.
use Rattle.recording.proofs.TestLaws.{or_is}
use Rattle.rules.specs.Fixed.{either_broken}
use Rattle.rules.proofs.BreachesBitOr.bitor.Goals as goal

pub returns : goal.returns
unfolding either_broken
returns c = simp or_is
