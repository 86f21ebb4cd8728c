-- `rules_limits::broken_at` meets its contract. Assumes nothing.
use Rattle.recording.proofs.TestLaws.{or_is}
use Rattle.rules_limits.specs.Account.{broken_at}
use Rattle.rules_limits.proofs.broken_at.Goals as goal

pub returns : goal.returns
unfolding broken_at
returns c = simp or_is
