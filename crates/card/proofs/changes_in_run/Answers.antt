-- `card::changes_in_run` meets its contract. Assumes nothing.
use native.Mathlib.Omega.{arith}
use mathlib.Core.Path.{ap}
use Rattle.recording.specs.Tests.{one}
use Rattle.recording.proofs.Activities.{byte_is_one}
use Rattle.card.specs.Sizes.{changes_in_run}
use Rattle.card.proofs.changes_in_run.Goals as goal

pub returns : goal.returns
unfolding changes_in_run
returns c = omega (arith, c.from.ensures, byte_is_one c.is_written.result, ap one c.is_written.ensures)
