-- `verdict_steps::as_weekly` meets its contract. Assumes nothing.
use mathlib.Core.Path.{ap}
use Rattle.rules.specs.declared.Kind.TheVariants.{Weekly}
use Rattle.verdict_steps.proofs.as_weekly.Goals as goal

pub returns : goal.returns
returns c = ap Weekly c.standing_of-standing.ensures
