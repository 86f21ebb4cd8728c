-- `rules_items::LongRest::in_gap` meets its contract. Assumes nothing.
use Rattle.std.proofs.Common.{arith}
use Rattle.std.proofs.lemmas.Grind.{common_steps}
use Rattle.recording.specs.Tests.{◌or◌}
use Rattle.rules_items.proofs.LongRest.in_gap.Goals as goal

pub returns-in-Daily : goal.returns-in-Daily
unfolding ◌or◌
returns-in-Daily c = grind (arith, common_steps)

pub returns-in-Weekly : goal.returns-in-Weekly
unfolding ◌or◌
returns-in-Weekly c = grind (arith, common_steps)
