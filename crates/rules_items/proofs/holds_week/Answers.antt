-- `rules_items::holds_week` meets its contract. Assumes nothing.
use Rattle.std.proofs.Common.{arith}
use Rattle.std.proofs.lemmas.Grind.{common_steps}
use Rattle.recording.specs.Tests.{◌and◌}
use Rattle.recording.specs.Weeks.{inside}
use Rattle.rules_items.proofs.holds_week.Goals as goal

pub returns-then-start-w : goal.returns-then-start-w
unfolding inside ◌and◌
returns-then-start-w c = grind (arith, common_steps)

pub returns-else-start-w : goal.returns-else-start-w
unfolding inside ◌and◌
returns-else-start-w c = grind (arith, common_steps)
