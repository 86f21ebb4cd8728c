-- `rules_items::Item::as_read` meets its contract. Assumes nothing.
use Rattle.std.proofs.Common.{arith}
use Rattle.std.proofs.lemmas.Grind.{common_steps}
use Rattle.rules.specs.Reading.{as_read}
use Rattle.rules_items.proofs.Item.as_read.Goals as goal

pub returns-then-self-eq-WEEKLY_KIND : goal.returns-then-self-eq-WEEKLY_KIND
unfolding as_read
returns-then-self-eq-WEEKLY_KIND c = grind (arith, common_steps)

pub returns-else-self-eq-WEEKLY_KIND : goal.returns-else-self-eq-WEEKLY_KIND
unfolding as_read
returns-else-self-eq-WEEKLY_KIND c = grind (arith, common_steps)
