-- `rules_items::Item::is_formed` meets its contract. Assumes nothing.
use Rattle.std.proofs.Common.{arith}
use Rattle.std.proofs.lemmas.Grind.{common_steps}
use Rattle.recording.specs.Tests.{◌and◌, ◌or◌}
use Rattle.recording.specs.Weeks.{touches}
use Rattle.rules.specs.ReadingRules.{formed, formed_daily, formed_weekly}
use Rattle.rules_items.proofs.Item.is_formed.Goals as goal

pub returns-then-self-eq0 : goal.returns-then-self-eq0
unfolding formed formed_daily formed_weekly touches ◌and◌ ◌or◌
returns-then-self-eq0 c = grind (arith, common_steps)

pub returns-else-self-eq0 : goal.returns-else-self-eq0
unfolding formed formed_daily formed_weekly touches ◌and◌ ◌or◌
returns-else-self-eq0 c = grind (arith, common_steps)

pub returns-then-self-ne-WEEKLY_KIND : goal.returns-then-self-ne-WEEKLY_KIND
unfolding formed formed_daily formed_weekly touches ◌and◌ ◌or◌
returns-then-self-ne-WEEKLY_KIND c = grind (arith, common_steps)

pub returns-then-self-eq0-2 : goal.returns-then-self-eq0-2
unfolding formed formed_daily formed_weekly touches ◌and◌ ◌or◌
returns-then-self-eq0-2 c = grind (arith, common_steps)

pub returns-then-self-3 : goal.returns-then-self-3
unfolding formed formed_daily formed_weekly touches ◌and◌ ◌or◌
returns-then-self-3 c = grind (arith, common_steps)

pub returns-else-self-3 : goal.returns-else-self-3
unfolding formed formed_daily formed_weekly touches ◌and◌ ◌or◌
returns-else-self-3 c = grind (arith, common_steps)

pub returns-else-self-2 : goal.returns-else-self-2
unfolding formed formed_daily formed_weekly touches ◌and◌ ◌or◌
returns-else-self-2 c = grind (arith, common_steps)
