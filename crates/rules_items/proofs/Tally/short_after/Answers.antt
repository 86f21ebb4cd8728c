-- `rules_items::Tally::short_after` meets its contract. Assumes nothing.
use Rattle.std.proofs.Common.{arith}
use Rattle.std.proofs.lemmas.Grind.{common_steps}
use Rattle.rules.specs.Reading.{as_read}
use Rattle.rules_items.specs.Items.{short_after}
use Rattle.rules_items.proofs.Tally.short_after.Goals as goal

pub returns-in-Daily : goal.returns-in-Daily
unfolding short_after as_read
returns-in-Daily c = grind (arith, common_steps)

pub returns-in-Weekly : goal.returns-in-Weekly
unfolding short_after as_read
returns-in-Weekly c = grind (arith, common_steps)
