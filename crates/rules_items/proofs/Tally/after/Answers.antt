-- `rules_items::Tally::after` meets its contract. Assumes nothing.
use Rattle.std.proofs.Common.{refl}
use Rattle.rules_items.specs.Items.{broken_by, tally_by}
use Rattle.rules_items.proofs.Tally.after.Goals as goal

pub returns : goal.returns
unfolding tally_by broken_by
returns c = rw (
  c.smaller_rule.ensures,
  c.broken_by.ensures,
  c.in_gap-near.ensures,
  c.in_time-timely.ensures,
  c.last_after.ensures,
  c.short_after-short.ensures,
  c.requires.1,
) refl
