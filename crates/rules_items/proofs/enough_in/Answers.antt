-- `rules_items::enough_in` meets its contract. Assumes nothing.
use Rattle.std.proofs.Common.{◌∙◌}
use borrow.Author.Tests.{lt-leb}
use Rattle.rules_items.proofs.PairLaws.{enough_few, enough_both}
use Rattle.rules_items.proofs.enough_in.Goals as goal

pub returns-then-counted_in-ge-WEEKLY_AT_LEAST : goal.returns-then-counted_in-ge-WEEKLY_AT_LEAST
returns-then-counted_in-ge-WEEKLY_AT_LEAST c = enough_both _ _ _ _ c.rest_week-here.ensures c.rest_week-there.ensures c.counted_in.ensures c.counted_in-2.ensures
    c.if-counted_in-ge-WEEKLY_AT_LEAST.true c.counted_in-then-counted_in-ge-WEEKLY_AT_LEAST.ensures c.counted_in-then-counted_in-ge-WEEKLY_AT_LEAST-2.ensures

pub returns-else-counted_in-ge-WEEKLY_AT_LEAST : goal.returns-else-counted_in-ge-WEEKLY_AT_LEAST
returns-else-counted_in-ge-WEEKLY_AT_LEAST c = lt-leb _ _ c.if-counted_in-ge-WEEKLY_AT_LEAST.false
    ∙ enough_few _ _ _ _ c.rest_week-here.ensures c.rest_week-there.ensures c.counted_in.ensures c.counted_in-2.ensures c.if-counted_in-ge-WEEKLY_AT_LEAST.false
