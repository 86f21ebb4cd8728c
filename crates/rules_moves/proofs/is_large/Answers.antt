-- `rules_moves::is_large` meets its contract. Assumes nothing.
use borrow.Author.Tests.{lt-ltb, le-ltb}
use Rattle.recording.specs.Tests.{◌or◌}
use Rattle.rules_moves.proofs.is_large.Goals as goal

pub returns-then-week-gt-STORED_WEEK : goal.returns-then-week-gt-STORED_WEEK
unfolding ◌or◌
returns-then-week-gt-STORED_WEEK c = simp (lt-ltb _ _ c.if-week-gt-STORED_WEEK.true)

pub returns-else-week-gt-STORED_WEEK : goal.returns-else-week-gt-STORED_WEEK
unfolding ◌or◌
returns-else-week-gt-STORED_WEEK c = simp (le-ltb _ _ c.if-week-gt-STORED_WEEK.false, c.carrier_of.ensures)
