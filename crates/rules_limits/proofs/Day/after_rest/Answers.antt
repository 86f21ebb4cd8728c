-- `rules_limits::Day::after_rest` meets its contract. Assumes nothing.
use borrow.Author.Tests.{le-leb, lt-leb}
use Rattle.recording.specs.Rests.{long_rest_minutes}
use Rattle.rules_limits.specs.Account.{day_after}
use Rattle.rules_limits.proofs.Day.after_rest.Goals as goal

pub returns-then-minutes-lt-LONG_REST : goal.returns-then-minutes-lt-LONG_REST
unfolding day_after
returns-then-minutes-lt-LONG_REST c = simp (lt-leb _ _ c.if-minutes-lt-LONG_REST.true)

pub returns-then-same_week : goal.returns-then-same_week
unfolding day_after
returns-then-same_week c = simp (le-leb long_rest_minutes _ c.if-minutes-lt-LONG_REST.false, le-leb _ _ c.if-same_week.true)

pub returns-else-same_week : goal.returns-else-same_week
unfolding day_after
returns-else-same_week c = simp (le-leb long_rest_minutes _ c.if-minutes-lt-LONG_REST.false, lt-leb _ _ c.if-same_week.false)
