-- `recording::Place::ends_rest` meets its contract. Assumes nothing.
use borrow.Author.Tests.{eq-eqb, ne_eqb}
use Rattle.recording.specs.Scan.{ends_rest}
use Rattle.recording.proofs.Activities.{no_rest}
use Rattle.recording.proofs.Place.ends_rest.Goals as goal

pub returns-then-run-eq0 : goal.returns-then-run-eq0
unfolding ends_rest
returns-then-run-eq0 c = simp (eq-eqb _ _ c.if-run-eq0.true)

pub returns-in-Rest : goal.returns-in-Rest
unfolding ends_rest
returns-in-Rest c = simp (ne_eqb _ _ c.if-run-eq0.false, c.in-Rest.is)

pub returns-in-Availability : goal.returns-in-Availability
unfolding ends_rest
returns-in-Availability c = simp (ne_eqb _ _ c.if-run-eq0.false, no_rest c.in-Availability.is, c.has_long_rest-long.ensures)
