-- `recording::Place::after` meets its contract. Assumes nothing.
use borrow.Author.Tests.{eq-eqb, ne_eqb}
use Rattle.recording.specs.Scan.{after_run}
use Rattle.recording.proofs.Activities.{no_rest, byte_is_one}
use Rattle.recording.proofs.Place.after.Goals as goal

pub returns-then-run-eq0 : goal.returns-then-run-eq0
unfolding after_run
returns-then-run-eq0 c = simp (eq-eqb _ _ c.if-run-eq0.true)

pub returns-in-Rest : goal.returns-in-Rest
unfolding after_run
returns-in-Rest c = simp (ne_eqb _ _ c.if-run-eq0.false, c.in-Rest.is)

pub returns-in-Availability : goal.returns-in-Availability
unfolding after_run
returns-in-Availability c = simp (ne_eqb _ _ c.if-run-eq0.false, no_rest c.in-Availability.is, c.from-ended.ensures, c.has_long_rest.ensures, byte_is_one)
