-- `rules_nets::OpenDay::after` meets its contract. Assumes nothing.
use mathlib.Core.Path.{◌∙◌}
use borrow.Author.Tests.{eq-eqb, ne_eqb}
use Rattle.recording.proofs.Activities.{no_rest}
use Rattle.rules_nets.specs.Nets.{closes}
use Rattle.rules_nets.proofs.OpenDay.after.Goals as goal

pub returns-then-run-eq0-clause-day : goal.returns-then-run-eq0-clause-day
unfolding closes
returns-then-run-eq0-clause-day c = simp (eq-eqb _ _ c.if-run-eq0.true)

pub returns-then-run-eq0-clause-nets : goal.returns-then-run-eq0-clause-nets
unfolding closes
returns-then-run-eq0-clause-nets c = simp (eq-eqb _ _ c.if-run-eq0.true)

pub returns-in-Rest-clause-day : goal.returns-in-Rest-clause-day
unfolding closes
returns-in-Rest-clause-day c = simp (ne_eqb _ _ c.if-run-eq0.false, c.in-Rest.is)

pub returns-in-Rest-clause-nets : goal.returns-in-Rest-clause-nets
unfolding closes
returns-in-Rest-clause-nets c = simp (ne_eqb _ _ c.if-run-eq0.false, c.in-Rest.is)

pub returns-in-Availability-clause-day : goal.returns-in-Availability-clause-day
unfolding closes
returns-in-Availability-clause-day c = c.after_rest.ensures.day ∙ simp (ne_eqb _ _ c.if-run-eq0.false, no_rest c.in-Availability.is)

pub returns-in-Availability-clause-nets : goal.returns-in-Availability-clause-nets
unfolding closes
returns-in-Availability-clause-nets c = c.after_rest.ensures.nets ∙ simp (ne_eqb _ _ c.if-run-eq0.false, no_rest c.in-Availability.is)
