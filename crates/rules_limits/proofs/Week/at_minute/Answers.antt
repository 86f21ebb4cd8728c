-- `rules_limits::Week::at_minute` meets its contract. Assumes nothing.
use borrow.Author.Tests.{eq-eqb, ne_eqb}
use Rattle.rules_limits.specs.Account.{week_next}
use Rattle.rules_limits.proofs.Week.at_minute.Goals as goal

pub returns-then-minute-self : goal.returns-then-minute-self
unfolding week_next
returns-then-minute-self c = simp (ne_eqb _ _ c.if-minute-self.true)

pub returns : goal.returns
unfolding week_next
returns c = simp (eq-eqb _ _ c.if-minute-self.false)
