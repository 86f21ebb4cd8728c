-- `text::left_after` meets its contract. Assumes nothing.
use borrow.Author.Tests.{eq-eqb, ne_eqb}
use Rattle.text.specs.Passes.{left_after}
use Rattle.text.proofs.left_after.Goals as goal

pub returns-then-left-n : goal.returns-then-left-n
unfolding left_after
returns-then-left-n c = rw (eq-eqb _ _ c.if-left-n.true)

pub returns : goal.returns
unfolding left_after
returns c = rw (ne_eqb _ _ c.if-left-n.false)
