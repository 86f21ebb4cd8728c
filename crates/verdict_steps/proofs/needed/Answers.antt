-- `verdict_steps::needed` meets its contract. Assumes nothing.
use borrow.Author.Tests.{lt-ltb, le-ltb}
use Rattle.verdict_steps.proofs.StepLaws.{deadline_after, deadline_by}
use Rattle.verdict_steps.proofs.needed.Goals as goal

pub returns-then-s-reduction : goal.returns-then-s-reduction
returns-then-s-reduction c = simp (lt-ltb _ _ (deadline_after _ _ c.if-s-reduction.true))

pub returns : goal.returns
returns c = simp (le-ltb _ _ (deadline_by _ _ c.if-s-reduction.false))
