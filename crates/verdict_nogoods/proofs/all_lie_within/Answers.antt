-- `verdict_nogoods::all_lie_within` meets its contract. Assumes nothing.
use Rattle.std.proofs.Common.{arith}
use borrow.Author.Tests.{eqb-true}
use Rattle.verdict_nogoods.proofs.TableLaws.{paired_start, paired_past, paired_on, paired_all}
use Rattle.verdict_nogoods.proofs.all_lie_within.Goals as goal
use Rattle.verdict_nogoods.proofs.all_lie_within.Goals.{then-lies_within, else-lies_within}

pub loop-i-init : goal.loop-i-init
loop-i-init c = (omega arith, paired_start _ _)

pub returns-then-d-stored : goal.returns-then-d-stored
returns-then-d-stored c = λ _. paired_all c.loop-i.invariant.1 (omega arith)

pub loop-i-preserved : goal.loop-i-preserved
loop-i-preserved c = elim c.if-lies_within.branch [
  | then-lies_within w ↦ rw w.d-is (omega arith, paired_on c.loop-i.invariant.1 (c.lies_within.ensures w.if-lies_within.true))
  | else-lies_within w ↦ rw w.d-is (c.loop-i.invariant.0, paired_past c.loop-i.invariant.1)
]

pub returns : goal.returns
returns c = λ e. paired_all c.loop-i.invariant.1 (omega (arith, eqb-true _ _ e))
