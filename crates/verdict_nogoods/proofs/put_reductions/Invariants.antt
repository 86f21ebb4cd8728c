-- `verdict_nogoods::put_reductions` meets its contract. Assumes nothing.
use Rattle.verdict_nogoods.specs.Table.{PutAll}
use Rattle.verdict_nogoods.proofs.put_reductions.Given as goal

abbrev pub invariant-loop-reduction : goal.invariant-loop-reduction
invariant-loop-reduction l = PutAll l.initial.words l.words l.p l.outstanding l.reduction-index l.d
