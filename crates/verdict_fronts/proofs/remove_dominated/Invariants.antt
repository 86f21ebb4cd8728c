-- `verdict_fronts::remove_dominated` meets its contract. Assumes nothing.
use Rattle.verdict_fronts.specs.Front.{Removed}
use Rattle.verdict_fronts.proofs.remove_dominated.Given as goal

abbrev pub invariant-loop-i : goal.invariant-loop-i
invariant-loop-i l = Removed l.initial.front l.front l.new l.i l.r
