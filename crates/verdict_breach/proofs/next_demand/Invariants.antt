-- `verdict_breach::next_demand` meets its contract. Assumes nothing.
use Rattle.verdict_breach.proofs.Demands.{Demands}
use Rattle.verdict_breach.proofs.next_demand.Given as goal

abbrev pub invariant-loop-end : goal.invariant-loop-end
invariant-loop-end l = Demands l.ends l.s l.next l.end-index
