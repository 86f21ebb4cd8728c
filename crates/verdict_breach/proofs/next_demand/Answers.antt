-- `verdict_breach::next_demand` meets its contract. Assumes nothing.
use native.Mathlib.Omega.{arith}
use Rattle.verdict_breach.proofs.Demands.{start_demands, demands_on, demands_done}
use Rattle.verdict_breach.proofs.next_demand.Goals as goal

pub loop-end-init : goal.loop-end-init
loop-end-init c = start_demands _ (omega arith) c.gap_end-next.ensures

pub gap_end-next-requires-in-loop-end : goal.gap_end-next-requires-in-loop-end
gap_end-next-requires-in-loop-end c = c.requires.1 _ c.loop-end-test.true

pub loop-end-preserved : goal.loop-end-preserved
loop-end-preserved c = demands_on c.loop-end.invariant c.gap_end-next-in-loop-end.ensures

pub returns : goal.returns
returns c = demands_done c.loop-end.invariant (omega arith)
