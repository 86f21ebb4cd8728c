-- `verdict_breach::first_without` meets its contract. Assumes nothing.
use Prim.Native.Nat.{◌+◌, ◌-◌}
use Rattle.verdict_sweep.specs.Sweep.{SameFronts}
use Rattle.verdict_breach.proofs.Demands.{Asking}
use Rattle.verdict_breach.proofs.first_without.Given as goal

abbrev pub invariant-loop-judged : goal.invariant-loop-judged
invariant-loop-judged l = record {
  asking : Asking l.rests.starts.now l.rests.ends.now l.rests.nets.now l.rests.judged l.judged;
  lent : SameFronts l.initial.fronts l.fronts;
}

abbrev pub decreases-loop-judged : goal.decreases-loop-judged
decreases-loop-judged l = l.top + 1 - l.judged
