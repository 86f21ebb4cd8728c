-- `verdict_breach::last_day` meets its contract. Assumes nothing.
use Prim.Native.Nat.{◌-◌}
use Rattle.verdict_sweep.specs.Sweep.{SameFronts}
use Rattle.verdict_breach.proofs.Halving.{Halving}
use Rattle.verdict_breach.proofs.last_day.Given as goal

abbrev pub invariant-loop-high : goal.invariant-loop-high
invariant-loop-high l = record {
  halving : Halving l.rests.starts.now l.rests.ends.now l.rests.nets.now l.bound l.low l.high;
  lent : SameFronts l.initial.fronts l.fronts;
}

abbrev pub decreases-loop-high : goal.decreases-loop-high
decreases-loop-high l = l.high - l.low
