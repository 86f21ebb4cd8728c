-- `verdict_spans::spans_within` meets its contract. Assumes nothing.
use Rattle.verdict_sweep.specs.Sweep.{SameFronts}
use Rattle.verdict_spans.proofs.Putting.{Putting}
use Rattle.verdict_spans.proofs.spans_within.Given as goal

abbrev pub invariant-loop-first : goal.invariant-loop-first
invariant-loop-first l = record {
  putting : Putting l.words l.spans l.seat l.first l.nearest l.place;
  lent : SameFronts l.initial.fronts l.fronts;
}

abbrev pub decreases-loop-first : goal.decreases-loop-first
decreases-loop-first l = l.first
