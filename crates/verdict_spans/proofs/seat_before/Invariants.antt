-- `verdict_spans::seat_before` meets its contract. Assumes nothing.
use Rattle.verdict_spans.specs.Mondays.{Reaches}
use Rattle.verdict_spans.proofs.seat_before.Given as goal

abbrev pub invariant-loop-start : goal.invariant-loop-start
invariant-loop-start l = Reaches l.words l.minute (record { index = l.index; start = l.start })

abbrev pub decreases-loop-start : goal.decreases-loop-start
decreases-loop-start l = l.index
