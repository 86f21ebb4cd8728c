-- `desk_report::put_spans` meets its contract. The invariant: the lines so far are put. Assumes nothing.
use Rattle.desk_report.proofs.SpanLines.{Lining}
use Rattle.desk_report.proofs.put_spans.Given as goal

abbrev pub invariant-loop-weeks : goal.invariant-loop-weeks
invariant-loop-weeks l = Lining l.initial.page l.spans l.page l.weeks-index
