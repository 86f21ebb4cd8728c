-- `desk_report::put_rests` meets its contract. The invariant: the lines that are left, put from here on, make what the whole makes. Assumes nothing.
use Rattle.desk_report.proofs.RestLines.{Going}
use Rattle.desk_report.proofs.put_rests.Given as goal

abbrev pub invariant-loop-i : goal.invariant-loop-i
invariant-loop-i l = Going l.initial.page l.starts l.ends l.reading l.page l.i
