-- `desk_report::put_spans` meets its contract. Assumes nothing.
use Rattle.desk_report.proofs.SpanLines.{take_more, start_lining, line_room, line_on, lines_done}
use Rattle.desk_report.proofs.put_spans.Goals as goal

pub loop-weeks-init : goal.loop-weeks-init
loop-weeks-init c = start_lining _ _

pub put_weeks-requires : goal.put_weeks-requires
put_weeks-requires c = line_room c.loop-weeks.invariant c.loop-weeks-test.true c.requires.1 c.requires.0

pub loop-weeks-preserved : goal.loop-weeks-preserved
loop-weeks-preserved c = line_on c.loop-weeks.invariant _ (take_more _ _ _ c.loop-weeks-test.true) c.put_weeks.ensures

pub returns : goal.returns
returns c = lines_done c.loop-weeks.invariant c.loop-weeks-test.false
