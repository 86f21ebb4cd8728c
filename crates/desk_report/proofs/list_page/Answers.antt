-- `desk_report::list_page` meets its contract. Assumes nothing.
use native.Mathlib.Omega.{arith}
use Rattle.text.proofs.Puts.{puts_then}
use Rattle.desk_report.proofs.SpanLines.{lines_short}
use Rattle.desk_report.proofs.list_page.Goals as goal

pub put-requires-2 : goal.put-requires-2
put-requires-2 c = omega (arith, c.requires, c.put.ensures.put.next_is, c.put_spans.ensures.put.next_is, lines_short c.args.spans.now)

pub returns : goal.returns
returns c = puts_then (puts_then c.put.ensures c.put_spans.ensures) c.put-2.ensures
