-- `desk_report::refusal_page` meets its contract. Assumes nothing.
use Rattle.text.proofs.Puts.{puts_then}
use Rattle.desk_report.proofs.refusal_page.Goals as goal

pub returns : goal.returns
returns c = rw (← c.from.ensures) (puts_then (puts_then c.put.ensures c.put_numbered.ensures.text) c.put-2.ensures)
