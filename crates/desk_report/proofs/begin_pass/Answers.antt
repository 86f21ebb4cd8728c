-- `desk_report::begin_pass` meets its contract. Assumes nothing.
use Rattle.text.proofs.Puts.{puts_then}
use Rattle.desk_report.proofs.begin_pass.Goals as goal

pub returns : goal.returns
returns c = puts_then (puts_then (puts_then c.put.ensures c.put_numbered.ensures.text) c.put_numbered-2.ensures.text) c.put-2.ensures
