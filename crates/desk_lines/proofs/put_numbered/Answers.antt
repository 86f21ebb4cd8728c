-- `desk_lines::put_numbered` meets its contract. Assumes nothing.
use Rattle.text.proofs.Puts.{puts_then}
use Rattle.desk_lines.specs.Lines.{numbered}
use Rattle.desk_lines.proofs.put_numbered.Goals as goal

pub returns-clause-text : goal.returns-clause-text
unfolding numbered
returns-clause-text c = puts_then (puts_then c.put.ensures c.put_spaced.ensures.text) c.put-2.ensures
