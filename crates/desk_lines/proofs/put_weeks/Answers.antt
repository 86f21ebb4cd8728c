-- `desk_lines::put_weeks` meets its contract. Assumes nothing.
use Rattle.text.proofs.Puts.{puts_then}
use Rattle.desk_lines.specs.Lines.{weeks_text}
use Rattle.desk_lines.proofs.put_weeks.Goals as goal

pub returns : goal.returns
unfolding weeks_text
returns c = puts_then c.put_span.ensures.text c.put.ensures
