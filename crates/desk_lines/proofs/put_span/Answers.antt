-- `desk_lines::put_span` meets its contract. Assumes nothing.
use Rattle.text.proofs.Puts.{puts_then}
use Rattle.desk_lines.specs.Lines.{span_text}
use Rattle.desk_lines.proofs.put_span.Goals as goal

pub returns-clause-text : goal.returns-clause-text
unfolding span_text
returns-clause-text c = puts_then (puts_then c.put.ensures c.put_spaced.ensures.text) c.put_spaced-2.ensures.text
