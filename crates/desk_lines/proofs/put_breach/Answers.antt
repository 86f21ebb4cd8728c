-- `desk_lines::put_breach` meets its contract. Assumes nothing.
use Rattle.text.proofs.Puts.{puts_then}
use Rattle.desk_lines.specs.Lines.{breach_text}
use Rattle.desk_lines.proofs.put_breach.Goals as goal

pub returns-clause-text : goal.returns-clause-text
unfolding breach_text
returns-clause-text c =
    let three = puts_then (puts_then c.put.ensures c.put_spaced.ensures.text) c.put-2.ensures in
    puts_then (puts_then three (rw (← c.article_name.ensures.name) c.put-3.ensures)) c.put-4.ensures
