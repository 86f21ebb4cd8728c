-- `text_lines::first_line` meets its contract. Assumes nothing.
use Rattle.text_lines.proofs.Lines.{first_open, first_cut}
use Rattle.text_lines.proofs.first_line.Goals as goal

pub returns-in_default : goal.returns-in_default
returns-in_default c = first_open c.args.text.now c.if-is_empty.ensures c.in_default.ensures

pub returns : goal.returns
returns c = first_cut c.args.text.now c.in-Some.ensures c.line_of.ensures
