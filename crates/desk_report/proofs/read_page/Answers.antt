-- `desk_report::read_page` meets its contract. Assumes nothing.
use Rattle.desk_report.specs.Composing.{read_text}
use Rattle.desk_report.proofs.read_page.Goals as goal

pub returns-in-Err : goal.returns-in-Err
unfolding read_text
returns-in-Err c = rw c.in-Err.is c.refusal_page.ensures

pub returns-in-Ok : goal.returns-in-Ok
unfolding read_text
returns-in-Ok c = rw c.in-Ok.is c.words_page.ensures
