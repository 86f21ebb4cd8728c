-- `desk_report::spans_page` meets its contract. Assumes nothing.
use mathlib.Core.Path.{refl}
use Rattle.desk_report.proofs.SpanLines.{page_refused, page_listed}
use Rattle.desk_report.proofs.spans_page.Goals as goal

pub returns-in-Err : goal.returns-in-Err
returns-in-Err c = rw (page_refused c.args.words.now _ c.in-Err.ensures.answer) c.refusal_page.ensures

pub list_page-requires : goal.list_page-requires
list_page-requires c = (c.requires, (page_listed c.args.words.now _ _ refl c.in-Ok.ensures.answer c.in-Ok.ensures.list_after).most)

pub returns-in-Ok : goal.returns-in-Ok
returns-in-Ok c = rw (page_listed c.args.words.now _ _ refl c.in-Ok.ensures.answer c.in-Ok.ensures.list_after).text c.list_page.ensures
