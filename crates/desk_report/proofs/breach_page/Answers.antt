-- `desk_report::breach_page` meets its contract. Assumes nothing.
use Rattle.text.proofs.Puts.{puts_then}
use Rattle.rules.specs.Numbers.{number_of_article}
use Rattle.desk_report.proofs.Pages.{breach_whole}
use Rattle.desk_report.proofs.breach_page.Goals as goal

pub returns : goal.returns
returns c =
    let three = puts_then (puts_then c.put.ensures c.put_numbered.ensures.text) c.put_breach.ensures.text in
    breach_whole c.args.words.now c.args.minute (number_of_article c.args.article) c.place_of-place.ensures (puts_then three c.put-2.ensures)
