-- `desk_report::compose` meets its contract. Assumes nothing.
use borrow.Author.Rules.{rules}
use mathlib.Core.Path.{ap}
use Rattle.desk_report.proofs.Answered.{put_anew}
use Rattle.desk_report.proofs.compose.Goals as goal

pub returns : goal.returns
returns c =
    let k = put_anew (ap (λ b. b.now) c.new-page.ensures.bytes) c.new-page.ensures.length c.input_page.ensures in
    record { next_is = k.next_is; text_is = search (rules, k.text_is) }
