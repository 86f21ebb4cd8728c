-- `text::Page::put_number` meets its contract. Assumes nothing.
use Rattle.text.proofs.Puts.{puts_then}
use Rattle.text_lines.specs.Form.{decimal}
use Rattle.text.proofs.page.Page.put_number.Goals as goal

pub returns-clause-number : goal.returns-clause-number
unfolding decimal
returns-clause-number c =
    let three = puts_then (puts_then c.put_digit.ensures.digit c.put_digit-2.ensures.digit) c.put_digit-3.ensures.digit in
    puts_then (puts_then (puts_then three c.put_digit-4.ensures.digit) c.put_digit-5.ensures.digit) c.put.ensures
