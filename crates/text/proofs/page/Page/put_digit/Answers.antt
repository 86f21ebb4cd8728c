-- `text::Page::put_digit` meets its contract. Assumes nothing.
use Rattle.text.proofs.Puts.{digit_none, digit_put}
use Rattle.text.proofs.page.Page.put_digit.Goals as goal

pub returns-then-n-value-clause-digit : goal.returns-then-n-value-clause-digit
returns-then-n-value-clause-digit c = digit_put _ _ _ c.if-n-value.true c.put.ensures

pub returns-else-n-value-clause-digit : goal.returns-else-n-value-clause-digit
returns-else-n-value-clause-digit c = digit_none _ _ _ c.if-n-value.false
