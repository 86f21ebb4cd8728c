-- `card_reader::end_before` meets its contract. Assumes nothing.
use native.Mathlib.Omega.{arith}
use mathlib.Core.Path.{sym, ap, ◌∙◌}
use Rattle.card_reader.specs.Reading.{end_before}
use Rattle.card_reader.proofs.Judging.{end_none, end_midnight, end_later}
use Rattle.card_reader.proofs.end_before.Goals as goal

pub returns-then-minute-ne0 : goal.returns-then-minute-ne0
returns-then-minute-ne0 c = (sym (ap end_before c.in-Some.ensures.steps ∙ end_later _ _ c.if-minute-ne0.true), omega arith)

pub returns-else-minute-ne0 : goal.returns-else-minute-ne0
returns-else-minute-ne0 c = (sym (ap end_before c.in-Some.ensures.steps ∙ end_midnight _ _ c.if-minute-ne0.false), omega arith)

pub returns-in_default : goal.returns-in_default
returns-in_default c = (sym (ap end_before c.in_default.ensures.steps.0 ∙ end_none), omega arith)
