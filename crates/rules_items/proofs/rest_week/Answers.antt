-- `rules_items::rest_week` meets its contract. Assumes nothing.
use Rattle.std.proofs.Common.{arith, sym, ◌∙◌}
use Rattle.rules_items.proofs.PairLaws.{look_start, look_found, look_on, look_none}
use Rattle.rules_items.proofs.rest_week.Goals as goal

pub loop-i-init : goal.loop-i-init
loop-i-init c = look_start _ _ _ _

pub returns-then-holds_week : goal.returns-then-holds_week
returns-then-holds_week c = look_found _ _ _ _ c.loop-i.invariant c.loop-i-test.true (sym c.holds_week.ensures ∙ c.if-holds_week.true)

pub loop-i-preserved : goal.loop-i-preserved
loop-i-preserved c = look_on _ _ _ _ c.loop-i.invariant c.loop-i-test.true (sym c.holds_week.ensures ∙ c.if-holds_week.false)

pub returns : goal.returns
returns c = look_none _ _ _ _ c.loop-i.invariant (omega arith)
