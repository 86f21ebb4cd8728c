-- `rules_reading::form_test` meets its contract. Assumes nothing.
use Rattle.std.proofs.Common.{arith, sym, ◌∙◌}
use Rattle.rules_reading.proofs.WalkLaws.{form_start, form_on, form_broken, form_done}
use Rattle.rules_reading.proofs.form_test.Goals as goal

pub loop-i-init : goal.loop-i-init
loop-i-init c = form_start _ _ _ _

pub returns-then-not-is_formed : goal.returns-then-not-is_formed
returns-then-not-is_formed c = form_broken _ _ _ _ c.loop-i.invariant c.args.rests.nets.now c.args.compensations.now (omega (arith, c.requires.entries)) c.loop-i-test.true
    (sym (rw c.item_at-x.ensures at c.is_formed.ensures) ∙ c.if-not-is_formed.true)

pub loop-i-preserved : goal.loop-i-preserved
loop-i-preserved c = form_on _ _ _ _ c.loop-i.invariant c.args.rests.nets.now c.args.compensations.now (omega (arith, c.requires.entries)) c.loop-i-test.true
    (sym (rw c.item_at-x.ensures at c.is_formed.ensures) ∙ c.if-not-is_formed.false)

pub returns : goal.returns
returns c = form_done _ _ _ _ c.loop-i.invariant (omega arith)
