-- `text::runs_of` meets its contract. Assumes nothing.
use mathlib.Core.Path.{refl, sym, ap, ◌∙◌}
use native.Mathlib.Omega.{arith}
use lib.ListN.{length}
use Rattle.std.specs.Prelude.{Some}
use Rattle.text.proofs.LineAfterLine.{stage_on, word_on, no_word_on, none_left, stage_done, over_told, wrong_told, not_over, text_few}
use Rattle.text.proofs.runs_of.Goals as goal

pub overflow_add-runs : goal.overflow_add-runs
overflow_add-runs c = omega (arith, c.loop-line.invariant.1, ap length (word_on c.in-Some.ensures.steps c.in-Run.is), text_few c.args.text.now)

pub loop-line-preserved-in-Run : goal.loop-line-preserved-in-Run
loop-line-preserved-in-Run c = (
  c.loop-line.invariant.0 ∙ stage_on c.in-Some.ensures.steps _ ∙ rw c.after-stage.ensures refl,
  omega (arith, c.loop-line.invariant.1, ap length (word_on c.in-Some.ensures.steps c.in-Run.is)),
)

pub loop-line-preserved : goal.loop-line-preserved
loop-line-preserved c = (
  c.loop-line.invariant.0 ∙ stage_on c.in-Some.ensures.steps _ ∙ rw c.after-stage.ensures refl,
  omega (arith, c.loop-line.invariant.1, ap length (no_word_on c.in-Some.ensures.steps c.in_default-line.not-Run)),
)

pub returns-in-Wrong : goal.returns-in-Wrong
returns-in-Wrong c = rw (← wrong_told c.args.text.now _ (c.loop-line.invariant.0 ∙ stage_on c.in-Some.ensures.steps _) (sym c.after-stage.ensures ∙ c.in-Wrong.is)) refl

pub returns-in-Over : goal.returns-in-Over
returns-in-Over c =
    let over = over_told c.args.text.now (c.loop-line.invariant.0 ∙ stage_done c.in-None.ensures.steps.0 _) in
    rw (← over, c.in-Over.is, c.loop-line.invariant.1, none_left c.in-None.ensures.steps.0) (ap Some (omega arith))

pub returns-in_default-stage : goal.returns-in_default-stage
returns-in_default-stage c =
    let over = over_told c.args.text.now (c.loop-line.invariant.0 ∙ stage_done c.in-None.ensures.steps.0 _) in
    rw (← over, not_over _ c.in_default-stage.not-Over) refl
