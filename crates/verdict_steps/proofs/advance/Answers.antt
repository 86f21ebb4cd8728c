-- `verdict_steps::advance` meets its contract. Assumes nothing.
use mathlib.Core.Path.{refl, sym, ap, subst, ◌∙◌}
use mathlib.Core.Bool.{Bool}
use native.Mathlib.Nat.{le_refl}
use native.Mathlib.Omega.{arith}
use lib.ListN.{length}
use Prim.Native.Nat.{◌-◌}
use Rattle.rules_items.specs.Items.{spans_in, rest_weeks}
use Rattle.verdict_completion.specs.declared.State.{State}
use Rattle.verdict_completion.specs.States.{advance, next_week}
use Rattle.verdict_completion.specs.Better.{Small}
use Rattle.verdict_steps.proofs.StepLaws.{advance_on, advance_broken, advance_done, next_small}
use Rattle.verdict_steps.proofs.advance.Goals as goal

pub loop-here-init : goal.loop-here-init
loop-here-init c = (c.requires.2, le_refl _, refl)

pub returns-then-not-keeps_pair : goal.returns-then-not-keeps_pair
returns-then-not-keeps_pair c = let rests = rest_weeks (spans_in c.args.rests.now.starts.now c.args.rests.now.ends.now (length c.args.rests.now.starts.now)) in
    sym (advance_broken rests c.loop-here.here c.args.to c.loop-here-test.true (sym
    c.keeps_pair.ensures ∙ c.if-not-keeps_pair.true)) ∙ c.loop-here.invariant.2

pub rest_near-rest-requires : goal.rest_near-rest-requires
rest_near-rest-requires c = let pre = c.requires in (
  pre.0,
  omega (arith, pre.1, c.loop-here-test.true),
  λ p. omega (arith, pre.3 p, c.loop-here.invariant.1),
  λ l. omega (arith, pre.4 l, c.loop-here-test.true),
)

pub loop-here-smaller : goal.loop-here-smaller
loop-here-smaller c = omega (arith, ap (λ (x : State). x.week) c.in_next_week-here.ensures, c.loop-here-test.true)

pub loop-here-preserved : goal.loop-here-preserved
loop-here-preserved c = let rests = rest_weeks (spans_in c.args.rests.now.starts.now c.args.rests.now.ends.now (length c.args.rests.now.starts.now)) in
    let there = c.in_next_week-here.ensures ∙ ap (λ (b : Bool). next_week b c.loop-here.here) c.rest_near-rest.ensures in (
      subst Small (sym c.in_next_week-here.ensures) (next_small c.loop-here.here c.rest_near-rest.result
          c.loop-here.invariant.0),
      omega (arith, ap (λ (x : State). x.week) c.in_next_week-here.ensures, c.loop-here.invariant.1),
      ap (λ (x : State). advance rests (c.args.to - x.week) x) there
          ∙ sym (advance_on rests c.loop-here.here
          c.args.to c.loop-here-test.true (sym
          c.keeps_pair.ensures ∙ c.if-not-keeps_pair.false))
          ∙ c.loop-here.invariant.2,
    )

pub returns : goal.returns
returns c = let rests = rest_weeks (spans_in c.args.rests.now.starts.now c.args.rests.now.ends.now (length c.args.rests.now.starts.now)) in
    sym (advance_done rests c.loop-here.here c.args.to c.loop-here-test.false) ∙ c.loop-here.invariant.2
