-- `verdict_sweep::sweep_to` meets its contract. Assumes nothing.
use mathlib.Core.Path.{◌≡◌, refl, subst, ◌∙◌}
use mathlib.Core.Bool.{false}
use Prim.Native.Nat.{ℕ}
use native.Mathlib.Omega.{arith}
use Rattle.verdict_completion.specs.Courses.{course_of}
use Rattle.verdict_sweep.specs.Sweep.{Passes}
use Rattle.verdict_search.proofs.Slots as law
use Rattle.verdict_sweep.proofs.Sweeps as sweeps
use Rattle.verdict_sweep.proofs.sweep_to.Goals as goal

pub loop-i-init : goal.loop-i-init
loop-i-init c = record { passes = sweeps.passed_self c.requires.sound c.requires.front; lent = sweeps.fronts_self }

pub sweep_rest-requires : goal.sweep_rest-requires
sweep_rest-requires c = let p = c.loop-i.invariant.passes in record {
  slots = c.loop-i.auto.slots ∙ c.requires.slots;
  sound = p.sound;
  within = omega (arith, c.loop-i-test.true, c.requires.within.1);
  front = p.well;
}

pub returns-then-sweep_rest-clause-passes : goal.returns-then-sweep_rest-clause-passes
returns-then-sweep_rest-clause-passes c = let k = course_of c.args.course.now in
    let p = c.sweep_rest.ensures.passes in
    sweeps.passed_yes refl (c.loop-i.invariant.passes.from refl (p.yes c.if-sweep_rest.true)) p.sound (law.front_none k c.args.to _)

pub returns-then-sweep_rest-clause-lent : goal.returns-then-sweep_rest-clause-lent
returns-then-sweep_rest-clause-lent c = sweeps.fronts_counted 0 (sweeps.fronts_on c.loop-i.invariant.lent c.sweep_rest.ensures.lent)

pub loop-i-preserved : goal.loop-i-preserved
loop-i-preserved c = let i = c.loop-i.invariant in
    let r = c.sweep_rest.ensures in record {
      passes = sweeps.passed_then refl i.passes (sweeps.passed_known c.if-sweep_rest.false r.passes);
      lent = sweeps.fronts_on i.lent r.lent;
    }

pub returns-clause-passes : goal.returns-clause-passes
returns-clause-passes c = let e : c.loop-i.i ≡ c.args.to = omega (arith, c.loop-i-test.false, c.loop-i.auto.i-end c.requires.within.0) in
    subst (λ (x : ℕ). Passes (course_of c.args.course.now) c.args.j c.args.fronts.now x c.loop-i.fronts c.loop-i.nogoods false) e c.loop-i.invariant.passes
