-- `verdict_sweep::sweep_on` meets its contract. Assumes nothing.
use mathlib.Core.Path.{refl, ◌∙◌}
use mathlib.Core.Bool.{false≢true, true≢false}
use native.Mathlib.Omega.{arith}
use Rattle.verdict_completion.specs.Courses.{course_of}
use Rattle.verdict_sweep.proofs.Sweeps as sweeps
use Rattle.verdict_sweep.proofs.sweep_on.Goals as goal

pub loop-i-init : goal.loop-i-init
loop-i-init c = record { passes = sweeps.passed_self c.requires.sound c.requires.front; lent = sweeps.fronts_self }

pub sweep_rest-requires : goal.sweep_rest-requires
sweep_rest-requires c = let p = c.loop-i.invariant.passes in record {
  slots = c.loop-i.auto.slots ∙ c.requires.slots;
  sound = p.sound;
  within = c.loop-i-test.true;
  front = p.well;
}

pub returns-then-sweep_rest : goal.returns-then-sweep_rest
returns-then-sweep_rest c = let i = c.loop-i.invariant in
    let r = c.sweep_rest.ensures in record {
      told = record {
        yes = λ _. i.passes.from refl (r.passes.yes c.if-sweep_rest.true);
        no = λ h. absurd (true≢false h);
        sound = r.passes.sound;
      };
      lent = sweeps.fronts_on i.lent r.lent;
    }

pub returns-then-fronts-eq0 : goal.returns-then-fronts-eq0
returns-then-fronts-eq0 c = let i = c.loop-i.invariant in
    let r = c.sweep_rest.ensures in record {
      told = record {
        yes = λ h. absurd (false≢true h);
        no = λ _ p. let a = r.passes.leads c.if-sweep_rest.false (i.passes.leads refl p) in omega (arith, a.below, c.if-fronts-eq0.true);
        sound = r.passes.sound;
      };
      lent = sweeps.fronts_on i.lent r.lent;
    }

pub loop-i-preserved : goal.loop-i-preserved
loop-i-preserved c = let i = c.loop-i.invariant in
    let r = c.sweep_rest.ensures in record {
      passes = sweeps.passed_then refl i.passes (sweeps.passed_known c.if-sweep_rest.false r.passes);
      lent = sweeps.fronts_on i.lent r.lent;
    }

pub returns : goal.returns
returns c = let i = c.loop-i.invariant in record {
  told = record {
    yes = λ h. absurd (false≢true h);
    no = λ _ p. sweeps.past_end (course_of c.args.course.now) c.loop-i-test.false i.passes.well (i.passes.leads refl p);
    sound = i.passes.sound;
  };
  lent = i.lent;
}
