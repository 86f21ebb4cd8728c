-- `verdict_sweep::first_front` meets its contract. Assumes nothing.
use mathlib.Core.Path.{refl}
use native.Mathlib.Omega.{arith}
use Rattle.std.proofs.Common.{rules}
use Rattle.verdict_completion.specs.Courses.{course_of}
use Rattle.verdict_search.proofs.Slots as law
use Rattle.verdict_search.proofs.Chain as chain
use Rattle.verdict_search.proofs.Leading as led
use Rattle.verdict_sweep.proofs.Sweeps as sweeps
use Rattle.verdict_sweep.proofs.first_front.Goals as goal

pub step-requires : goal.step-requires
step-requires c = let k = course_of c.args.course.now in record {
  given = record {
    slots = record { one_each = c.requires.free.one_each; below = omega arith; unused = c.requires.free.unused };
    sound = c.requires.sound;
    well = law.front_none k c.args.j _;
  };
  before = c.requires.before;
}

pub returns-then-step-clause-leads : goal.returns-then-step-clause-leads
returns-then-step-clause-leads c = let k = course_of c.args.course.now in
    let v = c.step.ensures.leads in
    sweeps.passed_same (sweeps.passed_yes refl (v.yes c.if-step.true) v.sound (law.front_none k c.args.j c.step.new.search.next.now)) (search rules) (search rules)

pub returns-clause-leads : goal.returns-clause-leads
returns-clause-leads c = let k = course_of c.args.course.now in
    sweeps.passed_same (sweeps.passed_no (chain.no_entry k c.args.j _) (led.known c.if-step.false c.step.ensures.leads)) (search rules) (search rules)
