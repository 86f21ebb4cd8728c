-- `verdict_sweep::next_front` meets its contract. Assumes nothing.
use mathlib.Core.Path.{refl}
use Prim.Native.Nat.{◌+◌}
use Rattle.std.proofs.Common.{rules}
use Rattle.verdict_completion.specs.Courses.{course_of}
use Rattle.verdict_search.proofs.Slots as law
use Rattle.verdict_search.proofs.Chain as chain
use Rattle.verdict_search.proofs.Leading as led
use Rattle.verdict_sweep.proofs.Sweeps as sweeps
use Rattle.verdict_sweep.proofs.next_front.Goals as goal

pub returns-then-visit_all : goal.returns-then-visit_all
returns-then-visit_all c = let k = course_of c.args.course.now in
    let v = c.visit_all.ensures.visits in
    sweeps.passed_same (sweeps.passed_yes refl (v.yes c.if-visit_all.true) v.sound (law.front_none k (c.args.j + 1) c.visit_all.new.search.next.now)) (search rules) (search rules)

pub returns : goal.returns
returns c = let k = course_of c.args.course.now in
    sweeps.passed_same (sweeps.passed_no (chain.no_entry k (c.args.j + 1) _) (led.known c.if-visit_all.false c.visit_all.ensures.visits)) (search rules) (search rules)
