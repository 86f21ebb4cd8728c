-- `verdict_merging::beside_rest` meets its contract. Assumes nothing.
use mathlib.Core.Path.{◌∙◌}
use Prim.Native.Nat.{◌+◌}
use native.Mathlib.Omega.{arith}
use Rattle.verdict_completion.specs.Courses.{course_of}
use Rattle.verdict_completion.proofs.Courses.{lies_with}
use Rattle.verdict_search.proofs.Slots as law
use Rattle.verdict_merging.proofs.Merging as merging
use Rattle.verdict_merging.proofs.beside_rest.Goals as goal

pub returns-clause-besides : goal.returns-clause-besides
returns-clause-besides c = let r = c.args.course.now in
    let went = c.sweep_rest.ensures.passes in
    let left = c.sweep_rest-2.ensures.passes in
    merging.beside_both c.if-sweep_rest.false went c.if-sweep_rest-2.false left (omega (arith, c.if-room-eq0-2.false))
    (λ y. let m = c.all_matched.ensures y in merging.merged (course_of r) (lies_with r.rests r.compensations.now) (c.args.j + 1) left.well went.well m.1)
    (record { one_each = c.sweep_rest-2.auto.slots ∙ c.sweep_rest.auto.slots ∙ c.requires.ready.one_each; sound = left.sound })
    (record { asked = went.well; known = left.well })

pub returns-then-sweep_rest-2-clause-besides : goal.returns-then-sweep_rest-2-clause-besides
returns-then-sweep_rest-2-clause-besides c =
    let went = c.sweep_rest.ensures.passes in
    merging.beside_alone c.if-sweep_rest.false went
    (record { one_each = c.sweep_rest-2.auto.slots ∙ c.sweep_rest.auto.slots ∙ c.requires.ready.one_each; sound = c.sweep_rest-2.ensures.passes.sound })
    (record { asked = went.well; known = law.front_none (course_of c.args.course.now) (c.args.j + 1) _ })
