-- `verdict_choosing::carries` meets its contract. Assumes nothing.
use mathlib.Core.Path.{sym, ◌∙◌}
use Prim.Native.Nat.{◌-◌}
use native.Mathlib.Omega.{arith}
use Rattle.verdict_completion.specs.Courses.{course_of}
use Rattle.verdict_steps.proofs.StepLaws.{says_no}
use Rattle.verdict_choosing.proofs.Placing.{carries_none, carries_late, carries_regular, carries_past, carries_fits}
use Rattle.verdict_choosing.proofs.carries.Goals as goal

pub returns-then-x-eq0 : goal.returns-then-x-eq0
returns-then-x-eq0 c =
    carries_late (course_of c.args.course.now) c.args.j c.args.w c.args.x c.if-x-eq0.true (λ z. c.if-less-eq0.false (c.lacking-less.ensures ∙ z))

pub returns-then-deadline-rests : goal.returns-then-deadline-rests
returns-then-deadline-rests c = says_no (carries_past (course_of c.args.course.now) c.args.j c.args.w c.args.x c.if-x-eq0.false c.if-deadline-rests.true)

pub returns : goal.returns
returns c =
    carries_fits (course_of c.args.course.now) c.args.j c.args.w c.args.x c.if-x-eq0.false (λ z. c.if-less-eq0-2.false (c.lacking-less.ensures ∙ z))
    (c.requires.later (omega (arith, c.if-x-eq0.false))) c.requires.number c.if-deadline-rests.false c.lacking-less.result c.lacking-less.ensures
