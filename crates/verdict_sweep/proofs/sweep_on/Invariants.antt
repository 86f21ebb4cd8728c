-- `verdict_sweep::sweep_on` meets its contract. Assumes nothing.
use mathlib.Core.Bool.{false}
use Rattle.verdict_completion.specs.Courses.{course_of}
use Rattle.verdict_sweep.specs.Sweep.{SameFronts, Passes}
use Rattle.verdict_sweep.proofs.sweep_on.Given as goal

-- the rests before that of index i are passed
abbrev pub invariant-loop-i : goal.invariant-loop-i
invariant-loop-i l = record {
  passes : Passes (course_of l.course) l.j l.initial.fronts l.i l.fronts l.nogoods false;
  lent : SameFronts l.initial.fronts l.fronts;
}
