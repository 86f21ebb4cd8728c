-- `verdict_sweep::visit_all` meets its contract. Assumes nothing.
use mathlib.Core.Bool.{false}
use Prim.Native.Nat.{◌+◌}
use Rattle.verdict_completion.specs.Courses.{course_of}
use Rattle.verdict_search.specs.Leading.{Any, SameLent}
use Rattle.verdict_sweep.specs.Sweep.{Visits}
use Rattle.verdict_sweep.proofs.visit_all.Given as goal

-- the entries before e are visited
abbrev pub invariant-loop-e : goal.invariant-loop-e
invariant-loop-e l = let c = course_of l.course in record {
  visits : Visits c (Any c l.j l.front l.e) (l.j + 1) l.initial.search l.search false;
  lent : SameLent l.initial.search l.search;
}
