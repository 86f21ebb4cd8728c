-- `verdict_choosing::first_weekly` meets its contract. Assumes nothing.
use Prim.Native.Nat.{ℕ, ◌<◌, ◌≤◌}
use Rattle.recording.specs.Weeks.{week_of}
use Rattle.verdict_completion.specs.Completable.{at}
use Rattle.verdict_completion.specs.Courses.{course_of}
use Rattle.verdict_merging.specs.Merging.{nothing, Ready, SameRoom, StaysEmpty}
use Rattle.verdict_choosing.specs.Choices.{CanBeWeekly}
use Rattle.verdict_choosing.proofs.first_weekly.Given as goal

abbrev pub invariant-loop-week : goal.invariant-loop-week
invariant-loop-week l = let c = course_of l.course in record {
  ready : Ready c l.room;
  from : week_of (at c.starts l.j) ≤ l.week;
  none : (v y : ℕ) → v < l.week → CanBeWeekly c l.j l.here (nothing c) v y → ⊥;
  lent : SameRoom l.initial.room l.room;
  empty : StaysEmpty c l.initial.room l.room;
}
