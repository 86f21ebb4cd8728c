-- `verdict_choosing::first_carrier` meets its contract. Assumes nothing.
use Prim.Native.Nat.{ℕ, ◌+◌, ◌<◌}
use Rattle.verdict_completion.specs.Courses.{course_of}
use Rattle.verdict_merging.specs.Merging.{nothing, Ready, SameRoom, StaysEmpty}
use Rattle.verdict_choosing.specs.Choices.{CanHave}
use Rattle.verdict_choosing.proofs.first_carrier.Given as goal

abbrev pub invariant-loop-x : goal.invariant-loop-x
invariant-loop-x l = let c = course_of l.course in record {
  ready : Ready c l.room;
  later : l.j + 1 < l.x;
  none : (y : ℕ) → y < l.x → CanHave c l.j l.w l.next (nothing c) y → ⊥;
  lent : SameRoom l.initial.room l.room;
  empty : StaysEmpty c l.initial.room l.room;
}
