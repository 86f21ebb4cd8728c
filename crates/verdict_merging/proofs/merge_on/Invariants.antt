-- `verdict_merging::merge_on` meets its contract. Assumes nothing.
use Rattle.verdict_completion.specs.Courses.{course_of}
use Rattle.verdict_search.proofs.Leading.{Equal}
use Rattle.verdict_merging.specs.Merging.{Ready, SameRoom, Abreast, AnyAsked, Trusted}
use Rattle.verdict_merging.proofs.merge_on.Given as goal

abbrev pub invariant-loop-i : goal.invariant-loop-i
invariant-loop-i l = let c = course_of l.course in record {
  ready : Ready c l.room;
  abreast : Abreast c l.i l.room;
  question : Equal (AnyAsked c l.j l.initial.room) (AnyAsked c l.i l.room);
  trusts : Trusted c l.j l.initial.room → Trusted c l.i l.room;
  lent : SameRoom l.initial.room l.room;
}
