-- The long rests of a recording lie in order, whatever compensations they have. Assumes nothing.
use mathlib.Core.List.{List}
use Prim.Native.Nat.{ℕ}
use Rattle.verdict_completion.specs.declared.course.LongRests.{LongRests}
use Rattle.verdict_completion.specs.Completable.{Lies}
use Rattle.verdict_completion.specs.Courses.{course_with}

pub lies_with : (rests : LongRests) (compensations : List ℕ) → Lies (course_with rests compensations)
lies_with rests compensations = let lies = rests.lies in record {
  ends_too = lies.ends_too;
  nets_too = lies.nets_too;
  net = lies.net;
  proper = lies.proper;
  ordered = lies.ordered;
  judged = lies.judged;
}
