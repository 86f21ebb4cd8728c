-- Inner: the long rests of a recording as what stays the same of the question, with the compensations that they have.
-- Assumes nothing.
use Rattle.std.specs.Prelude.{List, ℕ}
use Rattle.verdict_completion.specs.declared.course.LongRests.{LongRests}
use Rattle.verdict_completion.specs.declared.course.Course as declared
use Rattle.verdict_completion.specs.Completable.{Course}

-- the long rests, where each has so many minutes compensation
abbrev pub course_with : LongRests → List ℕ → Course
course_with rests compensations =
    record { starts = rests.starts.now; ends = rests.ends.now; nets = rests.nets.now; compensations = compensations; judged = rests.judged }

-- the long rests with their compensations
abbrev pub course_of : declared.Course → Course
course_of course = course_with course.rests course.compensations.now
