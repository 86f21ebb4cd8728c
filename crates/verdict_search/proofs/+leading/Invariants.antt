-- What is left of a question: the rests, then what is left of one. Assumes nothing.
use Rattle.std.proofs.Common.{◌+◌, ◌-◌, ℕ, ◌*◌, length, false}
use Rattle.verdict_completion.specs.Courses.{course_of}
use Rattle.verdict_search.specs.Search.{Later}
use Rattle.verdict_search.specs.Leading.{Leads, Kept, CountedIn}
use Rattle.verdict_search.proofs.+leading.Given as goal

abbrev left : ℕ → ℕ → ℕ → ℕ
left k j e = (k - j) * 10000 + e

abbrev pub decreases-ask : goal.decreases-ask
decreases-ask l = left (length l.course.now.rests.starts.now) l.j 9997

abbrev pub decreases-at_once : goal.decreases-at_once
decreases-at_once l = left (length l.course.now.rests.starts.now) l.j 9996

abbrev pub decreases-choose : goal.decreases-choose
decreases-choose l = left (length l.course.now.rests.starts.now) l.j 5

abbrev pub decreases-compensate : goal.decreases-compensate
decreases-compensate l = left (length l.course.now.rests.starts.now) l.j (6 + (l.search.now.used - l.i))

abbrev pub decreases-count_in : goal.decreases-count_in
decreases-count_in l = left (length l.course.now.rests.starts.now) l.j 1

abbrev pub decreases-daily : goal.decreases-daily
decreases-daily l = left (length l.course.now.rests.starts.now) l.j 3

abbrev pub decreases-in_week : goal.decreases-in_week
decreases-in_week l = left (length l.course.now.rests.starts.now) l.j 2

abbrev pub decreases-place : goal.decreases-place
decreases-place l = left (length l.course.now.rests.starts.now) l.j 9998

abbrev pub decreases-read_as : goal.decreases-read_as
decreases-read_as l = left (length l.course.now.rests.starts.now) l.j 4

abbrev pub decreases-step : goal.decreases-step
decreases-step l = left (length l.course.now.rests.starts.now) l.j 9999

abbrev pub decreases-weekly : goal.decreases-weekly
decreases-weekly l = left (length l.course.now.rests.starts.now) l.j 3

-- the weeks from that in which the rest starts to w are asked
abbrev pub invariant-weekly-loop-w : goal.invariant-weekly-loop-w
invariant-weekly-loop-w l =
    let c = course_of l.course in
    record {
      leads : Leads c (λ o. CountedIn c (Later c l.j) l.j l.here l.compensation o l.first l.w) (l.j + 1) l.initial.search l.search false;
      kept : Kept l.initial.search l.search;
    }
