-- `verdict_first_reading::write_entries` meets its contract. Assumes nothing.
use mathlib.Core.List.{List}
use Prim.Native.Nat.{ℕ}
use Rattle.verdict_completion.specs.Completable.{rests_only}
use Rattle.verdict_completion.specs.Courses.{course_with}
use Rattle.verdict_search.specs.Search.{Before}
use Rattle.verdict_merging.specs.Merging.{Ready}
use Rattle.verdict_choosing.specs.First.{Least}
use Rattle.verdict_choosing.specs.Choices.{Limited}
use Rattle.verdict_choosing.proofs.Placing.{Progress}
use Rattle.verdict_first_reading.proofs.write_entries.Given as goal

abbrev pub invariant-loop-j : goal.invariant-loop-j
invariant-loop-j l = let c = course_with l.rests l.compensations in Limited c × Ready c l.room × Before c l.j l.st
    × ((f : List ℕ) → Least (rests_only l.rests.starts.now l.rests.ends.now l.rests.nets.now l.rests.judged) f → Progress c f l.reading l.j l.st)
