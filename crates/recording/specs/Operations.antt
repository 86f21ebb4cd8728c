-- Public: weighing, and listing long rests.
-- Assumes nothing.
use Rattle.std.specs.Prelude.{List, [], ◌∷◌, ℕ, zero, suc, ◌+◌, ltb, eqb, length}
use Rattle.recording.specs.Tests.{pick}
use Rattle.recording.specs.Answers.{Answer, refused, answered, and_then, refuse_if}
use Rattle.recording.specs.Words.{minutes_in, minutes_of}
use Rattle.recording.specs.Rests.{judged_end, long_rests}
use Rattle.recording.specs.declared.Span.{Span}
use Rattle.recording.specs.declared.Measure.{Measure}

-- A recording has at most 53 weeks.
abbrev pub total_at_most : ℕ
total_at_most = 534240

-- The fault of a word after so many minutes: 1 where its minutes are 0, else 2 where the total passes the limit; or 0.
unfoldable pub fault_of : ℕ → ℕ → ℕ
fault_of total w = pick (eqb (minutes_in w) 0) 1 (pick (ltb total_at_most (total + minutes_in w)) 2 0)

abbrev pub unless_fault : {A : Type 0} → ℕ → Answer A → Answer A
unless_fault zero later = later
unless_fault (suc n) later = refused (suc n)

-- Words are taken in order, and the first word at fault decides.
unfoldable pub total_from : ℕ → List ℕ → Answer ℕ
total_from total [] = answered total
total_from total (w ∷ ws) = unless_fault (fault_of total w) (total_from (total + minutes_in w) ws)

-- Weighing gives the total, the judged end and the number of long rests.
abbrev pub measure_of : List ℕ → Measure
measure_of ms = record { total = length ms; judged = judged_end ms; count = length (long_rests ms) }

unfoldable pub measured : List ℕ → Answer Measure
measured words = and_then (total_from 0 words) (λ _. answered (measure_of (minutes_of words)))

-- Listing long rests: weighing's refusals, then 3 where the list has fewer records than there are long rests. It takes one record a long rest, its start
-- and its end. `counted` and `filled` of it are the result and the list of `room` records.
unfoldable pub listed : List ℕ → ℕ → Answer (List Span)
listed words room =
    and_then (measured words) (λ m.
    refuse_if (ltb room m.count) 3 (answered (long_rests (minutes_of words))))
