-- Public: document 01, "Operations", the tests, the verdict, and the entry of a reading; with the test of document 02, request 4, the verdict as
-- request 5 splits it, and the counts of request 7: "Counts of 3 × k become 4 × k, the entry shown is four bytes, and 2, 4, 6 and 7 follow."
-- Assumes nothing.
use Rattle.std.specs.Prelude.{not, ◌≡◌, List, [], ℕ, ◌+◌, ◌-◌, ◌*◌, ◌/◌, ◌%◌, ltb, eqb, length, take, drop}
use Rattle.recording.specs.Tests.{◌or◌}
use Rattle.recording.specs.Answers.{Answer, refused, answered, and_then, refuse_if}
use Rattle.recording.specs.Words.{minutes_of}
use Rattle.recording.specs.Operations.{measured}
use Rattle.rules.specs.declared.Breaches.{Breaches}
use Rattle.rules.specs.Fixed.{breaches, smallest_rule, first_article}
use Rattle.rules.specs.Reading.{entry_bytes}
use Rattle.rules.specs.ReadingRules.{reading_test}
use Rattle.rules.specs.Verdict.{prefix, Verdict, pass, breach, verdict}

-- "Testing fixed rules for a stretch of m: 1, 2; then 5, m is over N.": which of the five it breaks
unfoldable pub breaches_tested : List ℕ → ℕ → Answer Breaches
breaches_tested words m =
    and_then (measured words) (λ k.
    refuse_if (ltb k.total m) 5 (answered (breaches (prefix m (minutes_of words)))))

-- "The answer is 0 or the smallest broken rule of 1 to 5."
unfoldable pub fixed_tested : List ℕ → ℕ → Answer ℕ
fixed_tested words m = and_then (breaches_tested words m) (λ b. answered (smallest_rule b))

-- Document 02, request 4: "an operation beside the fixed test, with its inputs and refusals, that answers 0 or the place, 1 to 5, of the first of these
-- broken."
unfoldable pub article_tested : List ℕ → ℕ → Answer ℕ
article_tested words m = and_then (breaches_tested words m) (λ b. answered (first_article b))

-- "Testing a reading: 1, 2; then 6, its byte count isn't" 4 × k. "The answer is 0 or the smallest broken rule."
unfoldable pub reading_tested : List ℕ → List ℕ → Answer ℕ
reading_tested words reading =
    and_then (measured words) (λ k.
    refuse_if (not (eqb (length reading) (entry_bytes * k.count))) 6 (answered (reading_test (minutes_of words) reading)))

-- Document 02, request 5: "Split the verdict: one operation gives pass or breach with minute and article, the other writes the first lawful reading."
-- "The first turns away 1 and 2 only".
pub data Finding : Type 0 where
  passed : Finding
  breached : ℕ → ℕ → Finding

abbrev pub finding_of : Verdict → Finding
finding_of (pass reading) = passed
finding_of (breach m a) = breached m a

unfoldable pub verdict_given : List ℕ → Answer Finding
verdict_given words = and_then (measured words) (λ _. answered (finding_of (verdict (minutes_of words))))

-- "the second turns away 1, 2 and 4, then 13 when the verdict is a breach." Here for a buffer of `room` bytes; as document 01 has it, 4 is "the reading
-- buffer is under" 4 × k bytes, and the reading goes into the first 4 × k bytes; "the rest stays". `counted` and `filled` of it are the result and the bytes.
abbrev pub reading_of : Verdict → Answer (List ℕ)
reading_of (pass reading) = answered reading
reading_of (breach m a) = refused 13

abbrev pub reading_into : ℕ → ℕ → Verdict → Answer (List ℕ)
reading_into room rests v = refuse_if (ltb room (entry_bytes * rests)) 4 (reading_of v)

unfoldable pub first_reading_given : List ℕ → ℕ → Answer (List ℕ)
first_reading_given words room = and_then (measured words) (λ k. reading_into room k.count (verdict (minutes_of words)))

-- "Entry of a reading: 6, byte count not a multiple of" 4; "then 7, number 0 or over" a fourth "of the count. The answer is the" four "bytes themselves
-- in the caller's reading."
unfoldable pub entry_at : List ℕ → ℕ → Answer (List ℕ)
entry_at reading number =
    refuse_if (not (eqb (length reading % entry_bytes) 0)) 6
    (refuse_if (eqb number 0 or ltb (length reading / entry_bytes) number) 7
    (answered (take entry_bytes (drop (entry_bytes * (number - 1)) reading))))

-- "The part is empty if there is a refusal, and only then"
abbrev pub entry_part : Answer (List ℕ) → List ℕ
entry_part (refused n) = []
entry_part (answered part) = part

-- "a companion operation on the same inputs gives 0 or the refusal's number"
abbrev pub entry_refusal : Answer (List ℕ) → ℕ
entry_refusal (refused n) = n
entry_refusal (answered part) = 0

-- The four bytes "themselves in the caller's reading": in its memory, from 4 × (number − 1) bytes on. A place is a block of memory and an offset in it.
abbrev pub EntryInReading : Answer (List ℕ) → ℕ → ℕ × ℕ → ℕ × ℕ → Type 0
EntryInReading (refused n) number reading part = Unit {0}
EntryInReading (answered bytes) number reading part = (part.0 ≡ reading.0) × (part.1 ≡ reading.1 + entry_bytes * (number - 1))
