-- Public: the card's day record of a recording.
-- Assumes nothing.
use Rattle.std.specs.Prelude.{Bool, not, List, [], ◌∷◌, ◌++◌, ℕ, suc, ◌+◌, ◌*◌, ◌%◌, eqb, ltb, length}
use Rattle.recording.specs.Tests.{◌or◌, pick}
use Rattle.recording.specs.Answers.{Answer, answered, and_then, refuse_if}
use Rattle.recording.specs.Words.{rest, minutes_of}
use Rattle.recording.specs.Operations.{measured}
use Rattle.card_reader.specs.Form.{activity_place, day_minutes, bytes_of}

-- a change with the bits s, c and p zero
unfoldable pub change_of : ℕ → ℕ → ℕ
change_of activity minute = activity_place * activity + minute

-- Written days have a change at minute 0 and wherever the activity differs from the minute before.
unfoldable pub is_written : ℕ → ℕ → ℕ → Bool
is_written minute before activity = eqb minute 0 or not (eqb activity before)

unfoldable pub change_if : ℕ → ℕ → ℕ → List ℕ
change_if minute before activity = pick (is_written minute before activity) (change_of activity minute ∷ []) []

-- the minute of the day after this one
abbrev pub next_minute : ℕ → ℕ
next_minute minute = suc minute % day_minutes

-- the changes of minutes that begin at this minute of a day, after a minute of activity `before`
unfoldable pub changes_from : ℕ → ℕ → List ℕ → List ℕ
changes_from minute before [] = []
changes_from minute before (a ∷ ms) = change_if minute before a ++ changes_from (next_minute minute) a ms

-- a recording begins at minute 0, where no activity before is looked at
abbrev pub changes_of : List ℕ → List ℕ
changes_of ms = changes_from 0 rest ms

abbrev pub record_of_minutes : List ℕ → List ℕ
record_of_minutes ms = bytes_of (changes_of ms)

-- Only recordings of whole days can be written.
unfoldable pub is_whole_days : List ℕ → Bool
is_whole_days ms = eqb (length ms % day_minutes) 0

-- Writing refuses 1 and 2, then 11 for a part day, and last 10 for bytes lacking. `counted` and `filled` of it are the result and the `room` bytes.
unfoldable pub card_written : List ℕ → ℕ → Answer (List ℕ)
card_written words room =
    and_then (measured words) (λ _.
    refuse_if (not (is_whole_days (minutes_of words))) 11
    (refuse_if (ltb room (length (record_of_minutes (minutes_of words)))) 10 (answered (record_of_minutes (minutes_of words)))))
