-- Inner: what the functions that write days answer. Nobody has to believe it: no public contract cites it.
-- Assumes nothing.
use Rattle.std.specs.Prelude.{not, List, ℕ, ◌+◌, ◌-◌, ◌/◌, length}
use Rattle.recording.specs.Tests.{one}
use Rattle.recording.specs.Answers.{Answer, answered, and_then, refuse_if}
use Rattle.recording.specs.Words.{minutes_of}
use Rattle.recording.specs.Operations.{measured}
use Rattle.card_reader.specs.Form.{day_minutes}
use Rattle.card.specs.Writing.{is_written, changes_of, is_whole_days}

-- the changes of a run of n minutes that begins at this minute of a day: at its beginning, and at each midnight after it
unfoldable pub changes_in_run : ℕ → ℕ → ℕ → ℕ → ℕ
changes_in_run minute before activity n = one (is_written minute before activity) + (minute + n - 1) / day_minutes

-- the first pass over the words: weighing's refusals, 11, or how many changes are written
unfoldable pub changes_counted : List ℕ → Answer ℕ
changes_counted words =
    and_then (measured words) (λ _.
    refuse_if (not (is_whole_days (minutes_of words))) 11 (answered (length (changes_of (minutes_of words)))))
