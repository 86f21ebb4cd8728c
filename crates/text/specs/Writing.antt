-- Public: the text of a recording.
-- Assumes nothing.
use Rattle.std.specs.Prelude.{List, [], ◌∷◌, ℕ, zero, suc, ◌+◌, eqb, ltb, length, take, drop}
use Rattle.recording.specs.Tests.{pick}
use Rattle.recording.specs.Answers.{Answer, answered, and_then, refuse_if}
use Rattle.recording.specs.Words.{activities, word_of, activity_in, minutes_of}
use Rattle.recording.specs.Weeks.{week_minutes}
use Rattle.recording.specs.Operations.{measured}
use Rattle.text_lines.specs.Form.{text_of}

-- Equal neighbours are joined: a minute before runs makes the first of them longer, or is a run of its own
unfoldable pub joined_to : ℕ → List ℕ → List ℕ
joined_to a [] = word_of 1 a ∷ []
joined_to a (w ∷ ws) = pick (eqb a (activity_in w)) ((w + activities) ∷ ws) (word_of 1 a ∷ w ∷ ws)

unfoldable pub joined : List ℕ → List ℕ
joined [] = []
joined (a ∷ ms) = joined_to a (joined ms)

-- Runs are cut at week ends: each week's minutes are joined by themselves. A list of n minutes has at most n weeks.
unfoldable pub weeks_within : ℕ → List ℕ → List (List ℕ)
weeks_within zero ms = []
weeks_within (suc n) [] = []
weeks_within (suc n) (a ∷ ms) = joined (take week_minutes (a ∷ ms)) ∷ weeks_within n (drop week_minutes (a ∷ ms))

unfoldable pub weeks_joined : List ℕ → List (List ℕ)
weeks_joined ms = weeks_within (length ms) ms

abbrev pub text_of_minutes : List ℕ → List ℕ
text_of_minutes ms = text_of (weeks_joined ms)

-- Writing text: refusals 1 and 2 of weighing; then 10, too few bytes. Bytes beyond the text stay, and the answer is its length. `counted` and `filled` of it are the
-- result and the `room` bytes.
unfoldable pub text_written : List ℕ → ℕ → Answer (List ℕ)
text_written words room =
    and_then (measured words) (λ _.
    refuse_if (ltb room (length (text_of_minutes (minutes_of words)))) 10 (answered (text_of_minutes (minutes_of words))))
