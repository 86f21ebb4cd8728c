-- Inner: what the functions of writing answer. Nobody has to believe it: no public contract cites it.
-- Assumes nothing.
use Rattle.std.specs.Prelude.{◌≡◌, List, [], ◌∷◌, ◌++◌, ℕ, suc, ◌+◌, ◌-◌, ◌≤◌, eqb, length, take, drop}
use Rattle.recording.specs.Tests.{pick}
use Rattle.recording.specs.Words.{code_of, minutes_in, activity_in, minutes_of}
use Rattle.recording.specs.Weeks.{week_minutes}
use Rattle.recording.specs.Operations.{total_at_most}
use Rattle.recording.specs.declared.Run.{Run}
use Rattle.text_lines.specs.declared.Line.{Line}
use Rattle.text_lines.specs.declared.Line.TheVariants as line
use Rattle.text_lines.specs.Form.{runs_then, weeks_then_end}
use Rattle.text.specs.Writing.{joined, weeks_joined}
use Rattle.text.specs.Page.{places}

-- the words in front that have the activity a: how many, and their minutes
unfoldable pub same_words : ℕ → List ℕ → ℕ
same_words a [] = 0
same_words a (w ∷ ws) = pick (eqb (activity_in w) a) (suc (same_words a ws)) 0

unfoldable pub same_minutes : ℕ → List ℕ → ℕ
same_minutes a [] = 0
same_minutes a (w ∷ ws) = pick (eqb (activity_in w) a) (minutes_in w + same_minutes a ws) 0

-- the run that the words in front make together, and the words after them
pub record FirstRun (words : List ℕ) (run : Run) (after : List ℕ) : Type 0 where
  pub moved : 1 ≤ same_words (code_of run.activity) words
  pub minutes : run.minutes ≡ same_minutes (code_of run.activity) words
  pub after_is : after ≡ drop (same_words (code_of run.activity) words) words

-- the lines of the minutes that are left where the week can take `left` more: a whole week that is not begun, or the rest of one
unfoldable pub in_week : ℕ → List ℕ → List Line
in_week left ms = runs_then (joined (take left ms)) (weeks_then_end (weeks_joined (drop left ms)))

unfoldable pub lines_left : ℕ → List ℕ → List Line
lines_left left ms = pick (eqb left week_minutes) (weeks_then_end (weeks_joined ms)) (in_week left ms)

-- the lines of a run of n minutes that the week can take, with the week's own lines where it begins or ends there
unfoldable pub part_lines : ℕ → ℕ → ℕ → List Line
part_lines left n w = pick (eqb left week_minutes) (line.Week ∷ []) [] ++ line.Run w ∷ pick (eqb left n) (line.Closing ∷ []) []

unfoldable pub left_after : ℕ → ℕ → ℕ
left_after left n = pick (eqb left n) week_minutes (left - n)

-- up to this length of a page, a run's lines can still be put
abbrev pub roomy : ℕ
roomy = places - 64

-- words that weighing accepts: each has a minute, and they are within the limit
pub data EachSome : List ℕ → Type 0 where
  none : EachSome []
  next : {w : ℕ} {ws : List ℕ} → 1 ≤ minutes_in w → EachSome ws → EachSome (w ∷ ws)

pub record Writable (ws : List ℕ) : Type 0 where
  pub each : EachSome ws
  pub within : length (minutes_of ws) ≤ total_at_most
