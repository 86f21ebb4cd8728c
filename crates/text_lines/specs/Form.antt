-- Public: the form of bracket text, said by generation. A list of weeks of runs has a text, and some lists are allowed. A run is a word of the
-- recording: its activity and its minutes.
-- Assumes nothing.
use Rattle.std.specs.Prelude.{◌≡◌, List, [], ◌∷◌, ◌++◌, ℕ, ◌+◌, ◌/◌, ◌%◌, ◌≤◌, eqb, ltb, length}
use Rattle.recording.specs.Tests.{pick}
use Rattle.recording.specs.Words.{minutes_in, activity_in, rest, availability, other_work}
use Rattle.recording.specs.Weeks.{week_minutes}
use Rattle.text_lines.specs.declared.Line.{Line}
use Rattle.text_lines.specs.declared.Line.TheVariants as line

-- Each line ends in byte 10.
abbrev pub line_end : ℕ
line_end = 10

-- `(recording`, `(week` and `)`
abbrev pub recording_line : List ℕ
recording_line = 40 ∷ 114 ∷ 101 ∷ 99 ∷ 111 ∷ 114 ∷ 100 ∷ 105 ∷ 110 ∷ 103 ∷ []

abbrev pub week_line : List ℕ
week_line = 40 ∷ 119 ∷ 101 ∷ 101 ∷ 107 ∷ []

abbrev pub closing : ℕ
closing = 41

abbrev pub closing_line : List ℕ
closing_line = closing ∷ []

-- A run is `(rest n)`, `(avail n)`, `(work n)` or `(drive n)`. What stands before n, by the activity:
unfoldable pub run_name : ℕ → List ℕ
run_name a =
    pick (eqb a rest) (40 ∷ 114 ∷ 101 ∷ 115 ∷ 116 ∷ 32 ∷ [])
    (pick (eqb a availability) (40 ∷ 97 ∷ 118 ∷ 97 ∷ 105 ∷ 108 ∷ 32 ∷ [])
    (pick (eqb a other_work) (40 ∷ 119 ∷ 111 ∷ 114 ∷ 107 ∷ 32 ∷ [])
    (40 ∷ 100 ∷ 114 ∷ 105 ∷ 118 ∷ 101 ∷ 32 ∷ [])))

-- Numbers are decimal, without leading zeros. The digit of n at a place of value p, where n reaches that far:
abbrev pub digit_zero : ℕ
digit_zero = 48

abbrev pub base : ℕ
base = 10

unfoldable pub digit_at : ℕ → ℕ → List ℕ
digit_at p n = pick (ltb n p) [] ((digit_zero + n / p % base) ∷ [])

-- so the places in order, the last of them also for 0; no number that is read or printed has more than six digits
unfoldable pub decimal : ℕ → List ℕ
decimal n = digit_at 100000 n ++ digit_at 10000 n ++ digit_at 1000 n ++ digit_at 100 n ++ digit_at 10 n ++ (digit_zero + n % base) ∷ []

abbrev pub run_at_most : ℕ
run_at_most = 10080

-- the bytes of a line before its end; `Other` stands for every line that is none of these, and no list of weeks has it
unfoldable pub line_text : Line → List ℕ
line_text line.Recording = recording_line
line_text line.Week = week_line
line_text line.Closing = closing_line
line_text (line.Run w) = run_name (activity_in w) ++ decimal (minutes_in w) ++ closing_line
line_text line.Other = []

unfoldable pub text_of_lines : List Line → List ℕ
text_of_lines [] = []
text_of_lines (l ∷ ls) = line_text l ++ line_end ∷ text_of_lines ls

-- A week is `(week`, one or more runs, `)`. Its runs and its end, before what follows it:
unfoldable pub runs_then : List ℕ → List Line → List Line
runs_then [] later = line.Closing ∷ later
runs_then (w ∷ ws) later = line.Run w ∷ runs_then ws later

-- A text is `(recording`, then 0 to 53 weeks, then `)`.
unfoldable pub weeks_then_end : List (List ℕ) → List Line
weeks_then_end [] = line.Closing ∷ []
weeks_then_end (ws ∷ weeks) = line.Week ∷ runs_then ws (weeks_then_end weeks)

abbrev pub lines_of : List (List ℕ) → List Line
lines_of weeks = line.Recording ∷ weeks_then_end weeks

abbrev pub text_of : List (List ℕ) → List ℕ
text_of weeks = text_of_lines (lines_of weeks)

-- ---- which lists are allowed
abbrev pub weeks_at_most : ℕ
weeks_at_most = 53

unfoldable pub sum_of : List ℕ → ℕ
sum_of [] = 0
sum_of (w ∷ ws) = minutes_in w + sum_of ws

-- A run has from 1 to 10,080 minutes.
pub record Run (w : ℕ) : Type 0 where
  pub some : 1 ≤ minutes_in w
  pub within : minutes_in w ≤ run_at_most

pub data Runs : List ℕ → Type 0 where
  none : Runs []
  next : {w : ℕ} {ws : List ℕ} → Run w → Runs ws → Runs (w ∷ ws)

-- A week has one or more runs, and they sum to 10,080 at most.
pub record Week (ws : List ℕ) : Type 0 where
  pub some : 1 ≤ length ws
  pub runs : Runs ws
  pub within : sum_of ws ≤ week_minutes

-- Every week but the last sums to 10,080; the last to at most that.
pub data Weeks : List (List ℕ) → Type 0 where
  none : Weeks []
  last : {ws : List ℕ} → Week ws → Weeks (ws ∷ [])
  next : {ws vs : List ℕ} {weeks : List (List ℕ)} → Week ws → sum_of ws ≡ week_minutes → Weeks (vs ∷ weeks) → Weeks (ws ∷ vs ∷ weeks)

pub record Allowed (weeks : List (List ℕ)) : Type 0 where
  pub few : length weeks ≤ weeks_at_most
  pub each : Weeks weeks

-- a text of the form: that of an allowed list
pub record OfTheForm (text : List ℕ) : Type 0 where
  pub weeks : List (List ℕ)
  pub allowed : Allowed weeks
  pub text_is : text ≡ text_of weeks
