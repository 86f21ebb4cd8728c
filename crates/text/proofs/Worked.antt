-- Worked cases at the edges of this layer's numbers. Assumes nothing.
use mathlib.Core.Path.{◌≡◌, refl}
use mathlib.Core.List.{List, [], ◌∷◌, ◌++◌}
use Prim.Native.Nat.{ℕ}
use lib.ListN.{replicate}
use Rattle.recording.specs.Answers.{refused, answered, counted, filled}
use Rattle.recording.specs.Words.{word_of, rest, other_work, driving}
use Rattle.recording.specs.Opened.{opened}
use Rattle.text_lines.specs.Form.{closing, closing_line, run_name, digit_at, decimal, line_text, line_end, recording_line, week_line, text_of_lines, runs_then, weeks_then_end, text_of}
use Rattle.text_lines.specs.Reading.{same, number_from, number_after, run_or, line_of, lines_from, stage_after, stage_from, is_text, words_of, text_read}
use Rattle.text.specs.Writing.{joined_to, joined, weeks_within, weeks_joined, text_written}

abbrev r : ℕ → ℕ
r n = word_of n rest

abbrev w : ℕ → ℕ
w n = word_of n other_work

abbrev d : ℕ → ℕ
d n = word_of n driving

-- the text of one week with one line
abbrev around : List ℕ → List ℕ
around bytes = recording_line ++ line_end ∷ week_line ++ line_end ∷ bytes ++ line_end ∷ closing_line ++ line_end ∷ closing_line ++ line_end ∷ []

pub record Worked : Type 0 where
  -- a day of three runs, and the empty recording
  day : text_read (text_of ((d 240 ∷ r 660 ∷ w 60 ∷ []) ∷ [])) 3 ≡ answered (d 240 ∷ r 660 ∷ w 60 ∷ [])
  empty : text_read (text_of []) 0 ≡ answered []
  -- n from 1 to 10080, without leading zeros
  one : text_read (around (run_name rest ++ 49 ∷ closing ∷ [])) 1 ≡ answered (r 1 ∷ [])
  zero_minutes : text_read (around (run_name rest ++ 48 ∷ closing ∷ [])) 1 ≡ refused 8
  leading_zero : text_read (around (run_name rest ++ 48 ∷ 49 ∷ closing ∷ [])) 1 ≡ refused 8
  longest : text_read (text_of ((r 10080 ∷ []) ∷ [])) 1 ≡ answered (r 10080 ∷ [])
  too_long : text_read (text_of ((r 10081 ∷ []) ∷ [])) 1 ≡ refused 8
  -- a week: one or more runs, 10,080 minutes at most, and all of them before another week
  no_runs : text_read (text_of ([] ∷ [])) 9 ≡ refused 8
  full_week : counted (text_read (text_of ((r 10079 ∷ w 1 ∷ []) ∷ (w 1 ∷ []) ∷ [])) 9) ≡ answered 3
  long_week : text_read (text_of ((r 10079 ∷ w 2 ∷ []) ∷ [])) 9 ≡ refused 8
  short_week : text_read (text_of ((r 10078 ∷ w 1 ∷ []) ∷ (w 1 ∷ []) ∷ [])) 9 ≡ refused 8
  -- 0 to 53 weeks
  year : counted (text_read (text_of (replicate 53 (r 10080 ∷ []))) 53) ≡ answered 53
  more_weeks : text_read (text_of (replicate 54 (r 10080 ∷ []))) 54 ≡ refused 8
  -- words lent: too few, and more than are needed
  few : text_read (text_of (replicate 53 (r 10080 ∷ []))) 52 ≡ refused 9
  more : filled (text_read (text_of ((w 5 ∷ []) ∷ [])) 2) (7 ∷ 8 ∷ []) ≡ w 5 ∷ 8 ∷ []
  -- writing: joined, cut at the week's end, no week after a full last one
  joins : text_written (w 4 ∷ w 5 ∷ r 1 ∷ []) 99 ≡ answered (text_of ((w 9 ∷ r 1 ∷ []) ∷ []))
  cuts : text_written (r 10079 ∷ w 2 ∷ []) 99 ≡ answered (text_of ((r 10079 ∷ w 1 ∷ []) ∷ (w 1 ∷ []) ∷ []))
  full_last : text_written (w 10080 ∷ []) 99 ≡ answered (text_of ((w 10080 ∷ []) ∷ []))
  -- bytes lent, and weighing's refusals first
  enough : counted (text_written (w 4 ∷ []) 30) ≡ answered 30
  too_few : text_written (w 4 ∷ []) 29 ≡ refused 10
  no_minutes : text_written (w 4 ∷ r 0 ∷ []) 0 ≡ refused 1

pub worked : Worked
unfolding opened run_name digit_at decimal line_text text_of_lines runs_then weeks_then_end same number_from number_after run_or line_of lines_from stage_after stage_from is_text
    words_of text_read joined_to
    joined weeks_within weeks_joined text_written
worked = record {
  day = refl;
  empty = refl;
  one = refl;
  zero_minutes = refl;
  leading_zero = refl;
  longest = refl;
  too_long = refl;
  no_runs = refl;
  full_week = refl;
  long_week = refl;
  short_week = refl;
  year = refl;
  more_weeks = refl;
  few = refl;
  more = refl;
  joins = refl;
  cuts = refl;
  full_last = refl;
  enough = refl;
  too_few = refl;
  no_minutes = refl;
}
