-- Worked cases at the edges of this layer's numbers. Assumes nothing.
use mathlib.Core.Path.{◌≡◌, refl}
use mathlib.Core.Bool.{true, false}
use mathlib.Core.List.{[], ◌∷◌}
use Prim.Native.Nat.{ℕ}
use Rattle.recording.specs.Answers.{Answer, refused, answered, counted, filled}
use Rattle.recording.specs.Words.{word_of, rest, other_work, minutes_of}
use Rattle.recording.specs.Days.{latest_end, days}
use Rattle.recording.specs.Weeks.{touches, rest_only}
use Rattle.recording.specs.Operations.{total_from, measured, listed}
use Rattle.recording.specs.Opened.{opened}
use Rattle.recording.specs.declared.Span.{Span}
use Rattle.recording.specs.declared.Measure.{Measure}

abbrev w : ℕ → ℕ
w n = word_of n other_work

abbrev r : ℕ → ℕ
r n = word_of n rest

abbrev span : ℕ → ℕ → Span
span a b = record { start = a; end = b }

abbrev measure : ℕ → ℕ → ℕ → Answer Measure
measure n s k = answered (record { total = n; judged = s; count = k })

pub record Worked : Type 0 where
  -- 540, and the open rest
  long : measured (w 900 ∷ r 540 ∷ w 1 ∷ []) ≡ measure 1441 1441 1
  short : measured (w 900 ∷ r 539 ∷ w 1 ∷ []) ≡ measure 1440 1440 0
  open_rest : measured (w 60 ∷ r 500 ∷ r 500 ∷ []) ≡ measure 1060 60 0
  empty : measured [] ≡ measure 0 0 0
  -- 534,240, and the first word at fault
  full : total_from 0 (r 60000 ∷ w 474240 ∷ []) ≡ answered 534240
  over : total_from 0 (r 60000 ∷ w 474241 ∷ []) ≡ refused 2
  none_first : total_from 0 (r 60000 ∷ w 0 ∷ r 474241 ∷ []) ≡ refused 1
  over_first : total_from 0 (r 60000 ∷ w 474241 ∷ r 0 ∷ []) ≡ refused 2
  -- P and days
  latest : latest_end (minutes_of (w 60 ∷ r 540 ∷ w 60 ∷ r 600 ∷ w 60 ∷ [])) 1259 ≡ 600
  latest_at : latest_end (minutes_of (w 60 ∷ r 540 ∷ w 60 ∷ r 600 ∷ w 60 ∷ [])) 1260 ≡ 1260
  day_by_day : days (minutes_of (w 60 ∷ r 540 ∷ w 60 ∷ r 600 ∷ w 60 ∷ [])) ≡ span 0 60 ∷ span 600 660 ∷ span 1260 1320 ∷ []
  -- 10,080
  within_week : touches (span 9000 10080) 1 ≡ false
  past_week : touches (span 9000 10081) 1 ≡ true
  whole_week : rest_only (minutes_of (r 10080 ∷ w 1 ∷ [])) 0 ≡ true
  part_week : rest_only (minutes_of (r 10079 ∷ w 1 ∷ [])) 0 ≡ false
  -- the list of long rests: too short, and longer than it need be
  no_room : listed (w 60 ∷ r 540 ∷ w 60 ∷ r 600 ∷ w 60 ∷ []) 1 ≡ refused 3
  room : filled (listed (w 60 ∷ r 540 ∷ w 60 ∷ r 600 ∷ w 60 ∷ []) 3) (span 7 8 ∷ span 7 8 ∷ span 7 8 ∷ []) ≡ span 60 600 ∷ span 660 1260 ∷ span 7 8 ∷ []
  count : counted (listed (w 60 ∷ r 540 ∷ w 60 ∷ r 600 ∷ w 60 ∷ []) 3) ≡ answered 2

pub worked : Worked
unfolding opened
worked = record {
  long = refl;
  short = refl;
  open_rest = refl;
  empty = refl;
  full = refl;
  over = refl;
  none_first = refl;
  over_first = refl;
  latest = refl;
  latest_at = refl;
  day_by_day = refl;
  within_week = refl;
  past_week = refl;
  whole_week = refl;
  part_week = refl;
  no_room = refl;
  room = refl;
  count = refl;
}
