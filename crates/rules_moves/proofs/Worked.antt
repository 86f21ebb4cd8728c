-- Worked cases of the moves, at the edges of their numbers. Assumes nothing.
use mathlib.Core.Path.{◌≡◌, refl}
use mathlib.Core.List.{[], ◌∷◌}
use Rattle.recording.specs.Tests.{◌or◌}
use Rattle.recording.specs.Answers.{refused, answered, counted, filled}
use Rattle.rules.specs.Reading.{fields_in, bytes_of}
use Rattle.rules_moves.specs.Moves.{too_large, reading_widened, reading_narrowed}

pub record Worked : Type 0 where
  -- over: kind, week and carrier as they are, whatever their values
  over : reading_widened (200 ∷ 99 ∷ 255 ∷ 1 ∷ 11 ∷ 7 ∷ []) 8 ≡ answered (200 ∷ 99 ∷ 255 ∷ 0 ∷ 1 ∷ 11 ∷ 7 ∷ 0 ∷ [])
  -- back: the largest week and the largest carrier
  back : reading_narrowed (200 ∷ 11 ∷ 255 ∷ 0 ∷ 0 ∷ 0 ∷ 0 ∷ 0 ∷ []) 6 ≡ answered (200 ∷ 11 ∷ 255 ∷ 0 ∷ 0 ∷ 0 ∷ [])
  -- a week of 12 and a carrier of 256, also in a later entry
  week_12 : reading_narrowed (1 ∷ 12 ∷ 0 ∷ 0 ∷ []) 3 ≡ refused 15
  carrier_256 : reading_narrowed (1 ∷ 3 ∷ 0 ∷ 1 ∷ []) 3 ≡ refused 15
  later_week : reading_narrowed (1 ∷ 3 ∷ 2 ∷ 0 ∷ 1 ∷ 12 ∷ 0 ∷ 0 ∷ []) 6 ≡ refused 15
  later_carrier : reading_narrowed (1 ∷ 3 ∷ 2 ∷ 0 ∷ 0 ∷ 0 ∷ 255 ∷ 255 ∷ []) 6 ≡ refused 15
  -- 987 is 3 × 256 + 219
  low_and_high : fields_in (1 ∷ 52 ∷ 219 ∷ 3 ∷ []) ≡ 1 ∷ 52 ∷ 987 ∷ []
  high_and_low : bytes_of (1 ∷ 52 ∷ 987 ∷ []) ≡ 1 ∷ 52 ∷ 219 ∷ 3 ∷ []
  -- counts that do not divide into entries
  four_old : reading_widened (0 ∷ 0 ∷ 0 ∷ 0 ∷ []) 8 ≡ refused 6
  three_wide : reading_narrowed (0 ∷ 0 ∷ 0 ∷ []) 8 ≡ refused 6
  -- targets a byte short, and just long enough
  short_wide : reading_widened (0 ∷ 0 ∷ 0 ∷ []) 3 ≡ refused 4
  exact_wide : reading_widened (0 ∷ 0 ∷ 0 ∷ []) 4 ≡ answered (0 ∷ 0 ∷ 0 ∷ 0 ∷ [])
  short_old : reading_narrowed (0 ∷ 0 ∷ 0 ∷ 0 ∷ []) 2 ≡ refused 4
  exact_old : reading_narrowed (0 ∷ 0 ∷ 0 ∷ 0 ∷ []) 3 ≡ answered (0 ∷ 0 ∷ 0 ∷ [])
  -- 6, then 4, then 15
  over_6_before_4 : reading_widened (0 ∷ 0 ∷ 0 ∷ 0 ∷ []) 0 ≡ refused 6
  back_6_before_4 : reading_narrowed (0 ∷ 0 ∷ 0 ∷ 0 ∷ 0 ∷ []) 0 ≡ refused 6
  back_6_before_15 : reading_narrowed (1 ∷ 12 ∷ 0 ∷ 0 ∷ 0 ∷ []) 3 ≡ refused 6
  back_4_before_15 : reading_narrowed (1 ∷ 12 ∷ 0 ∷ 0 ∷ []) 2 ≡ refused 4
  -- no entries
  none_over : reading_widened [] 0 ≡ answered []
  none_back : reading_narrowed [] 0 ≡ answered []
  -- the target: what lies beyond stays, and on a refusal all of it
  over_count : counted (reading_widened (1 ∷ 2 ∷ 3 ∷ []) 6) ≡ answered 4
  over_filled : filled (reading_widened (1 ∷ 2 ∷ 3 ∷ []) 6) (9 ∷ 9 ∷ 9 ∷ 9 ∷ 8 ∷ 7 ∷ []) ≡ 1 ∷ 2 ∷ 3 ∷ 0 ∷ 8 ∷ 7 ∷ []
  over_kept : filled (reading_widened (1 ∷ 2 ∷ 3 ∷ []) 3) (9 ∷ 8 ∷ 7 ∷ []) ≡ 9 ∷ 8 ∷ 7 ∷ []
  back_count : counted (reading_narrowed (1 ∷ 2 ∷ 3 ∷ 0 ∷ []) 5) ≡ answered 3
  back_filled : filled (reading_narrowed (1 ∷ 2 ∷ 3 ∷ 0 ∷ []) 5) (9 ∷ 9 ∷ 9 ∷ 8 ∷ 7 ∷ []) ≡ 1 ∷ 2 ∷ 3 ∷ 8 ∷ 7 ∷ []
  back_kept : filled (reading_narrowed (1 ∷ 2 ∷ 3 ∷ 1 ∷ []) 5) (9 ∷ 9 ∷ 9 ∷ 8 ∷ 7 ∷ []) ≡ 9 ∷ 9 ∷ 9 ∷ 8 ∷ 7 ∷ []

pub worked : Worked
unfolding ◌or◌ fields_in bytes_of too_large reading_widened reading_narrowed
worked = record {
  over = refl;
  back = refl;
  week_12 = refl;
  carrier_256 = refl;
  later_week = refl;
  later_carrier = refl;
  low_and_high = refl;
  high_and_low = refl;
  four_old = refl;
  three_wide = refl;
  short_wide = refl;
  exact_wide = refl;
  short_old = refl;
  exact_old = refl;
  over_6_before_4 = refl;
  back_6_before_4 = refl;
  back_6_before_15 = refl;
  back_4_before_15 = refl;
  none_over = refl;
  none_back = refl;
  over_count = refl;
  over_filled = refl;
  over_kept = refl;
  back_count = refl;
  back_filled = refl;
  back_kept = refl;
}
