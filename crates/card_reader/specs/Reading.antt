-- Public: the card's day record, said by reading change by change, and what reading one answers.
-- Assumes nothing.
use Rattle.std.specs.Prelude.{Bool, true, not, List, [], ◌∷◌, ℕ, ◌+◌, ◌-◌, ◌*◌, ◌/◌, ◌%◌, eqb, ltb, length}
use Rattle.recording.specs.Tests.{◌and◌, ◌or◌, pick, any_of}
use Rattle.recording.specs.Answers.{Answer, answered, refuse_if}
use Rattle.recording.specs.Words.{activities, word_of, minutes_of}
use Rattle.recording.specs.Operations.{total_at_most}
use Rattle.card_reader.specs.Form.{crew_place, out_place, activity_place, byte_values, day_minutes}

-- ---- one change, as a number of two bytes, the high one first; s is not looked at
unfoldable pub changes_in : List ℕ → List ℕ
changes_in [] = []
changes_in (high ∷ []) = []
changes_in (high ∷ low ∷ bytes) = (byte_values * high + low) ∷ changes_in bytes

abbrev pub change_minute : ℕ → ℕ
change_minute c = c % activity_place

abbrev pub change_activity : ℕ → ℕ
change_activity c = c / activity_place % activities

abbrev pub bit_at : ℕ → ℕ → Bool
bit_at place c = eqb (c / place % 2) 1

-- Card out with c zero means unknown activity.
unfoldable pub is_unknown : ℕ → Bool
is_unknown c = bit_at out_place c and not (bit_at crew_place c)

-- ---- change after change
-- Minute 0 always begins a day.
abbrev pub begins_day : ℕ → Bool
begins_day c = eqb (change_minute c) 0

-- refused are a minute over 1,439, and a minute above 0 that is not over the one before it
unfoldable pub follows : ℕ → ℕ → Bool
follows before m = eqb m 0 or (ltb m day_minutes and ltb before m)

-- the changes after one at this minute
unfoldable pub all_follow : ℕ → List ℕ → Bool
all_follow before [] = true
all_follow before (c ∷ cs) = follows before (change_minute c) and all_follow (change_minute c) cs

-- refused is a first minute other than 0
unfoldable pub in_order : List ℕ → Bool
in_order [] = true
in_order (c ∷ cs) = begins_day c and all_follow (change_minute c) cs

-- refused is an odd count of bytes
unfoldable pub is_even : ℕ → Bool
is_even n = eqb (n % 2) 0

unfoldable pub is_day_record : List ℕ → Bool
is_day_record bytes = is_even (length bytes) and in_order (changes_in bytes)

-- ---- the reader writes one word a change
-- where a change's activity ends: at the day's next change, and the last at 1,440
unfoldable pub end_before : List ℕ → ℕ
end_before [] = day_minutes
end_before (c ∷ cs) = pick (begins_day c) day_minutes (change_minute c)

unfoldable pub words_of : List ℕ → List ℕ
words_of [] = []
words_of (c ∷ cs) = word_of (end_before cs - change_minute c) (change_activity c) ∷ words_of cs

-- Reading refuses 11 for an odd count, a first minute other than 0, a minute over 1,439, or a minute above 0 that is not over the one before it;
-- then 12 for unknown activity anywhere; then 2, and last 9 for words lacking. `counted` and `filled` of it are the result and the `room` words.
unfoldable pub card_read : List ℕ → ℕ → Answer (List ℕ)
card_read bytes room =
    refuse_if (not (is_day_record bytes)) 11
    (refuse_if (any_of is_unknown (changes_in bytes)) 12
    (refuse_if (ltb total_at_most (length (minutes_of (words_of (changes_in bytes))))) 2
    (refuse_if (ltb room (length (words_of (changes_in bytes)))) 9 (answered (words_of (changes_in bytes))))))
