-- Public: what every operation answers, and what it leaves of a lent buffer.
-- Assumes nothing.
use Rattle.std.specs.Prelude.{Bool, true, false, List, ◌++◌, ℕ, length, drop, Result, Ok, Err}
use Rattle.recording.specs.declared.Refusal.{Refusal}
use Rattle.recording.specs.declared.Refusal.TheVariants.{NoMinutes, TooLong, ShortList, ShortReading, StretchTooLong, WrongByteCount, NoSuchEntry, NotText, TooFewWords, TooFewBytes}
use Rattle.recording.specs.declared.Refusal.TheVariants.{NotWholeDays, UnknownActivity, NoLawfulReading, ShortSpanList, FieldTooLarge}

-- An answer says by itself whether its number is a refusal, since both start at 1.
pub data Answer (A : Type 0) : Type 0 where
  refused : ℕ → Answer A
  answered : A → Answer A

-- The first refusal ends an operation.
abbrev pub and_then : {A B : Type 0} → Answer A → (A → Answer B) → Answer B
and_then (refused n) f = refused n
and_then (answered a) f = f a

-- a refusal, where its test holds
abbrev pub refuse_if : {A : Type 0} → Bool → ℕ → Answer A → Answer A
refuse_if true n later = refused n
refuse_if false n later = later

-- An operation that fills a lent buffer writes from its start, leaves what lies beyond, and answers with the count of words, bytes or records that it
-- wrote. Such an operation is given by the answer that holds what it writes.
abbrev pub counted : {A : Type 0} → Answer (List A) → Answer ℕ
counted (refused n) = refused n
counted (answered new) = answered (length new)

-- A refusal leaves every lent buffer as it was.
abbrev pub filled : {A : Type 0} → Answer (List A) → List A → List A
filled (refused n) old = old
filled (answered new) old = new ++ drop (length new) old

-- the number of a refusal, as callers in C and the printed page have it
abbrev pub number_of : Refusal → ℕ
number_of NoMinutes = 1
number_of TooLong = 2
number_of ShortList = 3
number_of ShortReading = 4
number_of StretchTooLong = 5
number_of WrongByteCount = 6
number_of NoSuchEntry = 7
number_of NotText = 8
number_of TooFewWords = 9
number_of TooFewBytes = 10
number_of NotWholeDays = 11
number_of UnknownActivity = 12
number_of NoLawfulReading = 13
number_of ShortSpanList = 14
number_of FieldTooLarge = 15

-- what the code's result says
abbrev pub answer_of : {A : Type 0} → Result A Refusal → Answer A
answer_of (Ok a) = answered a
answer_of (Err r) = refused (number_of r)
