-- Worked cases at the edges of this layer's numbers. Assumes nothing.
use mathlib.Core.Path.{◌≡◌, refl, sym, ap, ◌∙◌}
use mathlib.Core.List.{List, [], ◌∷◌}
use Prim.Native.Nat.{ℕ, ◌*◌}
use native.Mathlib.Omega.{arith}
use lib.ListN.{length, replicate}
use Rattle.recording.specs.Tests.{◌or◌}
use Rattle.recording.specs.Answers.{refused, answered, counted, filled}
use Rattle.recording.specs.Words.{word_of, rest, other_work, driving, minutes_of}
use Rattle.recording.specs.Operations.{fault_of, unless_fault}
use Rattle.recording.specs.Opened.{opened}
use Rattle.card_reader.specs.Form.{bytes_of}
use Rattle.card_reader.specs.Reading.{changes_in, is_unknown, follows, all_follow, in_order, is_even, is_day_record, end_before, words_of, card_read}
use Rattle.card.specs.Writing.{change_of, is_written, change_if, changes_from, is_whole_days, changes_of, card_written}
use Rattle.card_reader.specs.Passes.{begun, after_change, judged_from, refusal_for}
use Rattle.recording.specs.declared.Activity.TheVariants.{OtherWork}
use Rattle.recording.specs.declared.Run.{Run}
use Rattle.card.specs.Sizes.{changes_in_run, changes_counted}
use Rattle.card_reader.proofs.Judging.{refusal_is}
use Rattle.card_reader.proofs.FormLaws.{bytes_length}
use Rattle.card.proofs.Putting.{start_counting, count_on, count_done, counted_words, counted_is}

abbrev r : ℕ → ℕ
r n = word_of n rest

abbrev w : ℕ → ℕ
w n = word_of n other_work

abbrev d : ℕ → ℕ
d n = word_of n driving

-- days of rest
abbrev days : ℕ → List ℕ
days n = replicate (2 * n) 0

pub record Worked : Type 0 where
  -- ---- reading
  -- no bytes are no days, and one change at minute 0 is a day
  empty : card_read [] 0 ≡ answered []
  rest_day : card_read (0 ∷ 0 ∷ []) 1 ≡ answered (r 1440 ∷ [])
  -- rest, and driving from minute 600: up to 1,440
  two_changes : card_read (0 ∷ 0 ∷ 26 ∷ 88 ∷ []) 2 ≡ answered (r 600 ∷ d 840 ∷ [])
  -- minute 0 always begins a day
  two_days : card_read (24 ∷ 0 ∷ 0 ∷ 0 ∷ []) 2 ≡ answered (d 1440 ∷ r 1440 ∷ [])
  -- s is not looked at, nor c where p is zero; card out with c set is known, with c zero it is not
  slot_set : card_read (128 ∷ 0 ∷ []) 1 ≡ answered (r 1440 ∷ [])
  crew_set : card_read (64 ∷ 0 ∷ []) 1 ≡ answered (r 1440 ∷ [])
  out_known : card_read (96 ∷ 0 ∷ []) 1 ≡ answered (r 1440 ∷ [])
  out_unknown : card_read (32 ∷ 0 ∷ []) 1 ≡ refused 12
  slot_unknown : card_read (160 ∷ 0 ∷ []) 1 ≡ refused 12
  later_unknown : card_read (0 ∷ 0 ∷ 32 ∷ 1 ∷ []) 2 ≡ refused 12
  -- an odd count
  one_byte : card_read (0 ∷ []) 1 ≡ refused 11
  three_bytes : card_read (0 ∷ 0 ∷ 0 ∷ []) 2 ≡ refused 11
  -- a first minute other than 0
  first_minute : card_read (0 ∷ 1 ∷ []) 1 ≡ refused 11
  -- a minute over 1,439
  last_minute : card_read (0 ∷ 0 ∷ 29 ∷ 159 ∷ []) 2 ≡ answered (r 1439 ∷ d 1 ∷ [])
  past_minute : card_read (0 ∷ 0 ∷ 29 ∷ 160 ∷ []) 2 ≡ refused 11
  highest_minute : card_read (0 ∷ 0 ∷ 255 ∷ 255 ∷ []) 2 ≡ refused 11
  -- a minute above 0 that is not over the one before it
  rising : card_read (0 ∷ 0 ∷ 24 ∷ 60 ∷ 0 ∷ 61 ∷ []) 3 ≡ answered (r 60 ∷ d 1 ∷ r 1379 ∷ [])
  equal : card_read (0 ∷ 0 ∷ 24 ∷ 60 ∷ 0 ∷ 60 ∷ []) 3 ≡ refused 11
  falling : card_read (0 ∷ 0 ∷ 24 ∷ 60 ∷ 0 ∷ 59 ∷ []) 3 ≡ refused 11
  -- 11 before 12, although the unknown activity stands first
  order_first : card_read (32 ∷ 0 ∷ 0 ∷ 60 ∷ 0 ∷ 60 ∷ []) 3 ≡ refused 11
  -- 371 days are 534,240 minutes; 12 before 2, and 2 before 9
  most_days : counted (card_read (days 371) 371) ≡ answered 371
  more_days : card_read (days 372) 372 ≡ refused 2
  unknown_first : card_read (32 ∷ 0 ∷ days 371) 0 ≡ refused 12
  total_first : card_read (days 372) 0 ≡ refused 2
  -- words lent: too few, and more than are needed
  few_words : card_read (0 ∷ 0 ∷ 26 ∷ 88 ∷ []) 1 ≡ refused 9
  more_words : filled (card_read (0 ∷ 0 ∷ []) 2) (7 ∷ 8 ∷ []) ≡ r 1440 ∷ 8 ∷ []
  words_kept : filled (card_read (0 ∷ 1 ∷ []) 2) (7 ∷ 8 ∷ []) ≡ 7 ∷ 8 ∷ []
  -- ---- writing
  -- no minutes, and a day of rest
  nothing : card_written [] 0 ≡ answered []
  rest_written : card_written (r 1440 ∷ []) 2 ≡ answered (0 ∷ 0 ∷ [])
  -- equal neighbours are one change
  joins : card_written (r 500 ∷ r 100 ∷ d 400 ∷ d 440 ∷ []) 4 ≡ answered (0 ∷ 0 ∷ 26 ∷ 88 ∷ [])
  -- a run over midnight has a change at minute 0 of the next day
  over_midnight : card_written (r 600 ∷ d 900 ∷ r 1380 ∷ []) 8 ≡ answered (0 ∷ 0 ∷ 26 ∷ 88 ∷ 24 ∷ 0 ∷ 0 ∷ 60 ∷ [])
  long_run : card_written (r 600 ∷ d 3720 ∷ []) 8 ≡ answered (0 ∷ 0 ∷ 26 ∷ 88 ∷ 24 ∷ 0 ∷ 24 ∷ 0 ∷ [])
  at_midnight : card_written (r 1440 ∷ d 1440 ∷ []) 4 ≡ answered (0 ∷ 0 ∷ 24 ∷ 0 ∷ [])
  last_written : card_written (r 1439 ∷ d 1 ∷ []) 4 ≡ answered (0 ∷ 0 ∷ 29 ∷ 159 ∷ [])
  -- only whole days
  short_day : card_written (r 1439 ∷ []) 2 ≡ refused 11
  long_day : card_written (r 1440 ∷ d 1 ∷ []) 4 ≡ refused 11
  -- 1 and 2 before 11, and 11 before 10
  no_minutes : card_written (r 1 ∷ r 0 ∷ []) 0 ≡ refused 1
  past_total : card_written (r 534241 ∷ []) 0 ≡ refused 2
  part_first : card_written (r 1439 ∷ []) 0 ≡ refused 11
  -- bytes lent: too few, and more than are needed
  few_bytes : card_written (r 1440 ∷ []) 1 ≡ refused 10
  more_bytes : filled (card_written (d 1440 ∷ []) 3) (7 ∷ 8 ∷ 9 ∷ []) ≡ 24 ∷ 0 ∷ 9 ∷ []
  bytes_kept : filled (card_written (d 1440 ∷ []) 1) (7 ∷ []) ≡ 7 ∷ []
  -- 534,240 minutes are 371 days
  most_minutes : counted (card_written (w 534240 ∷ []) 742) ≡ answered 742

-- ---- 371 and 372 days, by the first pass, which goes by changes and not by minutes
by_changes : (bytes : List ℕ) (room n : ℕ) → refusal_for (judged_from begun (changes_in bytes)) (length bytes) room ≡ n → card_read bytes room
    ≡ unless_fault n (answered (words_of (changes_in bytes)))
by_changes bytes room n e = refusal_is bytes room ∙ ap (λ (k : ℕ). unless_fault k (answered (words_of (changes_in bytes)))) e

-- and 534,240 minutes, counted word by word
most_counted : changes_counted (w 534240 ∷ []) ≡ answered 371
unfolding fault_of changes_in_run is_written ◌or◌
most_counted =
    let start = start_counting (w 534240 ∷ []) in
    let work : Run = record { activity = OtherWork; minutes = 534240 } in
    sym (count_done (count_on start (omega arith) {total = 534240} {run = work} refl (record { activity = refl; minutes = refl }) {r = 371} refl) refl refl)

most_written : counted (card_written (w 534240 ∷ []) 742) ≡ answered 742
most_written =
    rw (counted_words (w 534240 ∷ []) 742, most_counted)
    (ap answered (bytes_length (changes_of (minutes_of (w 534240 ∷ []))) ∙ ap (λ (k : ℕ). 2 * k) (sym (counted_is (w 534240 ∷ []) most_counted).changes)))

pub worked : Worked
unfolding opened bytes_of changes_in is_unknown follows all_follow in_order is_even is_day_record end_before words_of card_read change_of is_written change_if changes_from is_whole_days card_written
    after_change judged_from refusal_for
worked = record {
  empty = refl;
  rest_day = refl;
  two_changes = refl;
  two_days = refl;
  slot_set = refl;
  crew_set = refl;
  out_known = refl;
  out_unknown = refl;
  slot_unknown = refl;
  later_unknown = refl;
  one_byte = refl;
  three_bytes = refl;
  first_minute = refl;
  last_minute = refl;
  past_minute = refl;
  highest_minute = refl;
  rising = refl;
  equal = refl;
  falling = refl;
  order_first = refl;
  most_days = ap counted (by_changes (days 371) 371 0 refl);
  more_days = by_changes (days 372) 372 2 refl;
  unknown_first = refl;
  total_first = by_changes (days 372) 0 2 refl;
  few_words = refl;
  more_words = refl;
  words_kept = refl;
  nothing = refl;
  rest_written = refl;
  joins = refl;
  over_midnight = refl;
  long_run = refl;
  at_midnight = refl;
  last_written = refl;
  short_day = refl;
  long_day = refl;
  no_minutes = refl;
  past_total = refl;
  part_first = refl;
  few_bytes = refl;
  more_bytes = refl;
  bytes_kept = refl;
  most_minutes = most_written;
}
