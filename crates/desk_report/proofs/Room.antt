-- A run line has at least nine bytes, so a text has no more run lines than a ninth of its bytes; and a change has two. Assumes nothing.
use mathlib.Core.Path.{◌≡◌, refl, ap}
use mathlib.Core.Bool.{Bool, true, false, not}
use mathlib.Core.List.{List, [], ◌∷◌, ◌++◌}
use Prim.Native.Nat.{ℕ, suc, ◌+◌, ◌*◌, ◌≤◌}
use native.Mathlib.Omega.{arith}
use lib.Dec.{eqb, ltb}
use lib.ListN.{length, length-append}
use borrow.Author.Tests.{le-ltb, eqb-false}
use Rattle.recording.specs.Tests.{pick, any_of}
use Rattle.recording.specs.Answers.{answered, refuse_if}
use Rattle.recording.specs.Words.{word_of, rest, availability, other_work, driving, minutes_of}
use Rattle.recording.specs.Operations.{total_at_most}
use Rattle.text_lines.specs.Form.{line_end, recording_line, week_line, closing, closing_line, run_name}
use Rattle.text_lines.specs.Reading.{same, is_digit, with_digit, in_range, number_from, number_after, run_or, run_or_other, line_of, lines_from, lines_in, is_text, words_in, words_of, text_read}
use Rattle.text_lines.specs.declared.Line.{Line}
use Rattle.text_lines.specs.declared.Line.TheVariants as line
use Rattle.card_reader.specs.Reading.{changes_in, is_unknown, is_day_record, card_read}
use Rattle.card_reader.specs.Reading as card
use Rattle.card_reader.proofs.Judging.{words_are}
use Rattle.desk_report.specs.Composing.{run_line_bytes, change_bytes}

-- the end of a line that holds a number has a digit and a bracket
one_byte : (b : ℕ) → number_from 0 (b ∷ []) ≡ 0
unfolding number_from
one_byte b = go (eqb b closing) (is_digit b) (in_range (with_digit 0 b))
  where
    go : (e d r : Bool) → ◌≡◌ {A = ℕ} (pick e 0 (pick d (pick r 0 0) 0)) 0
    go true d r = refl
    go false true true = refl
    go false true false = refl
    go false false r = refl

number_long : (bs : List ℕ) → (number_from 0 bs ≡ 0 → ⊥) → 2 ≤ length bs
unfolding number_from
number_long [] h = absurd (h refl)
number_long (b ∷ []) h = absurd (h (one_byte b))
number_long (b ∷ d ∷ bs) h = omega arith

after_long : (cs bs : List ℕ) → (number_after cs bs ≡ 0 → ⊥) → length cs + 2 ≤ length bs
unfolding number_after
after_long [] bs h = omega (arith, number_long bs h)
after_long (c ∷ cs) [] h = absurd (h refl)
after_long (c ∷ cs) (b ∷ bs) h = go (eqb b c) h (after_long cs bs)
  where
    go : (e : Bool) → (pick e (number_after cs bs) 0 ≡ 0 → ⊥) → ((number_after cs bs ≡ 0 → ⊥) → length cs + 2 ≤ length bs) → suc (length cs) + 2 ≤ suc (length bs)
    go true k ih = omega (arith, ih k)
    go false k ih = absurd (k refl)

pick_least : (b : Bool) (xs ys : List ℕ) (k : ℕ) → k ≤ length xs → k ≤ length ys → k ≤ length (pick b xs ys)
pick_least true xs ys k h l = h
pick_least false xs ys k h l = l

name_long : (a : ℕ) → 6 ≤ length (run_name a)
unfolding run_name
name_long a =
    pick_least (eqb a rest) _ _ 6 (omega arith)
    (pick_least (eqb a availability) _ _ 6 (omega arith)
    (pick_least (eqb a other_work) _ _ 6 (omega arith) (omega arith)))

-- ---- one line, with its end
abbrev Roomy : List ℕ → Line → Type 0
Roomy l x = run_line_bytes * length (words_in x) ≤ length l + 1

run_roomy : (a : ℕ) (l : List ℕ) (other : Line) → Roomy l other → Roomy l (run_or a l other)
unfolding run_or
run_roomy a l other h = go (eqb (number_after (run_name a) l) 0) refl
  where
    go : (e : Bool) → eqb (number_after (run_name a) l) 0 ≡ e → Roomy l (pick e other (line.Run (word_of (number_after (run_name a) l) a)))
    go true e = h
    go false e = omega (arith, after_long (run_name a) l (eqb-false (number_after (run_name a) l) 0 e), name_long a)

other_roomy : (l : List ℕ) → Roomy l line.Other
other_roomy l = omega arith

pick_roomy : (l : List ℕ) (b : Bool) (x y : Line) → Roomy l x → Roomy l y → Roomy l (pick b x y)
pick_roomy l true x y h k = h
pick_roomy l false x y h k = k

line_roomy : (l : List ℕ) → Roomy l (line_of l)
unfolding line_of
line_roomy l =
    pick_roomy l (same l recording_line) line.Recording _ (omega arith)
    (pick_roomy l (same l week_line) line.Week _ (omega arith)
    (pick_roomy l (same l closing_line) line.Closing (run_or_other l) (omega arith)
    (run_roomy rest l _ (run_roomy availability l _ (run_roomy other_work l _ (run_roomy driving l line.Other (other_roomy l)))))))

-- ---- all lines
lines_roomy : (l bs : List ℕ) → run_line_bytes * length (words_of (lines_from l bs)) ≤ length l + length bs
unfolding lines_from words_of
lines_roomy [] [] = omega arith
lines_roomy (x ∷ l) [] = omega arith
lines_roomy l (b ∷ bs) = go (eqb b line_end) (first bs (lines_roomy [] bs)) (lines_roomy (l ++ b ∷ []) bs)
  where
    first : (bs : List ℕ) → run_line_bytes * length (words_of (lines_from [] bs)) ≤ 0 + length bs → run_line_bytes * length (words_of (lines_from [] bs)) ≤ length bs
    first bs h = omega arith

    go : (e : Bool) → run_line_bytes * length (words_of (lines_from [] bs)) ≤ length bs
        → run_line_bytes * length (words_of (lines_from (l ++ b ∷ []) bs)) ≤ length (l ++ b ∷ []) + length bs
        → run_line_bytes * length (words_of (pick e (line_of l ∷ lines_from [] bs) (lines_from (l ++ b ∷ []) bs))) ≤ length l + suc (length bs)
    go true h k = rw length-append (omega (arith, line_roomy l))
    go false h k = omega (arith, length-append l (b ∷ []))

pub runs_within : (text : List ℕ) → run_line_bytes * length (words_of (lines_in text)) ≤ length text
runs_within text = omega (arith, lines_roomy [] text)

-- reading is the same for any room that a ninth of the bytes fits into
pub room_same : (text : List ℕ) (room more : ℕ) → length text ≤ run_line_bytes * room → length text ≤ run_line_bytes * more → text_read text room ≡ text_read text more
unfolding text_read
room_same text room more h k =
    rw (le-ltb room (length (words_of (lines_in text))) (omega (arith, runs_within text)), le-ltb more (length (words_of (lines_in text))) (omega (arith, runs_within text)))

-- ---- a change has two bytes
pub card_room_same : (bytes : List ℕ) (room more : ℕ) → length bytes ≤ change_bytes * room → length bytes ≤ change_bytes * more → card_read bytes room ≡ card_read bytes more
unfolding card_read
card_room_same bytes room more h k =
    let n = words_are bytes in
    rw (le-ltb room (length (card.words_of (changes_in bytes))) (omega (arith, n)), le-ltb more (length (card.words_of (changes_in bytes))) (omega (arith, n)))

-- ---- the words that reading gave, by the bytes
pub text_words : (text : List ℕ) (room : ℕ) {ws : List ℕ} → text_read text room ≡ answered ws → run_line_bytes * length ws ≤ length text
unfolding text_read
text_words text room {ws} e = at (not (is_text text)) (ltb room (length (words_of (lines_in text)))) e
  where
    at : (a b : Bool) → refuse_if a 8 (refuse_if b 9 (answered (words_of (lines_in text)))) ≡ answered ws → run_line_bytes * length ws ≤ length text
    at true b e = let z : ◌≡◌ {A = ℕ} 0 1 = cc in absurd (omega arith)
    at false true e = let z : ◌≡◌ {A = ℕ} 0 1 = cc in absurd (omega arith)
    at false false e = let z : words_of (lines_in text) ≡ ws = cc in omega (arith, ap length z, runs_within text)

pub card_words_within : (bytes : List ℕ) (room : ℕ) {ws : List ℕ} → card_read bytes room ≡ answered ws → change_bytes * length ws ≤ length bytes
unfolding card_read
card_words_within bytes room {ws} e =
    at (not (is_day_record bytes)) (any_of is_unknown (changes_in bytes)) (ltb total_at_most (length (minutes_of (card.words_of (changes_in bytes)))))
    (ltb room (length (card.words_of (changes_in bytes)))) e
  where
    at : (a b c d : Bool) → refuse_if a 11 (refuse_if b 12 (refuse_if c 2 (refuse_if d 9 (answered (card.words_of (changes_in bytes)))))) ≡ answered ws → change_bytes * length ws ≤ length bytes
    at true b c d e = let z : ◌≡◌ {A = ℕ} 0 1 = cc in absurd (omega arith)
    at false true c d e = let z : ◌≡◌ {A = ℕ} 0 1 = cc in absurd (omega arith)
    at false false true d e = let z : ◌≡◌ {A = ℕ} 0 1 = cc in absurd (omega arith)
    at false false false true e = let z : ◌≡◌ {A = ℕ} 0 1 = cc in absurd (omega arith)
    at false false false false e = let z : card.words_of (changes_in bytes) ≡ ws = cc in omega (arith, ap length z, words_are bytes)
