-- Public: the form of bracket text, said by reading line by line, and what reading a text answers.
-- Assumes nothing.
use Rattle.std.specs.Prelude.{Bool, true, false, not, List, [], ◌∷◌, ◌++◌, ℕ, ◌+◌, ◌-◌, ◌*◌, eqb, leb, ltb, length}
use Rattle.recording.specs.Tests.{pick}
use Rattle.recording.specs.Answers.{Answer, answered, refuse_if}
use Rattle.recording.specs.Words.{word_of, minutes_in, rest, availability, other_work, driving}
use Rattle.recording.specs.Weeks.{week_minutes}
use Rattle.text_lines.specs.declared.Line.{Line}
use Rattle.text_lines.specs.declared.Line.TheVariants as line
use Rattle.text_lines.specs.declared.Stage.{Stage}
use Rattle.text_lines.specs.declared.Stage.TheVariants as stage
use Rattle.text_lines.specs.Form.{line_end, recording_line, week_line, closing, closing_line, run_name, digit_zero, base, run_at_most, weeks_at_most}

-- ---- one line
unfoldable pub same : List ℕ → List ℕ → Bool
same [] [] = true
same [] (y ∷ ys) = false
same (x ∷ xs) [] = false
same (x ∷ xs) (y ∷ ys) = pick (eqb x y) (same xs ys) false

abbrev pub is_empty : List ℕ → Bool
is_empty [] = true
is_empty (x ∷ xs) = false

-- A decimal number from 1 to 10080 without leading zeros, then `)` and nothing more: the number, or 0 where that does not stand there. Digit by digit, after
-- the value so far: each digit leaves a number from 1 to 10080, so the first one is not 0.
abbrev pub is_digit : ℕ → Bool
is_digit b = pick (leb digit_zero b) (ltb b (digit_zero + base)) false

abbrev pub with_digit : ℕ → ℕ → ℕ
with_digit value b = value * base + (b - digit_zero)

abbrev pub in_range : ℕ → Bool
in_range n = pick (eqb n 0) false (leb n run_at_most)

unfoldable pub number_from : ℕ → List ℕ → ℕ
number_from value [] = 0
number_from value (b ∷ bs) =
    pick (eqb b closing) (pick (is_empty bs) value 0)
    (pick (is_digit b) (pick (in_range (with_digit value b)) (number_from (with_digit value b) bs) 0) 0)

-- the number after a name, or 0
unfoldable pub number_after : List ℕ → List ℕ → ℕ
number_after [] bs = number_from 0 bs
number_after (c ∷ cs) [] = 0
number_after (c ∷ cs) (b ∷ bs) = pick (eqb b c) (number_after cs bs) 0

-- a run of this activity, or else
unfoldable pub run_or : ℕ → List ℕ → Line → Line
run_or a l other = pick (eqb (number_after (run_name a) l) 0) other (line.Run (word_of (number_after (run_name a) l) a))

abbrev pub run_or_other : List ℕ → Line
run_or_other l = run_or rest l (run_or availability l (run_or other_work l (run_or driving l line.Other)))

unfoldable pub line_of : List ℕ → Line
line_of l =
    pick (same l recording_line) line.Recording
    (pick (same l week_line) line.Week
    (pick (same l closing_line) line.Closing (run_or_other l)))

-- The reader goes through the text line by line, and each ends in byte 10. The lines from a place on, of which the bytes `l` were read; bytes with
-- no end are no line of the form.
unfoldable pub lines_from : List ℕ → List ℕ → List Line
lines_from [] [] = []
lines_from (x ∷ l) [] = line.Other ∷ []
lines_from l (b ∷ bs) = pick (eqb b line_end) (line_of l ∷ lines_from [] bs) (lines_from (l ++ b ∷ []) bs)

abbrev pub lines_in : List ℕ → List Line
lines_in text = lines_from [] text

-- ---- line after line. A stage is where the reader stands: before the text, between two weeks, within a week, over, or at something wrong. Between
-- and within, `left` is how many minutes the week that was read last can still take, and `more` how many weeks may still follow.

-- `(recording`, then 0 to 53 weeks: no week before lacks a minute.
abbrev pub on_recording : Stage → Stage
on_recording stage.Before = stage.Between 0 weeks_at_most
on_recording (stage.Between left more) = stage.Wrong
on_recording (stage.Within left more) = stage.Wrong
on_recording stage.Over = stage.Wrong
on_recording stage.Wrong = stage.Wrong

-- Every week but the last sums to 10,080: another week begins only after a full one.
abbrev pub on_week : Stage → Stage
on_week stage.Before = stage.Wrong
on_week (stage.Between left more) = pick (eqb left 0) (pick (eqb more 0) stage.Wrong (stage.Within week_minutes (more - 1))) stage.Wrong
on_week (stage.Within left more) = stage.Wrong
on_week stage.Over = stage.Wrong
on_week stage.Wrong = stage.Wrong

-- The last sums to at most that.
abbrev pub on_run : ℕ → Stage → Stage
on_run n stage.Before = stage.Wrong
on_run n (stage.Between left more) = stage.Wrong
on_run n (stage.Within left more) = pick (leb n left) (stage.Within (left - n) more) stage.Wrong
on_run n stage.Over = stage.Wrong
on_run n stage.Wrong = stage.Wrong

-- After one or more runs `)` ends the week; after 0 to 53 weeks it ends the text.
abbrev pub on_closing : Stage → Stage
on_closing stage.Before = stage.Wrong
on_closing (stage.Between left more) = stage.Over
on_closing (stage.Within left more) = pick (ltb left week_minutes) (stage.Between left more) stage.Wrong
on_closing stage.Over = stage.Wrong
on_closing stage.Wrong = stage.Wrong

unfoldable pub stage_after : Stage → Line → Stage
stage_after s line.Recording = on_recording s
stage_after s line.Week = on_week s
stage_after s line.Closing = on_closing s
stage_after s (line.Run w) = on_run (minutes_in w) s
stage_after s line.Other = stage.Wrong

unfoldable pub stage_from : Stage → List Line → Stage
stage_from s [] = s
stage_from s (l ∷ ls) = stage_from (stage_after s l) ls

abbrev pub is_over : Stage → Bool
is_over stage.Before = false
is_over (stage.Between left more) = false
is_over (stage.Within left more) = false
is_over stage.Over = true
is_over stage.Wrong = false

unfoldable pub is_text : List ℕ → Bool
is_text text = is_over (stage_from stage.Before (lines_in text))

-- ---- reading writes one word a run line
abbrev pub words_in : Line → List ℕ
words_in line.Recording = []
words_in line.Week = []
words_in line.Closing = []
words_in (line.Run w) = w ∷ []
words_in line.Other = []

unfoldable pub words_of : List Line → List ℕ
words_of [] = []
words_of (l ∷ ls) = words_in l ++ words_of ls

-- Reading text: refusal 8, not of the form; then 9, fewer words lent than run lines. It writes one word a run line, leaves later words, and gives
-- their count. `counted` and `filled` of it are the result and the `room` words.
unfoldable pub text_read : List ℕ → ℕ → Answer (List ℕ)
text_read text room = refuse_if (not (is_text text)) 8 (refuse_if (ltb room (length (words_of (lines_in text)))) 9 (answered (words_of (lines_in text))))
