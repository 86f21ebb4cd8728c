-- Public: what the desk program prints, of a text or of a card's day record: the verdict, or the spans of weeks.
-- Assumes nothing.
use Rattle.std.specs.Prelude.{Bool, true, false, List, [], ◌∷◌, ◌++◌, ℕ, ltb, length, drop, get_or}
use Rattle.recording.specs.Answers.{Answer, refused, answered, and_then, refuse_if}
use Rattle.recording.specs.Words.{minutes_of}
use Rattle.recording.specs.Rests.{judged_end, long_rests}
use Rattle.recording.specs.Operations.{measured}
use Rattle.recording.specs.declared.Span.{Span}
use Rattle.rules.specs.Reading.{entry_bytes, carrier_of}
use Rattle.rules.specs.Verdict.{Verdict, pass, breach, verdict}
use Rattle.rules.specs.Spans.{breach_spans}
use Rattle.rules.specs.declared.Weeks.{Weeks}
use Rattle.text_lines.specs.Reading.{text_read}
use Rattle.card_reader.specs.Reading.{card_read}
use Rattle.desk_report.specs.declared.Format.{Format}
use Rattle.desk_report.specs.declared.Format.TheVariants as format
use Rattle.desk_report.specs.declared.Shown.{Shown}
use Rattle.desk_report.specs.declared.Shown.TheVariants as shown
use Rattle.desk_lines.specs.Lines.{verdict_name, minutes_name, judged_name, reading_name, refused_name, as_line, closed, numbered, rest_text, breach_text, weeks_text}

-- ---- the verdict
-- the long rests in order, with four bytes of the reading for each; the carrier prints as a number
unfoldable pub rests_text : List Span → List ℕ → List ℕ
rests_text [] reading = []
rests_text (r ∷ rs) reading =
    rest_text r.start r.end (get_or reading 0 0) (get_or reading 1 0) (carrier_of (get_or reading 2 0) (get_or reading 3 0)) ++ rests_text rs (drop entry_bytes reading)

-- A breach has, after minutes, `(breach m a)` in place of judged and reading.
abbrev pub finding_text : List ℕ → Verdict → List ℕ
finding_text ms (pass reading) = numbered judged_name (judged_end ms) ++ as_line reading_name ++ rests_text (long_rests ms) reading ++ closed
finding_text ms (breach m a) = breach_text m a

-- the lines of a recording's verdict, between the first and the last
unfoldable pub answer_text : List ℕ → List ℕ
answer_text ms = numbered minutes_name (length ms) ++ finding_text ms (verdict ms)

-- `(verdict`, these lines, `)`
abbrev pub bracketed : List ℕ → List ℕ
bracketed lines = as_line verdict_name ++ lines ++ closed

-- A refusal prints `(verdict`, `(refused n)`, `)`.
abbrev pub printed : Answer (List ℕ) → List ℕ
printed (refused n) = bracketed (numbered refused_name n)
printed (answered lines) = bracketed lines

-- what is printed for words: the verdict, or refusal 1 or 2
abbrev pub words_answered : List ℕ → Answer (List ℕ)
words_answered words = and_then (measured words) (λ _. answered (answer_text (minutes_of words)))

unfoldable pub verdict_text : List ℕ → List ℕ
verdict_text words = printed (words_answered words)

-- ---- the spans of weeks
-- `(spans`
abbrev pub spans_name : List ℕ
spans_name = 40 ∷ 115 ∷ 112 ∷ 97 ∷ 110 ∷ 115 ∷ []

unfoldable pub weeks_lines : List Weeks → List ℕ
weeks_lines [] = []
weeks_lines (s ∷ ss) = weeks_text s.first s.last ++ weeks_lines ss

-- `(spans`, these lines, `)`
abbrev pub spans_page : List Weeks → List ℕ
spans_page ss = as_line spans_name ++ weeks_lines ss ++ closed

-- a refusal prints as the verdict's does
abbrev pub printed_spans : Answer (List Weeks) → List ℕ
printed_spans (refused n) = printed (refused n)
printed_spans (answered ss) = spans_page ss

-- what is printed of words: their spans, or refusal 1 or 2; the list that is lent is long enough for all
abbrev pub spans_answered : List ℕ → Answer (List Weeks)
spans_answered words = and_then (measured words) (λ _. answered (breach_spans (minutes_of words)))

unfoldable pub spans_text : List ℕ → List ℕ
spans_text words = printed_spans (spans_answered words)

-- ---- the desk program
-- The desk program reads a text from standard input, at most 65,536 bytes; more prints as refusal 9.
abbrev pub input_at_most : ℕ
input_at_most = 65536

abbrev pub unless_over : List ℕ → Answer (List ℕ) → Answer (List ℕ)
unless_over input read = refuse_if (ltb input_at_most (length input)) 9 read

-- It lends words enough for any text of that size: here a word for each byte.
unfoldable pub input_read : List ℕ → Answer (List ℕ)
input_read text = unless_over text (text_read text (length text))

-- what is printed for the bytes of the input
unfoldable pub desk_text : List ℕ → List ℕ
desk_text text = printed (and_then (input_read text) words_answered)

-- With `--card` the input is a card's day record, and all else is the same.
unfoldable pub card_input_read : List ℕ → Answer (List ℕ)
card_input_read bytes = unless_over bytes (card_read bytes (length bytes))

unfoldable pub card_text : List ℕ → List ℕ
card_text bytes = printed (and_then (card_input_read bytes) words_answered)

-- With `--spans` the spans of weeks are printed, and the input is read in the same way.
unfoldable pub desk_spans_text : List ℕ → List ℕ
desk_spans_text text = printed_spans (and_then (input_read text) spans_answered)

unfoldable pub card_spans_text : List ℕ → List ℕ
card_spans_text bytes = printed_spans (and_then (card_input_read bytes) spans_answered)

-- what an input is, and what is printed
abbrev pub is_card : Format → Bool
is_card format.Text = false
is_card format.Card = true

abbrev pub shows_spans : Shown → Bool
shows_spans shown.Verdict = false
shows_spans shown.Spans = true

-- what is printed for an input that is a card's day record, or a text: its spans, or its verdict
abbrev pub input_text : Bool → Bool → List ℕ → List ℕ
input_text true true input = card_spans_text input
input_text true false input = card_text input
input_text false true input = desk_spans_text input
input_text false false input = desk_text input

-- What is printed, composed in a buffer of `room` bytes: refusal 10, too few bytes. `counted` and `filled` of it are the result and the bytes.
unfoldable pub into_room : List ℕ → ℕ → Answer (List ℕ)
into_room bytes room = refuse_if (ltb room (length bytes)) 10 (answered bytes)
