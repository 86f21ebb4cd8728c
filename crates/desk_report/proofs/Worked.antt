-- The document's own case, a case of each other form that is printed, and numbers at their edges. Assumes nothing.
use mathlib.Core.Path.{◌≡◌, refl, ap, ◌∙◌}
use mathlib.Core.Bool.{true, false}
use mathlib.Core.List.{List, [], ◌∷◌, ◌++◌}
use Prim.Native.Nat.{ℕ, zero, suc}
use native.Mathlib.Omega.{arith}
use lib.ListN.{replicate, length-replicate}
use Rattle.recording.specs.Tests.{keep}
use Rattle.recording.specs.Answers.{answered}
use Rattle.recording.specs.Words.{minutes_of}
use Rattle.recording.specs.Operations.{fault_of, total_from, measured, measure_of}
use Rattle.recording.specs.Opened as recording
use Rattle.recording.proofs.ByWord.{end_by, closed_by, judged_end_by, long_rests_by, judged_by, rests_by, total_by, total_by_law}
use Rattle.rules.specs.Opened as rules
use Rattle.rules.specs.Verdict.{pass, breach, verdict}
use Rattle.rules.specs.Spans.{spans_from, breach_spans}
use Rattle.rules.proofs.Spans.{span}
use Rattle.rules.proofs.Breach.{verdict-pass}
use Rattle.rules.proofs.OnlyDaily.{all_daily, daily_first}
use Rattle.rules.proofs.Cases.{Case, passes, Says, AllSay, starred, worked, ordered, asked, alone, year, on_the_edge, d, w, r, times, daily, weekly, weekly_by}
use Rattle.text_lines.specs.Form.{run_name, digit_at, decimal, line_text, text_of_lines, runs_then, weeks_then_end, text_of}
use Rattle.text_lines.specs.Reading.{same, number_from, number_after, run_or, line_of, lines_from, stage_after, stage_from, is_text, words_of, text_read}
use Rattle.card_reader.specs.Reading as card
use Rattle.desk_lines.specs.Lines.{as_line, closed, verdict_name, minutes_name, judged_name, reading_name, daily_name, weekly_name, breach_name, refused_name, numbered, span_text, daily_text}
use Rattle.desk_lines.specs.Lines.{weekly_text, rest_text, article_text, breach_text}
use Rattle.desk_report.specs.Printed.{rests_text, finding_text, bracketed, verdict_text, input_read, desk_text, card_input_read, card_text}
use Rattle.desk_lines.specs.Lines.{weeks_name, weeks_text}
use Rattle.desk_report.specs.Printed.{spans_name, weeks_lines, spans_page, spans_text, desk_spans_text, card_spans_text}
use Rattle.desk_report.proofs.SpanLines.{spans_refused}
use Rattle.desk_report.proofs.Answered.{text_is, text_refused, desk_words, desk_over, card_words_law, card_over, input_over}

-- ---- the document's own case
abbrev paper_words : List ℕ
paper_words = d 240 ∷ r 660 ∷ w 60 ∷ []

-- `(recording`, `(week`, `(drive 240)`, `(rest 660)`, `(work 60)`, `)`, `)`
abbrev paper_text : List ℕ
paper_text = text_of (paper_words ∷ [])

paper_read : input_read paper_text ≡ answered paper_words
unfolding input_read run_name digit_at decimal line_text text_of_lines runs_then weeks_then_end same number_from number_after run_or line_of lines_from stage_after stage_from
    is_text words_of text_read
paper_read = refl

-- words that weighing accepts
weighed : (ws : List ℕ) {n : ℕ} → total_from 0 ws ≡ answered n → measured ws ≡ answered (measure_of (minutes_of ws))
unfolding measured
weighed ws q = rw q refl

paper_pass : verdict (minutes_of paper_words) ≡ pass (0 ∷ 0 ∷ 0 ∷ 0 ∷ [])
unfolding recording.opened rules.opened
paper_pass = verdict-pass (minutes_of paper_words) (all_daily (minutes_of paper_words)) (daily_first (minutes_of paper_words) refl)

-- `(verdict`, `(minutes 960)`, `(judged 960)`, `(reading`, `(daily 240 900)`, `)`, `)`
pub paper_printed : desk_text paper_text
    ≡ as_line verdict_name ++ (minutes_name ++ 32 ∷ 57 ∷ 54 ∷ 48 ∷ closed) ++ (judged_name ++ 32 ∷ 57 ∷ 54 ∷ 48 ∷ closed) ++ as_line reading_name
    ++ (daily_name ++ 32 ∷ 50 ∷ 52 ∷ 48 ∷ 32 ∷ 57 ∷ 48 ∷ 48 ∷ closed) ++ closed ++ closed
unfolding recording.opened digit_at decimal numbered span_text daily_text rest_text rests_text
paper_printed = desk_words paper_text paper_read ∙ text_is paper_words (weighed paper_words refl) paper_pass

-- ---- a card's day of the same kind: driving at minute 0, rest at 240, other work at 900
abbrev card_words : List ℕ
card_words = d 240 ∷ r 660 ∷ w 540 ∷ []

abbrev card_bytes : List ℕ
card_bytes = 24 ∷ 0 ∷ 0 ∷ 240 ∷ 19 ∷ 132 ∷ []

card_taken : card_input_read card_bytes ≡ answered card_words
unfolding recording.opened card_input_read card.changes_in card.is_unknown card.follows card.all_follow card.in_order card.is_even card.is_day_record card.end_before card.words_of card.card_read
card_taken = refl

card_pass : verdict (minutes_of card_words) ≡ pass (0 ∷ 0 ∷ 0 ∷ 0 ∷ [])
unfolding recording.opened rules.opened
card_pass = verdict-pass (minutes_of card_words) (all_daily (minutes_of card_words)) (daily_first (minutes_of card_words) refl)

-- `(verdict`, `(minutes 1440)`, `(judged 1440)`, `(reading`, `(daily 240 900)`, `)`, `)`
pub card_printed : card_text card_bytes
    ≡ as_line verdict_name ++ (minutes_name ++ 32 ∷ 49 ∷ 52 ∷ 52 ∷ 48 ∷ closed) ++ (judged_name ++ 32 ∷ 49 ∷ 52 ∷ 52 ∷ 48 ∷ closed) ++ as_line reading_name
    ++ (daily_name ++ 32 ∷ 50 ∷ 52 ∷ 48 ∷ 32 ∷ 57 ∷ 48 ∷ 48 ∷ closed) ++ closed ++ closed
unfolding recording.opened digit_at decimal numbered span_text daily_text rest_text rests_text
card_printed = card_words_law card_bytes card_taken ∙ text_is card_words (weighed card_words refl) card_pass

-- ---- breaches: the verdicts of the cases "On the edge", by their number from 0
abbrev case_at : List Case → ℕ → Case
case_at [] i = passes []
case_at (c ∷ cs) zero = c
case_at (c ∷ cs) (suc i) = case_at cs i

say_at : (cs : List Case) → AllSay cs → (i : ℕ) → Says (case_at cs i)
say_at [] t i = on_the_edge.0
say_at (c ∷ cs) t zero = t.0
say_at (c ∷ cs) t (suc i) = say_at cs t.1 i

edge : (i : ℕ) → Says (case_at (starred ++ worked ++ ordered ++ asked ++ alone ++ year) i)
edge = say_at (starred ++ worked ++ ordered ++ asked ++ alone ++ year) on_the_edge

breach_printed : (ws : List ℕ) {n m a : ℕ} → total_from 0 ws ≡ answered n → verdict (minutes_of ws) ≡ breach m a
    → verdict_text ws ≡ bracketed (numbered minutes_name (total_by ws) ++ breach_text m a)
breach_printed ws {n} {m} {a} q e = text_is ws (weighed ws q) e ∙ ap (λ (k : ℕ). bracketed (numbered minutes_name k ++ breach_text m a)) (total_by_law ws)

-- ---- a pass with a given reading, word by word
lines_by : (ws reading : List ℕ) → finding_text (minutes_of ws) (pass reading)
    ≡ numbered judged_name (judged_end_by ws) ++ as_line reading_name ++ rests_text (long_rests_by ws) reading ++ closed
lines_by ws reading = rw (judged_by ws, rests_by ws)

-- `(verdict`, `(minutes N)`, `(breach m a)`, `)`, from the digits of N and m and the bytes of a
abbrev breach_page : List ℕ → List ℕ → List ℕ → List ℕ
breach_page total m a = as_line verdict_name ++ (minutes_name ++ 32 ∷ total ++ closed) ++ (breach_name ++ 32 ∷ m ++ 32 ∷ a ++ closed) ++ closed

-- `(verdict`, `(refused n)`, `)`
abbrev refused_page : ℕ → List ℕ
refused_page digit = as_line verdict_name ++ (refused_name ++ 32 ∷ digit ∷ closed) ++ closed

-- a day of 540 minutes of driving
abbrev day : List ℕ
day = d 270 ∷ r 45 ∷ d 270 ∷ []

pub record Forms : Type 0 where
  -- `(minutes 584)`, `(breach 315 7)`
  article_7 : verdict_text (d 135 ∷ r 14 ∷ d 135 ∷ r 30 ∷ d 270 ∷ [])
      ≡ breach_page (53 ∷ 56 ∷ 52 ∷ []) (51 ∷ 49 ∷ 53 ∷ []) (55 ∷ [])
  -- `(minutes 691)`, `(breach 691 6.1)`
  article_6_1 : verdict_text (d 270 ∷ r 45 ∷ d 270 ∷ r 45 ∷ d 61 ∷ [])
      ≡ breach_page (54 ∷ 57 ∷ 49 ∷ []) (54 ∷ 57 ∷ 49 ∷ []) (54 ∷ 46 ∷ 49 ∷ [])
  -- `(minutes 7231)`, `(breach 7231 6.2)`
  article_6_2 : verdict_text (times 3 (day ++ r 540 ∷ []) (times 3 (day ++ r 660 ∷ []) (d 121 ∷ [])))
      ≡ breach_page (55 ∷ 50 ∷ 51 ∷ 49 ∷ []) (55 ∷ 50 ∷ 51 ∷ 49 ∷ []) (54 ∷ 46 ∷ 50 ∷ [])
  -- `(minutes 14086)`, `(breach 14086 6.3)`
  article_6_3 : verdict_text (times 3 (day ++ r 540 ∷ []) (times 2 (day ++ r 660 ∷ []) (day ++ r 3630 ∷ times 3 (day ++ r 540 ∷ []) (day ++ r 45 ∷ d 1 ∷ []))))
      ≡ breach_page (49 ∷ 52 ∷ 48 ∷ 56 ∷ 54 ∷ []) (49 ∷ 52 ∷ 48 ∷ 56 ∷ 54 ∷ []) (54 ∷ 46 ∷ 51 ∷ [])
  -- `(minutes 901)`, `(breach 901 8.2)`
  article_8_2 : verdict_text (w 901 ∷ [])
      ≡ breach_page (57 ∷ 48 ∷ 49 ∷ []) (57 ∷ 48 ∷ 49 ∷ []) (56 ∷ 46 ∷ 50 ∷ [])
  -- `(minutes 5761)`, `(breach 5761 8)`
  article_8 : verdict_text (times 4 (w 840 ∷ r 600 ∷ []) (w 1 ∷ []))
      ≡ breach_page (53 ∷ 55 ∷ 54 ∷ 49 ∷ []) (53 ∷ 55 ∷ 54 ∷ 49 ∷ []) (56 ∷ [])
  -- `(judged 13741)`, `(reading`, `(weekly 6650 10380 0 0)`, `(weekly 10440 11880 1 259)`, `(daily 11940 13740)`, `)`
  weekly_rests : finding_text (minutes_of (w 6650 ∷ r 3730 ∷ w 60 ∷ r 1440 ∷ w 60 ∷ r 1800 ∷ w 1 ∷ [])) (pass (weekly 0 0 (weekly_by 1 3 1 (daily 1 []))))
      ≡ (judged_name ++ 32 ∷ 49 ∷ 51 ∷ 55 ∷ 52 ∷ 49 ∷ closed) ++ as_line reading_name
      ++ (weekly_name ++ 32 ∷ 54 ∷ 54 ∷ 53 ∷ 48 ∷ 32 ∷ 49 ∷ 48 ∷ 51 ∷ 56 ∷ 48 ∷ 32 ∷ 48 ∷ 32 ∷ 48 ∷ closed)
      ++ (weekly_name ++ 32 ∷ 49 ∷ 48 ∷ 52 ∷ 52 ∷ 48 ∷ 32 ∷ 49 ∷ 49 ∷ 56 ∷ 56 ∷ 48 ∷ 32 ∷ 49 ∷ 32 ∷ 50 ∷ 53 ∷ 57 ∷ closed)
      ++ (daily_name ++ 32 ∷ 49 ∷ 49 ∷ 57 ∷ 52 ∷ 48 ∷ 32 ∷ 49 ∷ 51 ∷ 55 ∷ 52 ∷ 48 ∷ closed) ++ closed
  -- a word of no minutes; a minute too many
  no_minutes : verdict_text (w 60 ∷ r 0 ∷ []) ≡ refused_page 49
  too_long : verdict_text (r 534240 ∷ w 1 ∷ []) ≡ refused_page 50
  -- a text of no bytes, and one of 65,537, whatever they are
  no_text : desk_text [] ≡ refused_page 56
  long_text : (byte : ℕ) → desk_text (replicate 65537 byte) ≡ refused_page 57

pub forms : Forms
unfolding keep end_by closed_by total_by fault_of total_from measured digit_at decimal numbered span_text daily_text weekly_text rest_text rests_text article_text breach_text
    desk_text input_read lines_from
    stage_from is_text words_of text_read
forms = record {
  article_7 = breach_printed _ refl (edge 4);
  article_6_1 = breach_printed _ refl (edge 32);
  article_6_2 = breach_printed _ refl (edge 36);
  article_6_3 = breach_printed _ refl (edge 37);
  article_8_2 = breach_printed _ refl (edge 8);
  article_8 = breach_printed _ refl (edge 12);
  weekly_rests = lines_by _ _;
  no_minutes = text_refused _ refl;
  too_long = text_refused _ refl;
  no_text = refl;
  long_text = λ byte. desk_over (replicate 65537 byte) (omega (arith, length-replicate 65537 byte));
}

pub record CardForms : Type 0 where
  -- a day record with an odd count, one with an unknown activity, and one of 65,537 bytes
  odd_record : card_text (0 ∷ []) ≡ as_line verdict_name ++ (refused_name ++ 32 ∷ 49 ∷ 49 ∷ closed) ++ closed
  unknown_record : card_text (32 ∷ 0 ∷ []) ≡ as_line verdict_name ++ (refused_name ++ 32 ∷ 49 ∷ 50 ∷ closed) ++ closed
  long_record : (byte : ℕ) → card_text (replicate 65537 byte) ≡ refused_page 57

pub card_forms : CardForms
unfolding recording.opened digit_at decimal numbered card_text card_input_read
    card.changes_in card.is_unknown card.follows card.all_follow card.in_order card.is_even card.is_day_record card.end_before card.words_of card.card_read
card_forms = record {
  odd_record = refl;
  unknown_record = refl;
  long_record = λ byte. card_over (replicate 65537 byte) (omega (arith, length-replicate 65537 byte));
}

pub record SpanForms : Type 0 where
  -- `(spans`, `(weeks 0 5)`, `(weeks 10 11)`, `)`
  two_spans : spans_page (span 0 5 ∷ span 10 11 ∷ [])
      ≡ as_line spans_name ++ ((weeks_name ++ 32 ∷ 48 ∷ 32 ∷ 53 ∷ closed) ++ (weeks_name ++ 32 ∷ 49 ∷ 48 ∷ 32 ∷ 49 ∷ 49 ∷ closed)) ++ closed
  -- no minutes have no weeks
  no_span : spans_text [] ≡ as_line spans_name ++ closed
  -- refusals as on the verdict's page: a word of no minutes, a text of no bytes and one of 65,537, a day record with an odd count
  no_minutes_alone : spans_text (w 60 ∷ r 0 ∷ []) ≡ refused_page 49
  no_text_alone : desk_spans_text [] ≡ refused_page 56
  long_text_alone : (byte : ℕ) → desk_spans_text (replicate 65537 byte) ≡ refused_page 57
  odd_record_alone : card_spans_text (0 ∷ []) ≡ as_line verdict_name ++ (refused_name ++ 32 ∷ 49 ∷ 49 ∷ closed) ++ closed

pub span_forms : SpanForms
unfolding recording.opened digit_at decimal numbered span_text weeks_text weeks_lines spans_text desk_spans_text card_spans_text input_read card_input_read lines_from stage_from
    is_text words_of text_read
    spans_from breach_spans card.changes_in card.is_unknown card.follows card.all_follow card.in_order card.is_even card.is_day_record card.end_before card.words_of card.card_read
span_forms = record {
  two_spans = refl;
  no_span = refl;
  no_minutes_alone = spans_refused (w 60 ∷ r 0 ∷ []) {n = 1} refl;
  no_text_alone = refl;
  long_text_alone = λ byte. input_over false true (replicate 65537 byte) (omega (arith, length-replicate 65537 byte));
  odd_record_alone = refl;
}

-- ---- numbers at their edges
pub record Numbers : Type 0 where
  none : decimal 0 ≡ 48 ∷ []
  nine : decimal 9 ≡ 57 ∷ []
  ten : decimal 10 ≡ 49 ∷ 48 ∷ []
  five_digits : decimal 99999 ≡ 57 ∷ 57 ∷ 57 ∷ 57 ∷ 57 ∷ []
  most : decimal 120960 ≡ 49 ∷ 50 ∷ 48 ∷ 57 ∷ 54 ∷ 48 ∷ []

pub numbers : Numbers
unfolding digit_at decimal
numbers = record { none = refl; nine = refl; ten = refl; five_digits = refl; most = refl }
