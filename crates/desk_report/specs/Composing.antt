-- Inner: what the functions of this layer answer. Nobody has to believe it: no public contract cites it.
-- Assumes nothing.
use Rattle.std.specs.Prelude.{◌≡◌, Result, Ok, Err, Bool, true, false, List, [], ◌∷◌, ◌++◌, ℕ, ◌+◌, ◌*◌, ◌≤◌, length, take, drop, get_or}
use Rattle.recording.specs.Words.{minutes_of}
use Rattle.recording.specs.Rests.{long_rests, long_rests_at_most}
use Rattle.recording.specs.Operations.{total_at_most}
use Rattle.rules.specs.Reading.{entry_bytes, reading_size, carrier_of}
use Rattle.rules.specs.Verdict.{Verdict}
use Rattle.text.specs.declared.page.Page.{Page}
use Rattle.text.specs.Passes.{roomy}
use Rattle.recording.specs.Answers.{Answer, refused, answered}
use Rattle.recording.specs.declared.Refusal.{Refusal}
use Rattle.desk_lines.specs.Lines.{as_line, verdict_name, minutes_name, judged_name, reading_name, refused_name}
use Rattle.desk_report.specs.Printed.{verdict_text, spans_text}
use Rattle.desk_lines.specs.Lines.{numbered, rest_text}
use Rattle.desk_report.specs.Printed.{finding_text, bracketed}

-- the bytes that are enough for a line, for what stands around the lines of the rests, and for whatever is printed
abbrev pub line_at_most : ℕ
line_at_most = 37

abbrev pub around_at_most : ℕ
around_at_most = 55

abbrev pub page_at_most : ℕ
page_at_most = line_at_most * long_rests_at_most + around_at_most

-- the bytes of the shortest run line, with its end
abbrev pub run_line_bytes : ℕ
run_line_bytes = 9

-- the bytes of a change
abbrev pub change_bytes : ℕ
change_bytes = 2

-- the words of a long rest at least, one of rest and one of another activity after it, and so the bytes of an input, a card's day record or a text
abbrev pub rest_words : ℕ
rest_words = 2

abbrev pub rest_bytes : Bool → ℕ
rest_bytes true = change_bytes * rest_words
rest_bytes false = run_line_bytes * rest_words

-- the words that are lent for a text and for a day record, and the bytes for the reading
abbrev pub text_words : ℕ
text_words = 7282

abbrev pub card_words : ℕ
card_words = 32768

abbrev pub reading_room : ℕ
reading_room = entry_bytes * long_rests_at_most

-- the lines of rests, over their starts and their ends
unfoldable pub rests_of : List ℕ → List ℕ → List ℕ → List ℕ
rests_of [] ends reading = []
rests_of (s ∷ starts) ends reading =
    rest_text s (get_or ends 0 0) (get_or reading 0 0) (get_or reading 1 0) (carrier_of (get_or reading 2 0) (get_or reading 3 0)) ++ rests_of starts (drop 1 ends) (drop entry_bytes reading)

pub record Readable (page : Page) (starts ends reading : List ℕ) : Type 0 where
  pub room : page.len + line_at_most * length starts ≤ roomy
  pub ended : length starts ≤ length ends
  pub read : entry_bytes * length starts ≤ length reading

-- whole pages
abbrev pub refusal_page : ℕ → List ℕ
refusal_page n = bracketed (numbered refused_name n)

abbrev pub page_of : List ℕ → Verdict → List ℕ
page_of ms v = bracketed (numbered minutes_name (length ms) ++ finding_text ms v)

abbrev pub pass_head : ℕ → ℕ → List ℕ
pass_head total judged = as_line verdict_name ++ numbered minutes_name total ++ numbered judged_name judged ++ as_line reading_name

-- words that weighing accepts, with a reading that has an entry for each long rest
pub record Read (words reading : List ℕ) : Type 0 where
  pub within : length (minutes_of words) ≤ total_at_most
  pub size : length reading ≡ reading_size (minutes_of words)

-- bytes enough for the reading of words that weighing accepts, and no more than for any
pub record Fits (words : List ℕ) (bytes : ℕ) : Type 0 where
  pub fits : length (minutes_of words) ≤ total_at_most → reading_size (minutes_of words) ≤ bytes
  pub most : bytes ≤ reading_room

-- places enough for their long rests, and no more than for any
pub record Roomy (words : List ℕ) (rests : ℕ) : Type 0 where
  pub enough : length (long_rests (minutes_of words)) ≤ rests
  pub most : rests ≤ long_rests_at_most

-- ---- what reading an input answered, over words that hold what it wrote
pub data Within : Result ℕ Refusal → List ℕ → Type 0 where
  refusal : {r : Refusal} {words : List ℕ} → Within (Err r) words
  front : {n : ℕ} {words : List ℕ} → n ≤ length words → Within (Ok n) words

-- what is printed for words, their spans or their verdict; and for what reading an input answered
abbrev pub words_text : Bool → List ℕ → List ℕ
words_text true words = spans_text words
words_text false words = verdict_text words

unfoldable pub read_text : Bool → Answer ℕ → List ℕ → List ℕ
read_text spans (refused n) words = refusal_page n
read_text spans (answered n) words = words_text spans (take n words)
