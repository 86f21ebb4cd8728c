-- The two ways to say the form agree, and a text has at most one list of weeks. Assumes nothing.
use mathlib.Core.Path.{◌≡◌, refl, sym, ap, ◌∙◌}
use mathlib.Core.Bool.{Bool, true, false}
use mathlib.Core.List.{List, []}
use Prim.Native.Nat.{ℕ, ◌*◌, ◌≤◌, ◌<◌}
use native.Mathlib.Omega.{arith}
use lib.Dec.{ltb}
use lib.ListN.{length}
use lib.Seq.{sets}
use borrow.Author.Tests.{lt-ltb, le-ltb}
use Rattle.std.specs.Prelude.{None, Some}
use Rattle.std.specs.Bool.{then_some}
use Rattle.recording.specs.Answers.{Answer, refused, answered, counted, filled}
use Rattle.recording.specs.Weeks.{week_minutes}
use Rattle.recording.proofs.Slices.{put_in_front}
use Rattle.text_lines.specs.Form.{lines_of, text_of_lines, text_of, weeks_at_most, Allowed, OfTheForm}
use Rattle.text_lines.specs.Reading.{lines_in, is_over, is_text, words_of, text_read}
use Rattle.text_lines.specs.declared.Stage.{Stage}
use Rattle.text_lines.specs.declared.Stage.TheVariants as stage
use Rattle.text.proofs.LineText.{lines_good, text_read_law, lines_written}
use Rattle.text.proofs.WeekLines.{lines_accepted, accepted_lines, lines_known, lines_good_of, lines_parted, all_runs, lines_words, allowed_few}

is_over_law : (s : Stage) → is_over s ≡ true → s ≡ stage.Over
is_over_law stage.Before e = let z : ◌≡◌ {A = ℕ} 0 1 = cc in absurd (omega arith)
is_over_law (stage.Between left more) e = let z : ◌≡◌ {A = ℕ} 0 1 = cc in absurd (omega arith)
is_over_law (stage.Within left more) e = let z : ◌≡◌ {A = ℕ} 0 1 = cc in absurd (omega arith)
is_over_law stage.Over e = refl
is_over_law stage.Wrong e = let z : ◌≡◌ {A = ℕ} 0 1 = cc in absurd (omega arith)

-- the lines of an allowed list's text are the list's lines
pub allowed_lines : {weeks : List (List ℕ)} → Allowed weeks → lines_in (text_of weeks) ≡ lines_of weeks
allowed_lines {weeks} a = lines_written (lines_of weeks) (lines_known weeks) (lines_good_of a.each)

-- ---- the reader accepts exactly the texts of the form
pub form_is_read : {text : List ℕ} → OfTheForm text → is_text text ≡ true
unfolding is_text
form_is_read {text} f =
    rw (f.text_is, allowed_lines f.allowed) (ap is_over (lines_accepted f.allowed))

pub read_is_form : (text : List ℕ) → is_text text ≡ true → OfTheForm text
unfolding is_text
read_is_form text e =
    let b = accepted_lines (lines_in text) (lines_good [] text) (is_over_law _ e) in
    record {
      weeks = b.weeks;
      allowed = b.allowed;
      text_is = text_read_law [] text (rw b.lines (lines_known b.weeks)) ∙ ap text_of_lines b.lines;
    }

-- ---- a text has at most one such list
pub one_list : {us vs : List (List ℕ)} → Allowed us → Allowed vs → text_of us ≡ text_of vs → us ≡ vs
one_list {us} {vs} a b e = lines_parted us vs (sym (allowed_lines a) ∙ ap lines_in e ∙ allowed_lines b)

-- ---- the words that reading gives are the list's runs, and there are not many
pub words_read : {text : List ℕ} (f : OfTheForm text) → words_of (lines_in text) ≡ all_runs f.weeks
words_read f = rw (f.text_is, allowed_lines f.allowed) (lines_words f.weeks)

pub few_words_read : (text : List ℕ) → is_text text ≡ true → length (words_of (lines_in text)) ≤ week_minutes * weeks_at_most
few_words_read text e = let f = read_is_form text e in rw (words_read f) (allowed_few f.allowed)

-- ---- how many run lines a text of the form has
pub none_formed : (formed : Bool) (n : ℕ) → None ≡ then_some formed n → formed ≡ false
none_formed true n e = let z : ◌≡◌ {A = ℕ} 0 1 = cc in absurd (omega arith)
none_formed false n e = refl

pub some_formed : (formed : Bool) (n : ℕ) {m : ℕ} → Some m ≡ then_some formed n → (formed ≡ true) × (m ≡ n)
some_formed true n e = (refl, cc)
some_formed false n e = let z : ◌≡◌ {A = ℕ} 0 1 = cc in absurd (omega arith)

-- ---- what stands at each return of reading
module _ (text words : List ℕ) where
  pub record ReadText (r : Answer ℕ) (words' : List ℕ) : Type 0 where
    pub answer : r ≡ counted (text_read text (length words))
    pub content : words' ≡ filled (text_read text (length words)) words

  pub not_formed : is_text text ≡ false → ReadText (refused 8) words
  unfolding text_read
  not_formed e = record { answer = rw e; content = rw e }

  pub few_lent : {n : ℕ} → is_text text ≡ true → n ≡ length (words_of (lines_in text)) → length words < n → ReadText (refused 9) words
  unfolding text_read
  few_lent e p l =
      let t : ltb (length words) (length (words_of (lines_in text))) ≡ true = lt-ltb (length words) (length (words_of (lines_in text))) (omega arith) in
      record { answer = rw (e, t); content = rw (e, t) }

  pub all_read : {n : ℕ} {words' : List ℕ} → is_text text ≡ true → n ≡ length (words_of (lines_in text)) → n ≤ length words
      → words' ≡ sets words 0 (words_of (lines_in text)) → ReadText (answered n) words'
  unfolding text_read
  all_read {n} e p l q =
      let t : ltb (length words) (length (words_of (lines_in text))) ≡ false = le-ltb (length words) (length (words_of (lines_in text))) (omega arith) in
      record { answer = rw (e, t, p); content = q ∙ rw (e, t) (put_in_front (words_of (lines_in text)) words (omega arith)) }
