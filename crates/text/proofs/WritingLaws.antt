-- Writing: what is written is of the form, reading it gives the same minutes, and it depends on the minutes alone. Assumes nothing.
use mathlib.Core.Path.{◌≡◌, refl, ap, ◌∙◌}
use mathlib.Core.Bool.{true, false}
use mathlib.Core.List.{List, [], ◌∷◌}
use Prim.Native.Nat.{ℕ, ◌+◌, ◌≤◌, ◌<◌}
use native.Mathlib.Omega.{arith}
use lib.Dec.{ltb}
use lib.ListN.{length}
use borrow.Author.Tests.{lt-ltb, le-ltb}
use Rattle.recording.specs.Answers.{Answer, refused, answered, and_then, counted, filled}
use Rattle.recording.specs.Words.{minutes_in, minutes_of}
use Rattle.recording.specs.Operations.{total_at_most, total_from, measure_of, measured}
use Rattle.recording.specs.declared.Measure.{Measure}
use Rattle.recording.proofs.Listing.{measured_is}
use Rattle.text_lines.specs.Form.{OfTheForm}
use Rattle.text_lines.specs.Reading.{lines_in, is_text, words_of, text_read}
use Rattle.text.specs.Writing.{weeks_joined, text_of_minutes, text_written}
use Rattle.text.specs.declared.page.Page.{Page}
use Rattle.text.specs.Page.{Puts}
use Rattle.text.specs.Passes.{EachSome, none, next, Writable}
use Rattle.recording.proofs.WordLaws.{no_fault, coded_minutes}
use Rattle.recording.proofs.Slices.{put_in_front}
use Rattle.text.proofs.Joining.{weeks_allowed, all_minutes}
use Rattle.text.proofs.FormLaws.{form_is_read, words_read}

-- ---- what weighing accepts can be written
each_some : (t : ℕ) (ws : List ℕ) (n : ℕ) → total_from t ws ≡ answered n → EachSome ws
unfolding total_from
each_some t [] n e = none
each_some t (w ∷ ws) n e =
    let k = no_fault t w n (total_from (t + minutes_in w) ws) e in
    next k.0.some (each_some (t + minutes_in w) ws n k.1)

pub measured_writable : (ws : List ℕ) {m : Measure} → measured ws ≡ answered m → Writable ws
unfolding measured
measured_writable ws {m} e = at (total_from 0 ws) refl e
  where
    at : (t : Answer ℕ) → total_from 0 ws ≡ t → and_then t (λ _. answered (measure_of (minutes_of ws))) ≡ answered m → Writable ws
    at (refused n) q h = let z : ◌≡◌ {A = ℕ} 0 1 = cc in absurd (omega arith)
    at (answered n) q h = record { each = each_some 0 ws n q; within = (measured_is ws e).within }

-- ---- what stands at each return of writing
module _ (words text : List ℕ) where
  pub record WriteText (r : Answer ℕ) (text' : List ℕ) : Type 0 where
    pub answer : r ≡ counted (text_written words (length text))
    pub content : text' ≡ filled (text_written words (length text)) text

  pub not_measured : {n : ℕ} → measured words ≡ refused n → WriteText (refused n) text
  unfolding text_written
  not_measured e = record { answer = rw e; content = rw e }

  pub few_bytes : {m : Measure} {p q : Page} → measured words ≡ answered m → p.len ≡ 0 → Puts p (text_of_minutes (minutes_of words)) q → length text < q.len
      → WriteText (refused 10) text
  unfolding text_written
  few_bytes e z p h =
      let t : ltb (length text) (length (text_of_minutes (minutes_of words))) ≡ true = lt-ltb (length text) (length (text_of_minutes (minutes_of words))) (omega (arith, p.put.next_is)) in
      record { answer = rw (e, t); content = rw (e, t) }

  pub all_written : {m : Measure} {p q p' q' : Page} → measured words ≡ answered m → p.len ≡ 0 → Puts p (text_of_minutes (minutes_of words)) q → q.len ≤ length text
      → p'.bytes.now ≡ text → p'.len ≡ 0 → Puts p' (text_of_minutes (minutes_of words)) q' → WriteText (answered q.len) q'.bytes.now
  unfolding text_written
  all_written {q = q} e z p h b y r =
      let l : q.len ≡ length (text_of_minutes (minutes_of words)) = omega (arith, p.put.next_is) in
      let t : ltb (length text) (length (text_of_minutes (minutes_of words))) ≡ false = le-ltb (length text) (length (text_of_minutes (minutes_of words))) (omega arith) in
      record {
        answer = rw (e, t, l);
        content = r.put.text_is ∙ rw (e, t, b, y) (put_in_front (text_of_minutes (minutes_of words)) text (omega arith));
      }

-- ---- what is written is of the form
pub minutes_form : (ws : List ℕ) → length (minutes_of ws) ≤ total_at_most → OfTheForm (text_of_minutes (minutes_of ws))
minutes_form ws h = record { weeks = weeks_joined (minutes_of ws); allowed = weeks_allowed (coded_minutes ws) h; text_is = refl }

module _ (words : List ℕ) {m : Measure} (e : measured words ≡ answered m) where
  pub written_form : OfTheForm (text_of_minutes (minutes_of words))
  written_form = minutes_form words (measured_is words e).within

  pub written_is_text : is_text (text_of_minutes (minutes_of words)) ≡ true
  written_is_text = form_is_read written_form

  -- reading what was written gives words of the same minutes
  pub same_minutes_read : minutes_of (words_of (lines_in (text_of_minutes (minutes_of words)))) ≡ minutes_of words
  unfolding written_form minutes_form
  same_minutes_read = ap minutes_of (words_read written_form) ∙ all_minutes (coded_minutes words)

  pub record ReadBack (room : ℕ) : Type 0 where
    pub words' : List ℕ
    pub read : text_read (text_of_minutes (minutes_of words)) room ≡ answered words'
    pub minutes : minutes_of words' ≡ minutes_of words

  pub read_back : (room : ℕ) → length (words_of (lines_in (text_of_minutes (minutes_of words)))) ≤ room → ReadBack room
  unfolding text_read
  read_back room h = record {
    words' = words_of (lines_in (text_of_minutes (minutes_of words)));
    read = rw (written_is_text, le-ltb room (length (words_of (lines_in (text_of_minutes (minutes_of words))))) h);
    minutes = same_minutes_read;
  }

  -- the text depends on the minutes alone
  pub minutes_alone : (others : List ℕ) {k : Measure} → measured others ≡ answered k → minutes_of words ≡ minutes_of others → (room : ℕ)
      → text_written words room ≡ text_written others room
  unfolding text_written
  minutes_alone others f p room = rw (e, f, p)
