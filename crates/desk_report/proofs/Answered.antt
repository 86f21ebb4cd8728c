-- What each answer prints: of the verdict, of the reading of a text, and of a page that is handed over. Assumes nothing.
use mathlib.Core.Path.{◌≡◌, refl, sym, ap, subst, ◌∙◌}
use mathlib.Core.Bool.{Bool, true, false}
use mathlib.Core.List.{List, ◌++◌}
use mathlib.Core.Option.{Option, none, some}
use Prim.Native.Nat.{ℕ, zero, ◌+◌, ◌*◌, ◌≤◌, ◌<◌}
use native.Mathlib.Omega.{arith}
use lib.Dec.{ltb}
use lib.ListN.{length, take, drop, replicate, length-append, length-take, length-replicate}
use lib.Seq.{take_at}
use borrow.Author.Tests.{lt-ltb, le-ltb}
use Rattle.recording.specs.Answers.{Answer, refused, answered, and_then, refuse_if, counted, filled, answer_of, number_of}
use Rattle.recording.specs.Words.{minutes_of}
use Rattle.recording.specs.Rests.{long_rests, long_rests_at_most}
use Rattle.recording.specs.Operations.{total_at_most, measured}
use Rattle.recording.specs.declared.Refusal.{Refusal}
use Rattle.recording.specs.declared.Measure.{Measure}
use Rattle.recording.proofs.LongRests.{few_rests}
use Rattle.recording.proofs.Listing.{measured_is}
use Rattle.rules.specs.Reading.{entry_bytes, reading_size}
use Rattle.rules.specs.Verdict.{prefix, first_lawful, breach_minute, article, Verdict, pass, breach, verdict_by, verdict}
use Rattle.rules.specs.Operations.{Finding, passed, breached, reading_into, verdict_given, first_reading_given}
use Rattle.rules.proofs.EntryLaws.{first_size}
use Rattle.rules.proofs.VerdictAndReading.{VerdictGiven, found_refused, found_pass, found_breach, verdict_given_law, breach_given}
use Rattle.rules.proofs.VerdictAndReading.{ReadingGiven, turned_away, short, breaching, reading, reading_given}
use Rattle.text.specs.declared.page.Page.{Page}
use Rattle.text.specs.Page.{Put, Puts}
use Rattle.std.specs.Prelude.{Result, Ok, Err}
use Rattle.verdict_spans.specs.Mondays.{weeks_at_most}
use Rattle.text_lines.specs.Reading.{text_read}
use Rattle.recording.proofs.Slices.{put_in_front}
use Rattle.card_reader.specs.Reading.{card_read}
use Rattle.desk_report.specs.Printed.{answer_text, printed, words_answered, verdict_text, input_at_most, unless_over, input_read, desk_text, card_input_read, card_text, into_room}
use Rattle.desk_report.specs.Printed.{printed_spans, spans_answered, spans_text, desk_spans_text, card_spans_text, input_text}
use Rattle.desk_report.specs.Composing.{line_at_most, around_at_most, page_at_most, run_line_bytes, change_bytes, rest_words, rest_bytes, reading_room}
use Rattle.desk_report.specs.Composing.{refusal_page, page_of, Read, Fits, Roomy, Within, refusal, front, words_text, read_text}
use Rattle.desk_report.proofs.Pages.{refusal_size, page_size}
use Rattle.desk_report.proofs.SpanLines.{spans_size}
use Rattle.desk_report.proofs.Room.{room_same, card_room_same, text_words, card_words_within}
use Rattle.desk_report.proofs.RestWords.{rests_paid}

-- a buffer before anything is written into it
abbrev pub blank : ℕ → List ℕ
blank n = replicate n 0

-- ---- the verdict
pass-length : (ms r : List ℕ) → verdict ms ≡ pass r → length r ≡ reading_size ms
unfolding verdict
pass-length ms r e = at (first_lawful ms) refl e
  where
    at : (o : Option (List ℕ)) → first_lawful ms ≡ o → verdict_by o (breach_minute ms) (article (prefix (breach_minute ms) ms)) ≡ pass r → length r ≡ reading_size ms
    at none q e = let z : ◌≡◌ {A = ℕ} 0 1 = cc in absurd (omega arith)
    at (some f) q e = let z : f ≡ r = cc in ap length (sym z) ∙ first_size ms f q

pub text_is : (ws : List ℕ) {k : Measure} {v : Verdict} → measured ws ≡ answered k → verdict (minutes_of ws) ≡ v → verdict_text ws ≡ page_of (minutes_of ws) v
unfolding verdict_text answer_text
text_is ws q e = rw (q, e) refl

pub text_refused : (ws : List ℕ) {n : ℕ} → measured ws ≡ refused n → verdict_text ws ≡ refusal_page n
unfolding verdict_text
text_refused ws q = rw q refl

pub record Passing (ws : List ℕ) (n : ℕ) (new : List ℕ) : Type 0 where
  pub few : n ≤ length new
  pub size : n ≡ length (take n new)
  pub read : Read ws (take n new)
  pub text : verdict_text ws ≡ page_of (minutes_of ws) (pass (take n new))

pub record Breaching (ws : List ℕ) (m a : ℕ) : Type 0 where
  pub within : length (minutes_of ws) ≤ total_at_most
  pub text : verdict_text ws ≡ page_of (minutes_of ws) (breach m a)

-- the reading that was written
module _ (ws old : List ℕ) where
  pub passed_text : {n : ℕ} {new : List ℕ} → answered n ≡ counted (first_reading_given ws (length old)) → new ≡ filled (first_reading_given ws (length old)) old → Passing ws n new
  passed_text {n} {new} e b = at (reading_given ws (length old)) e b
    where
      at : {g : Answer (List ℕ)} → ReadingGiven ws (length old) g → answered n ≡ counted g → new ≡ filled g old → Passing ws n new
      at (turned_away q m) e b = let z : ◌≡◌ {A = ℕ} 0 1 = cc in absurd (omega arith)
      at (short q h) e b = let z : ◌≡◌ {A = ℕ} 0 1 = cc in absurd (omega arith)
      at (breaching q h p) e b = let z : ◌≡◌ {A = ℕ} 0 1 = cc in absurd (omega arith)
      at (reading {r = r} q h p) e b =
          let z : n ≡ length r = cc in
          let t : take n new ≡ r = ap (take n) b ∙ take_at r (drop (length r) old) n (sym z) in
          record {
            few = omega (arith, ap length b, length-append r (drop (length r) old));
            size = z ∙ ap length (sym t);
            read = record { within = (measured_is ws q).within; size = ap length t ∙ pass-length (minutes_of ws) r p };
            text = text_is ws q p ∙ ap (λ (l : List ℕ). page_of (minutes_of ws) (pass l)) (sym t);
          }

pub counted-refused : (g : Answer (List ℕ)) {n : ℕ} → refused n ≡ counted g → g ≡ refused n
counted-refused (refused m) {n} e = let same : m ≡ n = cc in ap refused same
counted-refused (answered r) e = let z : ◌≡◌ {A = ℕ} 0 1 = cc in absurd (omega arith)

-- a reading is answered alike for each room that it fits into
module _ (ws : List ℕ) (bytes : ℕ) (k : Fits ws bytes) where
  room_alike : first_reading_given ws bytes ≡ first_reading_given ws reading_room
  unfolding first_reading_given reading_size
  room_alike = at (measured ws) refl
    where
      at : (a : Answer Measure) → measured ws ≡ a → and_then a (λ m. reading_into bytes m.count (verdict (minutes_of ws)))
          ≡ and_then a (λ m. reading_into reading_room m.count (verdict (minutes_of ws)))
      at (refused n) q = refl
      at (answered m) q =
          let is = measured_is ws q in
          let c : m.count ≡ length (long_rests (minutes_of ws)) = ap (λ (x : Measure). x.count) is.is in
          rw (
            le-ltb bytes (entry_bytes * m.count) (omega (arith, k.fits is.within)),
            le-ltb reading_room (entry_bytes * m.count) (omega (arith, few_rests (minutes_of ws) is.within)),
          )
          refl

  pub refused_alike : {n room : ℕ} → room ≡ bytes → refused n ≡ counted (first_reading_given ws room) → first_reading_given ws reading_room ≡ refused n
  refused_alike h e = sym room_alike ∙ counted-refused _ (rw h at e)

-- arrays that are long enough: by the words, and for any recording
module _ (ws : List ℕ) where
  pub fits_few : (rests : ℕ) → length ws ≤ rest_words * rests → rests ≤ long_rests_at_most → Fits ws (entry_bytes * rests)
  unfolding reading_size
  fits_few rests h l = record { fits = λ w. omega (arith, rests_paid ws); most = omega arith }

  pub fits_all : Fits ws reading_room
  unfolding reading_size
  fits_all = record { fits = λ w. omega (arith, few_rests (minutes_of ws) w); most = omega arith }

  module _ {reading : List ℕ} (read : Read ws reading) where
    pub roomy_few : (rests : ℕ) → length reading ≤ entry_bytes * rests → rests ≤ long_rests_at_most → Roomy ws rests
    unfolding reading_size
    roomy_few rests h l = record { enough = omega (arith, read.size); most = l }

    pub roomy_all : Roomy ws long_rests_at_most
    roomy_all = record { enough = few_rests (minutes_of ws) read.within; most = omega arith }

-- the breach, where the verdict is one
pub breached_text : (ws : List ℕ) {m a : ℕ} → answered (breached m a) ≡ verdict_given ws → Breaching ws m a
breached_text ws {m} {a} e = at (verdict_given_law ws) e
  where
    at : {f : Answer Finding} → VerdictGiven ws f → answered (breached m a) ≡ f → Breaching ws m a
    at (found_refused q o) e = let z : ◌≡◌ {A = ℕ} 0 1 = cc in absurd (omega arith)
    at (found_pass q p) e = let z : ◌≡◌ {A = ℕ} 0 1 = cc in absurd (omega arith)
    at (found_breach {m = x} {a = y} q p) e =
        let f : x ≡ m = cc in
        let g : y ≡ a = cc in
        record { within = (measured_is ws q).within; text = text_is ws q p ∙ (λ i. page_of (minutes_of ws) (breach (f i) (g i))) }

-- and where it is none, the refusal: the room is enough for any reading, so it is weighing's
abbrev Unbreached : Answer Finding → Type 0
Unbreached (refused n) = Unit {0}
Unbreached (answered passed) = Unit {0}
Unbreached (answered (breached m a)) = ⊥

module _ (ws : List ℕ) (room : ℕ) (fits : entry_bytes * long_rests_at_most ≤ room) where
  pub refused_text : {n : ℕ} {f : Answer Finding} → first_reading_given ws room ≡ refused n → f ≡ verdict_given ws → Unbreached f → verdict_text ws ≡ refusal_page n
  refused_text {n} e told u = at (reading_given ws room) e
    where
      at : {g : Answer (List ℕ)} → ReadingGiven ws room g → g ≡ refused n → verdict_text ws ≡ refusal_page n
      at (turned_away {n = m} q o) e = let y : m ≡ n = cc in text_refused ws q ∙ ap refusal_page y
      at (short {k} q h) e =
          let is = measured_is ws q in
          let c : k.count ≡ length (long_rests (minutes_of ws)) = ap (λ (x : Measure). x.count) is.is in
          absurd (omega (arith, few_rests (minutes_of ws) is.within))
      at (breaching q h p) e = absurd (subst Unbreached (told ∙ breach_given ws q p) u)
      at (reading q h p) e = let z : ◌≡◌ {A = ℕ} 0 1 = cc in absurd (omega arith)

-- a line for each long rest, and no more than there can be
verdict_size : (ws : List ℕ) (k : ℕ) → (length (minutes_of ws) ≤ total_at_most → length (long_rests (minutes_of ws)) ≤ k) → length (verdict_text ws) ≤ line_at_most * k + around_at_most
verdict_size ws k h = at (measured ws) refl
  where
    at : (a : Answer Measure) → measured ws ≡ a → length (verdict_text ws) ≤ line_at_most * k + around_at_most
    at (refused n) q = omega (arith, ap length (text_refused ws q), refusal_size n)
    at (answered m) q =
        omega (arith, ap length (text_is ws {v = verdict (minutes_of ws)} q refl), page_size (minutes_of ws) (verdict (minutes_of ws)), h (measured_is ws q).within)

-- ---- the reading of an input, of a text or of a day record, and what is printed for what it gave: the verdict, or the spans
abbrev printed_of : Bool → Answer (List ℕ) → List ℕ
printed_of true read = printed_spans (and_then read spans_answered)
printed_of false read = printed (and_then read words_answered)

printed_refused : (spans : Bool) {read : Answer (List ℕ)} {n : ℕ} → read ≡ refused n → printed_of spans read ≡ refusal_page n
printed_refused true q = rw q refl
printed_refused false q = rw q refl

printed_words : (spans : Bool) {read : Answer (List ℕ)} {ws : List ℕ} → read ≡ answered ws → printed_of spans read ≡ words_text spans ws
unfolding verdict_text spans_text
printed_words true q = rw q refl
printed_words false q = rw q refl

printed_size : (spans : Bool) (read : Answer (List ℕ)) → length (printed_of spans read) ≤ page_at_most
unfolding verdict_text spans_text
printed_size true (refused n) = omega (arith, refusal_size n)
printed_size true (answered ws) = omega (arith, spans_size ws)
printed_size false (refused n) = omega (arith, refusal_size n)
printed_size false (answered ws) = verdict_size ws long_rests_at_most (few_rests (minutes_of ws))

-- what is printed after more than the most bytes
over : (input : List ℕ) (read : Answer (List ℕ)) → input_at_most < length input → unless_over input read ≡ refused 9
over input read h = rw (lt-ltb input_at_most (length input) h) refl

unless_read : (input : List ℕ) (read : Answer (List ℕ)) {ws : List ℕ} → unless_over input read ≡ answered ws → read ≡ answered ws
unless_read input read {ws} e = at (ltb input_at_most (length input)) e
  where
    at : (b : Bool) → refuse_if b 9 read ≡ answered ws → read ≡ answered ws
    at true e = let z : ◌≡◌ {A = ℕ} 0 1 = cc in absurd (omega arith)
    at false e = e

not_over : (input : List ℕ) (read : Answer (List ℕ)) → length input ≤ input_at_most → unless_over input read ≡ read
not_over input read h = rw (le-ltb input_at_most (length input) h) refl

-- what an operation left in lent words, and the number that it told
module _ (read : Answer (List ℕ)) (lent : ℕ) (f : Result ℕ Refusal) {new : List ℕ} (told : answer_of f ≡ counted read) (left : new ≡ filled read (blank lent)) where
  pub within_words : Within f new
  within_words = at f read told left
    where
      at : (f : Result ℕ Refusal) (a : Answer (List ℕ)) → answer_of f ≡ counted a → new ≡ filled a (blank lent) → Within f new
      at (Err r) a e b = refusal
      at (Ok n) (refused m) e b = let z : ◌≡◌ {A = ℕ} 0 1 = cc in absurd (omega arith)
      at (Ok n) (answered ws) e b = let z : n ≡ length ws = cc in front {n = n} {words = new} (omega (arith, ap length b, length-append ws (drop (length ws) (blank lent))))

  pub read_printed : (spans : Bool) → printed_of spans read ≡ read_text spans (answer_of f) new
  unfolding read_text
  read_printed spans = at f read told left
    where
      at : (f : Result ℕ Refusal) (a : Answer (List ℕ)) → answer_of f ≡ counted a → new ≡ filled a (blank lent) → printed_of spans a ≡ read_text spans (answer_of f) new
      at (Err r) (refused m) e b = let z : m ≡ number_of r = cc in printed_refused spans refl ∙ ap refusal_page z
      at (Err r) (answered ws) e b = let z : ◌≡◌ {A = ℕ} 0 1 = cc in absurd (omega arith)
      at (Ok n) (refused m) e b = let z : ◌≡◌ {A = ℕ} 0 1 = cc in absurd (omega arith)
      at (Ok n) (answered ws) e b =
          let z : n ≡ length ws = cc in
          let t : take n new ≡ ws = ap (take n) b ∙ take_at ws (drop (length ws) (blank lent)) n (sym z) in
          printed_words spans refl ∙ ap (words_text spans) (sym t)

pub front_within : {n : ℕ} {words : List ℕ} → Within (Ok n) words → n ≤ length words
front_within (front h) = h

pub desk_refused : (text : List ℕ) {n : ℕ} → input_read text ≡ refused n → desk_text text ≡ refusal_page n
unfolding desk_text
desk_refused text q = printed_refused false q

pub desk_words : (text : List ℕ) {ws : List ℕ} → input_read text ≡ answered ws → desk_text text ≡ verdict_text ws
unfolding desk_text
desk_words text q = printed_words false q

pub desk_over : (text : List ℕ) → input_at_most < length text → desk_text text ≡ refusal_page 9
unfolding input_read
desk_over text h = desk_refused text (over text (text_read text (length text)) h)

pub card_refused : (bytes : List ℕ) {n : ℕ} → card_input_read bytes ≡ refused n → card_text bytes ≡ refusal_page n
unfolding card_text
card_refused bytes q = printed_refused false q

pub card_words_law : (bytes : List ℕ) {ws : List ℕ} → card_input_read bytes ≡ answered ws → card_text bytes ≡ verdict_text ws
unfolding card_text
card_words_law bytes q = printed_words false q

pub card_over : (bytes : List ℕ) → input_at_most < length bytes → card_text bytes ≡ refusal_page 9
unfolding card_input_read
card_over bytes h = card_refused bytes (over bytes (card_read bytes (length bytes)) h)

-- either way
abbrev read_of : Bool → List ℕ → Answer (List ℕ)
read_of true input = card_input_read input
read_of false input = input_read input

pub input_is : (card spans : Bool) (input : List ℕ) → input_text card spans input ≡ printed_of spans (read_of card input)
unfolding desk_text card_text desk_spans_text card_spans_text
input_is true true input = refl
input_is true false input = refl
input_is false true input = refl
input_is false false input = refl

read_over : (card : Bool) (input : List ℕ) → input_at_most < length input → read_of card input ≡ refused 9
unfolding input_read card_input_read
read_over true input h = over input (card_read input (length input)) h
read_over false input h = over input (text_read input (length input)) h

pub input_over : (card spans : Bool) (input : List ℕ) → input_at_most < length input → input_text card spans input ≡ refusal_page 9
input_over card spans input h = input_is card spans input ∙ printed_refused spans (read_over card input h)

pub input_size : (card spans : Bool) (input : List ℕ) → length (input_text card spans input) ≤ page_at_most
input_size card spans input = omega (arith, ap length (input_is card spans input), printed_size spans (read_of card input))

-- what is printed for an input, by its bytes; and of spans
words_within : (card : Bool) (input : List ℕ) {ws : List ℕ} → read_of card input ≡ answered ws → rest_bytes card * length (long_rests (minutes_of ws)) ≤ length input
unfolding input_read card_input_read
words_within true input {ws} e = omega (arith, rests_paid ws, card_words_within input (length input) (unless_read input (card_read input (length input)) e))
words_within false input {ws} e = omega (arith, rests_paid ws, text_words input (length input) (unless_read input (text_read input (length input)) e))

pub verdict_room : (card : Bool) (input : List ℕ) (k : ℕ) → ((n : ℕ) → rest_bytes card * n ≤ length input → n ≤ k) → length (input_text card false input) ≤ line_at_most * k + around_at_most
verdict_room card input k h = at (read_of card input) refl
  where
    at : (a : Answer (List ℕ)) → read_of card input ≡ a → length (input_text card false input) ≤ line_at_most * k + around_at_most
    at (refused n) q = omega (arith, ap length (input_is card false input ∙ printed_refused false q), refusal_size n)
    at (answered ws) q =
        omega (
          arith,
          ap length (input_is card false input ∙ printed_words false q),
          verdict_size ws k (λ w. h (length (long_rests (minutes_of ws))) (words_within card input q)),
        )

pub spans_room : (card : Bool) (input : List ℕ) → length (input_text card true input) ≤ line_at_most * weeks_at_most + around_at_most
spans_room card input = at (read_of card input) refl
  where
    at : (a : Answer (List ℕ)) → read_of card input ≡ a → length (input_text card true input) ≤ line_at_most * weeks_at_most + around_at_most
    at (refused n) q = omega (arith, ap length (input_is card true input ∙ printed_refused true q), refusal_size n)
    at (answered ws) q = omega (arith, ap length (input_is card true input ∙ printed_words true q), spans_size ws)

-- the words that are lent are enough, for a text and for a day record
module _ (input : List ℕ) (lent : ℕ) (within : length input ≤ input_at_most) where
  pub desk_read : input_at_most ≤ run_line_bytes * lent → (f : Result ℕ Refusal) {new : List ℕ} → answer_of f ≡ counted (text_read input (length (blank lent)))
      → new ≡ filled (text_read input (length (blank lent))) (blank lent) → (spans : Bool) → input_text false spans input ≡ read_text spans (answer_of f) new
  unfolding input_read
  desk_read room f told left spans =
      input_is false spans input
      ∙ ap (printed_of spans) (not_over input (text_read input (length input)) within
      ∙ room_same input (length input) (length (blank lent)) (omega arith) (omega (arith, length-replicate lent zero)))
      ∙ read_printed (text_read input (length (blank lent))) lent f told left spans

  pub card_read_law : input_at_most ≤ change_bytes * lent → (f : Result ℕ Refusal) {new : List ℕ} → answer_of f ≡ counted (card_read input (length (blank lent)))
      → new ≡ filled (card_read input (length (blank lent))) (blank lent) → (spans : Bool) → input_text true spans input ≡ read_text spans (answer_of f) new
  unfolding card_input_read
  card_read_law room f told left spans =
      input_is true spans input
      ∙ ap (printed_of spans) (not_over input (card_read input (length input)) within
      ∙ card_room_same input (length input) (length (blank lent)) (omega arith) (omega (arith, length-replicate lent zero)))
      ∙ read_printed (card_read input (length (blank lent))) lent f told left spans

-- ---- a page that is handed over; the bytes that are enough for whatever is printed
pub input_fits : (card spans : Bool) (input : List ℕ) (room : ℕ) → page_at_most ≤ room → into_room (input_text card spans input) room ≡ answered (input_text card spans input)
unfolding into_room
input_fits card spans input room h = rw (le-ltb room (length (input_text card spans input)) (omega (arith, input_size card spans input))) refl

module _ (page out : List ℕ) where
  pub record Handed (told : Answer ℕ) (new : List ℕ) : Type 0 where
    pub answer : told ≡ counted (into_room page (length out))
    pub content : new ≡ filled (into_room page (length out)) out

  pub too_few : length out < length page → Handed (refused 10) out
  unfolding into_room
  too_few h = let t = lt-ltb (length out) (length page) h in record { answer = rw t refl; content = rw t refl }

  pub all_there : {n : ℕ} {new : List ℕ} → length page ≤ length out → n ≡ length page → new ≡ page ++ drop n out → Handed (answered n) new
  unfolding into_room
  all_there h z e = let t = le-ltb (length out) (length page) h in record { answer = rw (t, z) refl; content = e ∙ rw (t, z) refl }

  -- composed in place, with its count
  pub in_place : {n : ℕ} {new : List ℕ} → Put out 0 page n new → length page ≤ length out → Handed (answered n) new
  in_place p h =
      let z = p.next_is in
      all_there h (omega (arith, z)) (p.text_is ∙ put_in_front page out h ∙ ap (λ (k : ℕ). page ++ drop k out) (omega (arith, z)))

-- what is put on a new page
pub put_anew : {bytes xs : List ℕ} {p q : Page} → p.bytes.now ≡ bytes → p.len ≡ 0 → Puts p xs q → Put bytes 0 xs q.len q.bytes.now
put_anew b z k = record { next_is = k.put.next_is ∙ rw z refl; text_is = k.put.text_is ∙ rw (b, z) refl }

-- the front of a buffer that is long enough is the page
module _ {page : List ℕ} (short : length page ≤ page_at_most) {n : ℕ} {bytes : List ℕ} (p : Put (blank page_at_most) 0 page n bytes) where
  pub front_page : take n bytes ≡ page
  front_page =
      let h : length page ≤ length (blank page_at_most) = omega (arith, length-replicate page_at_most zero) in
      ap (take n) (p.text_is ∙ put_in_front page (blank page_at_most) h) ∙ take_at page (drop (length page) (blank page_at_most)) n (omega (arith, p.next_is))

  pub length_is : n ≡ length page
  length_is = omega (arith, p.next_is)

  pub front_size : n ≡ length (take n bytes)
  front_size = omega (arith, ap length front_page, p.next_is)

  pub front_fits : n ≤ length bytes
  front_fits = omega (arith, front_size, length-take n bytes)
