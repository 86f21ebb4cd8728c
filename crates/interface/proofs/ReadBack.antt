-- A code tells its answer: each operation's answer is read back from its number. Assumes nothing.
use mathlib.Core.Path.{◌≡◌, refl, ap, ◌∙◌}
use mathlib.Core.Bool.{Bool, true, false, not}
use mathlib.Core.List.{List, [], ◌∷◌}
use mathlib.Core.Option.{Option, none, some}
use Prim.Native.Nat.{ℕ, zero, suc, ◌+◌, ◌-◌, ◌*◌, ◌/◌, ◌%◌, ◌≤◌, ◌<◌}
use native.Mathlib.Omega.{arith}
use lib.Dec.{eqb, ltb}
use lib.Arith.{digits_div, digits_mod}
use lib.ListN.{length, take, drop}
use borrow.Author.Tests.{lt-ltb, le-ltb}
use Rattle.recording.specs.Tests.{pick, ◌or◌, any_of}
use Rattle.recording.specs.Answers.{Answer, refused, answered, and_then, refuse_if, counted}
use Rattle.recording.specs.Words.{minutes_in, minutes_of}
use Rattle.recording.specs.Rests.{judged_end}
use Rattle.recording.specs.Operations.{total_at_most, fault_of, unless_fault, total_from, measured, listed}
use Rattle.recording.specs.declared.Measure.{Measure}
use Rattle.recording.proofs.Walks.{judged_within}
use Rattle.recording.proofs.Listing.{Measured, measured_is}
use Rattle.rules.specs.declared.Breaches.{Breaches}
use Rattle.rules.specs.Fixed.{breaches, smallest_rule, fixed_test, first_article}
use Rattle.rules.specs.Reading.{entry_bytes, fields_in, bytes_of}
use Rattle.rules.specs.Verdict.{prefix, first_lawful, breach_minute, article_by, article, Verdict, pass, breach, verdict_by, verdict}
use Rattle.rules.specs.Spans.{breach_spans, spans_given}
use Rattle.rules_moves.specs.Moves.{stored_bytes, too_large, reading_widened, reading_narrowed}
use Rattle.rules.specs.Operations.{Finding, passed, breached, finding_of, verdict_given, reading_of, first_reading_given, breaches_tested, fixed_tested, article_tested, reading_tested, entry_at}
use Rattle.rules.proofs.ArticleOrder.{rule_most}
use Rattle.text_lines.specs.Reading.{lines_in, words_of, is_text, text_read}
use Rattle.text.specs.Writing.{text_of_minutes, text_written}
use Rattle.card_reader.specs.Reading.{changes_in, is_unknown, is_day_record, card_read}
use Rattle.card_reader.specs.Reading as card
use Rattle.card.specs.Writing.{record_of_minutes, is_whole_days, card_written}
use Rattle.interface.specs.Codes.{answer_unit, judged_unit, count_unit, article_unit, code_of, itself, measure_value, finding_value, entry_place, entry_code, answer_in, measure_in, finding_in}

-- ---- an answer whose refusal, if it is one, is below the unit
data Told {A : Type 0} : Answer A → Type 0 where
  by_number : {n : ℕ} → n < answer_unit → Told (refused n)
  by_value : (a : A) → Told (answered a)

told_then : {A B : Type 0} {a : Answer A} {f : A → Answer B} → Told a → ((x : A) → Told (f x)) → Told (and_then a f)
told_then (by_number h) g = by_number h
told_then (by_value x) g = g x

told_if : {A : Type 0} (b : Bool) {n : ℕ} {later : Answer A} → n < answer_unit → Told later → Told (refuse_if b n later)
told_if true h t = by_number h
told_if false h t = t

told_counted : {A : Type 0} {a : Answer (List A)} → Told a → Told (counted a)
told_counted (by_number h) = by_number h
told_counted (by_value xs) = by_value (length xs)

-- ---- each operation's answer is such
fault_small : (a b : Bool) → pick a 1 (pick b 2 0) < answer_unit
fault_small true b = omega arith
fault_small false true = omega arith
fault_small false false = omega arith

told_fault : {A : Type 0} (n : ℕ) {later : Answer A} → n < answer_unit → Told later → Told (unless_fault n later)
told_fault zero h t = t
told_fault (suc n) h t = by_number h

told_total : (total : ℕ) (ws : List ℕ) → Told (total_from total ws)
unfolding total_from fault_of
told_total total [] = by_value total
told_total total (w ∷ ws) = told_fault (fault_of total w) (fault_small (eqb (minutes_in w) 0) (ltb total_at_most (total + minutes_in w))) (told_total (total + minutes_in w) ws)

told_measured : (ws : List ℕ) → Told (measured ws)
unfolding measured
told_measured ws = told_then (told_total 0 ws) (λ _. by_value _)

-- ---- a code of such an answer is read back, if its value is
read_back : {A : Type 0} (value : A → ℕ) (reads : ℕ → A) {a : Answer A} → Told a → ((x : A) → a ≡ answered x → reads (value x) ≡ x)
    → answer_in reads (code_of value a) ≡ a
read_back value reads (by_number {n} h) e = rw (lt-ltb n answer_unit h)
read_back value reads (by_value x) e =
    let past : ltb (answer_unit + value x) answer_unit ≡ false = le-ltb (answer_unit + value x) answer_unit (omega arith) in
    let same : answer_unit + value x - answer_unit ≡ value x = omega arith in
    rw past (ap (λ v. answered (reads v)) same ∙ ap answered (e x refl))

count_back : {a : Answer ℕ} → Told a → answer_in itself (code_of itself a) ≡ a
count_back t = read_back itself itself t (λ x e. refl)

-- ---- weighing: N and S are below their unit
measure_back : (m : Measure) → m.total < judged_unit → m.judged < judged_unit → measure_in (measure_value m) ≡ m
measure_back m t j =
    let by_total : measure_value m ≡ (m.judged + judged_unit * m.count) * judged_unit + m.total = omega arith in
    let by-judged : m.judged + judged_unit * m.count ≡ m.count * judged_unit + m.judged = omega arith in
    let by_count : measure_value m ≡ m.count * count_unit + (m.total + judged_unit * m.judged) = omega arith in
    let past : measure_value m / judged_unit ≡ m.judged + judged_unit * m.count = ap (λ v. v / judged_unit) by_total ∙ digits_div _ t in
    let a : measure_value m % judged_unit ≡ m.total = ap (λ v. v % judged_unit) by_total ∙ digits_mod _ t in
    let b : measure_value m / judged_unit % judged_unit ≡ m.judged = ap (λ v. v % judged_unit) (past ∙ by-judged) ∙ digits_mod _ j in
    let rest : m.total + judged_unit * m.judged < count_unit = omega arith in
    let c : measure_value m / count_unit ≡ m.count = ap (λ v. v / count_unit) by_count ∙ digits_div _ rest in
    λ i. record { total = a i; judged = b i; count = c i }

module _ (ws : List ℕ) where
  measured_back : (m : Measure) → Measured ws m → measure_in (measure_value m) ≡ m
  measured_back m is =
      let t : m.total ≡ length (minutes_of ws) = ap (λ (x : Measure). x.total) is.is in
      let j : m.judged ≡ judged_end (minutes_of ws) = ap (λ (x : Measure). x.judged) is.is in
      measure_back m (omega (arith, is.within)) (omega (arith, is.within, judged_within (minutes_of ws)))

  pub weigh_back : answer_in measure_in (code_of measure_value (measured ws)) ≡ measured ws
  weigh_back = read_back measure_value measure_in (told_measured ws) (λ m e. measured_back m (measured_is ws e))

  pub list_back : (room : ℕ) → answer_in itself (code_of itself (counted (listed ws room))) ≡ counted (listed ws room)
  unfolding listed
  list_back room = count_back (told_counted (told_then (told_measured ws) (λ m. told_if (ltb room m.count) (omega arith) (by_value _))))

  picked_back : (pick : Breaches → ℕ) (m : ℕ) → answer_in itself (code_of itself (and_then (breaches_tested ws m) (λ b. answered (pick b)))) ≡ and_then (breaches_tested ws m) (λ b. answered (pick b))
  unfolding breaches_tested
  picked_back pick m = count_back (told_then (told_then (told_measured ws) (λ k. told_if (ltb k.total m) (omega arith) (by_value _))) (λ b. by_value _))

  pub fixed_test_back : (m : ℕ) → answer_in itself (code_of itself (fixed_tested ws m)) ≡ fixed_tested ws m
  unfolding fixed_tested
  fixed_test_back m = picked_back smallest_rule m

  pub article_test_back : (m : ℕ) → answer_in itself (code_of itself (article_tested ws m)) ≡ article_tested ws m
  unfolding article_tested
  article_test_back m = picked_back first_article m

  pub reading_test_back : (reading : List ℕ) → answer_in itself (code_of itself (reading_tested ws reading)) ≡ reading_tested ws reading
  unfolding reading_tested
  reading_test_back reading = count_back (told_then (told_measured ws) (λ k. told_if (not (eqb (length reading) (entry_bytes * k.count))) (omega arith) (by_value _)))

  pub write_back : (room : ℕ) → answer_in itself (code_of itself (counted (text_written ws room))) ≡ counted (text_written ws room)
  unfolding text_written
  write_back room = count_back (told_counted (told_then (told_measured ws) (λ _. told_if (ltb room (length (text_of_minutes (minutes_of ws)))) (omega arith) (by_value _))))

  pub write_card_back : (room : ℕ) → answer_in itself (code_of itself (counted (card_written ws room))) ≡ counted (card_written ws room)
  unfolding card_written
  write_card_back room =
      count_back (told_counted (told_then (told_measured ws) (λ _.
      told_if (not (is_whole_days (minutes_of ws))) (omega arith) (told_if (ltb room (length (record_of_minutes (minutes_of ws)))) (omega arith) (by_value _)))))

pub read_text_back : (text : List ℕ) (room : ℕ) → answer_in itself (code_of itself (counted (text_read text room))) ≡ counted (text_read text room)
unfolding text_read
read_text_back text room = count_back (told_counted (told_if (not (is_text text)) (omega arith) (told_if (ltb room (length (words_of (lines_in text)))) (omega arith) (by_value _))))

pub read_card_back : (bytes : List ℕ) (room : ℕ) → answer_in itself (code_of itself (counted (card_read bytes room))) ≡ counted (card_read bytes room)
unfolding card_read
read_card_back bytes room =
    count_back (told_counted (told_if (not (is_day_record bytes)) (omega arith) (told_if (any_of is_unknown (changes_in bytes)) (omega arith)
    (told_if (ltb total_at_most (length (minutes_of (card.words_of (changes_in bytes))))) (omega arith)
    (told_if (ltb room (length (card.words_of (changes_in bytes)))) (omega arith) (by_value _))))))

-- ---- the entry of a reading: the four bytes from its place on
module _ (reading : List ℕ) (number : ℕ) where
  abbrev bytes_from : ℕ → List ℕ
  bytes_from place = take entry_bytes (drop place reading)

  abbrev uneven : Bool
  uneven = not (eqb (length reading % entry_bytes) 0)

  abbrev absent : Bool
  absent = eqb number 0 or ltb (length reading / entry_bytes) number

  pub entry_back : answer_in bytes_from (entry_code reading number) ≡ entry_at reading number
  unfolding entry_at
  entry_back = read_back (λ _. entry_place number) bytes_from (told_if uneven (omega arith) (told_if absent (omega arith) (by_value _))) (λ part e. there uneven absent e)
    where
      there : (a b : Bool) {part : List ℕ} → refuse_if a 6 (refuse_if b 7 (answered (bytes_from (entry_place number)))) ≡ answered part → bytes_from (entry_place number) ≡ part
      there true b e = let z : ◌≡◌ {A = ℕ} 0 1 = cc in absurd (omega arith)
      there false true e = let z : ◌≡◌ {A = ℕ} 0 1 = cc in absurd (omega arith)
      there false false e = cc

-- ---- the first reading
told_reading : (v : Verdict) → Told (reading_of v)
told_reading (pass r) = by_value r
told_reading (breach m a) = by_number {n = 13} (omega arith)

pub first_reading_back : (ws : List ℕ) (room : ℕ) → answer_in itself (code_of itself (counted (first_reading_given ws room))) ≡ counted (first_reading_given ws room)
unfolding first_reading_given
first_reading_back ws room = count_back (told_counted (told_then (told_measured ws) (λ k. told_if (ltb room (entry_bytes * k.count)) (omega arith) (told_reading (verdict (minutes_of ws))))))

-- ---- the moves of stored readings
pub widen_back : (old : List ℕ) (room : ℕ) → answer_in itself (code_of itself (counted (reading_widened old room))) ≡ counted (reading_widened old room)
unfolding reading_widened
widen_back old room =
    count_back (told_counted (told_if (not (eqb (length old % stored_bytes) 0)) (omega arith) (told_if (ltb room (length (bytes_of old))) (omega arith) (by_value _))))

pub narrow_back : (wide : List ℕ) (room : ℕ) → answer_in itself (code_of itself (counted (reading_narrowed wide room))) ≡ counted (reading_narrowed wide room)
unfolding reading_narrowed
narrow_back wide room =
    count_back (told_counted (told_if (not (eqb (length wide % entry_bytes) 0)) (omega arith) (told_if (ltb room (length (fields_in wide))) (omega arith)
    (told_if (too_large (fields_in wide)) (omega arith) (by_value _)))))

-- ---- the spans of weeks
pub spans_back_law : (ws : List ℕ) (room : ℕ) → answer_in itself (code_of itself (counted (spans_given ws room))) ≡ counted (spans_given ws room)
unfolding spans_given
spans_back_law ws room = count_back (told_counted (told_then (told_measured ws) (λ _. told_if (ltb room (length (breach_spans (minutes_of ws)))) (omega arith) (by_value _))))

-- ---- the verdict: an article is below its unit
data Within : Finding → Type 0 where
  passing : Within passed
  breaching : (m : ℕ) {a : ℕ} → a < article_unit → Within (breached m a)

finding_back : {f : Finding} → Within f → finding_in (finding_value f) ≡ f
finding_back passing = refl
finding_back (breaching m {a} h) =
    let past : ltb (answer_unit + article_unit * m + a) answer_unit ≡ false = le-ltb (answer_unit + article_unit * m + a) answer_unit (omega arith) in
    let parts : answer_unit + article_unit * m + a - answer_unit ≡ m * article_unit + a = omega arith in
    let minute : (answer_unit + article_unit * m + a - answer_unit) / article_unit ≡ m = ap (λ v. v / article_unit) parts ∙ digits_div m h in
    let rule : (answer_unit + article_unit * m + a - answer_unit) % article_unit ≡ a = ap (λ v. v % article_unit) parts ∙ digits_mod m h in
    rw past (λ i. breached (minute i) (rule i))

article_small : (ms : List ℕ) → article ms < article_unit
unfolding article fixed_test
article_small ms = at (smallest_rule (breaches ms)) (rule_most (breaches ms))
  where
    at : (rule : ℕ) → rule ≤ 5 → article_by rule < article_unit
    at zero h = omega arith
    at (suc rule) h = omega arith

verdict_within : (ms : List ℕ) → Within (finding_of (verdict ms))
unfolding verdict
verdict_within ms = at (first_lawful ms)
  where
    at : (f : Option (List ℕ)) → Within (finding_of (verdict_by f (breach_minute ms) (article (prefix (breach_minute ms) ms))))
    at none = breaching _ (article_small _)
    at (some r) = passing

module _ (ws : List ℕ) where
  within : (f : Finding) → verdict_given ws ≡ answered f → Within f
  unfolding verdict_given
  within f = at (measured ws)
    where
      at : (a : Answer Measure) → and_then a (λ _. answered (finding_of (verdict (minutes_of ws)))) ≡ answered f → Within f
      at (refused n) e = let z : ◌≡◌ {A = ℕ} 0 1 = cc in absurd (omega arith)
      at (answered k) e = let same : finding_of (verdict (minutes_of ws)) ≡ f = cc in rw (← same) (verdict_within (minutes_of ws))

  pub verdict_back : answer_in finding_in (code_of finding_value (verdict_given ws)) ≡ verdict_given ws
  unfolding verdict_given
  verdict_back = read_back finding_value finding_in (told_then (told_measured ws) (λ k. by_value _)) (λ f e. finding_back (within f e))
