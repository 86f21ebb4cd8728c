-- Document 02, request 5: the verdict and the first reading, when each answers what, and that together they say what the single operation of document 01
-- did wherever it did not refuse 4. Assumes nothing.
use mathlib.Core.Path.{◌≡◌, refl}
use mathlib.Core.Logic.{◌⊎◌, inl, inr}
use mathlib.Core.Bool.{Bool, true, false}
use mathlib.Core.List.{List, [], ◌∷◌}
use Prim.Native.Nat.{ℕ, ◌+◌, ◌*◌, ◌≤◌, ◌<◌}
use native.Mathlib.Omega.{arith}
use lib.Dec.{eqb, ltb}
use lib.ListN.{length}
use borrow.Author.Tests.{ltb-true, ltb-false}
use Rattle.recording.specs.Tests.{pick}
use Rattle.recording.specs.Answers.{Answer, refused, answered, and_then, refuse_if, counted, filled}
use Rattle.recording.specs.Words.{minutes_in, minutes_of}
use Rattle.recording.specs.Operations.{total_at_most, measure_of, fault_of, unless_fault, total_from, measured}
use Rattle.recording.specs.declared.Measure.{Measure}
use Rattle.rules.specs.Reading.{entry_bytes}
use Rattle.rules.specs.Verdict.{Verdict, pass, breach, verdict}
use Rattle.rules.specs.Operations.{Finding, passed, breached, finding_of, verdict_given, reading_of, reading_into, first_reading_given}

-- ---- the single operation, as it was
-- "The verdict: 1, 2; then 4, the reading buffer is under 3 × k bytes." Here for a buffer of `room` bytes.
unfoldable pub single_given : List ℕ → ℕ → Answer Verdict
single_given words room =
    and_then (measured words) (λ k.
    refuse_if (ltb room (entry_bytes * k.count)) 4 (answered (verdict (minutes_of words))))

-- The result: a pass "answers with the count" of bytes written; a breach "gives the least m without a lawful reading, and its article".
pub data Outcome : Type 0 where
  passed_with : ℕ → Outcome
  breached_at : ℕ → ℕ → Outcome

abbrev pub outcome_of : Verdict → Outcome
outcome_of (pass reading) = passed_with (length reading)
outcome_of (breach m a) = breached_at m a

abbrev pub outcome : Answer Verdict → Answer Outcome
outcome (refused n) = refused n
outcome (answered v) = answered (outcome_of v)

-- The buffer: "A pass writes the first lawful reading into the first 3 × k bytes; the rest stays. A breach writes nothing".
abbrev pub reading_after : Answer Verdict → List ℕ → List ℕ
reading_after (refused n) old = old
reading_after (answered (pass reading)) old = filled (answered reading) old
reading_after (answered (breach m a)) old = old

-- ---- the two together: what the first refuses or finds broken, or a pass with the count that the second gives
abbrev pub with_count : Answer ℕ → Answer Outcome
with_count (refused n) = refused n
with_count (answered n) = answered (passed_with n)

abbrev pub together : Answer Finding → Answer ℕ → Answer Outcome
together (refused n) count = refused n
together (answered passed) count = with_count count
together (answered (breached m a)) count = answered (breached_at m a)

-- THE LAW, for every recording and every buffer: the result, wherever it was not refusal 4
pub together_say : (words old : List ℕ) → (single_given words (length old) ≡ refused 4 → ⊥)
    → together (verdict_given words) (counted (first_reading_given words (length old))) ≡ outcome (single_given words (length old))
unfolding single_given verdict_given first_reading_given
together_say words old = at (measured words) (verdict (minutes_of words))
  where
    by : (b : Bool) (v : Verdict) → (◌≡◌ {A = Answer Verdict} (refuse_if b 4 (answered v)) (refused 4) → ⊥)
        → together (answered (finding_of v)) (counted (refuse_if b 4 (reading_of v))) ≡ outcome (refuse_if b 4 (answered v))
    by true v h = absurd (h refl)
    by false (pass r) h = refl
    by false (breach m a) h = refl

    at : (k : Answer Measure) (v : Verdict) → (and_then k (λ k. refuse_if (ltb (length old) (entry_bytes * k.count)) 4 (answered v)) ≡ refused 4 → ⊥)
        → together (and_then k (λ _. answered (finding_of v))) (counted (and_then k (λ k. reading_into (length old) k.count v)))
        ≡ outcome (and_then k (λ k. refuse_if (ltb (length old) (entry_bytes * k.count)) 4 (answered v)))
    at (refused n) v h = refl
    at (answered k) v h = by (ltb (length old) (entry_bytes * k.count)) v h

-- and the buffer, there too
pub same_buffer : (words old : List ℕ) → filled (first_reading_given words (length old)) old ≡ reading_after (single_given words (length old)) old
unfolding single_given first_reading_given
same_buffer words old = at (measured words) (verdict (minutes_of words))
  where
    by : (b : Bool) (v : Verdict) → filled (refuse_if b 4 (reading_of v)) old ≡ reading_after (refuse_if b 4 (answered v)) old
    by true v = refl
    by false (pass r) = refl
    by false (breach m a) = refl

    at : (k : Answer Measure) (v : Verdict) → filled (and_then k (λ k. reading_into (length old) k.count v)) old
        ≡ reading_after (and_then k (λ k. refuse_if (ltb (length old) (entry_bytes * k.count)) 4 (answered v))) old
    at (refused n) v = refl
    at (answered k) v = by (ltb (length old) (entry_bytes * k.count)) v

-- ---- when each answers what
-- weighing turns away 1 and 2 only
fault_number : (a b : Bool) {A : Type 0} {later : Answer A} {n : ℕ} → ((m : ℕ) → later ≡ refused m → (m ≡ 1) ⊎ (m ≡ 2))
    → unless_fault (pick a 1 (pick b 2 0)) later ≡ refused n → (n ≡ 1) ⊎ (n ≡ 2)
fault_number true b h e = inl cc
fault_number false true h e = inr cc
fault_number false false {n = n} h e = h n e

total_number : (total : ℕ) (ws : List ℕ) {n : ℕ} → total_from total ws ≡ refused n → (n ≡ 1) ⊎ (n ≡ 2)
unfolding total_from fault_of
total_number total [] e = let z : ◌≡◌ {A = ℕ} 0 1 = cc in absurd (omega arith)
total_number total (w ∷ ws) e = fault_number (eqb (minutes_in w) 0) (ltb total_at_most (total + minutes_in w)) (λ m q. total_number (total + minutes_in w) ws q) e

measured_number : (words : List ℕ) {n : ℕ} → measured words ≡ refused n → (n ≡ 1) ⊎ (n ≡ 2)
unfolding measured
measured_number words {n} e = at (total_from 0 words) refl e
  where
    at : (t : Answer ℕ) → total_from 0 words ≡ t → and_then t (λ _. answered (measure_of (minutes_of words))) ≡ refused n → (n ≡ 1) ⊎ (n ≡ 2)
    at (refused m) q e = let same : m ≡ n = cc in total_number 0 words (rw same at q)
    at (answered m) q e = let z : ◌≡◌ {A = ℕ} 0 1 = cc in absurd (omega arith)

-- where the single one refused 4 the second does, and only there; the first gives its verdict all the same
module _ (words : List ℕ) (room : ℕ) where
  pub short_there : single_given words room ≡ refused 4 → (first_reading_given words room ≡ refused 4) × (verdict_given words ≡ answered (finding_of (verdict (minutes_of words))))
  unfolding single_given verdict_given first_reading_given
  short_there = at (measured words) refl
    where
      neither : {A : Type 0} {n : ℕ} → n ≡ 4 → (n ≡ 1) ⊎ (n ≡ 2) → A
      neither f (inl e) = absurd (omega arith)
      neither f (inr e) = absurd (omega arith)

      by : (b : Bool) (v : Verdict) → refuse_if b 4 (answered v) ≡ refused 4 → refuse_if b 4 (reading_of v) ≡ refused 4
      by true v e = refl
      by false v e = let z : ◌≡◌ {A = ℕ} 0 1 = cc in absurd (omega arith)

      at : (k : Answer Measure) → measured words ≡ k → and_then k (λ k. refuse_if (ltb room (entry_bytes * k.count)) 4 (answered (verdict (minutes_of words)))) ≡ refused 4
          → (and_then k (λ k. reading_into room k.count (verdict (minutes_of words))) ≡ refused 4)
          × (and_then k (λ _. answered (finding_of (verdict (minutes_of words)))) ≡ answered (finding_of (verdict (minutes_of words))))
      at (refused n) q e = let same : n ≡ 4 = cc in neither same (measured_number words q)
      at (answered k) q e = (by (ltb room (entry_bytes * k.count)) (verdict (minutes_of words)) e, refl)

  pub short_only : first_reading_given words room ≡ refused 4 → single_given words room ≡ refused 4
  unfolding single_given first_reading_given
  short_only = at (measured words) (verdict (minutes_of words))
    where
      by : (b : Bool) (v : Verdict) → refuse_if b 4 (reading_of v) ≡ refused 4 → refuse_if b 4 (answered v) ≡ refused 4
      by true v e = refl
      by false (pass r) e = let z : ◌≡◌ {A = ℕ} 0 1 = cc in absurd (omega arith)
      by false (breach m a) e = let z : ◌≡◌ {A = ℕ} 13 4 = cc in absurd (omega arith)

      at : (k : Answer Measure) (v : Verdict) → and_then k (λ k. reading_into room k.count v) ≡ refused 4
          → and_then k (λ k. refuse_if (ltb room (entry_bytes * k.count)) 4 (answered v)) ≡ refused 4
      at (refused n) v e = let same : n ≡ 4 = cc in rw same refl
      at (answered k) v e = by (ltb room (entry_bytes * k.count)) v e

-- "The first turns away 1 and 2 only": what weighing does
pub data VerdictGiven (words : List ℕ) : Answer Finding → Type 0 where
  found_refused : {n : ℕ} → measured words ≡ refused n → (n ≡ 1) ⊎ (n ≡ 2) → VerdictGiven words (refused n)
  found_pass : {k : Measure} {r : List ℕ} → measured words ≡ answered k → verdict (minutes_of words) ≡ pass r → VerdictGiven words (answered passed)
  found_breach : {k : Measure} {m a : ℕ} → measured words ≡ answered k → verdict (minutes_of words) ≡ breach m a → VerdictGiven words (answered (breached m a))

pub verdict_given_law : (words : List ℕ) → VerdictGiven words (verdict_given words)
unfolding verdict_given
verdict_given_law words = at (measured words) refl
  where
    by : {k : Measure} → measured words ≡ answered k → (v : Verdict) → verdict (minutes_of words) ≡ v → VerdictGiven words (answered (finding_of v))
    by q (pass r) e = found_pass q e
    by q (breach m a) e = found_breach q e

    at : (k : Answer Measure) → measured words ≡ k → VerdictGiven words (and_then k (λ _. answered (finding_of (verdict (minutes_of words)))))
    at (refused n) q = found_refused q (measured_number words q)
    at (answered k) q = by q (verdict (minutes_of words)) refl

pub breach_given : (words : List ℕ) {k : Measure} {m a : ℕ} → measured words ≡ answered k → verdict (minutes_of words) ≡ breach m a → verdict_given words ≡ answered (breached m a)
unfolding verdict_given
breach_given words q e = rw (q, e) refl

-- "the second turns away 1, 2 and 4, then 13 when the verdict is a breach"
pub data ReadingGiven (words : List ℕ) (room : ℕ) : Answer (List ℕ) → Type 0 where
  turned_away : {n : ℕ} → measured words ≡ refused n → (n ≡ 1) ⊎ (n ≡ 2) → ReadingGiven words room (refused n)
  short : {k : Measure} → measured words ≡ answered k → room < entry_bytes * k.count → ReadingGiven words room (refused 4)
  breaching : {k : Measure} {m a : ℕ} → measured words ≡ answered k → entry_bytes * k.count ≤ room → verdict (minutes_of words) ≡ breach m a → ReadingGiven words room (refused 13)
  reading : {k : Measure} {r : List ℕ} → measured words ≡ answered k → entry_bytes * k.count ≤ room → verdict (minutes_of words) ≡ pass r → ReadingGiven words room (answered r)

pub reading_given : (words : List ℕ) (room : ℕ) → ReadingGiven words room (first_reading_given words room)
unfolding first_reading_given
reading_given words room = at (measured words) refl
  where
    by : {k : Measure} → measured words ≡ answered k → entry_bytes * k.count ≤ room → (v : Verdict) → verdict (minutes_of words) ≡ v → ReadingGiven words room (reading_of v)
    by q h (pass r) e = reading q h e
    by q h (breach m a) e = breaching q h e

    there : {k : Measure} → measured words ≡ answered k → (b : Bool) → ltb room (entry_bytes * k.count) ≡ b
        → ReadingGiven words room (refuse_if b 4 (reading_of (verdict (minutes_of words))))
    there {k} q true t = short q (ltb-true room (entry_bytes * k.count) t)
    there {k} q false f = by q (ltb-false room (entry_bytes * k.count) f) (verdict (minutes_of words)) refl

    at : (k : Answer Measure) → measured words ≡ k → ReadingGiven words room (and_then k (λ k. reading_into room k.count (verdict (minutes_of words))))
    at (refused n) q = turned_away q (measured_number words q)
    at (answered k) q = there q (ltb room (entry_bytes * k.count)) refl
