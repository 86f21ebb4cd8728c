-- Public: document 01, lawful readings, the first of them, stretches, and the verdict.
-- Assumes nothing.
use Rattle.std.specs.Prelude.{Bool, true, false, List, ℕ, zero, suc, eqb, length, take}
use Rattle.std.proofs.Math.Option.{Option, none, some}
use Rattle.recording.specs.Tests.{pick}
use Rattle.recording.specs.Rests.{long_rests}
use Rattle.rules.specs.Fixed.{fixed_test}
use Rattle.rules.specs.Reading.{bytes_of}
use Rattle.rules.specs.ReadingRules.{fields_test, reading_test}
use Rattle.rules.specs.Order.{field_bounds, first}

-- "A reading is lawful when all eleven hold.": a reading, and one with these fields
unfoldable pub lawful : List ℕ → List ℕ → Bool
lawful ms reading = eqb (reading_test ms reading) 0

unfoldable pub lawful_fields : List ℕ → List ℕ → Bool
lawful_fields ms fields = eqb (fields_test ms fields) 0

-- "The first lawful reading is the one before every other lawful one of the same recording.": its fields, and its bytes
unfoldable pub first_fields : List ℕ → Option (List ℕ)
first_fields ms = first (field_bounds (length (long_rests ms))) (lawful_fields ms)

abbrev pub as_bytes : Option (List ℕ) → Option (List ℕ)
as_bytes none = none
as_bytes (some fields) = some (bytes_of fields)

unfoldable pub first_lawful : List ℕ → Option (List ℕ)
first_lawful ms = as_bytes (first_fields ms)

abbrev pub is_none : Option (List ℕ) → Bool
is_none none = true
is_none (some r) = false

-- "A stretch is the first m minutes, taken as a recording, m from 0 to N; its total, S, k, P and readings are its own."
abbrev pub prefix : ℕ → List ℕ → List ℕ
prefix m ms = take m ms

-- "the least m without a lawful reading": of the c numbers from m on, the first
unfoldable pub least_from : List ℕ → ℕ → ℕ → ℕ
least_from ms zero m = m
least_from ms (suc c) m = pick (is_none (first_lawful (prefix m ms))) m (least_from ms c (suc m))

unfoldable pub breach_minute : List ℕ → ℕ
breach_minute ms = least_from ms (length ms) 0

-- ".. and its article: the smallest of rules 1 to 5 broken at m, or 6 if all five hold there."
abbrev pub article_by : ℕ → ℕ
article_by zero = 6
article_by (suc rule) = suc rule

unfoldable pub article : List ℕ → ℕ
article ms = article_by (fixed_test ms)

-- "It is a breach if the recording has no lawful reading, otherwise a pass."
pub data Verdict : Type 0 where
  pass : List ℕ → Verdict
  breach : ℕ → ℕ → Verdict

abbrev pub verdict_by : Option (List ℕ) → ℕ → ℕ → Verdict
verdict_by none m a = breach m a
verdict_by (some reading) m a = pass reading

unfoldable pub verdict : List ℕ → Verdict
verdict ms = verdict_by (first_lawful ms) (breach_minute ms) (article (prefix (breach_minute ms) ms))
