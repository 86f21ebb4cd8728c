-- Public: document 02, request 6, the spans of weeks that are a breach by themselves.
-- Assumes nothing.
use Rattle.std.specs.Prelude.{Bool, true, false, not, List, [], ◌∷◌, ◌++◌, ℕ, zero, suc, ◌+◌, ◌-◌, ◌/◌, leb, ltb, length}
use Rattle.std.proofs.Math.Seq.{slice}
use Rattle.recording.specs.Tests.{◌and◌, any_of, keep}
use Rattle.recording.specs.Words.{minutes_of}
use Rattle.recording.specs.Weeks.{week_minutes, week}
use Rattle.recording.specs.Answers.{Answer, answered, and_then, refuse_if}
use Rattle.recording.specs.Operations.{measured}
use Rattle.rules.specs.Verdict.{Verdict, pass, breach, verdict}
use Rattle.rules.specs.declared.Weeks.{Weeks}

-- the weeks that are begun: a part of a week at the end is one, and a recording of no minutes has none
abbrev pub weeks_begun : ℕ → ℕ
weeks_begun minutes = (minutes + (week_minutes - 1)) / week_minutes

-- "every span of consecutive weeks .., the whole included", "by first week, then last": the n spans with one first week, whose last weeks go up from one on
unfoldable pub spans_beginning : ℕ → ℕ → ℕ → List Weeks
spans_beginning first last zero = []
spans_beginning first last (suc n) = record { first = first; last = last } ∷ spans_beginning first (suc last) n

-- those of the n weeks from a week on
unfoldable pub spans_from : ℕ → ℕ → List Weeks
spans_from first zero = []
spans_from first (suc n) = spans_beginning first first (suc n) ++ spans_from (suc first) n

abbrev pub spans : List ℕ → List Weeks
spans ms = spans_from 0 (weeks_begun (length ms))

-- "Judge every span .. by itself, from a Monday to a Sunday (or to N in the last week), as a recording of its own": its minutes
unfoldable pub span_minutes : List ℕ → Weeks → List ℕ
span_minutes ms s = slice (week s.first).start (week s.last).end ms

abbrev pub is_breach : Verdict → Bool
is_breach (pass reading) = false
is_breach (breach m a) = true

unfoldable pub breaching : List ℕ → Weeks → Bool
breaching ms s = is_breach (verdict (span_minutes ms s))

-- "shorter span inside it": t lies in s, and has fewer weeks
unfoldable pub shorter_inside : Weeks → Weeks → Bool
shorter_inside s t = leb s.first t.first and leb t.last s.last and ltb (t.last - t.first) (s.last - s.first)

-- "each span that is a breach while no shorter span inside it is one"
unfoldable pub least_breach : (Weeks → Bool) → List Weeks → Weeks → Bool
least_breach breaks all s = breaks s and not (any_of (λ t. shorter_inside s t and breaks t) all)

unfoldable pub breach_spans : List ℕ → List Weeks
breach_spans ms = keep (least_breach (breaching ms) (spans ms)) (spans ms)

-- "Write out each span .. as a record of its first and last week .. The answer is their number, and 14 follows 1 and 2 where the lent list is too short."
-- `counted` and `filled` of it are the result and the list of `room` records.
abbrev pub list_into : ℕ → List Weeks → Answer (List Weeks)
list_into room ss = refuse_if (ltb room (length ss)) 14 (answered ss)

unfoldable pub spans_given : List ℕ → ℕ → Answer (List Weeks)
spans_given words room = and_then (measured words) (λ _. list_into room (breach_spans (minutes_of words)))
