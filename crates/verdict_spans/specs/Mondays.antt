-- Inner: the spans as the Mondays are taken from the last to the first, and what the functions of this layer answer. Nobody has to believe it:
-- proofs/SpanLaws.antt and proofs/FromMondays.antt show that it comes to the spans as `rules` defines them.
-- Assumes nothing.
use Rattle.std.specs.Prelude.{◌≡◌, List, [], ◌∷◌, ℕ, zero, suc, ◌+◌, ◌-◌, ◌≤◌, ◌<◌, ltb, length, get_or, take, drop}
use Rattle.recording.specs.Tests.{pick}
use Rattle.recording.specs.Words.{minutes_in, minutes_of}
use Rattle.recording.specs.Weeks.{week_start, week_of}
use Rattle.recording.specs.Answers.{Answer, refused, answered}
use Rattle.recording.specs.Operations.{total_at_most}
use Rattle.rules.specs.Verdict.{verdict}
use Rattle.rules.specs.Operations.{Finding, passed, breached, finding_of}
use Rattle.rules.specs.Spans.{weeks_begun}
use Rattle.rules.specs.declared.Weeks.{Weeks}
use Rattle.verdict_spans.specs.declared.Seat.{Seat}

-- the most weeks that a recording can begin
abbrev pub weeks_at_most : ℕ
weeks_at_most = weeks_begun total_at_most

-- ---- the last week of the shortest breach from the Monday of a week on, by what is found from there, of so many weeks; their number where there is none
abbrev pub last_week : ℕ → ℕ → Finding → ℕ
last_week weeks first passed = weeks
last_week weeks first (breached m a) = first + week_of (m - 1)

abbrev pub last_by : ℕ → ℕ → Answer Finding → ℕ
last_by weeks first (refused n) = weeks
last_by weeks first (answered f) = last_week weeks first f

-- a breach has a minute
abbrev pub Sound : Answer Finding → Type 0
Sound (refused n) = Unit {0}
Sound (answered passed) = Unit {0}
Sound (answered (breached m a)) = (0 < m) × (m ≤ total_at_most)

abbrev pub last_from : List ℕ → ℕ → ℕ
last_from ms first = last_week (weeks_begun (length ms)) first (finding_of (verdict (drop (week_start first) ms)))

-- ---- the spans of the n weeks from a week on, the last Monday first: one is put before the later ones unless one of them ends no later. They end later and
-- later, so that the first of them ends first.
abbrev pub nearest : ℕ → List Weeks → ℕ
nearest weeks [] = weeks
nearest weeks (s ∷ later) = s.last

unfoldable pub with_span : ℕ → ℕ → ℕ → List Weeks → List Weeks
with_span weeks first last later = pick (ltb last (nearest weeks later)) (record { first = first; last = last } ∷ later) later

unfoldable pub spans_back : ℕ → (ℕ → ℕ) → ℕ → ℕ → List Weeks
spans_back weeks last_of first zero = []
spans_back weeks last_of first (suc n) = with_span weeks first (last_of first) (spans_back weeks last_of (suc first) n)

-- ---- where a minute lies
pub record Seated (words : List ℕ) (minute : ℕ) (s : Seat) : Type 0 where
  pub there : s.index < length words
  pub start : s.start ≡ length (minutes_of (take s.index words))
  pub begun : s.start ≤ minute
  pub within : minute ≤ s.start + minutes_in (get_or words s.index 0)

-- it lies no later than the word at a seat ends; a seat past all words is at the end of the recording
pub record Reaches (words : List ℕ) (minute : ℕ) (s : Seat) : Type 0 where
  pub there : s.index ≤ length words
  pub start : s.start ≡ length (minutes_of (take s.index words))
  pub within : minute ≤ length (minutes_of (take (suc s.index) words))
