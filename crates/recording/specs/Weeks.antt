-- Public: document 01, "The recording", weeks.
-- Assumes nothing.
use Rattle.std.specs.Prelude.{Bool, List, ℕ, ◌+◌, ◌*◌, ◌/◌, leb, ltb, eqb, length}
use Rattle.std.proofs.Math.Seq.{slice}
use Rattle.recording.specs.Tests.{◌and◌, all_of}
use Rattle.recording.specs.Words.{rest}
use Rattle.recording.specs.declared.Span.{Span}

-- "Week w (from 0) is minutes 10,080 × w to 10,080 × (w + 1), the second not included."
abbrev pub week_minutes : ℕ
week_minutes = 10080

abbrev pub week_start : ℕ → ℕ
week_start w = week_minutes * w

abbrev pub week : ℕ → Span
week w = record { start = week_start w; end = week_start (w + 1) }

-- the week of a minute; and a number of weeks past which a recording has no minute
abbrev pub week_of : ℕ → ℕ
week_of minute = minute / week_minutes

abbrev pub weeks_of : List ℕ → ℕ
weeks_of ms = week_of (length ms) + 1

-- a span "has a minute in that week"
unfoldable pub touches : Span → ℕ → Bool
touches r w = ltb r.start (week w).end and ltb (week w).start r.end

-- "A week of rest minutes only"
abbrev pub is_rest : ℕ → Bool
is_rest a = eqb a rest

unfoldable pub rest_only : List ℕ → ℕ → Bool
rest_only ms w = all_of is_rest (slice (week w).start (week w).end ms)

-- a span lies inside another
unfoldable pub inside : Span → Span → Bool
inside a r = leb r.start a.start and leb a.end r.end
