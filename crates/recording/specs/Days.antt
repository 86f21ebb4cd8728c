-- Public: document 01, "The recording", P and days.
-- Assumes nothing.
use Rattle.std.specs.Prelude.{List, [], ◌∷◌, ℕ, leb}
use Rattle.std.proofs.Math.Seq.{slice}
use Rattle.recording.specs.Tests.{pick}
use Rattle.recording.specs.Words.{driving_time}
use Rattle.recording.specs.Rests.{judged_end, long_rests}
use Rattle.recording.specs.declared.Span.{Span}

-- "P is the end of the latest long rest before a point, or 0." Of the rests so far the latest ended at `p`.
unfoldable pub latest_end_from : ℕ → List Span → ℕ → ℕ
latest_end_from p [] point = p
latest_end_from p (r ∷ rs) point = pick (leb r.end point) (latest_end_from r.end rs point) p

unfoldable pub latest_end : List ℕ → ℕ → ℕ
latest_end ms point = latest_end_from 0 (long_rests ms) point

-- "A day runs from P to the next long rest's start, or to S."
unfoldable pub days_from : ℕ → ℕ → List Span → List Span
days_from p s [] = record { start = p; end = s } ∷ []
days_from p s (r ∷ rs) = record { start = p; end = r.start } ∷ days_from r.end s rs

unfoldable pub days : List ℕ → List Span
days ms = days_from 0 (judged_end ms) (long_rests ms)

-- the driving in a span
unfoldable pub driving_in : List ℕ → Span → ℕ
driving_in ms d = driving_time (slice d.start d.end ms)
