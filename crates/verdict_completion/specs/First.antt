-- Inner: the first reading of long rests that keeps rules 6 to 11. Nobody has to believe it: no public contract cites it.
-- Assumes nothing.
use Rattle.std.specs.Prelude.{List, ℕ}
use Rattle.rules.specs.Reading.{entries}
use Rattle.rules.specs.Order.{Fields, NotAfter}
use Rattle.verdict_completion.specs.States.{start_state}
use Rattle.verdict_completion.specs.Runs.{Kept}
use Rattle.verdict_completion.specs.Completable.{Course, count, spans_of, rest_week, counts}

-- a reading of all long rests, by its fields, that keeps rules 6 to 11
abbrev pub KeptBy : Course → List ℕ → Type 0
KeptBy c fields = Kept (rest_week c) (counts c) c.judged (spans_of c) (start_state (rest_week c 0)) (entries (spans_of c) fields)

-- it stands before every other
pub record Least (c : Course) (r : List ℕ) : Type 0 where
  pub bounded : Fields (count c) r
  pub keeps : KeptBy c r
  pub first : (t : List ℕ) → Fields (count c) t → KeptBy c t → NotAfter r t
