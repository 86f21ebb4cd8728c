-- `rules_reading::pairs_test` meets its contract. Assumes nothing.
use Rattle.std.proofs.Common.{◌≡◌, ℕ, ◌+◌, ◌≤◌, ◌<◌, true, not, length}
use lib.Dec.{leb}
use Rattle.recording.specs.Tests.{◌or◌}
use Rattle.recording.specs.Weeks.{week_of, week_start}
use Rattle.rules_items.specs.Items.{enough_with, rest_weeks, spans_in}
use Rattle.rules_reading.proofs.pairs_test.Given as goal

abbrev pub invariant-loop-w : goal.invariant-loop-w
invariant-loop-w l = (v : ℕ) → l.w ≤ v → v < week_of l.s
    → not (leb (week_start (v + 2)) l.s) or enough_with (rest_weeks (spans_in l.rests.starts.now l.rests.ends.now (length l.rests.starts.now))) l.counts.weekly l.counts.regular v ≡ true
