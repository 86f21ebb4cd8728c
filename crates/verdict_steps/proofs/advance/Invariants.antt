-- `verdict_steps::advance` meets its contract. Assumes nothing.
use mathlib.Core.Path.{◌≡◌}
use lib.ListN.{length}
use Prim.Native.Nat.{◌-◌, ◌≤◌}
use Rattle.rules_items.specs.Items.{spans_in, rest_weeks}
use Rattle.verdict_completion.specs.States.{advance}
use Rattle.verdict_completion.specs.Better.{Small}
use Rattle.verdict_steps.proofs.advance.Given as goal

abbrev pub invariant-loop-here : goal.invariant-loop-here
invariant-loop-here l = Small l.here × (l.initial.here.week ≤ l.here.week) ×
    (advance (rest_weeks (spans_in l.rests.starts.now l.rests.ends.now (length l.rests.starts.now))) (l.to - l.here.week) l.here
    ≡ advance (rest_weeks (spans_in l.rests.starts.now l.rests.ends.now (length l.rests.starts.now))) (l.to - l.initial.here.week) l.initial.here)

abbrev pub decreases-loop-here : goal.decreases-loop-here
decreases-loop-here l = l.to - l.here.week
