-- `recording::total_of` meets its contract. The invariant: what is left, from the total so far, has the total of the whole.
-- Assumes nothing.
use mathlib.Core.Path.{◌≡◌}
use Prim.Native.Nat.{◌≤◌}
use lib.ListN.{drop}
use Rattle.recording.specs.Operations.{total_at_most, total_from}
use Rattle.recording.proofs.total_of.Given as goal

abbrev pub invariant-loop-word : goal.invariant-loop-word
invariant-loop-word l = (l.total ≤ total_at_most) × (total_from 0 l.words ≡ total_from l.total (drop l.word-index l.words))
