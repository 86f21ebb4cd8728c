-- `rules_moves::narrow_reading` meets its contract. Assumes nothing.
use mathlib.Core.Path.{◌≡◌}
use Prim.Native.Nat.{◌+◌, ◌≤◌}
use lib.ListN.{length}
use Rattle.rules.specs.Reading.{entry_bytes}
use Rattle.rules_moves.specs.Passes.{low_bytes}
use Rattle.rules_moves.proofs.Moving.{Putting}
use Rattle.rules_moves.proofs.narrow_reading.Given as goal

abbrev pub invariant-loop-entry : goal.invariant-loop-entry
invariant-loop-entry l = record {
  size : l.entry-iterator.size ≡ entry_bytes;
  room : l.to + length (low_bytes l.entry-iterator.rest.now) ≤ length l.initial.old;
  putting : Putting (low_bytes l.wide) l.initial.old (low_bytes l.entry-iterator.rest.now) l.old l.to;
}
