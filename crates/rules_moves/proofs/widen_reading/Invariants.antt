-- `rules_moves::widen_reading` meets its contract. Assumes nothing.
use mathlib.Core.Path.{◌≡◌}
use Prim.Native.Nat.{◌+◌, ◌≤◌}
use lib.ListN.{length}
use Rattle.rules.specs.Reading.{bytes_of}
use Rattle.rules_moves.specs.Moves.{stored_bytes}
use Rattle.rules_moves.proofs.Moving.{AllBytes, Putting}
use Rattle.rules_moves.proofs.widen_reading.Given as goal

abbrev pub invariant-loop-stored : goal.invariant-loop-stored
invariant-loop-stored l = record {
  size : l.stored-iterator.size ≡ stored_bytes;
  bytes : AllBytes l.stored-iterator.rest.now;
  room : l.to + length (bytes_of l.stored-iterator.rest.now) ≤ length l.initial.wide;
  putting : Putting (bytes_of l.old) l.initial.wide (bytes_of l.stored-iterator.rest.now) l.wide l.to;
}
