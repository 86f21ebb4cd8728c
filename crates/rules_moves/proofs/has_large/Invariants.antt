-- `rules_moves::has_large` meets its contract. Assumes nothing.
use mathlib.Core.Path.{◌≡◌}
use Rattle.rules.specs.Reading.{entry_bytes, fields_in}
use Rattle.rules_moves.specs.Moves.{too_large}
use Rattle.rules_moves.proofs.has_large.Given as goal

abbrev pub invariant-loop-bytes : goal.invariant-loop-bytes
invariant-loop-bytes l = record {
  size : l.bytes-iterator.size ≡ entry_bytes;
  same : too_large (fields_in l.wide) ≡ too_large (fields_in l.bytes-iterator.rest.now);
}
