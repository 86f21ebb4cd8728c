-- `text_lines::number_in` meets its contract. The invariant: the digits that are left, after the value so far, come to what the whole comes to. Assumes nothing.
use mathlib.Core.Path.{◌≡◌}
use mathlib.Core.List.{◌++◌}
use Prim.Native.Nat.{◌≤◌}
use lib.ListN.{drop}
use Rattle.text_lines.specs.Form.{closing_line, run_at_most}
use Rattle.text_lines.specs.Reading.{number_from}
use Rattle.text_lines.proofs.number_in.Given as goal

abbrev pub invariant-loop-digit : goal.invariant-loop-digit
invariant-loop-digit l = (l.value ≤ run_at_most) × (number_from 0 l.bytes ≡ number_from l.value (drop l.digit-index l.digits ++ closing_line))
