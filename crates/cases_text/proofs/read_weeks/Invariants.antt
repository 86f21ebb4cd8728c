-- `cases_text::read_weeks` meets its contract: the text of n weeks has 13 bytes and 21 for each. Assumes nothing.
use mathlib.Core.Path.{◌≡◌}
use Prim.Native.Nat.{◌+◌, ◌*◌}
use Rattle.cases_text.proofs.read_weeks.Given as goal

abbrev pub invariant-loop : goal.invariant-loop
invariant-loop g l = l.page.len ≡ 11 + 21 * l.counter
