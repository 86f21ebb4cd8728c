-- `verdict_nogoods::clear` meets its contract. Assumes nothing.
use Rattle.std.proofs.Common.{◌≡◌, ℕ, ◌<◌}
use Rattle.verdict_completion.specs.Completable.{at}
use Rattle.verdict_nogoods.specs.Table.{level_at}
use Rattle.verdict_nogoods.proofs.clear.Given as goal

abbrev pub invariant-loop-i : goal.invariant-loop-i
invariant-loop-i l = (x : ℕ) → x < l.i → at l.table (level_at x) ≡ 0
