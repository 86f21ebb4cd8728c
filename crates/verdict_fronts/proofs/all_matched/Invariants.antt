-- `verdict_fronts::all_matched` meets its contract. Assumes nothing.
use Rattle.std.proofs.Common.{ℕ, ◌<◌}
use Rattle.verdict_fronts.specs.Front.{entry_at, Dominated}
use Rattle.verdict_fronts.proofs.all_matched.Given as goal

abbrev pub invariant-loop-e : goal.invariant-loop-e
invariant-loop-e l = (i : ℕ) → i < l.e → Dominated l.front l.n l.known (entry_at i)
