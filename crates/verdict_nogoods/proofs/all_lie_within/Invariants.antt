-- `verdict_nogoods::all_lie_within` meets its contract. Assumes nothing.
use Rattle.std.proofs.Common.{◌≤◌, length}
use Rattle.verdict_completion.specs.Completable.{at}
use Rattle.verdict_nogoods.proofs.TableLaws.{PairedBelow}
use Rattle.verdict_nogoods.proofs.all_lie_within.Given as goal

abbrev pub invariant-loop-i : goal.invariant-loop-i
invariant-loop-i l = (l.d ≤ length l.stored) × PairedBelow (at l.stored) (at l.present) l.d l.i
