-- `rules_items::rest_week` meets its contract. Assumes nothing.
use Rattle.rules_items.proofs.PairLaws.{Looking}
use Rattle.rules_items.proofs.rest_week.Given as goal

abbrev pub invariant-loop-i : goal.invariant-loop-i
invariant-loop-i l = Looking l.starts l.ends l.k l.w l.i
