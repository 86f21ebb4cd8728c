-- `rules_account::next_part` meets its contract. Assumes nothing.
use Prim.Native.Nat.{◌+◌, ◌-◌, ◌<◌, ◌≤◌}
use Rattle.rules_account.proofs.next_part.Given as goal

abbrev pub invariant-loop-minutes : goal.invariant-loop-minutes
invariant-loop-minutes l = record {
  some : 0 < l.minutes;
  within : l.minutes ≤ l.run.minutes;
  week : l.minutes ≤ 1 + (l.account.week.end - (l.account.now + 1));
}

abbrev pub decreases-loop-minutes : goal.decreases-loop-minutes
decreases-loop-minutes l = l.minutes
