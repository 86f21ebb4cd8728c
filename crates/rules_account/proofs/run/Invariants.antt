-- `rules_account::run` meets its contract. Assumes nothing.
use Prim.Native.Nat.{◌+◌}
use lib.ListN.{replicate}
use Rattle.recording.specs.Words.{code_of}
use Rattle.rules_limits.specs.Account.{account_from}
use Rattle.rules_account.proofs.Running.{Running}
use Rattle.rules_account.proofs.run.Given as goal

abbrev pub invariant-loop-left : goal.invariant-loop-left
invariant-loop-left l =
    let a = code_of l.run.activity in
    Running (account_from l.initial.after (replicate l.initial.left a)) (l.initial.after.now + l.initial.left) a l.left l.after

abbrev pub decreases-loop-left : goal.decreases-loop-left
decreases-loop-left l = l.left
