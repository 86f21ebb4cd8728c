-- `rules_account::run` meets its contract. Assumes nothing.
use native.Mathlib.Omega.{arith}
use Rattle.rules_account.proofs.Running.{run_on, run_done}
use Rattle.rules_account.proofs.run.Goals as goal

pub loop-left-preserved : goal.loop-left-preserved
loop-left-preserved c = let part = c.next_part-minutes.ensures in run_on c.loop-left.invariant part.within part.ran

pub returns : goal.returns
returns c = run_done c.loop-left.invariant (omega arith)
