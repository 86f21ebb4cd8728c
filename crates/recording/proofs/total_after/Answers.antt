-- `recording::total_after` meets its contract. Assumes nothing.
use native.Mathlib.Omega.{arith}
use Rattle.recording.proofs.WordLaws.{fault_empty, fault_past, fault_none}
use Rattle.recording.proofs.total_after.Goals as goal

pub returns-then-minutes-eq0 : goal.returns-then-minutes-eq0
returns-then-minutes-eq0 c = rw (fault_empty c.args.total c.args.word c.if-minutes-eq0.true)

pub returns-then-total-minutes : goal.returns-then-total-minutes
returns-then-total-minutes c = rw (fault_past c.args.total c.args.word c.if-minutes-eq0.false (omega arith))

pub returns : goal.returns
returns c = rw (fault_none c.args.total c.args.word c.if-minutes-eq0.false (omega arith))
