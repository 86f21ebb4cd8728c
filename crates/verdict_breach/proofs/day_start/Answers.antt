-- `verdict_breach::day_start` meets its contract. Assumes nothing.
use native.Mathlib.Omega.{arith}
use Prim.Native.Nat.{◌-◌}
use Rattle.verdict_breach.proofs.Days.{day_start_is}
use Rattle.verdict_breach.proofs.day_start.Goals as goal

pub overflow_add-result : goal.overflow_add-result
overflow_add-result c = record { fits = omega (arith, c.requires.1 (c.args.n - 1) (omega arith)) }

pub returns : goal.returns
returns c = day_start_is c.args.ends.now c.args.n c.if-n-eq0.false
