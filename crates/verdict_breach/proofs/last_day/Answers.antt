-- `verdict_breach::last_day` meets its contract. Assumes nothing.
use native.Mathlib.Omega.{arith}
use Rattle.verdict_sweep.proofs.Sweeps.{fronts_self, fronts_on}
use Rattle.verdict_breach.proofs.Halving.{start_halving, halve_up, halve_down, halved}
use Rattle.verdict_breach.proofs.last_day.Goals as goal

pub loop-high-init : goal.loop-high-init
loop-high-init c = record { halving = start_halving _ _ _ c.requires.1 (omega arith); lent = fronts_self }

pub overflow_sub-high : goal.overflow_sub-high
overflow_sub-high c = omega (arith, c.loop-high.invariant.halving.order)

pub between-middle-requires : goal.between-middle-requires
between-middle-requires c = (
  omega (arith, c.loop-high.invariant.halving.order, c.loop-high-test.true),
  omega (arith, c.loop-high.invariant.halving.within, c.args.rests.now.few),
)

pub day_readable-asked-requires : goal.day_readable-asked-requires
day_readable-asked-requires c = (c.requires.0, omega (arith, c.between-middle.ensures.1, c.loop-high.invariant.halving.within))

pub loop-high-smaller-then-asked : goal.loop-high-smaller-then-asked
loop-high-smaller-then-asked c = omega (arith, c.between-middle.ensures.0, c.between-middle.ensures.1)

pub loop-high-preserved-then-asked : goal.loop-high-preserved-then-asked
loop-high-preserved-then-asked c = record {
  halving = halve_up c.loop-high.invariant.halving c.day_readable-asked.ensures.says c.between-middle.ensures.0 c.between-middle.ensures.1 c.if-asked.true;
  lent = fronts_on c.loop-high.invariant.lent c.day_readable-asked.ensures.lent;
}

pub loop-high-smaller : goal.loop-high-smaller
loop-high-smaller c = omega (arith, c.between-middle.ensures.0, c.between-middle.ensures.1)

pub loop-high-preserved : goal.loop-high-preserved
loop-high-preserved c = record {
  halving = halve_down c.loop-high.invariant.halving c.day_readable-asked.ensures.says c.between-middle.ensures.0 c.between-middle.ensures.1 c.if-asked.false;
  lent = fronts_on c.loop-high.invariant.lent c.day_readable-asked.ensures.lent;
}

pub returns : goal.returns
returns c = record {
  last = halved c.loop-high.invariant.halving (omega (arith, c.loop-high-test.false));
  lent = c.loop-high.invariant.lent;
}
