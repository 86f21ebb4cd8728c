-- `verdict_breach::day_readable` meets its contract. Assumes nothing.
use native.Mathlib.Omega.{arith}
use Rattle.verdict_sweep.proofs.Sweeps.{fronts_self}
use Rattle.verdict_breach.proofs.Days.{ends_low, first_starts, lies_first, over_bound, day_asked}
use Rattle.verdict_breach.proofs.day_readable.Goals as goal

pub day_start-from-requires : goal.day_start-from-requires
day_start-from-requires c =
    let rests = c.args.rests.now in
    (omega (arith, rests.lies.ends_too, c.requires.1), λ i h. omega (arith, ends_low rests.lies i h, rests.low))

pub returns-then-bound-from : goal.returns-then-bound-from
returns-then-bound-from c = record { says = over_bound _ _ _ c.day_start-from.ensures c.if-bound-from.true; lent = fronts_self }

pub invariant_of-first : goal.invariant_of-first
invariant_of-first c =
    let rests = c.args.rests.now in
    let n = c.args.n in
    record {
      lies = lies_first rests.lies n c.requires.1 _ (omega (arith, c.day_start-from.ensures));
      few = omega (arith, first_starts rests.lies n c.requires.1, c.requires.1, rests.few);
      low = omega (arith, c.requires.0, c.if-bound-from.false);
    }

pub returns : goal.returns
returns c = record { says = day_asked _ _ _ c.day_start-from.ensures (omega arith) c.some_reading.ensures.says; lent = c.some_reading.ensures.lent }
