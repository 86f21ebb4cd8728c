-- `verdict_breach::least_without` meets its contract. Assumes nothing.
use native.Mathlib.Omega.{arith}
use Rattle.recording.specs.Words.{minutes_of}
use Rattle.recording.specs.Scan.{words_in}
use Rattle.verdict_sweep.proofs.Sweeps.{fronts_on}
use Rattle.verdict_breach.proofs.Days.{ends_low, first_starts, lies_first}
use Rattle.verdict_breach.proofs.Halving.{bound_above}
use Rattle.verdict_breach.proofs.Least.{from_low, least_found}
use Rattle.verdict_breach.proofs.least_without.Goals as goal

pub last_day-n-requires : goal.last_day-n-requires
last_day-n-requires c =
    (omega (arith, c.args.recording.within, c.requires.1.within), bound_above (minutes_of (words_in c.args.recording)) _ c.requires.1)

pub day_start-from-requires : goal.day_start-from-requires
day_start-from-requires c =
    let rests = c.args.rests.now in
    (omega (arith, c.last_day-n.ensures.last.within, rests.lies.ends_too), λ i h. omega (arith, ends_low rests.lies i h, rests.low))

pub day_top-top-requires : goal.day_top-top-requires
day_top-top-requires c = bound_above (minutes_of (words_in c.args.recording)) _ c.requires.1

pub invariant_of-first : goal.invariant_of-first
invariant_of-first c =
    let rests = c.args.rests.now in
    let n = c.last_day-n.ensures.last.within in
    record {
      lies = lies_first rests.lies _ n _ (omega (arith, c.day_start-from.ensures));
      few = omega (arith, first_starts rests.lies _ n, n, rests.few);
      low = omega (arith, c.day_start-from.ensures, from_low c.requires.0 c.last_day-n.ensures.last c.day_top-top.ensures, c.day_top-top.ensures.below, c.requires.1.within, c.args.recording.within);
    }

pub first_without-after-requires : goal.first_without-after-requires
first_without-after-requires c = (
  omega (arith, c.day_start-from.ensures, from_low c.requires.0 c.last_day-n.ensures.last c.day_top-top.ensures),
  omega (arith, c.day_top-top.ensures.below, c.requires.1.within, c.args.recording.within),
)

pub next_active-requires : goal.next_active-requires
next_active-requires c = (
  omega (arith, c.first_without-after.ensures.first.within, c.day_top-top.ensures.below),
  c.requires.1.within,
)

pub returns : goal.returns
returns c = record {
  least = least_found c.requires.0 c.requires.1 c.last_day-n.ensures.last c.day_start-from.ensures c.day_top-top.ensures c.first_without-after.ensures.first
      c.next_active.ensures;
  lent = fronts_on c.last_day-n.ensures.lent c.first_without-after.ensures.lent;
}
