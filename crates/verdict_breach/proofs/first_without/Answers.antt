-- `verdict_breach::first_without` meets its contract. Assumes nothing.
use native.Mathlib.Omega.{arith}
use borrow.Author.Tests.{not-true, not-false}
use Rattle.verdict_sweep.proofs.Sweeps.{fronts_self, fronts_on}
use Rattle.verdict_breach.proofs.Days.{ends_low, lies_later}
use Rattle.verdict_breach.proofs.Demands.{start_asking, ask_on, found_none, all_asked}
use Rattle.verdict_breach.proofs.first_without.Goals as goal

pub next_demand-judged-requires : goal.next_demand-judged-requires
next_demand-judged-requires c =
    let rests = c.args.rests.now in
    (rests.low, λ i h. omega (arith, ends_low rests.lies i h, rests.low))

pub loop-judged-init : goal.loop-judged-init
loop-judged-init c = record { asking = start_asking _ _ c.next_demand-judged.ensures; lent = fronts_self }

pub invariant_of-later : goal.invariant_of-later
invariant_of-later c =
    let rests = c.args.rests.now in
    record { lies = lies_later rests.lies (omega (arith, c.loop-judged.invariant.asking.past)); few = rests.few; low = omega (arith, c.requires.1, c.loop-judged-test.true) }

pub returns-then-not-asked : goal.returns-then-not-asked
returns-then-not-asked c = record {
  first = found_none c.loop-judged.invariant.asking c.loop-judged-test.true c.some_reading-asked.ensures.says (not-true _ c.if-not-asked.true);
  lent = fronts_on c.loop-judged.invariant.lent c.some_reading-asked.ensures.lent;
}

pub next_demand-judged-requires-in-loop-judged : goal.next_demand-judged-requires-in-loop-judged
next_demand-judged-requires-in-loop-judged c =
    let rests = c.args.rests.now in
    (omega (arith, c.requires.1, c.loop-judged-test.true), λ i h. omega (arith, ends_low rests.lies i h, rests.low))

pub loop-judged-smaller : goal.loop-judged-smaller
loop-judged-smaller c = omega (arith, c.next_demand-judged-in-loop-judged.ensures.past, c.loop-judged-test.true)

pub loop-judged-preserved : goal.loop-judged-preserved
loop-judged-preserved c = record {
  asking = ask_on c.loop-judged.invariant.asking c.some_reading-asked.ensures.says (not-false _ c.if-not-asked.false) c.next_demand-judged-in-loop-judged.ensures;
  lent = fronts_on c.loop-judged.invariant.lent c.some_reading-asked.ensures.lent;
}

pub overflow_add-result : goal.overflow_add-result
overflow_add-result c = record { fits = omega (arith, c.requires.1) }

pub returns : goal.returns
returns c = record { first = all_asked c.loop-judged.invariant.asking c.requires.0 (omega arith); lent = c.loop-judged.invariant.lent }
