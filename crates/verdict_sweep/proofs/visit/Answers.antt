-- `verdict_sweep::visit` meets its contract. Assumes nothing.
use native.Mathlib.Omega.{arith}
use Rattle.verdict_completion.specs.Courses.{course_of}
use Rattle.verdict_search.proofs.Leading as led
use Rattle.verdict_sweep.proofs.Sweeps as sweeps
use Rattle.verdict_sweep.proofs.visit.Goals as goal

pub compensate-requires : goal.compensate-requires
compensate-requires c = let k = course_of c.args.course.now in
    let slots = sweeps.slots_read k c.args.j c.requires.entry.1 c.args.search.now.slots.now c.requires.slots c.reductions_in-search.ensures c.outstanding_in.ensures in record {
      given = record { slots = slots; sound = c.requires.sound; well = c.requires.next };
      rest = sweeps.rest_read k c.args.j c.requires.entry.1 c.state_in-here.ensures;
      from = omega arith;
      low = c.args.course.now.compensations_low c.args.j;
    }

pub returns-clause-visits : goal.returns-clause-visits
returns-clause-visits c = let k = course_of c.args.course.now in
    led.relist _ (led.carry (sweeps.can_read k c.args.j c.requires.entry.1 c.args.search.now.slots.now c.requires.slots c.state_in-here.ensures c.outstanding_in.ensures)
    c.compensate.ensures.leads)
