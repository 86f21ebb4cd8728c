-- `verdict_sweep::visit_all` meets its contract. Assumes nothing.
use mathlib.Core.Path.{refl, ◌∙◌}
use native.Mathlib.Omega.{arith}
use Rattle.verdict_completion.specs.Courses.{course_of}
use Rattle.verdict_search.proofs.Leading as led
use Rattle.verdict_search.proofs.Slots as law
use Rattle.verdict_search.proofs.Chain as chain
use Rattle.verdict_sweep.proofs.Sweeps as sweeps
use Rattle.verdict_sweep.proofs.visit_all.Goals as goal

pub loop-e-init : goal.loop-e-init
loop-e-init c = let k = course_of c.args.course.now in record {
  visits = led.refuse (chain.no_entry k c.args.j c.args.front.now) refl c.requires.sound (sweeps.front_empty k c.requires.next);
  lent = law.lent_self;
}

pub visit-requires : goal.visit-requires
visit-requires c = let i = c.loop-e.invariant in record {
  slots = i.lent.many ∙ c.requires.slots;
  sound = i.visits.sound;
  within = c.requires.within;
  next = i.visits.well;
  entry = (omega (arith, c.requires.front.room, c.loop-e-test.true), c.requires.front.each c.loop-e.e c.loop-e-test.true);
}

pub returns-then-visit : goal.returns-then-visit
returns-then-visit c = let v = c.visit.ensures.visits in record {
  visits = led.accept (record { entry = c.loop-e.e; below = c.loop-e-test.true; can = v.yes c.if-visit.true }) refl v.sound v.well;
  lent = law.lent_on c.loop-e.invariant.lent c.visit.ensures.lent;
}

pub loop-e-preserved : goal.loop-e-preserved
loop-e-preserved c = let k = course_of c.args.course.now in
    let i = c.loop-e.invariant in record {
      visits = led.carry (chain.one_entry k c.args.j c.args.front.now c.loop-e.e) (led.both i.visits (led.known c.if-visit.false c.visit.ensures.visits));
      lent = law.lent_on i.lent c.visit.ensures.lent;
    }
