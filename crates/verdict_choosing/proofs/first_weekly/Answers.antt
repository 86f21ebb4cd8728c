-- `verdict_choosing::first_weekly` meets its contract. Assumes nothing.
use native.Mathlib.Omega.{arith}
use Rattle.verdict_completion.specs.Courses.{course_of}
use Rattle.verdict_merging.proofs.Merging.{room_on}
use Rattle.verdict_choosing.proofs.Placing.{first_here, none_before, none_at_all}
use Rattle.verdict_choosing.proofs.first_weekly.Goals as goal

pub returns-in-Some : goal.returns-in-Some
returns-in-Some c = let i = c.loop-week.invariant in
    let r = c.args.course.now.rests in record {
      first =
          first_here (course_of c.args.course.now) c.args.j c.loop-week.week i.none c.in-Some.is c.carrier_in.ensures.first (omega (arith, i.from))
          (omega (arith, c.loop-week-test.true, r.lies.proper c.args.j c.requires.rest.within));
      ready = c.carrier_in.ensures.ready;
      lent = room_on i.lent c.carrier_in.ensures.lent;
      empty = λ e. c.carrier_in.ensures.empty (i.empty e);
    }

pub loop-week-preserved : goal.loop-week-preserved
loop-week-preserved c = let i = c.loop-week.invariant in record {
  ready = c.carrier_in.ensures.ready;
  from = omega (arith, i.from);
  none = none_before (course_of c.args.course.now) c.args.j c.loop-week.week i.none c.in_default.is c.carrier_in.ensures.first;
  lent = room_on i.lent c.carrier_in.ensures.lent;
  empty = λ e. c.carrier_in.ensures.empty (i.empty e);
}

pub returns : goal.returns
returns c = let i = c.loop-week.invariant in record {
  first = none_at_all (course_of c.args.course.now) c.args.j c.loop-week.week i.none (omega (arith, c.loop-week-test.false));
  ready = i.ready;
  lent = i.lent;
  empty = i.empty;
}
