-- `verdict_choosing::first_carrier` meets its contract. Assumes nothing.
use native.Mathlib.Omega.{arith}
use Rattle.verdict_completion.specs.Courses.{course_of}
use Rattle.verdict_merging.proofs.Merging.{room_on}
use Rattle.verdict_choosing.proofs.Placing.{none_below, none_at_last, is_first}
use Rattle.verdict_choosing.proofs.first_carrier.Goals as goal

pub returns-then-can_have-2 : goal.returns-then-can_have-2
returns-then-can_have-2 c = let i = c.loop-x.invariant in
    let h = c.can_have-in-loop-x.ensures in record {
      first = is_first (course_of c.args.course.now) c.args.j c.loop-x.x (h.told.yes c.if-can_have-2.true) (h.holds c.if-can_have-2.true) i.none;
      ready = h.told.ready;
      lent = room_on c.can_have.ensures.lent (room_on i.lent h.lent);
      empty = λ e. h.empty (i.empty (c.can_have.ensures.empty e));
    }

pub loop-x-preserved : goal.loop-x-preserved
loop-x-preserved c = let i = c.loop-x.invariant in
    let h = c.can_have-in-loop-x.ensures in record {
      ready = h.told.ready;
      later = omega (arith, i.later);
      none = none_below (course_of c.args.course.now) c.args.j c.loop-x.x (h.told.no c.if-can_have-2.false) i.none;
      lent = room_on i.lent h.lent;
      empty = λ e. h.empty (i.empty e);
    }

pub returns : goal.returns
returns c = let i = c.loop-x.invariant in record {
  first = none_at_last (course_of c.args.course.now) c.args.j c.loop-x.x (omega (arith, c.loop-x-test.false)) i.none;
  ready = i.ready;
  lent = room_on c.can_have.ensures.lent i.lent;
  empty = λ e. i.empty (c.can_have.ensures.empty e);
}
