-- `verdict_choosing::can_have` meets its contract. Assumes nothing.
use mathlib.Core.Path.{ap}
use mathlib.Core.Bool.{false≢true}
use mathlib.Core.List.{List}
use Prim.Native.Nat.{ℕ, ◌+◌, ◌-◌}
use lib.ListN.{set}
use Rattle.verdict_completion.specs.Completable.{at}
use Rattle.verdict_completion.specs.Courses.{course_of}
use Rattle.verdict_search.specs.Search.{with_compensations}
use Rattle.verdict_merging.specs.Merging.{nothing}
use Rattle.verdict_merging.proofs.Merging.{room_self}
use Rattle.verdict_choosing.proofs.Placing.{if_no, if_carry, room_with, with_carrier, trial_carrying, carried_on, before_with}
use Rattle.verdict_choosing.proofs.can_have.Goals as goal

pub returns-then-not-carries : goal.returns-then-not-carries
returns-then-not-carries c = let r = c.args.course.now in
    let k = course_of r in record {
      told =
          if_no
          (λ h. c.carries.ensures.no c.if-not-carries.true
          (record { carried = h.carried; holds = room_with k c.args.j c.args.w c.args.next (nothing k) c.args.x r.one_each h }))
          c.requires.ready;
      holds = λ h. absurd (false≢true h);
      lent = room_self;
      empty = λ e. e;
    }

pub completes_beside-requires-2 : goal.completes_beside-requires-2
completes_beside-requires-2 c = let r = c.args.course.now in
    let k = course_of r in
    let x = c.args.x in
    let less = c.lacking-less.result in
    let p = carried_on k c.args.j x c.if-x-eq0.false c.lacking-less.ensures
    (ap (λ (l : List ℕ). set l (x - 1) (at l (x - 1) + less)) c.put_all.ensures.after) in record {
      ready = c.requires.ready;
      trial = trial_carrying k c.args.j x c.if-x-eq0.false (ap (with_compensations k) p);
      rest = c.requires.rest;
      next = before_with k _ c.requires.next;
      number = c.requires.number;
    }

pub returns : goal.returns
returns c = let r = c.args.course.now in
    let k = course_of r in
    let x = c.args.x in
    let less = c.lacking-less.result in
    let y = c.carries.ensures.yes c.if-not-carries.false in
    let p = carried_on k c.args.j x c.if-x-eq0.false c.lacking-less.ensures
    (ap (λ (l : List ℕ). set l (x - 1) (at l (x - 1) + less)) c.put_all.ensures.after) in record {
      told = if_carry (with_carrier k c.args.j c.args.w c.args.next (nothing k) x (ap (with_compensations k) p) y.carried) c.completes_beside-2.ensures.told;
      holds = λ _. y.holds;
      lent = c.completes_beside-2.ensures.lent;
      empty = λ _. c.completes_beside-2.ensures.empty;
    }
