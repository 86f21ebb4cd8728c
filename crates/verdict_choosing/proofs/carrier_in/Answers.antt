-- `verdict_choosing::carrier_in` meets its contract. Assumes nothing.
use mathlib.Core.Path.{sym, ◌∙◌}
use Prim.Native.Nat.{◌+◌, ◌-◌}
use lib.Dec.{leb}
use Rattle.rules.specs.Reading.{regular_minutes}
use Rattle.verdict_completion.specs.Completable.{at, rest_week, length_at}
use Rattle.verdict_completion.specs.Courses.{course_of}
use Rattle.verdict_completion.proofs.Courses.{lies_with}
use Rattle.verdict_search.proofs.Slots.{brought, before_weekly}
use Rattle.verdict_merging.specs.Merging.{nothing}
use Rattle.verdict_choosing.proofs.Placing.{counted_state, from_with, to_with, first_with}
use Rattle.verdict_choosing.proofs.carrier_in.Goals as goal

pub after_weekly-next-requires : goal.after_weekly-next-requires
after_weekly-next-requires c = let k = course_of c.args.course.now in
    (brought (rest_week k) (c.args.w - c.args.here.week) c.requires.rest.small c.advance.ensures c.in-Some.is).small

pub first_carrier-requires : goal.first_carrier-requires
first_carrier-requires c = let r = c.args.course.now in
    let k = course_of r in record {
      ready = c.requires.ready;
      spare = c.requires.spare;
      rest = c.requires.rest;
      next =
          before_weekly k (lies_with r.rests r.compensations.now) c.args.j c.args.w c.args.here c.rest_week-rest.result
          (leb (regular_minutes + at r.compensations.now c.args.j) (length_at k c.args.j))
          c.advance.ensures c.in-Some.is c.after_weekly-next.ensures c.requires.rest c.requires.from c.requires.week;
      week = c.requires.week;
    }

pub returns : goal.returns
returns c = let r = c.args.course.now in
    let k = course_of r in
    let there = c.in-Some.there in
    let next = c.after_weekly-next.result in
    let counted = sym c.advance.ensures ∙ c.in-Some.is in
    let e = counted_state k c.args.j c.args.w c.rest_week-rest.result there next c.after_weekly-next.ensures c.rest_week-rest.ensures in record {
      first =
          first_with k c.args.j _ _ _ _ c.first_carrier.result
          (λ x h. from_with k c.args.j c.args.w c.args.here there next (nothing k) counted e x c.requires.net c.requires.from c.requires.week h)
          (to_with k c.args.j c.args.w c.args.here there next (nothing k) counted e)
          c.first_carrier.ensures.first;
      ready = c.first_carrier.ensures.ready;
      lent = c.first_carrier.ensures.lent;
      empty = c.first_carrier.ensures.empty;
    }
