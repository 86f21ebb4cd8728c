-- `verdict_spans::spans_within` meets its contract. Assumes nothing.
use mathlib.Core.Path.{refl, ap, ◌∙◌}
use native.Mathlib.Omega.{arith}
use Rattle.rules.specs.Spans.{weeks_begun}
use Rattle.verdict_sweep.proofs.Sweeps.{fronts_self, fronts_on}
use Rattle.verdict_spans.proofs.Putting.{start_putting, monday_there, monday_reached, week_low, verdict_sound, last_is, put_none, place_there, place_low, put_one, put_done}
use Rattle.verdict_spans.proofs.spans_within.Goals as goal

pub weeks_begun-weeks-requires : goal.weeks_begun-weeks-requires
weeks_begun-weeks-requires c = omega (arith, c.requires.0, c.requires.1)

pub loop-first-init : goal.loop-first-init
loop-first-init c = record { putting = start_putting _ _ c.requires.1 c.weeks_begun-weeks.ensures refl; lent = fronts_self }

pub overflow_mul-monday : goal.overflow_mul-monday
overflow_mul-monday c = record { fits = omega (arith, week_low c.loop-first.invariant.putting c.loop-first-test.true c.requires.0) }

pub seat_before-seat-requires : goal.seat_before-seat-requires
seat_before-seat-requires c = let k = c.loop-first.invariant.putting in
    (monday_reached k c.loop-first-test.true, monday_there k c.loop-first-test.true)

pub verdict_at-found-requires : goal.verdict_at-found-requires
verdict_at-found-requires c = (c.requires.0, c.requires.1, c.seat_before-seat.ensures)

pub last_week-last-requires : goal.last_week-last-requires
last_week-last-requires c = let k = c.loop-first.invariant.putting in
    (omega (arith, week_low k c.loop-first-test.true c.requires.0), verdict_sound k c.loop-first-test.true c.verdict_at-found.ensures.answer c.requires.0)

pub overflow_sub-place : goal.overflow_sub-place
overflow_sub-place c = let k = c.loop-first.invariant.putting in
    let test = c.loop-first-test.true in
    omega (
      arith,
      place_there k test c.seat_before-seat.ensures
          (last_is k test c.verdict_at-found.ensures.answer (c.weeks_begun-weeks.ensures ∙ ap weeks_begun c.requires.1) c.last_week-last.ensures) c.requires.0,
    )

pub bounds-spans-place : goal.bounds-spans-place
bounds-spans-place c = let k = c.loop-first.invariant.putting in
    let test = c.loop-first-test.true in
    let is = last_is k test c.verdict_at-found.ensures.answer (c.weeks_begun-weeks.ensures ∙ ap weeks_begun c.requires.1) c.last_week-last.ensures in
    omega (arith, place_there k test c.seat_before-seat.ensures is c.requires.0, place_low k test c.seat_before-seat.ensures is c.requires.0, k.spans_there)

pub loop-first-preserved-then-last-nearest : goal.loop-first-preserved-then-last-nearest
loop-first-preserved-then-last-nearest c = let k = c.loop-first.invariant.putting in
    let test = c.loop-first-test.true in
    let is = last_is k test c.verdict_at-found.ensures.answer (c.weeks_begun-weeks.ensures ∙ ap weeks_begun c.requires.1) c.last_week-last.ensures in
    record {
      putting = put_one k test c.seat_before-seat.ensures is c.requires.0 c.if-last-nearest.true;
      lent = fronts_on c.loop-first.invariant.lent c.verdict_at-found.ensures.lent;
    }

pub loop-first-preserved : goal.loop-first-preserved
loop-first-preserved c = let k = c.loop-first.invariant.putting in
    let test = c.loop-first-test.true in
    let is = last_is k test c.verdict_at-found.ensures.answer (c.weeks_begun-weeks.ensures ∙ ap weeks_begun c.requires.1) c.last_week-last.ensures in
    record {
      putting = put_none k test c.seat_before-seat.ensures is (omega arith);
      lent = fronts_on c.loop-first.invariant.lent c.verdict_at-found.ensures.lent;
    }

pub returns : goal.returns
returns c = record { spans = put_done c.loop-first.invariant.putting (omega arith); lent = c.loop-first.invariant.lent }
