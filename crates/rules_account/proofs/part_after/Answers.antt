-- `rules_account::part_after` meets its contract. Assumes nothing.
use native.Mathlib.Omega.{arith}
use Prim.Native.Nat.{◌-◌}
use Rattle.recording.specs.Words.{code_of}
use Rattle.recording.proofs.Activities.{no_rest}
use Rattle.rules_limits.specs.Parts.{rest_part, busy_part, part_after}
use Rattle.rules_limits.proofs.Steps.{rested_bounded, its_day, day_after_bounded}
use Rattle.rules_limits.proofs.PartRight.{driving_most, day_start}
use Rattle.rules_account.proofs.part_after.Goals as goal

pub after_driving-day-requires : goal.after_driving-day-requires
after_driving-day-requires c =
    let s = c.args.account in
    let k = day_after_bounded (s.now - s.from) s.now s.week.end s.day (its_day _ c.requires.0) in
    let n = driving_most (code_of c.args.part.activity) c.args.part.minutes in
    rw (c.after_rest.ensures, c.driving_in-driving.ensures) (omega (arith, k.driving), omega (arith, k.extended))

pub accumulated_more-accumulated-requires : goal.accumulated_more-accumulated-requires
accumulated_more-accumulated-requires c =
    let s = c.args.account in
    let n = driving_most (code_of c.args.part.activity) c.args.part.minutes in
    let sum = rested_bounded (s.now - s.from) s.accumulated _ c.requires.0.sum in
    rw (c.rested_for.ensures, c.driving_in-driving.ensures) (omega (arith, sum))

pub broken_at-here-requires : goal.broken_at-here-requires
broken_at-here-requires c =
    let s = c.args.account in
    let k = day_after_bounded (s.now - s.from) s.now s.week.end s.day (its_day _ c.requires.0) in
    let n = driving_most (code_of c.args.part.activity) c.args.part.minutes in
    rw (c.after_driving-day.ensures, day_start, c.after_rest.ensures, c.after_driving-week.ensures, c.driving_in-driving.ensures)
    (omega (arith, k.start), omega (arith, c.requires.0.last), omega (arith, c.requires.0.weekly))

pub returns-in-Rest : goal.returns-in-Rest
unfolding part_after rest_part
returns-in-Rest c = simp (c.in-Rest.is, c.at_minute.ensures)

pub returns-in-Availability : goal.returns-in-Availability
unfolding part_after busy_part
returns-in-Availability c = simp (
  no_rest c.in-Availability.is,
  c.at_minute-in-Availability.ensures,
  c.breaches_after-first.ensures.broken,
  c.breaches_after-first.ensures.first,
  c.broken_at-here.ensures,
  c.accumulated_more-accumulated.ensures,
  c.rested_for.ensures,
  c.after_driving-week.ensures,
  c.after_driving-day.ensures,
  c.after_rest.ensures,
  c.driving_in-driving.ensures,
)
