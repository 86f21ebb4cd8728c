-- `verdict_first_reading::place` meets its contract. Assumes nothing.
use mathlib.Core.Path.{refl, ap}
use Rattle.verdict_completion.specs.Courses.{course_with}
use Rattle.verdict_completion.proofs.Courses.{lies_with}
use Rattle.verdict_merging.proofs.Merging.{sound_renewed}
use Rattle.verdict_first_reading.proofs.Stepping.{at_rest, stepped_broken, stepped_short, stepped_as_daily, stepped_weekly, stepped_nowhere}
use Rattle.verdict_first_reading.proofs.place.Goals as goal

pub returns-in_default : goal.returns-in_default
returns-in_default c =
    stepped_broken c.args.rests.now c.args.compensations.now c.requires.limited c.args.j c.args.st c.requires.before c.requires.within c.args.room.now c.args.reading.now
    c.requires.ready c.advance.ensures c.in_default.is c.best.ensures

pub put_daily-requires-clause-rest : goal.put_daily-requires-clause-rest
put_daily-requires-clause-rest c =
    at_rest c.args.rests.now c.args.compensations.now c.requires.limited c.args.j c.args.st c.requires.before c.requires.within c.advance.ensures c.in-Some.is

pub can_be_daily-requires-clause-rest : goal.can_be_daily-requires-clause-rest
can_be_daily-requires-clause-rest c =
    at_rest c.args.rests.now c.args.compensations.now c.requires.limited c.args.j c.args.st c.requires.before c.requires.within c.advance.ensures c.in-Some.is

pub returns-then-rests-j : goal.returns-then-rests-j
returns-then-rests-j c =
    stepped_short c.args.rests.now c.args.compensations.now c.requires.limited c.args.j c.args.st c.requires.before c.requires.within c.advance.ensures c.in-Some.is
    c.args.room.now c.args.reading.now c.put_daily.new.reading c.put_daily.result c.requires.ready c.if-rests-j.true c.put_daily.ensures

pub put_daily-requires-then-can_be_daily-clause-rest : goal.put_daily-requires-then-can_be_daily-clause-rest
put_daily-requires-then-can_be_daily-clause-rest c =
    at_rest c.args.rests.now c.args.compensations.now c.requires.limited c.args.j c.args.st c.requires.before c.requires.within c.advance.ensures c.in-Some.is

pub returns-then-can_be_daily : goal.returns-then-can_be_daily
returns-then-can_be_daily c =
    stepped_as_daily c.args.rests.now c.args.compensations.now c.requires.limited c.args.j c.args.st c.requires.before c.requires.within c.advance.ensures c.in-Some.is
    c.can_be_daily.new.room c.args.reading.now c.put_daily-then-can_be_daily.new.reading c.put_daily-then-can_be_daily.result c.can_be_daily.ensures.told.ready
    (c.can_be_daily.ensures.told.yes c.if-can_be_daily.true) c.put_daily-then-can_be_daily.ensures

pub first_weekly-requires-clause-rest : goal.first_weekly-requires-clause-rest
first_weekly-requires-clause-rest c =
    at_rest c.args.rests.now c.args.compensations.now c.requires.limited c.args.j c.args.st c.requires.before c.requires.within c.advance.ensures c.in-Some.is

pub returns-in_default-first_weekly : goal.returns-in_default-first_weekly
returns-in_default-first_weekly c =
    stepped_nowhere c.args.rests.now c.args.compensations.now c.requires.limited c.args.j c.args.st c.requires.before c.requires.within c.advance.ensures c.in-Some.is
    c.first_weekly.new.room c.args.reading.now c.first_weekly.ensures.ready (c.can_be_daily.ensures.told.no c.if-can_be_daily.false) c.in_default-first_weekly.ensures.first

pub put_weekly-next-requires-clause-rest : goal.put_weekly-next-requires-clause-rest
put_weekly-next-requires-clause-rest c =
    at_rest c.args.rests.now c.args.compensations.now c.requires.limited c.args.j c.args.st c.requires.before c.requires.within c.advance.ensures c.in-Some.is

pub returns : goal.returns
returns c = let rests = c.args.rests.now in
    let p = c.put_weekly-next.new.compensations in
    let ready = c.first_weekly.ensures.ready in
    stepped_weekly rests c.args.compensations.now c.requires.limited c.args.j c.args.st c.requires.before c.requires.within c.advance.ensures c.in-Some.is
    _ c.args.reading.now c.put_weekly-next.new.reading c.put_weekly-next.result p c.in-Some-first_weekly.choice.week c.in-Some-first_weekly.choice.carrier
    (record {
      one_each = ready.one_each;
      sound =
          sound_renewed {c = course_with rests c.args.compensations.now} {d = course_with rests p} (lies_with rests p) refl
          (λ z. ap (course_with rests) (c.put_weekly-next.ensures.kept z)) ready.sound c.renew.ensures;
    })
    (c.can_be_daily.ensures.told.no c.if-can_be_daily.false) c.in-Some-first_weekly.ensures.first c.put_weekly-next.ensures
