-- `verdict_choosing::can_be_daily` meets its contract. Assumes nothing.
use Rattle.verdict_completion.specs.Completable.{at}
use Rattle.verdict_completion.specs.Courses.{course_of}
use Rattle.verdict_completion.proofs.Courses.{lies_with}
use Rattle.verdict_search.proofs.Slots.{before_daily}
use Rattle.verdict_search.proofs.Chain.{too_many, as_daily}
use Rattle.verdict_merging.specs.Merging.{nothing}
use Rattle.verdict_choosing.proofs.Placing.{if_no, if_carry}
use Rattle.verdict_choosing.proofs.can_be_daily.Goals as goal

pub returns-then-next-gt-SHORTENED_AT_MOST-clause-told : goal.returns-then-next-gt-SHORTENED_AT_MOST-clause-told
returns-then-next-gt-SHORTENED_AT_MOST-clause-told c = let r = c.args.course.now in
    let k = course_of r in
    if_no
    (too_many k (lies_with r.rests r.compensations.now) c.args.j c.args.here (nothing k) (at r.compensations.now c.args.j) c.is_short-short.ensures
    c.after_daily-next.ensures c.if-next-gt-SHORTENED_AT_MOST.true)
    c.requires.ready

pub completes_beside-requires-clause-next : goal.completes_beside-requires-clause-next
completes_beside-requires-clause-next c = let r = c.args.course.now in
    before_daily (course_of r) (lies_with r.rests r.compensations.now) c.args.j c.args.here c.is_short-short.result c.after_daily-next.ensures c.requires.rest
    c.if-next-gt-SHORTENED_AT_MOST.false

pub returns-clause-told : goal.returns-clause-told
returns-clause-told c = let r = c.args.course.now in
    let k = course_of r in
    if_carry
    (as_daily k (lies_with r.rests r.compensations.now) c.args.j c.args.here (nothing k) (at r.compensations.now c.args.j) c.is_short-short.ensures
    c.after_daily-next.ensures c.requires.net c.if-next-gt-SHORTENED_AT_MOST.false)
    c.completes_beside.ensures.told
