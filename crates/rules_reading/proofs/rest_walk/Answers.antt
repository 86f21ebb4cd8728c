-- `rules_reading::rest_walk` meets its contract. Assumes nothing.
use Rattle.std.proofs.Common.{arith}
use Rattle.rules_reading.proofs.WalkLaws.{laid_in, walk_start, too_short, walk_on, walk_through, compensate_room}
use Rattle.rules_reading.proofs.rest_walk.Goals as goal

pub loop-i-init : goal.loop-i-init
loop-i-init c = walk_start _ _ _ _ _ _ _ _ (laid_in c.args.rests _ _ c.requires.entries c.requires.room) c.requires.zeros c.requires.fresh

pub returns-then-not-is_long_enough : goal.returns-then-not-is_long_enough
returns-then-not-is_long_enough c = let e = c.item_at-x.ensures in
    too_short _ _ _ _ _ _ c.loop-i.invariant c.loop-i-test.true (rw e at c.as_read-r.ensures) (rw e at c.is_long_enough.ensures) c.if-not-is_long_enough.true

pub compensate-requires : goal.compensate-requires
compensate-requires c = let e = c.item_at-x.ensures in
    compensate_room _ _ _ _ _ _ c.loop-i.invariant c.loop-i-test.true (rw e at c.as_read-r.ensures) (rw e at c.is_long_enough.ensures) c.if-not-is_long_enough.false c.reduction.ensures

pub loop-i-preserved : goal.loop-i-preserved
loop-i-preserved c = let e = c.item_at-x.ensures in
    walk_on _ _ _ _ _ _ c.loop-i.invariant c.loop-i-test.true (rw e at c.as_read-r.ensures) (rw e at c.is_long_enough.ensures) c.if-not-is_long_enough.false
    (rw (c.args.rests.ends_too, e) at c.end_of.ensures)
    (rw e at c.after-tally.ensures) (rw e at c.count.ensures.weekly) (rw e at c.count.ensures.regular) c.reduction.ensures (rw e at c.compensate.ensures)

pub returns : goal.returns
returns c = walk_through _ _ _ _ _ _ c.loop-i.invariant (omega arith) (omega arith)
