-- `recording_list::fill` meets its contract. Assumes nothing.
use Rattle.std.proofs.Common.{arith, ◌<◌, length, length-append, length-set}
use Rattle.recording_list.proofs.Filling.{one_more}
use Rattle.recording_list.proofs.fill.Goals as goal

pub loop-item-preserved : goal.loop-item-preserved
loop-item-preserved g c =
    let k = c.loop-item.invariant in
    let t = c.in-Some.ensures.goes.on k.1 in
    let h : length c.loop-item.yielded < length c.args.list.now = omega (arith, k.2, k.3, t.2, c.loop-item.auto.list) in (
      t.0,
      t.1,
      rw length-append (omega (arith, k.2)),
      rw length-set (omega (arith, k.3, t.2)),
      rw (k.4, k.2) (one_more c.loop-item.yielded c.in-Some.item c.args.list.now h),
    )
