-- `verdict_fronts::put_entry` meets its contract. Assumes nothing.
use Rattle.std.proofs.Common.{◌+◌, ◌-◌, arith}
use Rattle.verdict_fronts.specs.Front.{entry_at}
use Rattle.verdict_fronts.proofs.FrontLaws.{dropped, appended, copied_in, put_length}
use Rattle.verdict_fronts.proofs.put_entry.Goals as goal

pub returns-then-dominated : goal.returns-then-dominated
returns-then-dominated c = dropped (omega arith) (c.dominated.ensures c.if-dominated.true)

pub returns : goal.returns
returns c = let t = c.remove_dominated-left.new.front in
    let p = entry_at c.remove_dominated-left.result in
    rw c.copy_from_slice.ensures.after (appended c.remove_dominated-left.ensures
    (omega (arith, c.if-front-left.false, put_length t c.args.new.now p (p + 15 - p) (omega arith) (omega arith) c.requires.1))
    (copied_in t c.args.new.now p (p + 15 - p) (omega arith) (omega arith) c.requires.1))
