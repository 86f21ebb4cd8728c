-- `verdict_nogoods::store` meets its contract. Assumes nothing.
use Rattle.std.proofs.Common.{arith, refl}
use Rattle.verdict_completion.specs.Completable.{at}
use Rattle.verdict_nogoods.specs.Table.{level_at}
use Rattle.verdict_nogoods.proofs.TableLaws.{stored}
use Rattle.verdict_nogoods.proofs.store.Goals as goal

pub returns : goal.returns
returns c = stored c.args.table.now c.write.new.words c.args.outstanding.now c.args.j (at c.args.table.now (level_at c.args.j)) c.one_more.result c.args.here
    (omega (arith, c.if-table-j.false)) c.write.auto.words refl c.one_more.ensures c.write.ensures
