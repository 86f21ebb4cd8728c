-- `verdict_nogoods::write` meets its contract. Assumes nothing.
use Rattle.std.proofs.Common.{List, ℕ, arith, subst, sym}
use Rattle.verdict_nogoods.specs.Table.{Written}
use Rattle.verdict_nogoods.proofs.TableLaws.{count_all, written}
use Rattle.verdict_nogoods.proofs.write.Goals as goal

pub put_state-requires-clause-few : goal.put_state-requires-clause-few
put_state-requires-clause-few c = omega (arith, c.requires.few, c.put_reductions-n.ensures.count, count_all c.args.outstanding.now)

pub returns : goal.returns
returns c = subst (λ (t : List ℕ). Written c.args.words.now t c.args.p c.args.here c.args.outstanding.now) (sym c.put_state.ensures)
    (written c.args.words.now c.put_reductions-n.new.words c.args.outstanding.now c.args.p c.put_reductions-n.result c.args.here
    (omega (arith, c.requires.entry, c.put_reductions-n.auto.words))
    (omega (arith, c.requires.few, c.put_reductions-n.ensures.count, count_all c.args.outstanding.now))
    c.put_reductions-n.ensures)
