-- `card_reader::put_words` meets its contract. Assumes nothing.
use mathlib.Core.Path.{refl, ap}
use native.Mathlib.Omega.{arith}
use lib.ListN.{length}
use Rattle.card_reader.proofs.Judging.{changes_count, put_on, put_done}
use Rattle.card_reader.proofs.put_words.Goals as goal

pub overflow_add-at : goal.overflow_add-at
overflow_add-at c = omega (arith, c.loop-change.invariant.few, ap length c.in-Some.ensures.steps, changes_count c.args.bytes.now)

pub loop-change-preserved : goal.loop-change-preserved
loop-change-preserved c = put_on c.loop-change.invariant c.in-Some.ensures.steps c.end_before.ensures.0 c.saturating_sub-minutes.ensures refl c.put.ensures

pub returns : goal.returns
returns c = put_done c.loop-change.invariant c.in_default.ensures.steps.0
