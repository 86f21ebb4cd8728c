-- `card::put_days` meets its contract. Assumes nothing.
use mathlib.Core.Path.{refl, sym, ◌∙◌}
use native.Mathlib.Omega.{arith}
use Rattle.card.proofs.Putting.{from_here, further, run_done, part_on, fetch_on, put_two, put_none, put_done, none_to_put}
use Rattle.card.proofs.put_days.Goals as goal
use Rattle.card.proofs.put_days.Goals.{then-is_written, else-is_written}

pub loop-left-init : goal.loop-left-init
loop-left-init c = from_here (fetch_on c.args.words.now c.loop-word.invariant c.loop-word-test.true c.from-run.ensures)

pub loop-left-preserved : goal.loop-left-preserved
loop-left-preserved c = part_on c.loop-left.invariant c.loop-left-test.true c.min-part.ensures (elim c.if-is_written.branch [
  | then-is_written w ↦ rw (w.bytes-is, w.at-is) (put_two _ _ _ (sym w.if-is_written.true ∙ c.is_written.ensures) w.change_of-change.ensures.0 w.put.ensures w.put-then-is_written.ensures)
  | else-is_written w ↦ rw (w.bytes-is, w.at-is) (put_none _ _ _ (sym w.if-is_written.false ∙ c.is_written.ensures))
])

pub loop-word-preserved : goal.loop-word-preserved
loop-word-preserved c = run_done (further (fetch_on c.args.words.now c.loop-word.invariant c.loop-word-test.true c.from-run.ensures) c.loop-left.invariant) c.loop-left-test.false

pub returns : goal.returns
returns c = put_done c.loop-word.invariant refl (none_to_put c.args.words.now c.loop-word.word-index (omega arith))
