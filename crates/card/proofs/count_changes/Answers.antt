-- `card::count_changes` meets its contract. Assumes nothing.
use mathlib.Core.Path.{sym, ◌∙◌}
use native.Mathlib.Omega.{arith}
use Rattle.std.proofs.lemmas.Result.{err_from_is_err_and}
use Rattle.card.proofs.Putting.{run_within, count_within, count_on, count_fault, count_part, count_done}
use Rattle.card.proofs.count_changes.Goals as goal

pub returns-in_err-total : goal.returns-in_err-total
returns-in_err-total c =
    let p = err_from_is_err_and c.from_residual.result c.from_residual.ensures.1 in
    rw (p.1, p.2) (count_fault c.loop-word.invariant c.loop-word-test.true c.in_err-total.ensures)

pub changes_in_run-changes-requires : goal.changes_in_run-changes-requires
changes_in_run-changes-requires c =
    let k = run_within c.loop-word.invariant c.loop-word-test.true c.in_ok-total.ensures c.from-run.ensures in
    (omega arith, k.some, k.most)

pub overflow_add-changes : goal.overflow_add-changes
overflow_add-changes c =
    let k = count_within c.loop-word.invariant c.loop-word-test.true c.in_ok-total.ensures c.from-run.ensures c.changes_in_run-changes.ensures in
    omega (arith, k.changes_few, k.total_few)

pub loop-word-preserved : goal.loop-word-preserved
loop-word-preserved c = count_on c.loop-word.invariant c.loop-word-test.true c.in_ok-total.ensures c.from-run.ensures c.changes_in_run-changes.ensures

pub returns-then-sum-ne0 : goal.returns-then-sum-ne0
returns-then-sum-ne0 c = count_part c.loop-word.invariant (omega arith) c.if-sum-ne0.true

pub returns : goal.returns
returns c = count_done c.loop-word.invariant (omega arith) c.if-sum-ne0.false
