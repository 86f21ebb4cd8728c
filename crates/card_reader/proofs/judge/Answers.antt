-- `card_reader::judge` meets its contract. Assumes nothing.
use mathlib.Core.Path.{ap}
use native.Mathlib.Omega.{arith}
use lib.ListN.{length}
use Rattle.card_reader.proofs.Judging.{changes_count, judge_on, judge_done}
use Rattle.card_reader.proofs.judge.Goals as goal

pub after-found-requires : goal.after-found-requires
after-found-requires c = omega (arith, c.loop-change.invariant.few, ap length c.in-Some.ensures.steps, changes_count c.args.bytes.now)

pub loop-change-preserved : goal.loop-change-preserved
loop-change-preserved c = judge_on c.loop-change.invariant c.in-Some.ensures.steps c.after-found.ensures

pub returns : goal.returns
returns c = judge_done c.loop-change.invariant c.in-None.ensures.steps.0
