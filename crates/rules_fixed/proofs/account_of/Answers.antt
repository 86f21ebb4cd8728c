-- `rules_fixed::account_of` meets its contract. Assumes nothing.
use Rattle.rules_fixed.proofs.Surveying.{start_walking, run_fits, walk_on, next_words, walk_done}
use Rattle.rules_fixed.proofs.account_of.Goals as goal

pub walk-init : goal.walk-init
walk-init c = rw c.opening-account.ensures (start_walking _ _ c.args.recording.within)

pub run-account-requires : goal.run-account-requires
run-account-requires c = run_fits c.walk.invariant c.from-run.ensures c.min-minutes.ensures

pub walk-preserved : goal.walk-preserved
walk-preserved c = next_words c.in-Some.ensures.cases.0 (walk_on c.walk.invariant c.from-run.ensures c.min-minutes.ensures c.run-account.ensures)

pub returns : goal.returns
returns c = walk_done c.walk.words.now (walk_on c.walk.invariant c.from-run.ensures c.min-minutes.ensures c.run-account.ensures) c.in_default.ensures.cases
