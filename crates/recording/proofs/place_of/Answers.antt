-- `recording::place_of` meets its contract. Assumes nothing.
use native.Mathlib.Omega.{arith}
use Rattle.recording.proofs.Scanning.{start_walking, run_fits, walk_run, walk_done}
use Rattle.recording.proofs.place_of.Goals as goal

pub loop-word-init : goal.loop-word-init
loop-word-init c = rw c.origin-place.ensures (start_walking _ c.requires)

pub after-place-requires : goal.after-place-requires
after-place-requires c = run_fits c.loop-word.invariant c.loop-word-test.true c.from.ensures

pub loop-word-preserved : goal.loop-word-preserved
loop-word-preserved c = walk_run c.loop-word.invariant c.loop-word-test.true c.from.ensures c.after-place.ensures

pub returns : goal.returns
returns c = walk_done c.loop-word.invariant (omega arith)
