-- `rules_nets::put_nets` meets its contract. Assumes nothing.
use native.Mathlib.Omega.{arith}
use Rattle.recording.proofs.Scanning.{origin_fits, next_fits}
use Rattle.rules_nets.proofs.NetWalk.{first_run_noting, next_run_noting, note_done}
use Rattle.rules_nets.proofs.put_nets.Goals as goal

pub after-place-requires : goal.after-place-requires
after-place-requires c = origin_fits _ c.args.recording.words.now c.args.recording.within c.from.ensures c.origin.ensures

pub loop-word-init : goal.loop-word-init
loop-word-init c = rw c.beginning-day.ensures (first_run_noting _ c.args.recording.within c.from.ensures c.origin.ensures c.after-place.ensures)

pub after-day-requires : goal.after-day-requires
after-day-requires c = let inv = c.loop-word.invariant in (inv.begun, inv.walking.from, omega (arith, inv.walking.room))

pub after-place-requires-in-loop-word : goal.after-place-requires-in-loop-word
after-place-requires-in-loop-word c = next_fits c.loop-word.invariant.walking c.loop-word-test.true c.from-run.ensures

pub loop-word-preserved : goal.loop-word-preserved
loop-word-preserved c =
    next_run_noting c.loop-word.invariant c.loop-word-test.true c.from-run.ensures c.after-place-in-loop-word.ensures c.after-day.ensures.day c.after-day.ensures.nets

pub returns : goal.returns
returns c = note_done c.loop-word.invariant (omega arith)
