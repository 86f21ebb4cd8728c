-- `verdict_breach::next_active` meets its contract. Assumes nothing.
use native.Mathlib.Omega.{arith}
use Rattle.verdict_breach.proofs.Actives.{first_on, first_active, next_room, next_on, next_there, all_rested}
use Rattle.verdict_breach.proofs.next_active.Goals as goal

pub returns-in-Some : goal.returns-in-Some
returns-in-Some c = first_active _ _ c.from-run.ensures c.active_in.ensures c.in-Some.is c.requires.0 c.min.ensures

pub loop-word-init : goal.loop-word-init
loop-word-init c = first_on c.from-run.ensures c.active_in.ensures c.in_default.is

pub overflow_add-to : goal.overflow_add-to
overflow_add-to c = record { fits = omega (arith, next_room c.loop-word.invariant c.loop-word-test.true c.from-run-in-loop-word.ensures, c.args.recording.within) }

pub active_in-requires-in-loop-word : goal.active_in-requires-in-loop-word
active_in-requires-in-loop-word c = omega (arith, next_room c.loop-word.invariant c.loop-word-test.true c.from-run-in-loop-word.ensures, c.args.recording.within)

pub returns-in-Some-active_in : goal.returns-in-Some-active_in
returns-in-Some-active_in c =
    next_there c.loop-word.invariant c.loop-word-test.true c.from-run-in-loop-word.ensures c.active_in-in-loop-word.ensures c.in-Some-active_in.is c.requires.0
    c.min-in-Some-active_in.ensures

pub loop-word-preserved : goal.loop-word-preserved
loop-word-preserved c =
    next_on c.loop-word.invariant c.loop-word-test.true c.from-run-in-loop-word.ensures c.active_in-in-loop-word.ensures c.in_default-active_in.is

pub returns : goal.returns
returns c = all_rested c.loop-word.invariant (omega arith) c.requires.0 c.requires.1
