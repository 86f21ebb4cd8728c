-- `verdict_spans::seat_before` meets its contract. Assumes nothing.
use native.Mathlib.Omega.{arith}
use Rattle.verdict_spans.proofs.Seats.{seat_some, seat_within, seat_back, seat_found}
use Rattle.verdict_spans.proofs.seat_before.Goals as goal

pub loop-start-init : goal.loop-start-init
loop-start-init c = (c).requires.0

pub overflow_sub-index : goal.overflow_sub-index
overflow_sub-index c = omega (arith, seat_some c.loop-start.invariant c.loop-start-test.true)

pub bounds-words-index : goal.bounds-words-index
bounds-words-index c = omega (arith, seat_some c.loop-start.invariant c.loop-start-test.true, c.loop-start.invariant.there)

pub overflow_sub-start : goal.overflow_sub-start
overflow_sub-start c = seat_within c.loop-start.invariant c.loop-start-test.true

pub loop-start-smaller : goal.loop-start-smaller
loop-start-smaller c = omega (arith, seat_some c.loop-start.invariant c.loop-start-test.true)

pub loop-start-preserved : goal.loop-start-preserved
loop-start-preserved c = seat_back c.loop-start.invariant c.loop-start-test.true

pub returns : goal.returns
returns c = seat_found c.loop-start.invariant (omega arith) c.requires.1
