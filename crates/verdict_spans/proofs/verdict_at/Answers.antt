-- `verdict_spans::verdict_at` meets its contract. Assumes nothing.
use mathlib.Core.Path.{sym, ap, ◌∙◌}
use mathlib.Core.List.{List}
use Prim.Native.Nat.{ℕ}
use native.Mathlib.Omega.{arith}
use Rattle.recording.specs.Answers.{answered}
use Rattle.rules.specs.Verdict.{verdict}
use Rattle.rules.specs.Operations.{finding_of}
use Rattle.verdict_spans.proofs.Seats.{seat_room, from_seat, seat_total, seat_limit}
use Rattle.verdict_spans.proofs.verdict_at.Goals as goal

pub bounds-words-index : goal.bounds-words-index
bounds-words-index c = c.requires.2.there

pub overflow_sub-minute : goal.overflow_sub-minute
overflow_sub-minute c = c.requires.2.begun

pub word_after-head-requires : goal.word_after-head-requires
word_after-head-requires c = omega (arith, c.requires.2.within, c.requires.2.begun)

pub overflow_sub-total : goal.overflow_sub-total
overflow_sub-total c = omega (arith, seat_room c.requires.2, c.requires.1)

pub invariant_of-recording : goal.invariant_of-recording
invariant_of-recording c = let w = c.word_after-head.ensures in record { within = seat_limit c.requires.2 _ w.0 w.1 c.requires.0 }

pub verdict_from-requires : goal.verdict_from-requires
verdict_from-requires c = let w = c.word_after-head.ensures in seat_total c.requires.2 _ w.0 w.1 c.requires.1

pub returns : goal.returns
returns c = let w = c.word_after-head.ensures in record {
  answer = c.verdict_from.ensures.answer ∙ ap (λ (l : List ℕ). answered (finding_of (verdict l))) (sym (from_seat c.requires.2 _ w.0 w.1));
  lent = c.verdict_from.ensures.lent;
}
