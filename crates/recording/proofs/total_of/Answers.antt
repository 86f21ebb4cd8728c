-- `recording::total_of` meets its contract. Assumes nothing.
use mathlib.Core.Path.{sym, ap, ◌∙◌}
use native.Mathlib.Omega.{arith}
use Rattle.recording.specs.Answers.{answer_of}
use Rattle.recording.proofs.WordLaws.{total_after_on, total_after_fault, total_done}
use Rattle.recording.proofs.total_of.Goals as goal

pub loop-word-preserved : goal.loop-word-preserved
loop-word-preserved c =
    let s = total_after_on c.args.words.now c.loop-word.total c.loop-word.word-index c.loop-word-test.true (sym c.total_after.ensures ∙ ap answer_of c.in-Ok.is) in
    (s.0, c.loop-word.invariant.1 ∙ s.1)

pub returns-in-Err : goal.returns-in-Err
returns-in-Err c =
    sym (c.loop-word.invariant.1
    ∙ total_after_fault c.args.words.now c.loop-word.total c.loop-word.word-index c.loop-word-test.true (sym c.total_after.ensures ∙ ap answer_of c.in-Err.is))

pub returns-after-loop-word : goal.returns-after-loop-word
returns-after-loop-word c = sym (c.loop-word.invariant.1 ∙ total_done c.args.words.now _ c.loop-word.word-index (omega arith))
