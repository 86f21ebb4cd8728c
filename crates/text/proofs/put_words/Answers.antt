-- `text::put_words` meets its contract. Assumes nothing.
use mathlib.Core.Path.{refl, sym, ap, ◌∙◌}
use native.Mathlib.Numerals.{add-one}
use native.Mathlib.Omega.{arith}
use lib.ListN.{length}
use lib.Seq.{sets}
use Rattle.text.proofs.LineAfterLine.{word_on, no_word_on, none_left, text_few}
use Rattle.text.proofs.put_words.Goals as goal

pub overflow_add-at : goal.overflow_add-at
overflow_add-at c = omega (arith, c.loop-line.invariant.1, ap length (word_on c.in-Some.ensures.steps c.in-Run.is), text_few c.args.text.now)

pub loop-line-preserved-in-Run : goal.loop-line-preserved-in-Run
loop-line-preserved-in-Run c = (
  c.loop-line.invariant.0 ∙ ap (sets c.loop-line.words c.loop-line.at) (word_on c.in-Some.ensures.steps c.in-Run.is) ∙ rw (c.put.ensures, add-one) refl,
  omega (arith, c.loop-line.invariant.1, ap length (word_on c.in-Some.ensures.steps c.in-Run.is)),
)

pub loop-line-preserved : goal.loop-line-preserved
loop-line-preserved c = (
  c.loop-line.invariant.0 ∙ ap (sets c.loop-line.words c.loop-line.at) (no_word_on c.in-Some.ensures.steps c.in_default.not-Run),
  omega (arith, c.loop-line.invariant.1, ap length (no_word_on c.in-Some.ensures.steps c.in_default.not-Run)),
)

pub returns : goal.returns
returns c = sym (c.loop-line.invariant.0 ∙ ap (sets c.loop-line.words c.loop-line.at) (none_left c.in-None.ensures.steps.0))
