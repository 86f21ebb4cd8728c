-- `text::split_run` meets its contract. Assumes nothing.
use mathlib.Core.Path.{sym, ◌∙◌}
use native.Mathlib.Omega.{arith}
use Rattle.recording.specs.Words.{code_of}
use Rattle.text.proofs.WordsInFront.{minutes_more, words_more, no_minutes_more, no_words_more, first_words, none_more, minutes_within}
use Rattle.text.proofs.split_run.Goals as goal
use Rattle.text.proofs.split_run.Goals.{in-Some+then-ne, in_default}

pub overflow_add-minutes : goal.overflow_add-minutes
overflow_add-minutes c =
    let more = minutes_more c.from-activity.result.activity c.in-Some.ensures.cases.0 c.from-run.ensures c.if-ne.ensures in
    omega (arith, c.loop-word.invariant.0, more, minutes_within (code_of c.from-activity.result.activity) c.args.words.now, c.requires)

pub loop-word-preserved : goal.loop-word-preserved
loop-word-preserved c =
    let more = minutes_more c.from-activity.result.activity c.in-Some.ensures.cases.0 c.from-run.ensures c.if-ne.ensures in (
      omega (arith, c.loop-word.invariant.0, more),
      c.loop-word.invariant.1 ∙ words_more c.from-activity.result.activity c.in-Some.ensures.cases.0 c.from-run.ensures c.if-ne.ensures,
    )

pub returns : goal.returns
returns c =
    let a = c.from-activity.result.activity in
    let moved = first_words c.in_ok-first.ensures.cases.0 c.from-activity.ensures in
    elim c.match-split_first.branch [
      | in-Some+then-ne w ↦
          let e = w.in-Some.ensures.cases.0 in
          record {
            moved = moved;
            minutes = omega (arith, c.loop-word.invariant.0, no_minutes_more a e w.from-run.ensures w.if-ne.ensures);
            after_is = sym (c.loop-word.invariant.1 ∙ no_words_more a e w.from-run.ensures w.if-ne.ensures);
          }
      | in_default w ↦
          let none = none_more (code_of a) c.loop-word.rest.now w.in_default.ensures.cases in
          record { moved = moved; minutes = omega (arith, c.loop-word.invariant.0, none.0); after_is = sym (c.loop-word.invariant.1 ∙ none.1) }
    ]
