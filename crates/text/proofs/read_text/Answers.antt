-- `text::read_text` meets its contract. Assumes nothing.
use native.Mathlib.Omega.{arith}
use Rattle.text.proofs.FormLaws.{none_formed, some_formed, few_words_read, not_formed, few_lent, all_read}
use Rattle.text.proofs.read_text.Goals as goal

pub returns-in_default : goal.returns-in_default
returns-in_default c =
    let k = not_formed c.args.text.now c.args.words.now (none_formed _ _ c.in_default.ensures) in
    record { answer = k.answer; words_after = k.content }

pub returns-then-words-runs : goal.returns-then-words-runs
returns-then-words-runs c =
    let formed = some_formed _ _ c.in-Some.ensures in
    let k = few_lent c.args.text.now c.args.words.now formed.0 formed.1 c.if-words-runs.true in
    record { answer = k.answer; words_after = k.content }

pub overflow_cast-result : goal.overflow_cast-result
overflow_cast-result c =
    let formed = some_formed _ _ c.in-Some.ensures in
    omega (arith, formed.1, few_words_read c.args.text.now formed.0)

pub returns : goal.returns
returns c =
    let formed = some_formed _ _ c.in-Some.ensures in
    let k = all_read c.args.text.now c.args.words.now formed.0 formed.1 c.if-words-runs.false c.put_words.ensures in
    record { answer = k.answer; words_after = k.content }
