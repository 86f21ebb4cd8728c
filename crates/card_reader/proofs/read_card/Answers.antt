-- `card_reader::read_card` meets its contract. Assumes nothing.
use native.Mathlib.Omega.{arith}
use Rattle.card_reader.proofs.Judging.{odd_count, out_of_order, some_unknown, too_long, few_words, no_refusal, turned_away, taken_there, all_read}
use Rattle.card_reader.proofs.read_card.Goals as goal
use Rattle.card_reader.proofs.read_card.Goals.{then-size-ne0-via-then-size-ne0, then-size-ne0-via-else-size-ne0+then-not-found}

pub returns-then-size-ne0 : goal.returns-then-size-ne0
returns-then-size-ne0 c =
    let k = turned_away c.args.bytes.now c.args.words.now c.judge-found.ensures 11 (elim c.then-size-ne0.branch [
      | then-size-ne0-via-then-size-ne0 w ↦ odd_count _ _ _ w.if-size-ne0.true
      | then-size-ne0-via-else-size-ne0+then-not-found w ↦ out_of_order _ _ _ w.if-size-ne0.false w.if-not-found.true
    ]) (omega arith) in
    record { answer = k.answer; words_after = k.content }

pub returns-then-not-found-2 : goal.returns-then-not-found-2
returns-then-not-found-2 c =
    let k = turned_away c.args.bytes.now c.args.words.now c.judge-found.ensures 12 (some_unknown _ _ _ c.if-size-ne0.false c.if-not-found.false c.if-not-found-2.true) (omega arith) in
    record { answer = k.answer; words_after = k.content }

pub returns-then-found-gt-DAYS_AT_MOST : goal.returns-then-found-gt-DAYS_AT_MOST
returns-then-found-gt-DAYS_AT_MOST c =
    let long = too_long _ _ _ c.if-size-ne0.false c.if-not-found.false c.if-not-found-2.false c.if-found-gt-DAYS_AT_MOST.true in
    let k = turned_away c.args.bytes.now c.args.words.now c.judge-found.ensures 2 long (omega arith) in
    record { answer = k.answer; words_after = k.content }

pub returns-then-words-size : goal.returns-then-words-size
returns-then-words-size c =
    let few = few_words _ _ _ c.if-size-ne0.false c.if-not-found.false c.if-not-found-2.false c.if-found-gt-DAYS_AT_MOST.false c.if-words-size.true in
    let k = turned_away c.args.bytes.now c.args.words.now c.judge-found.ensures 9 few (omega arith) in
    record { answer = k.answer; words_after = k.content }

pub overflow_cast-result : goal.overflow_cast-result
overflow_cast-result c =
    let none = no_refusal _ _ _ c.if-size-ne0.false c.if-not-found.false c.if-not-found-2.false c.if-found-gt-DAYS_AT_MOST.false c.if-words-size.false in
    let k = taken_there c.args.bytes.now c.args.words.now c.judge-found.ensures none in
    omega (arith, k.few)

pub returns : goal.returns
returns c =
    let none = no_refusal _ _ _ c.if-size-ne0.false c.if-not-found.false c.if-not-found-2.false c.if-found-gt-DAYS_AT_MOST.false c.if-words-size.false in
    let k = all_read c.args.bytes.now c.args.words.now c.judge-found.ensures none c.put_words.ensures in
    record { answer = k.answer; words_after = k.content }
