-- `card::write_card` meets its contract. Assumes nothing.
use mathlib.Core.Path.{sym, ap, ◌∙◌}
use native.Mathlib.Omega.{arith}
use Rattle.recording.specs.Answers.{answer_of}
use Rattle.card.proofs.Putting.{not_counted, total_few, count_few, few_bytes, all_written}
use Rattle.card.proofs.write_card.Goals as goal

pub returns-in_default : goal.returns-in_default
returns-in_default c =
    let k = not_counted c.args.words.now c.args.bytes.now (sym c.count_changes-counting.ensures ∙ ap answer_of c.unwrap_err.ensures) in
    record { answer = k.answer; bytes_after = k.content }

pub overflow_mul-length : goal.overflow_mul-length
overflow_mul-length c = omega (arith, count_few c.args.words.now c.args.bytes.now (sym c.in-Ok.ensures))

pub returns-then-bytes-length : goal.returns-then-bytes-length
returns-then-bytes-length c =
    let k = few_bytes c.args.words.now c.args.bytes.now (sym c.in-Ok.ensures) c.if-bytes-length.true in
    record { answer = k.answer; bytes_after = k.content }

pub put_days-requires : goal.put_days-requires
put_days-requires c = total_few c.args.words.now c.args.bytes.now (sym c.in-Ok.ensures)

pub returns : goal.returns
returns c =
    let k = all_written c.args.words.now c.args.bytes.now (sym c.in-Ok.ensures) c.if-bytes-length.false c.put_days.ensures in
    record { answer = k.answer; bytes_after = k.content }
