-- `text::write_text` meets its contract. Assumes nothing.
use mathlib.Core.Path.{sym, ap}
use borrow.Author.Rules.{rules}
use Rattle.recording.proofs.Listing.{refused_there}
use Rattle.text.proofs.WritingLaws.{measured_writable, not_measured, few_bytes, all_written}
use Rattle.text.proofs.write_text.Goals as goal

pub returns-in_default : goal.returns-in_default
returns-in_default c =
    let k = not_measured c.args.words.now c.args.text.now (refused_there c.args.words.now c.weigh-weighing.ensures c.unwrap_err.ensures) in
    record { answer = k.answer; text_after = k.content }

pub put_recording-requires : goal.put_recording-requires
put_recording-requires c = (measured_writable c.args.words.now (sym c.in-Ok.ensures), c.new-measured.ensures.length)

pub returns-then-text-length : goal.returns-then-text-length
returns-then-text-length c =
    let k = few_bytes c.args.words.now c.args.text.now (sym c.in-Ok.ensures) c.new-measured.ensures.length c.put_recording.ensures.text c.if-text-length.true in
    record { answer = k.answer; text_after = k.content }

pub put_recording-requires-2 : goal.put_recording-requires-2
put_recording-requires-2 c = (measured_writable c.args.words.now (sym c.in-Ok.ensures), c.new.ensures.length)

pub returns : goal.returns
returns c =
    let k = all_written c.args.words.now c.args.text.now (sym c.in-Ok.ensures) c.new-measured.ensures.length c.put_recording.ensures.text c.if-text-length.false
    (ap (λ b. b.now) c.new.ensures.bytes) c.new.ensures.length c.put_recording-2.ensures.text in
    record { answer = k.answer; text_after = search (rules, k.content) }
