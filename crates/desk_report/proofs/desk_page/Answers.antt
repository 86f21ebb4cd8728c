-- `desk_report::desk_page` meets its contract. Assumes nothing.
use native.Mathlib.Omega.{arith}
use lib.ListN.{length}
use Rattle.text_lines.specs.Reading.{text_read}
use Rattle.desk_report.specs.Printed.{shows_spans}
use Rattle.desk_report.specs.Composing.{text_words}
use Rattle.desk_report.proofs.Answered.{blank, within_words, desk_read}
use Rattle.desk_report.proofs.desk_page.Goals as goal

pub read_page-requires : goal.read_page-requires
read_page-requires c =
    let told = c.read_text-answer.ensures in
    (c.requires.0, within_words (text_read c.args.text.now (length (blank text_words))) text_words c.read_text-answer.result told.answer told.words_after)

pub returns : goal.returns
returns c =
    let told = c.read_text-answer.ensures in
    rw (desk_read c.args.text.now text_words c.requires.1 (omega arith) c.read_text-answer.result told.answer told.words_after (shows_spans c.args.shown)) c.read_page.ensures
