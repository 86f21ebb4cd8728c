-- `desk_report::card_page` meets its contract. Assumes nothing.
use native.Mathlib.Omega.{arith}
use lib.ListN.{length}
use Rattle.card_reader.specs.Reading.{card_read}
use Rattle.desk_report.specs.Printed.{shows_spans}
use Rattle.desk_report.specs.Composing.{card_words}
use Rattle.desk_report.proofs.Answered.{blank, within_words, card_read_law}
use Rattle.desk_report.proofs.card_page.Goals as goal

pub read_page-requires : goal.read_page-requires
read_page-requires c =
    let told = c.read_card-answer.ensures in
    (c.requires.0, within_words (card_read c.args.bytes.now (length (blank card_words))) card_words c.read_card-answer.result told.answer told.words_after)

pub returns : goal.returns
returns c =
    let told = c.read_card-answer.ensures in
    rw (card_read_law c.args.bytes.now card_words c.requires.1 (omega arith) c.read_card-answer.result told.answer told.words_after (shows_spans c.args.shown)) c.read_page.ensures
