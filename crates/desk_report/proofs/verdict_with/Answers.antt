-- `desk_report::verdict_with` meets its contract. Assumes nothing.
use lib.ListN.{length-replicate}
use Rattle.desk_report.proofs.Answered.{blank, passed_text, refused_alike}
use Rattle.desk_report.proofs.verdict_with.Goals as goal

pub unread_page-requires : goal.unread_page-requires
unread_page-requires g c = (c.requires.0, refused_alike c.args.words.now g.row.BYTES c.requires.1 (length-replicate g.row.BYTES 0) c.in-Err.ensures.answer)

pub pass_page-requires : goal.pass_page-requires
pass_page-requires g c = (c.requires.0, (passed_text c.args.words.now (blank g.row.BYTES) c.in-Ok.ensures.answer c.in-Ok.ensures.reading_after).read)

pub returns-in-Ok : goal.returns-in-Ok
returns-in-Ok g c = rw (passed_text c.args.words.now (blank g.row.BYTES) c.in-Ok.ensures.answer c.in-Ok.ensures.reading_after).text c.pass_page.ensures
