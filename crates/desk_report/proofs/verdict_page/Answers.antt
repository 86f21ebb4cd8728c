-- `desk_report::verdict_page` meets its contract. Assumes nothing.
use native.Mathlib.Omega.{arith}
use Rattle.recording.specs.Scan.{short_rests}
use Rattle.desk_report.proofs.Answered.{fits_few, fits_all}
use Rattle.desk_report.proofs.verdict_page.Goals as goal

pub verdict_with-requires : goal.verdict_with-requires
verdict_with-requires c = (c.requires, fits_few c.args.words.now short_rests (omega arith) (omega arith))

pub verdict_with-requires-2 : goal.verdict_with-requires-2
verdict_with-requires-2 c = (c.requires, fits_all c.args.words.now)
