-- `desk_report::pass_page` meets its contract. Assumes nothing.
use native.Mathlib.Omega.{arith}
use Rattle.recording.specs.Scan.{short_rests}
use Rattle.desk_report.proofs.Answered.{roomy_few, roomy_all}
use Rattle.desk_report.proofs.pass_page.Goals as goal

pub pass_with-requires : goal.pass_with-requires
pass_with-requires c = (c.requires.0, c.requires.1, roomy_few c.args.words.now c.requires.1 short_rests (omega arith) (omega arith))

pub pass_with-requires-2 : goal.pass_with-requires-2
pass_with-requires-2 c = (c.requires.0, c.requires.1, roomy_all c.args.words.now c.requires.1)
