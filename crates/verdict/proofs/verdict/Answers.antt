-- `verdict::verdict` meets its contract. Assumes nothing.
use Rattle.recording.proofs.Listing.{refused_there, measured_there}
use Rattle.verdict_judging.proofs.Answers.{verdict_refused}
use Rattle.verdict.proofs.verdict.Goals as goal

pub returns-in_default : goal.returns-in_default
returns-in_default c = verdict_refused c.args.words.now (refused_there _ c.weigh-weighing.ensures c.unwrap_err.ensures)

pub verdict_in_room-requires : goal.verdict_in_room-requires
verdict_in_room-requires c = measured_there _ c.weigh-weighing.ensures c.in-Ok.is
