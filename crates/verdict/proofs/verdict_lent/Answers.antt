-- `verdict::verdict_lent` meets its contract. Assumes nothing.
use Rattle.recording.proofs.Listing.{refused_there, measured_there}
use Rattle.verdict_sweep.proofs.Sweeps.{fronts_self}
use Rattle.verdict_judging.proofs.Answers.{verdict_refused}
use Rattle.verdict.proofs.verdict_lent.Goals as goal

pub returns-in_default : goal.returns-in_default
returns-in_default c = record {
  answer = verdict_refused c.args.words.now (refused_there _ c.weigh-weighing.ensures c.unwrap_err.ensures);
  lent = fronts_self;
}

pub verdict_within-requires : goal.verdict_within-requires
verdict_within-requires c = measured_there _ c.weigh-weighing.ensures c.in-Ok.is
