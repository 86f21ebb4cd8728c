-- `verdict::first_reading_lent` meets its contract. Assumes nothing.
use Rattle.recording.proofs.Listing.{refused_there, measured_there}
use Rattle.verdict_sweep.proofs.Sweeps.{fronts_self}
use Rattle.verdict_judging.proofs.Answers.{told_refused}
use Rattle.verdict.proofs.first_reading_lent.Goals as goal

pub reading_within-requires : goal.reading_within-requires
reading_within-requires c = measured_there _ c.weigh-weighing.ensures c.in-Ok.is

pub returns-in_default : goal.returns-in_default
returns-in_default c = let t = told_refused c.args.words.now c.args.reading.now (refused_there _ c.weigh-weighing.ensures c.unwrap_err.ensures) in
    record { answer = t.result; reading_after = t.buffer; lent = fronts_self }
