-- `verdict_steps::in_rest` meets its contract. Assumes nothing.
use mathlib.Core.Path.{sym}
use Rattle.verdict_steps.proofs.NearRests.{past_rests}
use Rattle.verdict_steps.proofs.in_rest.Goals as goal

pub returns-then-rests-j : goal.returns-then-rests-j
returns-then-rests-j c = let rests = c.args.rests.now in
    sym (past_rests rests.starts.now rests.ends.now _ _ rests.lies.ends_too c.if-rests-j.true)
