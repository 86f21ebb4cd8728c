-- `verdict_breach::rests_of` meets its contract. Assumes nothing.
use native.Mathlib.Omega.{arith}
use Rattle.verdict_breach.proofs.Slices.{in_front}
use Rattle.verdict_breach.proofs.rests_of.Goals as goal

pub returns : goal.returns
returns c = in_front c.survey_of-found.ensures c.args.recording.within (omega arith) c.smallest_rule.ensures c.requires
