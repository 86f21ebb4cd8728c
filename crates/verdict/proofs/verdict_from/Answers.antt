-- `verdict::verdict_from` meets its contract. Assumes nothing.
use native.Mathlib.Omega.{arith}
use Rattle.recording.proofs.LongRests.{few_rests, few_short}
use Rattle.recording.specs.Words.{minutes_of}
use Rattle.recording.specs.Scan.{words_in}
use Rattle.verdict.proofs.verdict_from.Goals as goal

pub verdict_among-requires : goal.verdict_among-requires
verdict_among-requires c =
    (c.requires, few_short (minutes_of (words_in c.args.recording)) (omega (arith, c.if-total-le-SHORT_TOTAL.true, c.requires)), omega arith)

pub verdict_among-requires-2 : goal.verdict_among-requires-2
verdict_among-requires-2 c = (c.requires, few_rests (minutes_of (words_in c.args.recording)) c.args.recording.within, omega arith)
