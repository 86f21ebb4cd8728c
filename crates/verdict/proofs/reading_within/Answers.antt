-- `verdict::reading_within` meets its contract. Assumes nothing.
use native.Mathlib.Omega.{arith}
use Rattle.recording.proofs.LongRests.{few_rests, few_short}
use Rattle.recording.specs.Words.{minutes_of}
use Rattle.verdict_judging.proofs.Answers.{within, total_is}
use Rattle.verdict.proofs.reading_within.Goals as goal

pub reading_among-requires : goal.reading_among-requires
reading_among-requires c = (
  c.requires,
  few_short (minutes_of c.args.words.now) (omega (arith, c.if-measure-le-SHORT_TOTAL.true, total_is c.args.words.now c.requires)),
  omega arith,
)

pub reading_among-requires-2 : goal.reading_among-requires-2
reading_among-requires-2 c = (c.requires, few_rests (minutes_of c.args.words.now) (within c.args.words.now c.requires), omega arith)
