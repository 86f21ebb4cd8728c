-- `verdict::verdict_within` meets its contract. Assumes nothing.
use mathlib.Core.Path.{sym, ap, ◌∙◌}
use lib.ListN.{length}
use Rattle.recording.specs.Answers.{answered}
use Rattle.rules.specs.Verdict.{verdict}
use Rattle.rules.specs.Operations.{finding_of}
use Rattle.verdict_judging.proofs.Answers.{within_alone, total_is, verdict_found, from_words}
use Rattle.verdict.proofs.verdict_within.Goals as goal

pub invariant_of-recording : goal.invariant_of-recording
invariant_of-recording c = record { within = within_alone c.args.words.now c.requires }

pub verdict_from-requires : goal.verdict_from-requires
verdict_from-requires c = total_is c.args.words.now c.requires ∙ sym (ap length (from_words c.args.words.now))

pub returns : goal.returns
returns c = record {
  answer = verdict_found c.args.words.now c.requires (c.verdict_from.ensures.answer ∙ ap (λ ms. answered (finding_of (verdict ms))) (from_words c.args.words.now));
  lent = c.verdict_from.ensures.lent;
}
