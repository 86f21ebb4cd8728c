-- `verdict_judging::verdict_among` meets its contract. Assumes nothing.
use mathlib.Core.Path.{sym, ap, ◌∙◌}
use Rattle.recording.specs.Answers.{answered}
use Rattle.recording.specs.Words.{minutes_of}
use Rattle.recording.specs.Scan.{words_in}
use Rattle.verdict_sweep.proofs.Sweeps.{fronts_on}
use Rattle.verdict_breach.proofs.Lawfulness.{whole_rests, whole_lawful}
use Rattle.verdict_breach.proofs.Slices.{roomy}
use Rattle.verdict_judging.proofs.Answers.{none_is, lawful_found}
use Rattle.verdict_judging.proofs.verdict_among.Goals as goal

pub rests_of-found-requires : goal.rests_of-found-requires
rests_of-found-requires g c = roomy _ _ c.requires.1

pub invariant_of-rests : goal.invariant_of-rests
invariant_of-rests g c =
    let r = whole_rests c.rests_of-found.ensures.whole c.args.recording.within in
    record { lies = r.0; few = r.1; low = r.2 }

pub returns-then-asked : goal.returns-then-asked
returns-then-asked g c = let asked = c.lawful_by-asked.ensures in record {
  answer = lawful_found _ (sym c.if-asked.true ∙ whole_lawful c.rests_of-found.ensures.whole c.args.recording.within asked.says);
  lent = asked.lent;
}

pub breach_of-breach-requires : goal.breach_of-breach-requires
breach_of-breach-requires g c =
    let whole = c.rests_of-found.ensures.whole in (
      whole.rests,
      c.requires.0,
      whole.first,
      none_is (minutes_of (words_in c.args.recording)) (sym c.if-asked.false ∙ whole_lawful whole c.args.recording.within c.lawful_by-asked.ensures.says),
    )

pub returns : goal.returns
returns g c = record {
  answer = ap answered c.breach_of-breach.ensures.breach;
  lent = fronts_on c.lawful_by-asked.ensures.lent c.breach_of-breach.ensures.lent;
}
