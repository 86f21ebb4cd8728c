-- `verdict_reading::reading_among` meets its contract. Assumes nothing.
use native.Mathlib.Omega.{arith}
use mathlib.Core.Path.{refl, sym, ◌∙◌}
use mathlib.Core.Logic.{inl}
use Rattle.verdict_judging.proofs.Answers.{within_alone, fits_alone, alone, count_few, rests_there, asked_there, least_there, told_short, told_none, told_pass, front_reading}
use Rattle.verdict_sweep.proofs.Sweeps.{fronts_self, fronts_on}
use Rattle.verdict_breach.proofs.Lawfulness.{reading_there}
use Rattle.verdict_breach.proofs.Slices.{roomy}
use Rattle.verdict_reading.proofs.reading_among.Goals as goal

pub returns-then-reading-size : goal.returns-then-reading-size
returns-then-reading-size g c = let t = told_short c.args.words.now c.args.reading.now c.requires.0 c.if-reading-size.true in record { answer = t.result; reading_after = t.buffer; lent = fronts_self }

pub invariant_of-recording : goal.invariant_of-recording
invariant_of-recording g c = record { within = within_alone c.args.words.now c.requires.0 }

pub rests_of-found-requires : goal.rests_of-found-requires
rests_of-found-requires g c = roomy _ _ (fits_alone c.args.words.now c.requires.1)

pub invariant_of-rests : goal.invariant_of-rests
invariant_of-rests g c = let r = rests_there (alone c.rests_of-found.ensures) c.requires.0 in
    record { lies = r.0; few = r.1; low = r.2 }

-- a breach: nothing was written
pub returns-then-not-pass : goal.returns-then-not-pass
returns-then-not-pass g c =
    let rests = alone c.rests_of-found.ensures in
    let unlawful = sym c.if-not-pass.true ∙ asked_there rests c.requires.0 c.lawful_by-asked.ensures.says in
    let t = told_none c.args.words.now c.args.reading.now c.requires.0 c.if-reading-size.false unlawful in
    record { answer = t.result; reading_after = t.buffer; lent = c.lawful_by-asked.ensures.lent }

pub write_first-requires : goal.write_first-requires
write_first-requires g c =
    reading_there (alone c.rests_of-found.ensures)
    (front_reading c.args.words.now c.args.reading.now c.requires.0 c.if-reading-size.false)

pub overflow_cast-result : goal.overflow_cast-result
overflow_cast-result g c = record { fits = omega (arith, count_few c.args.words.now c.requires.0) }

-- a pass: the first lawful reading was written
pub returns : goal.returns
returns g c =
    let rests = alone c.rests_of-found.ensures in
    let lawful = sym c.if-not-pass.false ∙ asked_there rests c.requires.0 c.lawful_by-asked.ensures.says in
    let t = told_pass c.args.words.now c.args.reading.now c.requires.0 c.if-reading-size.false lawful
    (λ f e. c.write_first.ensures f (least_there rests c.requires.0 e)) in
    record {
      answer = t.result;
      reading_after = t.buffer;
      lent = fronts_on c.lawful_by-asked.ensures.lent (inl (record { front = refl; other = refl; front_room = c.write_first.auto.front; other_room = c.write_first.auto.other }));
    }
