-- `verdict_merging::asks_beside` meets its contract. Assumes nothing.
use mathlib.Core.Path.{refl, sym, ◌∙◌}
use native.Mathlib.Omega.{arith}
use Rattle.verdict_completion.specs.Courses.{course_of}
use Rattle.verdict_completion.proofs.Courses.{lies_with}
use Rattle.verdict_sweep.proofs.Sweeps.{fronts_self}
use Rattle.verdict_merging.proofs.Merging.{as_many, front_in, trusted_in, sound_renewed, room_on}
use Rattle.verdict_merging.proofs.asks_beside.Goals as goal

pub know_to-requires-clause-sound : goal.know_to-requires-clause-sound
know_to-requires-clause-sound c = let a = c.args.course.now in
    let b = c.args.trial.now in
    let t = c.requires.trial in
    sound_renewed {c = course_of b} {d = course_of a} (lies_with a.rests a.compensations.now) refl (λ z. sym (t.same z)) c.ask_to-good.ensures.reaches.sound c.renew-2.ensures

pub merge_on-merges-requires : goal.merge_on-merges-requires
merge_on-merges-requires c = let a = c.args.course.now in
    let b = c.args.trial.now in
    let t = c.requires.trial in record {
      ready = record {
        one_each = c.know_to.auto.slots ∙ c.ask_to-good.auto.slots ∙ c.requires.ready.one_each ∙ sym (as_many t);
        sound =
            sound_renewed {c = course_of a} {d = course_of b} (lies_with b.rests b.compensations.now) (sym (as_many t)) t.same c.know_to.ensures.knows.sound c.renew-3.ensures;
      };
      within = omega (arith, c.past_carrier-to.ensures, c.requires.rest.within, c.requires.number, as_many t);
      abreast = record { asked = c.ask_to-good.ensures.reaches.well c.if-good.false; known = front_in t c.know_to.ensures.knows.well };
    }

pub returns-clause-told : goal.returns-clause-told
returns-clause-told c = let a = c.args.course.now in
    let b = c.args.trial.now in
    let t = c.requires.trial in
    let asked = c.ask_to-good.ensures.reaches in
    let merges = c.merge_on-merges.ensures.told in
    record {
      yes = λ e r. asked.from c.if-good.false (merges.yes e (trusted_in t (omega (arith, c.past_carrier-to.ensures)) (c.know_to.ensures.knows.trusts r)));
      no = λ e p. merges.no e (asked.leads c.if-good.false p);
      ready = record {
        one_each = merges.ready.one_each ∙ as_many t;
        sound =
            sound_renewed {c = course_of b} {d = course_of a} (lies_with a.rests a.compensations.now) refl (λ z. sym (t.same z)) merges.ready.sound c.renew-4.ensures;
      };
    }

pub returns-clause-lent : goal.returns-clause-lent
returns-clause-lent c =
    room_on
    (record {
      slots = refl;
      nogoods = refl;
      many = c.know_to.auto.slots ∙ c.ask_to-good.auto.slots;
      table = c.renew-3.auto.nogoods ∙ c.know_to.auto.nogoods ∙ c.renew-2.auto.nogoods ∙ c.ask_to-good.auto.nogoods ∙ c.renew.auto.nogoods;
      asked = c.ask_to-good.ensures.lent;
      known = c.know_to.ensures.lent;
    })
    (room_on c.merge_on-merges.ensures.lent
    (record { slots = refl; nogoods = refl; many = refl; table = c.renew-4.auto.nogoods; asked = fronts_self; known = fronts_self }))
