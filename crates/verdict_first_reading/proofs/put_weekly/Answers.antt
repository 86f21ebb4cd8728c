-- `verdict_first_reading::put_weekly` meets its contract. Assumes nothing.
use mathlib.Core.Path.{◌≡◌, refl, sym, ap, subst, ◌∙◌}
use mathlib.Core.List.{List}
use Prim.Native.Nat.{ℕ, ◌+◌, ◌-◌}
use lib.Dec.{leb}
use Rattle.rules.specs.Reading.{regular_minutes}
use Rattle.rules_items.specs.Items.{added_to}
use Rattle.verdict_completion.specs.declared.State.{State}
use Rattle.verdict_completion.specs.States.{after_weekly}
use Rattle.verdict_completion.specs.Completable.{at, rest_week, length_at}
use Rattle.verdict_completion.specs.Courses.{course_with}
use Rattle.verdict_completion.proofs.Courses.{lies_with}
use Rattle.verdict_search.proofs.Slots.{brought, before_weekly}
use Rattle.verdict_choosing.proofs.Placing.{before_here, before_with, limited_with, none_not_some, to_same, counted_state}
use Rattle.verdict_merging.proofs.Merging.{added_to-none}
use Rattle.verdict_choosing.specs.Choices.{Limited, reduction_at}
use Rattle.verdict_choosing.proofs.Placing.{carried_on}
use Rattle.verdict_first_reading.proofs.put_weekly.Goals as goal
use Rattle.verdict_first_reading.proofs.put_weekly.Goals.{then-carrier-ne0, else-carrier-ne0}

pub returns-in_default : goal.returns-in_default
returns-in_default c = record {
  limited = c.requires.limited;
  before = before_here (course_with c.args.rests.now c.args.compensations.now) (lies_with c.args.rests.now c.args.compensations.now) c.args.j c.args.here c.requires.rest;
  kept = λ _. refl;
  done = λ there e. absurd (none_not_some c.advance.ensures c.in_default.is e);
}

pub after_weekly-requires : goal.after_weekly-requires
after_weekly-requires c = let k = course_with c.args.rests.now c.args.compensations.now in
    (brought (rest_week k) (c.args.choice.week - c.args.here.week) c.requires.rest.small c.advance.ensures c.in-Some.is).small

pub returns : goal.returns
returns c = let r = c.args.rests.now in
    let k = course_with r c.args.compensations.now in
    let lies = lies_with r c.args.compensations.now in
    let fits = c.requires.fits in
    let j = c.args.j in
    let w = c.args.choice.week in
    let x = c.args.choice.carrier in
    let compensation = at c.args.compensations.now j in
    let p : c.if-carrier-ne0.compensations ≡ added_to c.args.compensations.now x (reduction_at k j) = elim c.if-carrier-ne0.branch [
      | then-carrier-ne0 b ↦ carried_on k j x b.if-carrier-ne0.true b.lacking.ensures b.compensations-is
      | else-carrier-ne0 b ↦ b.compensations-is ∙ sym (added_to-none c.args.compensations.now x _ b.if-carrier-ne0.false)
    ] in
    record {
      limited = subst (λ (l : List ℕ). Limited (course_with r l)) (sym p) (limited_with k j lies r.low c.requires.limited x fits.holds);
      before =
          before_with k c.if-carrier-ne0.compensations
          (before_weekly k lies j w c.args.here c.rest_week-rest.result (leb (regular_minutes + compensation) (length_at k j))
          c.advance.ensures c.in-Some.is c.after_weekly.ensures c.requires.rest fits.from fits.upto);
      kept = λ z. p ∙ added_to-none c.args.compensations.now x _ z;
      done = λ there e. record {
        compensations = p;
        written = c.put_entry.ensures;
        state =
            counted_state k j w c.rest_week-rest.result c.in-Some.there c.after_weekly.result c.after_weekly.ensures c.rest_week-rest.ensures
            ∙ ap (λ (y : State). after_weekly (rest_week k w) (leb (regular_minutes + compensation) (length_at k j)) (at r.ends.now j) y)
            (to_same c.advance.ensures c.in-Some.is e);
      };
    }
