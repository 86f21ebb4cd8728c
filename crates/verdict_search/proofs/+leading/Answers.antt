-- The steps from a state to the next front answer their question: the functions call one another where a state does not fit into a front. Assumes nothing.
use mathlib.Core.Path.{◌≡◌, refl, sym, ap, subst, ◌∙◌}
use mathlib.Core.Logic.{inl}
use mathlib.Core.List.{List}
use Prim.Native.Nat.{ℕ, ◌+◌, ◌-◌, ◌/◌, ◌≤◌, ◌<◌}
use native.Mathlib.Omega.{arith}
use lib.Dec.{ltb}
use lib.ListN.{length}
use Rattle.recording.specs.Tests.{pick}
use Rattle.recording.specs.Weeks.{week_minutes, week_of}
use Rattle.rules.specs.Reading.{is_regular, reduction_of}
use Rattle.rules.specs.declared.Kind.TheVariants.{Weekly}
use Rattle.verdict_completion.specs.declared.course.Course as declared
use Rattle.verdict_completion.specs.Completable.{at, rest_week, length_at, deadline_of, Lies, Compensates, ReadWeekly, Counted, Reads}
use Rattle.verdict_completion.specs.Courses.{course_of}
use Rattle.verdict_completion.proofs.Courses.{lies_with}
use Rattle.verdict_completion.proofs.Monotone.{arrives}
use Rattle.verdict_steps.specs.Steps.{outstanding_by}
use Rattle.verdict_steps.proofs.StepLaws.{standing_regular, standing_low}
use Rattle.verdict_steps.proofs.NearRests.{in_order, week_of_rest}
use Rattle.verdict_nogoods.specs.Table.{Remembered}
use Rattle.verdict_nogoods.proofs.TableLaws.{known_of_all, remembered_of_all}
use Rattle.verdict_search.specs.Search.{Later, FirstFrom}
use Rattle.verdict_search.specs.Leading.{Any, Front}
use Rattle.verdict_search.proofs.Leading as led
use Rattle.verdict_search.proofs.Memory as memory
use Rattle.verdict_search.proofs.Slots as law
use Rattle.verdict_search.proofs.Fronts as fronts
use Rattle.verdict_search.proofs.Chain as chain
use Rattle.verdict_search.proofs.+leading.Goals as goal

-- the long rests of a course lie in order
lies_of : (course : declared.Course) → Lies (course_of course)
lies_of course = lies_with course.rests course.compensations.now

pub at_once-compensate-requires : goal.at_once-compensate-requires
at_once-compensate-requires t c = let k = course_of c.args.course.now in (
  omega (arith, c.decreases),
  (
    record { slots = c.requires.slots; sound = c.requires.sound; well = law.front_none k (c.args.j + 1) _ },
    (c.requires.rest, (omega arith, c.args.course.now.compensations_low c.args.j)),
  ),
)

pub at_once-returns-clause-says : goal.at_once-returns-clause-says
at_once-returns-clause-says t c = let k = course_of c.args.course.now in
    let went = c.compensate.ensures.leads in
    let found = chain.all_reductions (Reads k (Later k c.args.j) c.args.j c.args.here) (length_at k c.args.j) (at k.compensations c.args.j) c.args.slots.now c.args.j in record {
      yes = λ e. found.to (went.yes e);
      no = λ e h. fronts.no_room k (c.args.j + 1) c.compensate.ensures.kept.lent.room went.well (went.leads e (found.from h));
    }

pub ask-returns-then-knows : goal.ask-returns-then-knows
ask-returns-then-knows t c = let nay = c.requires.sound.closed c.args.j c.args.here c.args.slots.now c.requires.rest.within c.requires.rest.week c.requires.slots.one_each
    (λ x l. c.requires.slots.unused x (omega (arith, l, c.requires.slots.below))) (known_of_all c.args.slots.now c.args.used (c.knows.ensures c.if-knows.true)) in
    led.found_no nay refl c.requires.sound

pub ask-returns-then-at_once : goal.ask-returns-then-at_once
ask-returns-then-at_once t c = led.found_yes (c.at_once.ensures.says.yes c.if-at_once.true) c.at_once.ensures.same c.at_once.ensures.sound

pub ask-returns : goal.ask-returns
ask-returns t c = let k = course_of c.args.course.now in
    let o = c.args.slots.now in
    let nay = c.at_once.ensures.says.no c.if-at_once.false in
    let unused : (x : ℕ) → c.args.used ≤ x → at c.at_once.new.slots x ≡ 0 = λ x l. ap (λ (z : List ℕ). at z x) c.at_once.ensures.same ∙ c.requires.slots.unused x l in
    let remembered = subst (λ (l : List ℕ). Remembered c.at_once.new.nogoods c.store.new.table c.args.j c.args.here l) c.at_once.ensures.same
    (remembered_of_all c.at_once.new.slots c.args.used unused c.store.ensures) in
    led.found_no nay c.at_once.ensures.same
    (memory.sound_on k (lies_of c.args.course.now) c.at_once.new.nogoods c.store.new.table c.args.j c.args.here o c.requires.rest.within c.requires.rest.week
    c.requires.slots.one_each (λ x l. c.requires.slots.unused x (omega (arith, l, c.requires.slots.below))) c.at_once.ensures.sound remembered nay)

pub choose-returns-then-compensation-end-clause-leads : goal.choose-returns-then-compensation-end-clause-leads
choose-returns-then-compensation-end-clause-leads t c = let k = course_of c.args.course.now in
    led.carry
    (led.equal_then (chain.read_weekly k (Later k c.args.j) c.args.j c.args.here c.args.compensation c.args.search.now.slots.now c.as_weekly-weekly.ensures)
    (chain.as_regular k (lies_of c.args.course.now) c.args.j c.args.here c.args.search.now.slots.now c.args.compensation c.requires.rest c.if-compensation-end.true))
    c.read_as.ensures.leads

pub choose-returns-clause-leads : goal.choose-returns-clause-leads
choose-returns-clause-leads t c = let k = course_of c.args.course.now in
    let d = c.read_as-yes.ensures.leads in
    let e = chain.read_daily k (Later k c.args.j) c.args.j c.args.here c.args.compensation c.args.search.now.slots.now c.as_daily-daily.ensures in
    let f = chain.read_weekly k (Later k c.args.j) c.args.j c.args.here c.args.compensation _ c.as_weekly-weekly.ensures in
    led.both (led.known c.if-yes.false (led.carry e d))
    (led.again (λ (o : List ℕ). ReadWeekly k (Later k c.args.j) c.args.j c.args.here c.args.compensation o) d.same (led.carry f c.read_as-2.ensures.leads))

pub compensate-returns-in_default-clause-leads : goal.compensate-returns-in_default-clause-leads
compensate-returns-in_default-clause-leads t c = let k = course_of c.args.course.now in
    led.carry
    (chain.none_fits (Reads k (Later k c.args.j) c.args.j c.args.here) (length_at k c.args.j) c.args.compensation c.args.search.now.slots.now
    (chain.no_candidate c.requires.from c.requires.given.slots.below (subst (FirstFrom c.args.search.now.slots.now c.args.i c.args.search.now.used c.args.compensation _)
    c.in_default.is c.first_fit.ensures)) refl)
    c.choose.ensures.leads

pub compensate-returns-then-yes-clause-leads : goal.compensate-returns-then-yes-clause-leads
compensate-returns-then-yes-clause-leads t c = let k = course_of c.args.course.now in
    let o = c.args.search.now.slots.now in
    let w = subst (FirstFrom o c.args.i c.args.search.now.used c.args.compensation _) c.in-Some.is c.first_fit.ensures in
    led.carry
    (chain.one_fits (Reads k (Later k c.args.j) c.args.j c.args.here) (length_at k c.args.j) c.args.compensation o (chain.some_candidate c.requires.given.slots.below w)
    (omega (arith, w.1, c.requires.given.slots.below)))
    (led.known c.if-yes.true (led.first c.if-yes.true (led.back o _ c.in-Some.d 0 c.compensate-yes.ensures.leads)))

pub compensate-returns-clause-leads : goal.compensate-returns-clause-leads
compensate-returns-clause-leads t c = let k = course_of c.args.course.now in
    let o = c.args.search.now.slots.now in
    let w = subst (FirstFrom o c.args.i c.args.search.now.used c.args.compensation _) c.in-Some.is c.first_fit.ensures in
    let added_to = led.back o _ c.in-Some.d 0 c.compensate-yes.ensures.leads in
    let left : List ℕ → Type 0 = λ o. Compensates (Reads k (Later k c.args.j) c.args.j c.args.here) (length_at k c.args.j) (c.args.j - (c.in-Some.d + 1)) (c.in-Some.d + 1)
    c.args.compensation o in
    led.carry
    (chain.one_fits (Reads k (Later k c.args.j) c.args.j c.args.here) (length_at k c.args.j) c.args.compensation o (chain.some_candidate c.requires.given.slots.below w)
    (omega (arith, w.1, c.requires.given.slots.below)))
    (led.both (led.known c.if-yes.false added_to) (led.again left added_to.same c.compensate.ensures.leads))

pub count_in-returns-clause-leads : goal.count_in-returns-clause-leads
count_in-returns-clause-leads t c = let k = course_of c.args.course.now in
    let g = c.requires.given in
    let lies = lies_of c.args.course.now in
    let o = c.args.search.now.slots.now in
    led.carry
    (chain.left_out k lies c.args.j c.args.after o c.needed.result (outstanding_by c.args.standing c.args.w) c.requires.within
    (c.needed.ensures ∙ ap (λ (x : ℕ). pick (ltb k.judged (deadline_of x)) 0 x) c.outstanding_of-reduction.ensures))
    (led.carry (chain.in_next_slot k lies g.slots c.requires.within c.needed.result c.args.after)
    (led.back o _ c.args.search.now.used c.needed.result c.step-yes.ensures.leads))

pub daily-step-requires : goal.daily-step-requires
daily-step-requires t c = let k = course_of c.args.course.now in (
  omega (arith, c.decreases, c.requires.rest.within),
  (
    law.given_on c.requires.given,
    law.before_daily k (lies_of c.args.course.now) c.args.j c.args.here c.is_short-short.result c.after_daily-after.ensures c.requires.rest
        c.if-after-gt-SHORTENED_AT_MOST.false,
  ),
)

pub in_week-after_weekly-after-requires : goal.in_week-after_weekly-after-requires
in_week-after_weekly-after-requires t c = let k = course_of c.args.course.now in
    (law.brought (rest_week k) (c.args.w - c.args.here.week) c.requires.rest.small c.advance.ensures c.in-Some.is).small

pub in_week-count_in-requires : goal.in_week-count_in-requires
in_week-count_in-requires t c = let k = course_of c.args.course.now in
    let lies = lies_of c.args.course.now in
    let in-time = lies.judged c.args.j c.requires.rest.within in
    let low = standing_low (length_at k c.args.j) c.args.compensation in
    let before = law.before_weekly k lies c.args.j c.args.w c.args.here c.holds_week-rest.result c.is_regular-regular.result c.advance.ensures c.in-Some.is
    c.after_weekly-after.ensures c.requires.rest c.requires.week.0 c.requires.week.1 in
    let s = c.args.course.now.rests.low in (
      omega (arith, c.decreases, c.requires.rest.within),
      (
        c.requires.given,
        (
          c.requires.rest.within,
          (before, (omega (arith, ap (λ x. reduction_of (Weekly x)) c.requires.standing, low, c.requires.net, in-time, s), omega (arith, c.requires.week.1, in-time, s))),
        ),
      ),
    )

pub in_week-returns-clause-leads : goal.in_week-returns-clause-leads
in_week-returns-clause-leads t c = let k = course_of c.args.course.now in
    let lies = lies_of c.args.course.now in
    let o = c.args.search.now.slots.now in
    let regular = c.is_regular-regular.ensures ∙ ap (λ x. is_regular (Weekly x)) c.requires.standing ∙ standing_regular (length_at k c.args.j) c.args.compensation in
    let inside = c.holds_week-rest.ensures ∙ sym (week_of_rest k.starts k.ends c.args.w (in_order k lies) c.args.j c.requires.rest.within c.requires.week.0 c.requires.week.1) in
    led.carry
    (led.equal_then (chain.is_outstanding-as k c.args.j c.after_weekly-after.result o c.args.compensation c.args.w c.requires.standing)
    (chain.as_counted k lies c.args.j c.args.here o c.args.compensation c.args.w c.holds_week-rest.result c.is_regular-regular.result c.advance.ensures c.in-Some.is
    c.after_weekly-after.ensures inside regular))
    c.count_in.ensures.leads

pub place-returns-in-Some-clause-leads : goal.place-returns-in-Some-clause-leads
place-returns-in-Some-clause-leads t c = let k = course_of c.args.course.now in
    let g = c.requires.given in
    fronts.inserted_led k (lies_of c.args.course.now) c.args.j c.args.search.now.used g.slots c.requires.rest g.well (c.in-Some.ensures) g.sound

pub place-returns-clause-leads : goal.place-returns-clause-leads
place-returns-clause-leads t c = let k = course_of c.args.course.now in
    let e = c.in_default.ensures in
    let n = c.args.search.now.states in
    led.asked (led.equal (λ a. subst (λ (l : List ℕ). Any k c.args.j l n) (sym e) a) (λ a. subst (λ (l : List ℕ). Any k c.args.j l n) e a)) c.ask.ensures
    (subst (λ (l : List ℕ). Front k c.args.j l n) (sym e) c.requires.given.well)

pub step-returns-then-j-rests-clause-leads : goal.step-returns-then-j-rests-clause-leads
step-returns-then-j-rests-clause-leads t c = let k = course_of c.args.course.now in
    let g = c.requires.given in
    let o = c.args.search.now.slots.now in
    led.asked led.equal_self
    (led.said (chain.closed k (lies_of c.args.course.now) c.args.j c.args.st o c.if-j-rests.true) c.closes.ensures refl g.sound)
    g.well

pub step-returns-then-st-rests-clause-leads : goal.step-returns-then-st-rests-clause-leads
step-returns-then-st-rests-clause-leads t c = let k = course_of c.args.course.now in
    let g = c.requires.given in
    let lies = lies_of c.args.course.now in
    let o = c.args.search.now.slots.now in
    let lt : c.args.j < length k.starts = omega (arith, c.requires.before.within, c.if-j-rests.false) in
    led.refuse (chain.too_late k lies c.args.j c.args.st o lt c.if-st-rests.true) refl g.sound g.well

pub step-returns-then-is_overdue-clause-leads : goal.step-returns-then-is_overdue-clause-leads
step-returns-then-is_overdue-clause-leads t c = let k = course_of c.args.course.now in
    let g = c.requires.given in
    let lies = lies_of c.args.course.now in
    let o = c.args.search.now.slots.now in
    let lt : c.args.j < length k.starts = omega (arith, c.requires.before.within, c.if-j-rests.false) in
    led.refuse (chain.is_overdue k lies c.args.j c.args.st o lt (c.is_overdue.ensures.yes c.if-is_overdue.true)) refl g.sound g.well

pub step-returns-in_default-clause-leads : goal.step-returns-in_default-clause-leads
step-returns-in_default-clause-leads t c = let k = course_of c.args.course.now in
    let g = c.requires.given in
    let lies = lies_of c.args.course.now in
    let o = c.args.search.now.slots.now in
    let lt : c.args.j < length k.starts = omega (arith, c.requires.before.within, c.if-j-rests.false) in
    led.refuse (chain.pair_broken k lies c.args.j c.args.st o lt c.advance.ensures c.in_default.is) refl g.sound g.well

pub step-place-requires : goal.step-place-requires
step-place-requires t c = let k = course_of c.args.course.now in
    let g = c.requires.given in
    let lies = lies_of c.args.course.now in
    let o = c.args.search.now.slots.now in
    let lt : c.args.j < length k.starts = omega (arith, c.requires.before.within, c.if-j-rests.false) in
    let brought = law.brought (rest_week k) (week_of (at k.starts c.args.j) - c.args.st.week) c.requires.before.small c.advance.ensures c.in-Some.is in
    (omega (arith, c.decreases), (g, arrives k lies lt c.requires.before.stands brought))

pub step-returns-clause-leads : goal.step-returns-clause-leads
step-returns-clause-leads t c = let k = course_of c.args.course.now in
    let g = c.requires.given in
    let lies = lies_of c.args.course.now in
    let o = c.args.search.now.slots.now in
    let lt : c.args.j < length k.starts = omega (arith, c.requires.before.within, c.if-j-rests.false) in
    led.carry
    (chain.goes_on k lies c.args.j c.args.st o c.in-Some.here lt c.if-st-rests.false
    (c.is_overdue.ensures.no c.if-is_overdue.false) c.advance.ensures c.in-Some.is)
    c.place.ensures.leads

pub weekly-loop-w-preserved : goal.weekly-loop-w-preserved
weekly-loop-w-preserved t c = let k = course_of c.args.course.now in
    let i = c.loop-w.invariant in
    let at_once : List ℕ → Type 0 = λ o. Counted k (Later k c.args.j) c.args.j c.args.here c.loop-w.w c.args.compensation o in record {
      leads = led.carry (chain.one_week k (Later k c.args.j) c.args.j c.args.here c.args.compensation c.args.search.now.slots.now _ c.loop-w.w c.loop-w.auto.w)
          (led.both i.leads (led.again at_once i.leads.same (led.known c.if-in_week.false c.in_week.ensures.leads)));
      kept = law.kept_on i.kept c.in_week.ensures.kept;
    }

pub weekly-returns-clause-leads : goal.weekly-returns-clause-leads
weekly-returns-clause-leads t c = let k = course_of c.args.course.now in
    let o = c.args.search.now.slots.now in
    let proper = (lies_of c.args.course.now).proper c.args.j c.requires.rest.within in
    let last : c.loop-w.w ≡ (at k.ends c.args.j - 1) / week_minutes + 1 = omega (arith, proper, c.loop-w-test.false, c.loop-w.auto.w-end) in
    let weeks = led.equal
    (chain.a_week k (Later k c.args.j) c.args.j c.args.here c.args.compensation o _ c.loop-w.w c.requires.net refl (inl (omega (arith, proper, last))))
    (chain.all_weeks k (Later k c.args.j) c.args.j c.args.here c.args.compensation o _ c.loop-w.w refl (omega (arith, last))) in
    led.carry weeks c.loop-w.invariant.leads
