-- `verdict_first_reading::write_entries` meets its contract. Assumes nothing.
use mathlib.Core.Path.{ap, ◌∙◌}
use Rattle.verdict_completion.specs.States.{start_state}
use Rattle.verdict_completion.specs.Courses.{course_with}
use Rattle.verdict_completion.proofs.Courses.{lies_with}
use Rattle.verdict_search.proofs.Slots.{before_start}
use Rattle.verdict_choosing.proofs.Placing.{progress_start, progress_on, progress_end}
use Rattle.verdict_first_reading.proofs.write_entries.Goals as goal

pub loop-j-init : goal.loop-j-init
loop-j-init c = let k = course_with c.args.rests.now c.args.compensations.now in (
  c.requires.limited,
  c.requires.ready,
  before_start k (lies_with c.args.rests.now c.args.compensations.now) c.rest_week-rest.result c.start-st.ensures,
  λ f l. progress_start k f c.args.reading.now c.start-st.result l c.requires.none (c.start-st.ensures ∙ ap start_state c.rest_week-rest.ensures),
)

pub loop-j-preserved : goal.loop-j-preserved
loop-j-preserved c = let e = c.place-st.ensures in (
  e.limited,
  e.ready,
  e.before,
  λ f l.
      progress_on (course_with c.args.rests.now c.loop-j.compensations) (course_with c.args.rests.now c.place-st.new.compensations) f
      c.loop-j.reading c.place-st.new.reading c.loop-j.j c.loop-j.st c.place-st.result
      (c.loop-j.auto.reading ∙ c.requires.size) c.loop-j-test.true e.placed (c.loop-j.invariant.3 f l),
)

pub returns : goal.returns
returns c =
    λ f l.
    progress_end (course_with c.args.rests.now c.loop-j.compensations) f c.loop-j.reading c.loop-j.j c.loop-j.st
    (c.loop-j.auto.reading ∙ c.requires.size) c.loop-j-test.false (c.loop-j.invariant.3 f l)
