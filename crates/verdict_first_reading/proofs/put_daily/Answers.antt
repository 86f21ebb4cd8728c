-- `verdict_first_reading::put_daily` meets its contract. Assumes nothing.
use mathlib.Core.Path.{ap, ◌∙◌}
use mathlib.Core.Bool.{Bool}
use native.Mathlib.Omega.{arith}
use Rattle.verdict_completion.specs.declared.State.{State}
use Rattle.verdict_completion.specs.States.{after_daily}
use Rattle.verdict_completion.specs.Courses.{course_of}
use Rattle.verdict_completion.proofs.Courses.{lies_with}
use Rattle.verdict_search.proofs.Slots.{before_daily}
use Rattle.verdict_choosing.proofs.Placing.{before_here}
use Rattle.verdict_first_reading.proofs.put_daily.Goals as goal

pub returns-then-next-gt-SHORTENED_AT_MOST : goal.returns-then-next-gt-SHORTENED_AT_MOST
returns-then-next-gt-SHORTENED_AT_MOST c = let r = c.args.course.now in
    let short = ap (λ (x : State). x.short) (c.after_daily-next.ensures ∙ ap (λ (b : Bool). after_daily b c.args.here) c.is_short-short.ensures) in
    record {
      before = before_here (course_of r) (lies_with r.rests r.compensations.now) c.args.j c.args.here c.requires.rest;
      written = c.put_entry.ensures;
      done = λ few. absurd (omega (arith, few, short, c.if-next-gt-SHORTENED_AT_MOST.true));
    }

pub returns : goal.returns
returns c = let r = c.args.course.now in
    record {
      before = before_daily (course_of r) (lies_with r.rests r.compensations.now) c.args.j c.args.here c.is_short-short.result c.after_daily-next.ensures c.requires.rest
          c.if-next-gt-SHORTENED_AT_MOST.false;
      written = c.put_entry.ensures;
      done = λ _. c.after_daily-next.ensures ∙ ap (λ (b : Bool). after_daily b c.args.here) c.is_short-short.ensures;
    }
