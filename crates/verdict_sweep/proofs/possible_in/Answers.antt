-- `verdict_sweep::possible_in` meets its contract. Assumes nothing.
use mathlib.Core.Bool.{true≢false}
use Rattle.std.proofs.lemmas.List.{take-replicate}
use Rattle.verdict_completion.specs.Completable.{count}
use Rattle.verdict_completion.specs.Courses.{course_of}
use Rattle.verdict_sweep.proofs.Sweeps as sweeps
use Rattle.verdict_sweep.proofs.possible_in.Goals as goal

pub returns-then-begin : goal.returns-then-begin
returns-then-begin g c = let k = course_of c.args.course.now in
    let begun = c.begin.ensures in record {
      told = sweeps.from_start k c.rest_week-rest.result c.start.ensures c.rest_week-rest.ensures (take-replicate (count k) _ 0 c.requires.few)
          (record { yes = λ _. begun.opens.yes c.if-begin.true; no = λ h. absurd (true≢false h); sound = begun.opens.sound });
      lent = begun.lent;
    }

pub returns : goal.returns
returns g c = let k = course_of c.args.course.now in
    let begun = c.begin.ensures in record {
      told = sweeps.from_start k c.rest_week-rest.result c.start.ensures c.rest_week-rest.ensures (take-replicate (count k) _ 0 c.requires.few)
          (sweeps.whole c.if-begin.false begun.opens c.sweep_on.ensures.told);
      lent = sweeps.fronts_on begun.lent c.sweep_on.ensures.lent;
    }
