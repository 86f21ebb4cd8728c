-- `verdict_merging::ask_to` meets its contract. Assumes nothing.
use mathlib.Core.Path.{sym, ap, subst, ◌∙◌}
use mathlib.Core.List.{List}
use Prim.Native.Nat.{ℕ, ◌-◌}
use lib.ListN.{replicate}
use Rattle.verdict_completion.specs.Completable.{count, Completable}
use Rattle.verdict_completion.specs.Courses.{course_of}
use Rattle.verdict_merging.proofs.ask_to.Goals as goal

pub returns-else-begin-clause-reaches : goal.returns-else-begin-clause-reaches
returns-else-begin-clause-reaches c = let k = course_of c.args.course.now in
    let e = c.fill.ensures.after (λ y q. q) ∙ ap (λ (n : ℕ). replicate n 0) c.requires.slots in
    let begun = c.begin.ensures.opens in
    let on = c.sweep_to.ensures.passes in
    record {
      yes = λ y. subst (λ (o : List ℕ). Completable k (count k - c.args.j) c.args.j c.args.st o) e (begun.from c.if-begin.false (on.yes y));
      leads = λ n p. on.leads n (begun.leads c.if-begin.false (subst (λ (o : List ℕ). Completable k (count k - c.args.j) c.args.j c.args.st o) (sym e) p));
      from = λ n a. subst (λ (o : List ℕ). Completable k (count k - c.args.j) c.args.j c.args.st o) e (begun.from c.if-begin.false (on.from n a));
      sound = on.sound;
      well = λ _. on.well;
    }
