-- `verdict_merging::know_to` meets its contract. Assumes nothing.
use mathlib.Core.Path.{refl, sym, ap, subst, ◌∙◌}
use mathlib.Core.List.{List}
use Prim.Native.Nat.{ℕ}
use lib.ListN.{replicate}
use Rattle.verdict_completion.specs.Completable.{Tries}
use Rattle.verdict_completion.specs.Courses.{course_of}
use Rattle.verdict_search.specs.Search.{Later}
use Rattle.verdict_merging.proofs.know_to.Goals as goal

pub returns-else-sweep_to-clause-knows : goal.returns-else-sweep_to-clause-knows
returns-else-sweep_to-clause-knows c = let k = course_of c.args.course.now in
    let e = c.fill.ensures.after (λ y q. q) ∙ ap (λ (n : ℕ). replicate n 0) c.requires.slots in
    record {
      trusts = λ r _.
          c.sweep_to.ensures.passes.leads c.if-sweep_to.false
          (c.in-Some.ensures.leads refl (subst (λ (o : List ℕ). Tries k (Later k c.args.j) c.args.j c.args.here o) (sym e) r));
      sound = c.sweep_to.ensures.passes.sound;
      well = c.sweep_to.ensures.passes.well;
    }
