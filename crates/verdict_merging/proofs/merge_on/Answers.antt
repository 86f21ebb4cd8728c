-- `verdict_merging::merge_on` meets its contract. Assumes nothing.
use mathlib.Core.Path.{◌≡◌, sym, subst, ◌∙◌}
use mathlib.Core.Bool.{true≢false}
use Prim.Native.Nat.{ℕ}
use native.Mathlib.Omega.{arith}
use Rattle.verdict_completion.specs.Courses.{course_of}
use Rattle.verdict_completion.proofs.Courses.{lies_with}
use Rattle.verdict_search.proofs.Leading as led
use Rattle.verdict_merging.specs.Merging.{AnyAsked}
use Rattle.verdict_merging.proofs.Merging as merging
use Rattle.verdict_merging.proofs.merge_on.Goals as goal

pub returns-then-all_matched-clause-told : goal.returns-then-all_matched-clause-told
returns-then-all_matched-clause-told c = let r = c.args.course.now in
    let m = c.all_matched.ensures c.if-all_matched.true in
    record {
      yes = λ _ t. merging.merged (course_of r) (lies_with r.rests r.compensations.now) c.args.j c.requires.abreast.known c.requires.abreast.asked m.1 (t m.0);
      no = λ e. absurd (true≢false e);
      ready = c.requires.ready;
    }

pub loop-i-init : goal.loop-i-init
loop-i-init c = record {
  ready = c.requires.ready;
  abreast = c.requires.abreast;
  question = record { to = λ a. a; from = λ a. a };
  trusts = λ t. t;
  lent = merging.room_self;
}

pub returns-then-beside_rest : goal.returns-then-beside_rest
returns-then-beside_rest c = let i = c.loop-i.invariant in
    let b = c.beside_rest.ensures in
    record {
      told = record {
        yes = λ _ t. i.question.from (b.besides.yes c.if-beside_rest.true (i.trusts t));
        no = λ e. absurd (true≢false e);
        ready = b.besides.ready;
      };
      lent = merging.room_on i.lent b.lent;
    }

pub loop-i-preserved : goal.loop-i-preserved
loop-i-preserved c = let i = c.loop-i.invariant in
    let b = c.beside_rest.ensures in
    record {
      ready = b.besides.ready;
      abreast = b.besides.abreast;
      question = led.equal_then i.question (led.equal (b.besides.leads c.if-beside_rest.false) (b.besides.from c.if-beside_rest.false));
      trusts = λ t. b.besides.trusts c.if-beside_rest.false (i.trusts t);
      lent = merging.room_on i.lent b.lent;
    }

pub returns-clause-told : goal.returns-clause-told
returns-clause-told c = let k = course_of c.args.course.now in
    let i = c.loop-i.invariant in
    let told = c.sweep_on-ending.ensures.told in
    let e : c.loop-i.i ≡ c.min-last.result = omega (arith, c.loop-i-test.false, c.loop-i.auto.i-end (omega (arith, c.min-last.ensures, c.requires.within))) in
    record {
      yes = λ y _. i.question.from (subst (λ (n : ℕ). AnyAsked k n c.loop-i.room) (sym e) (told.yes y));
      no = λ n p. told.no n (subst (λ (n : ℕ). AnyAsked k n c.loop-i.room) e (i.question.to p));
      ready = record { one_each = c.sweep_on-ending.auto.slots ∙ i.ready.one_each; sound = told.sound };
    }
