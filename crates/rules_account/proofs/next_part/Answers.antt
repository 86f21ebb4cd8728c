-- `rules_account::next_part` meets its contract. Assumes nothing.
use mathlib.Core.Path.{◌≡◌, refl, sym, ap, ◌∙◌}
use mathlib.Core.Bool.{Bool, true, false, beq, ◌&&◌}
use native.Mathlib.Omega.{arith}
use Rattle.std.proofs.Common.{rules, Option, None, Some}
use Rattle.std.specs.Option.{option_eq}
use Rattle.rules.specs.declared.Breaches.{Breaches}
use Rattle.rules_limits.specs.declared.Break.{Break}
use denote.Enum.Bare.{sameb, same_true}
use lib.Dec.{eqb}
use borrow.Author.Tests.{eqb-true}
use Rattle.rules.specs.contracts.Rule.{the_type}
use Rattle.rules_limits.proofs.PartRight.{part_ran, minute_ran}
use Rattle.rules_account.proofs.next_part.Goals as goal

-- what a conjunction says
record Both (a b : Bool) : Type 0 where
  left : a ≡ true
  right : b ≡ true

both : (a b : Bool) → (a && b) ≡ true → Both a b
both true true e = record { left = refl; right = refl }
both true false e = record { left = refl; right = e }
both false b e = record { left = e; right = cc }

same_test : (a b : Bool) → beq a b ≡ true → a ≡ b
same_test true true e = refl
same_test true false e = sym e
same_test false true e = e
same_test false false e = refl

same_breaches : (a b : Breaches)
    → (beq a.daily b.daily && (beq a.weekly b.weekly && (beq a.fortnightly b.fortnightly && (beq a.breaks b.breaks && beq a.rests b.rests)))) ≡ true → a ≡ b
same_breaches a b e =
    let d = both _ _ e in
    let w = both _ _ d.right in
    let f = both _ _ w.right in
    let k = both _ _ f.right in
    λ i. record {
      daily = same_test a.daily b.daily d.left i;
      weekly = same_test a.weekly b.weekly w.left i;
      fortnightly = same_test a.fortnightly b.fortnightly f.left i;
      breaks = same_test a.breaks b.breaks k.left i;
      rests = same_test a.rests b.rests k.right i;
    }

same_first : {E : Break → Break → Bool} → ((x y : Break) → E x y ≡ true → x ≡ y) → (a b : Option Break) → option_eq E a b ≡ true → a ≡ b
same_first h None None e = refl
same_first h None (Some y) e = cc
same_first h (Some x) None e = cc
same_first h (Some x) (Some y) e = ap Some (h x y e)

same_break : (x y : Break) → (eqb x.at y.at && sameb the_type x.rule y.rule) ≡ true → x ≡ y
same_break x y e =
    let k = both _ _ e in
    let at : x.at ≡ y.at = eqb-true x.at y.at k.left in
    let rule : x.rule ≡ y.rule = same_true the_type (search rules) x.rule y.rule k.right in
    λ i. record { at = at i; rule = rule i }

pub returns-then-unchanged : goal.returns-then-unchanged
returns-then-unchanged c =
    let part = c.loop-minutes.invariant in
    let same = both _ _ c.if-unchanged.true in
    record {
      some = part.some;
      within = part.within;
      ran = part_ran
          c.requires.0 part.some (omega (arith, part.week, c.loop-minutes-test.true)) c.part_after-after.ensures
          (same_breaches _ _ (sym c.eq.ensures ∙ same.left))
          (same_first same_break _ _ (sym c.eq-in-loop-minutes.ensures ∙ same.right));
    }

pub returns : goal.returns
returns c = record { some = omega arith; within = omega (arith, c.requires.2); ran = minute_ran c.requires.0 c.part_after.ensures }
