-- `rules_limits::rested_for` meets its contract. Assumes nothing.
use mathlib.Core.Path.{◌≡◌, sym, ◌∙◌}
use mathlib.Core.Bool.{false}
use native.Mathlib.Omega.{arith}
use Prim.Native.Nat.{ℕ}
use lib.Dec.{leb}
use borrow.Author.Tests.{le-leb, lt-leb, lt-ltb, le-ltb}
use Rattle.recording.specs.Tests.{◌and◌, ◌or◌}
use Rattle.recording.proofs.TestLaws.{and-false, or_right}
use Rattle.rules.specs.declared.Accumulated.{Accumulated}
use Rattle.rules.specs.Fixed.{full_break, first_part, second_part, clears, splits, rested}
use Rattle.rules_limits.proofs.rested_for.Goals as goal

-- a rest that neither clears the sum nor begins a split break changes nothing
stays : (n : ℕ) (d : Accumulated) → clears n d ≡ false → splits n d or d.split ≡ d.split → d ≡ rested n d
unfolding rested
stays n d f e = rw f (λ i. record { sum = d.sum; split = sym e i })

pub returns-then-minutes-ge-FULL_BREAK : goal.returns-then-minutes-ge-FULL_BREAK
unfolding rested ◌or◌
returns-then-minutes-ge-FULL_BREAK c = c.cleared_sum.ensures ∙ simp (le-leb full_break c.args.minutes (omega (arith, c.if-minutes-ge-FULL_BREAK.true)))

pub returns-then-minutes-lt-FIRST_PART : goal.returns-then-minutes-lt-FIRST_PART
unfolding ◌or◌ ◌and◌
returns-then-minutes-lt-FIRST_PART c = let n = c.args.minutes in
    let no-break = lt-leb full_break n (omega (arith, c.if-minutes-ge-FULL_BREAK.false)) in
    let no_part = lt-leb first_part n (omega (arith, c.if-minutes-lt-FIRST_PART.true)) in
    stays n _ (simp (no-break, lt-leb second_part n (omega (arith, c.if-minutes-lt-FIRST_PART.true)))) (simp no_part)

pub returns-then-minutes-lt-SECOND_PART : goal.returns-then-minutes-lt-SECOND_PART
unfolding ◌or◌ ◌and◌
returns-then-minutes-lt-SECOND_PART c = let n = c.args.minutes in
    let d = c.args.accumulated in
    let no-break = lt-leb full_break n (omega (arith, c.if-minutes-ge-FULL_BREAK.false)) in
    let no_second = lt-leb second_part n (omega (arith, c.if-minutes-lt-SECOND_PART.true)) in
    let begun = c.if-accumulated.true in
    stays n d (simp (no-break, no_second)) (or_right (splits n d) d.split begun ∙ sym begun)

pub returns-then-accumulated : goal.returns-then-accumulated
unfolding rested ◌or◌ ◌and◌
returns-then-accumulated c = let n = c.args.minutes in
    let no-break = lt-leb full_break n (omega (arith, c.if-minutes-ge-FULL_BREAK.false)) in
    let second = le-leb second_part n (omega (arith, c.if-minutes-lt-SECOND_PART.false)) in
    c.cleared_sum-then-accumulated.ensures ∙ simp (no-break, second, c.if-accumulated.true)

pub returns-then-accumulated-eq0 : goal.returns-then-accumulated-eq0
unfolding ◌or◌
returns-then-accumulated-eq0 c = let n = c.args.minutes in
    let d = c.args.accumulated in
    let no-break = lt-leb full_break n (omega (arith, c.if-minutes-ge-FULL_BREAK.false)) in
    let undriven = le-ltb 0 d.sum (omega (arith, c.if-accumulated-eq0.true)) in
    stays n d (simp (no-break, c.if-accumulated.false, and-false (leb second_part n))) (simp (undriven, and-false (leb first_part n)))

pub returns : goal.returns
unfolding rested ◌or◌ ◌and◌
returns c = let n = c.args.minutes in
    let d = c.args.accumulated in
    let no-break = lt-leb full_break n (omega (arith, c.if-minutes-ge-FULL_BREAK.false)) in
    let part = le-leb first_part n (omega (arith, c.if-minutes-lt-FIRST_PART.false)) in
    let driven = lt-ltb 0 d.sum (omega (arith, c.if-accumulated-eq0.false)) in
    simp (no-break, c.if-accumulated.false, and-false (leb second_part n), part, driven)
