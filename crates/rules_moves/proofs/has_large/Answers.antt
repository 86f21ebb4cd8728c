-- `rules_moves::has_large` meets its contract. Assumes nothing.
use mathlib.Core.Path.{sym, ap, ◌∙◌}
use mathlib.Core.List.{List}
use native.Mathlib.Omega.{arith}
use Prim.Native.Nat.{ℕ}
use Rattle.rules.specs.Reading.{fields_in}
use Rattle.rules_moves.specs.Moves.{too_large}
use Rattle.rules_moves.proofs.Moving.{large_here, large_later, no_large}
use Rattle.rules_moves.proofs.has_large.Goals as goal

pub loop-bytes-init : goal.loop-bytes-init
loop-bytes-init c =
    let e = c.chunks_exact-bytes-items.ensures in
    rw c.into_iter-bytes-iterator.ensures.into_iter_gives (record { size = e.size; same = ap (λ (l : List ℕ). too_large (fields_in l)) (sym e.rest) })

pub returns-then-is_large : goal.returns-then-is_large
returns-then-is_large c =
    let k = c.loop-bytes.invariant in
    let s = c.in-Some.ensures.steps in
    sym (k.same ∙ large_here c.in-Some.bytes.now _ s.1.0 (s.1.1 ∙ k.size) c.is_large.ensures c.if-is_large.true)

pub loop-bytes-preserved : goal.loop-bytes-preserved
loop-bytes-preserved c =
    let k = c.loop-bytes.invariant in
    let s = c.in-Some.ensures.steps in
    record { size = s.0 ∙ k.size; same = k.same ∙ large_later c.in-Some.bytes.now _ s.1.0 (s.1.1 ∙ k.size) c.is_large.ensures c.if-is_large.false }

pub returns : goal.returns
returns c =
    let k = c.loop-bytes.invariant in
    no_large c.loop-bytes.bytes-iterator.rest.now (omega (arith, c.in-None.ensures.steps.1.0, k.size)) ∙ sym k.same
