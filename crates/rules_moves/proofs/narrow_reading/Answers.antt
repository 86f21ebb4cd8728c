-- `rules_moves::narrow_reading` meets its contract. Assumes nothing.
use mathlib.Core.Path.{sym, ap, ◌∙◌}
use mathlib.Core.List.{[], ◌∷◌}
use native.Mathlib.Omega.{arith}
use Prim.Native.Nat.{◌+◌}
use lib.ListN.{length, get_or}
use Rattle.std.proofs.lemmas.Result.{err_from_is_err_and}
use Rattle.rules_entries.proofs.Parts.{part_sets}
use Rattle.rules_moves.specs.Moves.{stored_bytes}
use Rattle.rules_moves.specs.Passes.{low_bytes}
use Rattle.rules_moves.proofs.Moving.{low_step, low_part, no_lows, start_putting, put_on, put_done, back_refused, back_large, back_room, back_told}
use Rattle.rules_moves.proofs.narrow_reading.Goals as goal

pub returns-in_err-count : goal.returns-in_err-count
returns-in_err-count c =
    let p = err_from_is_err_and c.from_residual.result c.from_residual.ensures.1 in
    let k = back_refused c.args.wide.now c.args.old.now c.in_err-count.ensures in
    rw (p.1, p.2) (record { answer = k.count; old_after = k.content })

pub returns-then-has_large : goal.returns-then-has_large
returns-then-has_large c =
    let k = back_large c.args.wide.now c.args.old.now c.in_ok-count.ensures (sym c.if-has_large.true ∙ c.has_large.ensures) in
    record { answer = k.count; old_after = k.content }

pub loop-entry-init : goal.loop-entry-init
loop-entry-init c =
    let e = c.chunks_exact-entry-items.ensures in
    let room = back_room c.args.wide.now c.args.old.now c.in_ok-count.ensures (sym c.if-has_large.false ∙ c.has_large.ensures) in
    rw (c.into_iter-entry-iterator.ensures.into_iter_gives, e.rest) (record { size = e.size; room = omega (arith, room); putting = start_putting _ _ })

pub overflow_add-to : goal.overflow_add-to
overflow_add-to c =
    let k = c.loop-entry.invariant in
    let s = c.in-Some.ensures.steps in
    let step = low_step c.in-Some.entry.now c.next.new.self.rest.now s.1.0 (s.1.1 ∙ k.size) in
    omega (arith, k.room, ap length step)

pub slice_bounds-copy_from_slice-end : goal.slice_bounds-copy_from_slice-end
slice_bounds-copy_from_slice-end c =
    let k = c.loop-entry.invariant in
    let s = c.in-Some.ensures.steps in
    let step = low_step c.in-Some.entry.now c.next.new.self.rest.now s.1.0 (s.1.1 ∙ k.size) in
    omega (arith, k.room, ap length step)

pub loop-entry-preserved : goal.loop-entry-preserved
loop-entry-preserved c =
    let k = c.loop-entry.invariant in
    let s = c.in-Some.ensures.steps in
    let x = c.in-Some.entry.now in
    let n = s.1.1 ∙ k.size in
    let step = low_step x c.next.new.self.rest.now s.1.0 n in
    let some = get_or x 0 0 ∷ get_or x 1 0 ∷ get_or x 2 0 ∷ [] in
    record {
      size = s.0 ∙ k.size;
      room = omega (arith, k.room, ap length step);
      putting =
          put_on k.putting some (low_bytes c.next.new.self.rest.now) step
          (part_sets c.loop-entry.old some c.loop-entry.to (c.loop-entry.to + stored_bytes) (c.copy_from_slice.ensures.after ∙ low_part x n) (omega arith)
          (omega (arith, k.room, ap length step)));
    }

pub returns : goal.returns
returns c =
    let k = c.loop-entry.invariant in
    let done = no_lows c.loop-entry.entry-iterator.rest.now (omega (arith, c.in-None.ensures.steps.1.0, k.size)) in
    let small = sym c.if-has_large.false ∙ c.has_large.ensures in
    let t = back_told c.args.wide.now c.args.old.now c.in_ok-count.ensures small (put_done k.putting done) in
    record { answer = t.count; old_after = t.content }
