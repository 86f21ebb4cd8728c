-- `rules_moves::widen_reading` meets its contract. Assumes nothing.
use mathlib.Core.Path.{ap, ◌∙◌}
use mathlib.Core.List.{[], ◌∷◌}
use native.Mathlib.Omega.{arith}
use Prim.Native.Nat.{◌+◌}
use lib.ListN.{length, get_or}
use Rattle.std.proofs.lemmas.Result.{err_from_is_err_and}
use Rattle.rules.specs.Reading.{bytes_of, entry_bytes}
use Rattle.rules_entries.proofs.Parts.{part_sets}
use Rattle.rules_moves.proofs.Moving.{wide_step, no_bytes, bytes_step, start_putting, put_on, put_done, over_refused, over_room, over_told}
use Rattle.rules_moves.proofs.widen_reading.Goals as goal

pub returns-in_err-count : goal.returns-in_err-count
returns-in_err-count c =
    let p = err_from_is_err_and c.from_residual.result c.from_residual.ensures.1 in
    let k = over_refused c.args.old.now c.args.wide.now c.in_err-count.ensures in
    rw (p.1, p.2) (record { answer = k.count; wide_after = k.content })

pub loop-stored-init : goal.loop-stored-init
loop-stored-init c =
    let e = c.chunks_exact-stored-items.ensures in
    let room = over_room c.args.old.now c.args.wide.now c.in_ok-count.ensures in
    rw (c.into_iter-stored-iterator.ensures.into_iter_gives, e.rest) (record { size = e.size; bytes = λ i. omega (arith, c.type_inv.old i); room = omega (arith, room); putting = start_putting _ _ })

pub overflow_add-to : goal.overflow_add-to
overflow_add-to c =
    let k = c.loop-stored.invariant in
    let s = c.in-Some.ensures.steps in
    let n = s.1.1 ∙ k.size in
    let step = wide_step c.in-Some.stored.now c.next.new.self.rest.now s.1.0 n (bytes_step c.in-Some.stored.now _ s.1.0 n k.bytes).0 in
    omega (arith, k.room, ap length step)

pub slice_bounds-copy_from_slice-end : goal.slice_bounds-copy_from_slice-end
slice_bounds-copy_from_slice-end c =
    let k = c.loop-stored.invariant in
    let s = c.in-Some.ensures.steps in
    let n = s.1.1 ∙ k.size in
    let step = wide_step c.in-Some.stored.now c.next.new.self.rest.now s.1.0 n (bytes_step c.in-Some.stored.now _ s.1.0 n k.bytes).0 in
    omega (arith, k.room, ap length step)

pub loop-stored-preserved : goal.loop-stored-preserved
loop-stored-preserved c =
    let k = c.loop-stored.invariant in
    let s = c.in-Some.ensures.steps in
    let x = c.in-Some.stored.now in
    let n = s.1.1 ∙ k.size in
    let bytes = bytes_step x _ s.1.0 n k.bytes in
    let step = wide_step x c.next.new.self.rest.now s.1.0 n bytes.0 in
    let some = get_or x 0 0 ∷ get_or x 1 0 ∷ get_or x 2 0 ∷ 0 ∷ [] in
    record {
      size = s.0 ∙ k.size;
      bytes = bytes.1;
      room = omega (arith, k.room, ap length step);
      putting =
          put_on k.putting some (bytes_of c.next.new.self.rest.now) step
          (part_sets c.loop-stored.wide some c.loop-stored.to (c.loop-stored.to + entry_bytes) c.copy_from_slice.ensures.after (omega arith) (omega (arith, k.room, ap length step)));
    }

pub returns : goal.returns
returns c =
    let k = c.loop-stored.invariant in
    let done = no_bytes c.loop-stored.stored-iterator.rest.now (omega (arith, c.in-None.ensures.steps.1.0, k.size)) in
    let t = over_told c.args.old.now c.args.wide.now c.in_ok-count.ensures (put_done k.putting done) in
    record { answer = t.count; wide_after = t.content }
