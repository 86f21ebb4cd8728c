-- `verdict_nogoods::put_reductions` meets its contract. Assumes nothing.
use Rattle.std.proofs.Common.{arith}
use native.Mathlib.Nat.{pos_of_ne-zero}
use Rattle.verdict_nogoods.proofs.TableLaws.{put_start, put_past, put_on, put_room}
use Rattle.verdict_nogoods.proofs.put_reductions.Goals as goal
use Rattle.verdict_nogoods.proofs.put_reductions.Goals.{then-reduction-ne0, else-reduction-ne0}

pub loop-reduction-init : goal.loop-reduction-init
loop-reduction-init c = put_start _ _ _

pub bounds-words-p : goal.bounds-words-p
bounds-words-p c = let room = put_room c.loop-reduction.invariant c.requires.few c.loop-reduction-test.true (pos_of_ne-zero c.if-reduction-ne0.true) in
    omega (arith, room)

pub overflow_add-words-then-reduction-ne0 : goal.overflow_add-words-then-reduction-ne0
overflow_add-words-then-reduction-ne0 c = let room = put_room c.loop-reduction.invariant c.requires.few c.loop-reduction-test.true (pos_of_ne-zero c.if-reduction-ne0.true) in
    omega (arith, room)

pub offset_bounds-words-p : goal.offset_bounds-words-p
offset_bounds-words-p c = let room = put_room c.loop-reduction.invariant c.requires.few c.loop-reduction-test.true (pos_of_ne-zero c.if-reduction-ne0.true) in
    omega (arith, room)

pub overflow_add-d : goal.overflow_add-d
overflow_add-d c = let room = put_room c.loop-reduction.invariant c.requires.few c.loop-reduction-test.true (pos_of_ne-zero c.if-reduction-ne0.true) in
    omega (arith, room)

pub loop-reduction-preserved : goal.loop-reduction-preserved
loop-reduction-preserved c = elim c.if-reduction-ne0.branch [
  | then-reduction-ne0 w ↦ let is_one = pos_of_ne-zero w.if-reduction-ne0.true in
      let room = put_room c.loop-reduction.invariant c.requires.few c.loop-reduction-test.true is_one in
      rw (w.words-is, w.d-is) (put_on c.loop-reduction.invariant (omega arith) room is_one)
  | else-reduction-ne0 w ↦ rw (w.words-is, w.d-is) (put_past c.loop-reduction.invariant w.if-reduction-ne0.false)
]
