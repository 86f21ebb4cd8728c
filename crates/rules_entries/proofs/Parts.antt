-- A part of a list that is written over. Assumes nothing.
use mathlib.Core.Path.{◌≡◌, sym, ap, ◌∙◌}
use mathlib.Core.List.{List, ◌++◌, append_assoc}
use Prim.Native.Nat.{ℕ, ◌+◌, ◌-◌, ◌≤◌}
use native.Mathlib.Omega.{arith}
use lib.ListN.{length, take, drop}
use lib.Seq.{drop-drop, sets, sets-eq}
use borrow.Rule.Slice.PartMut.{put_mid}

-- from a place to an end, where the part is as long as what is put there
pub part_sets : (l vs : List ℕ) (at end : ℕ) {part : List ℕ} → part ≡ vs → end ≡ at + length vs → end ≤ length l → put_mid at (end - at) l part ≡ sets l at vs
part_sets l vs at end p e h =
    let z : at + (end - at) ≡ at + length vs = omega arith in
    rw p (ap (λ (r : List ℕ). take at l ++ (vs ++ r)) (drop-drop (end - at) at l ∙ ap (λ (n : ℕ). drop n l) z))
    ∙ sym (sets-eq vs l at (omega arith) ∙ append_assoc (take at l) vs (drop (at + length vs) l))
