-- `recording_list::fill` meets its contract. The invariant: the items so far stand at the start. Assumes nothing.
use Rattle.std.proofs.Common.{◌≡◌, ◌+◌, ◌≤◌, ◌++◌, length, drop}
use Rattle.recording_list.proofs.fill.Given as goal

abbrev pub invariant-loop-item : goal.invariant-loop-item
invariant-loop-item g l =
    (goal.iterator-loop-item g).can_next l.item-iterator ×
    (goal.iterator-loop-item g).is_finite l.item-iterator ×
    (l.place ≡ length l.yielded) ×
    (l.place + (goal.iterator-loop-item g).remaining l.item-iterator ≤ length l.list) ×
    (l.list ≡ l.yielded ++ drop (length l.yielded) l.initial.list)
