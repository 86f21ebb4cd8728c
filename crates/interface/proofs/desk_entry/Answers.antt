-- `interface::desk_entry` meets its contract. Assumes nothing.
use mathlib.Core.Path.{sym}
use native.Mathlib.Omega.{arith}
use Rattle.interface.proofs.CodeLaws.{entry_there, entry_placed, entry_lies}
use Rattle.interface.proofs.desk_entry.Goals as goal

pub overflow_sub-result : goal.overflow_sub-result
overflow_sub-result c =
    let there = entry_there c.args.reading.now c.args.number (sym (rw c.in_default.is at c.entry_refusal.ensures)) in
    (entry_lies c.args.reading.now _ there).0

pub overflow_mul-result : goal.overflow_mul-result
overflow_mul-result c =
    let there = entry_lies c.args.reading.now _ (entry_there _ _ (sym (rw c.in_default.is at c.entry_refusal.ensures))) in
    omega (arith, c.well_formed)

pub overflow_add-result : goal.overflow_add-result
overflow_add-result c =
    let there = entry_lies c.args.reading.now _ (entry_there _ _ (sym (rw c.in_default.is at c.entry_refusal.ensures))) in
    omega (arith, c.well_formed)

pub returns : goal.returns
returns c = entry_placed _ _ (entry_there c.args.reading.now c.args.number (sym (rw c.in_default.is at c.entry_refusal.ensures)))
