-- `rules_entries::put_entry` meets its contract. Assumes nothing.
use mathlib.Core.Path.{◌≡◌, ◌∙◌}
use mathlib.Core.List.{[], ◌∷◌}
use Prim.Native.Nat.{suc, ◌+◌, ◌*◌, ◌/◌, ◌%◌}
use native.Mathlib.Omega.{arith}
use Rattle.rules.specs.Reading.{byte_values, entry_bytes}
use Rattle.rules_entries.proofs.Parts.{part_sets}
use Rattle.rules_entries.proofs.put_entry.Goals as goal

pub returns : goal.returns
returns c =
    let a = c.args in
    let at = entry_bytes * a.index in
    let two : suc at ≡ at + 1 = omega arith in
    let three : suc (at + 1) ≡ at + 2 = omega arith in
    let four : suc (at + 2) ≡ at + 3 = omega arith in
    part_sets a.reading.now (a.kind ∷ a.week ∷ a.carrier % byte_values ∷ a.carrier / byte_values ∷ []) at (at + entry_bytes) c.copy_from_slice.ensures.after (omega arith) (omega arith)
    ∙ rw (two, three, four)
