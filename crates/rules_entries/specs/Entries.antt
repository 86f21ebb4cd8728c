-- Inner: a reading with an entry put into it. Nobody has to believe it: no public contract cites it.
-- Assumes nothing.
use Rattle.std.specs.Prelude.{List, ℕ, ◌+◌, ◌*◌, ◌/◌, ◌%◌, set}
use Rattle.rules.specs.Reading.{byte_values, entry_bytes}

-- the entry of index j as its four bytes
abbrev pub with_entry : List ℕ → ℕ → ℕ → ℕ → ℕ → List ℕ
with_entry reading j kind week carrier =
    set (set (set (set reading (entry_bytes * j) kind) (entry_bytes * j + 1) week) (entry_bytes * j + 2) (carrier % byte_values)) (entry_bytes * j + 3) (carrier / byte_values)
