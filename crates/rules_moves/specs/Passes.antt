-- Inner: what the functions of this layer answer. Nobody has to believe it: no public contract cites it.
-- Assumes nothing.
use Rattle.std.specs.Prelude.{not, List, [], ◌∷◌, ℕ, ◌/◌, ◌%◌, ltb, eqb}
use Rattle.recording.specs.Answers.{Answer, answered, refuse_if, number_of}
use Rattle.recording.specs.declared.Refusal.TheVariants.{WrongByteCount, ShortReading}

-- how many entries of a size so many bytes are, where there is room for so many entries; or the refusal of a count that does not divide, or of a short target
abbrev pub entries_counted : ℕ → ℕ → ℕ → Answer ℕ
entries_counted bytes size room =
    refuse_if (not (eqb (bytes % size) 0)) (number_of WrongByteCount) (refuse_if (ltb room (bytes / size)) (number_of ShortReading) (answered (bytes / size)))

-- the bytes of a reading without each carrier's high byte: its fields, where no carrier has one
unfoldable pub low_bytes : List ℕ → List ℕ
low_bytes [] = []
low_bytes (kind ∷ []) = []
low_bytes (kind ∷ week ∷ []) = []
low_bytes (kind ∷ week ∷ low ∷ []) = []
low_bytes (kind ∷ week ∷ low ∷ high ∷ bytes) = kind ∷ week ∷ low ∷ low_bytes bytes
