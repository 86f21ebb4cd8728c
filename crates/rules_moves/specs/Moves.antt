-- Public: stored readings, of three bytes an entry, are carried over to the form of four bytes an entry and back.
-- Assumes nothing.
use Rattle.std.specs.Prelude.{Bool, false, not, List, [], ◌∷◌, ℕ, ◌%◌, ltb, eqb, length}
use Rattle.recording.specs.Tests.{◌or◌}
use Rattle.recording.specs.Answers.{Answer, answered, refuse_if}
use Rattle.rules.specs.Reading.{entry_fields, entry_bytes, fields_in, bytes_of}

-- The entry of a stored reading has a byte for each field: kind, week, carrier. So its bytes are its fields.
abbrev pub stored_bytes : ℕ
stored_bytes = entry_fields

-- Both moves refuse with 6 a count of bytes that does not divide into entries, and then with 4 a target that is too short. Here for a target of `room`
-- bytes; `counted` and `filled` of it are the result and the target.
unfoldable pub reading_widened : List ℕ → ℕ → Answer (List ℕ)
reading_widened old room =
    refuse_if (not (eqb (length old % stored_bytes) 0)) 6
    (refuse_if (ltb room (length (bytes_of old))) 4
    (answered (bytes_of old)))

-- Fields that no stored reading of twelve weeks has: a week over 11, or a carrier over 255.
abbrev pub stored_week_at_most : ℕ
stored_week_at_most = 11

abbrev pub stored_carrier_at_most : ℕ
stored_carrier_at_most = 255

unfoldable pub too_large : List ℕ → Bool
too_large [] = false
too_large (kind ∷ []) = false
too_large (kind ∷ week ∷ []) = false
too_large (kind ∷ week ∷ carrier ∷ fields) = ltb stored_week_at_most week or ltb stored_carrier_at_most carrier or too_large fields

-- The move back refuses last with 15 a reading with such a field.
unfoldable pub reading_narrowed : List ℕ → ℕ → Answer (List ℕ)
reading_narrowed wide room =
    refuse_if (not (eqb (length wide % entry_bytes) 0)) 6
    (refuse_if (ltb room (length (fields_in wide))) 4
    (refuse_if (too_large (fields_in wide)) 15
    (answered (fields_in wide))))
