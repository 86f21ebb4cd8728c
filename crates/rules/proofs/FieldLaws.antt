-- The bytes of a reading and its fields: each says the other. Assumes nothing.
use mathlib.Core.Path.{◌≡◌, refl}
use mathlib.Core.List.{List, [], ◌∷◌}
use Prim.Native.Nat.{ℕ, zero, suc, ◌+◌, ◌*◌, ◌/◌, ◌%◌, ◌<◌}
use native.Mathlib.Omega.{arith}
use lib.ListN.{length, get_or, replicate}
use Rattle.rules.specs.Reading.{entry_fields, entry_bytes, byte_values, carrier_of, fields_in, bytes_of}
use Rattle.rules.specs.Order.{Bytes, Fields}
use Rattle.rules.proofs.FirstLaws.{zero_fields}

-- the bytes of one entry more
pub entry_more : (n : ℕ) → entry_bytes * suc n ≡ suc (suc (suc (suc (entry_bytes * n))))
entry_more n = omega arith

-- ---- over and back: any fields of whole entries
pub fields_back : (n : ℕ) (fields : List ℕ) → length fields ≡ entry_fields * n → fields_in (bytes_of fields) ≡ fields
unfolding fields_in bytes_of
fields_back n [] h = refl
fields_back n (a ∷ []) h = absurd (omega arith)
fields_back n (a ∷ b ∷ []) h = absurd (omega arith)
fields_back zero (a ∷ b ∷ c ∷ fields) h = absurd (omega arith)
fields_back (suc n) (a ∷ b ∷ c ∷ fields) h =
    let carrier : carrier_of (c % byte_values) (c / byte_values) ≡ c = omega arith in
    let later = fields_back n fields (omega arith) in
    λ i. a ∷ b ∷ carrier i ∷ later i

-- ---- back and over: bytes of whole entries
pub bytes_back : (n : ℕ) (reading : List ℕ) → Bytes (entry_bytes * n) reading → bytes_of (fields_in reading) ≡ reading
unfolding fields_in bytes_of
bytes_back zero [] h = refl
bytes_back zero (a ∷ reading) h = absurd h
bytes_back (suc n) [] h = absurd (rw (entry_more n) at h)
bytes_back (suc n) (a ∷ []) h = let g = rw (entry_more n) at h in absurd g.1
bytes_back (suc n) (a ∷ b ∷ []) h = let g = rw (entry_more n) at h in absurd g.1.1
bytes_back (suc n) (a ∷ b ∷ c ∷ []) h = let g = rw (entry_more n) at h in absurd g.1.1.1
bytes_back (suc n) (a ∷ b ∷ c ∷ d ∷ reading) h =
    let g = rw (entry_more n) at h in
    let byte : c < byte_values = g.1.1.0 in
    let low : carrier_of c d % byte_values ≡ c = omega arith in
    let high : carrier_of c d / byte_values ≡ d = omega arith in
    let later = bytes_back n reading g.1.1.1.1 in
    λ i. a ∷ b ∷ low i ∷ high i ∷ later i

-- ---- each is within its bounds where the other is
pub fields_bounded : (n : ℕ) (reading : List ℕ) → Bytes (entry_bytes * n) reading → Fields n (fields_in reading)
unfolding fields_in
fields_bounded zero [] h = tt
fields_bounded zero (a ∷ reading) h = absurd h
fields_bounded (suc n) [] h = absurd (rw (entry_more n) at h)
fields_bounded (suc n) (a ∷ []) h = let g = rw (entry_more n) at h in absurd g.1
fields_bounded (suc n) (a ∷ b ∷ []) h = let g = rw (entry_more n) at h in absurd g.1.1
fields_bounded (suc n) (a ∷ b ∷ c ∷ []) h = let g = rw (entry_more n) at h in absurd g.1.1.1
fields_bounded (suc n) (a ∷ b ∷ c ∷ d ∷ reading) h =
    let g = rw (entry_more n) at h in
    let low : c < byte_values = g.1.1.0 in
    let high : d < byte_values = g.1.1.1.0 in
    (g.0, (g.1.0, (omega arith, fields_bounded n reading g.1.1.1.1)))

pub bytes_bounded : (n : ℕ) (fields : List ℕ) → Fields n fields → Bytes (entry_bytes * n) (bytes_of fields)
unfolding bytes_of
bytes_bounded zero [] h = tt
bytes_bounded zero (a ∷ fields) h = absurd h
bytes_bounded (suc n) [] h = absurd h
bytes_bounded (suc n) (a ∷ []) h = absurd h.1
bytes_bounded (suc n) (a ∷ b ∷ []) h = absurd h.1.1
bytes_bounded (suc n) (a ∷ b ∷ c ∷ fields) h =
    let carrier : c < byte_values * byte_values = h.1.1.0 in
    rw (entry_more n) (h.0, (h.1.0, (omega arith, (omega arith, bytes_bounded n fields h.1.1.1))))

-- ---- how many there are
pub bytes_size : (n : ℕ) (fields : List ℕ) → length fields ≡ entry_fields * n → length (bytes_of fields) ≡ entry_bytes * n
unfolding bytes_of
bytes_size zero [] h = refl
bytes_size (suc n) [] h = absurd (omega arith)
bytes_size n (a ∷ []) h = absurd (omega arith)
bytes_size n (a ∷ b ∷ []) h = absurd (omega arith)
bytes_size zero (a ∷ b ∷ c ∷ fields) h = absurd (omega arith)
bytes_size (suc n) (a ∷ b ∷ c ∷ fields) h = let later = bytes_size n fields (omega arith) in omega arith

pub fields_size : (n : ℕ) (reading : List ℕ) → length reading ≡ entry_bytes * n → length (fields_in reading) ≡ entry_fields * n
unfolding fields_in
fields_size zero [] h = refl
fields_size (suc n) [] h = absurd (omega arith)
fields_size n (a ∷ []) h = absurd (omega arith)
fields_size n (a ∷ b ∷ []) h = absurd (omega arith)
fields_size n (a ∷ b ∷ c ∷ []) h = absurd (omega arith)
fields_size zero (a ∷ b ∷ c ∷ d ∷ reading) h = absurd (omega arith)
fields_size (suc n) (a ∷ b ∷ c ∷ d ∷ reading) h = let later = fields_size n reading (omega arith) in omega arith

-- ---- the fields of the entry of index i, from its bytes
pub record EntryFields (reading : List ℕ) (i : ℕ) : Type 0 where
  pub kind : get_or (fields_in reading) (entry_fields * i) 0 ≡ get_or reading (entry_bytes * i) 0
  pub week : get_or (fields_in reading) (entry_fields * i + 1) 0 ≡ get_or reading (entry_bytes * i + 1) 0
  pub carrier : get_or (fields_in reading) (entry_fields * i + 2) 0 ≡ carrier_of (get_or reading (entry_bytes * i + 2) 0) (get_or reading (entry_bytes * i + 3) 0)

field_past : (n j : ℕ) → entry_fields * suc n + j ≡ suc (suc (suc (entry_fields * n + j)))
field_past n j = omega arith

byte_past : (n j : ℕ) → entry_bytes * suc n + j ≡ suc (suc (suc (suc (entry_bytes * n + j))))
byte_past n j = omega arith

pub entry_fields_law : (i : ℕ) (reading : List ℕ) → entry_bytes * i + 3 < length reading → EntryFields reading i
unfolding fields_in
entry_fields_law i [] h = absurd (omega arith)
entry_fields_law i (a ∷ []) h = absurd (omega arith)
entry_fields_law i (a ∷ b ∷ []) h = absurd (omega arith)
entry_fields_law i (a ∷ b ∷ c ∷ []) h = absurd (omega arith)
entry_fields_law zero (a ∷ b ∷ c ∷ d ∷ reading) h = record { kind = refl; week = refl; carrier = refl }
entry_fields_law (suc i) (a ∷ b ∷ c ∷ d ∷ reading) h =
    let e = entry_fields_law i reading (omega arith) in
    let first : entry_fields * suc i ≡ suc (suc (suc (entry_fields * i))) = omega arith in
    record {
      kind = rw (first, entry_more i) e.kind;
      week = rw (field_past i 1, byte_past i 1) e.week;
      carrier = rw (field_past i 2, byte_past i 2, byte_past i 3) e.carrier;
    }

-- ---- zeros
pub zeros_bytes : (n : ℕ) → bytes_of (zero_fields n) ≡ replicate (entry_bytes * n) 0
unfolding bytes_of
zeros_bytes zero = refl
zeros_bytes (suc n) = let later = zeros_bytes n in rw (entry_more n) (λ i. 0 ∷ 0 ∷ 0 ∷ 0 ∷ later i)
