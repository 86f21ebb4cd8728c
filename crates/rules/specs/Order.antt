-- Public: document 02, request 7, the order of readings; document 01, the first reading that passes a test.
-- Assumes nothing.
use Rattle.std.specs.Prelude.{◌≡◌, ◌⊎◌, Bool, true, false, List, [], ◌∷◌, ℕ, zero, suc, ◌*◌, ◌<◌, replicate}
use Rattle.std.proofs.Math.Option.{Option, none, some}
use Rattle.rules.specs.Reading.{byte_values}

-- numbers, each below its bound
abbrev pub Bounded : List ℕ → List ℕ → Type 0
Bounded [] [] = Unit {0}
Bounded [] (a ∷ r) = ⊥
Bounded (b ∷ bounds) [] = ⊥
Bounded (b ∷ bounds) (a ∷ r) = (a < b) × Bounded bounds r

-- a list of n bytes
abbrev pub Bytes : ℕ → List ℕ → Type 0
Bytes n bytes = Bounded (replicate n byte_values) bytes

-- the fields of n entries: a kind and a week of one byte each, and a carrier of two
abbrev pub carrier_values : ℕ
carrier_values = byte_values * byte_values

abbrev pub field_bounds : ℕ → List ℕ
field_bounds zero = []
field_bounds (suc n) = byte_values ∷ byte_values ∷ carrier_values ∷ field_bounds n

abbrev pub Fields : ℕ → List ℕ → Type 0
Fields n fields = Bounded (field_bounds n) fields

-- "The order of readings compares kind, then week, then carrier as a number", entry by entry; "first difference decides, smaller first." The fields r
-- are s, or stand before them.
abbrev pub NotAfter : List ℕ → List ℕ → Type 0
NotAfter [] s = Unit {0}
NotAfter (a ∷ r) [] = ⊥
NotAfter (a ∷ r) (b ∷ s) = (a < b) ⊎ ((a ≡ b) × NotAfter r s)

-- The first of the lists of numbers within bounds that pass a test, found by trying all in order. Nothing runs it: its laws say what it is.
abbrev pub if_passes : Bool → List ℕ → Option (List ℕ)
if_passes true r = some r
if_passes false r = none

abbrev pub prepend : ℕ → Option (List ℕ) → Option (List ℕ)
prepend b none = none
prepend b (some r) = some (b ∷ r)

abbrev pub or_else : Option (List ℕ) → Option (List ℕ) → Option (List ℕ)
or_else none later = later
or_else (some r) later = some r

-- of the c numbers from a on, the first after which f finds what is left
unfoldable pub first_number : (ℕ → Option (List ℕ)) → ℕ → ℕ → Option (List ℕ)
first_number f zero a = none
first_number f (suc c) a = or_else (prepend a (f a)) (first_number f c (suc a))

unfoldable pub first : List ℕ → (List ℕ → Bool) → Option (List ℕ)
first [] test = if_passes (test []) []
first (b ∷ bounds) test = first_number (λ a. first bounds (λ r. test (a ∷ r))) b 0
