-- Public: document 01, "Readings", what a reading says of each long rest; in the bytes of document 02, request 7.
-- "All differences below are whole numbers and may be negative": none is formed; a term that is taken away stands on the other side instead.
-- Assumes nothing.
use Rattle.std.specs.Prelude.{Bool, true, false, List, [], ◌∷◌, ℕ, zero, suc, ◌+◌, ◌-◌, ◌*◌, ◌/◌, ◌%◌, leb, ltb, eqb, length, get_or, drop}
use Rattle.recording.specs.Tests.{pick}
use Rattle.recording.specs.Rests.{length_of, long_rests}
use Rattle.recording.specs.declared.Span.{Span}
use Rattle.rules.specs.declared.Standing.{Standing}
use Rattle.rules.specs.declared.Standing.TheVariants.{Regular, Reduced}
use Rattle.rules.specs.declared.Kind.{Kind}
use Rattle.rules.specs.declared.Kind.TheVariants.{Daily, Weekly}

-- A long rest with its entry: its number from 1, P at its start, its minutes, and the entry's fields, of which the last is the carrier,
-- the rest that compensates for it; and the compensation that it gives itself, the document's load.
pub record Entry : Type 0 where
  pub number : ℕ
  pub before : ℕ
  pub span : Span
  pub kind : ℕ
  pub week : ℕ
  pub compensated_by : ℕ
  pub compensation : ℕ

abbrev pub minutes : Entry → ℕ
minutes e = length_of e.span

-- "kind (0 daily, 1 weekly)"
abbrev pub daily_kind : ℕ
daily_kind = 0

abbrev pub weekly_kind : ℕ
weekly_kind = 1

-- "own = length − load. A weekly rest with own under 2,700 is reduced, with debt 2,700 − own": length under 2,700 + load, and debt
-- 2,700 + load − length. The net length is the document's own, the reduction its debt.
abbrev pub regular_minutes : ℕ
regular_minutes = 2700

abbrev pub standing_of : Bool → ℕ → Standing
standing_of true reduction = Reduced reduction
standing_of false reduction = Regular

abbrev pub kind_of : Bool → Standing → Kind
kind_of true standing = Weekly standing
kind_of false standing = Daily

-- "So each long rest is daily, regular weekly or reduced weekly."
unfoldable pub as_read : Entry → Kind
as_read e =
    kind_of (eqb e.kind weekly_kind)
    (standing_of (ltb (minutes e) (regular_minutes + e.compensation)) (regular_minutes + e.compensation - minutes e))

abbrev pub is_weekly : Kind → Bool
is_weekly Daily = false
is_weekly (Weekly s) = true

abbrev pub is_regular : Kind → Bool
is_regular Daily = false
is_regular (Weekly Regular) = true
is_regular (Weekly (Reduced d)) = false

-- ".. every other rest has debt 0"
abbrev pub reduction_of : Kind → ℕ
reduction_of Daily = 0
reduction_of (Weekly Regular) = 0
reduction_of (Weekly (Reduced d)) = d

-- "load(j) is the sum of debts of the rests whose carrier is j."
unfoldable pub compensation_of : ℕ → List Entry → ℕ
compensation_of j [] = 0
compensation_of j (e ∷ es) = pick (eqb e.compensated_by j) (reduction_of (as_read e)) 0 + compensation_of j es

-- ".. for each long rest: kind (0 daily, 1 weekly), week, carrier (0, or the number of the long rest that pays back)." These are the entry's fields. The
-- fields of a reading are those of its entries, one after the other; the rules and the order of readings go by them.
abbrev pub entry_fields : ℕ
entry_fields = 3

-- Document 02, request 7: "a reading's entry becomes four bytes: kind, week, carrier low, carrier high. .. Counts of 3 × k become 4 × k"
abbrev pub entry_bytes : ℕ
entry_bytes = 4

unfoldable pub reading_size : List ℕ → ℕ
reading_size ms = entry_bytes * length (long_rests ms)

abbrev pub byte_values : ℕ
byte_values = 256

abbrev pub carrier_of : ℕ → ℕ → ℕ
carrier_of low high = low + byte_values * high

-- the fields that the bytes of a reading say, and the bytes that say fields; a part of an entry at the end says nothing
unfoldable pub fields_in : List ℕ → List ℕ
fields_in [] = []
fields_in (kind ∷ []) = []
fields_in (kind ∷ week ∷ []) = []
fields_in (kind ∷ week ∷ low ∷ []) = []
fields_in (kind ∷ week ∷ low ∷ high ∷ bytes) = kind ∷ week ∷ carrier_of low high ∷ fields_in bytes

unfoldable pub bytes_of : List ℕ → List ℕ
bytes_of [] = []
bytes_of (kind ∷ []) = []
bytes_of (kind ∷ week ∷ []) = []
bytes_of (kind ∷ week ∷ carrier ∷ fields) = kind ∷ week ∷ carrier % byte_values ∷ carrier / byte_values ∷ bytes_of fields

-- The entry of the long rest s, of number n, with P at p, after the entries of the rests before it, where `fields` is what is left of the reading.
-- Rule 6 is read first and lets only a later rest compensate, so a rest compensates for rests that stand before it.
abbrev pub entry_of : ℕ → ℕ → List Entry → Span → List ℕ → Entry
entry_of n p earlier s fields = record {
  number = n;
  before = p;
  span = s;
  kind = get_or fields 0 0;
  week = get_or fields 1 0;
  compensated_by = get_or fields 2 0;
  compensation = compensation_of n earlier;
}

unfoldable pub entries_from : ℕ → ℕ → List Entry → List Span → List ℕ → List Entry
entries_from n p earlier [] fields = []
entries_from n p earlier (s ∷ ss) fields =
    let e = entry_of n p earlier s fields in
    e ∷ entries_from (suc n) s.end (e ∷ earlier) ss (drop entry_fields fields)

unfoldable pub entries : List Span → List ℕ → List Entry
entries rs fields = entries_from 1 0 [] rs fields

-- The fields of a reading restricted to its first k entries: a carrier past them is set to 0. Of n entries that are left
abbrev pub up_to : ℕ → ℕ → ℕ
up_to k carrier = pick (leb carrier k) carrier 0

unfoldable pub restrict_from : ℕ → ℕ → List ℕ → List ℕ
restrict_from k zero fields = []
restrict_from k (suc n) fields = get_or fields 0 0 ∷ get_or fields 1 0 ∷ up_to k (get_or fields 2 0) ∷ restrict_from k n (drop entry_fields fields)

unfoldable pub restricted : ℕ → List ℕ → List ℕ
restricted k fields = restrict_from k k fields

-- the reading itself, restricted
abbrev pub restricted_reading : ℕ → List ℕ → List ℕ
restricted_reading k reading = bytes_of (restricted k (fields_in reading))
