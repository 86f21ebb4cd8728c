-- The moves of stored readings: each entry says the same before and after; and where no week is over 11, over and back gives the old bytes.
-- Assumes nothing.
use mathlib.Core.Path.{◌≡◌, refl, ap, ◌∙◌}
use mathlib.Core.Bool.{Bool, true, false, not}
use mathlib.Core.List.{List, [], ◌∷◌}
use Prim.Native.Nat.{ℕ, suc, ◌+◌, ◌*◌, ◌/◌, ◌%◌, ◌≤◌, ◌<◌}
use native.Mathlib.Omega.{arith}
use lib.Dec.{ltb, eqb}
use lib.ListN.{length, get_or}
use borrow.Author.Tests.{eqb-true, eq-eqb, ltb-false, le-ltb, not-false}
use Rattle.recording.specs.Tests.{◌or◌}
use Rattle.recording.specs.Answers.{Answer, refused, answered, refuse_if, counted}
use Rattle.recording.specs.declared.Span.{Span}
use Rattle.rules.specs.Reading.{entry_bytes, byte_values, fields_in, bytes_of, entries}
use Rattle.rules.specs.ReadingRules.{fields_test, reading_test}
use Rattle.rules.specs.Verdict.{lawful, lawful_fields}
use Rattle.rules.specs.Order.{Bytes}
use Rattle.rules_moves.specs.Moves.{stored_bytes, stored_week_at_most, stored_carrier_at_most, too_large, reading_widened, reading_narrowed}
use Rattle.rules.proofs.FieldLaws.{fields_back, bytes_back, bytes_size, fields_size}

-- ---- each entry says the same kind, week and carrier before and after
module _ (old : List ℕ) (n : ℕ) (whole : length old ≡ stored_bytes * n) where
  pub same_fields : fields_in (bytes_of old) ≡ old
  same_fields = fields_back n old whole

  pub same_entries : (rs : List Span) → entries rs (fields_in (bytes_of old)) ≡ entries rs old
  same_entries rs = ap (entries rs) same_fields

  -- so an old reading is lawful in the new form exactly when it was in the old one, in which its bytes are its fields: of every recording, and of one of
  -- twelve weeks in particular
  pub same_test : (ms : List ℕ) → reading_test ms (bytes_of old) ≡ fields_test ms old
  unfolding reading_test
  same_test ms = ap (fields_test ms) same_fields

  pub same_lawful : (ms : List ℕ) → lawful ms (bytes_of old) ≡ lawful_fields ms old
  unfolding lawful lawful_fields
  same_lawful ms = ap (λ (rule : ℕ). eqb rule 0) (same_test ms)

-- ---- what an answer says of the tests before it
record Passed (b : Bool) (later : Answer (List ℕ)) (bytes : List ℕ) : Type 0 where
  holds : b ≡ false
  then : later ≡ answered bytes

passed : (b : Bool) (n : ℕ) {later : Answer (List ℕ)} {bytes : List ℕ} → refuse_if b n later ≡ answered bytes → Passed b later bytes
passed true n e = let z : ◌≡◌ {A = ℕ} 0 1 = cc in absurd (omega arith)
passed false n e = record { holds = refl; then = e }

no_part : (part : ℕ) → not (eqb part 0) ≡ false → part ≡ 0
no_part part e = eqb-true part 0 (not-false _ e)

-- a reading that is carried over, and one that is carried back
pub record Widened (old : List ℕ) (room : ℕ) (wide : List ℕ) : Type 0 where
  pub whole : length old ≡ stored_bytes * (length old / stored_bytes)
  pub bytes : wide ≡ bytes_of old
  pub count : length wide ≡ entry_bytes * (length old / stored_bytes)
  pub enough : length wide ≤ room

pub widened_is : {old wide : List ℕ} (room : ℕ) → reading_widened old room ≡ answered wide → Widened old room wide
unfolding reading_widened
widened_is {old} {wide} room e =
    let p = passed (not (eqb (length old % stored_bytes) 0)) _ e in
    let q = passed (ltb room (length (bytes_of old))) _ p.then in
    let is : wide ≡ bytes_of old = cc q.then in
    let part = no_part (length old % stored_bytes) p.holds in
    let whole : length old ≡ stored_bytes * (length old / stored_bytes) = omega arith in
    record { whole = whole; bytes = is; count = ap length is ∙ bytes_size _ old whole; enough = rw is (ltb-false _ _ q.holds) }

pub record Narrowed (wide : List ℕ) (room : ℕ) (old : List ℕ) : Type 0 where
  pub whole : length wide ≡ entry_bytes * (length wide / entry_bytes)
  pub fields : old ≡ fields_in wide
  pub count : length old ≡ stored_bytes * (length wide / entry_bytes)
  pub enough : length old ≤ room
  pub small : too_large (fields_in wide) ≡ false

pub narrowed_is : {wide old : List ℕ} (room : ℕ) → reading_narrowed wide room ≡ answered old → Narrowed wide room old
unfolding reading_narrowed
narrowed_is {wide} {old} room e =
    let p = passed (not (eqb (length wide % entry_bytes) 0)) _ e in
    let q = passed (ltb room (length (fields_in wide))) _ p.then in
    let r = passed (too_large (fields_in wide)) _ q.then in
    let is : old ≡ fields_in wide = cc r.then in
    let part = no_part (length wide % entry_bytes) p.holds in
    let whole : length wide ≡ entry_bytes * (length wide / entry_bytes) = omega arith in
    record { whole = whole; fields = is; count = ap length is ∙ fields_size _ wide whole; enough = rw is (ltb-false _ _ q.holds); small = r.holds }

-- the count that a move answers is at most that of the target's bytes
within : {room n : ℕ} (answer : Answer (List ℕ)) → ((new : List ℕ) → answer ≡ answered new → length new ≤ room) → counted answer ≡ answered n → n ≤ room
within (refused m) h e = let z : ◌≡◌ {A = ℕ} 0 1 = cc in absurd (omega arith)
within {room} {n} (answered new) h e = let z : length new ≡ n = cc in omega (arith, h new refl)

module _ {n : ℕ} where
  pub widened_within : (old : List ℕ) (room : ℕ) → counted (reading_widened old room) ≡ answered n → n ≤ room
  widened_within old room = within (reading_widened old room) (λ new e. (widened_is room e).enough)

  pub narrowed_within : (wide : List ℕ) (room : ℕ) → counted (reading_narrowed wide room) ≡ answered n → n ≤ room
  narrowed_within wide room = within (reading_narrowed wide room) (λ new e. (narrowed_is room e).enough)

-- ---- over and back
-- No week is over 11: of the entry of any index; past the last there is none.
abbrev pub WeeksStored : List ℕ → Type 0
WeeksStored old = (i : ℕ) → get_or old (stored_bytes * i + 1) 0 ≤ stored_week_at_most

entry_past : (i : ℕ) → stored_bytes * suc i + 1 ≡ suc (suc (suc (stored_bytes * i + 1)))
entry_past i = omega arith

weeks_later : (kind week carrier : ℕ) (old : List ℕ) → WeeksStored (kind ∷ week ∷ carrier ∷ old) → WeeksStored old
weeks_later kind week carrier old h i = rw (entry_past i) at (h (suc i))

small : (old : List ℕ) → Bytes (length old) old → WeeksStored old → too_large old ≡ false
unfolding too_large ◌or◌
small [] b h = refl
small (kind ∷ []) b h = refl
small (kind ∷ week ∷ []) b h = refl
small (kind ∷ week ∷ carrier ∷ old) b h =
    let byte : carrier < byte_values = b.1.1.0 in
    rw (le-ltb stored_week_at_most week (h 0), le-ltb stored_carrier_at_most carrier (omega arith), small old b.1.1.1 (weeks_later kind week carrier old h))

pub over_and_back : (old wide : List ℕ) (room room' : ℕ) → Bytes (length old) old → WeeksStored old → reading_widened old room ≡ answered wide → length old ≤ room'
    → reading_narrowed wide room' ≡ answered old
unfolding reading_narrowed
over_and_back old wide room room' b h e l =
    let k = widened_is room e in
    let n = length old / stored_bytes in
    let part : length (bytes_of old) % entry_bytes ≡ 0 = omega (arith, bytes_size n old k.whole) in
    rw (k.bytes, same_fields old n k.whole, eq-eqb _ 0 part, le-ltb room' (length old) l, small old b h)

-- ---- back and over
pub back_and_over : (wide old : List ℕ) (room room' : ℕ) → Bytes (length wide) wide → reading_narrowed wide room ≡ answered old → length wide ≤ room'
    → reading_widened old room' ≡ answered wide
unfolding reading_widened
back_and_over wide old room room' b e l =
    let k = narrowed_is room e in
    let n = length wide / entry_bytes in
    let part : length (fields_in wide) % stored_bytes ≡ 0 = omega (arith, fields_size n wide k.whole) in
    rw (k.fields, bytes_back n wide (rw k.whole at b), eq-eqb _ 0 part, le-ltb room' (length wide) l)
