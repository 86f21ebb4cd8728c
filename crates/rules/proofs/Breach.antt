-- Lawful readings and the breach minute: no stretch has a lawful reading once a shorter one has none, so a minute without, after one with, is
-- the only such and the least. Assumes nothing.
use mathlib.Core.Path.{◌≡◌, refl, ap, ◌∙◌}
use mathlib.Core.Logic.{◌⊎◌, inl, inr}
use mathlib.Core.Bool.{Bool, true, false}
use mathlib.Core.List.{List, []}
use mathlib.Core.Option.{Option, none, some}
use Prim.Native.Nat.{ℕ, zero, suc, ◌+◌, ◌≤◌, ◌<◌, zero-le}
use native.Mathlib.Nat.{eq-or-lt_of_le}
use native.Mathlib.Omega.{arith}
use lib.ListN.{length}
use lib.Seq.{take-take, take-length}
use Rattle.recording.specs.Tests.{pick}
use Rattle.recording.specs.Rests.{long_rests}
use Rattle.rules.specs.Reading.{reading_size, fields_in, bytes_of, restricted}
use Rattle.rules.specs.ReadingRules.{reading_test}
use Rattle.rules.specs.Order.{Bytes, Fields, NotAfter}
use Rattle.rules.specs.Verdict.{lawful, lawful_fields, first_fields, as_bytes, first_lawful, is_none, prefix, least_from, breach_minute, article, pass, breach, verdict}
use Rattle.rules.specs.Opened.{opened}
use Rattle.rules.proofs.FirstLaws.{law_at, first_is, fields_length}
use Rattle.rules.proofs.FieldLaws.{fields_back, fields_bounded, bytes_bounded}
use Rattle.rules.proofs.Prefix.{lawful_prefix, restricted_bounded}
use Rattle.recording.proofs.TestLaws.{clash}

-- the fields of a lawful reading of a recording, and a lawful reading in its bytes
pub record Lawful (ms fields : List ℕ) : Type 0 where
  pub bounded : Fields (length (long_rests ms)) fields
  pub keeps : lawful_fields ms fields ≡ true

abbrev pub HasLawful : List ℕ → Type 0
HasLawful ms = (fields : List ℕ) × Lawful ms fields

pub record LawfulReading (ms reading : List ℕ) : Type 0 where
  pub bytes : Bytes (reading_size ms) reading
  pub keeps : lawful ms reading ≡ true

module _ (ms : List ℕ) where
  -- each is the other's
  pub lawful_bytes : {fields : List ℕ} → Lawful ms fields → LawfulReading ms (bytes_of fields)
  unfolding lawful lawful_fields reading_test reading_size
  lawful_bytes {fields} l = record {
    bytes = bytes_bounded (length (long_rests ms)) fields l.bounded;
    keeps =
        ap (λ (f : List ℕ). lawful_fields ms f) (fields_back (length (long_rests ms)) fields (fields_length (length (long_rests ms)) fields l.bounded)) ∙ l.keeps;
  }

  pub lawful_fields_law : {reading : List ℕ} → LawfulReading ms reading → Lawful ms (fields_in reading)
  unfolding lawful lawful_fields reading_test reading_size
  lawful_fields_law {reading} l = record { bounded = fields_bounded (length (long_rests ms)) reading l.bytes; keeps = l.keeps }

-- ---- the first lawful reading is sound, complete and least, and whatever is so is it: by its fields
pub record First (ms fields : List ℕ) : Type 0 where
  pub sound : Lawful ms fields
  pub least : (s : List ℕ) → Lawful ms s → NotAfter fields s

module _ (ms : List ℕ) where
  pub first_fields_law : {r : List ℕ} → first_fields ms ≡ some r → First ms r
  unfolding first_fields
  first_fields_law e =
      let f = law_at _ (lawful_fields ms) e in
      record { sound = record { bounded = f.0; keeps = f.1 }; least = λ s l. f.2 s l.bounded l.keeps }

  none_fields : first_fields ms ≡ none → HasLawful ms → ⊥
  unfolding first_fields
  none_fields e (s, l) = law_at _ (lawful_fields ms) e s l.bounded l.keeps

  -- what was found as bytes has fields that were found
  pub found_fields : {r : List ℕ} → first_lawful ms ≡ some r → (f : List ℕ) × (first_fields ms ≡ some f) × (r ≡ bytes_of f)
  unfolding first_lawful
  found_fields {r} = at (first_fields ms) refl
    where
      at : (o : Option (List ℕ)) → first_fields ms ≡ o → as_bytes o ≡ some r → (f : List ℕ) × (first_fields ms ≡ some f) × (r ≡ bytes_of f)
      at none q e = let z : ◌≡◌ {A = ℕ} 0 1 = cc in absurd (omega arith)
      at (some f) q e = (f, q, cc)

  pub first_none : first_lawful ms ≡ none → HasLawful ms → ⊥
  unfolding first_lawful
  first_none e h = at (first_fields ms) refl e
    where
      at : (o : Option (List ℕ)) → first_fields ms ≡ o → as_bytes o ≡ none → ⊥
      at none q e = none_fields q h
      at (some f) q e = let z : ◌≡◌ {A = ℕ} 0 1 = cc in omega arith

  pub is_first : {r : List ℕ} → First ms r → first_lawful ms ≡ some (bytes_of r)
  unfolding first_lawful first_fields
  is_first {r} f = ap as_bytes (first_is _ (lawful_fields ms) (some r) (f.sound.bounded, f.sound.keeps, λ s b t. f.least s (record { bounded = b; keeps = t })))

  pub is_none_law : (HasLawful ms → ⊥) → first_lawful ms ≡ none
  unfolding first_lawful first_fields
  is_none_law h = ap as_bytes (first_is _ (lawful_fields ms) none (λ s b t. h (s, record { bounded = b; keeps = t })))

  -- ---- and by its bytes: THE LAW of the first lawful reading
  pub first_sound : {r : List ℕ} → first_lawful ms ≡ some r → LawfulReading ms r
  first_sound e = let (f, q, b) = found_fields e in rw b (lawful_bytes ms (first_fields_law q).sound)

  pub first_least : {r s : List ℕ} → first_lawful ms ≡ some r → LawfulReading ms s → NotAfter (fields_in r) (fields_in s)
  first_least {s = s} e l =
      let (f, q, b) = found_fields e in
      let g = first_fields_law q in
      let k = length (long_rests ms) in
      rw (b, fields_back k f (fields_length k f g.sound.bounded)) (g.least (fields_in s) (lawful_fields_law ms l))

  pub first_complete : first_lawful ms ≡ none → (s : List ℕ) → LawfulReading ms s → ⊥
  first_complete e s l = first_none e (fields_in s, lawful_fields_law ms l)

pub some_first : (ms : List ℕ) → HasLawful ms → is_none (first_lawful ms) ≡ false
some_first ms h = at (first_lawful ms) refl
  where
    at : (o : Option (List ℕ)) → first_lawful ms ≡ o → is_none o ≡ false
    at none e = absurd (first_none ms e h)
    at (some r) e = refl

has_first : (ms : List ℕ) → is_none (first_lawful ms) ≡ false → HasLawful ms
has_first ms f = at (first_lawful ms) refl f
  where
    at : (o : Option (List ℕ)) → first_lawful ms ≡ o → is_none o ≡ false → HasLawful ms
    at none e g = clash true refl g
    at (some r) e g = let (f, q, b) = found_fields ms e in (f, (first_fields_law ms q).sound)

-- ---- stretches
pub prefix_lawful : (m : ℕ) (ms : List ℕ) → HasLawful ms → HasLawful (prefix m ms)
prefix_lawful m ms (r, l) = (
  restricted (length (long_rests (prefix m ms))) r,
  record {
    bounded = restricted_bounded (length (long_rests (prefix m ms))) (length (long_rests ms)) r l.bounded;
    keeps = lawful_prefix m ms r l.keeps;
  },
)

pub shorter_lawful : (ms : List ℕ) (m n : ℕ) → m ≤ n → HasLawful (prefix n ms) → HasLawful (prefix m ms)
shorter_lawful ms m n h l = rw (take-take m n ms h) at (prefix_lawful m (prefix n ms) l)

-- ---- the breach minute. m + 1 is one without a lawful reading, after one with
module _ (ms : List ℕ) (m : ℕ) (before : HasLawful (prefix m ms)) (now : first_lawful (prefix (suc m) ms) ≡ none) where
  here_or_after : (c b : ℕ) → (b ≡ suc m) ⊎ (b < suc m) → (b < suc m → least_from ms c (suc b) ≡ suc m)
      → pick (is_none (first_lawful (prefix b ms))) b (least_from ms c (suc b)) ≡ suc m
  here_or_after c b (inl e) i = rw (e, now)
  here_or_after c b (inr l) i = rw (some_first (prefix b ms) (shorter_lawful ms b m (omega arith) before)) (i l)

  least_at : (c b : ℕ) → b ≤ suc m → suc m ≤ b + c → least_from ms c b ≡ suc m
  unfolding least_from
  least_at zero b h l = omega arith
  least_at (suc c) b h l = here_or_after c b (eq-or-lt_of_le h) (λ u. least_at c (suc b) u (omega arith))

  pub breach_at : suc m ≤ length ms → breach_minute ms ≡ suc m
  unfolding breach_minute
  breach_at h = least_at (length ms) 0 zero-le (omega arith)

  whole_none : HasLawful ms → ⊥
  whole_none l = first_none (prefix (suc m) ms) now (prefix_lawful (suc m) ms l)

  pub verdict-breach : suc m ≤ length ms → verdict ms ≡ breach (suc m) (article (prefix (suc m) ms))
  unfolding verdict
  verdict-breach h = rw (is_none_law ms whole_none, breach_at h)

pub verdict-pass : (ms r : List ℕ) → first_lawful ms ≡ some r → verdict ms ≡ pass r
unfolding verdict
verdict-pass ms r e = rw e

-- ---- the other way: of a recording with no lawful reading, the breach minute has none and every shorter stretch has one
pub record Breach (ms : List ℕ) (m : ℕ) : Type 0 where
  pub within : m ≤ length ms
  pub none_there : HasLawful (prefix m ms) → ⊥
  pub shorter : (n : ℕ) → n < m → HasLawful (prefix n ms)

empty_lawful : HasLawful []
unfolding opened
empty_lawful = ([], record { bounded = tt; keeps = refl })

module _ (ms : List ℕ) where
  found : (c b : ℕ) → b + c ≡ length ms → (HasLawful ms → ⊥) → ((n : ℕ) → n < b → HasLawful (prefix n ms)) → Breach ms (least_from ms c b)
  unfolding least_from
  found zero b e h f =
      let z : b ≡ length ms = omega arith in
      record { within = omega arith; none_there = λ l. h (rw (z, take-length ms) at l); shorter = f }
  found (suc c) b e h f = at (is_none (first_lawful (prefix b ms))) refl (λ g. found c (suc b) (omega arith) h g)
    where
      earlier : HasLawful (prefix b ms) → (n : ℕ) → (n ≡ b) ⊎ (n < b) → HasLawful (prefix n ms)
      earlier l n (inl p) = rw p l
      earlier l n (inr p) = f n p

      nowhere : (o : Option (List ℕ)) → first_lawful (prefix b ms) ≡ o → is_none o ≡ true → HasLawful (prefix b ms) → ⊥
      nowhere none q t l = first_none (prefix b ms) q l
      nowhere (some r) q t l = clash (is_none (some r)) t refl

      at : (t : Bool) → is_none (first_lawful (prefix b ms)) ≡ t → (((n : ℕ) → n < suc b → HasLawful (prefix n ms)) → Breach ms (least_from ms c (suc b)))
          → Breach ms (pick t b (least_from ms c (suc b)))
      at true t i = record { within = omega arith; none_there = nowhere _ refl t; shorter = f }
      at false t i = i (λ n l. earlier (has_first (prefix b ms) t) n (eq-or-lt_of_le (omega arith)))

  pub breach_is : (HasLawful ms → ⊥) → Breach ms (breach_minute ms)
  unfolding breach_minute
  breach_is h = found (length ms) 0 (omega arith) h (λ n l. absurd (omega arith))

  -- it is the only m that has no lawful reading while m − 1 has one
  pub only_breach : (m : ℕ) → suc m ≤ length ms → HasLawful (prefix m ms) → (HasLawful (prefix (suc m) ms) → ⊥) → breach_minute ms ≡ suc m
  only_breach m h l n = breach_at ms m l (is_none_law (prefix (suc m) ms) n) h

  -- and it is no minute 0, since the empty stretch has one
  pub breach_after : (HasLawful ms → ⊥) → (m : ℕ) × (breach_minute ms ≡ suc m)
  breach_after h = at (breach_minute ms) (breach_is h)
    where
      at : (b : ℕ) → Breach ms b → (m : ℕ) × (b ≡ suc m)
      at zero k = absurd (k.none_there empty_lawful)
      at (suc m) k = (m, refl)
