-- Where no long rest is long enough for a weekly one, rule 6 admits one reading only: all daily, all zeros.
-- Assumes nothing.
use mathlib.Core.Path.{◌≡◌, refl, sym, ap, subst, ◌∙◌}
use mathlib.Core.Logic.{◌⊎◌, inl, inr}
use mathlib.Core.Bool.{Bool, true, false}
use mathlib.Core.List.{List, [], ◌∷◌}
use mathlib.Core.Option.{none, some}
use Prim.Native.Nat.{ℕ, suc, ◌≤◌, ◌<◌}
use native.Mathlib.Omega.{arith}
use lib.Dec.{ltb, eqb}
use lib.ListN.{length, replicate}
use borrow.Author.Tests.{leb-true, ltb-true, eqb-true}
use Rattle.recording.specs.Tests.{all_of}
use Rattle.recording.specs.Rests.{length_of, long_rests}
use Rattle.recording.specs.declared.Span.{Span}
use Rattle.recording.proofs.TestLaws.{and_left, and_right, or_cases, clash}
use Rattle.rules.specs.Reading.{Entry, minutes, weekly_kind, reading_size, fields_in, bytes_of, entry_of, entries_from, entries}
use Rattle.rules.specs.ReadingRules.{formed_daily, formed_weekly, formed, weekly_length, rule6, reading_test}
use Rattle.rules.specs.Order.{Fields}
use Rattle.rules.specs.Verdict.{lawful, lawful_fields, first_lawful}
use Rattle.rules.proofs.FirstLaws.{fields_length, zero_fields, zero_fields_law, zeros_first}
use Rattle.rules.proofs.FieldLaws.{fields_back, zeros_bytes}
use Rattle.rules.proofs.RuleLaws.{lawful_rules}
use Rattle.rules.proofs.Breach.{Lawful, is_first, is_none_law}

abbrev pub never_weekly : Span → Bool
never_weekly r = ltb (length_of r) weekly_length

-- the reading in which every rest is daily, in its fields and in its bytes
abbrev pub daily_fields : List ℕ → List ℕ
daily_fields ms = zero_fields (length (long_rests ms))

abbrev pub all_daily : List ℕ → List ℕ
all_daily ms = replicate (reading_size ms) 0

daily_entry : (k : ℕ) (e : Entry) → minutes e < weekly_length → formed k e ≡ true → (e.kind ≡ 0) × (e.week ≡ 0) × (e.compensated_by ≡ 0)
unfolding formed formed_daily formed_weekly
daily_entry k e h t = at (or_cases (formed_daily e) (formed_weekly k e) t)
  where
    at : (formed_daily e ≡ true) ⊎ (formed_weekly k e ≡ true) → (e.kind ≡ 0) × (e.week ≡ 0) × (e.compensated_by ≡ 0)
    at (inl d) =
        let d1 = and_left _ _ d in
        let kind0 = and_left _ _ d1 in
        let week0 = and_right _ _ d1 in
        let carrier0 = and_right _ _ d in
        (eqb-true e.kind 0 kind0, eqb-true e.week 0 week0, eqb-true e.compensated_by 0 carrier0)
    at (inr w) =
        let w1 = and_left _ _ w in
        let w2 = and_left _ _ w1 in
        let l : weekly_length ≤ minutes e = leb-true weekly_length (minutes e) (and_right (eqb e.kind weekly_kind) _ w2) in
        absurd (omega arith)

all_zeros : (k n p : ℕ) (earlier : List Entry) (rs : List Span) (fields : List ℕ) → all_of never_weekly rs ≡ true → Fields (length rs) fields
    → rule6 k (entries_from n p earlier rs fields) ≡ true → fields ≡ zero_fields (length rs)
unfolding all_of entries_from rule6
all_zeros k n p earlier [] [] s h t = refl
all_zeros k n p earlier [] (a ∷ fields) s h t = absurd h
all_zeros k n p earlier (r ∷ rs) [] s h t = absurd h
all_zeros k n p earlier (r ∷ rs) (a ∷ []) s h t = absurd h.1
all_zeros k n p earlier (r ∷ rs) (a ∷ b ∷ []) s h t = absurd h.1.1
all_zeros k n p earlier (r ∷ rs) (a ∷ b ∷ c ∷ fields) s h t =
    let z = daily_entry k (entry_of n p earlier r (a ∷ b ∷ c ∷ fields)) (ltb-true _ _ (and_left _ _ s)) (and_left _ _ t) in
    let e = all_zeros k (suc n) r.end (entry_of n p earlier r (a ∷ b ∷ c ∷ fields) ∷ earlier) rs fields (and_right _ _ s) h.1.1.1 (and_right _ _ t) in
    λ i. z.0 i ∷ z.1 i ∷ z.2 i ∷ e i

module _ (ms : List ℕ) where
  -- the only candidate
  pub only_daily : all_of never_weekly (long_rests ms) ≡ true → (fields : List ℕ) → Lawful ms fields → fields ≡ daily_fields ms
  unfolding entries
  only_daily s fields l = all_zeros (length (long_rests ms)) 1 0 [] (long_rests ms) fields s l.bounded (lawful_rules ms fields l.keeps).six

  pub daily_lawful : lawful_fields ms (daily_fields ms) ≡ true → Lawful ms (daily_fields ms)
  daily_lawful t = record { bounded = zero_fields_law (length (long_rests ms)); keeps = t }

  -- its fields are zeros, as its bytes are
  daily_bytes : bytes_of (daily_fields ms) ≡ all_daily ms
  unfolding reading_size
  daily_bytes = zeros_bytes (length (long_rests ms))

  daily_says : lawful ms (all_daily ms) ≡ lawful_fields ms (daily_fields ms)
  unfolding lawful reading_test lawful_fields
  daily_says =
      let k = length (long_rests ms) in
      ap (λ (r : List ℕ). lawful_fields ms (fields_in r)) (sym daily_bytes)
      ∙ ap (λ (f : List ℕ). lawful_fields ms f) (fields_back k (daily_fields ms) (fields_length k (daily_fields ms) (zero_fields_law k)))

  -- lawful, it is the first of all
  pub daily_first : lawful ms (all_daily ms) ≡ true → first_lawful ms ≡ some (all_daily ms)
  daily_first t =
      is_first ms (record { sound = daily_lawful (sym daily_says ∙ t); least = λ s l. zeros_first (length (long_rests ms)) s l.bounded })
      ∙ ap some daily_bytes

  -- and where it is the only candidate and not lawful, there is none
  pub daily_none : all_of never_weekly (long_rests ms) ≡ true → lawful ms (all_daily ms) ≡ false → first_lawful ms ≡ none
  daily_none s f =
      is_none_law ms (λ h.
      clash (lawful_fields ms (daily_fields ms)) (subst (λ (r : List ℕ). lawful_fields ms r ≡ true) (only_daily s h.0 h.1) h.1.keeps) (sym daily_says ∙ f))
