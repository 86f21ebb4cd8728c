-- The codes of weighing and of the entry of a reading: what stands at each return. Assumes nothing.
use mathlib.Core.Path.{◌≡◌, refl, ap}
use mathlib.Core.Bool.{Bool, true, false, not}
use mathlib.Core.List.{List}
use Prim.Native.Nat.{ℕ, ◌+◌, ◌-◌, ◌*◌, ◌/◌, ◌%◌, ◌≤◌, ◌<◌}
use native.Mathlib.Omega.{arith}
use lib.Dec.{eqb, ltb}
use lib.ListN.{length, take, drop}
use borrow.Author.Tests.{eq-eqb, ltb-false}
use Rattle.recording.specs.Tests.{◌or◌}
use Rattle.recording.specs.Answers.{Answer, refused, answered, refuse_if}
use Rattle.recording.specs.Words.{minutes_of}
use Rattle.recording.specs.Rests.{long_rests_at_most}
use Rattle.recording.specs.Operations.{measured}
use Rattle.recording.specs.declared.Measure.{Measure}
use Rattle.recording.proofs.TestLaws.{clash, is_false, or_left, or_right}
use Rattle.recording.proofs.Walks.{judged_within}
use Rattle.recording.proofs.LongRests.{few_rests}
use Rattle.recording.proofs.Listing.{measured_is}
use Rattle.rules.specs.Reading.{entry_bytes}
use Rattle.rules.specs.Operations.{entry_at, entry_part, entry_refusal}
use Rattle.rules.proofs.EntryLaws.{entry_whole}
use Rattle.interface.specs.Codes.{answer_unit, slice_bytes, code_of, measure_value, entry_place, entry_code}

-- a measure counts few long rests, so its code is far from wrapping
count_few : (ws : List ℕ) {m : Measure} → measured ws ≡ answered m → m.count ≤ long_rests_at_most
count_few ws {m} q =
    let is = measured_is ws q in
    omega (arith, ap (λ (x : Measure). x.count) is.is, few_rests (minutes_of ws) is.within)

pub measure_small : (ws : List ℕ) {m : Measure} → measured ws ≡ answered m → measure_value m < slice_bytes
measure_small ws {m} q =
    let is = measured_is ws q in
    omega (arith, ap (λ (x : Measure). x.total) is.is, ap (λ (x : Measure). x.judged) is.is, count_few ws q, is.within, judged_within (minutes_of ws))

-- ---- the entry of a reading
module _ (reading : List ℕ) (number : ℕ) where
  -- where it is not refused there is one
  pub entry_there : entry_refusal (entry_at reading number) ≡ 0 → length (entry_part (entry_at reading number)) ≡ 0 → ⊥
  entry_there z e = let whole = entry_whole reading number z in omega (arith, whole, e)

  pub entry_placed : (length (entry_part (entry_at reading number)) ≡ 0 → ⊥) → answer_unit + entry_place number ≡ entry_code reading number
  entry_placed some = at (entry_at reading number) refl
    where
      at : (a : Answer (List ℕ)) → entry_at reading number ≡ a → answer_unit + entry_place number ≡ code_of (λ _. entry_place number) a
      at (refused n) q = absurd (some (ap (λ (x : Answer (List ℕ)). length (entry_part x)) q))
      at (answered part) q = refl

  -- where there is one, the bytes of its number lie in the reading
  pub entry_lies : (length (entry_part (entry_at reading number)) ≡ 0 → ⊥) → (1 ≤ number) × (entry_bytes * number ≤ length reading)
  unfolding entry_at
  entry_lies some = at (not (eqb (length reading % entry_bytes) 0)) _ refl some
    where
      at : (a b : Bool) → eqb number 0 or ltb (length reading / entry_bytes) number ≡ b
          → (length (entry_part (refuse_if a 6 (refuse_if b 7 (answered (take entry_bytes (drop (entry_bytes * (number - 1)) reading)))))) ≡ 0 → ⊥)
          → (1 ≤ number) × (entry_bytes * number ≤ length reading)
      at true b q some = absurd (some refl)
      at false true q some = absurd (some refl)
      at false false q some =
          let more : number ≡ 0 → ⊥ = λ z. clash _ (or_left _ _ (eq-eqb number 0 z)) q in
          let most = ltb-false (length reading / entry_bytes) number (is_false _ (λ t. clash _ (or_right _ _ t) q)) in
          (omega arith, omega arith)
