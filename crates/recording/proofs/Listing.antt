-- Weighing: what stands at each return; and what is written over the front of a slice. Assumes nothing.
use mathlib.Core.Path.{◌≡◌, refl, sym, ap, ◌∙◌}
use mathlib.Core.List.{List, ◌++◌, map}
use Prim.Native.Nat.{ℕ, ◌≤◌}
use native.Mathlib.Omega.{arith}
use lib.ListN.{length, drop, length-map}
use lib.Seq.{sets}
use Rattle.std.proofs.Common.{Result, Ok, Err}
use Rattle.recording.specs.Answers.{Answer, refused, answered, and_then, number_of, answer_of}
use Rattle.recording.specs.Words.{minutes_of}
use Rattle.recording.specs.Rests.{judged_end, long_rests}
use Rattle.recording.specs.Operations.{total_at_most, total_from, measure_of, measured}
use Rattle.recording.specs.Scan.{origin, place_of}
use Rattle.recording.specs.declared.Place.{Place}
use Rattle.recording.specs.declared.Refusal.{Refusal}
use Rattle.recording.specs.declared.Measure.{Measure}
use Rattle.recording.specs.declared.Span.{Span}
use Rattle.recording.proofs.Slices.{put_in_front}
use Rattle.recording.proofs.WordLaws.{total_is}
use Rattle.recording.proofs.Scanning.{scan_end, scan_count}

-- ---- weighing
module _ (ws : List ℕ) where
  pub total_room : {n : ℕ} → total_from 0 ws ≡ answered n → length (minutes_of ws) ≤ total_at_most
  total_room {n} e = let t = total_is 0 ws n (omega arith) e in omega (arith, t.minutes, t.within)

  pub weigh_refused : {n : ℕ} → total_from 0 ws ≡ refused n → refused n ≡ measured ws
  unfolding measured
  weigh_refused e = rw e

  pub weigh_done : {n : ℕ} {p : Place} → total_from 0 ws ≡ answered n → p ≡ place_of origin ws
      → answered (record { total = n; judged = p.from; count = p.count }) ≡ measured ws
  unfolding measured
  weigh_done {n} {p} e q =
      let t = total_is 0 ws n (omega arith) e in
      let a : n ≡ length (minutes_of ws) = omega (arith, t.minutes) in
      let b : p.from ≡ judged_end (minutes_of ws) = ap (λ (x : Place). x.from) q ∙ scan_end ws in
      let c : p.count ≡ length (long_rests (minutes_of ws)) = ap (λ (x : Place). x.count) q ∙ scan_count ws in
      rw e (λ i. answered (record { total = a i; judged = b i; count = c i }))

  -- a measure is that of the minutes, and they are within the limit
  pub record Measured (m : Measure) : Type 0 where
    pub is : m ≡ measure_of (minutes_of ws)
    pub within : length (minutes_of ws) ≤ total_at_most

  pub measured_is : {m : Measure} → measured ws ≡ answered m → Measured m
  unfolding measured
  measured_is {m} e = at (total_from 0 ws) refl e
    where
      at : (t : Answer ℕ) → total_from 0 ws ≡ t → and_then t (λ _. answered (measure_of (minutes_of ws))) ≡ answered m → Measured m
      at (refused n) q h = let z : ◌≡◌ {A = ℕ} 0 1 = cc in absurd (omega arith)
      at (answered n) q h = record { is = cc; within = total_room q }

-- ---- what weighing's answer says to the operations that take it apart
module _ (ws : List ℕ) where
  pub refused_there : {r : Result Measure Refusal} {f : Refusal} → answer_of r ≡ measured ws → r ≡ Err f → measured ws ≡ refused (number_of f)
  refused_there e q = sym e ∙ ap answer_of q

  pub measured_there : {r : Result Measure Refusal} {m : Measure} → answer_of r ≡ measured ws → r ≡ Ok m → measured ws ≡ answered m
  measured_there e q = sym e ∙ ap answer_of q

-- ---- a number of each long rest in front of a slice
pub in_front : (f : Span → ℕ) (rs : List Span) (out : List ℕ) → length rs ≤ length out → sets out 0 (map f rs) ≡ map f rs ++ drop (length (map f rs)) out
in_front f rs out h = put_in_front (map f rs) out (rw length-map (omega arith))
