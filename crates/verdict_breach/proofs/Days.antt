-- The first n of long rests that lie in order. Assumes nothing.
use mathlib.Core.Path.{◌≡◌, refl, sym, ap, subst, ◌∙◌}
use mathlib.Core.Bool.{Bool, false, false≢true}
use mathlib.Core.Logic.{◌⊎◌, inl, inr}
use mathlib.Core.List.{List}
use Prim.Native.Nat.{ℕ, zero, suc, ◌+◌, ◌-◌, ◌≤◌, ◌<◌}
use native.Mathlib.Nat.{eq-or-lt_of_le}
use native.Mathlib.Omega.{arith}
use lib.ListN.{length, take}
use lib.Seq.{length-take-le, get_or-take}
use Rattle.verdict_completion.specs.Completable.{at, Lies, rests_only}
use Rattle.verdict_breach.specs.Verdicts.{HasKept, SaysWhether, first_rests, day_start, DayReadable}

module _ {starts ends nets : List ℕ} {most : ℕ} (l : Lies (rests_only starts ends nets most)) where
  pub ends_low : (i : ℕ) → i < length ends → at ends i ≤ most
  ends_low i h = l.judged i (omega (arith, l.ends_too))

  -- each ends before the next day starts
  days_rise : (n : ℕ) → suc n ≤ length starts → day_start ends n ≤ at ends n
  days_rise zero h = omega arith
  days_rise (suc n) h = omega (arith, l.ordered n (omega arith), l.proper (suc n) (omega arith))

  over_by : (n : ℕ) → n ≤ length starts → (i : ℕ) → i < n → at ends i < day_start ends n
  over_by zero h i g = absurd (omega arith)
  over_by (suc n) h i g = here_or_before (eq-or-lt_of_le g) (over_by n (omega arith) i)
    where
      here_or_before : (suc i ≡ suc n) ⊎ (suc i < suc n) → (i < n → at ends i < day_start ends n) → at ends i < at ends n + 1
      here_or_before (inl e) f = let q : i ≡ n = omega arith in let z : at ends i ≡ at ends n = ap (at ends) q in omega arith
      here_or_before (inr k) f = omega (arith, f (omega arith), days_rise n h)

  module _ (n : ℕ) (h : n ≤ length starts) where
    pub first_starts : n ≡ length (take n starts)
    first_starts = sym (length-take-le n starts h)

    pub first_ends : n ≡ length (take n ends)
    first_ends = sym (length-take-le n ends (omega (arith, l.ends_too)))

    start_in : (i : ℕ) → i < length (take n starts) → at (take n starts) i ≡ at starts i
    start_in i g = get_or-take n starts i 0 (omega (arith, first_starts))

    end_in : (i : ℕ) → i < length (take n starts) → at (take n ends) i ≡ at ends i
    end_in i g = get_or-take n ends i 0 (omega (arith, first_starts))

    pub first_nets : n ≡ length (take n nets)
    first_nets = sym (length-take-le n nets (omega (arith, l.nets_too)))

    pub lies_first : (s : ℕ) → day_start ends n ≤ s → Lies (rests_only (take n starts) (take n ends) (take n nets) s)
    lies_first s g = record {
      ends_too = sym first_ends ∙ first_starts;
      nets_too = sym first_nets ∙ first_starts;
      net = λ i k. omega (arith, get_or-take n nets i 0 (omega (arith, first_starts)), l.net i (omega (arith, first_starts)));
      proper = λ i k. omega (arith, start_in i k, end_in i k, l.proper i (omega (arith, first_starts)));
      ordered = λ i k. omega (arith, end_in i (omega arith), start_in (suc i) k, l.ordered i (omega (arith, first_starts)));
      judged = λ i k. omega (arith, end_in i k, over_by n h i (omega (arith, first_starts)));
    }

-- the same rests, with a later judged end
pub lies_later : {starts ends nets : List ℕ} {s t : ℕ} → Lies (rests_only starts ends nets s) → s ≤ t → Lies (rests_only starts ends nets t)
lies_later l h = record { ends_too = l.ends_too; nets_too = l.nets_too; net = l.net; proper = l.proper; ordered = l.ordered; judged = λ i g. omega (arith, l.judged i g) }

pub day_start_is : (ends : List ℕ) (n : ℕ) → (n ≡ 0 → ⊥) → at ends (n - 1) + 1 ≡ day_start ends n
day_start_is ends zero z = absurd (z refl)
day_start_is ends (suc n) z = let e : suc n - 1 ≡ n = omega arith in ap (λ (m : ℕ). at ends m + 1) e

-- ---- the answer for the shortest stretch with the first n
module _ (starts ends nets : List ℕ) {bound n from : ℕ} (e : from ≡ day_start ends n) where
  pub over_bound : bound ≤ from → DayReadable starts ends nets bound n false
  over_bound l = record { yes = λ t. absurd (false≢true t); no = λ t h. absurd (omega arith) }

  pub day_asked : from < bound → {r : Bool} → SaysWhether (first_rests starts ends nets n from) r → DayReadable starts ends nets bound n r
  day_asked l {r} s = record {
    yes = λ t. (omega arith, subst (λ (d : ℕ). HasKept (first_rests starts ends nets n d)) e (s.yes t));
    no = λ t h k. let k' = subst (λ (d : ℕ). HasKept (first_rests starts ends nets n d)) (sym e) k in s.no t k'.0 k'.2;
  }
