-- Inner: what the steps of the search for a lawful reading answer. Nobody has to believe it: no public contract cites it.
-- Assumes nothing.
use Rattle.std.specs.Prelude.{◌≡◌, Bool, true, false, List, ℕ, suc, ◌+◌, ◌*◌, ◌≤◌, ◌<◌, length, Option, None, Some}
use Rattle.rules.specs.ReadingRules.{least_net, weeks_to_compensate}
use Rattle.rules.specs.declared.Kind.TheVariants.{Daily}
use Rattle.rules.specs.declared.Standing.{Standing}
use Rattle.rules.specs.declared.Standing.TheVariants.{Regular, Reduced}
use Rattle.verdict_completion.specs.Completable.{at, reduction_unit, amount_of}

-- r says whether P
pub record Says (P : Type 0) (r : Bool) : Type 0 where
  pub yes : r ≡ true → P
  pub no : r ≡ false → P → ⊥

-- the long rests lie in order: each starts before it ends, and ends by the start of the next
pub record Ordered (starts ends : List ℕ) : Type 0 where
  pub ends_too : length ends ≡ length starts
  pub proper : (i : ℕ) → i < length starts → at starts i < at ends i
  pub ordered : (i : ℕ) → suc i < length starts → at ends i ≤ at starts (suc i)

-- there is a reduction, and a rest of so many minutes that has a compensation can compensate for it beside what it needs itself
pub record Fits (reduction compensation minutes : ℕ) : Type 0 where
  pub is_outstanding : 0 < reduction
  pub fits : least_net Daily + (compensation + amount_of reduction) ≤ minutes

-- r is the index of the first of them that fits, if one does
abbrev pub FirstFit : List ℕ → ℕ → ℕ → Option ℕ → Type 0
FirstFit outstanding compensation minutes (Some d) =
    (d < length outstanding) × Fits (at outstanding d) compensation minutes × ((x : ℕ) → x < d → Fits (at outstanding x) compensation minutes → ⊥)
FirstFit outstanding compensation minutes None = (x : ℕ) → Fits (at outstanding x) compensation minutes → ⊥

-- the reduction of a weekly rest counted in week w
abbrev pub outstanding_by : Standing → ℕ → ℕ
outstanding_by Regular w = 0
outstanding_by (Reduced minutes) w = (w + weeks_to_compensate) * reduction_unit + minutes
