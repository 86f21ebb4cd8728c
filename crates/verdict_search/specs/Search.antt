-- Inner: what the search for a lawful reading answers. Nobody has to believe it: proofs/ shows that its answers are those of the question.
-- Assumes nothing.
use Rattle.std.specs.Prelude.{◌≡◌, Bool, true, false, List, ℕ, ◌+◌, ◌-◌, ◌≤◌, ◌<◌, length, Option, None, Some}
use Rattle.recording.specs.Weeks.{week_of}
use Rattle.rules_items.specs.Items.{added_to}
use Rattle.verdict_completion.specs.declared.State.{State}
use Rattle.verdict_completion.specs.Completable.{Course, at, count, Tries, Completable, Stands}
use Rattle.verdict_completion.specs.Better.{Small}
use Rattle.verdict_steps.specs.Steps.{Fits}
use Rattle.verdict_nogoods.specs.Table.{reductions_at_most, entry_at, reductions_of, InUse as Stored, Known}

-- r says whether P holds; what is outstanding is as it was; and S holds of the nogoods
pub record Found (P : Type 0) (r : Bool) (outstanding outstanding' : List ℕ) (S : Type 0) : Type 0 where
  pub yes : r ≡ true → P
  pub no : r ≡ false → P → ⊥
  pub same : outstanding' ≡ outstanding
  pub sound : S

-- the reductions that are outstanding stand in the first n slots
pub record InUse (n : ℕ) (outstanding : List ℕ) : Type 0 where
  pub in_range : n ≤ length outstanding
  pub unused : (x : ℕ) → n ≤ x → at outstanding x ≡ 0

-- r is the first slot from i on, below n, whose reduction fits, if there is one
abbrev pub FirstFrom : List ℕ → ℕ → ℕ → ℕ → ℕ → Option ℕ → Type 0
FirstFrom outstanding i n compensation minutes (Some d) =
    (i ≤ d) × (d < n) × Fits (at outstanding d) compensation minutes × ((x : ℕ) → i ≤ x → x < d → Fits (at outstanding x) compensation minutes → ⊥)
FirstFrom outstanding i n compensation minutes None = (x : ℕ) → i ≤ x → Fits (at outstanding x) compensation minutes → ⊥

-- ---- what a function is lent
-- the long rests with other compensations; and where the rest of number x has some minutes more compensation
abbrev pub with_compensations : Course → List ℕ → Course
with_compensations c compensations = record { starts = c.starts; ends = c.ends; nets = c.nets; compensations = compensations; judged = c.judged }

abbrev pub compensating : Course → ℕ → ℕ → Course
compensating c x less = with_compensations c (added_to c.compensations x less)

module _ (c : Course) where
  -- what is asked of the rests after that of index j
  abbrev pub Later : ℕ → State → List ℕ → Type 0
  Later j = Completable c (count c - (j + 1)) (j + 1)

  -- each nogood in use has few enough reductions, and no state that it dominates can be completed, where what is outstanding is of rests before j
  pub record Sound (nogoods : List ℕ) : Type 0 where
    pub few : (j e : ℕ) → j < count c → Stored nogoods j e → reductions_of nogoods (entry_at j e) ≤ reductions_at_most
    pub closed : (j : ℕ) (here : State) (outstanding : List ℕ) → j < count c → here.week ≡ week_of (at c.starts j) → length outstanding ≡ count c
        → ((x : ℕ) → j ≤ x → at outstanding x ≡ 0) → Known nogoods j here outstanding → Tries c (Later j) j here outstanding → ⊥

  -- there is a slot for the reduction of each long rest; the first n are in use, no more than there are rests before that of index j
  pub record InSlots (j n : ℕ) (outstanding : List ℕ) : Type 0 where
    pub one_each : length outstanding ≡ count c
    pub below : n ≤ j
    pub unused : (x : ℕ) → n ≤ x → at outstanding x ≡ 0

  -- nothing is outstanding
  abbrev pub Free : List ℕ → Type 0
  Free = InSlots 0 0

  -- a state before the rest of index j, or after the last rest
  pub record Before (j : ℕ) (st : State) : Type 0 where
    pub within : j ≤ count c
    pub stands : Stands c j st
    pub small : Small st
    pub ended : st.ended ≤ c.judged
    pub reached : 0 < j → week_of (at c.starts (j - 1)) ≤ st.week
