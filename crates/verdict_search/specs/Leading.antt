-- Inner: what a step of the search leads to, the fronts. Nobody has to believe it: proofs/ shows that its answers are those of the question.
-- Assumes nothing.
use Rattle.std.specs.Prelude.{◌≡◌, ◌⊎◌, Bool, true, false, List, ℕ, ◌+◌, ◌≤◌, ◌<◌, length}
use Rattle.recording.specs.Weeks.{week_of}
use Rattle.rules.specs.ReadingRules.{least_net}
use Rattle.rules.specs.declared.Kind.{Kind}
use Rattle.rules.specs.declared.Kind.TheVariants.{Daily, Weekly}
use Rattle.rules.specs.declared.Standing.TheVariants.{Regular}
use Rattle.rules_items.specs.Items.{standing_for}
use Rattle.verdict_completion.specs.declared.State.{State}
use Rattle.verdict_completion.specs.Completable.{Course, at, count, length_at, Counted, ReadDaily, ReadWeekly, Tries}
use Rattle.verdict_completion.specs.Better.{AtRest}
use Rattle.verdict_nogoods.specs.Table.{reductions_at_most, reductions_of}
use Rattle.verdict_fronts.specs.Front.{entry_at, state_in, outstanding_in}
use Rattle.verdict_search.specs.Search.{Later, Sound, InSlots}
use Rattle.verdict_search.specs.declared.Search.{Search}

module _ (c : Course) (j : ℕ) where
  -- the rests from that of index j on can be read from the entry at p, a state in the week in which that rest starts
  abbrev pub Can : List ℕ → ℕ → Type 0
  Can t p = Tries c (Later c j) j (state_in t p (week_of (at c.starts j))) (outstanding_in t p (count c))

  -- from one of the first n entries
  pub record Any (t : List ℕ) (n : ℕ) : Type 0 where
    pub entry : ℕ
    pub below : entry < n
    pub can : Can t (entry_at entry)

  -- the entry at p is a state at that rest, with few reductions
  pub record Well (t : List ℕ) (p : ℕ) : Type 0 where
    pub few : reductions_of t p ≤ reductions_at_most
    pub below : reductions_of t p ≤ j
    pub rest : AtRest c j (state_in t p (week_of (at c.starts j)))

  -- the first n entries are
  pub record Front (t : List ℕ) (n : ℕ) : Type 0 where
    pub room : entry_at n ≤ length t
    pub each : (e : ℕ) → e < n → Well t (entry_at e)

-- what a step is lent: the reductions before the rest of index j; the nogoods; and the front before the rest of index i
pub record Given (c : Course) (j i : ℕ) (search : Search) : Type 0 where
  pub slots : InSlots c j search.used search.slots.now
  pub sound : Sound c search.nogoods.now
  pub well : Front c i search.next.now search.states

-- the same slots, nogoods and front are lent
pub record SameLent (search search' : Search) : Type 0 where
  pub slots : search'.slots.ghost_name ≡ search.slots.ghost_name
  pub nogoods : search'.nogoods.ghost_name ≡ search.nogoods.ghost_name
  pub next : search'.next.ghost_name ≡ search.next.ghost_name
  pub many : length search'.slots.now ≡ length search.slots.now
  pub table : length search'.nogoods.now ≡ length search.nogoods.now
  pub room : length search'.next.now ≡ length search.next.now

-- and as many slots are in use
pub record Kept (search search' : Search) : Type 0 where
  pub lent : SameLent search search'
  pub used : search'.used ≡ search.used

-- a question P was put to the next front, of which A held before and A' after: r is yes where P was found to hold; otherwise A' holds exactly where A
-- or P does. What is outstanding is as it was; S holds of the nogoods, and W of the next front
pub record Led (P A A' : Type 0) (r : Bool) (outstanding outstanding' : List ℕ) (S W : Type 0) : Type 0 where
  pub yes : r ≡ true → P
  pub keeps : r ≡ false → A → A'
  pub leads : r ≡ false → P → A'
  pub from : r ≡ false → A' → A ⊎ P
  pub same : outstanding' ≡ outstanding
  pub sound : S
  pub well : W

-- the same of what a step is lent, before and after: the front is that before the rest of index i
abbrev pub Leads : Course → (List ℕ → Type 0) → ℕ → Search → Search → Bool → Type 0
Leads c P i search search' r =
    Led (P search.slots.now) (Any c i search.next.now search.states) (Any c i search'.next.now search'.states) r search.slots.now search'.slots.now
    (Sound c search'.nogoods.now) (Front c i search'.next.now search'.states)

-- a rest of index j is read as of a kind
abbrev pub ReadAs : (c : Course) → (State → List ℕ → Type 0) → ℕ → State → ℕ → Kind → List ℕ → Type 0
ReadAs c K j here compensation Daily outstanding = ReadDaily c K j here compensation outstanding
ReadAs c K j here compensation (Weekly standing) outstanding = ReadWeekly c K j here compensation outstanding

-- it is long enough for the kind, net of the compensation, and a weekly one has the standing that goes with it
pub data TakenAs (c : Course) (j compensation : ℕ) (kind : Kind) : Type 0 where
  daily : kind ≡ Daily → least_net Daily + compensation ≤ length_at c j → TakenAs c j compensation kind
  weekly : kind ≡ Weekly (standing_for (length_at c j) compensation) → least_net (Weekly Regular) + compensation ≤ length_at c j → TakenAs c j compensation kind

-- counted in one of the weeks from v on, below w
pub record CountedIn (c : Course) (K : State → List ℕ → Type 0) (j : ℕ) (here : State) (compensation : ℕ) (outstanding : List ℕ) (v w : ℕ) : Type 0 where
  pub week : ℕ
  pub low : v ≤ week
  pub high : week < w
  pub counted : Counted c K j here week compensation outstanding
