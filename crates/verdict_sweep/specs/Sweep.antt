-- Inner: what the sweep from front to front answers. Nobody has to believe it: proofs/ shows that its answers are those of the question.
-- Assumes nothing.
use Rattle.std.specs.Prelude.{◌≡◌, ◌⊎◌, Bool, true, false, List, [], ℕ, length, Option, is_none, unwrap_or}
use Rattle.verdict_completion.specs.States.{start_state}
use Rattle.verdict_completion.specs.Completable.{Course, count, rest_week, Completable}
use Rattle.verdict_search.specs.declared.Search.{Search}
use Rattle.verdict_search.specs.Search.{Sound}
use Rattle.verdict_search.specs.Leading.{Any, Front, Led}
use Rattle.verdict_sweep.specs.declared.Fronts.{Fronts}

-- the two slices that are lent stay lent in this order, and keep their lengths
pub record SameOrder (fronts fronts' : Fronts) : Type 0 where
  pub front : fronts'.front.ghost_name ≡ fronts.front.ghost_name
  pub other : fronts'.other.ghost_name ≡ fronts.other.ghost_name
  pub front_room : length fronts'.front.now ≡ length fronts.front.now
  pub other_room : length fronts'.other.now ≡ length fronts.other.now

-- the two fronts in changed roles
abbrev pub swapped : Fronts → Fronts
swapped fronts = record { front = fronts.other; other = fronts.front; states = fronts.states }

-- the same two slices are lent, in one order or the other, and keep their lengths
abbrev pub SameFronts : Fronts → Fronts → Type 0
SameFronts fronts fronts' = SameOrder fronts fronts' ⊎ SameOrder (swapped fronts) fronts'

-- the question P was put to a front that was empty: r is yes where P was found to hold; otherwise A holds exactly where P does
pub record Passed (P A : Type 0) (r : Bool) (S W : Type 0) : Type 0 where
  pub yes : r ≡ true → P
  pub leads : r ≡ false → P → A
  pub from : r ≡ false → A → P
  pub sound : S
  pub well : W

-- the same of the front before the rest of index j, with n states: the next one, that before the rest of index i, has r states, or yes was found
abbrev pub LeadsTo : Course → ℕ → List ℕ → ℕ → ℕ → List ℕ → List ℕ → Option ℕ → Type 0
LeadsTo c j front n i next' nogoods' r =
    Passed (Any c j front n) (Any c i next' (unwrap_or r 0)) (is_none r) (Sound c nogoods') (Front c i next' (unwrap_or r 0))

-- the same of the front before the rest of index j, led on to that before the rest of index i: the two fronts before and after, and the nogoods after
abbrev pub Passes : Course → ℕ → Fronts → ℕ → Fronts → List ℕ → Bool → Type 0
Passes c j fronts i fronts' nogoods' r =
    Passed (Any c j fronts.front.now fronts.states) (Any c i fronts'.front.now fronts'.states) r (Sound c nogoods') (Front c i fronts'.front.now fronts'.states)

-- the question P was led to a first front, that before the rest of index i: it has r states, or yes was found
abbrev pub OpensTo : Course → Type 0 → ℕ → List ℕ → List ℕ → Option ℕ → Type 0
OpensTo c P i front' nogoods' r = Passed P (Any c i front' (unwrap_or r 0)) (is_none r) (Sound c nogoods') (Front c i front' (unwrap_or r 0))

-- the same of the first of two fronts
abbrev pub Opens : Course → Type 0 → ℕ → Fronts → List ℕ → Bool → Type 0
Opens c P i fronts' nogoods' r = Passed P (Any c i fronts'.front.now fronts'.states) r (Sound c nogoods') (Front c i fronts'.front.now fronts'.states)

-- a question P that is not of slots was put to the next front, that before the rest of index i
abbrev pub Visits : Course → Type 0 → ℕ → Search → Search → Bool → Type 0
Visits c P i search search' r =
    Led P (Any c i search.next.now search.states) (Any c i search'.next.now search'.states) r [] [] (Sound c search'.nogoods.now) (Front c i search'.next.now search'.states)

-- the same, where only yes or no is told
pub record Told (P : Type 0) (r : Bool) (S : Type 0) : Type 0 where
  pub yes : r ≡ true → P
  pub no : r ≡ false → P → ⊥
  pub sound : S

-- the long rests can be read at all
abbrev pub CanBeRead : Course → List ℕ → Type 0
CanBeRead c outstanding = Completable c (count c) 0 (start_state (rest_week c 0)) outstanding
