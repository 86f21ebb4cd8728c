-- Inner: what a question beside a known front answers. Nobody has to believe it: proofs/ shows that its answers are those of the question.
-- Assumes nothing.
use Rattle.std.specs.Prelude.{◌≡◌, Bool, true, false, List, ℕ, ◌≤◌, ◌<◌, length, replicate}
use Rattle.verdict_completion.specs.Completable.{Course, at, count}
use Rattle.verdict_nogoods.specs.Table.{Empty}
use Rattle.verdict_fronts.specs.Front.{AllDominated}
use Rattle.verdict_search.specs.Search.{with_compensations, Sound}
use Rattle.verdict_search.specs.Leading.{Any, Front}
use Rattle.verdict_sweep.specs.declared.Fronts.{Fronts}
use Rattle.verdict_sweep.specs.Sweep.{SameFronts}
use Rattle.verdict_merging.specs.declared.Room.{Room}

-- ---- what a question is lent
module _ (c : Course) where
  -- nothing is outstanding: a 0 for each long rest
  abbrev pub nothing : List ℕ
  nothing = replicate (count c) 0

  -- a slot for each long rest, and nogoods that are sound
  pub record Ready (room : Room) : Type 0 where
    pub one_each : length room.slots.now ≡ count c
    pub sound : Sound c room.nogoods.now

  -- the question's front and the known one stand before the rest of index j
  pub record Abreast (j : ℕ) (room : Room) : Type 0 where
    pub asked : Front c j room.asked.front.now room.asked.states
    pub known : Front c j room.known.front.now room.known.states

  -- one of the question's states is good
  abbrev pub AnyAsked : ℕ → Room → Type 0
  AnyAsked j room = Any c j room.asked.front.now room.asked.states

  -- one of the known states is good; where there is none, nothing is known
  abbrev pub Trusted : ℕ → Room → Type 0
  Trusted j room = 0 < room.known.states → Any c j room.known.front.now room.known.states

-- the same slots, nogoods and fronts stay lent, and keep their lengths
pub record SameRoom (room room' : Room) : Type 0 where
  pub slots : room'.slots.ghost_name ≡ room.slots.ghost_name
  pub nogoods : room'.nogoods.ghost_name ≡ room.nogoods.ghost_name
  pub many : length room'.slots.now ≡ length room.slots.now
  pub table : length room'.nogoods.now ≡ length room.nogoods.now
  pub asked : SameFronts room.asked room'.asked
  pub known : SameFronts room.known room'.known

-- where nothing was outstanding, nothing is
abbrev pub StaysEmpty : Course → Room → Room → Type 0
StaysEmpty c room room' = room.slots.now ≡ nothing c → room'.slots.now ≡ nothing c

-- each known state is matched by one of the question's, and there is one
abbrev pub Matched : Room → Bool → Type 0
Matched room r =
    r ≡ true → (0 < room.known.states) × AllDominated room.known.front.now room.known.states room.asked.front.now room.asked.states

-- the nogoods of k rests are as they were, or none where x is the number of a rest
pub record Renewed (k x : ℕ) (nogoods nogoods' : List ℕ) : Type 0 where
  pub kept : x ≡ 0 → nogoods' ≡ nogoods
  pub empty : (x ≡ 0 → ⊥) → Empty nogoods' k

-- d is a trial of c: it has the same rests, and the same compensations of the rests from that of index x on, of all where x is 0
pub record Trial (c d : Course) (x : ℕ) : Type 0 where
  pub same_rests : d ≡ with_compensations c d.compensations
  pub later : (i : ℕ) → x ≤ i → at d.compensations i ≡ at c.compensations i
  pub same : x ≡ 0 → d ≡ c

-- ---- what is answered
-- r says whether P holds, where a yes may rest on H; S holds of what is lent
pub record ToldIf (H P : Type 0) (r : Bool) (S : Type 0) : Type 0 where
  pub yes : r ≡ true → H → P
  pub no : r ≡ false → P → ⊥
  pub ready : S

-- the question P was put beside H, which is known: r is yes where P was found to hold, or to follow from H; otherwise A holds exactly where P does, and
-- H' is known
pub record Beside (P H A H' : Type 0) (r : Bool) (S W : Type 0) : Type 0 where
  pub yes : r ≡ true → H → P
  pub leads : r ≡ false → P → A
  pub from : r ≡ false → A → P
  pub trusts : r ≡ false → H → H'
  pub ready : S
  pub abreast : W

-- the same of two fronts before the rest of index j, and two before that of index i: what is lent before and after
abbrev pub Besides : Course → ℕ → Room → ℕ → Room → Bool → Type 0
Besides c j room i room' r = Beside (AnyAsked c j room) (Trusted c j room) (AnyAsked c i room') (Trusted c i room') r (Ready c room') (Abreast c i room')

-- the question P was led to the front before the rest of index i: r is yes where P was found to hold; otherwise one of the states is good exactly where P holds
pub record Reaches (c : Course) (P : Type 0) (i : ℕ) (fronts' : Fronts) (nogoods' : List ℕ) (r : Bool) : Type 0 where
  pub yes : r ≡ true → P
  pub leads : r ≡ false → P → Any c i fronts'.front.now fronts'.states
  pub from : r ≡ false → Any c i fronts'.front.now fronts'.states → P
  pub sound : Sound c nogoods'
  pub well : r ≡ false → Front c i fronts'.front.now fronts'.states

-- where R holds, one of the states of the front before the rest of index i is good, if there is one at all
pub record Knows (c : Course) (R : Type 0) (i : ℕ) (fronts' : Fronts) (nogoods' : List ℕ) : Type 0 where
  pub trusts : R → 0 < fronts'.states → Any c i fronts'.front.now fronts'.states
  pub sound : Sound c nogoods'
  pub well : Front c i fronts'.front.now fronts'.states
