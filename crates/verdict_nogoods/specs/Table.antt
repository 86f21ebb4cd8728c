-- Inner: a table of states that cannot be completed, in one slice. Nobody has to believe it: no public contract cites it.
-- A level for each long rest: a word that says how many states were stored there, then a ring of entries, the oldest overwritten next.
-- Assumes nothing.
use Rattle.std.specs.Prelude.{◌≡◌, ◌⊎◌, Bool, List, [], ◌∷◌, ◌++◌, ℕ, zero, suc, ◌+◌, ◌*◌, ◌≤◌, ◌<◌, ltb, length, take, drop, min}
use Rattle.recording.specs.Tests.{one}
use Rattle.verdict_completion.specs.declared.State.{State}
use Rattle.verdict_completion.specs.Completable.{at}
use Rattle.verdict_completion.specs.Better.{Within, Better}

-- the entries of a level; an entry's words of the state and the number of its reductions, and its reductions
abbrev pub ring_size : ℕ
ring_size = 16

abbrev pub state_words : ℕ
state_words = 7

abbrev pub reductions_at_most : ℕ
reductions_at_most = 8

abbrev pub entry_words : ℕ
entry_words = state_words + reductions_at_most

abbrev pub level_words : ℕ
level_words = 1 + ring_size * entry_words

-- where the level j begins, and its entry e
abbrev pub level_at : ℕ → ℕ
level_at j = level_words * j

abbrev pub entry_at : ℕ → ℕ → ℕ
entry_at j e = level_at j + 1 + entry_words * e

-- of the entry at p: how many reductions it has, where the reduction of index d stands, and that reduction
abbrev pub reductions_of : List ℕ → ℕ → ℕ
reductions_of t p = at t (p + 6)

abbrev pub reduction_place : ℕ → ℕ → ℕ
reduction_place p d = p + state_words + d

abbrev pub reduction_in : List ℕ → ℕ → ℕ → ℕ
reduction_in t p d = at t (reduction_place p d)

-- the entry e of level j is in use
pub record InUse (t : List ℕ) (j e : ℕ) : Type 0 where
  pub within : e < ring_size
  pub stored : e < at t (level_at j)

-- what it says: its state, in week w, and its reductions, no more than it has words for
abbrev pub state_in : List ℕ → ℕ → ℕ → State
state_in t p w = record {
  ended = at t p;
  short = at t (p + 1);
  week = w;
  before = record { weekly = at t (p + 2); regular = at t (p + 3) };
  current = record { weekly = at t (p + 4); regular = at t (p + 5) };
}

abbrev pub reductions_at : List ℕ → ℕ → List ℕ
reductions_at t p = take (min (reductions_of t p) reductions_at_most) (drop (p + state_words) t)

-- each stored reduction lies within one of those present, whatever rests they are of, in their order
pub record Paired (stored present : List ℕ) : Type 0 where
  -- the index of the reduction within which that of index d lies
  pub to : ℕ → ℕ
  pub within : (d : ℕ) → d < length stored → Within (at stored d) (at present (to d))
  pub rises : (d e : ℕ) → d < e → e < length stored → to d < to e

-- the entry at p is at least as good as the state with what is outstanding, and says no more reductions than it has words for
pub record Dominates (t : List ℕ) (p : ℕ) (st : State) (outstanding : List ℕ) : Type 0 where
  pub few : reductions_of t p ≤ reductions_at_most
  pub better : Better (state_in t p st.week) st
  pub reductions : Paired (reductions_at t p) outstanding

-- one of the first n entries is
abbrev pub OneDominates : List ℕ → ℕ → State → List ℕ → Type 0
OneDominates t n st outstanding = (e : ℕ) × (e < n) × Dominates t (entry_words * e) st outstanding

-- an entry of level j in use is
pub record Known (t : List ℕ) (j : ℕ) (st : State) (outstanding : List ℕ) : Type 0 where
  pub entry : ℕ
  pub used : InUse t j entry
  pub dominates : Dominates t (entry_at j entry) st outstanding

-- 0 is no reduction; how many of the first n there are
abbrev pub is_reduction : ℕ → Bool
is_reduction reduction = ltb 0 reduction

unfoldable pub outstanding_count : List ℕ → ℕ → ℕ
outstanding_count outstanding zero = 0
outstanding_count outstanding (suc n) = outstanding_count outstanding n + one (ltb 0 (at outstanding n))

-- the entry at p holds the state and what is outstanding, each reduction under the number of those before it
pub record Holds (t : List ℕ) (p : ℕ) (st : State) (outstanding : List ℕ) : Type 0 where
  pub ended : at t p ≡ st.ended
  pub short : at t (p + 1) ≡ st.short
  pub weekly_before : at t (p + 2) ≡ st.before.weekly
  pub regular_before : at t (p + 3) ≡ st.before.regular
  pub weekly : at t (p + 4) ≡ st.current.weekly
  pub regular : at t (p + 5) ≡ st.current.regular
  pub few : reductions_of t p ≤ reductions_at_most
  pub count : reductions_of t p ≡ outstanding_count outstanding (length outstanding)
  pub reduction : (i : ℕ) → 0 < at outstanding i → reduction_in t p (outstanding_count outstanding i) ≡ at outstanding i

-- the state and what is outstanding were written into the entry at p; the other words are as they were
pub record Written (t t' : List ℕ) (p : ℕ) (st : State) (outstanding : List ℕ) : Type 0 where
  pub holds : Holds t' p st outstanding
  pub other : (x : ℕ) → (x < p) ⊎ (p + entry_words ≤ x) → at t' x ≡ at t x

-- the words of the entry at p are as they were
abbrev pub SameEntry : List ℕ → List ℕ → ℕ → Type 0
SameEntry t t' p = (x : ℕ) → p ≤ x → x < p + entry_words → at t' x ≡ at t x

-- an entry in use after a state was stored at level j: it was in use and is as it was, or it holds that state
pub data Entry (t t' : List ℕ) (j : ℕ) (st : State) (outstanding : List ℕ) (i e : ℕ) : Type 0 where
  old : InUse t i e → SameEntry t t' (entry_at i e) → Entry t t' j st outstanding i e
  new : i ≡ j → Holds t' (entry_at i e) st outstanding → Entry t t' j st outstanding i e

pub record Remembered (t t' : List ℕ) (j : ℕ) (st : State) (outstanding : List ℕ) : Type 0 where
  pub size : length t' ≡ length t
  pub entries : (i e : ℕ) → InUse t' i e → Entry t t' j st outstanding i e

-- the first k levels are empty
abbrev pub Empty : List ℕ → ℕ → Type 0
Empty t k = (i : ℕ) → i < k → at t (level_at i) ≡ 0

-- the words of a state with n reductions, and these at p in place of those that stood there
abbrev pub words_of : State → ℕ → List ℕ
words_of st n = st.ended ∷ st.short ∷ st.before.weekly ∷ st.before.regular ∷ st.current.weekly ∷ st.current.regular ∷ n ∷ []

abbrev pub stated : List ℕ → ℕ → State → ℕ → List ℕ
stated t p st n = take p t ++ (words_of st n ++ drop (p + state_words) t)

-- of what is outstanding the first n were written into the entry at p, as r reductions: each under the number of those before it
pub record PutAll (t t' : List ℕ) (p : ℕ) (outstanding : List ℕ) (n r : ℕ) : Type 0 where
  pub count : r ≡ outstanding_count outstanding n
  pub below : (x : ℕ) → x < p + state_words → at t' x ≡ at t x
  pub above : (x : ℕ) → p + entry_words ≤ x → at t' x ≡ at t x
  pub reduction : (i : ℕ) → i < n → 0 < at outstanding i → reduction_in t' p (outstanding_count outstanding i) ≡ at outstanding i
