-- Inner: a front, entries one after the other from the first word on; the first n are in use. An entry is a state before a rest, in the week in which that
-- starts, and what is outstanding there. Nobody has to believe it: no public contract cites it.
-- Assumes nothing.
use Rattle.std.specs.Prelude.{◌≡◌, ◌⊎◌, List, [], ◌∷◌, ℕ, zero, suc, ◌+◌, ◌*◌, ◌≤◌, ◌<◌, ltb, length}
use Rattle.recording.specs.Tests.{pick}
use Rattle.verdict_completion.specs.declared.State.{State}
use Rattle.verdict_completion.specs.Completable.{at}
use Rattle.verdict_nogoods.specs.Table as table
use Rattle.verdict_nogoods.specs.Table.{reductions_at_most, entry_words, reductions_of, reductions_at, reduction_in, Holds}
pub use Rattle.verdict_nogoods.specs.Table.{state_in}

-- where the entry e begins
abbrev pub entry_at : ℕ → ℕ
entry_at e = entry_words * e

-- ---- what the entry at p says
-- k words from that of index i on
unfoldable pub words_by : (ℕ → ℕ) → ℕ → ℕ → List ℕ
words_by f i zero = []
words_by f i (suc k) = f i ∷ words_by f (suc i) k

-- what stands in slot d, and in k slots
abbrev pub slot_in : List ℕ → ℕ → ℕ → ℕ
slot_in t p d = pick (ltb d (reductions_of t p)) (reduction_in t p d) 0

abbrev pub outstanding_in : List ℕ → ℕ → ℕ → List ℕ
outstanding_in t p k = words_by (slot_in t p) 0 k

-- ---- entries compared
-- the entry at p of a is at least as good as the entry at q of b, in whatever week; neither says that it has more reductions than it has words for
pub record Dominates (a : List ℕ) (p : ℕ) (b : List ℕ) (q : ℕ) : Type 0 where
  pub few : reductions_of b q ≤ reductions_at_most
  pub as_good : table.Dominates a p (state_in b q 0) (reductions_at b q)

-- one of the first n entries of t is at least as good as the entry at q of b
pub record Dominated (t : List ℕ) (n : ℕ) (b : List ℕ) (q : ℕ) : Type 0 where
  pub entry : ℕ
  pub below : entry < n
  pub dominates : Dominates t (entry_at entry) b q

-- for each of the first n entries of a one of the first m of b is
pub record AllDominated (a : List ℕ) (n : ℕ) (b : List ℕ) (m : ℕ) : Type 0 where
  pub each : (e : ℕ) → e < n → Dominated b m a (entry_at e)

-- the entry at p of a has the same words as the entry at q of b
pub record Same (a : List ℕ) (p : ℕ) (b : List ℕ) (q : ℕ) : Type 0 where
  pub word : (d : ℕ) → d < entry_words → at a (p + d) ≡ at b (q + d)

-- ---- an entry written
-- the entry at q of t is that at p of a; the other words are as they were
pub record Copied (t t' a : List ℕ) (p q : ℕ) : Type 0 where
  pub there : Same t' q a p
  pub other : (x : ℕ) → (x < q) ⊎ (q + entry_words ≤ x) → at t' x ≡ at t x

-- ---- an entry put into a front
-- of the first i entries of t, what is left in the first r of t': an entry of t stands there, or the new one is at least as good and r is less
pub data Stays (t t' new : List ℕ) (i r e : ℕ) : Type 0 where
  stays : (x : ℕ) → x < r → Same t' (entry_at x) t (entry_at e) → Stays t t' new i r e
  goes : r < i → Dominates new 0 t (entry_at e) → Stays t t' new i r e

pub record From (t t' : List ℕ) (i e : ℕ) : Type 0 where
  pub entry : ℕ
  pub below : entry < i
  pub same : Same t' (entry_at e) t (entry_at entry)

pub record Removed (t t' new : List ℕ) (i r : ℕ) : Type 0 where
  pub fewer : r ≤ i
  pub same : r ≡ i → t' ≡ t
  pub rest : (x : ℕ) → entry_at i ≤ x → at t' x ≡ at t x
  pub from : (e : ℕ) → e < r → From t t' i e
  pub to : (e : ℕ) → e < i → Stays t t' new i r e

-- an entry after: it was there, or is the new one
pub data Comes (t t' new : List ℕ) (n e : ℕ) : Type 0 where
  old : From t t' n e → Comes t t' new n e
  fresh : Same t' (entry_at e) new 0 → Comes t t' new n e

-- an entry before: it is there, or the new one is at least as good
pub data Remains (t t' new : List ℕ) (n' e : ℕ) : Type 0 where
  there : (x : ℕ) → x < n' → Same t' (entry_at x) t (entry_at e) → Remains t t' new n' e
  dominated : Dominates new 0 t (entry_at e) → Remains t t' new n' e

-- the new entry: it is there, or one that is at least as good
pub data Stands (t' new : List ℕ) (n' : ℕ) : Type 0 where
  itself : (x : ℕ) → x < n' → Same t' (entry_at x) new 0 → Stands t' new n'
  other : Dominated t' n' new 0 → Stands t' new n'

-- the front of n entries has n' after the new one was put into it
pub record Placed (t t' new : List ℕ) (n n' : ℕ) : Type 0 where
  pub room : entry_at n' ≤ length t'
  pub from : (e : ℕ) → e < n' → Comes t t' new n e
  pub to : (e : ℕ) → e < n → Remains t t' new n' e
  pub found : Stands t' new n'

-- the same, where the new entry holds a state and what is outstanding
pub record Inserted (t t' outstanding : List ℕ) (st : State) (n n' : ℕ) : Type 0 where
  pub new : List ℕ
  pub held : Holds new 0 st outstanding
  pub placed : Placed t t' new n n'
