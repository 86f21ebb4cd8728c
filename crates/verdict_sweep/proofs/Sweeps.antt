-- Laws of the sweep: an entry read, from front to front, the first front and the last. Assumes nothing.
use mathlib.Core.Path.{◌≡◌, refl, sym, ap, subst, ◌∙◌}
use mathlib.Core.Logic.{◌⊎◌, inl, inr}
use mathlib.Core.Bool.{Bool, true, false, false≢true, true≢false}
use mathlib.Core.List.{List}
use Prim.Native.Nat.{ℕ, ◌-◌, ◌≤◌}
use native.Mathlib.Omega.{arith}
use lib.ListN.{length, replicate}
use Rattle.recording.specs.Weeks.{week_of}
use Rattle.verdict_completion.specs.declared.State.{State}
use Rattle.verdict_completion.specs.Completable.{Course, at, count, rest_week, length_at, Compensates, Reads, Tries, Completable}
use Rattle.verdict_completion.specs.States.{start_state}
use Rattle.verdict_completion.specs.Better.{AtRest}
use Rattle.verdict_nogoods.specs.Table.{reductions_of}
use Rattle.verdict_fronts.specs.Front.{state_in, outstanding_in}
use Rattle.verdict_search.specs.Search.{Later, Sound, InSlots}
use Rattle.verdict_search.specs.Leading.{Can, Any, Well, Front, Led}
use Rattle.verdict_sweep.specs.declared.Fronts.{Fronts}
use Rattle.verdict_sweep.specs.Sweep.{SameOrder, swapped, SameFronts, Passed, Told, CanBeRead}
use Rattle.verdict_search.proofs.Leading.{Equal, equal_then}
use Rattle.verdict_search.proofs.Fronts.{outstanding_length, outstanding_none}
use Rattle.verdict_search.proofs.Chain.{all_reductions}

module _ (c : Course) where
  -- after the last rest no entry is in use
  pub past_end : {i n : ℕ} {t : List ℕ} → count c ≤ i → Front c i t n → Any c i t n → ⊥
  past_end l h a = omega (arith, (h.each a.entry a.below).rest.within)

  -- a front of no states
  pub front_empty : {i n : ℕ} {t : List ℕ} → n ≡ 0 → Front c i t n
  front_empty e = record { room = omega (arith, e); each = λ x l. absurd (omega (arith, e, l)) }

  -- ---- an entry read
  module _ (j : ℕ) {f : List ℕ} {p : ℕ} (w : Well c j f p) where
    pub slots_read : (o : List ℕ) {o' : List ℕ} {m : ℕ} → length o ≡ count c → m ≡ reductions_of f p → o' ≡ outstanding_in f p (length o) → InSlots c j m o'
    slots_read o {o'} {m} h e q = record {
      one_each = ap length q ∙ outstanding_length f p (length o) ∙ h;
      below = omega (arith, w.below);
      unused = λ x l. ap (λ (z : List ℕ). at z x) q ∙ outstanding_none f p (length o) x (omega (arith, w.below, w.rest.within, h)) (omega arith);
    }

    pub rest_read : {here : State} → here ≡ state_in f p (week_of (at c.starts j)) → AtRest c j here
    rest_read e = subst (AtRest c j) (sym e) w.rest

    pub can_read : (o : List ℕ) {o' : List ℕ} {here : State} → length o ≡ count c → here ≡ state_in f p (week_of (at c.starts j)) → o' ≡ outstanding_in f p (length o)
        → Equal (Compensates (Reads c (Later c j) j here) (length_at c j) (j - 0) 0 (at c.compensations j) o') (Can c j f p)
    can_read o {o'} {here} long e q =
        equal_then (all_reductions (Reads c (Later c j) j here) (length_at c j) (at c.compensations j) o' j)
        (subst (λ (z : List ℕ). Equal (Tries c (Later c j) j here z) (Can c j f p)) (sym (q ∙ ap (outstanding_in f p) long))
        (subst (λ (x : State). Equal (Tries c (Later c j) j x (outstanding_in f p (count c))) (Can c j f p)) (sym e) (record { to = λ h. h; from = λ h. h })))

-- ---- the two fronts that are lent
pub order_self : {a : Fronts} → SameOrder a a
order_self = record { front = refl; other = refl; front_room = refl; other_room = refl }

pub order_on : {a b d : Fronts} → SameOrder a b → SameOrder b d → SameOrder a d
order_on f g = record {
  front = g.front ∙ f.front;
  other = g.other ∙ f.other;
  front_room = g.front_room ∙ f.front_room;
  other_room = g.other_room ∙ f.other_room;
}

pub order_swapped : {a b : Fronts} → SameOrder a b → SameOrder (swapped a) (swapped b)
order_swapped f = record { front = f.other; other = f.front; front_room = f.other_room; other_room = f.front_room }

pub fronts_self : {a : Fronts} → SameFronts a a
fronts_self = inl order_self

pub fronts_on : {a b d : Fronts} → SameFronts a b → SameFronts b d → SameFronts a d
fronts_on (inl f) (inl g) = inl (order_on f g)
fronts_on (inl f) (inr g) = inr (order_on (order_swapped f) g)
fronts_on (inr f) (inl g) = inr (order_on f g)
fronts_on (inr f) (inr g) = inl (order_on (order_swapped f) g)

-- whatever their number of states
pub fronts_counted : {a b : Fronts} (n : ℕ) → SameFronts a b → SameFronts a (record { front = b.front; other = b.other; states = n })
fronts_counted n (inl f) = inl (record { front = f.front; other = f.other; front_room = f.front_room; other_room = f.other_room })
fronts_counted n (inr f) = inr (record { front = f.front; other = f.other; front_room = f.front_room; other_room = f.other_room })

-- ---- whole fronts
pub passed_yes : {P A S W : Type 0} {r : Bool} → r ≡ true → P → S → W → Passed P A r S W
passed_yes e p s w = record { yes = λ _. p; leads = λ f. absurd (true≢false (sym e ∙ f)); from = λ f. absurd (true≢false (sym e ∙ f)); sound = s; well = w }

pub passed_self : {A S W : Type 0} → S → W → Passed A A false S W
passed_self s w = record { yes = λ h. absurd (false≢true h); leads = λ _ a. a; from = λ _ a. a; sound = s; well = w }

pub passed_known : {P A S W : Type 0} {r b : Bool} → r ≡ b → Passed P A r S W → Passed P A b S W
passed_known {P} {A} {S} {W} e h = subst (λ (x : Bool). Passed P A x S W) e h

-- by lists that are the same
pub passed_same : {c : Course} {P : Type 0} {i n : ℕ} {r : Bool} {t t' g g' : List ℕ} → Passed P (Any c i t n) r (Sound c g) (Front c i t n) → t ≡ t' → g ≡ g'
    → Passed P (Any c i t' n) r (Sound c g') (Front c i t' n)
passed_same {c} {P} {i} {n} {r} {t} {t'} {g} {g'} h e f =
    subst (λ (l : List ℕ). Passed P (Any c i l n) r (Sound c g') (Front c i l n)) e (subst (λ (l : List ℕ). Passed P (Any c i t n) r (Sound c l) (Front c i t n)) f h)

pub passed_no : {P A A' S W : Type 0} {o o' : List ℕ} → (A → ⊥) → Led P A A' false o o' S W → Passed P A' false S W
passed_no {P} {A} none h = record { yes = λ e. absurd (false≢true e); leads = λ _. h.leads refl; from = λ _ a. go (h.from refl a); sound = h.sound; well = h.well }
  where
    go : A ⊎ P → P
    go (inl a) = absurd (none a)
    go (inr p) = p

pub passed_then : {P A B S S' W W' : Type 0} {r r' : Bool} → r ≡ false → Passed P A r S W → Passed A B r' S' W' → Passed P B r' S' W'
passed_then e f g = record {
  yes = λ y. f.from e (g.yes y);
  leads = λ n p. g.leads n (f.leads e p);
  from = λ n b. f.from e (g.from n b);
  sound = g.sound;
  well = g.well;
}

-- ---- the whole
-- the state was put into the first front, and the sweep told of that
pub whole : {P A S S' W : Type 0} {r b : Bool} → r ≡ false → Passed P A r S W → Told A b S' → Told P b S'
whole e f g = record { yes = λ y. f.from e (g.yes y); no = λ n p. g.no n (f.leads e p); sound = g.sound }

-- from the first rest on, where nothing is outstanding
pub from_start : (c : Course) {r : Bool} {S : Type 0} {o : List ℕ} {st : State} (b : Bool) → st ≡ start_state b → b ≡ rest_week c 0 → o ≡ replicate (count c) 0
    → Told (Completable c (count c - 0) 0 st o) r S → Told (CanBeRead c (replicate (count c) 0)) r S
from_start c {r} {S} {o} {st} b e f g t =
    let n : count c - 0 ≡ count c = omega arith in
    let start = start_state (rest_week c 0) in
    subst (λ (m : ℕ). Told (Completable c m 0 start (replicate (count c) 0)) r S) n
    (subst (λ (x : State). Told (Completable c (count c - 0) 0 x (replicate (count c) 0)) r S) (e ∙ ap start_state f)
    (subst (λ (x : List ℕ). Told (Completable c (count c - 0) 0 st x) r S) g t))
