-- What outstanding reductions bring to a later rest by their carriers, and that a rest compensates for just the reductions whose carrier it is.
-- Assumes nothing.
use mathlib.Core.Path.{◌≡◌, refl, sym, ap, ap₂, subst, ◌∙◌}
use mathlib.Core.Logic.{◌⊎◌, inl, inr, ⊎_elim}
use mathlib.Core.Bool.{Bool, true, false}
use mathlib.Core.List.{List}
use Prim.Native.Nat.{ℕ, zero, suc, ◌+◌, ◌-◌, ◌*◌, ◌≤◌, ◌<◌}
use native.Mathlib.Nat.{le_refl, eq-zero-or-pos}
use native.Mathlib.Omega.{arith}
use lib.Dec.{eqb}
use lib.ListN.{length, set, length-set, get_or-eq_default}
use lib.Seq.{get_or-set_same, get_or-set_other}
use borrow.Author.Tests.{le-leb, lt-leb, eqb-true, eqb-false, eq-eqb, ne_eqb}
use Rattle.recording.specs.Tests.{pick}
use Rattle.recording.specs.Weeks.{week_start}
use Rattle.recording.proofs.TestLaws.{less_or_not}
use Rattle.rules.specs.Reading.{regular_minutes}
use Rattle.rules.specs.ReadingRules.{least_net, weeks_to_compensate}
use Rattle.rules.specs.declared.Kind.TheVariants.{Daily, Weekly}
use Rattle.rules.specs.declared.Standing.TheVariants.{Regular}
use Rattle.verdict_completion.specs.Completable.{at, reduction_unit, amount_of, deadline_of, outstanding_of, Compensates}

-- ---- a reduction as a word
pub reduction_none : (minutes compensation w : ℕ) → regular_minutes + compensation ≤ minutes → outstanding_of minutes compensation w ≡ 0
unfolding outstanding_of
reduction_none minutes compensation w h = rw (le-leb (regular_minutes + compensation) minutes h) refl

reduction_is : (minutes compensation w : ℕ) → minutes < regular_minutes + compensation
    → outstanding_of minutes compensation w ≡ (w + weeks_to_compensate) * reduction_unit + (regular_minutes + compensation - minutes)
unfolding outstanding_of
reduction_is minutes compensation w h = rw (lt-leb (regular_minutes + compensation) minutes h) refl

pub reduction_some : (minutes compensation w : ℕ) → minutes < regular_minutes + compensation → 0 < outstanding_of minutes compensation w
reduction_some minutes compensation w h = rw (reduction_is minutes compensation w h) (omega arith)

pub reduction_deadline : (minutes compensation w : ℕ) → least_net (Weekly Regular) + compensation ≤ minutes → minutes < regular_minutes + compensation
    → deadline_of (outstanding_of minutes compensation w) ≡ week_start (w + weeks_to_compensate)
reduction_deadline minutes compensation w n h = rw (reduction_is minutes compensation w h) (omega arith)

pub reduction_amount : (minutes compensation w : ℕ) → least_net (Weekly Regular) + compensation ≤ minutes → amount_of (outstanding_of minutes compensation w) ≡ regular_minutes + compensation - minutes
reduction_amount minutes compensation w n =
    ⊎_elim
    (λ h. rw (reduction_is minutes compensation w h) (omega arith))
    (λ h. rw (reduction_none minutes compensation w h) (omega arith))
    (less_or_not minutes (regular_minutes + compensation))

-- ---- what m reductions from index i on bring to the rest of a number, by the number of the rest that carries each
abbrev pub share : ℕ → ℕ → ℕ → ℕ
share number carrier reduction = pick (eqb carrier number) (amount_of reduction) 0

abbrev pub brought : ℕ → (ℕ → ℕ) → List ℕ → ℕ → ℕ → ℕ
brought number carrier outstanding zero i = 0
brought number carrier outstanding (suc m) i = share number (carrier i) (at outstanding i) + brought number carrier outstanding m (i + 1)

pub share_none : (number carrier reduction : ℕ) → reduction ≡ 0 → share number carrier reduction ≡ 0
share_none number carrier reduction z = rw z (by (eqb carrier number))
  where
    by : (b : Bool) → pick b (amount_of 0) 0 ≡ 0
    by true = refl
    by false = refl

pub share_here : (number carrier reduction : ℕ) → carrier ≡ number → share number carrier reduction ≡ amount_of reduction
share_here number carrier reduction e = rw (eq-eqb carrier number e) refl

pub share_other : (number carrier reduction : ℕ) → (carrier ≡ number → ⊥) → share number carrier reduction ≡ 0
share_other number carrier reduction n = rw (ne_eqb carrier number n) refl

pub brought_same : (number : ℕ) (f g : ℕ → ℕ) (outstanding left : List ℕ) (m i : ℕ)
    → ((x : ℕ) → i ≤ x → x < i + m → share number (f x) (at outstanding x) ≡ share number (g x) (at left x))
    → brought number f outstanding m i ≡ brought number g left m i
brought_same number f g outstanding left zero i h = refl
brought_same number f g outstanding left (suc m) i h =
    ap₂ ◌+◌ (h i (le_refl _) (omega arith)) (brought_same number f g outstanding left m (i + 1) (λ x a b. h x (omega arith) (omega arith)))

brought_end : (number : ℕ) (f : ℕ → ℕ) (outstanding : List ℕ) (m i : ℕ)
    → brought number f outstanding (suc m) i ≡ brought number f outstanding m i + share number (f (i + m)) (at outstanding (i + m))
brought_end number f outstanding zero i =
    let e : i + 0 ≡ i = omega arith in
    let q : share number (f (i + 0)) (at outstanding (i + 0)) ≡ share number (f i) (at outstanding i) = ap (λ (x : ℕ). share number (f x) (at outstanding x)) e in
    omega arith
brought_end number f outstanding (suc m) i =
    let e : i + 1 + m ≡ i + suc m = omega arith in
    let q : share number (f (i + 1 + m)) (at outstanding (i + 1 + m)) ≡ share number (f (i + suc m)) (at outstanding (i + suc m)) =
    ap (λ (x : ℕ). share number (f x) (at outstanding x)) e in
    let r : brought number f outstanding (suc m) (i + 1) ≡ brought number f outstanding m (i + 1) + share number (f (i + 1 + m)) (at outstanding (i + 1 + m)) =
    brought_end number f outstanding m (i + 1) in
    omega arith

pub brought_last : (number : ℕ) (f : ℕ → ℕ) (outstanding : List ℕ) (m : ℕ)
    → brought number f outstanding (suc m) 0 ≡ brought number f outstanding m 0 + share number (f m) (at outstanding m)
brought_last number f outstanding m =
    let e : 0 + m ≡ m = omega arith in
    brought_end number f outstanding m 0 ∙ ap (λ (x : ℕ). brought number f outstanding m 0 + share number (f x) (at outstanding x)) e

pub brought_nothing : (number : ℕ) (f : ℕ → ℕ) (outstanding : List ℕ) (m i : ℕ) → ((x : ℕ) → at outstanding x ≡ 0) → brought number f outstanding m i ≡ 0
brought_nothing number f outstanding zero i z = refl
brought_nothing number f outstanding (suc m) i z =
    let a : share number (f i) (at outstanding i) ≡ 0 = share_none number (f i) (at outstanding i) (z i) in
    let b : brought number f outstanding m (i + 1) ≡ 0 = brought_nothing number f outstanding m (i + 1) z in
    omega arith

-- ---- a reduction that is outstanding has its place
pub in_place : (outstanding : List ℕ) (i : ℕ) → 0 < at outstanding i → i < length outstanding
in_place outstanding i h =
    ⊎_elim (λ l. l) (λ l. let z : at outstanding i ≡ 0 = get_or-eq_default outstanding 0 l in absurd (omega arith)) (less_or_not i (length outstanding))

pub set_other : (outstanding : List ℕ) (i x d : ℕ) → (x ≡ i → ⊥) → at (set outstanding i d) x ≡ at outstanding x
set_other outstanding i x d n = get_or-set_other outstanding i x d 0 n

-- ---- the reductions that a rest has compensated for have it as their carrier
abbrev pub carried_by : List ℕ → ℕ → (ℕ → ℕ) → ℕ → ℕ
carried_by left number later x = pick (eqb (at left x) 0) number (later x)

pub record Compensated (F : ℕ → List ℕ → Type 0) (m i compensation : ℕ) (outstanding : List ℕ) : Type 0 where
  pub total : ℕ
  pub left : List ℕ
  pub asked : F total left
  pub size : length left ≡ length outstanding
  pub each : (x : ℕ) → (at left x ≡ at outstanding x) ⊎ (at left x ≡ 0)
  pub before : (x : ℕ) → x < i → at left x ≡ at outstanding x
  pub sum : (number : ℕ) (later : ℕ → ℕ) → ((x : ℕ) → i ≤ x → x < i + m → 0 < at left x → later x ≡ number → ⊥)
      → total ≡ compensation + brought number (carried_by left number later) outstanding m i

module _ (F : ℕ → List ℕ → Type 0) (minutes : ℕ) where
  -- the reduction of index i is left
  share-left : (number i : ℕ) (later : ℕ → ℕ) (outstanding left : List ℕ) → at left i ≡ at outstanding i → (0 < at left i → later i ≡ number → ⊥)
      → share number (carried_by left number later i) (at outstanding i) ≡ 0
  share-left number i later outstanding left e n =
      ⊎_elim
      (λ z. share_none number (carried_by left number later i) (at outstanding i) (sym e ∙ z))
      (λ h. rw (ne_eqb (at left i) 0 (λ z. omega arith)) (share_other number (later i) (at outstanding i) (n h)))
      (eq-zero-or-pos (at left i))

  leaves : {m i compensation : ℕ} {outstanding : List ℕ} → Compensated F m (i + 1) compensation outstanding → Compensated F (suc m) i compensation outstanding
  leaves {m} {i} {compensation} {outstanding} p = record {
    total = p.total;
    left = p.left;
    asked = p.asked;
    size = p.size;
    each = p.each;
    before = λ x l. p.before x (omega arith);
    sum = λ number later n.
        let f = carried_by p.left number later in
        let s : p.total ≡ compensation + brought number f outstanding m (i + 1) = p.sum number later (λ x a b. n x (omega arith) (omega arith)) in
        let z : share number (f i) (at outstanding i) ≡ 0 =
        share-left number i later outstanding p.left (p.before i (omega arith)) (n i (le_refl _) (omega arith)) in
        omega arith;
  }

  compensates_it : {m i compensation : ℕ} {outstanding : List ℕ} → 0 < at outstanding i → Compensated F m (i + 1) (compensation + amount_of (at outstanding i)) (set outstanding i 0)
      → Compensated F (suc m) i compensation outstanding
  compensates_it {m} {i} {compensation} {outstanding} h p =
      let gone : at p.left i ≡ 0 = p.before i (omega arith) ∙ get_or-set_same outstanding i 0 0 (in_place outstanding i h) in
      record {
        total = p.total;
        left = p.left;
        asked = p.asked;
        size = p.size ∙ length-set outstanding i 0;
        each = λ x. by x (p.each x) (less_or_not x i) (less_or_not i x);
        before = λ x l. p.before x (omega arith) ∙ set_other outstanding i x 0 (λ q. omega arith);
        sum = λ number later n.
            let f = carried_by p.left number later in
            let s : p.total ≡ compensation + amount_of (at outstanding i) + brought number f (set outstanding i 0) m (i + 1) =
            p.sum number later (λ x a b. n x (omega arith) (omega arith)) in
            let r : brought number f (set outstanding i 0) m (i + 1) ≡ brought number f outstanding m (i + 1) =
            brought_same number f f (set outstanding i 0) outstanding m (i + 1) (λ x a b. ap (share number (f x)) (set_other outstanding i x 0 (λ q. omega arith))) in
            let z : share number (f i) (at outstanding i) ≡ amount_of (at outstanding i) =
            rw (eq-eqb (at p.left i) 0 gone) (share_here number number (at outstanding i) refl) in
            omega arith;
      }
    where
      same : (x : ℕ) → (x ≡ i → ⊥) → (at p.left x ≡ at (set outstanding i 0) x) ⊎ (at p.left x ≡ 0) → (at p.left x ≡ at outstanding x) ⊎ (at p.left x ≡ 0)
      same x n (inl e) = inl (e ∙ set_other outstanding i x 0 n)
      same x n (inr z) = inr z

      by : (x : ℕ) → (at p.left x ≡ at (set outstanding i 0) x) ⊎ (at p.left x ≡ 0) → (x < i) ⊎ (i ≤ x) → (i < x) ⊎ (x ≤ i)
          → (at p.left x ≡ at outstanding x) ⊎ (at p.left x ≡ 0)
      by x e (inl l) r = same x (λ q. omega arith) e
      by x e (inr l) (inl r) = same x (λ q. omega arith) e
      by x e (inr l) (inr r) =
          let q : x ≡ i = omega arith in
          inr (ap (at p.left) q ∙ p.before i (omega arith) ∙ get_or-set_same outstanding i 0 0 (in_place outstanding i h))

  pub added_to : (m i compensation : ℕ) (outstanding : List ℕ) → Compensates F minutes m i compensation outstanding → Compensated F m i compensation outstanding
  unfolding Compensates
  added_to zero i compensation outstanding h = record {
    total = compensation;
    left = outstanding;
    asked = h;
    size = refl;
    each = λ x. inl refl;
    before = λ x l. refl;
    sum = λ number later n. omega arith;
  }
  added_to (suc m) i compensation outstanding (inl h) = compensates_it h.0 (added_to m (i + 1) (compensation + amount_of (at outstanding i)) (set outstanding i 0) h.2)
  added_to (suc m) i compensation outstanding (inr h) = leaves (added_to m (i + 1) compensation outstanding h)

-- ---- and the converse: a rest compensates for the reductions whose carrier it is
pub record Left (number : ℕ) (carrier : ℕ → ℕ) (m i : ℕ) (outstanding left : List ℕ) : Type 0 where
  pub size : length left ≡ length outstanding
  pub gone : (x : ℕ) → i ≤ x → x < i + m → carrier x ≡ number → at left x ≡ 0
  pub stays : (x : ℕ) → (carrier x ≡ number → ⊥) → at left x ≡ at outstanding x
  pub before : (x : ℕ) → x < i → at left x ≡ at outstanding x
  pub beyond : (x : ℕ) → i + m ≤ x → at left x ≡ at outstanding x

module _ (F : ℕ → List ℕ → Type 0) (minutes number total : ℕ) (carrier : ℕ → ℕ) (fits : least_net Daily + total ≤ minutes) where
  left_none : {m i : ℕ} {outstanding left : List ℕ} → (carrier i ≡ number → at outstanding i ≡ 0) → Left number carrier m (i + 1) outstanding left → Left number carrier (suc m) i outstanding left
  left_none {m} {i} {outstanding} {left} n l = record {
    size = l.size;
    gone = λ x a b e. ⊎_elim
        (λ r. l.gone x (omega arith) (omega arith) e)
        (λ r. let q : x ≡ i = omega arith in
        subst (λ (y : ℕ). at left y ≡ 0) (sym q) (l.before i (omega arith) ∙ n (ap carrier (sym q) ∙ e)))
        (less_or_not i x);
    stays = l.stays;
    before = λ x a. l.before x (omega arith);
    beyond = λ x a. l.beyond x (omega arith);
  }

  left-added_to : {m i : ℕ} {outstanding left : List ℕ} → 0 < at outstanding i → carrier i ≡ number → Left number carrier m (i + 1) (set outstanding i 0) left → Left number carrier
      (suc m) i outstanding left
  left-added_to {m} {i} {outstanding} {left} h c l = record {
    size = l.size ∙ length-set outstanding i 0;
    gone = λ x a b e. ⊎_elim
        (λ r. l.gone x (omega arith) (omega arith) e)
        (λ r. let q : x ≡ i = omega arith in
        subst (λ (y : ℕ). at left y ≡ 0) (sym q) (l.before i (omega arith) ∙ get_or-set_same outstanding i 0 0 (in_place outstanding i h)))
        (less_or_not i x);
    stays = λ x n. l.stays x n ∙ set_other outstanding i x 0 (λ q. n (ap carrier q ∙ c));
    before = λ x a. l.before x (omega arith) ∙ set_other outstanding i x 0 (λ q. omega arith);
    beyond = λ x a. l.beyond x (omega arith) ∙ set_other outstanding i x 0 (λ q. omega arith);
  }

  pub compensates : (m i compensation : ℕ) (outstanding : List ℕ) → total ≡ compensation + brought number carrier outstanding m i
      → ((left : List ℕ) → Left number carrier m i outstanding left → F total left) → Compensates F minutes m i compensation outstanding
  unfolding Compensates
  compensates zero i compensation outstanding e k =
      let q : total ≡ compensation = omega arith in
      subst (λ (x : ℕ). F x outstanding) q
      (k outstanding (record { size = refl; gone = λ x a b c. absurd (omega arith); stays = λ x n. refl; before = λ x a. refl; beyond = λ x a. refl }))
  compensates (suc m) i compensation outstanding e k =
      by _ refl (eq-zero-or-pos (at outstanding i)) (compensates m (i + 1) compensation outstanding) (compensates m (i + 1) (compensation + amount_of (at outstanding i)) (set outstanding i 0))
    where
      Later : ℕ → List ℕ → Type 0
      Later compensation outstanding =
          total ≡ compensation + brought number carrier outstanding m (i + 1) → ((left : List ℕ) → Left number carrier m (i + 1) outstanding left → F total left)
          → Compensates F minutes m (i + 1) compensation outstanding

      by : (b : Bool) → eqb (carrier i) number ≡ b → (at outstanding i ≡ 0) ⊎ (0 < at outstanding i) → Later compensation outstanding
          → Later (compensation + amount_of (at outstanding i)) (set outstanding i 0)
          → ((0 < at outstanding i) × (least_net Daily + (compensation + amount_of (at outstanding i)) ≤ minutes) ×
          Compensates F minutes m (i + 1) (compensation + amount_of (at outstanding i)) (set outstanding i 0))
          ⊎ Compensates F minutes m (i + 1) compensation outstanding
      by false t o skip compensate =
          let n = eqb-false (carrier i) number t in
          let s : share number (carrier i) (at outstanding i) ≡ 0 = share_other number (carrier i) (at outstanding i) n in
          inr (skip (omega arith) (λ left l. k left (left_none (λ c. absurd (n c)) l)))
      by true t (inl z) skip compensate =
          let s : share number (carrier i) (at outstanding i) ≡ 0 = share_none number (carrier i) (at outstanding i) z in
          inr (skip (omega arith) (λ left l. k left (left_none (λ c. z) l)))
      by true t (inr h) skip compensate =
          let c = eqb-true (carrier i) number t in
          let s : share number (carrier i) (at outstanding i) ≡ amount_of (at outstanding i) = share_here number (carrier i) (at outstanding i) c in
          let r : brought number carrier (set outstanding i 0) m (i + 1) ≡ brought number carrier outstanding m (i + 1) =
          brought_same number carrier carrier (set outstanding i 0) outstanding m (i + 1) (λ x a b. ap (share number (carrier x)) (set_other outstanding i x 0 (λ q. omega arith))) in
          inl (h, omega arith, compensate (omega arith) (λ left l. k left (left-added_to h c l)))
