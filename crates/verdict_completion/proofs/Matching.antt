-- Reductions compared whatever rests they are of: what can be compensated for can also be where each reduction lies within another one.
-- Assumes nothing.
use mathlib.Core.Path.{◌≡◌, refl, sym, ap, subst, ◌∙◌}
use mathlib.Core.Logic.{◌⊎◌, inl, inr}
use mathlib.Core.Bool.{Bool, true, false}
use mathlib.Core.List.{List}
use Prim.Native.Nat.{ℕ, zero, suc, ◌+◌, ◌≤◌, ◌<◌, zero-le}
use native.Mathlib.Nat.{le_refl, eq-zero-or-pos}
use native.Mathlib.Omega.{arith}
use lib.Dec.{eqb}
use lib.ListN.{length, set, length-set, get_or-eq_default}
use lib.Seq.{get_or-set_same, get_or-set_other, set_out, set_comm}
use borrow.Author.Tests.{eqb-true, eqb-false, eq-eqb, ne_eqb}
use Rattle.recording.specs.Tests.{pick}
use Rattle.recording.proofs.TestLaws.{less_or_not}
use Rattle.rules.specs.ReadingRules.{least_net}
use Rattle.rules.specs.declared.Kind.TheVariants.{Daily}
use Rattle.verdict_completion.specs.Completable.{at, amount_of, Overdue, Compensates}
use Rattle.verdict_completion.specs.Better.{Within, Matched}

pub same_or_not : (a b : ℕ) → (a ≡ b) ⊎ (a ≡ b → ⊥)
same_or_not a b = go (eqb a b) refl
  where
    go : (t : Bool) → eqb a b ≡ t → (a ≡ b) ⊎ (a ≡ b → ⊥)
    go true e = inl (eqb-true a b e)
    go false e = inr (eqb-false a b e)

pub within_self : {a : ℕ} → 0 < a → Within a a
within_self h = record { is_outstanding = h; less = le_refl _; later = le_refl _ }

-- ---- what stands where after a store
-- a slot with a reduction after a store is the one stored to, or had one before
data Owing (o : List ℕ) (i a x : ℕ) : Type 0 where
  now : x ≡ i → at (set o i a) x ≡ a → Owing o i a x
  before : (x ≡ i → ⊥) → 0 < at o x → at (set o i a) x ≡ at o x → Owing o i a x

outstanding_count : (o : List ℕ) (i a x : ℕ) → 0 < at (set o i a) x → Owing o i a x
outstanding_count o i a x h = go (same_or_not x i)
  where
    here : x ≡ i → (i < length o) ⊎ (length o ≤ i) → Owing o i a x
    here e (inl l) = now e (ap (at (set o i a)) e ∙ get_or-set_same o i a 0 l)
    here e (inr l) = absurd (omega (arith, h, ap (λ (z : List ℕ). at z x) (set_out o i a l) ∙ get_or-eq_default o 0 {n = x} (omega (arith, e, l))))

    go : (x ≡ i) ⊎ (x ≡ i → ⊥) → Owing o i a x
    go (inl e) = here e (less_or_not i (length o))
    go (inr n) = let q = get_or-set_other o i x a 0 n in before n (omega (arith, h, q)) q

-- what is still outstanding after the reduction at i is compensated for
cleared : (o : List ℕ) (i x : ℕ) → 0 < at (set o i 0) x → (x ≡ i → ⊥) × (0 < at o x)
cleared o i x h = go (outstanding_count o i 0 x h)
  where
    go : Owing o i 0 x → (x ≡ i → ⊥) × (0 < at o x)
    go (now e z) = absurd (omega (arith, h, z))
    go (before n l z) = (n, l)

-- ---- compensating
module _ (F : ℕ → List ℕ → Type 0) (minutes : ℕ) where
  -- every reduction is left
  pub all_left : (m i a : ℕ) (o : List ℕ) → F a o → Compensates F minutes m i a o
  unfolding Compensates
  all_left zero i a o h = h
  all_left (suc m) i a o h = inr (all_left m (i + 1) a o h)

  -- a reduction that is compensated for first can be in its turn
  pub in_turn : (m i a x : ℕ) (o : List ℕ) → i ≤ x → x < i + m → 0 < at o x → least_net Daily + (a + amount_of (at o x)) ≤ minutes
      → Compensates F minutes m i (a + amount_of (at o x)) (set o x 0) → Compensates F minutes m i a o
  unfolding Compensates
  in_turn zero i a x o low high is_outstanding fits h = absurd (omega arith)
  in_turn (suc m) i a x o low high is_outstanding fits h =
      go (same_or_not i x) h
      (λ n q. in_turn m (i + 1) a x o (omega arith) (omega arith) is_outstanding fits q)
      (λ n v w. in_turn m (i + 1) (a + amount_of (at o i)) x (set o i 0) (omega arith) (omega arith) v w)
    where
      goal : Type 0
      goal = ((0 < at o i) × (least_net Daily + (a + amount_of (at o i)) ≤ minutes) × Compensates F minutes m (i + 1) (a + amount_of (at o i)) (set o i 0)) ⊎ Compensates F minutes m (i + 1) a o

      given : Type 0
      given =
          ((0 < at (set o x 0) i) × (least_net Daily + (a + amount_of (at o x) + amount_of (at (set o x 0) i)) ≤ minutes) ×
          Compensates F minutes m (i + 1) (a + amount_of (at o x) + amount_of (at (set o x 0) i)) (set (set o x 0) i 0))
          ⊎ Compensates F minutes m (i + 1) (a + amount_of (at o x)) (set o x 0)

      go : (i ≡ x) ⊎ (i ≡ x → ⊥) → given
          → ((i ≡ x → ⊥) → Compensates F minutes m (i + 1) (a + amount_of (at o x)) (set o x 0) → Compensates F minutes m (i + 1) a o)
          → ((i ≡ x → ⊥) → 0 < at (set o i 0) x → least_net Daily + (a + amount_of (at o i) + amount_of (at (set o i 0) x)) ≤ minutes
          → Compensates F minutes m (i + 1) (a + amount_of (at o i) + amount_of (at (set o i 0) x)) (set (set o i 0) x 0)
          → Compensates F minutes m (i + 1) (a + amount_of (at o i)) (set o i 0))
          → goal
      go (inl e) (inl q) f g = absurd ((cleared o x i q.0).0 e)
      go (inl e) (inr q) f g =
          subst (λ (z : ℕ). ((0 < at o z) × (least_net Daily + (a + amount_of (at o z)) ≤ minutes) × Compensates F minutes m (i + 1) (a + amount_of (at o z))
          (set o z 0)) ⊎ Compensates F minutes m (i + 1) a o)
          (sym e) (inl (is_outstanding, fits, q))
      go (inr n) (inr q) f g = inr (f n q)
      go (inr n) (inl q) f g =
          let u = get_or-set_other o x i 0 0 n in
          let v = get_or-set_other o i x 0 0 (λ e. n (sym e)) in
          let w : a + amount_of (at o x) + amount_of (at (set o x 0) i) ≡ a + amount_of (at o i) + amount_of (at (set o i 0) x)
          = ap (λ (z : ℕ). a + amount_of (at o x) + amount_of z) u ∙ swap a (amount_of (at o x)) (amount_of (at o i)) ∙ ap (λ (z : ℕ). a + amount_of (at o i) + amount_of z) (sym v) in
          inl (
            (cleared o x i q.0).1,
            less a (amount_of (at o x)) (amount_of (at o i)) (subst (λ (z : ℕ). least_net Daily + (a + amount_of (at o x) + amount_of z) ≤ minutes) u q.1),
            g n (subst (λ (z : ℕ). 0 < z) (sym v) is_outstanding) (subst (λ (z : ℕ). least_net Daily + z ≤ minutes) w q.1)
                (subst (λ (z : ℕ). Compensates F minutes m (i + 1) z (set (set o i 0) x 0)) w
                (subst (Compensates F minutes m (i + 1) (a + amount_of (at o x) + amount_of (at (set o x 0) i))) (set_comm o x i 0 0 (λ e. n (sym e))) q.2)),
          )
        where
          swap : (a b c : ℕ) → a + b + c ≡ a + c + b
          swap a b c = omega arith

          less : (a b c : ℕ) → least_net Daily + (a + b + c) ≤ minutes → least_net Daily + (a + c) ≤ minutes
          less a b c h = omega arith

-- ---- matched reductions
module _ {k j : ℕ} {o p : List ℕ} (d : Matched k j o p) where
  pub matched_overdue : (t : ℕ) → Overdue o t → Overdue p t
  unfolding Overdue
  matched_overdue t h = let w = d.within h.0 h.1 in (d.to h.0, w.is_outstanding, omega (arith, w.later, h.2))

  pub matched_on : Matched k (suc j) o p
  matched_on = record {
    long = d.long;
    to = d.to;
    below = λ x h. omega (arith, d.below x h);
    to_below = λ x h. omega (arith, d.to_below x h);
    within = d.within;
    apart = d.apart;
  }

  -- a reduction of p is compensated for, within which none of o lies
  one_gone : (i : ℕ) → ((x : ℕ) → 0 < at o x → d.to x ≡ i → ⊥) → Matched k j o (set p i 0)
  one_gone i none = record {
    long = length-set p i 0 ∙ d.long;
    to = d.to;
    below = d.below;
    to_below = d.to_below;
    within = λ x h. subst (Within (at o x)) (sym (get_or-set_other p i (d.to x) 0 0 (none x h))) (d.within x h);
    apart = d.apart;
  }

  -- a reduction of each, one within the other
  both_gone : (x : ℕ) → 0 < at o x → Matched k j (set o x 0) (set p (d.to x) 0)
  both_gone x is_outstanding = record {
    long = length-set p (d.to x) 0 ∙ d.long;
    to = d.to;
    below = λ y h. d.below y (cleared o x y h).1;
    to_below = λ y h. d.to_below y (cleared o x y h).1;
    within = λ y h. let q = cleared o x y h in
        subst (λ (z : ℕ). Within z (at (set p (d.to x) 0) (d.to y))) (sym (get_or-set_other o x y 0 0 q.0))
        (subst (Within (at o y)) (sym (get_or-set_other p (d.to x) (d.to y) 0 0 (λ e. q.0 (d.apart y x q.1 is_outstanding e)))) (d.within y q.1));
    apart = λ y z h l e. d.apart y z (cleared o x y h).1 (cleared o x z l).1 e;
  }

  -- the reduction of o, if there is one, that lies within that of p at i
  data Inside (i : ℕ) : Type 0 where
    one : (x : ℕ) → 0 < at o x → d.to x ≡ i → Inside i
    none : ((x : ℕ) → 0 < at o x → d.to x ≡ i → ⊥) → Inside i

  inside_below : (n i : ℕ) → ((x : ℕ) → n ≤ x → 0 < at o x → d.to x ≡ i → ⊥) → Inside i
  inside_below zero i h = none (λ x l. h x zero-le l)
  inside_below (suc n) i h = go (eq-zero-or-pos (at o n)) (same_or_not (d.to n) i) (λ u. inside_below n i (λ x m l e. later x m l e u (same_or_not x n)))
    where
      later : (x : ℕ) → n ≤ x → 0 < at o x → d.to x ≡ i → (0 < at o n → d.to n ≡ i → ⊥) → (x ≡ n) ⊎ (x ≡ n → ⊥) → ⊥
      later x m l e u (inl s) = u (subst (λ (y : ℕ). 0 < at o y) s l) (ap d.to (sym s) ∙ e)
      later x m l e u (inr s) = h x (omega arith) l e

      go : (at o n ≡ 0) ⊎ (0 < at o n) → (d.to n ≡ i) ⊎ (d.to n ≡ i → ⊥) → ((0 < at o n → d.to n ≡ i → ⊥) → Inside i) → Inside i
      go (inl z) (inl e) f = f (λ l _. omega arith)
      go (inl z) (inr w) f = f (λ l _. omega arith)
      go (inr l) (inl e) f = one n l e
      go (inr l) (inr w) f = f (λ _ e. w e)

  inside : (i : ℕ) → Inside i
  inside i = inside_below j i (λ x m l e. omega (arith, d.below x l))

-- a reduction is put at r beside the one at q within which it lies, where no other reduction lies within that
module _ {k j : ℕ} {o p : List ℕ} (d : Matched k j o p) (n r q a b : ℕ) (away : (x : ℕ) → 0 < at o x → d.to x ≡ q → ⊥) where
  abbrev put_to : ℕ → ℕ
  put_to x = pick (eqb x r) q (d.to x)

  -- the new reduction, or one that was there
  data Place (x : ℕ) : Type 0 where
    new : x ≡ r → put_to x ≡ q → at (set o r a) x ≡ a → Place x
    old : 0 < at o x → put_to x ≡ d.to x → at (set o r a) x ≡ at o x → Place x

  place : (x : ℕ) → 0 < at (set o r a) x → Place x
  place x h = go (outstanding_count o r a x h)
    where
      go : Owing o r a x → Place x
      go (now e z) = new e (ap (λ (t : Bool). pick t q (d.to x)) (eq-eqb x r e)) z
      go (before u l z) = old l (ap (λ (t : Bool). pick t q (d.to x)) (ne_eqb x r u)) z

  place_below : j ≤ n → r < n → (x : ℕ) → Place x → x < n
  place_below le l x (new e f g) = omega arith
  place_below le l x (old h f g) = omega (arith, d.below x h)

  place_to : j ≤ n → q < n → (x : ℕ) → Place x → put_to x < n
  place_to le l x (new e f g) = omega (arith, f)
  place_to le l x (old h f g) = omega (arith, f, d.to_below x h)

  place_within : q < k → (a ≡ 0) ⊎ Within a b → (x : ℕ) → 0 < at (set o r a) x → Place x → Within (at (set o r a) x) (at (set p q b) (put_to x))
  place_within l (inl z) x h (new e f g) = absurd (omega (arith, h, g, z))
  place_within l (inr w) x h (new e f g) =
      subst (λ (y : ℕ). Within y (at (set p q b) (put_to x))) (sym g)
      (subst (λ (y : ℕ). Within a (at (set p q b) y)) (sym f) (subst (Within a) (sym (get_or-set_same p q b 0 (omega (arith, d.long)))) w))
  place_within l m x h (old u f g) =
      subst (λ (y : ℕ). Within y (at (set p q b) (put_to x))) (sym g)
      (subst (λ (y : ℕ). Within (at o x) (at (set p q b) y)) (sym f) (subst (Within (at o x)) (sym (get_or-set_other p q (d.to x) b 0 (away x u))) (d.within x u)))

  place_apart : (x y : ℕ) → Place x → Place y → put_to x ≡ put_to y → x ≡ y
  place_apart x y (new e f g) (new e' f' g') h = e ∙ sym e'
  place_apart x y (new e f g) (old l f' g') h = absurd (away y l (sym f' ∙ sym h ∙ f))
  place_apart x y (old l f g) (new e f' g') h = absurd (away x l (sym f ∙ h ∙ f'))
  place_apart x y (old l f g) (old l' f' g') h = d.apart x y l l' (sym f ∙ h ∙ f')

  pub put_at : j ≤ n → r < n → q < n → q < k → (a ≡ 0) ⊎ Within a b → Matched k n (set o r a) (set p q b)
  put_at le rn qn qk m = record {
    long = length-set p q b ∙ d.long;
    to = put_to;
    below = λ x h. place_below le rn x (place x h);
    to_below = λ x h. place_to le qn x (place x h);
    within = λ x h. place_within qk m x h (place x h);
    apart = λ x y h l e. place_apart x y (place x h) (place y l) e;
  }

module _ {k j : ℕ} (F G : ℕ → List ℕ → Type 0) (minutes : ℕ) (mono : (a b : ℕ) (o p : List ℕ) → a ≤ b → Matched k j o p → G b p → F a o) where
  -- what can be compensated for among the reductions p can be among reductions that lie within them
  pub matched_compensates : (m i a b : ℕ) {o p : List ℕ} → a ≤ b → Matched k j o p → Compensates G minutes m i b p → Compensates F minutes j 0 a o
  unfolding Compensates
  matched_compensates zero i a b {o} {p} le d h = all_left F minutes j 0 a o (mono a b o p le d h)
  matched_compensates (suc m) i a b {o} {p} le d (inr h) = matched_compensates m (i + 1) a b le d h
  matched_compensates (suc m) i a b {o} {p} le d (inl h) =
      go (inside d i) (λ l e. matched_compensates m (i + 1) a (b + amount_of (at p i)) l e h.2)
      (λ x l e. matched_compensates m (i + 1) (a + amount_of (at o x)) (b + amount_of (at p i)) l e h.2)
    where
      go : Inside d i → (a ≤ b + amount_of (at p i) → Matched k j o (set p i 0) → Compensates F minutes j 0 a o)
          → ((x : ℕ) → a + amount_of (at o x) ≤ b + amount_of (at p i) → Matched k j (set o x 0) (set p i 0) → Compensates F minutes j 0 (a + amount_of (at o x)) (set o x 0))
          → Compensates F minutes j 0 a o
      go (none n) f g = f (omega arith) (one_gone d i n)
      go (one x is_outstanding e) f g =
          let w = subst (λ (z : ℕ). Within (at o x) (at p z)) e (d.within x is_outstanding) in
          let l : a + amount_of (at o x) ≤ b + amount_of (at p i) = omega (arith, w.less) in
          in_turn F minutes j 0 a x o zero-le (omega (arith, d.below x is_outstanding)) is_outstanding (omega (arith, h.1))
          (g x l (subst (λ (z : ℕ). Matched k j (set o x 0) (set p z 0)) e (both_gone d x is_outstanding)))
