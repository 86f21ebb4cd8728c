-- What `first bounds test` is, for any test and bounds: numbers within them that pass, before all others that do; or none, where none pass.
-- Assumes nothing.
use mathlib.Core.Path.{◌≡◌, refl, sym, ap, ap₂, subst, ◌∙◌}
use mathlib.Core.Logic.{◌⊎◌, inl, inr}
use mathlib.Core.Bool.{Bool, true, false}
use mathlib.Core.List.{List, [], ◌∷◌}
use mathlib.Core.Option.{Option, none, some}
use Prim.Native.Nat.{ℕ, zero, suc, ◌+◌, ◌*◌, ◌≤◌, ◌<◌, zero-le}
use native.Mathlib.Nat.{eq-or-lt_of_le}
use native.Mathlib.Omega.{arith}
use lib.ListN.{length, replicate, length-replicate}
use Rattle.rules.specs.Reading.{entry_fields, byte_values}
use Rattle.rules.specs.Order.{Bounded, Bytes, field_bounds, Fields, NotAfter, if_passes, prepend, or_else, first_number, first}
use Rattle.recording.proofs.TestLaws.{clash}

-- the numbers within bounds, of which r are the first that pass, or of which none do
abbrev pub IsFirst : List ℕ → (List ℕ → Bool) → Option (List ℕ) → Type 0
IsFirst bounds test none = (s : List ℕ) → Bounded bounds s → test s ≡ true → ⊥
IsFirst bounds test (some r) = Bounded bounds r × (test r ≡ true) × ((s : List ℕ) → Bounded bounds s → test s ≡ true → NotAfter r s)

-- the same of those whose first is one of the c from b on
abbrev FirstIn : ℕ → ℕ → List ℕ → (List ℕ → Bool) → Option (List ℕ) → Type 0
FirstIn c b bounds test none = (a : ℕ) (s : List ℕ) → b ≤ a → a < b + c → Bounded bounds s → test (a ∷ s) ≡ true → ⊥
FirstIn c b bounds test (some []) = ⊥
FirstIn c b bounds test (some (a ∷ r)) =
    (b ≤ a) × (a < b + c) × Bounded bounds r × (test (a ∷ r) ≡ true) ×
    ((a' : ℕ) (s : List ℕ) → b ≤ a' → a' < b + c → Bounded bounds s → test (a' ∷ s) ≡ true → NotAfter (a ∷ r) (a' ∷ s))

module _ (c b : ℕ) (bounds : List ℕ) (test : List ℕ → Bool) where
  -- where no list that begins with b passes, one that passes begins later
  begins_later : IsFirst bounds (λ r. test (b ∷ r)) none → (a : ℕ) (s : List ℕ) → (b ≡ a) ⊎ (b < a) → Bounded bounds s → test (a ∷ s) ≡ true → b < a
  begins_later f a s (inl e) h t = absurd (f s h (subst (λ (x : ℕ). test (x ∷ s) ≡ true) (sym e) t))
  begins_later f a s (inr l) h t = l

  -- where r is the first after b, b and r stand before what begins with b or later
  stands_before : (r : List ℕ) → IsFirst bounds (λ r. test (b ∷ r)) (some r) → (a : ℕ) (s : List ℕ) → (b ≡ a) ⊎ (b < a) → Bounded bounds s → test (a ∷ s) ≡ true
      → NotAfter (b ∷ r) (a ∷ s)
  stands_before r f a s (inl e) h t = inr (e, f.2 s h (subst (λ (x : ℕ). test (x ∷ s) ≡ true) (sym e) t))
  stands_before r f a s (inr l) h t = inl l

  one_more : (o : Option (List ℕ)) → IsFirst bounds (λ r. test (b ∷ r)) o → (o' : Option (List ℕ)) → FirstIn c (suc b) bounds test o'
      → FirstIn (suc c) b bounds test (or_else (prepend b o) o')
  one_more (some r) f o' w = (omega arith, omega arith, f.0, f.1, λ a s l g h t. stands_before r f a s (eq-or-lt_of_le l) h t)
  one_more none f none w = λ a s l g h t. w a s (begins_later f a s (eq-or-lt_of_le l) h t) (omega arith) h t
  one_more none f (some []) w = absurd w
  one_more none f (some (a ∷ r)) w =
      (omega arith, omega arith, w.2, w.3, λ a' s l g h t. w.4 a' s (begins_later f a' s (eq-or-lt_of_le l) h t) (omega arith) h t)

first_number_law : (f : ℕ → Option (List ℕ)) (bounds : List ℕ) (test : List ℕ → Bool) → ((b : ℕ) → IsFirst bounds (λ r. test (b ∷ r)) (f b))
    → (c b : ℕ) → FirstIn c b bounds test (first_number f c b)
unfolding first_number
first_number_law f bounds test h zero b = λ a s l g h t. omega arith
first_number_law f bounds test h (suc c) b = one_more c b bounds test (f b) (h b) (first_number f c (suc b)) (first_number_law f bounds test h c (suc b))

-- the values below a bound, from 0 on, are all there are
module _ (b : ℕ) (bounds : List ℕ) (test : List ℕ → Bool) where
  none_of_all : FirstIn b 0 bounds test none → (s : List ℕ) → Bounded (b ∷ bounds) s → test s ≡ true → ⊥
  none_of_all w [] h t = h
  none_of_all w (a ∷ s) h t = w a s zero-le (omega (arith, h.0)) h.1 t

  first_of_all : (a : ℕ) (r : List ℕ) → FirstIn b 0 bounds test (some (a ∷ r)) → (s : List ℕ) → Bounded (b ∷ bounds) s → test s ≡ true → NotAfter (a ∷ r) s
  first_of_all a r w [] h t = absurd h
  first_of_all a r w (x ∷ s) h t = w.4 x s zero-le (omega (arith, h.0)) h.1 t

  of_all : (o : Option (List ℕ)) → FirstIn b 0 bounds test o → IsFirst (b ∷ bounds) test o
  of_all none w = none_of_all w
  of_all (some []) w = absurd w
  of_all (some (a ∷ r)) w = ((omega (arith, w.1), w.2), w.3, first_of_all a r w)

no_number : (test : List ℕ → Bool) (t : Bool) → test [] ≡ t → IsFirst [] test (if_passes t [])
no_number test true e = (tt, e, λ s h u. tt)
no_number test false e = nil_fails
  where
    nil_fails : (s : List ℕ) → Bounded [] s → test s ≡ true → ⊥
    nil_fails [] h u = clash (test []) u e
    nil_fails (b ∷ s) h u = h

-- THE LAW: sound, complete and least at once
pub first_law : (bounds : List ℕ) (test : List ℕ → Bool) → IsFirst bounds test (first bounds test)
unfolding first
first_law [] test = no_number test (test []) refl
first_law (b ∷ bounds) test =
    of_all b bounds test (first (b ∷ bounds) test)
    (first_number_law (λ a. first bounds (λ r. test (a ∷ r))) bounds test (λ a. first_law bounds (λ r. test (a ∷ r))) b 0)

pub law_at : (bounds : List ℕ) (test : List ℕ → Bool) {o : Option (List ℕ)} → first bounds test ≡ o → IsFirst bounds test o
law_at bounds test e = subst (IsFirst bounds test) e (first_law bounds test)

-- ---- the converses, by which code shows that it found the first or that there is none
same_if : (bounds r s : List ℕ) → Bounded bounds r → Bounded bounds s → NotAfter r s → NotAfter s r → r ≡ s
same_if [] [] [] h g p q = refl
same_if [] [] (b ∷ s) h g p q = absurd g
same_if [] (a ∷ r) s h g p q = absurd h
same_if (m ∷ bounds) [] s h g p q = absurd h
same_if (m ∷ bounds) (a ∷ r) [] h g p q = absurd g
same_if (m ∷ bounds) (a ∷ r) (b ∷ s) h g (inl l) (inl l') = absurd (omega arith)
same_if (m ∷ bounds) (a ∷ r) (b ∷ s) h g (inl l) (inr (e, q)) = absurd (omega arith)
same_if (m ∷ bounds) (a ∷ r) (b ∷ s) h g (inr (e, p)) (inl l) = absurd (omega arith)
same_if (m ∷ bounds) (a ∷ r) (b ∷ s) h g (inr (e, p)) (inr (e', q)) = ap₂ ◌∷◌ e (same_if bounds r s h.1 g.1 p q)

only_one : (bounds : List ℕ) (test : List ℕ → Bool) (o o' : Option (List ℕ)) → IsFirst bounds test o → IsFirst bounds test o' → o ≡ o'
only_one bounds test none none f g = refl
only_one bounds test none (some s) f g = absurd (f s g.0 g.1)
only_one bounds test (some r) none f g = absurd (g r f.0 f.1)
only_one bounds test (some r) (some s) f g = ap some (same_if bounds r s f.0 g.0 (f.2 s g.0 g.1) (g.2 r f.0 f.1))

pub first_is : (bounds : List ℕ) (test : List ℕ → Bool) (o : Option (List ℕ)) → IsFirst bounds test o → first bounds test ≡ o
first_is bounds test o f = only_one bounds test (first bounds test) o (first_law bounds test) f

-- ---- lists of bytes and of fields
pub bounded_length : (bounds r : List ℕ) → Bounded bounds r → length r ≡ length bounds
bounded_length [] [] h = refl
bounded_length [] (b ∷ r) h = absurd h
bounded_length (m ∷ bounds) [] h = absurd h
bounded_length (m ∷ bounds) (b ∷ r) h = ap suc (bounded_length bounds r h.1)

pub bytes_length : (n : ℕ) (r : List ℕ) → Bytes n r → length r ≡ n
bytes_length n r h = bounded_length (replicate n byte_values) r h ∙ length-replicate n byte_values

bounds_length : (n : ℕ) → length (field_bounds n) ≡ entry_fields * n
bounds_length zero = refl
bounds_length (suc n) = let e = bounds_length n in omega arith

pub fields_length : (n : ℕ) (r : List ℕ) → Fields n r → length r ≡ entry_fields * n
fields_length n r h = bounded_length (field_bounds n) r h ∙ bounds_length n

-- no fields stand before those of zeros
abbrev pub zero_fields : ℕ → List ℕ
zero_fields zero = []
zero_fields (suc n) = 0 ∷ 0 ∷ 0 ∷ zero_fields n

pub zero_fields_law : (n : ℕ) → Fields n (zero_fields n)
zero_fields_law zero = tt
zero_fields_law (suc n) = (omega arith, (omega arith, (omega arith, zero_fields_law n)))

zero_number : (b : ℕ) (r s : List ℕ) → NotAfter r s → (0 ≡ b) ⊎ (0 < b) → NotAfter (0 ∷ r) (b ∷ s)
zero_number b r s n (inl e) = inr (e, n)
zero_number b r s n (inr l) = inl l

pub zeros_first : (n : ℕ) (s : List ℕ) → Fields n s → NotAfter (zero_fields n) s
zeros_first zero s h = tt
zeros_first (suc n) [] h = absurd h
zeros_first (suc n) (a ∷ []) h = absurd h.1
zeros_first (suc n) (a ∷ b ∷ []) h = absurd h.1.1
zeros_first (suc n) (a ∷ b ∷ c ∷ s) h =
    let third = zero_number c (zero_fields n) s (zeros_first n s h.1.1.1) (eq-or-lt_of_le zero-le) in
    let second = zero_number b (0 ∷ zero_fields n) (c ∷ s) third (eq-or-lt_of_le zero-le) in
    zero_number a (0 ∷ 0 ∷ zero_fields n) (b ∷ c ∷ s) second (eq-or-lt_of_le zero-le)
