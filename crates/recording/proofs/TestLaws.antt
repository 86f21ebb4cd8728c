-- Laws of the joint tests. Assumes nothing.
use mathlib.Core.Path.{◌≡◌, refl, sym, ap, ◌∙◌}
use mathlib.Core.Logic.{◌⊎◌, inl, inr}
use mathlib.Core.Bool.{Bool, true, false, not, ◌&&◌, ◌||◌, false≢true, true≢false}
use mathlib.Core.List.Memᴰ
use mathlib.Core.List.Memᴰ.{head as here}
use mathlib.Core.List.Memᴰ.{tail as there}
use mathlib.Core.List.{List, [], ◌∷◌, ◌++◌, Memᴰ as In}
use Prim.Native.Nat.{ℕ, zero, suc, ◌≤◌, ◌<◌}
use native.Mathlib.Nat.{eq-or-lt_of_le}
use native.Mathlib.Omega.{arith}
use lib.Dec.{ltb}
use borrow.Author.Tests.{ltb-true, ltb-false}
use Rattle.recording.specs.Tests.{◌and◌, ◌or◌, pick, one, all_of, any_of, all_below, keep}

-- what `&` and `|` of two tests in code come to
pub and_is : (a b : Bool) → a && b ≡ a and b
unfolding ◌and◌
and_is true b = refl
and_is false b = refl

pub or_is : (a b : Bool) → a || b ≡ a or b
unfolding ◌or◌
or_is true b = refl
or_is false b = refl

pub and_left : (a b : Bool) → a and b ≡ true → a ≡ true
unfolding ◌and◌
and_left true b t = refl
and_left false b t = t

pub and_right : (a b : Bool) → a and b ≡ true → b ≡ true
unfolding ◌and◌
and_right true b t = t
and_right false b t = absurd (false≢true t)

pub and_both : (a b : Bool) → a ≡ true → b ≡ true → a and b ≡ true
unfolding ◌and◌
and_both true b s t = t
and_both false b s t = s

pub and-false : (a : Bool) → a and false ≡ false
unfolding ◌and◌
and-false true = refl
and-false false = refl

pub not-and : (a b : Bool) → not (a and b) ≡ not a or not b
unfolding ◌and◌ ◌or◌
not-and true b = refl
not-and false b = refl

pub or_cases : (a b : Bool) → a or b ≡ true → (a ≡ true) ⊎ (b ≡ true)
unfolding ◌or◌
or_cases true b t = inl refl
or_cases false b t = inr t

pub or_left : (a b : Bool) → a ≡ true → a or b ≡ true
unfolding ◌or◌
or_left true b t = refl
or_left false b t = absurd (false≢true t)

pub or_right : (a b : Bool) → b ≡ true → a or b ≡ true
unfolding ◌or◌
or_right true b t = refl
or_right false b t = t

pub or_else : (a b : Bool) → a ≡ false → a or b ≡ true → b ≡ true
unfolding ◌or◌
or_else true b f t = absurd (true≢false f)
or_else false b f t = t

pub or-false : (a : Bool) → a or false ≡ a
unfolding ◌or◌
or-false true = refl
or-false false = refl

pub or-true : (a : Bool) → a or true ≡ true
unfolding ◌or◌
or-true true = refl
or-true false = refl

pub or_assoc : (a b c : Bool) → a or b or c ≡ a or (b or c)
unfolding ◌or◌
or_assoc true b c = refl
or_assoc false b c = refl

pub one_most : (b : Bool) → one b ≤ 1
one_most true = omega arith
one_most false = omega arith

-- a test that is true is not false, and two that imply one another are equal
pub clash : {A : Type 0} (b : Bool) → b ≡ true → b ≡ false → A
clash true t f = absurd (true≢false f)
clash false t f = absurd (false≢true t)

pub is_false : (b : Bool) → (b ≡ true → ⊥) → b ≡ false
is_false true h = absurd (h refl)
is_false false h = refl

pub same_test : (a b : Bool) → (a ≡ true → b ≡ true) → (b ≡ true → a ≡ true) → a ≡ b
same_test true b f g = go b (f refl)
  where
    go : (b : Bool) → b ≡ true → true ≡ b
    go true t = refl
    go false t = absurd (false≢true t)
same_test false true f g = g refl
same_test false false f g = refl

-- numbers, by a test
pub less_or_not : (a b : ℕ) → (a < b) ⊎ (b ≤ a)
less_or_not a b = go (ltb a b) refl
  where
    go : (t : Bool) → ltb a b ≡ t → (a < b) ⊎ (b ≤ a)
    go true e = inl (ltb-true a b e)
    go false e = inr (ltb-false a b e)

-- ---- over lists
pub pick_append : {A : Type 0} (b : Bool) (x : A) (xs ys : List A) → pick b (x ∷ (xs ++ ys)) (xs ++ ys) ≡ pick b (x ∷ xs) xs ++ ys
pick_append true x xs ys = refl
pick_append false x xs ys = refl

module _ {A : Type 0} (f : A → Bool) where
  pub all_at : {x : A} {xs : List A} → In x xs → all_of f xs ≡ true → f x ≡ true
  unfolding all_of
  all_at (here e) t = rw e (and_left _ _ t)
  all_at (there i) t = all_at i (and_right _ _ t)

  pub at_all : (xs : List A) → ((x : A) → In x xs → f x ≡ true) → all_of f xs ≡ true
  unfolding all_of
  at_all [] h = refl
  at_all (x ∷ xs) h = and_both _ _ (h x (here refl)) (at_all xs (λ y i. h y (there i)))

  pub all_left : (xs ys : List A) → all_of f (xs ++ ys) ≡ true → all_of f xs ≡ true
  unfolding all_of
  all_left [] ys t = refl
  all_left (x ∷ xs) ys t = and_both _ _ (and_left _ _ t) (all_left xs ys (and_right _ _ t))

  -- some element of the list passes
  pub record Witness (xs : List A) : Type 0 where
    pub item : A
    pub listed : In item xs
    pub passes : f item ≡ true

  pub any_of_law : {x : A} {xs : List A} → In x xs → f x ≡ true → any_of f xs ≡ true
  unfolding any_of
  any_of_law (here e) t = or_left _ _ (rw e at t)
  any_of_law (there i) t = or_right _ _ (any_of_law i t)

  pub any_append : (xs ys : List A) → any_of f (xs ++ ys) ≡ any_of f xs or any_of f ys
  unfolding any_of ◌or◌
  any_append [] ys = refl
  any_append (x ∷ xs) ys = ap (λ (b : Bool). f x or b) (any_append xs ys) ∙ sym (or_assoc (f x) (any_of f xs) (any_of f ys))

  later : {x : A} {xs : List A} → Witness xs → Witness (x ∷ xs)
  later w = record { item = w.item; listed = there w.listed; passes = w.passes }

  pub of_any : (xs : List A) → any_of f xs ≡ true → Witness xs
  unfolding any_of
  of_any [] t = absurd (false≢true t)
  of_any (x ∷ xs) t = go (or_cases _ _ t) (of_any xs)
    where
      go : (f x ≡ true) ⊎ (any_of f xs ≡ true) → (any_of f xs ≡ true → Witness xs) → Witness (x ∷ xs)
      go (inl e) ih = record { item = x; listed = here refl; passes = e }
      go (inr e) ih = later (ih e)

  pub keep_append : (xs ys : List A) → keep f (xs ++ ys) ≡ keep f xs ++ keep f ys
  unfolding keep
  keep_append [] ys = refl
  keep_append (x ∷ xs) ys = ap (λ (l : List A). pick (f x) (x ∷ l) l) (keep_append xs ys) ∙ pick_append (f x) x _ _

  -- what is kept is just what passes
  pub record Kept (x : A) (xs : List A) : Type 0 where
    pub listed : In x xs
    pub passes : f x ≡ true

  kept_later : {x y : A} {xs : List A} → Kept x xs → Kept x (y ∷ xs)
  kept_later k = record { listed = there k.listed; passes = k.passes }

  pub keep_in : (xs : List A) {x : A} → In x (keep f xs) → Kept x xs
  unfolding keep
  keep_in [] i = absurd (Memᴰ.not-nil i)
  keep_in (y ∷ xs) {x} i = go (f y) refl i (keep_in xs)
    where
      head : f y ≡ true → (x ≡ y) ⊎ In x (keep f xs) → (In x (keep f xs) → Kept x xs) → Kept x (y ∷ xs)
      head e (inl p) ih = record { listed = here p; passes = rw p e }
      head e (inr j) ih = kept_later (ih j)

      go : (b : Bool) → f y ≡ b → In x (pick b (y ∷ keep f xs) (keep f xs)) → (In x (keep f xs) → Kept x xs) → Kept x (y ∷ xs)
      go true e j ih = head e (Memᴰ.cases_cons j) ih
      go false e j ih = kept_later (ih j)

  in_pick : (b : Bool) (y : A) {x : A} {xs : List A} → In x xs → In x (pick b (y ∷ xs) xs)
  in_pick true y i = there i
  in_pick false y i = i

  pub in_keep : {x : A} {xs : List A} → In x xs → f x ≡ true → In x (keep f xs)
  unfolding keep
  in_keep {x} (here {x = y} e) t = let u : f y ≡ true = rw e at t in rw u (here e)
  in_keep (there {x = y} i) t = in_pick (f y) y (in_keep i t)

-- ---- at every number below n
at_or_below : (n : ℕ) (f : ℕ → Bool) (i : ℕ) → f n ≡ true → (i < n → f i ≡ true) → (i ≡ n) ⊎ (i < n) → f i ≡ true
at_or_below n f i a b (inl e) = rw e a
at_or_below n f i a b (inr l) = b l

pub below_at : (n : ℕ) (f : ℕ → Bool) → all_below n f ≡ true → (i : ℕ) → i < n → f i ≡ true
unfolding all_below
below_at zero f t i h = absurd (omega arith)
below_at (suc n) f t i h = at_or_below n f i (and_left _ _ t) (below_at n f (and_right _ _ t) i) (eq-or-lt_of_le (omega arith))

pub at_below : (n : ℕ) (f : ℕ → Bool) → ((i : ℕ) → i < n → f i ≡ true) → all_below n f ≡ true
unfolding all_below
at_below zero f h = refl
at_below (suc n) f h = and_both _ _ (h n (omega arith)) (at_below n f (λ i l. h i (omega arith)))
