-- Public: tests, and how they are joined. `_and_` and `_or_` stay shut, so that a proof takes a joint test apart by their laws.
-- Assumes nothing.
use Rattle.std.specs.Prelude.{Bool, true, false, List, [], ◌∷◌, ℕ, zero, suc, ◌+◌}

infixl 35 ◌and◌
infixl 30 ◌or◌
unfoldable pub ◌and◌ : Bool → Bool → Bool
true and b = b
false and b = false

unfoldable pub ◌or◌ : Bool → Bool → Bool
true or b = true
false or b = b

-- one of two values, by a test
abbrev pub pick : {A : Type 0} → Bool → A → A → A
pick true a b = a
pick false a b = b

-- 1 where a test holds
abbrev pub one : Bool → ℕ
one true = 1
one false = 0

-- a test at every element of a list, at one of them, at every number below n
unfoldable pub all_of : {A : Type 0} → (A → Bool) → List A → Bool
all_of f [] = true
all_of f (x ∷ xs) = f x and all_of f xs

unfoldable pub any_of : {A : Type 0} → (A → Bool) → List A → Bool
any_of f [] = false
any_of f (x ∷ xs) = f x or any_of f xs

unfoldable pub all_below : ℕ → (ℕ → Bool) → Bool
all_below zero f = true
all_below (suc n) f = f n and all_below n f

-- how many elements pass a test, and which
unfoldable pub count_of : {A : Type 0} → (A → Bool) → List A → ℕ
count_of f [] = 0
count_of f (x ∷ xs) = one (f x) + count_of f xs

unfoldable pub keep : {A : Type 0} → (A → Bool) → List A → List A
keep f [] = []
keep f (x ∷ xs) = pick (f x) (x ∷ keep f xs) (keep f xs)
