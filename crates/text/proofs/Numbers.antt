-- A decimal number, written and read back. Assumes nothing.
use mathlib.Core.Path.{◌≡◌, refl, sym, ap, ◌∙◌}
use mathlib.Core.Logic.{◌⊎◌, inl, inr}
use mathlib.Core.Bool.{Bool, true, false}
use mathlib.Core.List.{List, [], ◌∷◌, ◌++◌}
use Prim.Native.Nat.{ℕ, zero, suc, ◌+◌, ◌-◌, ◌*◌, ◌/◌, ◌%◌, ◌≤◌, ◌<◌}
use native.Mathlib.Omega.{arith}
use lib.Dec.{eqb, leb, ltb}
use lib.Seq.{append_snoc}
use borrow.Author.Tests.{ne_eqb, le-leb, lt-ltb, le-ltb, eqb-true, eqb-false, leb-true, ltb-true}
use Rattle.recording.specs.Tests.{pick}
use Rattle.recording.proofs.TestLaws.{less_or_not}
use Rattle.text_lines.specs.Form.{closing, closing_line, digit_zero, base, digit_at, decimal, run_at_most}
use Rattle.text_lines.specs.Reading.{is_empty, is_digit, with_digit, in_range, number_from, number_after}

-- ---- one digit more
digit_same : (p q m n : ℕ) → (m < p → n < q) → (p ≤ m → q ≤ n) → m / p ≡ n / q → digit_at p m ≡ digit_at q n
unfolding digit_at
digit_same p q m n f g e = go (less_or_not m p)
  where
    go : (m < p) ⊎ (p ≤ m) → pick (ltb m p) [] ((digit_zero + m / p % base) ∷ []) ≡ pick (ltb n q) [] ((digit_zero + n / q % base) ∷ [])
    go (inl h) = rw (lt-ltb m p h, lt-ltb n q (f h))
    go (inr h) = rw (le-ltb m p h, le-ltb n q (g h), e)

digit_none : (p n : ℕ) → n < p → digit_at p n ≡ []
unfolding digit_at
digit_none p n h = rw (lt-ltb n p h)

digit_last : (n : ℕ) → 1 ≤ n → digit_at 1 n ≡ (digit_zero + n % base) ∷ []
unfolding digit_at
digit_last n h = let z : n / 1 % base ≡ n % base = omega arith in rw (le-ltb n 1 h, z)

-- the digits that stand before a further one: those of a number, and none of 0
digits : ℕ → List ℕ
digits n = digit_at 100000 n ++ digit_at 10000 n ++ digit_at 1000 n ++ digit_at 100 n ++ digit_at 10 n ++ digit_at 1 n

digits_zero : digits 0 ≡ []
unfolding digits digit_at
digits_zero = refl

-- the numbers that six digits can write
abbrev six_digits : ℕ
six_digits = 1000000

decimal-digits : (n : ℕ) → 1 ≤ n → decimal n ≡ digits n
unfolding decimal digits
decimal-digits n h = rw (digit_last n h)

decimal_more : (v d : ℕ) → d < base → v * base + d < six_digits → decimal (v * base + d) ≡ digits v ++ (digit_zero + d) ∷ []
unfolding decimal digits
decimal_more v d h u =
    let n = v * base + d in
    let a : digit_at 100000 n ≡ digit_at 10000 v = digit_same 100000 10000 n v (λ k. omega arith) (λ k. omega arith) (omega arith) in
    let b : digit_at 10000 n ≡ digit_at 1000 v = digit_same 10000 1000 n v (λ k. omega arith) (λ k. omega arith) (omega arith) in
    let c : digit_at 1000 n ≡ digit_at 100 v = digit_same 1000 100 n v (λ k. omega arith) (λ k. omega arith) (omega arith) in
    let e : digit_at 100 n ≡ digit_at 10 v = digit_same 100 10 n v (λ k. omega arith) (λ k. omega arith) (omega arith) in
    let f : digit_at 10 n ≡ digit_at 1 v = digit_same 10 1 n v (λ k. omega arith) (λ k. omega arith) (omega arith) in
    let z : n % base ≡ d = omega arith in
    rw (a, b, c, e, f, z, digit_none 100000 v (omega arith))

digits_more : (v d : ℕ) → d < base → 1 ≤ v * base + d → v * base + d < six_digits → digits (v * base + d) ≡ digits v ++ (digit_zero + d) ∷ []
digits_more v d h l u = sym (decimal-digits (v * base + d) l) ∙ decimal_more v d h u

-- what holds of 0, and of each number that has a digit more than one of which it holds, holds of every number
module _ (P : ℕ → Type 0) (z : P 0) (s : (v d : ℕ) → d < base → 1 ≤ v * base + d → P v → P (v * base + d)) where
  below : (k n : ℕ) → n ≤ k → P n
  below zero n h = let e : n ≡ 0 = omega arith in rw e z
  below (suc k) n h = go (less_or_not n 1) (below k (n / base) (omega arith))
    where
      go : (n < 1) ⊎ (1 ≤ n) → P (n / base) → P n
      go (inl l) ih = let e : n ≡ 0 = omega arith in rw e z
      go (inr l) ih = let e : n / base * base + n % base ≡ n = omega arith in rw e at (s (n / base) (n % base) (omega arith) (omega arith) ih)

  by_digits : (n : ℕ) → P n
  by_digits n = below n n (omega arith)

-- ---- the digits of a number are its own: their value, after the value so far
unfoldable pub value_from : ℕ → List ℕ → ℕ
value_from v [] = v
value_from v (b ∷ bs) = value_from (with_digit v b) bs

value_more : (xs : List ℕ) (v u d : ℕ) → value_from v xs ≡ u → value_from v (xs ++ (digit_zero + d) ∷ []) ≡ u * base + d
unfolding value_from
value_more [] v u d e = omega arith
value_more (x ∷ xs) v u d e = value_more xs (with_digit v x) u d e

digits_value : (n : ℕ) → n < six_digits → value_from 0 (digits n) ≡ n
unfolding value_from
digits_value = by_digits (λ n. n < six_digits → value_from 0 (digits n) ≡ n) (λ u. rw digits_zero)
    (λ v d h l ih u. rw (digits_more v d h l u) (value_more (digits v) 0 v d (ih (omega arith))))

pub number_value : (n : ℕ) → n < six_digits → value_from 0 (decimal n) ≡ n
number_value n u =
    let v = n / base in
    let d = n % base in
    let e : v * base + d ≡ n = omega arith in
    ap (λ (x : ℕ). value_from 0 (decimal x)) (sym e)
    ∙ rw (decimal_more v d (omega arith) (omega arith)) (value_more (digits v) 0 v d (digits_value v (omega arith)))
    ∙ e

-- ---- what was written is read
digit_step : (v d : ℕ) (bs : List ℕ) → d < base → 1 ≤ v * base + d → v * base + d ≤ run_at_most
    → number_from v ((digit_zero + d) ∷ bs) ≡ number_from (v * base + d) bs
unfolding number_from
digit_step v d bs h l u =
    let z : digit_zero + d - digit_zero ≡ d = omega arith in
    rw (ne_eqb (digit_zero + d) closing (λ e. omega arith), le-leb digit_zero (digit_zero + d) (omega arith), lt-ltb (digit_zero + d) (digit_zero + base) (omega arith), z)
    (rw (ne_eqb (v * base + d) 0 (λ e. omega arith), le-leb (v * base + d) run_at_most u))

number_digits : (n : ℕ) → n ≤ run_at_most → (bs : List ℕ) → number_from 0 (digits n ++ bs) ≡ number_from n bs
number_digits = by_digits (λ n. n ≤ run_at_most → (bs : List ℕ) → number_from 0 (digits n ++ bs) ≡ number_from n bs) (λ u bs. rw digits_zero)
    (λ v d h l ih u bs. rw (digits_more v d h l (omega arith), append_snoc (digits v) (digit_zero + d) bs) (ih (omega arith) ((digit_zero + d) ∷ bs) ∙ digit_step v d bs h l u))

number_closed : (v : ℕ) → number_from v closing_line ≡ v
unfolding number_from
number_closed v = refl

pub number_written : (n : ℕ) → 1 ≤ n → n ≤ run_at_most → number_from 0 (decimal n ++ closing_line) ≡ n
number_written n l u = rw (decimal-digits n l) (number_digits n u closing_line ∙ number_closed n)

-- ---- what is read was written
number_read : (v : ℕ) (bs : List ℕ) (n : ℕ) → number_from v bs ≡ n → 1 ≤ n → digits v ++ bs ≡ digits n ++ closing_line
unfolding number_from
number_read v [] n e h = absurd (omega arith)
number_read v (b ∷ bs) n e h =
    closes (eqb b closing) refl e (λ x. number_read (with_digit v b) bs n x h)
  where
    ends : (xs : List ℕ) (d : Bool) → is_empty xs ≡ d → pick d v 0 ≡ n → b ≡ closing → digits v ++ b ∷ xs ≡ digits n ++ closing_line
    ends [] true p q c = rw (c, q)
    ends (x ∷ xs) true p q c = let z : ◌≡◌ {A = ℕ} 0 1 = cc in absurd (omega arith)
    ends xs false p q c = absurd (omega arith)

    goes : (d f : Bool) → is_digit b ≡ d → in_range (with_digit v b) ≡ f → pick d (pick f (number_from (with_digit v b) bs) 0) 0 ≡ n
        → (number_from (with_digit v b) bs ≡ n → digits (with_digit v b) ++ bs ≡ digits n ++ closing_line) → digits v ++ b ∷ bs ≡ digits n ++ closing_line
    goes false f p q x ih = absurd (omega arith)
    goes true false p q x ih = absurd (omega arith)
    goes true true p q x ih =
        let k : digit_zero ≤ b = leb-true digit_zero b (digit_low (leb digit_zero b) p) in
        let u : b < digit_zero + base = ltb-true b (digit_zero + base) (digit_high (leb digit_zero b) p) in
        let r : 1 ≤ with_digit v b = range_low (eqb (with_digit v b) 0) refl q in
        let t : with_digit v b ≤ run_at_most = leb-true (with_digit v b) run_at_most (range_high (eqb (with_digit v b) 0) q) in
        let z : digit_zero + (b - digit_zero) ≡ b = omega arith in
        sym (append_snoc (digits v) b bs)
        ∙ ap (λ (c : ℕ). digits v ++ c ∷ [] ++ bs) (sym z)
        ∙ ap (λ (l : List ℕ). l ++ bs) (sym (digits_more v (b - digit_zero) (omega arith) r (omega arith)))
        ∙ ih x
      where
        digit_low : (a : Bool) → pick a (ltb b (digit_zero + base)) false ≡ true → a ≡ true
        digit_low true y = refl
        digit_low false y = y

        digit_high : (a : Bool) → pick a (ltb b (digit_zero + base)) false ≡ true → ltb b (digit_zero + base) ≡ true
        digit_high true y = y
        digit_high false y = let z : ◌≡◌ {A = ℕ} 0 1 = cc in absurd (omega arith)

        range_low : (a : Bool) → eqb (with_digit v b) 0 ≡ a → pick a false (leb (with_digit v b) run_at_most) ≡ true → 1 ≤ with_digit v b
        range_low true y w = let z : ◌≡◌ {A = ℕ} 0 1 = cc in absurd (omega arith)
        range_low false y w = let z : with_digit v b ≡ 0 → ⊥ = eqb-false (with_digit v b) 0 y in omega arith

        range_high : (a : Bool) → pick a false (leb (with_digit v b) run_at_most) ≡ true → leb (with_digit v b) run_at_most ≡ true
        range_high true w = let z : ◌≡◌ {A = ℕ} 0 1 = cc in absurd (omega arith)
        range_high false w = w

    closes : (a : Bool) → eqb b closing ≡ a
        → pick a (pick (is_empty bs) v 0) (pick (is_digit b) (pick (in_range (with_digit v b)) (number_from (with_digit v b) bs) 0) 0) ≡ n
        → (number_from (with_digit v b) bs ≡ n → digits (with_digit v b) ++ bs ≡ digits n ++ closing_line) → digits v ++ b ∷ bs ≡ digits n ++ closing_line
    closes true p q ih = ends bs (is_empty bs) refl q (eqb-true b closing p)
    closes false p q ih = goes (is_digit b) (in_range (with_digit v b)) refl refl q ih

pub after_read : (name bs : List ℕ) (n : ℕ) → number_after name bs ≡ n → 1 ≤ n → bs ≡ name ++ decimal n ++ closing_line
unfolding number_after
after_read [] bs n e h = rw (decimal-digits n h) (rw digits_zero at (number_read 0 bs n e h))
after_read (c ∷ cs) [] n e h = absurd (omega arith)
after_read (c ∷ cs) (b ∷ bs) n e h = go (eqb b c) refl e (λ x. after_read cs bs n x h)
  where
    go : (a : Bool) → eqb b c ≡ a → pick a (number_after cs bs) 0 ≡ n → (number_after cs bs ≡ n → bs ≡ cs ++ decimal n ++ closing_line)
        → b ∷ bs ≡ c ∷ (cs ++ decimal n ++ closing_line)
    go true p q ih = let x : b ≡ c = eqb-true b c p in let y = ih q in cc
    go false p q ih = absurd (omega arith)
