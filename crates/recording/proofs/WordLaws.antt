-- Words, their minutes and their total. Assumes nothing.
use mathlib.Core.Path.{◌≡◌, refl, sym, ap, ◌∙◌}
use mathlib.Core.Bool.{Bool, true, false}
use mathlib.Core.List.{List, [], ◌∷◌, ◌++◌, append_assoc}
use Prim.Native.Nat.{ℕ, zero, suc, ◌+◌, ◌≤◌, ◌<◌}
use native.Mathlib.Omega.{arith}
use lib.Dec.{eqb, ltb}
use native.Mathlib.Numerals.{add-one}
use lib.ListN.{length, take, drop, get_or, replicate, length-append, length-replicate}
use lib.Seq.{drop-cons, drop-length}
use borrow.Author.Tests.{eqb-false, ltb-false, eq-eqb, ne_eqb, lt-ltb, le-ltb}
use Rattle.recording.specs.Tests.{pick}
use Rattle.recording.specs.Answers.{Answer, refused, answered}
use Rattle.recording.specs.Words.{activities, word_of, minutes_in, activity_in, minutes_of}
use Rattle.recording.specs.Operations.{total_at_most, fault_of, unless_fault, total_from}

-- a word holds what it was made of
pub minutes_in_law : (n a : ℕ) → a < activities → minutes_in (word_of n a) ≡ n
minutes_in_law n a h = omega arith

pub activity_in_law : (n a : ℕ) → a < activities → activity_in (word_of n a) ≡ a
activity_in_law n a h = omega arith

pub minutes_append : (vs ws : List ℕ) → minutes_of (vs ++ ws) ≡ minutes_of vs ++ minutes_of ws
unfolding minutes_of
minutes_append [] ws = refl
minutes_append (v ∷ vs) ws = ap (λ (l : List ℕ). replicate (minutes_in v) (activity_in v) ++ l) (minutes_append vs ws) ∙ sym (append_assoc (replicate (minutes_in v) (activity_in v))
    (minutes_of vs) (minutes_of ws))

-- minutes that are activity codes
pub data Coded : List ℕ → Type 0 where
  no_minute : Coded []
  minute : {a : ℕ} {ms : List ℕ} → a < activities → Coded ms → Coded (a ∷ ms)

pub coded_take : (n : ℕ) {ms : List ℕ} → Coded ms → Coded (take n ms)
coded_take zero c = no_minute
coded_take (suc n) no_minute = no_minute
coded_take (suc n) (minute h c) = minute h (coded_take n c)

pub coded_drop : (n : ℕ) {ms : List ℕ} → Coded ms → Coded (drop n ms)
coded_drop zero c = c
coded_drop (suc n) no_minute = no_minute
coded_drop (suc n) (minute h c) = coded_drop n c

coded_run : (n a : ℕ) {ms : List ℕ} → a < activities → Coded ms → Coded (replicate n a ++ ms)
coded_run zero a h c = c
coded_run (suc n) a h c = minute h (coded_run n a h c)

pub coded_minutes : (ws : List ℕ) → Coded (minutes_of ws)
unfolding minutes_of
coded_minutes [] = no_minute
coded_minutes (w ∷ ws) = coded_run (minutes_in w) (activity_in w) (omega arith) (coded_minutes ws)

-- ---- the fault of a word
-- a word without a fault has a minute, and is within the limit
pub record NoFault (t w : ℕ) : Type 0 where
  pub some : 1 ≤ minutes_in w
  pub within : t + minutes_in w ≤ total_at_most

pub no_fault_is : (t w : ℕ) → fault_of t w ≡ 0 → NoFault t w
unfolding fault_of
no_fault_is t w e = go (eqb (minutes_in w) 0) (ltb total_at_most (t + minutes_in w)) refl refl e
  where
    go : (a b : Bool) → eqb (minutes_in w) 0 ≡ a → ltb total_at_most (t + minutes_in w) ≡ b → ◌≡◌ {A = ℕ} (pick a 1 (pick b 2 0)) 0 → NoFault t w
    go true b p q z = absurd (omega arith)
    go false true p q z = absurd (omega arith)
    go false false p q z = let k : minutes_in w ≡ 0 → ⊥ = eqb-false (minutes_in w) 0 p in record { some = omega arith; within = ltb-false _ _ q }

pub unless_some : {A : Type 0} (n : ℕ) (later : Answer A) → (n ≡ 0 → ⊥) → unless_fault n later ≡ refused n
unless_some zero later h = absurd (h refl)
unless_some (suc n) later h = refl

unless_answered : {A : Type 0} (n : ℕ) {later : Answer A} {a : A} → unless_fault n later ≡ answered a → (n ≡ 0) × (later ≡ answered a)
unless_answered zero e = (refl, e)
unless_answered (suc n) e = let z : ◌≡◌ {A = ℕ} 0 1 = cc in absurd (omega arith)

pub no_fault : (t w n : ℕ) (later : Answer ℕ) → unless_fault (fault_of t w) later ≡ answered n → NoFault t w × (later ≡ answered n)
no_fault t w n later e = let k = unless_answered (fault_of t w) e in (no_fault_is t w k.0, k.1)

-- a total that is not refused is the number of minutes, within the limit
pub record Total (t : ℕ) (ws : List ℕ) (n : ℕ) : Type 0 where
  pub minutes : n ≡ t + length (minutes_of ws)
  pub within : n ≤ total_at_most

pub total_is : (t : ℕ) (ws : List ℕ) (n : ℕ) → t ≤ total_at_most → total_from t ws ≡ answered n → Total t ws n
unfolding total_from minutes_of
total_is t [] n h e = let z : t ≡ n = cc in record { minutes = omega arith; within = omega arith }
total_is t (w ∷ ws) n h e =
    let k = no_fault t w n (total_from (t + minutes_in w) ws) e in
    let i = total_is (t + minutes_in w) ws n k.0.within k.1 in
    record { minutes = rw (length-append, length-replicate) (omega (arith, i.minutes)); within = i.within }

-- ---- one word of the total
pub fault_empty : (t w : ℕ) → minutes_in w ≡ 0 → fault_of t w ≡ 1
unfolding fault_of
fault_empty t w z = simp (eq-eqb _ _ z)

pub fault_past : (t w : ℕ) → (minutes_in w ≡ 0 → ⊥) → total_at_most < t + minutes_in w → fault_of t w ≡ 2
unfolding fault_of
fault_past t w z l = simp (ne_eqb _ _ z, lt-ltb _ _ l)

pub fault_none : (t w : ℕ) → (minutes_in w ≡ 0 → ⊥) → t + minutes_in w ≤ total_at_most → fault_of t w ≡ 0
unfolding fault_of
fault_none t w z l = simp (ne_eqb _ _ z, le-ltb _ _ l)

module _ (ws : List ℕ) (t i : ℕ) (h : i < length ws) where
  pub total_on : fault_of t (get_or ws i 0) ≡ 0 → total_from t (drop i ws) ≡ total_from (t + minutes_in (get_or ws i 0)) (drop (i + 1) ws)
  unfolding total_from
  total_on e = rw (drop-cons ws i 0, add-one, e)

  pub total_fault : (fault_of t (get_or ws i 0) ≡ 0 → ⊥) → total_from t (drop i ws) ≡ refused (fault_of t (get_or ws i 0))
  unfolding total_from
  total_fault n = rw (drop-cons ws i 0) (unless_some _ _ n)

-- what the total with another word says of the total of all
unless_refused : {A B : Type 0} (n r : ℕ) {later : Answer A} (other : Answer B) → unless_fault n later ≡ refused r → (n ≡ 0 → later ≡ refused r → ⊥) → unless_fault n other ≡ refused r
unless_refused zero r other e h = absurd (h refl e)
unless_refused (suc n) r other e h = ap refused (refused_is e)
  where
    number : {A : Type 0} → Answer A → ℕ
    number (refused n) = n
    number (answered a) = 0

    refused_is : {A : Type 0} {n m : ℕ} → ◌≡◌ {A = Answer A} (refused n) (refused m) → n ≡ m
    refused_is e = ap number e

answered_is_no_refusal : {A : Type 0} {a : A} {n : ℕ} → answered a ≡ refused n → ⊥
answered_is_no_refusal e = let z : ◌≡◌ {A = ℕ} 0 1 = ap tag e in absurd (omega arith)
  where
    tag : {A : Type 0} → Answer A → ℕ
    tag (answered a) = 0
    tag (refused n) = 1

module _ (ws : List ℕ) (t i : ℕ) (h : i < length ws) where
  pub total_after_on : {n : ℕ} → unless_fault (fault_of t (get_or ws i 0)) (answered (t + minutes_in (get_or ws i 0))) ≡ answered n
      → (n ≤ total_at_most) × (total_from t (drop i ws) ≡ total_from n (drop (i + 1) ws))
  total_after_on {n} e =
      let k = unless_answered (fault_of t (get_or ws i 0)) e in
      let f = no_fault_is t (get_or ws i 0) k.0 in
      let s : t + minutes_in (get_or ws i 0) ≡ n = answered_is k.1 in
      (omega (arith, f.within, s), total_on ws t i h k.0 ∙ ap (λ (m : ℕ). total_from m (drop (i + 1) ws)) s)
    where
      value : Answer ℕ → ℕ
      value (answered a) = a
      value (refused n) = 0

      answered_is : {a b : ℕ} → answered a ≡ answered b → a ≡ b
      answered_is e = ap value e

  pub total_after_fault : {r : ℕ} → unless_fault (fault_of t (get_or ws i 0)) (answered (t + minutes_in (get_or ws i 0))) ≡ refused r
      → total_from t (drop i ws) ≡ refused r
  unfolding total_from
  total_after_fault {r} e = rw (drop-cons ws i 0) (unless_refused (fault_of t (get_or ws i 0)) r _ e (λ _ k. answered_is_no_refusal k))

pub total_done : (ws : List ℕ) (t i : ℕ) → i ≡ length ws → total_from t (drop i ws) ≡ answered t
unfolding total_from
total_done ws t i e = rw (e, drop-length)
