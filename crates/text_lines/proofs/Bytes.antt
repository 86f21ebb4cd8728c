-- One byte of each walk over the bytes of a text. Assumes nothing.
use mathlib.Core.Path.{◌≡◌, refl, sym, ap, ◌∙◌}
use mathlib.Core.Logic.{◌⊎◌, inl, inr}
use mathlib.Core.Bool.{Bool, true, false, false≢true}
use mathlib.Core.List.{List, [], ◌∷◌, ◌++◌}
use Prim.Native.Nat.{ℕ, zero, suc, ◌+◌, ◌≤◌, ◌<◌}
use native.Mathlib.Numerals.{add-one}
use native.Mathlib.Omega.{arith}
use lib.Dec.{eqb, leb}
use lib.Pointwise.{pointwise}
use Rattle.std.specs.Prelude.{None, Some, not}
use Rattle.std.specs.Bool.{then_some}
use Rattle.std.proofs.lemmas.Bool.Decides.{Decides-eqb}
use Rattle.std.proofs.lemmas.Slice.Eq.{slice_eq-Decides}
use lib.ListN.{length, drop, get_or}
use lib.Seq.{drop-cons, drop-length}
use borrow.Author.Tests.{eq-eqb, ne_eqb, le-leb, lt-leb, lt-ltb, le-ltb, eqb-true, leb-true}
use Rattle.recording.specs.Tests.{pick}
use Rattle.recording.specs.Words.{word_of}
use Rattle.recording.proofs.TestLaws.{same_test}
use Rattle.text_lines.specs.declared.Line.{Line}
use Rattle.text_lines.specs.declared.Line.TheVariants as line
use Rattle.text_lines.specs.Form.{recording_line, week_line, closing, closing_line, run_name, digit_zero, base, run_at_most}
use Rattle.text_lines.specs.Reading.{same, is_empty, is_digit, with_digit, in_range, number_from, number_after, run_or, run_or_other, line_of}
use Rattle.text_lines.specs.LineByLine.{unless_0, word_unless_0}

-- ---- a number before a closing bracket
-- bytes that do not end in a bracket are no number
pub number_open : (v : ℕ) (bs : List ℕ) → ((front : List ℕ) → bs ≡ front ++ closing_line → ⊥) → number_from v bs ≡ 0
unfolding number_from
number_open v [] h = refl
number_open v (b ∷ bs) h = go (eqb b closing) refl (number_open (with_digit v b) bs (λ front e. h (b ∷ front) (ap (λ (l : List ℕ). b ∷ l) e)))
  where
    ends : (xs : List ℕ) → ((front : List ℕ) → b ∷ xs ≡ front ++ closing_line → ⊥) → b ≡ closing → pick (is_empty xs) v 0 ≡ 0
    ends [] k c = absurd (k [] (ap (λ (x : ℕ). x ∷ []) c))
    ends (x ∷ xs) k c = refl

    other : (c d : Bool) (n : ℕ) → n ≡ 0 → pick c (pick d n 0) 0 ≡ 0
    other true true n e = e
    other true false n e = refl
    other false d n e = refl

    go : (a : Bool) → eqb b closing ≡ a → number_from (with_digit v b) bs ≡ 0
        → pick a (pick (is_empty bs) v 0) (pick (is_digit b) (pick (in_range (with_digit v b)) (number_from (with_digit v b) bs) 0) 0) ≡ 0
    go true e ih = ends bs h (eqb-true b closing e)
    go false e ih = other (is_digit b) (in_range (with_digit v b)) _ ih

closed_some : (xs : List ℕ) → is_empty (xs ++ closing_line) ≡ false
closed_some [] = refl
closed_some (x ∷ xs) = refl

module _ (t : List ℕ) (i v : ℕ) (h : i < length t) where
  abbrev byte : ℕ
  byte = get_or t i 0

  number_at : number_from v (drop i t ++ closing_line)
      ≡ pick (eqb byte closing) 0
      (pick (is_digit byte) (pick (in_range (with_digit v byte)) (number_from (with_digit v byte) (drop (i + 1) t ++ closing_line)) 0) 0)
  unfolding number_from
  number_at = rw (drop-cons t i 0, add-one, closed_some (drop (suc i) t)) refl

  -- a byte that is no digit
  pub number_other : (byte < digit_zero) ⊎ (digit_zero + base ≤ byte) → number_from v (drop i t ++ closing_line) ≡ 0
  number_other h = number_at ∙ go (eqb byte closing) h
    where
      go : (a : Bool) → (byte < digit_zero) ⊎ (digit_zero + base ≤ byte)
          → pick a 0 (pick (is_digit byte) (pick (in_range (with_digit v byte)) (number_from (with_digit v byte) (drop (i + 1) t ++ closing_line)) 0) 0) ≡ 0
      go true h = refl
      go false (inl l) = rw (lt-leb digit_zero byte l)
      go false (inr l) = rw (le-leb digit_zero byte (omega arith), le-ltb byte (digit_zero + base) l)

  module _ (l : digit_zero ≤ byte) (u : byte < digit_zero + base) where
    digit_at : number_from v (drop i t ++ closing_line) ≡ pick (in_range (with_digit v byte)) (number_from (with_digit v byte) (drop (i + 1) t ++ closing_line)) 0
    digit_at = number_at ∙ rw (ne_eqb byte closing (λ e. omega arith), le-leb digit_zero byte l, lt-ltb byte (digit_zero + base) u)

    pub number_none : with_digit v byte ≡ 0 → number_from v (drop i t ++ closing_line) ≡ 0
    number_none z = digit_at ∙ rw (eq-eqb _ _ z)

    pub number_past : run_at_most < with_digit v byte → number_from v (drop i t ++ closing_line) ≡ 0
    number_past p = digit_at ∙ rw (ne_eqb (with_digit v byte) 0 (λ e. omega arith), lt-leb _ _ p)

    pub number_on : (with_digit v byte ≡ 0 → ⊥) → with_digit v byte ≤ run_at_most
        → number_from v (drop i t ++ closing_line) ≡ number_from (with_digit v byte) (drop (i + 1) t ++ closing_line)
    number_on z p = digit_at ∙ rw (ne_eqb _ _ z, le-leb _ _ p)

pub number_done : (t : List ℕ) (i v : ℕ) → i ≡ length t → number_from v (drop i t ++ closing_line) ≡ v
unfolding number_from
number_done t i v e = rw (e, drop-length) refl

-- ---- a number after a name
pub after_name : (name bs : List ℕ) → number_after name (name ++ bs) ≡ number_from 0 bs
unfolding number_after
after_name [] bs = refl
after_name (c ∷ cs) bs = rw (eq-eqb c c refl) (after_name cs bs)

pub after_other : (name l : List ℕ) → ((rest : List ℕ) → l ≡ name ++ rest → ⊥) → number_after name l ≡ 0
unfolding number_after
after_other [] l h = absurd (h l refl)
after_other (c ∷ cs) [] h = refl
after_other (c ∷ cs) (b ∷ bs) h = go (eqb b c) refl (λ e. after_other cs bs (λ rest p. h rest (let q : b ≡ c = eqb-true b c e in cc)))
  where
    go : (a : Bool) → eqb b c ≡ a → (eqb b c ≡ true → number_after cs bs ≡ 0) → pick a (number_after cs bs) 0 ≡ 0
    go true e f = f e
    go false e f = refl

-- ---- the same bytes
pub same_is : (xs ys : List ℕ) → same xs ys ≡ true → xs ≡ ys
unfolding same
same_is [] [] e = refl
same_is [] (y ∷ ys) e = let z : ◌≡◌ {A = ℕ} 0 1 = cc in absurd (omega arith)
same_is (x ∷ xs) [] e = let z : ◌≡◌ {A = ℕ} 0 1 = cc in absurd (omega arith)
same_is (x ∷ xs) (y ∷ ys) e = go (eqb x y) refl e (same_is xs ys)
  where
    go : (b : Bool) → eqb x y ≡ b → pick b (same xs ys) false ≡ true → (same xs ys ≡ true → xs ≡ ys) → ◌≡◌ {A = List ℕ} (x ∷ xs) (y ∷ ys)
    go true p q ih = let a : x ≡ y = eqb-true x y p in let r : xs ≡ ys = ih q in cc
    go false p q ih = let z : ◌≡◌ {A = ℕ} 0 1 = cc in absurd (omega arith)

pub same_refl : (xs : List ℕ) → same xs xs ≡ true
unfolding same
same_refl [] = refl
same_refl (x ∷ xs) = rw (eq-eqb x x refl) (same_refl xs)

pub same_told : (xs ys : List ℕ) {r : Bool} → (r ≡ true → xs ≡ ys) → (xs ≡ ys → r ≡ true) → same xs ys ≡ r
same_told xs ys {r} f g = same_test (same xs ys) r (λ e. g (same_is xs ys e)) (λ e. ap (λ (l : List ℕ). same xs l) (sym (f e)) ∙ same_refl xs)

-- ---- a number is never over the limit
within_picks : (a b c d : Bool) (v n : ℕ) → v ≤ run_at_most → n ≤ run_at_most → pick a (pick b v 0) (pick c (pick d n 0) 0) ≤ run_at_most
within_picks true true c d v n h l = h
within_picks true false c d v n h l = omega arith
within_picks false b true true v n h l = l
within_picks false b true false v n h l = omega arith
within_picks false b false d v n h l = omega arith

pub number_within : (v : ℕ) (bs : List ℕ) → v ≤ run_at_most → number_from v bs ≤ run_at_most
unfolding number_from
number_within v [] h = omega arith
number_within v (b ∷ bs) h = go (eqb b closing) (is_empty bs) (is_digit b) (in_range (with_digit v b)) refl (number_within (with_digit v b) bs)
  where
    in_range_law : (n : ℕ) (a c : Bool) → leb n run_at_most ≡ c → pick a false c ≡ true → n ≤ run_at_most
    in_range_law n true c e f = absurd (false≢true f)
    in_range_law n false c e f = leb-true n run_at_most (e ∙ f)

    go : (a c d g : Bool) → in_range (with_digit v b) ≡ g → (with_digit v b ≤ run_at_most → number_from (with_digit v b) bs ≤ run_at_most)
        → pick a (pick c v 0) (pick d (pick g (number_from (with_digit v b) bs) 0) 0) ≤ run_at_most
    go a c d true e ih = within_picks a c d true v (number_from (with_digit v b) bs) h (ih (in_range_law (with_digit v b) (eqb (with_digit v b) 0) _ refl e))
    go a c d false e ih = within_picks a c d true v 0 h (omega arith)

pub after_within : (name bs : List ℕ) → number_after name bs ≤ run_at_most
unfolding number_after
after_within [] bs = number_within 0 bs (omega arith)
after_within (c ∷ cs) [] = omega arith
after_within (c ∷ cs) (b ∷ bs) = go (eqb b c) (after_within cs bs)
  where
    go : (d : Bool) → number_after cs bs ≤ run_at_most → pick d (number_after cs bs) 0 ≤ run_at_most
    go true h = h
    go false h = omega arith

pub then_unless : (n : ℕ) → then_some (not (eqb n 0)) n ≡ unless_0 n
then_unless zero = refl
then_unless (suc n) = rw (ne_eqb (suc n) 0 (λ z. omega arith))

-- a number that is there
pub some_number : {n : ℕ} (m : ℕ) → Some n ≡ unless_0 m → m ≡ n
some_number {n} zero e = let z : ◌≡◌ {A = ℕ} 0 1 = cc in absurd (omega arith)
some_number {n} (suc m) e = cc

-- ---- which line it is
-- what a comparison tells
pub told : (l k : List ℕ) {r s : Bool} → r ≡ pointwise eqb l k → r ≡ s → same l k ≡ s
told l k {r} e f = let d = slice_eq-Decides Decides-eqb l k r e in same_told l k d.0 d.1 ∙ f

module _ (a : ℕ) (l : List ℕ) (other : Line) where
  pub run_is : {w : ℕ} → Some w ≡ word_unless_0 (number_after (run_name a) l) a → run_or a l other ≡ line.Run w
  unfolding run_or
  run_is {w} e = go (number_after (run_name a) l) e
    where
      go : (n : ℕ) → Some w ≡ word_unless_0 n a → pick (eqb n 0) other (line.Run (word_of n a)) ≡ line.Run w
      go zero p = let z : ◌≡◌ {A = ℕ} 0 1 = cc in absurd (omega arith)
      go (suc n) p = let q : word_of (suc n) a ≡ w = cc in rw (ne_eqb (suc n) 0 (λ z. omega arith)) (ap line.Run q)

  pub run_not : None ≡ word_unless_0 (number_after (run_name a) l) a → run_or a l other ≡ other
  unfolding run_or
  run_not e = go (number_after (run_name a) l) e
    where
      go : (n : ℕ) → None ≡ word_unless_0 n a → pick (eqb n 0) other (line.Run (word_of n a)) ≡ other
      go zero p = refl
      go (suc n) p = let z : ◌≡◌ {A = ℕ} 0 1 = cc in absurd (omega arith)

module _ (l : List ℕ) where
  pub line_recording : same l recording_line ≡ true → line_of l ≡ line.Recording
  unfolding line_of
  line_recording e = rw e

  pub line_week : same l recording_line ≡ false → same l week_line ≡ true → line_of l ≡ line.Week
  unfolding line_of
  line_week e f = rw (e, f)

  pub line_closing : same l recording_line ≡ false → same l week_line ≡ false → same l closing_line ≡ true → line_of l ≡ line.Closing
  unfolding line_of
  line_closing e f g = rw (e, f, g)

  pub line_run : same l recording_line ≡ false → same l week_line ≡ false → same l closing_line ≡ false → line_of l ≡ run_or_other l
  unfolding line_of
  line_run e f g = rw (e, f, g)
