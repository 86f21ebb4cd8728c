-- Lines, written and read back: a text whose lines are all known is the text of its lines. Assumes nothing.
use mathlib.Core.Path.{◌≡◌, refl, sym, ap, ◌∙◌}
use mathlib.Core.Bool.{Bool, true, false, false≢true}
use mathlib.Core.List.{List, [], ◌∷◌, ◌++◌, append-nil, append_assoc}
use Prim.Native.Nat.{ℕ, zero, suc, ◌+◌, ◌/◌, ◌%◌, ◌≤◌, ◌<◌}
use native.Mathlib.Omega.{arith}
use lib.Dec.{eqb, ltb}
use lib.Seq.{append_snoc}
use borrow.Author.Tests.{ne_eqb, eqb-true, eqb-false}
use Rattle.recording.specs.Tests.{pick}
use Rattle.recording.specs.Words.{activities, word_of, minutes_in, activity_in, rest, availability, other_work, driving}
use Rattle.recording.proofs.WordLaws.{minutes_in_law, activity_in_law}
use Rattle.text_lines.specs.Form.{line_end, recording_line, week_line, closing_line, run_name, digit_zero, base, digit_at, decimal, line_text, text_of_lines, Run}
use Rattle.text_lines.specs.Reading.{same, number_from, number_after, run_or, line_of, lines_from, lines_in}
use Rattle.text_lines.specs.declared.Line.{Line}
use Rattle.text_lines.specs.declared.Line.TheVariants as line
use Rattle.text_lines.proofs.Bytes.{same_is, after_within}
use Rattle.text.proofs.Numbers.{number_written, after_read}

-- a line of the form, and a run of the form
abbrev pub Known : Line → Type 0
Known line.Recording = Unit {0}
Known line.Week = Unit {0}
Known line.Closing = Unit {0}
Known (line.Run w) = Unit {0}
Known line.Other = ⊥

abbrev pub Good : Line → Type 0
Good line.Recording = Unit {0}
Good line.Week = Unit {0}
Good line.Closing = Unit {0}
Good (line.Run w) = Run w
Good line.Other = Unit {0}

pub data Each (P : Line → Type 0) : List Line → Type 0 where
  none : Each P []
  next : {l : Line} {ls : List Line} → P l → Each P ls → Each P (l ∷ ls)

-- ---- what is read was written
pub record LineRead (bytes : List ℕ) (l : Line) : Type 0 where
  pub text : Known l → bytes ≡ line_text l
  pub good : Good l

run_read : (a : ℕ) (l : List ℕ) (other : Line) → a < activities → LineRead l other → LineRead l (run_or a l other)
unfolding run_or line_text
run_read a l other h r = go (eqb (number_after (run_name a) l) 0) refl
  where
    go : (b : Bool) → eqb (number_after (run_name a) l) 0 ≡ b → LineRead l (pick b other (line.Run (word_of (number_after (run_name a) l) a)))
    go true e = r
    go false e =
        let n = number_after (run_name a) l in
        let z : n ≡ 0 → ⊥ = eqb-false n 0 e in
        let m : minutes_in (word_of n a) ≡ n = minutes_in_law n a h in
        record {
          text = λ _. rw (m, activity_in_law n a h) (after_read (run_name a) l n refl (omega arith));
          good = record { some = omega arith; within = omega (arith, after_within (run_name a) l) };
        }

other_read : (l : List ℕ) → LineRead l line.Other
other_read l = record { text = λ k. absurd k; good = tt }

same_read : (l bytes : List ℕ) (x y : Line) → (l ≡ bytes → LineRead l x) → LineRead l y → LineRead l (pick (same l bytes) x y)
same_read l bytes x y f r = go (same l bytes) refl
  where
    go : (b : Bool) → same l bytes ≡ b → LineRead l (pick b x y)
    go true e = f (same_is l bytes e)
    go false e = r

pub line_read : (l : List ℕ) → LineRead l (line_of l)
unfolding line_of line_text
line_read l =
    same_read l recording_line line.Recording _ (λ e. record { text = λ _. e; good = tt })
    (same_read l week_line line.Week _ (λ e. record { text = λ _. e; good = tt })
    (same_read l closing_line line.Closing _ (λ e. record { text = λ _. e; good = tt })
    (run_read rest l _ (omega arith)
    (run_read availability l _ (omega arith)
    (run_read other_work l _ (omega arith)
    (run_read driving l _ (omega arith) (other_read l)))))))

pub lines_good : (l t : List ℕ) → Each Good (lines_from l t)
unfolding lines_from
lines_good [] [] = none
lines_good (x ∷ l) [] = next tt none
lines_good l (b ∷ bs) = go (eqb b line_end) (lines_good [] bs) (lines_good (l ++ b ∷ []) bs)
  where
    go : (e : Bool) → Each Good (lines_from [] bs) → Each Good (lines_from (l ++ b ∷ []) bs) → Each Good (pick e (line_of l ∷ lines_from [] bs) (lines_from (l ++ b ∷ []) bs))
    go true g h = next (line_read l).good g
    go false g h = h

each_head : {P : Line → Type 0} {l : Line} {ls : List Line} → Each P (l ∷ ls) → P l
each_head (next p ps) = p

each_tail : {P : Line → Type 0} {l : Line} {ls : List Line} → Each P (l ∷ ls) → Each P ls
each_tail (next p ps) = ps

pub text_read_law : (l t : List ℕ) → Each Known (lines_from l t) → l ++ t ≡ text_of_lines (lines_from l t)
unfolding lines_from text_of_lines
text_read_law [] [] k = refl
text_read_law (x ∷ l) [] k = absurd (each_head k)
text_read_law l (b ∷ bs) k = go (eqb b line_end) refl k (text_read_law [] bs) (text_read_law (l ++ b ∷ []) bs)
  where
    go : (e : Bool) → eqb b line_end ≡ e → Each Known (pick e (line_of l ∷ lines_from [] bs) (lines_from (l ++ b ∷ []) bs))
        → (Each Known (lines_from [] bs) → bs ≡ text_of_lines (lines_from [] bs))
        → (Each Known (lines_from (l ++ b ∷ []) bs) → l ++ b ∷ [] ++ bs ≡ text_of_lines (lines_from (l ++ b ∷ []) bs))
        → l ++ b ∷ bs ≡ text_of_lines (pick e (line_of l ∷ lines_from [] bs) (lines_from (l ++ b ∷ []) bs))
    go true e k f g =
        let p : l ≡ line_text (line_of l) = (line_read l).text (each_head k) in
        let q : bs ≡ text_of_lines (lines_from [] bs) = f (each_tail k) in
        let r : b ≡ line_end = eqb-true b line_end e in
        ap (λ (xs : List ℕ). xs ++ b ∷ bs) p ∙ ap (λ (c : ℕ). line_text (line_of l) ++ c ∷ bs) r ∙ ap (λ (ys : List ℕ). line_text (line_of l) ++ line_end ∷ ys) q
    go false e k f g = sym (append_snoc l b bs) ∙ g k

-- ---- what was written is read
plain : List ℕ → Bool
plain [] = true
plain (b ∷ bs) = pick (eqb b line_end) false (plain bs)

plain_append : (xs ys : List ℕ) → plain xs ≡ true → plain ys ≡ true → plain (xs ++ ys) ≡ true
unfolding plain
plain_append [] ys p q = q
plain_append (x ∷ xs) ys p q = go (eqb x line_end) p (λ r. plain_append xs ys r q)
  where
    go : (b : Bool) → pick b false (plain xs) ≡ true → (plain xs ≡ true → plain (xs ++ ys) ≡ true) → pick b false (plain (xs ++ ys)) ≡ true
    go true p ih = p
    go false p ih = ih p

plain-pick : (b : Bool) (xs ys : List ℕ) → plain xs ≡ true → plain ys ≡ true → plain (pick b xs ys) ≡ true
plain-pick true xs ys p q = p
plain-pick false xs ys p q = q

plain_one : (d : ℕ) → plain ((digit_zero + d) ∷ []) ≡ true
unfolding plain
plain_one d = rw (ne_eqb (digit_zero + d) line_end (λ e. omega arith))

plain_digit : (p n : ℕ) → plain (digit_at p n) ≡ true
unfolding plain digit_at
plain_digit p n = plain-pick (ltb n p) [] ((digit_zero + n / p % base) ∷ []) refl (plain_one (n / p % base))

plain_name : (a : ℕ) → plain (run_name a) ≡ true
unfolding plain run_name
plain_name a = plain-pick (eqb a rest) _ _ refl (plain-pick (eqb a availability) _ _ refl (plain-pick (eqb a other_work) _ _ refl refl))

plain-decimal : (n : ℕ) → plain (decimal n) ≡ true
unfolding decimal
plain-decimal n =
    plain_append _ _
    (plain_append _ _
    (plain_append _ _
    (plain_append _ _
    (plain_append _ _ (plain_digit 100000 n) (plain_digit 10000 n)) (plain_digit 1000 n)) (plain_digit 100 n)) (plain_digit 10 n)) (plain_one (n % base))

plain_line : (l : Line) → plain (line_text l) ≡ true
unfolding plain line_text
plain_line line.Recording = refl
plain_line line.Week = refl
plain_line line.Closing = refl
plain_line (line.Run w) = plain_append (run_name (activity_in w) ++ decimal (minutes_in w)) closing_line (plain_append (run_name (activity_in w)) (decimal (minutes_in w)) (plain_name
    (activity_in w)) (plain-decimal (minutes_in w))) refl
plain_line line.Other = refl

lines_next : (l xs t : List ℕ) → plain xs ≡ true → lines_from l (xs ++ line_end ∷ t) ≡ line_of (l ++ xs) ∷ lines_in t
unfolding plain lines_from
lines_next l [] t p = rw (append-nil l)
lines_next l (x ∷ xs) t p = go (eqb x line_end) p (lines_next (l ++ x ∷ []) xs t)
  where
    go : (b : Bool) → pick b false (plain xs) ≡ true → (plain xs ≡ true → lines_from (l ++ x ∷ []) (xs ++ line_end ∷ t) ≡ line_of (l ++ x ∷ [] ++ xs) ∷ lines_in t)
        → pick b (line_of l ∷ lines_from [] (xs ++ line_end ∷ t)) (lines_from (l ++ x ∷ []) (xs ++ line_end ∷ t)) ≡ line_of (l ++ x ∷ xs) ∷ lines_in t
    go true p ih = absurd (false≢true p)
    go false p ih = ih p ∙ rw (append_snoc l x xs)

run_line : (a n : ℕ) (bs : List ℕ) → a < activities → number_from 0 bs ≡ n → 1 ≤ n → line_of (run_name a ++ bs) ≡ line.Run (word_of n a)
unfolding line_of same run_or number_after run_name
run_line zero n bs h e k = rw (e, ne_eqb n 0 (λ z. omega arith))
run_line (suc zero) n bs h e k = rw (e, ne_eqb n 0 (λ z. omega arith))
run_line (suc (suc zero)) n bs h e k = rw (e, ne_eqb n 0 (λ z. omega arith))
run_line (suc (suc (suc zero))) n bs h e k = rw (e, ne_eqb n 0 (λ z. omega arith))
run_line (suc (suc (suc (suc a)))) n bs h e k = absurd (omega arith)

word_again : (w : ℕ) → word_of (minutes_in w) (activity_in w) ≡ w
word_again w = omega arith

pub line_written : (l : Line) → Known l → Good l → line_of (line_text l) ≡ l
unfolding line_of line_text same
line_written line.Recording k g = refl
line_written line.Week k g = refl
line_written line.Closing k g = refl
line_written (line.Run w) k g =
    rw append_assoc
    (run_line (activity_in w) (minutes_in w) (decimal (minutes_in w) ++ closing_line) (omega arith) (number_written (minutes_in w) g.some g.within) g.some
    ∙ rw (word_again w))
line_written line.Other k g = absurd k

pub lines_written : (ls : List Line) → Each Known ls → Each Good ls → lines_in (text_of_lines ls) ≡ ls
unfolding lines_from text_of_lines
lines_written [] none none = refl
lines_written (l ∷ ls) (next k ks) (next g gs) =
    lines_next [] (line_text l) (text_of_lines ls) (plain_line l)
    ∙ ap (λ (x : Line). x ∷ lines_in (text_of_lines ls)) (line_written l k g)
    ∙ ap (λ (xs : List Line). l ∷ xs) (lines_written ls ks gs)
