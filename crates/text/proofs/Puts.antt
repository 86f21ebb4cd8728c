-- Bytes put into a buffer from a place on, and puts one after another. Assumes nothing.
use mathlib.Core.Path.{◌≡◌, refl, sym, ap, ◌∙◌}
use mathlib.Core.Bool.{Bool, true, false}
use mathlib.Core.List.{List, [], ◌∷◌, ◌++◌, append_assoc}
use Prim.Native.Nat.{ℕ, suc, ◌+◌, ◌/◌, ◌%◌, ◌≤◌, ◌<◌}
use native.Mathlib.Numerals.{add-one}
use native.Mathlib.Omega.{arith}
use lib.ListN.{length, drop, get_or, set, length-append}
use lib.Seq.{drop-cons, drop-length, set_out, sets, length-sets}
use lib.Dec.{eqb, ltb}
use borrow.Author.Tests.{lt-ltb, le-ltb}
use Rattle.recording.specs.Tests.{pick}
use Rattle.recording.specs.Words.{code_of, word_of, activities, rest, availability, other_work}
use Rattle.recording.specs.Weeks.{week_minutes}
use Rattle.recording.proofs.WordLaws.{minutes_in_law, activity_in_law}
use Rattle.recording.specs.declared.Activity.{Activity}
use Rattle.recording.specs.declared.Activity.TheVariants.{Rest, Availability, OtherWork, Driving}
use Rattle.text_lines.specs.Form.{line_end, week_line, closing_line, run_name, digit_zero, base, digit_at, decimal, line_text, text_of_lines}
use Rattle.text.specs.Passes.{part_lines}
use Rattle.text.specs.Page.{Put, Puts}
use Rattle.text.specs.declared.page.Page.{Page}
use Rattle.text_lines.specs.declared.Line.TheVariants as line
use Rattle.recording.proofs.Slices.{sets_append}

pub put_then : {t u v : List ℕ} {at next last : ℕ} {xs ys : List ℕ} → Put t at xs next u → Put u next ys last v → Put t at (xs ++ ys) last v
put_then {t} {u} {v} {at} {next} {last} {xs} {ys} p q = record {
  next_is = rw length-append (omega (arith, p.next_is, q.next_is));
  text_is = q.text_is ∙ rw (p.text_is, p.next_is) (sym (sets_append t at xs ys));
}

pub puts_then : {p q r : Page} {xs ys : List ℕ} → Puts p xs q → Puts q ys r → Puts p (xs ++ ys) r
puts_then k l = record { put = put_then k.put l.put; same = l.same ∙ k.same }

pub put_none : (t : List ℕ) (at : ℕ) → Put t at [] at t
put_none t at = record { next_is = omega arith; text_is = refl }

pub puts_none : (p : Page) → Puts p [] p
puts_none p = record { put = put_none p.bytes.now p.len; same = refl }

pub put_length : {t u bytes : List ℕ} {at next : ℕ} → Put t at bytes next u → length u ≡ length t
put_length {t} {u} {bytes} {at} p = ap length p.text_is ∙ length-sets t at bytes

-- ---- one byte of the walk
pub put_first : (t bytes : List ℕ) (at : ℕ) → sets t at bytes ≡ sets t (at + 0) bytes
put_first t bytes at = ap (λ (n : ℕ). sets t n bytes) (omega arith)

pub put_on : {u : List ℕ} (t bytes : List ℕ) (at i : ℕ) → i < length bytes → u ≡ set t at (get_or bytes i 0)
    → sets t at (drop i bytes) ≡ sets u (at + 1) (drop (i + 1) bytes)
put_on {u} t bytes at i h e = rw (drop-cons bytes i 0, add-one i, add-one at, e) refl

pub put_done : (t bytes : List ℕ) (at i : ℕ) → i ≡ length bytes → sets t at (drop i bytes) ≡ t
put_done t bytes at i e = rw (e, drop-length)

-- past the end nothing is put
pub sets_past : (t : List ℕ) (at : ℕ) (bytes : List ℕ) → length t ≤ at → sets t at bytes ≡ t
sets_past t at [] h = refl
sets_past t at (x ∷ xs) h = ap (λ (u : List ℕ). sets u (suc at) xs) (set_out t at x h) ∙ sets_past t (suc at) xs (omega arith)

pub put_same_length : (t u : List ℕ) (at next : ℕ) (xs ys : List ℕ) → sets t at xs ≡ sets u next ys → length u ≡ length t
put_same_length t u at next xs ys e = sym (length-sets u next ys) ∙ sym (ap length e) ∙ length-sets t at xs

-- ---- a digit
module _ (p : Page) (v n : ℕ) where
  pub digit_none : n < v → Puts p (digit_at v n) p
  unfolding digit_at
  digit_none h = rw (lt-ltb n v h) (puts_none p)

  pub digit_put : {q : Page} → v ≤ n → Puts p ((digit_zero + n / v % base) ∷ []) q → Puts p (digit_at v n) q
  unfolding digit_at
  digit_put h e = rw (le-ltb n v h) e

pub pick_at_most : {A : Type 0} (b : Bool) (xs ys : List A) (k : ℕ) → length xs ≤ k → length ys ≤ k → length (pick b xs ys) ≤ k
pick_at_most true xs ys k h l = h
pick_at_most false xs ys k h l = l

digit_short : (p n : ℕ) → length (digit_at p n) ≤ 1
unfolding digit_at
digit_short p n = pick_at_most (ltb n p) [] ((digit_zero + n / p % base) ∷ []) 1 (omega arith) (omega arith)

-- ---- a line of a run, with the week's own lines
pub name_short : (a : ℕ) → length (run_name a) ≤ 7
unfolding run_name
name_short a =
    pick_at_most (eqb a rest) _ _ 7 (omega arith)
    (pick_at_most (eqb a availability) _ _ 7 (omega arith)
    (pick_at_most (eqb a other_work) _ _ 7 (omega arith) (omega arith)))

pub number_short : (n : ℕ) → length (decimal n) ≤ 6
unfolding decimal
number_short n =
    rw (length-append, length-append, length-append, length-append, length-append)
    (omega (arith, digit_short 100000 n, digit_short 10000 n, digit_short 1000 n, digit_short 100 n, digit_short 10 n))

pub pick_short : (b : Bool) (bytes : List ℕ) → length (pick b bytes []) ≤ length bytes
pick_short true bytes = omega arith
pick_short false bytes = omega arith

-- the bytes of a line with its end
abbrev pub ended : List ℕ → List ℕ
ended l = l ++ line_end ∷ []

regroup : (p r d q : List ℕ) → p ++ r ++ d ++ ended closing_line ++ q ≡ p ++ (r ++ d ++ closing_line ++ line_end ∷ q)
regroup p r d q = simp append_assoc

part_bytes : (b d : Bool) (n a : ℕ) → a < activities → text_of_lines (pick b (line.Week ∷ []) [] ++ line.Run (word_of n a) ∷ pick d (line.Closing ∷ []) [])
    ≡ pick b (ended week_line) [] ++ run_name a ++ decimal n ++ ended closing_line ++ pick d (ended closing_line) []
unfolding text_of_lines line_text
part_bytes true true n a h = rw (minutes_in_law n a h, activity_in_law n a h) (sym (regroup (ended week_line) (run_name a) (decimal n) (ended closing_line)))
part_bytes true false n a h = rw (minutes_in_law n a h, activity_in_law n a h) (sym (regroup (ended week_line) (run_name a) (decimal n) []))
part_bytes false true n a h = rw (minutes_in_law n a h, activity_in_law n a h) (sym (regroup [] (run_name a) (decimal n) (ended closing_line)))
part_bytes false false n a h = rw (minutes_in_law n a h, activity_in_law n a h) (sym (regroup [] (run_name a) (decimal n) []))

pub code_small : (a : Activity) → code_of a < activities
code_small Rest = omega arith
code_small Availability = omega arith
code_small OtherWork = omega arith
code_small Driving = omega arith

pub part_text : (left n a : ℕ) → a < activities → text_of_lines (part_lines left n (word_of n a))
    ≡ pick (eqb left week_minutes) (ended week_line) [] ++ run_name a ++ decimal n ++ ended closing_line ++ pick (eqb left n) (ended closing_line) []
unfolding part_lines
part_text left n a h = part_bytes (eqb left week_minutes) (eqb left n) n a h
