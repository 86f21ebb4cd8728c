-- Where a minute lies in the words, and the recording from there on: the rest of its word, then the words after it. Assumes nothing.
use mathlib.Core.Path.{◌≡◌, sym, ap, ap₂, ◌∙◌}
use mathlib.Core.Logic.{◌⊎◌, inl, inr}
use mathlib.Core.List.{List, [], ◌∷◌, ◌++◌}
use Prim.Native.Nat.{ℕ, zero, suc, ◌+◌, ◌-◌, ◌≤◌, ◌<◌}
use native.Mathlib.Nat.{eq-or-lt_of_le, zero-add, suc-add}
use native.Mathlib.Numerals.{add-one}
use native.Mathlib.Omega.{arith}
use lib.ListN.{length, get_or, take, drop, replicate, length-append, length-drop, length-replicate}
use lib.Seq.{take_all}
use Rattle.recording.specs.Words.{minutes_in, activity_in, minutes_of}
use Rattle.recording.specs.Operations.{total_at_most}
use Rattle.recording.proofs.Slices.{part_rest}
use Rattle.verdict_spans.specs.Mondays.{Seated, Reaches}
use Rattle.verdict_spans.specs.declared.Seat.{Seat}

-- the minutes of one word more
take_more : (i : ℕ) (ws : List ℕ) → i < length ws → length (minutes_of (take (suc i) ws)) ≡ length (minutes_of (take i ws)) + minutes_in (get_or ws i 0)
unfolding minutes_of
take_more i [] h = absurd (omega arith)
take_more zero (w ∷ ws) h = rw (length-append, length-replicate) (omega arith)
take_more (suc i) (w ∷ ws) h =
    let r : List ℕ = replicate (minutes_in w) (activity_in w) in
    omega (arith, length-append r (minutes_of (take (suc i) ws)), length-append r (minutes_of (take i ws)), take_more i ws (omega arith))

take_less : (i : ℕ) (ws : List ℕ) → length (minutes_of (take i ws)) ≤ length (minutes_of ws)
unfolding minutes_of
take_less zero ws = omega arith
take_less (suc i) [] = omega arith
take_less (suc i) (w ∷ ws) =
    let r : List ℕ = replicate (minutes_in w) (activity_in w) in
    omega (arith, length-append r (minutes_of (take i ws)), length-append r (minutes_of ws), take_less i ws)

-- ---- the walk towards the start
pub seat_end : (ws : List ℕ) {total : ℕ} → total ≡ length (minutes_of ws) → (m : ℕ) → m < length (minutes_of ws) → Reaches ws m (record { index = length ws; start = total })
seat_end ws e m h = record {
  there = omega arith;
  start = e ∙ ap (λ (l : List ℕ). length (minutes_of l)) (sym (take_all (length ws) ws (omega arith)));
  within = omega (arith, ap (λ (l : List ℕ). length (minutes_of l)) (take_all (suc (length ws)) ws (omega arith)));
}

module _ {ws : List ℕ} {m index start : ℕ} (k : Reaches ws m (record { index = index; start = start })) where
  module _ (h : m < start) where
    pub seat_some : 0 < index
    unfolding minutes_of
    seat_some = at index k.start
      where
        at : (i : ℕ) → start ≡ length (minutes_of (take i ws)) → 0 < i
        at zero e = absurd (omega (arith, e))
        at (suc i) e = omega arith

    one_back : start ≡ length (minutes_of (take (index - 1) ws)) + minutes_in (get_or ws (index - 1) 0)
    one_back =
        let z : index ≡ suc (index - 1) = omega (arith, seat_some) in
        k.start ∙ ap (λ (n : ℕ). length (minutes_of (take n ws))) z ∙ take_more (index - 1) ws (omega (arith, seat_some, k.there))

    pub seat_within : minutes_in (get_or ws (index - 1) 0) ≤ start
    seat_within = omega (arith, one_back)

    pub seat_back : Reaches ws m (record { index = index - 1; start = start - minutes_in (get_or ws (index - 1) 0) })
    seat_back =
        let z : suc (index - 1) ≡ index = omega (arith, seat_some) in
        record {
          there = omega (arith, k.there);
          start = omega (arith, one_back);
          within = omega (arith, k.start, ap (λ (n : ℕ). length (minutes_of (take n ws))) z);
        }

  pub seat_found : start ≤ m → m < length (minutes_of ws) → Seated ws m (record { index = index; start = start })
  seat_found h l = record { there = there; start = k.start; begun = h; within = omega (arith, k.within, k.start, take_more index ws there) }
    where
      past : index ≡ length ws → start ≡ length (minutes_of ws)
      past e = k.start ∙ ap (λ (n : ℕ). length (minutes_of (take n ws))) e ∙ ap (λ (l : List ℕ). length (minutes_of l)) (take_all (length ws) ws (omega arith))

      at : (index ≡ length ws) ⊎ (index < length ws) → index < length ws
      at (inl e) = absurd (omega (arith, past e))
      at (inr g) = g

      there : index < length ws
      there = at (eq-or-lt_of_le k.there)

-- ---- a minute's seat
module _ {ws : List ℕ} {m : ℕ} {s : Seat} (k : Seated ws m s) where
  pub seat_room : m ≤ length (minutes_of ws)
  seat_room = omega (arith, k.within, k.start, take_more s.index ws k.there, take_less (suc s.index) ws)

  -- an earlier minute is reached from there
  pub seat_before : (n : ℕ) → n ≤ m → Reaches ws n s
  seat_before n h = record { there = omega (arith, k.there); start = k.start; within = omega (arith, k.within, k.start, take_more s.index ws k.there) }

-- what is left of a run
drop_run : (n x a : ℕ) (ms : List ℕ) → x ≤ n → drop x (replicate n a ++ ms) ≡ replicate (n - x) a ++ ms
drop_run n zero a ms h =
    let e : n ≡ n - 0 = omega arith in
    ap (λ (y : ℕ). replicate y a ++ ms) e
drop_run zero (suc x) a ms h = absurd (omega arith)
drop_run (suc n) (suc x) a ms h =
    let e : n - x ≡ suc n - suc x = omega arith in
    drop_run n x a ms (omega arith) ∙ ap (λ (y : ℕ). replicate y a ++ ms) e

-- the recording from a minute on, x minutes into the word at i
drop_past : (a : List ℕ) (x : ℕ) (b : List ℕ) → drop (length a + x) (a ++ b) ≡ drop x b
drop_past [] x b = ap (λ (n : ℕ). drop n b) (zero-add x)
drop_past (y ∷ a) x b = rw suc-add (drop_past a x b)

from_word : (ws : List ℕ) (i x head : ℕ) → i < length ws → x ≤ minutes_in (get_or ws i 0) → minutes_in head ≡ minutes_in (get_or ws i 0) - x
    → activity_in head ≡ activity_in (get_or ws i 0) → drop (length (minutes_of (take i ws)) + x) (minutes_of ws) ≡ minutes_of (head ∷ drop (suc i) ws)
unfolding minutes_of
from_word [] i x head l h e g = absurd (omega arith)
from_word (w ∷ ws) zero x head l h e g =
    ap (λ (n : ℕ). drop n (replicate (minutes_in w) (activity_in w) ++ minutes_of ws)) (zero-add x)
    ∙ drop_run (minutes_in w) x (activity_in w) (minutes_of ws) h
    ∙ ap₂ (λ (n a : ℕ). replicate n a ++ minutes_of ws) (sym e) (sym g)
from_word (w ∷ ws) (suc i) x head l h e g =
    let r = replicate (minutes_in w) (activity_in w) in
    let z : length (r ++ minutes_of (take i ws)) + x ≡ length r + (length (minutes_of (take i ws)) + x) = omega (arith, length-append r (minutes_of (take i ws))) in
    ap (λ (n : ℕ). drop n (r ++ minutes_of ws)) z
    ∙ drop_past r (length (minutes_of (take i ws)) + x) (minutes_of ws)
    ∙ from_word ws i x head (omega arith) h e g

-- the words after one, as a part of the slice
abbrev words_after : List ℕ → ℕ → List ℕ
words_after ws i = take (length ws - (i + 1)) (drop (i + 1) ws)

module _ {ws : List ℕ} {m : ℕ} {s : Seat} (k : Seated ws m s) (head : ℕ) (e : minutes_in head ≡ minutes_in (get_or ws s.index 0) - (m - s.start))
    (g : activity_in head ≡ activity_in (get_or ws s.index 0)) where
  pub from_seat : drop m (minutes_of ws) ≡ minutes_of (head ∷ words_after ws s.index)
  from_seat =
      let z : m ≡ length (minutes_of (take s.index ws)) + (m - s.start) = omega (arith, k.start, k.begun) in
      ap (λ (n : ℕ). drop n (minutes_of ws)) z
      ∙ from_word ws s.index (m - s.start) head k.there (omega (arith, k.within, k.begun)) e g
      ∙ ap (λ (l : List ℕ). minutes_of (head ∷ l)) (ap (λ (n : ℕ). drop n ws) (sym (add-one s.index)) ∙ sym (part_rest ws (s.index + 1)))

  pub seat_total : {total : ℕ} → total ≡ length (minutes_of ws) → total - m ≡ length (minutes_of (head ∷ words_after ws s.index))
  seat_total t = omega (arith, t, ap length from_seat, length-drop m (minutes_of ws))

  pub seat_limit : length (minutes_of ws) ≤ total_at_most → length (minutes_of (head ∷ words_after ws s.index)) ≤ total_at_most
  seat_limit t = omega (arith, ap length from_seat, length-drop m (minutes_of ws))
