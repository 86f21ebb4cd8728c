-- What the walk over the words keeps that looks for the next minute that is not rest. Assumes nothing.
use mathlib.Core.Path.{◌≡◌, refl, sym, ap, ap₂, subst, ◌∙◌}
use mathlib.Core.Bool.{Bool, true, false}
use mathlib.Core.Logic.{◌⊎◌, inl, inr}
use mathlib.Core.List.{List, ◌∷◌, ◌++◌}
use Prim.Native.Nat.{ℕ, zero, suc, ◌+◌, ◌-◌, ◌≤◌, ◌<◌, min, max}
use native.Mathlib.Numerals.{add-one}
use native.Mathlib.Omega.{arith}
use lib.Dec.{ltb}
use lib.ListN.{length, get_or, drop, replicate, length-append, length-replicate, get_or-replicate, get_or-append}
use lib.Seq.{drop-cons, drop-length, get_or-append-add}
use borrow.Author.Tests.{lt-ltb, le-ltb, ltb-true, ltb-false}
use Rattle.recording.specs.Tests.{pick}
use Rattle.std.proofs.Common.{Option, Some, None}
use Rattle.recording.specs.Words.{rest, minutes_in, activity_in, minutes_of, code_of, IsRunOf}
use Rattle.recording.specs.declared.Run.{Run}
use Rattle.recording.specs.declared.Activity.{Activity}
use Rattle.recording.specs.declared.Activity.TheVariants.{Availability, OtherWork, Driving}
use Rattle.recording.proofs.TestLaws.{less_or_not}
use Rattle.recording.proofs.Scanning.{next_word}
use Rattle.verdict_breach.specs.Verdicts.{active_in, NextActive}

-- ---- a run that is not rest: its first stretch from x on, or none
busy_code : {a : Activity} → (a ≡ Availability) ⊎ (a ≡ OtherWork) ⊎ (a ≡ Driving) → (n : ℕ) × (code_of a ≡ suc n)
busy_code (inl e) = (0, ap code_of e)
busy_code (inr (inl e)) = (1, ap code_of e)
busy_code (inr (inr e)) = (2, ap code_of e)

module _ {a : Activity} (busy : (a ≡ Availability) ⊎ (a ≡ OtherWork) ⊎ (a ≡ Driving)) (from to x : ℕ) where
  pub active_none : to < max x (from + 1) → None ≡ active_in (code_of a) from to x
  active_none l = rw ((busy_code busy).1, lt-ltb to (max x (from + 1)) l) refl

  pub active_some : max x (from + 1) ≤ to → Some (max x (from + 1)) ≡ active_in (code_of a) from to x
  active_some l = rw ((busy_code busy).1, le-ltb to (max x (from + 1)) l) refl

-- ---- the walk: before the word of index i, which begins at the minute `now`: the minutes from x - 1 on were rest
pub record Ahead (ws : List ℕ) (x now i : ℕ) : Type 0 where
  pub within : i ≤ length ws
  pub room : now + length (minutes_of (drop i ws)) ≡ length (minutes_of ws)
  pub left : (j : ℕ) → get_or (minutes_of ws) (now + j) 0 ≡ get_or (minutes_of (drop i ws)) j 0
  pub rested : (j : ℕ) → j < now → x ≤ suc j → get_or (minutes_of ws) j 0 ≡ rest

start_ahead : (ws : List ℕ) (x : ℕ) → Ahead ws x 0 0
start_ahead ws x = record {
  within = omega arith;
  room = omega arith;
  left = λ j. ap (λ (n : ℕ). get_or (minutes_of ws) n 0) (omega arith);
  rested = λ j h. absurd (omega arith);
}

module _ {ws : List ℕ} {x now i : ℕ} (k : Ahead ws x now i) (h : i < length ws) where
  abbrev run : List ℕ
  run = replicate (minutes_in (get_or ws i 0)) (activity_in (get_or ws i 0))

  split : minutes_of (drop i ws) ≡ run ++ minutes_of (drop (i + 1) ws)
  unfolding minutes_of
  split = rw (drop-cons ws i 0, add-one) refl

  size : length run ≡ minutes_in (get_or ws i 0)
  size = length-replicate (minutes_in (get_or ws i 0)) (activity_in (get_or ws i 0))

  room_there : now + minutes_in (get_or ws i 0) + length (minutes_of (drop (i + 1) ws)) ≡ length (minutes_of ws)
  room_there = omega (arith, k.room, ap length split, length-append run (minutes_of (drop (i + 1) ws)), size)

  -- the word's minutes
  in_run : (j : ℕ) → now ≤ j → j < now + minutes_in (get_or ws i 0) → get_or (minutes_of ws) j 0 ≡ activity_in (get_or ws i 0)
  in_run j l g =
      let e : now + (j - now) ≡ j = omega arith in
      ap (λ (n : ℕ). get_or (minutes_of ws) n 0) (sym e) ∙ k.left (j - now)
      ∙ ap (λ (ms : List ℕ). get_or ms (j - now) 0) split
      ∙ get_or-append run (minutes_of (drop (i + 1) ws)) 0 (j - now) (omega (arith, size))
      ∙ get_or-replicate (minutes_in (get_or ws i 0)) (j - now) (activity_in (get_or ws i 0)) 0 (omega arith)

  left_there : (j : ℕ) → get_or (minutes_of ws) (now + minutes_in (get_or ws i 0) + j) 0 ≡ get_or (minutes_of (drop (i + 1) ws)) j 0
  left_there j =
      let e : now + minutes_in (get_or ws i 0) + j ≡ now + (length run + j) = omega (arith, size) in
      ap (λ (n : ℕ). get_or (minutes_of ws) n 0) e ∙ k.left (length run + j)
      ∙ ap (λ (ms : List ℕ). get_or ms (length run + j) 0) split
      ∙ get_or-append-add run (minutes_of (drop (i + 1) ws)) j 0

  ahead_on : ((j : ℕ) → now ≤ j → j < now + minutes_in (get_or ws i 0) → x ≤ suc j → get_or (minutes_of ws) j 0 ≡ rest)
      → Ahead ws x (now + minutes_in (get_or ws i 0)) (i + 1)
  ahead_on f = record { within = omega arith; room = room_there; left = left_there; rested = λ j l. earlier j l (less_or_not j now) }
    where
      earlier : (j : ℕ) → j < now + minutes_in (get_or ws i 0) → (j < now) ⊎ (now ≤ j) → x ≤ suc j → get_or (minutes_of ws) j 0 ≡ rest
      earlier j l (inl g) = k.rested j g
      earlier j l (inr g) = f j g l

  -- the word holds no such stretch: it is rest, or ends before x
  none_there : (a : ℕ) → activity_in (get_or ws i 0) ≡ a → active_in a now (now + minutes_in (get_or ws i 0)) x ≡ None → Ahead ws x (now + minutes_in (get_or ws i 0)) (i + 1)
  none_there zero e z = ahead_on (λ j l g q. in_run j l g ∙ e)
  none_there (suc a) e z = short (ltb (now + minutes_in (get_or ws i 0)) (max x (now + 1))) refl z
    where
      short : (b : Bool) → ltb (now + minutes_in (get_or ws i 0)) (max x (now + 1)) ≡ b → pick b None (Some (max x (now + 1))) ≡ None → Ahead ws x (now + minutes_in (get_or ws i 0)) (i + 1)
      short true t z = ahead_on (λ j g q r. absurd (omega (arith, ltb-true (now + minutes_in (get_or ws i 0)) (max x (now + 1)) t)))
      short false t z = cc

  -- or its first one is r
  some_there : {r : ℕ} (a : ℕ) → activity_in (get_or ws i 0) ≡ a → Some r ≡ active_in a now (now + minutes_in (get_or ws i 0)) x
      → (a ≡ rest → ⊥) × (r ≡ max x (now + 1)) × (r ≤ now + minutes_in (get_or ws i 0))
  some_there zero e q = cc
  some_there {r} (suc a) e q = there (ltb (now + minutes_in (get_or ws i 0)) (max x (now + 1))) refl q
    where
      there : (b : Bool) → ltb (now + minutes_in (get_or ws i 0)) (max x (now + 1)) ≡ b → Some r ≡ pick b None (Some (max x (now + 1)))
          → (suc a ≡ rest → ⊥) × (r ≡ max x (now + 1)) × (r ≤ now + minutes_in (get_or ws i 0))
      there true t q = cc
      there false t q =
          let s : r ≡ max x (now + 1) = cc in
          (λ z. absurd (omega (arith, z)), s, omega (arith, ltb-false (now + minutes_in (get_or ws i 0)) (max x (now + 1)) t, s))

  module _ {run : Run} (w : IsRunOf (get_or ws i 0) run) {found : Option ℕ} (e : found ≡ active_in (code_of run.activity) now (now + run.minutes) x) where
    as_word : found ≡ active_in (activity_in (get_or ws i 0)) now (now + minutes_in (get_or ws i 0)) x
    as_word = e ∙ ap₂ (λ (a n : ℕ). active_in a now (now + n) x) w.activity w.minutes

    rest_on : found ≡ None → Ahead ws x (now + run.minutes) (i + 1)
    rest_on z = subst (λ (n : ℕ). Ahead ws x (now + n) (i + 1)) (sym w.minutes) (none_there (activity_in (get_or ws i 0)) refl (sym as_word ∙ z))

    active_there : {bound there r : ℕ} → found ≡ Some there → x ≤ bound → r ≡ min there bound → NextActive (minutes_of ws) x bound r
    active_there z limit q =
        let s = some_there (activity_in (get_or ws i 0)) refl (sym z ∙ as_word) in
        record {
          from = omega (arith, s.1);
          within = omega arith;
          resting = λ j g l. k.rested j (omega (arith, s.1)) g;
          active = λ l j p z. s.0 (sym (in_run j (omega (arith, s.1)) (omega (arith, s.2))) ∙ z);
        }

pub all_rested : {ws : List ℕ} {x now i bound : ℕ} → Ahead ws x now i → i ≡ length ws → x ≤ bound → bound ≤ length (minutes_of ws) → NextActive (minutes_of ws) x bound bound
unfolding minutes_of
all_rested {ws} {x} {now} {i} k e l h =
    let z : length (minutes_of (drop i ws)) ≡ 0 = rw (e, drop-length) refl in
    record { from = l; within = omega arith; resting = λ j g q. k.rested j (omega (arith, k.room)) g; active = λ g. absurd (omega arith) }

-- ---- the first word, and the next one where the first stands apart
from_none : (n : ℕ) → 0 + n ≡ n
from_none n = omega arith

from_start : (a n x : ℕ) → active_in a 0 n x ≡ active_in a 0 (0 + n) x
from_start a n x = ap (λ (m : ℕ). active_in a 0 m x) (sym (from_none n))

pub first_on : {w x : ℕ} {ws : List ℕ} {run : Run} {found : Option ℕ} → IsRunOf w run → found ≡ active_in (code_of run.activity) 0 run.minutes x → found ≡ None
    → Ahead (w ∷ ws) x run.minutes 1
first_on {w} {x} {ws} {run} r e z =
    subst (λ (n : ℕ). Ahead (w ∷ ws) x n 1) (from_none run.minutes) (rest_on (start_ahead (w ∷ ws) x) (omega arith) r (e ∙ from_start (code_of run.activity) run.minutes x) z)

pub first_active : (w : ℕ) (ws : List ℕ) {x bound there r : ℕ} {run : Run} {found : Option ℕ} → IsRunOf w run → found ≡ active_in (code_of run.activity) 0 run.minutes x
    → found ≡ Some there → x ≤ bound → r ≡ min there bound → NextActive (minutes_of (w ∷ ws)) x bound r
first_active w ws {x} {run = run} r e = active_there (start_ahead (w ∷ ws) x) (omega arith) r (e ∙ from_start (code_of run.activity) run.minutes x)

module _ {w : ℕ} {ws : List ℕ} {x now i : ℕ} (k : Ahead (w ∷ ws) x now (suc i)) (h : i < length ws) {run : Run} (r : IsRunOf (get_or ws i 0) run) where
  pub next_room : now + run.minutes ≤ length (minutes_of (w ∷ ws))
  next_room = omega (arith, room_there k (omega arith), r.minutes)

  module _ {found : Option ℕ} (e : found ≡ active_in (code_of run.activity) now (now + run.minutes) x) where
    pub next_on : found ≡ None → Ahead (w ∷ ws) x (now + run.minutes) (suc (i + 1))
    next_on z = subst (λ (n : ℕ). Ahead (w ∷ ws) x (now + run.minutes) n) (next_word i) (rest_on k (omega arith) r e z)

    pub next_there : {bound there r : ℕ} → found ≡ Some there → x ≤ bound → r ≡ min there bound → NextActive (minutes_of (w ∷ ws)) x bound r
    next_there = active_there k (omega arith) r e
