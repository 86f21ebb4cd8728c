-- The rests that are not open lie one after another. Assumes nothing.
use mathlib.Core.Path.{◌≡◌, refl}
use mathlib.Core.Bool.{Bool, true, false}
use mathlib.Core.List.{List, [], ◌∷◌}
use Prim.Native.Nat.{ℕ, zero, suc, ◌≤◌, ◌<◌, zero-le}
use native.Mathlib.Nat.{le_refl, le_trans}
use native.Mathlib.Omega.{arith}
use lib.Dec.{ltb}
use lib.ListN.{length}
use borrow.Author.Tests.{ltb-true}
use Rattle.recording.specs.Tests.{pick}
use Rattle.recording.specs.Rests.{judged_end, closed_from, closed_rests}
use Rattle.recording.specs.declared.Span.{Span}
use Rattle.recording.proofs.Walks.{judged_within}

-- from a minute on, each with a minute, and the next from its end on
pub data Apart : ℕ → List Span → Type 0 where
  none : {from : ℕ} → Apart from []
  next : {from : ℕ} {r : Span} {rs : List Span} → from ≤ r.start → r.start < r.end → Apart r.end rs → Apart from (r ∷ rs)

apart_from : {from from' : ℕ} {rs : List Span} → from ≤ from' → Apart from' rs → Apart from rs
apart_from h none = none
apart_from h (next l m o) = next (le_trans h l) m o

apart_with : (b : Bool) {from now : ℕ} {rs : List Span} → ltb from now ≡ b → from ≤ now → Apart now rs → Apart from (pick b (record { start = from; end = now } ∷ rs) rs)
apart_with true {from} {now} e h o = next (le_refl _) (ltb-true from now e) o
apart_with false e h o = apart_from h o

closed_apart : (from now : ℕ) (ms : List ℕ) → from ≤ now → Apart from (closed_from from now ms)
unfolding closed_from
closed_apart from now [] h = none
closed_apart from now (zero ∷ ms) h = closed_apart from (suc now) ms (omega arith)
closed_apart from now (suc a ∷ ms) h = apart_with _ refl h (apart_from (omega arith) (closed_apart (suc now) (suc now) ms (le_refl _)))

pub rests_apart : (ms : List ℕ) → Apart 0 (closed_rests ms)
unfolding closed_rests
rests_apart ms = closed_apart 0 0 ms zero-le

-- those past a stretch lie past its judged end
pub past_apart : (xs ys : List ℕ) → Apart (judged_end xs) (closed_from (judged_end xs) (length xs) ys)
past_apart xs ys = closed_apart (judged_end xs) (length xs) ys (judged_within xs)
