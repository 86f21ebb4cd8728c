-- Long rests: which they are, their order, and how many there can be.
-- Assumes nothing.
use mathlib.Core.Path.{◌≡◌, refl}
use mathlib.Core.Bool.{Bool, true, false}
use mathlib.Core.List.{List, [], ◌∷◌, ◌++◌, Memᴰ as In}
use Prim.Native.Nat.{ℕ, zero, suc, ◌+◌, ◌-◌, ◌*◌, ◌≤◌, ◌<◌, zero-le}
use native.Mathlib.Nat.{le_refl, le_trans}
use native.Mathlib.Omega.{arith}
use lib.Dec.{leb, ltb}
use lib.ListN.{length}
use borrow.Author.Tests.{leb-true, le-leb, lt-leb, ltb-false}
use Rattle.recording.specs.Tests.{pick, keep}
use Rattle.recording.specs.Scan.{short_total, short_rests}
use Rattle.recording.specs.Rests.{length_of, with_rest, end_from, judged_end, closed_from, closed_rests, long_rest_minutes, is_long, long_from, long_rests, long_rests_at_most}
use Rattle.recording.specs.Operations.{total_at_most}
use Rattle.recording.specs.declared.Span.{Span}
use Rattle.recording.proofs.TestLaws.{keep_in, in_keep}
use Rattle.recording.proofs.Walks.{end_from_law, judged_within, long_rests_append}
use Rattle.recording.proofs.Runs.{ClosedRun, closed_run, run_closed_rest}

-- "A long rest is a rest that is not open and has 540 minutes or more."
pub record LongRest (ms : List ℕ) (r : Span) : Type 0 where
  pub rest : ClosedRun ms r
  pub long : long_rest_minutes ≤ length_of r

pub long_is : (ms : List ℕ) {r : Span} → In r (long_rests ms) → LongRest ms r
unfolding long_rests closed_rests
long_is ms {r} i =
    let k = keep_in is_long (closed_rests ms) i in
    record { rest = closed_run ms k.listed; long = leb-true long_rest_minutes (length_of r) k.passes }

pub is_long_law : (ms : List ℕ) {r : Span} → LongRest ms r → In r (long_rests ms)
unfolding long_rests closed_rests
is_long_law ms {r} l =
    in_keep is_long (run_closed_rest l.rest.run l.rest.closed) (le-leb long_rest_minutes (length_of r) l.long)

-- ---- one minute of the walk
long_with : (b : Bool) (from now : ℕ) (rs : List Span) → ltb from now ≡ b → keep is_long (pick b (record { start = from; end = now } ∷ rs) rs)
    ≡ pick (leb long_rest_minutes (now - from)) (record { start = from; end = now } ∷ keep is_long rs) (keep is_long rs)
unfolding keep
long_with true from now rs e = refl
long_with false from now rs e =
    let h : now ≤ from = ltb-false from now e in
    rw (lt-leb long_rest_minutes (now - from) (omega arith))

pub long_with_rest : (from now : ℕ) (rs : List Span) → keep is_long (with_rest from now rs)
    ≡ pick (leb long_rest_minutes (now - from)) (record { start = from; end = now } ∷ keep is_long rs) (keep is_long rs)
long_with_rest from now rs = long_with (ltb from now) from now rs refl

pub long_busy : (from now a : ℕ) (ms : List ℕ) → long_from from now (suc a ∷ ms)
    ≡ pick (leb long_rest_minutes (now - from)) (record { start = from; end = now } ∷ long_from (suc now) (suc now) ms) (long_from (suc now) (suc now) ms)
unfolding closed_from
long_busy from now a ms = long_with_rest from now (closed_from (suc now) (suc now) ms)

-- ---- their order: from a minute on, a minute of another activity after each, each over before the minute `to`
pub data Ordered (to : ℕ) : ℕ → List Span → Type 0 where
  none : {from : ℕ} → Ordered to from []
  next : {from : ℕ} {r : Span} {rs : List Span}
      → from ≤ r.start → long_rest_minutes ≤ length_of r → r.end < to → Ordered to (suc r.end) rs → Ordered to from (r ∷ rs)

pub ordered_from : {to from from' : ℕ} {rs : List Span} → from ≤ from' → Ordered to from' rs → Ordered to from rs
ordered_from h none = none
ordered_from h (next l n e o) = next (le_trans h l) n e o

ordered_pick : (b : Bool) {to from now : ℕ} {rs : List Span} → leb long_rest_minutes (now - from) ≡ b → from ≤ now → now < to
    → Ordered to (suc now) rs → Ordered to from (pick b (record { start = from; end = now } ∷ rs) rs)
ordered_pick true {from = from} {now = now} e h l o = next (le_refl _) (leb-true long_rest_minutes (now - from) e) l o
ordered_pick false e h l o = ordered_from (omega arith) o

pub long_ordered : (from now : ℕ) (ms : List ℕ) → from ≤ now → Ordered (end_from from now ms) from (long_from from now ms)
unfolding closed_from end_from keep
long_ordered from now [] h = none
long_ordered from now (zero ∷ ms) h = long_ordered from (suc now) ms (omega arith)
long_ordered from now (suc a ∷ ms) h =
    rw (long_busy from now a ms)
    (ordered_pick _ refl h (end_from_law (suc now) (suc now) ms (le_refl _)) (long_ordered (suc now) (suc now) ms (le_refl _)))

pub rests_ordered : (ms : List ℕ) → Ordered (judged_end ms) 0 (long_rests ms)
unfolding judged_end long_rests
rests_ordered ms = long_ordered 0 0 ms zero-le

-- the long rests past a stretch
module _ (xs ys : List ℕ) where
  pub rests_past : List Span
  rests_past = long_from (judged_end xs) (length xs) ys

  pub rests_split : long_rests (xs ++ ys) ≡ long_rests xs ++ rests_past
  unfolding rests_past
  rests_split = long_rests_append xs ys

  pub past_ordered : Ordered (end_from (judged_end xs) (length xs) ys) (judged_end xs) rests_past
  unfolding rests_past
  past_ordered = long_ordered (judged_end xs) (length xs) ys (judged_within xs)

-- ---- how many
ordered_count : {to from : ℕ} {rs : List Span} → Ordered to from rs → from ≤ to → from + suc long_rest_minutes * length rs ≤ to
ordered_count none h = omega arith
ordered_count (next l n e o) h = omega (arith, ordered_count o e)

-- 540 × k is within the minutes, with a minute of another activity after each
pub rests_within : (ms : List ℕ) → suc long_rest_minutes * length (long_rests ms) ≤ length ms
rests_within ms = omega (arith, ordered_count (rests_ordered ms) zero-le, judged_within ms)

-- "long rests to 987": k is at most so many
pub few_rests : (ms : List ℕ) → length ms ≤ total_at_most → length (long_rests ms) ≤ long_rests_at_most
few_rests ms h = omega (arith, rests_within ms)

-- and of a short recording
pub few_short : (ms : List ℕ) → length ms ≤ short_total → length (long_rests ms) ≤ short_rests
few_short ms h = omega (arith, rests_within ms)
