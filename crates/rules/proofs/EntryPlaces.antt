-- Where the entries of a reading stand: the entry of index i, with its number, P, its start and its end, for rests that lie in order and are over by
-- the minute `to`. Assumes nothing.
use mathlib.Core.Path.{◌≡◌, refl}
use mathlib.Core.Logic.{◌⊎◌, inl, inr}
use mathlib.Core.List.Memᴰ
use mathlib.Core.List.{List, ◌∷◌, map, Memᴰ as In}
use Prim.Native.Nat.{ℕ, suc, ◌+◌, ◌≤◌, ◌<◌}
use native.Mathlib.Omega.{arith}
use lib.ListN.{length, get_or, drop}
use Rattle.recording.specs.declared.Span.{Span}
use Rattle.recording.proofs.LongRests.{Ordered, none, next}
use Rattle.rules.specs.Reading.{Entry, entry_fields, entry_of, entries_from}

pub record EntryAt (to n p : ℕ) (rs : List Span) (i : ℕ) (e : Entry) : Type 0 where
  pub within : i < length rs
  pub number : e.number ≡ n + i
  pub ordered : e.span.start ≤ e.span.end
  pub over : e.span.end < to
  pub before : e.before ≡ get_or (p ∷ map (λ (s : Span). s.end) rs) i 0
  pub start : e.span.start ≡ get_or (map (λ (s : Span). s.start) rs) i 0
  pub end : e.span.end ≡ get_or (map (λ (s : Span). s.end) rs) i 0

module _ (n p : ℕ) (earlier : List Entry) (fields : List ℕ) (to : ℕ) (r : Span) (rs : List Span) (e : Entry) where
  abbrev Later : Type 0
  Later = In e (entries_from (suc n) r.end (entry_of n p earlier r fields ∷ earlier) rs (drop entry_fields fields))

  this_or_later : r.start ≤ r.end → r.end < to → (e ≡ entry_of n p earlier r fields) ⊎ Later → (Later → (i : ℕ) × EntryAt to (suc n) r.end rs i e) → (i : ℕ) × EntryAt to n p (r ∷ rs) i e
  this_or_later h l (inl q) ih = (0, rw q (record { within = omega arith; number = omega arith; ordered = h; over = l; before = refl; start = refl; end = refl }))
  this_or_later h l (inr j) ih =
      let k = ih j in
      let a = k.1 in
      (suc k.0, record { within = omega (arith, a.within); number = omega (arith, a.number); ordered = a.ordered; over = a.over; before = a.before; start = a.start; end = a.end })

pub entry_at : {to : ℕ} (n p : ℕ) (earlier : List Entry) (fields : List ℕ) {from : ℕ} {rs : List Span} → Ordered to from rs → (e : Entry) → In e (entries_from n p earlier rs fields)
    → (i : ℕ) × EntryAt to n p rs i e
unfolding entries_from
entry_at n p earlier fields none e i = absurd (Memᴰ.not-nil i)
entry_at {to = to} n p earlier fields (next {r = r} {rs = rs} l m d o) e i =
    this_or_later n p earlier fields to r rs e (omega arith) d (Memᴰ.cases_cons i)
    (λ j. entry_at (suc n) r.end (entry_of n p earlier r fields ∷ earlier) (drop entry_fields fields) o e j)
