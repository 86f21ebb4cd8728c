-- P and days in the document's plain words. Assumes nothing.
use mathlib.Core.Path.{◌≡◌, refl, sym, ap}
use mathlib.Core.Logic.{◌⊎◌, inl, inr}
use mathlib.Core.Bool.{Bool, true, false}
use mathlib.Core.List.Memᴰ
use mathlib.Core.List.Memᴰ.{head as here}
use mathlib.Core.List.Memᴰ.{tail as there}
use mathlib.Core.List.{List, [], ◌∷◌, ◌++◌, map, Memᴰ as In}
use Prim.Native.Nat.{ℕ, suc, ◌≤◌, ◌<◌, zero-le}
use native.Mathlib.Nat.{le_refl, le_trans}
use native.Mathlib.Omega.{arith}
use lib.Dec.{leb}
use borrow.Author.Tests.{leb-true, leb-false, le-leb, lt-leb}
use Rattle.recording.specs.Tests.{pick}
use Rattle.recording.specs.Rests.{judged_end, long_rests}
use Rattle.recording.specs.Days.{latest_end_from, latest_end, days_from, days}
use Rattle.recording.specs.declared.Span.{Span}
use Rattle.recording.proofs.LongRests.{Ordered, none, next, rests_ordered}

-- rests that are in order end after the minute from which they are
ends_after : {to from : ℕ} {rs : List Span} → Ordered to from rs → (r : Span) → In r rs → from < r.end
ends_after none r i = absurd (Memᴰ.not-nil i)
ends_after {from = from} (next {r = q} {rs = rs} l n e o) r i = at (Memᴰ.cases_cons i) (λ j. ends_after o r j)
  where
    at : (r ≡ q) ⊎ In r rs → (In r rs → suc q.end < r.end) → from < r.end
    at (inl p) ih = rw p (omega arith)
    at (inr j) ih = omega (arith, ih j)

-- "P is the end of the latest long rest before a point, or 0." Here for the rests from one that ended at p on.
pub record Latest (rs : List Span) (p point last : ℕ) : Type 0 where
  pub before : last ≤ point
  pub after : p ≤ last
  pub is_end : (last ≡ p) ⊎ ((r : Span) × In r rs × (r.end ≡ last))
  pub latest : (r : Span) → In r rs → r.end ≤ point → r.end ≤ last

module _ (point : ℕ) {to : ℕ} {r : Span} {rs : List Span} (o : Ordered to (suc r.end) rs) (p : ℕ) (h : p ≤ r.end) where
  here_or_later : {last : ℕ} → (last ≡ r.end) ⊎ ((q : Span) × In q rs × (q.end ≡ last)) → (last ≡ p) ⊎ ((q : Span) × In q (r ∷ rs) × (q.end ≡ last))
  here_or_later (inl e) = inr (r, here refl, sym e)
  here_or_later (inr (q, i, e)) = inr (q, there i, e)

  reached : {last : ℕ} → Latest rs r.end point last → (q : Span) → (q ≡ r) ⊎ In q rs → q.end ≤ point → q.end ≤ last
  reached k q (inl e) l = rw e k.after
  reached k q (inr i) l = k.latest q i l

  missed : point < r.end → (q : Span) → (q ≡ r) ⊎ In q rs → q.end ≤ point → q.end ≤ p
  missed g q (inl e) l = let z : q.end ≡ r.end = ap (λ (x : Span). x.end) e in absurd (omega arith)
  missed g q (inr i) l = let z : suc r.end < q.end = ends_after o q i in absurd (omega arith)

  latest_next : (b : Bool) → leb r.end point ≡ b → p ≤ point → (r.end ≤ point → Latest rs r.end point (latest_end_from r.end rs point))
      → Latest (r ∷ rs) p point (pick b (latest_end_from r.end rs point) p)
  latest_next true e l ih =
      let k = ih (leb-true r.end point e) in
      record {
        before = k.before;
        after = le_trans h k.after;
        is_end = here_or_later k.is_end;
        latest = λ q i g. reached k q (Memᴰ.cases_cons i) g;
      }
  latest_next false e l ih = record {
    before = l;
    after = le_refl _;
    is_end = inl refl;
    latest = λ q i g. missed (leb-false r.end point e) q (Memᴰ.cases_cons i) g;
  }

latest_from : (point : ℕ) {to from : ℕ} {rs : List Span} → Ordered to from rs → (p : ℕ) → p ≤ from → p ≤ point → Latest rs p point (latest_end_from p rs point)
unfolding latest_end_from
latest_from point none p h l = record { before = l; after = le_refl _; is_end = inl refl; latest = λ r i g. absurd (Memᴰ.not-nil i) }
latest_from point (next {r = r} a n e o) p h l =
    latest_next point o p (omega arith) (leb r.end point) refl l (λ g. latest_from point o r.end (omega arith) g)

pub latest_end_law : (ms : List ℕ) (point : ℕ) → Latest (long_rests ms) 0 point (latest_end ms point)
unfolding latest_end
latest_end_law ms point = latest_from point (rests_ordered ms) 0 zero-le zero-le

-- ---- "A day runs from P to the next long rest's start, or to S."
day_ends : (p s : ℕ) (rs : List Span) → map (λ (d : Span). d.end) (days_from p s rs) ≡ map (λ (r : Span). r.start) rs ++ s ∷ []
unfolding days_from
day_ends p s [] = refl
day_ends p s (r ∷ rs) = ap (λ (l : List ℕ). r.start ∷ l) (day_ends r.end s rs)

ends_on : {s : ℕ} (p : ℕ) {from : ℕ} {rs : List Span} → Ordered s from rs → from ≤ s → (d : Span) → In d (days_from p s rs) → from ≤ d.end
unfolding days_from
ends_on {s} p {from} none h d i = at (Memᴰ.cases_cons i)
  where
    at : (d ≡ record { start = p; end = s }) ⊎ In d [] → from ≤ d.end
    at (inl e) = rw e h
    at (inr j) = absurd (Memᴰ.not-nil j)
ends_on {s} p {from} (next {r = r} {rs = rs} l n e o) h d i = at (Memᴰ.cases_cons i) (λ j. ends_on r.end o e d j)
  where
    at : (d ≡ record { start = p; end = r.start }) ⊎ In d (days_from r.end s rs) → (In d (days_from r.end s rs) → suc r.end ≤ d.end) → from ≤ d.end
    at (inl q) ih = rw q l
    at (inr j) ih = omega (arith, ih j)

day_starts : {s : ℕ} (p : ℕ) {from : ℕ} {rs : List Span} → Ordered s from rs → (d : Span) → In d (days_from p s rs) → d.start ≡ latest_end_from p rs d.end
unfolding days_from latest_end_from
day_starts {s} p none d i = at (Memᴰ.cases_cons i)
  where
    at : (d ≡ record { start = p; end = s }) ⊎ In d [] → d.start ≡ p
    at (inl e) = ap (λ (x : Span). x.start) e
    at (inr j) = absurd (Memᴰ.not-nil j)
day_starts {s} p (next {r = r} {rs = rs} l n e o) d i = at (Memᴰ.cases_cons i) (λ j. day_starts r.end o d j)
  where
    at : (d ≡ record { start = p; end = r.start }) ⊎ In d (days_from r.end s rs)
        → (In d (days_from r.end s rs) → d.start ≡ latest_end_from r.end rs d.end)
        → d.start ≡ pick (leb r.end d.end) (latest_end_from r.end rs d.end) p
    at (inl q) ih = rw (q, lt-leb r.end r.start (omega arith)) refl
    at (inr j) ih = rw (le-leb r.end d.end (omega (arith, ends_on r.end o e d j))) (ih j)

-- each begins at P of its end, and they end where the long rests start, in turn, and at S
pub day_at-P : (ms : List ℕ) (d : Span) → In d (days ms) → d.start ≡ latest_end ms d.end
unfolding days latest_end
day_at-P ms d i = day_starts 0 (rests_ordered ms) d i

pub days-end : (ms : List ℕ) → map (λ (d : Span). d.end) (days ms) ≡ map (λ (r : Span). r.start) (long_rests ms) ++ judged_end ms ∷ []
unfolding days
days-end ms = day_ends 0 (judged_end ms) (long_rests ms)
