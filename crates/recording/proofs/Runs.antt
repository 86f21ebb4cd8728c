-- Rests and the judged end in the document's plain words, which their walks hide.
-- Assumes nothing.
use mathlib.Core.Path.{◌≡◌, refl, sym, ap, ◌∙◌}
use mathlib.Core.Logic.{◌⊎◌, inl, inr}
use mathlib.Core.Bool.{Bool, true, false}
use mathlib.Core.List.Memᴰ
use mathlib.Core.List.Memᴰ.{head as here}
use mathlib.Core.List.{List, [], ◌∷◌, ◌++◌, append-nil, Memᴰ as In}
use Prim.Native.Nat.{ℕ, zero, suc, ◌+◌, ◌-◌, ◌≤◌, ◌<◌}
use native.Mathlib.Nat.{le_refl, eq-or-lt_of_le}
use native.Mathlib.Omega.{arith}
use lib.Dec.{ltb}
use lib.ListN.{length, get_or, take, drop, length-append, length-drop, take-append-drop, get_or-append}
use lib.Seq.{append_snoc, get_or-append_seam, get_or-take, get_or-drop, length-take-le}
use borrow.Author.Tests.{ltb-true, lt-ltb}
use Rattle.recording.specs.Tests.{pick}
use Rattle.recording.specs.Words.{rest}
use Rattle.recording.specs.Rests.{with_rest, end_from, judged_end, closed_from, closed_rests, open_rest, rests}
use Rattle.recording.specs.declared.Span.{Span}
use Rattle.recording.proofs.TestLaws.{less_or_not}
use Rattle.recording.proofs.Walks.{closed_rests_append}

-- "The judged end S is the open rest's start, or N if there is none": the minutes from s on are rest, and the one before s, if any, is not.
pub record Trailing (ms : List ℕ) (s : ℕ) : Type 0 where
  pub within : s ≤ length ms
  pub resting : (i : ℕ) → s ≤ i → i < length ms → get_or ms i 0 ≡ rest
  pub before : (i : ℕ) → suc i ≡ s → get_or ms i 0 ≡ rest → ⊥

-- "A rest is a longest unbroken run of rest minutes."
pub record Run (ms : List ℕ) (r : Span) : Type 0 where
  pub some : r.start < r.end
  pub within : r.end ≤ length ms
  pub resting : (i : ℕ) → r.start ≤ i → i < r.end → get_or ms i 0 ≡ rest
  pub before : (i : ℕ) → suc i ≡ r.start → get_or ms i 0 ≡ rest → ⊥
  pub after : r.end < length ms → get_or ms r.end 0 ≡ rest → ⊥

-- ---- one minute more
length_snoc : (xs : List ℕ) (a : ℕ) → length (xs ++ a ∷ []) ≡ suc (length xs)
length_snoc xs a = rw length-append (omega arith)

in_front : (xs ys : List ℕ) (i : ℕ) → i < length xs → get_or (xs ++ ys) i 0 ≡ get_or xs i 0
in_front xs ys i h = get_or-append xs ys 0 i h

module _ (xs : List ℕ) where
  rest_at : {s : ℕ} → Trailing xs s → (i : ℕ) → s ≤ i → (i ≡ length xs) ⊎ (i < length xs) → get_or (xs ++ 0 ∷ []) i 0 ≡ rest
  rest_at t i h (inl e) = rw e (get_or-append_seam xs 0 [] 0)
  rest_at t i h (inr l) = in_front xs _ i l ∙ t.resting i h l

  trailing_rest : {s : ℕ} → Trailing xs s → Trailing (xs ++ 0 ∷ []) s
  trailing_rest {s} t = record {
    within = rw length_snoc (omega (arith, t.within));
    resting = λ i h l. rest_at t i h (eq-or-lt_of_le (omega (arith, length_snoc xs 0)));
    before = λ i e z. t.before i e (sym (in_front xs _ i (omega (arith, t.within))) ∙ z);
  }

  trailing_busy : (a : ℕ) → Trailing (xs ++ suc a ∷ []) (suc (length xs))
  trailing_busy a = record {
    within = rw length_snoc (le_refl _);
    resting = λ i h l. absurd (omega (arith, length_snoc xs (suc a)));
    before = λ i e z.
        let p : i ≡ length xs = omega arith in
        let q : suc a ≡ 0 = sym (get_or-append_seam xs (suc a) [] 0) ∙ ap (λ (n : ℕ). get_or (xs ++ suc a ∷ []) n 0) (sym p) ∙ z in
        omega arith;
  }

pub trailing_on : (xs ms : List ℕ) {s : ℕ} → Trailing xs s → Trailing (xs ++ ms) (end_from s (length xs) ms)
unfolding end_from
trailing_on xs [] t = rw (append-nil xs) t
trailing_on xs (zero ∷ ms) t =
    rw (append_snoc xs 0 ms, length_snoc xs 0) at (trailing_on (xs ++ 0 ∷ []) ms (trailing_rest xs t))
trailing_on xs (suc a ∷ ms) t =
    rw (append_snoc xs (suc a) ms, length_snoc xs (suc a)) at (trailing_on (xs ++ suc a ∷ []) ms (trailing_busy xs a))

trailing_nil : Trailing [] 0
trailing_nil = record { within = le_refl _; resting = λ i h l. absurd (omega arith); before = λ i e z. omega arith }

-- S is such a place, and the only one
pub judged_trailing : (ms : List ℕ) → Trailing ms (judged_end ms)
unfolding judged_end
judged_trailing ms = trailing_on [] ms trailing_nil

not_later : {ms : List ℕ} {s t : ℕ} → Trailing ms s → Trailing ms t → s < t → ⊥
not_later {t = zero} a b h = omega arith
not_later {t = suc i} a b h = b.before i refl (a.resting i (omega arith) (omega (arith, b.within)))

pub trailing_judged : {ms : List ℕ} {s : ℕ} → Trailing ms s → judged_end ms ≡ s
trailing_judged {ms} {s} t = at (less_or_not (judged_end ms) s) (less_or_not s (judged_end ms))
  where
    at : (judged_end ms < s) ⊎ (s ≤ judged_end ms) → (s < judged_end ms) ⊎ (judged_end ms ≤ s) → judged_end ms ≡ s
    at (inl l) b = absurd (not_later (judged_trailing ms) t l)
    at (inr l) (inl g) = absurd (not_later t (judged_trailing ms) g)
    at (inr l) (inr g) = omega arith

-- ---- each rest of the walks is a longest run
run_closed : (xs : List ℕ) (a : ℕ) (ms : List ℕ) {s : ℕ} → Trailing xs s → s < length xs → Run (xs ++ suc a ∷ ms) (record { start = s; end = length xs })
run_closed xs a ms {s} t h = record {
  some = h;
  within = rw length-append (omega arith);
  resting = λ i l g. in_front xs _ i g ∙ t.resting i l g;
  before = λ i e z. t.before i e (sym (in_front xs _ i (omega arith)) ∙ z);
  after = λ l z. let q : suc a ≡ 0 = sym (get_or-append_seam xs (suc a) ms 0) ∙ z in omega arith;
}

pub record ClosedRun (ms : List ℕ) (r : Span) : Type 0 where
  pub run : Run ms r
  pub closed : r.end < length ms

in_with : (b : Bool) (from now : ℕ) (rs : List Span) (r : Span) → In r (pick b (record { start = from; end = now } ∷ rs) rs)
    → ((b ≡ true) × (r ≡ record { start = from; end = now })) ⊎ In r rs
in_with true from now rs r m = at (Memᴰ.cases_cons m)
  where
    at : (r ≡ record { start = from; end = now }) ⊎ In r rs → ((true ≡ true) × (r ≡ record { start = from; end = now })) ⊎ In r rs
    at (inl e) = inl (refl, e)
    at (inr i) = inr i
in_with false from now rs r m = inr m

closed_is_run : (xs ms : List ℕ) {s : ℕ} {r : Span} → Trailing xs s → In r (closed_from s (length xs) ms) → ClosedRun (xs ++ ms) r
unfolding closed_from
closed_is_run xs [] t m = absurd (Memᴰ.not-nil m)
closed_is_run xs (zero ∷ ms) {s} {r} t m =
    rw (append_snoc xs 0 ms) at (closed_is_run (xs ++ 0 ∷ []) ms {r = r} (trailing_rest xs t) (rw (length_snoc xs 0) m))
closed_is_run xs (suc a ∷ ms) {s} {r} t m =
    at (in_with (ltb s (length xs)) s (length xs) (closed_from (suc (length xs)) (suc (length xs)) ms) r m)
    (λ i. rw (append_snoc xs (suc a) ms) at (closed_is_run (xs ++ suc a ∷ []) ms {r = r} (trailing_busy xs a) (rw (length_snoc xs (suc a)) i)))
  where
    at : ((ltb s (length xs) ≡ true) × (r ≡ record { start = s; end = length xs })) ⊎ In r (closed_from (suc (length xs)) (suc (length xs)) ms)
        → (In r (closed_from (suc (length xs)) (suc (length xs)) ms) → ClosedRun (xs ++ suc a ∷ ms) r) → ClosedRun (xs ++ suc a ∷ ms) r
    at (inl (b, e)) later = rw e (record { run = run_closed xs a ms t (ltb-true _ _ b); closed = rw length-append (omega arith) })
    at (inr i) later = later i

pub closed_run : (ms : List ℕ) {r : Span} → In r (closed_rests ms) → ClosedRun ms r
unfolding closed_rests
closed_run ms m = closed_is_run [] ms trailing_nil m

-- ---- each longest run is a rest of the walks
first_closed : (from now : ℕ) (ms : List ℕ) (n : ℕ) → from < now + n → n < length ms → ((i : ℕ) → i < n → get_or ms i 0 ≡ rest)
    → (get_or ms n 0 ≡ rest → ⊥) → In (record { start = from; end = now + n }) (closed_from from now ms)
unfolding closed_from
first_closed from now [] n h l f g = absurd (omega arith)
first_closed from now (zero ∷ ms) zero h l f g = absurd (g refl)
first_closed from now (zero ∷ ms) (suc n) h l f g =
    let e : suc now + n ≡ now + suc n = omega arith in
    rw e at (first_closed from (suc now) ms n (omega arith) (omega arith) (λ i k. f (suc i) (omega arith)) g)
first_closed from now (suc a ∷ ms) zero h l f g =
    let e : now + 0 ≡ now = omega arith in
    rw (e, lt-ltb from now (omega arith)) (here refl)
first_closed from now (suc a ∷ ms) (suc n) h l f g = let z : suc a ≡ 0 = f 0 (omega arith) in absurd (omega arith)

module _ {ms : List ℕ} {r : Span} (u : Run ms r) where
  starts_within : r.start ≤ length ms
  starts_within = omega (arith, u.some, u.within)

  taken : length (take r.start ms) ≡ r.start
  taken = length-take-le r.start ms starts_within

  stretch_trails : Trailing (take r.start ms) r.start
  stretch_trails = record {
    within = omega (arith, taken);
    resting = λ i h l. absurd (omega (arith, taken));
    before = λ i e z. u.before i e (sym (get_or-take r.start ms i 0 (omega arith)) ∙ z);
  }

  split_there : closed_rests ms ≡ closed_rests (take r.start ms) ++ closed_from r.start r.start (drop r.start ms)
  split_there =
      ap closed_rests (sym (take-append-drop r.start ms))
      ∙ closed_rests_append (take r.start ms) (drop r.start ms)
      ∙ rw (trailing_judged stretch_trails, taken)

  pub run_closed_rest : r.end < length ms → In r (closed_rests ms)
  run_closed_rest h =
      let n : ℕ = r.end - r.start in
      let e : r.start + n ≡ r.end = omega (arith, u.some) in
      rw split_there
      (Memᴰ.append_right (closed_rests (take r.start ms))
      (rw e at (first_closed r.start r.start (drop r.start ms) n (omega (arith, u.some))
      (rw length-drop (omega (arith, u.some)))
      (λ i l. get_or-drop r.start ms i 0 ∙ u.resting (r.start + i) (omega arith) (omega arith))
      (λ z. u.after h (sym (get_or-drop r.start ms n 0 ∙ ap (λ (k : ℕ). get_or ms k 0) e) ∙ z)))))

  pub run_open_rest : r.end ≡ length ms → judged_end ms ≡ r.start
  run_open_rest e = trailing_judged (record {
    within = starts_within;
    resting = λ i h l. u.resting i h (omega arith);
    before = u.before;
  })

  -- a longest run is a rest
  pub run_is_rest : In r (rests ms)
  unfolding rests open_rest
  run_is_rest = at (eq-or-lt_of_le u.within)
    where
      at : (r.end ≡ length ms) ⊎ (r.end < length ms) → In r (closed_rests ms ++ with_rest (judged_end ms) (length ms) [])
      at (inl e) =
          Memᴰ.append_right (closed_rests ms)
          (rw (run_open_rest e, ← e, lt-ltb r.start r.end u.some) (here refl))
      at (inr l) = Memᴰ.append_left _ (run_closed_rest l)

open_run : (ms : List ℕ) {r : Span} → In r (open_rest ms) → Run ms r
unfolding open_rest
open_run ms {r} m = at (in_with (ltb (judged_end ms) (length ms)) (judged_end ms) (length ms) [] r m)
  where
    at : ((ltb (judged_end ms) (length ms) ≡ true) × (r ≡ record { start = judged_end ms; end = length ms })) ⊎ In r [] → Run ms r
    at (inl (b, e)) = rw e (record {
      some = ltb-true _ _ b;
      within = le_refl _;
      resting = (judged_trailing ms).resting;
      before = (judged_trailing ms).before;
      after = λ h z. omega arith;
    })
    at (inr i) = absurd (Memᴰ.not-nil i)

-- a rest is a longest run
pub rest_is_run : (ms : List ℕ) {r : Span} → In r (rests ms) → Run ms r
unfolding rests
rest_is_run ms {r} m = at (Memᴰ.append_cases (closed_rests ms) m)
  where
    at : In r (closed_rests ms) ⊎ In r (open_rest ms) → Run ms r
    at (inl i) = (closed_run ms i).run
    at (inr i) = open_run ms i
