-- A week of rest minutes only that ends by S lies inside a long rest, and the converse.
-- Assumes nothing.
use mathlib.Core.Path.{◌≡◌, refl, sym, ap, ◌∙◌}
use mathlib.Core.Logic.{◌⊎◌, inl, inr}
use mathlib.Core.Bool.{true}
use mathlib.Core.List.Memᴰ
use mathlib.Core.List.Memᴰ.{head as here}
use mathlib.Core.List.{List, [], ◌∷◌, ◌++◌, Memᴰ as In}
use Prim.Native.Nat.{ℕ, zero, suc, ◌+◌, ◌≤◌, ◌<◌, zero-le}
use native.Mathlib.Nat.{le_refl, le_trans}
use native.Mathlib.Omega.{arith}
use lib.ListN.{length, get_or, take, drop, take-append-drop}
use lib.Seq.{slice, get_or-take, length-take-le}
use borrow.Author.Tests.{leb-true, le-leb, lt-ltb, eqb-true, eq-eqb}
use Rattle.recording.specs.Tests.{all_of, any_of}
use Rattle.recording.specs.Words.{rest}
use Rattle.recording.specs.Rests.{end_from, judged_end, closed_from, closed_rests, long_rest_minutes, long_rests}
use Rattle.recording.specs.Weeks.{week_start, week, is_rest, rest_only, inside}
use Rattle.recording.proofs.TestLaws.{and_left, and_right, and_both, same_test, any_of_law, of_any, less_or_not}
use Rattle.recording.proofs.Walks.{judged_within, judged_append, closed_rests_append}
use Rattle.recording.proofs.Runs.{judged_trailing, closed_run}
use Rattle.recording.proofs.LongRests.{long_is, is_long_law}

-- ---- a test of the minutes of a span, minute by minute
resting_at : (from to : ℕ) (ms : List ℕ) → all_of is_rest (slice from to ms) ≡ true → (i : ℕ) → from ≤ i → i < to → i < length ms → get_or ms i 0 ≡ rest
unfolding all_of
resting_at from zero ms t i h l g = absurd (omega arith)
resting_at from (suc to) [] t i h l g = absurd (omega arith)
resting_at zero (suc to) (a ∷ ms) t zero h l g = eqb-true a rest (and_left _ _ t)
resting_at zero (suc to) (a ∷ ms) t (suc i) h l g = resting_at zero to ms (and_right _ _ t) i zero-le (omega arith) (omega arith)
resting_at (suc from) (suc to) (a ∷ ms) t zero h l g = absurd (omega arith)
resting_at (suc from) (suc to) (a ∷ ms) t (suc i) h l g = resting_at from to ms t i (omega arith) (omega arith) (omega arith)

all_resting : (from to : ℕ) (ms : List ℕ) → ((i : ℕ) → from ≤ i → i < to → i < length ms → get_or ms i 0 ≡ rest) → all_of is_rest (slice from to ms) ≡ true
unfolding all_of
all_resting zero zero ms f = refl
all_resting (suc from) zero ms f = refl
all_resting zero (suc to) [] f = refl
all_resting (suc from) (suc to) [] f = refl
all_resting zero (suc to) (a ∷ ms) f =
    and_both _ _ (eq-eqb a rest (f 0 zero-le (omega arith) (omega arith))) (all_resting zero to ms (λ i h l g. f (suc i) zero-le (omega arith) (omega arith)))
all_resting (suc from) (suc to) (a ∷ ms) f = all_resting from to ms (λ i h l g. f (suc i) (omega arith) (omega arith) (omega arith))

-- ---- a rest that is under way, and over before the judged end
ends_at : (from now : ℕ) (ms : List ℕ) → from < now → from < end_from from now ms
    → (e : ℕ) × (now ≤ e) × In (record { start = from; end = e }) (closed_from from now ms)
unfolding closed_from end_from
ends_at from now [] h l = absurd (omega arith)
ends_at from now (zero ∷ ms) h l =
    let k = ends_at from (suc now) ms (omega arith) l in
    (k.0, omega (arith, k.1), k.2)
ends_at from now (suc a ∷ ms) h l = (now, le_refl _, rw (lt-ltb from now h) (here refl))

module _ (ms : List ℕ) (from to : ℕ) (long : from + long_rest_minutes ≤ to) (by : to ≤ judged_end ms) where
  -- the stretch up to the span's end
  before : List ℕ
  before = take to ms

  to_within : to ≤ length ms
  to_within = le_trans by (judged_within ms)

  before_length : length (take to ms) ≡ to
  before_length = length-take-le to ms to_within

  under_way : all_of is_rest (slice from to ms) ≡ true → judged_end (take to ms) ≤ from
  under_way t = at (less_or_not from (judged_end (take to ms)))
    where
      starts : (s : ℕ) → judged_end (take to ms) ≡ s → from < s → ⊥
      starts zero e h = omega arith
      starts (suc i) e h =
          (judged_trailing (take to ms)).before i (sym e)
          (get_or-take to ms i 0 (omega (arith, judged_within (take to ms), before_length))
          ∙ resting_at from to ms t i (omega arith) (omega (arith, judged_within (take to ms), before_length))
          (omega (arith, judged_within (take to ms), before_length, to_within)))

      at : (from < judged_end (take to ms)) ⊎ (judged_end (take to ms) ≤ from) → judged_end (take to ms) ≤ from
      at (inl h) = absurd (starts _ refl h)
      at (inr h) = h

  judged_whole : judged_end ms ≡ end_from (judged_end (take to ms)) to (drop to ms)
  judged_whole =
      ap judged_end (sym (take-append-drop to ms)) ∙ judged_append (take to ms) (drop to ms)
      ∙ ap (λ (n : ℕ). end_from (judged_end (take to ms)) n (drop to ms)) before_length

  closed_whole : closed_rests ms ≡ closed_rests (take to ms) ++ closed_from (judged_end (take to ms)) to (drop to ms)
  closed_whole =
      ap closed_rests (sym (take-append-drop to ms)) ∙ closed_rests_append (take to ms) (drop to ms)
      ∙ ap (λ (n : ℕ). closed_rests (take to ms) ++ closed_from (judged_end (take to ms)) n (drop to ms)) before_length

  lies_inside : all_of is_rest (slice from to ms) ≡ true → any_of (inside (record { start = from; end = to })) (long_rests ms) ≡ true
  unfolding inside
  lies_inside t =
      let s = judged_end (take to ms) in
      let h : s ≤ from = under_way t in
      let k = ends_at s to (drop to ms) (omega arith) (omega (arith, judged_whole)) in
      let i : In (record { start = s; end = k.0 }) (closed_rests ms) = rw closed_whole (Memᴰ.append_right (closed_rests (take to ms)) k.2) in
      any_of_law (inside (record { start = from; end = to })) (is_long_law ms (record { rest = closed_run ms i; long = omega (arith, k.1) }))
      (and_both _ _ (le-leb s from h) (le-leb to k.0 k.1))

  all_rest : any_of (inside (record { start = from; end = to })) (long_rests ms) ≡ true → all_of is_rest (slice from to ms) ≡ true
  unfolding inside
  all_rest t =
      let w = of_any (inside (record { start = from; end = to })) (long_rests ms) t in
      let u = (long_is ms w.listed).rest.run in
      let a = leb-true w.item.start from (and_left _ _ w.passes) in
      let b = leb-true to w.item.end (and_right _ _ w.passes) in
      all_resting from to ms (λ i h l g. u.resting i (omega arith) (omega arith))

  -- minutes of rest only, as many as a long rest has, that end by S: just where a long rest holds them
  pub rest_inside : all_of is_rest (slice from to ms) ≡ any_of (inside (record { start = from; end = to })) (long_rests ms)
  rest_inside = same_test _ _ lies_inside all_rest

pub rest_week_law : (ms : List ℕ) (w : ℕ) → week_start (w + 1) ≤ judged_end ms → rest_only ms w ≡ any_of (inside (week w)) (long_rests ms)
unfolding rest_only
rest_week_law ms w h = rest_inside ms (week_start w) (week_start (w + 1)) (omega arith) h
