-- Rules 2 to 5 with one minute more: they hold just where they held before and the minute keeps them.
-- Assumes nothing.
use mathlib.Core.Path.{◌≡◌, refl, sym, ap, ap₂, ◌∙◌}
use mathlib.Core.Logic.{◌⊎◌, inl, inr}
use mathlib.Core.Bool.{Bool, true, false}
use mathlib.Core.List.Memᴰ
use mathlib.Core.List.Memᴰ.{head as here}
use mathlib.Core.List.Memᴰ.{tail as there}
use mathlib.Core.List.{List, [], ◌∷◌, ◌++◌, Memᴰ as In}
use Prim.Native.Nat.{ℕ, zero, suc, ◌+◌, ◌-◌, ◌≤◌, ◌<◌}
use native.Mathlib.Nat.{le_refl, le_trans, eq-or-lt_of_le}
use native.Mathlib.Omega.{arith}
use lib.Dec.{leb, ltb, eqb}
use lib.ListN.{length}
use borrow.Author.Tests.{leb-true, le-leb, eqb-true, eqb-false}
use Rattle.recording.specs.Tests.{◌and◌, one, count_of}
use Rattle.recording.specs.Rests.{judged_end, long_rest_minutes}
use Rattle.recording.specs.Days.{days, driving_in}
use Rattle.recording.specs.Weeks.{week_start, week, week_of, weeks_of}
use Rattle.recording.specs.declared.Span.{Span}
use Rattle.recording.proofs.TestLaws.{and_left, and_right, and_both, same_test, less_or_not, all_at, at_all, below_at, at_below, is_false}
use Rattle.recording.proofs.Walks.{judged_within}
use Rattle.rules.specs.Fixed.{day_at_most, ordinary_day, extended_days, extended, rule2, week_at_most, rule3, fortnight_at_most, rule4, day_length, ends_in_time, rule5}
use Rattle.rules.proofs.FixedPrefix.{prefix2, prefix3, prefix4, prefix5}
use Rattle.rules_limits.proofs.Driving.{up_to, up_to_within, up_to_past, driving_between, driving_snoc, length_more, driving_same}
use Rattle.rules_limits.proofs.DayEnds.{span, day_start, days_done, days_are, done_are, day_within, days_rest, long_before}
use Rattle.rules_limits.proofs.DayEnds.{short_before, days_busy}

-- ---- counting
count_append : (f : Span → Bool) (xs ys : List Span) → count_of f (xs ++ ys) ≡ count_of f xs + count_of f ys
unfolding count_of
count_append f [] ys = omega arith
count_append f (x ∷ xs) ys = omega (arith, count_append f xs ys)

pub count_one : (f : Span → Bool) (xs : List Span) (x : Span) → count_of f (xs ++ x ∷ []) ≡ count_of f xs + one (f x)
unfolding count_of
count_one f xs x = omega (arith, count_append f xs (x ∷ []))

count_same : (f g : Span → Bool) (xs : List Span) → ((x : Span) → In x xs → f x ≡ g x) → count_of f xs ≡ count_of g xs
unfolding count_of
count_same f g [] h = refl
count_same f g (x ∷ xs) h = ap₂ ◌+◌ (ap one (h x (here refl))) (count_same f g xs (λ y i. h y (there i)))

count_none : (f : Span → Bool) (xs : List Span) → ((x : Span) → In x xs → f x ≡ false) → count_of f xs ≡ 0
unfolding count_of
count_none f [] h = refl
count_none f (x ∷ xs) h = rw (h x (here refl)) (omega (arith, count_none f xs (λ y i. h y (there i))))

-- ---- what is so of every week, also past the last
module _ (xs : List ℕ) where
  unfoldable pub extended_in : ℕ → ℕ
  extended_in w = count_of (extended (driving_in xs) w) (days xs)

  day_in : (d : Span) → In d (days xs) → d.start ≤ day_start xs
  day_in d i = at (Memᴰ.append_cases (days_done xs) (rw (days_are xs) at i))
    where
      at : In d (days_done xs) ⊎ In d (span (day_start xs) (judged_end xs) ∷ []) → d.start ≤ day_start xs
      at (inl j) = (done_are xs d j).before
      at (inr j) = rw (Memᴰ.eq_of_singleton j) (le_refl _)

  start_within : day_start xs ≤ length xs
  start_within = le_trans (day_within xs) (judged_within xs)

  -- no day begins in a week past that of the day that runs
  pub none_extended : (w : ℕ) → week_of (day_start xs) < w → extended_in w ≡ 0
  unfolding extended_in extended
  none_extended w h =
      count_none (extended (driving_in xs) w) (days xs) (λ d i.
      let l = day_in d i in
      is_false _ (λ t. let e : week_of d.start ≡ w = eqb-true _ w (and_left _ _ t) in omega arith))

  extended_all : rule2 (driving_in xs) (weeks_of xs) (days xs) ≡ true → (w : ℕ) → extended_in w ≤ extended_days
  unfolding rule2 extended_in
  extended_all t w = at (less_or_not w (weeks_of xs))
    where
      at : (w < weeks_of xs) ⊎ (weeks_of xs ≤ w) → count_of (extended (driving_in xs) w) (days xs) ≤ extended_days
      at (inl h) = leb-true _ extended_days (below_at _ _ (and_right _ _ t) w h)
      at (inr h) = let s = start_within in omega (arith, none_extended w (omega arith))

  week_none : (w : ℕ) → length xs ≤ week_start w → driving_in xs (week w) ≡ 0
  week_none w h =
      omega (arith, driving_between xs (week w), up_to_past (week_start w) xs h, up_to_past (week_start (w + 1)) xs (omega arith))

  week_all : rule3 (driving_in xs) (weeks_of xs) ≡ true → (w : ℕ) → driving_in xs (week w) ≤ week_at_most
  unfolding rule3
  week_all t w = at (less_or_not w (weeks_of xs))
    where
      at : (w < weeks_of xs) ⊎ (weeks_of xs ≤ w) → driving_in xs (week w) ≤ week_at_most
      at (inl h) = leb-true _ week_at_most (below_at _ _ t w h)
      at (inr h) = omega (arith, week_none w (omega arith))

  pair_all : rule4 (driving_in xs) (weeks_of xs) ≡ true → (w : ℕ) → driving_in xs (week w) + driving_in xs (week (w + 1)) ≤ fortnight_at_most
  unfolding rule4
  pair_all t w = at (less_or_not w (weeks_of xs))
    where
      at : (w < weeks_of xs) ⊎ (weeks_of xs ≤ w) → driving_in xs (week w) + driving_in xs (week (w + 1)) ≤ fortnight_at_most
      at (inl h) = leb-true _ fortnight_at_most (below_at _ _ t w h)
      at (inr h) = omega (arith, week_none w (omega arith), week_none (w + 1) (omega arith))

  -- the driving of the week before
  abbrev pub week_before : ℕ → ℕ
  week_before zero = 0
  week_before (suc w) = driving_in xs (week w)

-- ---- a minute of rest
module _ (xs : List ℕ) where
  abbrev rested : List ℕ
  rested = xs ++ 0 ∷ []

  pub up_to_rest : (t : ℕ) → up_to (xs ++ 0 ∷ []) t ≡ up_to xs t
  up_to_rest t = at (less_or_not (length xs) t)
    where
      at : (length xs < t) ⊎ (t ≤ length xs) → up_to (xs ++ 0 ∷ []) t ≡ up_to xs t
      at (inl h) = up_to_past t (xs ++ 0 ∷ []) (omega (arith, length_more xs 0)) ∙ driving_snoc xs 0 ∙ omega (arith, up_to_past t xs (omega arith))
      at (inr h) = up_to_within t xs (0 ∷ []) h

  pub driving_rest : (d : Span) → driving_in (xs ++ 0 ∷ []) d ≡ driving_in xs d
  driving_rest d =
      driving_between (xs ++ 0 ∷ []) d ∙ ap₂ ◌-◌ (up_to_rest d.end) (up_to_rest d.start) ∙ sym (driving_between xs d)

  pub extended_rest : (w : ℕ) → extended_in (xs ++ 0 ∷ []) w ≡ extended_in xs w
  unfolding extended_in extended
  extended_rest w =
      ap (count_of (extended (driving_in (xs ++ 0 ∷ [])) w)) (days_rest xs)
      ∙ count_same _ _ (days xs) (λ d i. ap (λ (n : ℕ). eqb (week_of d.start) w and ltb ordinary_day n) (driving_rest d))

-- a rule that holds of every span of a list, or of every week
abbrev Below : List ℕ → ℕ → Span → Type 0
Below xs n d = driving_in xs d ≤ n

rule2_of : (xs : List ℕ) → ((d : Span) → In d (days xs) → driving_in xs d ≤ day_at_most) → ((w : ℕ) → extended_in xs w ≤ extended_days)
    → rule2 (driving_in xs) (weeks_of xs) (days xs) ≡ true
unfolding rule2 extended_in
rule2_of xs f g =
    and_both _ _ (at_all _ (days xs) (λ d i. le-leb _ day_at_most (f d i))) (at_below _ _ (λ w l. le-leb _ extended_days (g w)))

day_all : (xs : List ℕ) → rule2 (driving_in xs) (weeks_of xs) (days xs) ≡ true → (d : Span) → In d (days xs) → driving_in xs d ≤ day_at_most
unfolding rule2
day_all xs t d i = leb-true _ day_at_most (all_at (λ e. leb (driving_in xs e) day_at_most) i (and_left _ _ t))

rule3_of : (xs : List ℕ) → ((w : ℕ) → driving_in xs (week w) ≤ week_at_most) → rule3 (driving_in xs) (weeks_of xs) ≡ true
unfolding rule3
rule3_of xs f = at_below _ _ (λ w l. le-leb _ week_at_most (f w))

rule4_of : (xs : List ℕ) → ((w : ℕ) → driving_in xs (week w) + driving_in xs (week (w + 1)) ≤ fortnight_at_most) → rule4 (driving_in xs) (weeks_of xs) ≡ true
unfolding rule4
rule4_of xs f = at_below _ _ (λ w l. le-leb _ fortnight_at_most (f w))

rule5_of : (ds : List Span) → ((d : Span) → In d ds → d.end ≤ d.start + day_length) → rule5 ds ≡ true
unfolding rule5
rule5_of ds f = at_all _ ds (λ d i. le-leb d.end (d.start + day_length) (f d i))

ends_all : (ds : List Span) → rule5 ds ≡ true → (d : Span) → In d ds → d.end ≤ d.start + day_length
unfolding rule5
ends_all ds t d i = leb-true d.end (d.start + day_length) (all_at ends_in_time i t)

module _ (xs : List ℕ) where
  pub rule2_rest : rule2 (driving_in (xs ++ 0 ∷ [])) (weeks_of (xs ++ 0 ∷ [])) (days (xs ++ 0 ∷ [])) ≡ rule2 (driving_in xs) (weeks_of xs) (days xs)
  rule2_rest =
      same_test _ _ (prefix2 xs (0 ∷ [])) (λ t.
      rule2_of (xs ++ 0 ∷ []) (λ d i. rw (driving_rest xs d) (day_all xs t d (rw (days_rest xs) at i)))
      (λ w. rw (extended_rest xs w) (extended_all xs t w)))

  pub rule3_rest : rule3 (driving_in (xs ++ 0 ∷ [])) (weeks_of (xs ++ 0 ∷ [])) ≡ rule3 (driving_in xs) (weeks_of xs)
  rule3_rest = same_test _ _ (prefix3 xs (0 ∷ [])) (λ t. rule3_of (xs ++ 0 ∷ []) (λ w. rw (driving_rest xs (week w)) (week_all xs t w)))

  pub rule4_rest : rule4 (driving_in (xs ++ 0 ∷ [])) (weeks_of (xs ++ 0 ∷ [])) ≡ rule4 (driving_in xs) (weeks_of xs)
  rule4_rest =
      same_test _ _ (prefix4 xs (0 ∷ [])) (λ t.
      rule4_of (xs ++ 0 ∷ []) (λ w. rw (driving_rest xs (week w), driving_rest xs (week (w + 1))) (pair_all xs t w)))

  pub rule5_rest : rule5 (days (xs ++ 0 ∷ [])) ≡ rule5 (days xs)
  rule5_rest = ap rule5 (days_rest xs)

-- ---- another minute
module _ (xs : List ℕ) (a : ℕ) where
  abbrev more : List ℕ
  more = xs ++ suc a ∷ []

  day_span : (d : Span) → In d (days xs) → (d.end ≤ length xs) × (d.start ≤ length xs)
  day_span d i = at (Memᴰ.append_cases (days_done xs) (rw (days_are xs) at i))
    where
      at : In d (days_done xs) ⊎ In d (span (day_start xs) (judged_end xs) ∷ []) → (d.end ≤ length xs) × (d.start ≤ length xs)
      at (inl j) = let p = done_are xs d j in (omega (arith, p.ends, judged_within xs), omega (arith, p.ends, p.starts, judged_within xs))
      at (inr j) = rw (Memᴰ.eq_of_singleton j) (judged_within xs, start_within xs)

  -- what was over, or is now, was a day before
  done_in : (d : Span) → In d (days_done (xs ++ suc a ∷ [])) → In d (days xs)
  done_in d i = at (leb long_rest_minutes (length xs - judged_end xs)) refl
    where
      at : (b : Bool) → leb long_rest_minutes (length xs - judged_end xs) ≡ b → In d (days xs)
      at true t = rw (long_before xs a t).over at i
      at false t = rw (days_are xs) (Memᴰ.append_left _ (rw (short_before xs a t).over at i))

  count_over : (f : Span → Bool) → count_of f (days_done (xs ++ suc a ∷ [])) ≤ count_of f (days xs)
  count_over f = at (leb long_rest_minutes (length xs - judged_end xs)) refl
    where
      at : (b : Bool) → leb long_rest_minutes (length xs - judged_end xs) ≡ b → count_of f (days_done (xs ++ suc a ∷ [])) ≤ count_of f (days xs)
      at true t = rw (long_before xs a t).over (le_refl _)
      at false t = rw ((short_before xs a t).over, days_are xs) (omega (arith, count_append f (days_done xs) (span (day_start xs) (judged_end xs) ∷ [])))

  -- the day that runs
  abbrev pub running : Span
  running = span (day_start (xs ++ suc a ∷ [])) (suc (length xs))

  runs : In (span (day_start (xs ++ suc a ∷ [])) (suc (length xs))) (days (xs ++ suc a ∷ []))
  runs = rw (days_busy xs a) (Memᴰ.append_right (days_done (xs ++ suc a ∷ [])) (here refl))

  a_day : (d : Span) → In d (days (xs ++ suc a ∷ [])) → In d (days_done (xs ++ suc a ∷ [])) ⊎ (d ≡ span (day_start (xs ++ suc a ∷ [])) (suc (length xs)))
  a_day d i = at (Memᴰ.append_cases (days_done (xs ++ suc a ∷ [])) (rw (days_busy xs a) at i))
    where
      at : In d (days_done (xs ++ suc a ∷ [])) ⊎ In d (span (day_start (xs ++ suc a ∷ [])) (suc (length xs)) ∷ [])
          → In d (days_done (xs ++ suc a ∷ [])) ⊎ (d ≡ span (day_start (xs ++ suc a ∷ [])) (suc (length xs)))
      at (inl j) = inl j
      at (inr j) = inr (Memᴰ.eq_of_singleton j)

  done_driving : (d : Span) → In d (days xs) → driving_in (xs ++ suc a ∷ []) d ≡ driving_in xs d
  done_driving d i = let s = day_span d i in driving_same xs (suc a) d s.0 s.1

  done_extended : (w : ℕ) (d : Span) → In d (days xs) → extended (driving_in (xs ++ suc a ∷ [])) w d ≡ extended (driving_in xs) w d
  unfolding extended
  done_extended w d i = ap (λ (n : ℕ). eqb (week_of d.start) w and ltb ordinary_day n) (done_driving d i)

  over_extended : (w : ℕ) → count_of (extended (driving_in (xs ++ suc a ∷ [])) w) (days_done (xs ++ suc a ∷ [])) ≡ count_of (extended (driving_in xs) w) (days_done (xs ++ suc a ∷ []))
  over_extended w = count_same _ _ (days_done (xs ++ suc a ∷ [])) (λ d i. done_extended w d (done_in d i))

  pub extended_busy : (w : ℕ) → extended_in (xs ++ suc a ∷ []) w
      ≡ count_of (extended (driving_in xs) w) (days_done (xs ++ suc a ∷ [])) + one (extended (driving_in (xs ++ suc a ∷ [])) w running)
  unfolding extended_in
  extended_busy w =
      ap (count_of (extended (driving_in (xs ++ suc a ∷ [])) w)) (days_busy xs a)
      ∙ count_one (extended (driving_in (xs ++ suc a ∷ [])) w) (days_done (xs ++ suc a ∷ [])) running
      ∙ ap (λ (n : ℕ). n + one (extended (driving_in (xs ++ suc a ∷ [])) w running)) (over_extended w)

  other_week : (w : ℕ) → (week_of (day_start (xs ++ suc a ∷ [])) ≡ w → ⊥) → extended_in (xs ++ suc a ∷ []) w ≤ extended_in xs w
  unfolding extended extended_in
  other_week w h =
      let z : one (extended (driving_in (xs ++ suc a ∷ [])) w running) ≡ 0 = rw (is_false (extended (driving_in (xs ++ suc a ∷ [])) w running) (λ t. h (eqb-true _ w (and_left _ _ t)))) refl in
      omega (arith, extended_busy w, count_over (extended (driving_in xs) w))

  pub rule2_busy : rule2 (driving_in (xs ++ suc a ∷ [])) (weeks_of (xs ++ suc a ∷ [])) (days (xs ++ suc a ∷ []))
      ≡ rule2 (driving_in xs) (weeks_of xs) (days xs) and (leb (driving_in (xs ++ suc a ∷ []) running) day_at_most and leb (extended_in (xs ++ suc a ∷ []) (week_of (day_start
      (xs ++ suc a ∷ [])))) extended_days)
  rule2_busy = same_test _ _ there back
    where
      there : rule2 (driving_in (xs ++ suc a ∷ [])) (weeks_of (xs ++ suc a ∷ [])) (days (xs ++ suc a ∷ [])) ≡ true
          → rule2 (driving_in xs) (weeks_of xs) (days xs) and (leb (driving_in (xs ++ suc a ∷ []) running) day_at_most and leb (extended_in (xs ++ suc a ∷ []) (week_of (day_start
          (xs ++ suc a ∷ [])))) extended_days) ≡ true
      there t =
          and_both _ _ (prefix2 xs (suc a ∷ []) t)
          (and_both _ _ (le-leb _ day_at_most (day_all (xs ++ suc a ∷ []) t running runs))
          (le-leb _ extended_days (extended_all (xs ++ suc a ∷ []) t (week_of (day_start (xs ++ suc a ∷ []))))))

      each : (d : Span) → In d (days_done (xs ++ suc a ∷ [])) ⊎ (d ≡ running) → rule2 (driving_in xs) (weeks_of xs) (days xs) ≡ true
          → leb (driving_in (xs ++ suc a ∷ []) running) day_at_most ≡ true → driving_in (xs ++ suc a ∷ []) d ≤ day_at_most
      each d (inl j) t u = rw (done_driving d (done_in d j)) (day_all xs t d (done_in d j))
      each d (inr e) t u = rw e (leb-true _ day_at_most u)

      week_of_law : (w : ℕ) (b : Bool) → eqb (week_of (day_start (xs ++ suc a ∷ []))) w ≡ b → rule2 (driving_in xs) (weeks_of xs) (days xs) ≡ true
          → leb (extended_in (xs ++ suc a ∷ []) (week_of (day_start (xs ++ suc a ∷ [])))) extended_days ≡ true → extended_in (xs ++ suc a ∷ []) w ≤ extended_days
      week_of_law w true e t v = let q : week_of (day_start (xs ++ suc a ∷ [])) ≡ w = eqb-true _ w e in rw q at (leb-true (extended_in (xs ++ suc a ∷ []) (week_of (day_start
          (xs ++ suc a ∷ [])))) extended_days v)
      week_of_law w false e t v = le_trans (other_week w (λ q. eqb-false _ w e q)) (extended_all xs t w)

      back : rule2 (driving_in xs) (weeks_of xs) (days xs) and (leb (driving_in (xs ++ suc a ∷ []) running) day_at_most and leb (extended_in (xs ++ suc a ∷ []) (week_of (day_start
          (xs ++ suc a ∷ [])))) extended_days) ≡ true
          → rule2 (driving_in (xs ++ suc a ∷ [])) (weeks_of (xs ++ suc a ∷ [])) (days (xs ++ suc a ∷ [])) ≡ true
      back t =
          let t1 = and_left _ _ t in
          let t2 = and_right _ _ t in
          let u = and_left _ _ t2 in
          let v = and_right _ _ t2 in
          rule2_of (xs ++ suc a ∷ []) (λ d i. each d (a_day d i) t1 u) (λ w. week_of_law w _ refl t1 v)

  pub rule5_busy : rule5 (days (xs ++ suc a ∷ [])) ≡ rule5 (days xs) and leb (suc (length xs)) (day_start (xs ++ suc a ∷ []) + day_length)
  rule5_busy =
      same_test _ _
      (λ t. and_both _ _ (prefix5 xs (suc a ∷ []) t) (le-leb _ _ (ends_all _ t running runs)))
      (λ t. rule5_of _ (λ d i. each d (a_day d i) (and_left _ _ t) (and_right _ _ t)))
    where
      each : (d : Span) → In d (days_done (xs ++ suc a ∷ [])) ⊎ (d ≡ running) → rule5 (days xs) ≡ true
          → leb (suc (length xs)) (day_start (xs ++ suc a ∷ []) + day_length) ≡ true → d.end ≤ d.start + day_length
      each d (inl j) t u = ends_all (days xs) t d (done_in d j)
      each d (inr e) t u = rw e (leb-true _ _ u)

  -- ---- weeks: W is the week of the minute
  module _ (W : ℕ) (is : week_of (length xs) ≡ W) where
    earlier_week : (w : ℕ) → w < W → driving_in (xs ++ suc a ∷ []) (week w) ≡ driving_in xs (week w)
    earlier_week w h = driving_same xs (suc a) (week w) (omega arith) (omega arith)

    later_week : (w : ℕ) → W < w → driving_in (xs ++ suc a ∷ []) (week w) ≡ 0
    later_week w h = week_none (xs ++ suc a ∷ []) w (omega (arith, length_more xs (suc a)))

    three_way : (w : ℕ) → (w < W) ⊎ ((w ≡ W) ⊎ (W < w))
    three_way w = at (less_or_not w W)
      where
        at : (w < W) ⊎ (W ≤ w) → (w < W) ⊎ ((w ≡ W) ⊎ (W < w))
        at (inl h) = inl h
        at (inr h) = inr (flip (eq-or-lt_of_le h))
          where
            flip : (W ≡ w) ⊎ (W < w) → (w ≡ W) ⊎ (W < w)
            flip (inl e) = inl (sym e)
            flip (inr l) = inr l

    pub rule3_busy : rule3 (driving_in (xs ++ suc a ∷ [])) (weeks_of (xs ++ suc a ∷ [])) ≡ rule3 (driving_in xs) (weeks_of xs) and leb (driving_in (xs ++ suc a ∷ []) (week W)) week_at_most
    rule3_busy =
        same_test _ _
        (λ t. and_both _ _ (prefix3 xs (suc a ∷ []) t) (le-leb _ week_at_most (week_all (xs ++ suc a ∷ []) t W)))
        (λ t. rule3_of (xs ++ suc a ∷ []) (λ w. each w (three_way w) (and_left _ _ t) (and_right _ _ t)))
      where
        each : (w : ℕ) → (w < W) ⊎ ((w ≡ W) ⊎ (W < w)) → rule3 (driving_in xs) (weeks_of xs) ≡ true → leb (driving_in (xs ++ suc a ∷ []) (week W)) week_at_most ≡ true
            → driving_in (xs ++ suc a ∷ []) (week w) ≤ week_at_most
        each w (inl h) t u = rw (earlier_week w h) (week_all xs t w)
        each w (inr (inl e)) t u = rw e (leb-true _ week_at_most u)
        each w (inr (inr h)) t u = omega (arith, later_week w h)

    last_pair : (U : ℕ) → U ≡ W → rule4 (driving_in (xs ++ suc a ∷ [])) (weeks_of (xs ++ suc a ∷ [])) ≡ true
        → week_before xs U + driving_in (xs ++ suc a ∷ []) (week U) ≤ fortnight_at_most
    last_pair zero e t = omega (arith, pair_all (xs ++ suc a ∷ []) t 0)
    last_pair (suc v) e t =
        let q : v + 1 ≡ suc v = omega arith in
        omega (arith, earlier_week v (omega arith), pair_all (xs ++ suc a ∷ []) t v, ap (λ (n : ℕ). driving_in (xs ++ suc a ∷ []) (week n)) q)

    pub rule4_busy : rule4 (driving_in (xs ++ suc a ∷ [])) (weeks_of (xs ++ suc a ∷ []))
        ≡ rule4 (driving_in xs) (weeks_of xs) and leb (week_before xs W + driving_in (xs ++ suc a ∷ []) (week W)) fortnight_at_most
    rule4_busy =
        same_test _ _
        (λ t. and_both _ _ (prefix4 xs (suc a ∷ []) t) (le-leb _ fortnight_at_most (last_pair W refl t)))
        (λ t. rule4_of (xs ++ suc a ∷ []) (λ w. each w (three_way w) (and_left _ _ t) (leb-true _ fortnight_at_most (and_right _ _ t))))
      where
        before : (w U : ℕ) → w + 1 ≡ U → week_before xs U ≡ driving_in xs (week w)
        before w zero e = absurd (omega arith)
        before w (suc v) e = let q : v ≡ w = omega arith in ap (λ (n : ℕ). driving_in xs (week n)) q

        next : (w : ℕ) → w < W → (w + 1 ≡ W) ⊎ (w + 1 < W) → rule4 (driving_in xs) (weeks_of xs) ≡ true
            → week_before xs W + driving_in (xs ++ suc a ∷ []) (week W) ≤ fortnight_at_most
            → driving_in (xs ++ suc a ∷ []) (week w) + driving_in (xs ++ suc a ∷ []) (week (w + 1)) ≤ fortnight_at_most
        next w h (inl e) t u = omega (arith, earlier_week w h, before w W e, ap (λ (n : ℕ). driving_in (xs ++ suc a ∷ []) (week n)) e)
        next w h (inr l) t u = rw (earlier_week w h, earlier_week (w + 1) l) (pair_all xs t w)

        each : (w : ℕ) → (w < W) ⊎ ((w ≡ W) ⊎ (W < w)) → rule4 (driving_in xs) (weeks_of xs) ≡ true
            → week_before xs W + driving_in (xs ++ suc a ∷ []) (week W) ≤ fortnight_at_most
            → driving_in (xs ++ suc a ∷ []) (week w) + driving_in (xs ++ suc a ∷ []) (week (w + 1)) ≤ fortnight_at_most
        each w (inl h) t u = next w h (eq-or-lt_of_le (omega arith)) t u
        each w (inr (inl e)) t u =
            omega (arith, later_week (w + 1) (omega arith), ap (λ (n : ℕ). driving_in (xs ++ suc a ∷ []) (week n)) e)
        each w (inr (inr h)) t u = omega (arith, later_week w h, later_week (w + 1) (omega arith))
