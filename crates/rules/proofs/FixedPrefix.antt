-- Rules 1 to 5 hold of each stretch of a recording of which they hold: xs is the stretch, xs ++ ys the whole.
-- Assumes nothing.
use mathlib.Core.Path.{◌≡◌, refl}
use mathlib.Core.Bool.{Bool, true, false, false≢true}
use mathlib.Core.List.{List, [], ◌∷◌, ◌++◌}
use Prim.Native.Nat.{ℕ, zero, suc, ◌+◌, ◌≤◌, zero-le}
use native.Mathlib.Nat.{le_refl, le_trans, add-le-add}
use native.Mathlib.Omega.{arith}
use lib.Dec.{leb}
use lib.ListN.{length-append}
use lib.Seq.{slice}
use borrow.Author.Tests.{leb-true, le-leb, ltb-true, lt-ltb}
use Rattle.recording.specs.Tests.{one, all_of, all_below, count_of}
use Rattle.recording.specs.Words.{driving_time}
use Rattle.recording.specs.Rests.{judged_end, long_rests}
use Rattle.recording.specs.Days.{days_from, days, driving_in}
use Rattle.recording.specs.Weeks.{week, weeks_of}
use Rattle.recording.specs.declared.Span.{Span}
use Rattle.recording.proofs.TestLaws.{and_left, and_right, and_both, below_at, at_below}
use Rattle.recording.proofs.Walks.{judged_mono}
use Rattle.recording.proofs.LongRests.{Ordered, none, next, rests_split, past_ordered}
use Rattle.rules.specs.declared.Accumulated.{Accumulated}
use Rattle.rules.specs.Fixed.{cleared, rested, drove, keeps_accumulated, rule1, day_at_most, extended_days, extended, rule2, week_at_most, rule3, fortnight_at_most, rule4, day_length}
use Rattle.rules.specs.Fixed.{rule5, fixed_test}
use Rattle.rules.proofs.RuleLaws.{fixed_rules, rules_fixed}

-- ---- days: each day of the stretch begins as one of the whole does, in turn, and ends no later
data Within : List Span → List Span → Type 0 where
  nil : {es : List Span} → Within [] es
  cons : {d e : Span} {ds es : List Span} → d.start ≡ e.start → d.end ≤ e.end → Within ds es → Within (d ∷ ds) (e ∷ es)

days_within : (p s' s : ℕ) (rs : List Span) {to : ℕ} {qs : List Span} → s' ≤ s → Ordered to s' qs → Within (days_from p s' rs) (days_from p s (rs ++ qs))
unfolding days_from
days_within p s' s [] h none = cons refl h nil
days_within p s' s [] h (next l n e o) = cons refl l nil
days_within p s' s (r ∷ rs) h o = cons refl (le_refl _) (days_within r.end s' s rs h o)

all_within : (f g : Span → Bool) → ((d e : Span) → d.start ≡ e.start → d.end ≤ e.end → g e ≡ true → f d ≡ true)
    → {ds es : List Span} → Within ds es → all_of g es ≡ true → all_of f ds ≡ true
unfolding all_of
all_within f g m nil t = refl
all_within f g m (cons {d = d} {e = e} p q w) t = and_both _ _ (m d e p q (and_left _ _ t)) (all_within f g m w (and_right _ _ t))

one_le : (a b : Bool) → (a ≡ true → b ≡ true) → one a ≤ one b
one_le true true h = le_refl _
one_le true false h = absurd (false≢true (h refl))
one_le false b h = zero-le

count_within : (f g : Span → Bool) → ((d e : Span) → d.start ≡ e.start → d.end ≤ e.end → f d ≡ true → g e ≡ true)
    → {ds es : List Span} → Within ds es → count_of f ds ≤ count_of g es
unfolding count_of
count_within f g m nil = zero-le
count_within f g m (cons {d = d} {e = e} p q w) = omega (arith, one_le _ _ (m d e p q), count_within f g m w)

-- ---- driving: a span that ends no later has no more of it
less_driving : (from to to' : ℕ) (xs ys : List ℕ) → to ≤ to' → driving_time (slice from to xs) ≤ driving_time (slice from to' (xs ++ ys))
unfolding driving_time
less_driving zero zero to' xs ys h = zero-le
less_driving (suc from) zero to' xs ys h = zero-le
less_driving from (suc to) zero xs ys h = absurd (omega arith)
less_driving zero (suc to) (suc to') [] ys h = zero-le
less_driving (suc from) (suc to) (suc to') [] ys h = zero-le
less_driving zero (suc to) (suc to') (x ∷ xs) ys h = omega (arith, less_driving zero to to' xs ys (omega arith))
less_driving (suc from) (suc to) (suc to') (x ∷ xs) ys h = less_driving from to to' xs ys (omega arith)

kept_prefix : (d : Accumulated) (n : ℕ) (xs ys : List ℕ) → keeps_accumulated d n (xs ++ ys) ≡ true → keeps_accumulated d n xs ≡ true
unfolding keeps_accumulated
kept_prefix d n [] ys t = refl
kept_prefix d n (zero ∷ xs) ys t = kept_prefix d (suc n) xs ys t
kept_prefix d n (suc a ∷ xs) ys t = and_both _ _ (and_left _ _ t) (kept_prefix (drove (suc a) (rested n d)) 0 xs ys (and_right _ _ t))

-- a limit that the whole keeps
keeps : (limit : ℕ) {a b : ℕ} → a ≤ b → leb b limit ≡ true → leb a limit ≡ true
keeps limit h t = le-leb _ _ (le_trans h (leb-true _ _ t))

module _ (xs ys : List ℕ) where
  prefix_days : Within (days xs) (days (xs ++ ys))
  unfolding days
  prefix_days = rw (rests_split xs ys) (days_within 0 (judged_end xs) (judged_end (xs ++ ys)) (long_rests xs) (judged_mono xs ys) (past_ordered xs ys))

  driving_in_law : (d e : Span) → d.start ≡ e.start → d.end ≤ e.end → driving_in xs d ≤ driving_in (xs ++ ys) e
  unfolding driving_in
  driving_in_law d e p q = rw p (less_driving e.start d.end e.end xs ys q)

  week_driving : (w : ℕ) → driving_in xs (week w) ≤ driving_in (xs ++ ys) (week w)
  week_driving w = driving_in_law (week w) (week w) refl (le_refl _)

  weeks_mono : weeks_of xs ≤ weeks_of (xs ++ ys)
  weeks_mono = rw length-append (omega arith)

  -- a test of each week
  each_week : (f g : ℕ → Bool) → ((w : ℕ) → g w ≡ true → f w ≡ true) → all_below (weeks_of (xs ++ ys)) g ≡ true → all_below (weeks_of xs) f ≡ true
  each_week f g m t = at_below _ f (λ w l. m w (below_at _ g t w (le_trans l weeks_mono)))

  extended_in : (w : ℕ) (d e : Span) → d.start ≡ e.start → d.end ≤ e.end → extended (driving_in xs) w d ≡ true → extended (driving_in (xs ++ ys)) w e ≡ true
  unfolding extended
  extended_in w d e p q u =
      let a = and_left _ _ u in
      let b = and_right _ _ u in
      and_both _ _ (rw p at a) (lt-ltb _ _ (le_trans (ltb-true _ _ b) (driving_in_law d e p q)))

  pub prefix2 : rule2 (driving_in (xs ++ ys)) (weeks_of (xs ++ ys)) (days (xs ++ ys)) ≡ true → rule2 (driving_in xs) (weeks_of xs) (days xs) ≡ true
  unfolding rule2
  prefix2 t =
      and_both _ _
      (all_within _ _ (λ d e p q u. keeps day_at_most (driving_in_law d e p q) u) prefix_days (and_left _ _ t))
      (each_week _ _ (λ w u. keeps extended_days (count_within _ _ (extended_in w) prefix_days) u) (and_right _ _ t))

  pub prefix3 : rule3 (driving_in (xs ++ ys)) (weeks_of (xs ++ ys)) ≡ true → rule3 (driving_in xs) (weeks_of xs) ≡ true
  unfolding rule3
  prefix3 t = each_week _ _ (λ w u. keeps week_at_most (week_driving w) u) t

  pub prefix4 : rule4 (driving_in (xs ++ ys)) (weeks_of (xs ++ ys)) ≡ true → rule4 (driving_in xs) (weeks_of xs) ≡ true
  unfolding rule4
  prefix4 t = each_week _ _ (λ w u. keeps fortnight_at_most (add-le-add (week_driving w) (week_driving (w + 1))) u) t

  pub prefix1 : rule1 (xs ++ ys) ≡ true → rule1 xs ≡ true
  unfolding rule1
  prefix1 t = kept_prefix cleared 0 xs ys t

  pub prefix5 : rule5 (days (xs ++ ys)) ≡ true → rule5 (days xs) ≡ true
  unfolding rule5
  prefix5 t = all_within _ _ (λ d e p q u. le-leb d.end (d.start + day_length) (omega (arith, leb-true e.end (e.start + day_length) u))) prefix_days t

  pub fixed_prefix : fixed_test (xs ++ ys) ≡ 0 → fixed_test xs ≡ 0
  fixed_prefix t =
      let a = fixed_rules (xs ++ ys) t in
      rules_fixed xs (record {
        two = prefix2 a.two;
        three = prefix3 a.three;
        four = prefix4 a.four;
        one = prefix1 a.one;
        five = prefix5 a.five;
      })
