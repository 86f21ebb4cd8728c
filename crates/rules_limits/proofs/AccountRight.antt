-- The account is right: after any minutes it holds what the rules go by in them, and which of the fixed rules they break.
-- Assumes nothing.
use mathlib.Core.Path.{◌≡◌, refl, sym, ap, ap₂, subst, ◌∙◌}
use mathlib.Core.Bool.{Bool, true, false, not}
use mathlib.Core.List.{List, [], ◌∷◌, ◌++◌, append-nil}
use Prim.Native.Nat.{ℕ, zero, suc, ◌+◌, ◌-◌, ◌≤◌, ◌<◌}
use native.Mathlib.Nat.{le_refl, le_trans}
use native.Mathlib.Omega.{arith}
use lib.Dec.{leb, ltb, eqb, eqb-suc-zero}
use lib.ListN.{length, take, drop, take-append-drop}
use lib.Seq.{append_snoc, take-append-le, take-append_seam, take_all, take-take}
use borrow.Author.Tests.{leb-true, leb-false, ltb-true, ltb-false, lt-ltb, le-ltb, eqb-true, eqb-false, eq-eqb}
use Rattle.std.specs.Prelude.{Option, None, Some}
use Rattle.recording.specs.Tests.{◌and◌, ◌or◌, pick, one, count_of}
use Rattle.recording.specs.Words.{is_driving, driving_time}
use Rattle.recording.specs.Rests.{judged_end, long_rest_minutes}
use Rattle.recording.specs.Days.{driving_in}
use Rattle.recording.specs.Weeks.{week_minutes, week_start, week, week_of}
use Rattle.recording.specs.declared.Span.{Span}
use Rattle.recording.proofs.TestLaws.{not-and, one_most}
use Rattle.recording.proofs.Walks.{judged_within}
use Rattle.rules.specs.Fixed.{ordinary_day, extended, rested, drove, unbroken as nothing, breaches_by, breaches, smallest_rule, fixed_test, either_broken}
use Rattle.rules.specs.Numbers.{number_of_rule, rule_or_none}
use Rattle.rules.specs.declared.Rule.{Rule}
use Rattle.rules.specs.Opened.{opened as rules_opened}
use Rattle.rules.specs.declared.Accumulated.{Accumulated}
use Rattle.rules.specs.declared.Breaches.{Breaches}
use Rattle.rules.proofs.ArticleOrder.{rule_none, rule_most}
use Rattle.rules.proofs.FixedPrefix.{fixed_prefix}
use Rattle.rules_limits.specs.declared.Day.{Day}
use Rattle.rules_limits.specs.declared.Week.{Week}
use Rattle.rules_limits.specs.declared.Break.{Break}
use Rattle.rules_limits.specs.declared.Account.{Account}
use Rattle.rules_limits.specs.Account.{day_after, day_with, week_with, week_next, broken_at, rule_numbered, break_of, first_break}
use Rattle.rules_limits.specs.Account.{rest_minute, busy_minute, minute_after, account_from, opening}
use Rattle.rules_limits.proofs.Driving.{up_to, up_to_within, up_to_past, up_to_judged, driving_between, driving_snoc, length_more, driving_same}
use Rattle.rules_limits.proofs.Accumulated.{accumulated_from, accumulated_by, rule1_rest, accumulated_after_rest, rule1_busy, accumulated_after_busy}
use Rattle.rules_limits.proofs.DayEnds.{span, last_end, day_start, days_done, days_are, day_within, judged_rest, rests_rest, judged_busy, long_before, short_before}
use Rattle.rules_limits.proofs.Rules.{extended_in, none_extended, week_before, count_one, up_to_rest, extended_rest, rule2_rest, rule3_rest, rule4_rest, rule5_rest, running}
use Rattle.rules_limits.proofs.Rules.{extended_busy, rule2_busy, rule5_busy, rule3_busy, rule4_busy}

-- ---- a rule is broken with one minute more where it was before or that minute breaks it
over : (n limit : ℕ) → not (leb n limit) ≡ ltb limit n
over n limit = at (leb n limit) refl
  where
    at : (b : Bool) → leb n limit ≡ b → not b ≡ ltb limit n
    at true e = sym (le-ltb limit n (leb-true n limit e))
    at false e = sym (lt-ltb limit n (leb-false n limit e))

-- where none was, just those that the minute breaks
none_or : (b : Breaches) → either_broken nothing b ≡ b
unfolding either_broken ◌or◌
none_or b = refl

-- ---- the first breach: none, or after m minutes without
pub data First (xs : List ℕ) : Option Break → Type 0 where
  unbroken : fixed_test xs ≡ 0 → First xs None
  broken : {f : Break} (m : ℕ) → f.at ≡ suc m → suc m ≤ length xs → fixed_test (take m xs) ≡ 0 → fixed_test (take (suc m) xs) ≡ number_of_rule f.rule → First xs (Some f)

-- the fixed rule of a number has that number
no_rule : (n : ℕ) → rule_numbered n ≡ None → n ≡ 0
no_rule zero e = refl
no_rule (suc zero) e = cc
no_rule (suc (suc zero)) e = cc
no_rule (suc (suc (suc zero))) e = cc
no_rule (suc (suc (suc (suc zero)))) e = cc
no_rule (suc (suc (suc (suc (suc n))))) e = cc

its_number : (n : ℕ) {r : Rule} → n ≤ 5 → rule_numbered n ≡ Some r → n ≡ number_of_rule r
its_number zero h e = cc
its_number (suc zero) h e = ap rule_or_none e
its_number (suc (suc zero)) h e = ap rule_or_none e
its_number (suc (suc (suc zero))) h e = ap rule_or_none e
its_number (suc (suc (suc (suc zero)))) h e = ap rule_or_none e
its_number (suc (suc (suc (suc (suc zero))))) h e = ap rule_or_none e
its_number (suc (suc (suc (suc (suc (suc n)))))) h e = absurd (omega arith)

pub record Right (xs : List ℕ) (s : Account) : Type 0 where
  pub now : s.now ≡ length xs
  pub from : s.from ≡ judged_end xs
  pub start : s.day.start ≡ day_start xs
  pub today : s.day.driving + up_to xs (day_start xs) ≡ driving_time xs
  pub extended : s.day.extended ≡ extended_in xs (week_of (day_start xs))
  pub end : s.week.end ≡ week_start (week_of (length xs) + 1)
  pub weekly : s.week.driving + up_to xs (week_start (week_of (length xs))) ≡ driving_time xs
  pub last : s.week.last ≡ week_before xs (week_of (length xs))
  pub accumulated : s.accumulated ≡ accumulated_by xs
  pub broken : s.broken ≡ breaches xs
  pub first : First xs s.first

-- ---- the week: W is the week of the minute that is added, ys what there is with it
record InWeek (ys : List ℕ) (W : ℕ) (w : Week) : Type 0 where
  pub end : w.end ≡ week_start (W + 1)
  pub weekly : w.driving + up_to ys (week_start W) ≡ driving_time ys
  pub last : w.last ≡ week_before ys W

module _ (ys : List ℕ) (N : ℕ) (more : length ys ≡ suc N) where
  next_week_law : (w : Week) → InWeek ys (week_of N) w → (now : ℕ) → now ≡ suc N → InWeek ys (week_of (length ys)) (week_next now w)
  unfolding week_next
  next_week_law w k now e = at (eqb now w.end) refl
    where
      same : week_of N ≡ week_of (length ys) → InWeek ys (week_of (length ys)) w
      same q = rw (← q) k

      at : (b : Bool) → eqb now w.end ≡ b → InWeek ys (week_of (length ys)) (pick b (record { end = w.end + week_minutes; driving = 0; last = w.driving }) w)
      at true t =
          let z : now ≡ w.end = eqb-true now w.end t in
          let q : week_of (length ys) ≡ suc (week_of N) = omega (arith, k.end) in
          rw q (record {
            end = omega (arith, k.end);
            weekly = omega (arith, up_to_past (week_start (suc (week_of N))) ys (omega (arith, k.end)));
            last = omega (arith, driving_between ys (week (week_of N)), up_to_past (week_start (week_of N + 1)) ys (omega (arith, k.end)), k.weekly);
          })
      at false t = same (omega (arith, k.end, eqb-false now w.end t))

before_same : (xs : List ℕ) (a W : ℕ) → week_of (length xs) ≡ W → week_before (xs ++ a ∷ []) W ≡ week_before xs W
before_same xs a zero e = refl
before_same xs a (suc v) e = driving_same xs a (week v) (omega arith) (omega arith)

-- ---- the first breach, with one minute more
module _ (xs : List ℕ) (a : ℕ) where
  shorter : (m : ℕ) → m ≤ length xs → take m (xs ++ a ∷ []) ≡ take m xs
  shorter m h = take-append-le m xs (a ∷ []) h

  first_kept : (f : Break) (m : ℕ) → f.at ≡ suc m → suc m ≤ length xs → fixed_test (take m xs) ≡ 0 → fixed_test (take (suc m) xs) ≡ number_of_rule f.rule
      → First (xs ++ a ∷ []) (Some f)
  first_kept f m e h p q =
      broken m e (omega (arith, length_more xs a)) (ap fixed_test (shorter m (omega arith)) ∙ p) (ap fixed_test (shorter (suc m) h) ∙ q)

  first_more : (f : Option Break) (now : ℕ) (b : Breaches) → now ≡ suc (length xs) → First xs f → breaches (xs ++ a ∷ []) ≡ either_broken (breaches xs) b
      → First (xs ++ a ∷ []) (first_break f now (smallest_rule b))
  unfolding fixed_test
  first_more None now c n (unbroken k) t = at (rule_numbered b) refl
    where
      b : ℕ
      b = smallest_rule c

      so : fixed_test (xs ++ a ∷ []) ≡ b
      so = ap smallest_rule (t ∙ ap (λ (x : Breaches). either_broken x c) (rule_none (breaches xs) k) ∙ none_or c)

      at : (r : Option Rule) → rule_numbered b ≡ r → First (xs ++ a ∷ []) (break_of now r)
      at None e = unbroken (so ∙ no_rule b e)
      at (Some r) e =
          broken (length xs) n (omega (arith, length_more xs a)) (ap fixed_test (take-append_seam xs (a ∷ [])) ∙ k)
          (ap fixed_test (take_all (suc (length xs)) (xs ++ a ∷ []) (omega (arith, length_more xs a))) ∙ so ∙ its_number b (rule_most c) e)
  first_more (Some f) now c n (broken m e h p q) t = first_kept f m e h p q

  first_rest : (f : Option Break) → fixed_test (xs ++ a ∷ []) ≡ fixed_test xs → First xs f → First (xs ++ a ∷ []) f
  first_rest None t (unbroken k) = unbroken (t ∙ k)
  first_rest (Some f) t (broken m e h p q) = first_kept f m e h p q

-- ---- a minute of rest
module _ (xs : List ℕ) (s : Account) (k : Right xs s) where
  broken_rest : breaches (xs ++ 0 ∷ []) ≡ breaches xs
  unfolding breaches breaches_by
  broken_rest = rw (rule2_rest xs, rule3_rest xs, rule4_rest xs, rule1_rest xs, rule5_rest xs)

  test_rest : fixed_test (xs ++ 0 ∷ []) ≡ fixed_test xs
  unfolding fixed_test
  test_rest = ap smallest_rule broken_rest

  start_rest : day_start (xs ++ 0 ∷ []) ≡ day_start xs
  start_rest = ap (last_end 0) (rests_rest xs)

  week_rest : InWeek (xs ++ 0 ∷ []) (week_of (length (xs ++ 0 ∷ []))) (week_next (s.now + 1) s.week)
  week_rest =
      next_week_law (xs ++ 0 ∷ []) (length xs) (length_more xs 0) s.week
      (record {
        end = k.end;
        weekly = omega (arith, k.weekly, up_to_rest xs (week_start (week_of (length xs))), driving_snoc xs 0);
        last = k.last ∙ sym (before_same xs 0 (week_of (length xs)) refl);
      })
      (s.now + 1) (omega (arith, k.now))

  right_rest : Right (xs ++ 0 ∷ []) (rest_minute s)
  unfolding rest_minute
  right_rest = record {
    now = omega (arith, k.now, length_more xs 0);
    from = k.from ∙ sym (judged_rest xs);
    start = k.start ∙ sym start_rest;
    today = rw start_rest (omega (arith, k.today, up_to_rest xs (day_start xs), driving_snoc xs 0));
    extended = rw start_rest (k.extended ∙ sym (extended_rest xs (week_of (day_start xs))));
    end = week_rest.end;
    weekly = week_rest.weekly;
    last = week_rest.last;
    accumulated = k.accumulated ∙ sym (accumulated_after_rest xs);
    broken = k.broken ∙ sym broken_rest;
    first = first_rest xs 0 s.first test_rest k.first;
  }

-- ---- another minute: the day
pub record DayRight (ys : List ℕ) (y : Day) : Type 0 where
  pub start : y.start ≡ day_start ys
  pub today : y.driving + up_to ys (day_start ys) ≡ driving_time ys
  pub extended : y.extended ≡ extended_in ys (week_of (day_start ys))

-- a day passes 540 at the minute that finds it there
pub passes : (b : Bool) (t : ℕ) → one (ltb ordinary_day t) + one (b and eqb t ordinary_day) ≡ one (ltb ordinary_day (one b + t))
unfolding ◌and◌
passes false t = let e : t ≡ 0 + t = omega arith in omega (arith, ap (λ (n : ℕ). one (ltb ordinary_day n)) e)
passes true t = at (ltb ordinary_day t) (eqb t ordinary_day) refl refl
  where
    at : (x y : Bool) → ltb ordinary_day t ≡ x → eqb t ordinary_day ≡ y → one x + one y ≡ one (ltb ordinary_day (1 + t))
    at true true p q = absurd (omega (arith, ltb-true ordinary_day t p, eqb-true t ordinary_day q))
    at true false p q = rw (lt-ltb ordinary_day (1 + t) (omega (arith, ltb-true ordinary_day t p))) refl
    at false true p q = rw (lt-ltb ordinary_day (1 + t) (omega (arith, eqb-true t ordinary_day q))) refl
    at false false p q = rw (le-ltb ordinary_day (1 + t) (omega (arith, ltb-false ordinary_day t p, eqb-false t ordinary_day q))) refl

no_more : (b : Bool) → one (b and false) ≡ 0
unfolding ◌and◌
no_more true = refl
no_more false = refl

module _ (xs : List ℕ) (s : Account) (k : Right xs s) (a : ℕ) where
  -- the driving of the day that runs
  running_is : (n : ℕ) → n + up_to (xs ++ suc a ∷ []) (day_start (xs ++ suc a ∷ [])) ≡ driving_time (xs ++ suc a ∷ []) → n ≡ driving_in (xs ++ suc a ∷ []) (running xs a)
  running_is n e =
      omega (arith, driving_between (xs ++ suc a ∷ []) (running xs a), up_to_past (suc (length xs)) (xs ++ suc a ∷ []) (omega (arith, length_more xs (suc a))))

  -- the extended days, by the driving of the day that runs
  in_its_week : (n : ℕ) → n + up_to (xs ++ suc a ∷ []) (day_start (xs ++ suc a ∷ [])) ≡ driving_time (xs ++ suc a ∷ [])
      → extended (driving_in (xs ++ suc a ∷ [])) (week_of (day_start (xs ++ suc a ∷ []))) (running xs a) ≡ ltb ordinary_day n
  unfolding extended ◌and◌
  in_its_week n e = rw (eq-eqb (week_of (day_start (xs ++ suc a ∷ []))) _ refl, ← running_is n e) refl

  extended_with : (n : ℕ) → n + up_to (xs ++ suc a ∷ []) (day_start (xs ++ suc a ∷ [])) ≡ driving_time (xs ++ suc a ∷ [])
      → extended_in (xs ++ suc a ∷ []) (week_of (day_start (xs ++ suc a ∷ [])))
      ≡ count_of (extended (driving_in xs) (week_of (day_start (xs ++ suc a ∷ [])))) (days_done (xs ++ suc a ∷ [])) + one (ltb ordinary_day n)
  extended_with n e =
      extended_busy xs a (week_of (day_start (xs ++ suc a ∷ [])))
      ∙ ap (λ (b : Bool). count_of (extended (driving_in xs) (week_of (day_start (xs ++ suc a ∷ [])))) (days_done (xs ++ suc a ∷ [])) + one b) (in_its_week n e)

  module _ (t : leb long_rest_minutes (length xs - judged_end xs) ≡ true) where
    abbrev after : Day
    after = record { start = s.now; driving = 0; extended = pick (leb s.week.end (s.day.start + week_minutes)) s.day.extended 0 }

    long_start : day_start (xs ++ suc a ∷ []) ≡ length xs
    long_start = (long_before xs a t).begins

    long_today : one (is_driving (suc a)) + 0 + up_to (xs ++ suc a ∷ []) (day_start (xs ++ suc a ∷ [])) ≡ driving_time (xs ++ suc a ∷ [])
    long_today =
        omega (arith, ap (up_to (xs ++ suc a ∷ [])) long_start, up_to_within (length xs) xs (suc a ∷ []) (le_refl _), up_to_past (length xs) xs (le_refl _), driving_snoc xs (suc a))

    counted_before : (b : Bool) → leb s.week.end (s.day.start + week_minutes) ≡ b → pick b s.day.extended 0 ≡ extended_in xs (week_of (length xs))
    counted_before true e =
        let h = leb-true s.week.end (s.day.start + week_minutes) e in
        let l : day_start xs ≤ length xs = omega (arith, k.today, k.start, start_in) in
        let q : week_of (day_start xs) ≡ week_of (length xs) = omega (arith, k.end, k.start) in
        k.extended ∙ ap (extended_in xs) q
      where
        start_in : day_start xs ≤ length xs
        start_in = le_trans (day_within xs) (judged_within xs)
    counted_before false e =
        let h = leb-false s.week.end (s.day.start + week_minutes) e in
        sym (none_extended xs (week_of (length xs)) (omega (arith, k.end, k.start)))

    long_extended : pick (leb s.week.end (s.day.start + week_minutes)) s.day.extended 0 ≡ extended_in (xs ++ suc a ∷ []) (week_of (day_start (xs ++ suc a ∷ [])))
    unfolding extended_in
    long_extended =
        let w = week_of (day_start (xs ++ suc a ∷ [])) in
        let small : ltb ordinary_day (one (is_driving (suc a)) + 0) ≡ false = le-ltb ordinary_day (one (is_driving (suc a)) + 0) (omega (arith, one_most (is_driving (suc a)))) in
        let over : count_of (extended (driving_in xs) w) (days_done (xs ++ suc a ∷ [])) ≡ extended_in xs w = ap (count_of (extended (driving_in xs) w)) (long_before xs a t).over in
        let there : extended_in xs w ≡ extended_in xs (week_of (length xs)) = ap (λ (n : ℕ). extended_in xs (week_of n)) long_start in
        omega (arith, extended_with (one (is_driving (suc a)) + 0) long_today, ap one small, over, there, counted_before _ refl)

    long_day : DayRight (xs ++ suc a ∷ []) (day_with (suc a) after)
    unfolding day_with
    long_day = record {
      start = k.now ∙ sym long_start;
      today = long_today;
      extended = omega (arith, long_extended, no_more (is_driving (suc a)));
    }

  module _ (t : leb long_rest_minutes (length xs - judged_end xs) ≡ false) where
    short_start : day_start (xs ++ suc a ∷ []) ≡ day_start xs
    short_start = (short_before xs a t).begins

    short_today : one (is_driving (suc a)) + s.day.driving + up_to (xs ++ suc a ∷ []) (day_start (xs ++ suc a ∷ [])) ≡ driving_time (xs ++ suc a ∷ [])
    short_today =
        omega (arith, ap (up_to (xs ++ suc a ∷ [])) short_start, up_to_within (day_start xs) xs (suc a ∷ []) (le_trans (day_within xs) (judged_within xs)), k.today, driving_snoc xs (suc a))

    -- the day before, as the account has it
    was : extended (driving_in xs) (week_of (day_start xs)) (span (day_start xs) (judged_end xs)) ≡ ltb ordinary_day s.day.driving
    unfolding extended ◌and◌
    was =
        let e : driving_in xs (span (day_start xs) (judged_end xs)) ≡ s.day.driving =
        omega (arith, driving_between xs (span (day_start xs) (judged_end xs)), up_to_judged xs, k.today) in
        rw (eq-eqb (week_of (day_start xs)) _ refl, e) refl

    short_before_count : extended_in xs (week_of (day_start xs)) ≡ count_of (extended (driving_in xs) (week_of (day_start xs))) (days_done xs) + one (ltb ordinary_day s.day.driving)
    unfolding extended_in
    short_before_count =
        ap (count_of (extended (driving_in xs) (week_of (day_start xs)))) (days_are xs)
        ∙ count_one (extended (driving_in xs) (week_of (day_start xs))) (days_done xs) (span (day_start xs) (judged_end xs))
        ∙ ap (λ (b : Bool). count_of (extended (driving_in xs) (week_of (day_start xs))) (days_done xs) + one b) was

    short_over : count_of (extended (driving_in xs) (week_of (day_start (xs ++ suc a ∷ [])))) (days_done (xs ++ suc a ∷ [])) ≡ count_of (extended (driving_in xs) (week_of
        (day_start xs))) (days_done xs)
    short_over = ap₂ (λ (n : ℕ) (ds : List Span). count_of (extended (driving_in xs) (week_of n)) ds) short_start (short_before xs a t).over

    short_day : DayRight (xs ++ suc a ∷ []) (day_with (suc a) s.day)
    unfolding day_with
    short_day = record {
      start = k.start ∙ sym short_start;
      today = short_today;
      extended =
          omega (
            arith,
            k.extended,
            short_before_count,
            passes (is_driving (suc a)) s.day.driving,
            extended_with (one (is_driving (suc a)) + s.day.driving) short_today,
            short_over,
          );
    }

  -- what the account makes of the rest that is over
  day_right : DayRight (xs ++ suc a ∷ []) (day_with (suc a) (day_after (s.now - s.from) s.now s.week.end s.day))
  unfolding day_after
  day_right = rw (k.from, k.now) (at (leb long_rest_minutes (length xs - judged_end xs)) refl)
    where
      at : (b : Bool) → leb long_rest_minutes (length xs - judged_end xs) ≡ b
          → DayRight (xs ++ suc a ∷ []) (day_with (suc a) (pick b (record {
            start = length xs;
            driving = 0;
            extended = pick (leb s.week.end (s.day.start + week_minutes))
                s.day.extended 0;
          }) s.day))
      at true t = rw (← k.now) (long_day t)
      at false t = short_day t

  -- ---- the week, before and after it may end
  week_with_law : InWeek (xs ++ suc a ∷ []) (week_of (length xs)) (week_with (suc a) s.week)
  unfolding week_with
  week_with_law = record {
    end = k.end;
    weekly = omega (arith, k.weekly, up_to_within (week_start (week_of (length xs))) xs (suc a ∷ []) (omega arith), driving_snoc xs (suc a));
    last = k.last ∙ sym (before_same xs (suc a) (week_of (length xs)) refl);
  }

  week_is : (week_with (suc a) s.week).driving ≡ driving_in (xs ++ suc a ∷ []) (week (week_of (length xs)))
  week_is =
      omega (
        arith,
        week_with_law.weekly,
        driving_between (xs ++ suc a ∷ []) (week (week_of (length xs))),
        up_to_past (week_start (week_of (length xs) + 1)) (xs ++ suc a ∷ []) (omega (arith, length_more xs (suc a))),
      )

  last_is : (week_with (suc a) s.week).last ≡ week_before xs (week_of (length xs))
  unfolding week_with
  last_is = k.last

  -- ---- the rules
  abbrev day_now : Day
  day_now = day_with (suc a) (day_after (s.now - s.from) s.now s.week.end s.day)

  abbrev accumulated_now : Accumulated
  accumulated_now = drove (suc a) (rested (s.now - s.from) s.accumulated)

  accumulated_right : accumulated_now ≡ accumulated_by (xs ++ suc a ∷ [])
  accumulated_right = rw (k.now, k.from, k.accumulated) (sym (accumulated_after_busy xs a))

  abbrev broken_now : Breaches
  broken_now = broken_at (s.now + 1) day_now (week_with (suc a) s.week) accumulated_now

  broken_busy : breaches (xs ++ suc a ∷ []) ≡ either_broken (breaches xs) broken_now
  unfolding breaches breaches_by either_broken broken_at
  broken_busy =
      let n : s.now + 1 ≡ suc (length xs) = omega (arith, k.now) in
      rw (rule2_busy xs a, rule3_busy xs a (week_of (length xs)) refl, rule4_busy xs a (week_of (length xs)) refl, rule1_busy xs a, rule5_busy xs a)
      (rw (n, accumulated_right, running_is day_now.driving day_right.today, day_right.extended, day_right.start, week_is, last_is)
      (simp (not-and, over)))

  right_busy : Right (xs ++ suc a ∷ []) (busy_minute s (suc a))
  unfolding busy_minute
  right_busy =
      let w = next_week_law (xs ++ suc a ∷ []) (length xs) (length_more xs (suc a)) (week_with (suc a) s.week) week_with_law (s.now + 1) (omega (arith, k.now)) in
      record {
        now = omega (arith, k.now, length_more xs (suc a));
        from = omega (arith, k.now, judged_busy xs a);
        start = day_right.start;
        today = day_right.today;
        extended = day_right.extended;
        end = w.end;
        weekly = w.weekly;
        last = w.last;
        accumulated = accumulated_right;
        broken = ap (λ (x : Breaches). either_broken x broken_now) k.broken ∙ sym broken_busy;
        first = first_more xs (suc a) s.first (s.now + 1) broken_now (omega (arith, k.now)) k.first broken_busy;
      }

-- ---- any minute, and any minutes
pub right_minute : (xs : List ℕ) (s : Account) (a : ℕ) → Right xs s → Right (xs ++ a ∷ []) (minute_after s a)
unfolding minute_after
right_minute xs s zero k = right_rest xs s k
right_minute xs s (suc a) k = rw (eqb-suc-zero a) (right_busy xs s k a)

pub right_on : (xs ms : List ℕ) (s : Account) → Right xs s → Right (xs ++ ms) (account_from s ms)
unfolding account_from
right_on xs [] s k = rw (append-nil xs) k
right_on xs (a ∷ ms) s k = rw (append_snoc xs a ms) at (right_on (xs ++ a ∷ []) ms (minute_after s a) (right_minute xs s a k))

right_none : Right [] opening
unfolding rules_opened accumulated_from last_end extended_in
right_none = record {
  now = refl;
  from = refl;
  start = refl;
  today = refl;
  extended = refl;
  end = refl;
  weekly = refl;
  last = refl;
  accumulated = refl;
  broken = refl;
  first = unbroken refl;
}

-- THE LAW
pub account_right : (ms : List ℕ) → Right ms (account_from opening ms)
account_right ms = right_on [] ms opening right_none

-- the fixed test is picked from it
pub rule_right : (ms : List ℕ) {s : Account} {rule : ℕ} → s ≡ account_from opening ms → rule ≡ smallest_rule s.broken → rule ≡ fixed_test ms
unfolding fixed_test
rule_right ms e p = p ∙ ap (λ (s : Account). smallest_rule s.broken) e ∙ ap smallest_rule (account_right ms).broken

-- ---- the first minute at which the fixed test of a stretch is not 0
pub record Least (ms : List ℕ) (f : Option Break) : Type 0 where
  pub none_broken : f ≡ None → (m : ℕ) → fixed_test (take m ms) ≡ 0
  pub there : {b : Break} → f ≡ Some b → fixed_test (take b.at ms) ≡ number_of_rule b.rule
  pub before : {b : Break} → f ≡ Some b → (m : ℕ) → m < b.at → fixed_test (take m ms) ≡ 0

prefix_zero : (ms : List ℕ) (m n : ℕ) → m ≤ n → fixed_test (take n ms) ≡ 0 → fixed_test (take m ms) ≡ 0
prefix_zero ms m n h e =
    let whole : fixed_test (take m (take n ms) ++ drop m (take n ms)) ≡ 0 = rw (take-append-drop m (take n ms)) e in
    rw (take-take m n ms h) at (fixed_prefix (take m (take n ms)) (drop m (take n ms)) whole)

least : (ms : List ℕ) (f : Option Break) → First ms f → Least ms f
least ms None (unbroken e) = record {
  none_broken = λ q m.
      let whole : fixed_test (take m ms ++ drop m ms) ≡ 0 = rw (take-append-drop m ms) e in
      fixed_prefix (take m ms) (drop m ms) whole;
  there = λ q. cc;
  before = λ q m h. cc;
}
least ms (Some f) (broken n e h p q) = record {
  none_broken = λ z. cc;
  there = λ {b} z.
      let same : f ≡ b = cc in
      subst (λ (b : Break). fixed_test (take b.at ms) ≡ number_of_rule b.rule) same (ap (λ (m : ℕ). fixed_test (take m ms)) e ∙ q);
  before = λ {b} z m l.
      let same : f ≡ b = cc in
      prefix_zero ms m n (omega (arith, ap (λ (b : Break). b.at) same)) p;
}

pub first_least : (ms : List ℕ) → Least ms (account_from opening ms).first
first_least ms = least ms _ (account_right ms).first
