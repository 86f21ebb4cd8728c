-- A part of a run in one step is the account of its minutes. Assumes nothing.
use mathlib.Core.Path.{◌≡◌, refl, sym, ap, ◌∙◌}
use mathlib.Core.Logic.{◌⊎◌, inl, inr}
use mathlib.Core.Bool.{Bool, true, false}
use Prim.Native.Nat.{ℕ, zero, suc, ◌+◌, ◌-◌, ◌≤◌, ◌<◌}
use native.Mathlib.Nat.{le_refl}
use native.Mathlib.Omega.{arith}
use lib.Dec.{ltb, eqb}
use lib.ListN.{replicate}
use borrow.Author.Tests.{ltb-true, lt-ltb, ne_eqb}
use Rattle.std.specs.Prelude.{Option, None, Some}
use Rattle.std.specs.Option.{option_or}
use Rattle.recording.specs.Tests.{◌and◌, ◌or◌, pick, one}
use Rattle.recording.specs.Words.{is_driving}
use Rattle.recording.specs.Weeks.{is_rest}
use Rattle.recording.proofs.TestLaws.{or_cases, or_left, or_right, or-false, clash, is_false}
use Rattle.rules.specs.Fixed.{day_at_most, ordinary_day, extended_days, week_at_most, fortnight_at_most, rested, drove, accumulated_at_most, day_length, unbroken, smallest_rule, either_broken}
use Rattle.rules.specs.Numbers.{number_of_rule}
use Rattle.rules.specs.declared.Rule.{Rule}
use Rattle.rules.specs.declared.Rule.TheVariants.{AccumulatedDriving, DailyDriving, WeeklyDriving, FortnightlyDriving, DailyRest}
use Rattle.rules.specs.declared.Rule.TheVariants.{EntryForm, NetLength, CompensationInTime, ShortenedRests, WeeklyRestGap, WeeklyRests}
use Rattle.rules.proofs.ArticleOrder.{rule_none, none_rule}
use Rattle.rules.proofs.ByWord.{not_rested}
use Rattle.rules.specs.declared.Accumulated.{Accumulated}
use Rattle.rules.specs.declared.Breaches.{Breaches}
use Rattle.rules_limits.specs.Account.{day_after, day_with, week_with, week_next, broken_at, rule_numbered, break_of, first_break, rest_minute, busy_minute, minute_after, account_from}
use Rattle.rules_limits.specs.Runs.{Bounded, Ran}
use Rattle.rules_limits.specs.Parts.{driving_of, day_more, week_more, accumulated_more, rest_part, judged_at, busy_part, part_after}
use Rattle.rules_limits.specs.declared.Day.{Day}
use Rattle.rules_limits.specs.declared.Week.{Week}
use Rattle.rules_limits.specs.declared.Break.{Break}
use Rattle.rules_limits.specs.declared.Account.{Account}
use Rattle.rules_limits.proofs.AccountRight.{passes}
use Rattle.rules_limits.proofs.Steps.{minute_bounded, minute_now}

-- whether a day's driving is past that of an ordinary day; it stays so
abbrev past : ℕ → ℕ
past driving = one (ltb ordinary_day driving)

past_grows : (x y : ℕ) → x ≤ y → past x ≤ past y
past_grows x y h = at (ltb ordinary_day x) refl
  where
    at : (p : Bool) → ltb ordinary_day x ≡ p → one p ≤ past y
    at true e = rw (lt-ltb ordinary_day y (omega (arith, ltb-true ordinary_day x e))) (omega arith)
    at false e = omega arith

-- ---- a minute is a part of one minute
driving_one : (b : Bool) (x : ℕ) → one b + x ≡ x + pick b 1 0
driving_one true x = omega arith
driving_one false x = omega arith

day_one : (a : ℕ) (d : Day) → day_with a d ≡ day_more (driving_of a 1) d
unfolding day_with day_more
day_one a d = λ i. record { start = d.start; driving = driving_one (is_driving a) d.driving i; extended = e i }
  where
    e : d.extended + one (is_driving a and eqb d.driving ordinary_day) ≡ d.extended + (past (d.driving + driving_of a 1) - past d.driving)
    e = omega (arith, passes (is_driving a) d.driving, ap past (driving_one (is_driving a) d.driving))

week_one : (a : ℕ) (w : Week) → week_with a w ≡ week_more (driving_of a 1) w
unfolding week_with
week_one a w = λ i. record { end = w.end; driving = driving_one (is_driving a) w.driving i; last = w.last }

accumulated_one : (a : ℕ) (d : Accumulated) → drove a d ≡ accumulated_more (driving_of a 1) d
unfolding drove
accumulated_one a d = λ i. record { sum = driving_one (is_driving a) d.sum i; split = d.split }

part_one : (s : Account) (a : ℕ) → part_after s a 1 ≡ minute_after s a
unfolding part_after minute_after rest_part busy_part rest_minute busy_minute
part_one s a = at (is_rest a)
  where
    at : (b : Bool) → pick b (rest_part s 1) (busy_part s a 1) ≡ pick b (rest_minute s) (busy_minute s a)
    at true = refl
    at false = sym (λ i. judged_at (s.now + 1) (day_one a (day_after (s.now - s.from) s.now s.week.end s.day) i) (week_one a s.week i)
        (accumulated_one a (rested (s.now - s.from) s.accumulated) i) s.broken s.first)

-- ---- one part after another
driving_on : (b : Bool) (n x : ℕ) → x + pick b 1 0 + pick b n 0 ≡ x + pick b (suc n) 0
driving_on true n x = omega arith
driving_on false n x = omega arith

day_on : (a n : ℕ) (d : Day) → day_more (driving_of a n) (day_more (driving_of a 1) d) ≡ day_more (driving_of a (suc n)) d
unfolding day_more
day_on a n d = λ i. record { start = d.start; driving = driving_on (is_driving a) n d.driving i; extended = e i }
  where
    e : d.extended + (past (d.driving + driving_of a 1) - past d.driving) + (past (d.driving + driving_of a 1 + driving_of a n) - past (d.driving + driving_of a 1))
        ≡ d.extended + (past (d.driving + driving_of a (suc n)) - past d.driving)
    e =
        omega (
          arith,
          past_grows d.driving (d.driving + driving_of a 1) (omega arith),
          past_grows (d.driving + driving_of a 1) (d.driving + driving_of a 1 + driving_of a n) (omega arith),
          ap past (driving_on (is_driving a) n d.driving),
        )

week_on : (a n : ℕ) (w : Week) → week_more (driving_of a n) (week_more (driving_of a 1) w) ≡ week_more (driving_of a (suc n)) w
week_on a n w = λ i. record { end = w.end; driving = driving_on (is_driving a) n w.driving i; last = w.last }

accumulated_on : (a n : ℕ) (d : Accumulated) → accumulated_more (driving_of a n) (accumulated_more (driving_of a 1) d) ≡ accumulated_more (driving_of a (suc n)) d
accumulated_on a n d = λ i. record { sum = driving_on (is_driving a) n d.sum i; split = d.split }

-- ---- a rule that is broken at a minute is broken later in the part too
-- what is broken of c is broken of b
record Within (c b : Breaches) : Type 0 where
  daily : c.daily ≡ true → b.daily ≡ true
  weekly : c.weekly ≡ true → b.weekly ≡ true
  fortnightly : c.fortnightly ≡ true → b.fortnightly ≡ true
  breaks : c.breaks ≡ true → b.breaks ≡ true
  rests : c.rests ≡ true → b.rests ≡ true

over : (x y limit : ℕ) → x ≤ y → ltb limit x ≡ true → ltb limit y ≡ true
over x y limit h t = lt-ltb limit y (omega (arith, ltb-true limit x t))

either_over : (a b c d : Bool) → (a ≡ true → c ≡ true) → (b ≡ true → d ≡ true) → a or b ≡ true → c or d ≡ true
either_over a b c d f g t = at (or_cases a b t)
  where
    at : (a ≡ true) ⊎ (b ≡ true) → c or d ≡ true
    at (inl e) = or_left c d (f e)
    at (inr e) = or_right c d (g e)

-- what the rules go by at a minute, and at a later one of the same part
record Grown (now : ℕ) (y : Day) (w : Week) (d : Accumulated) (now' : ℕ) (y' : Day) (w' : Week) (d' : Accumulated) : Type 0 where
  time : now ≤ now'
  start : y'.start ≡ y.start
  driving : y.driving ≤ y'.driving
  extended : y.extended ≤ y'.extended
  weekly : w.driving ≤ w'.driving
  last : w'.last ≡ w.last
  sum : d.sum ≤ d'.sum

broken_later : (now : ℕ) (y : Day) (w : Week) (d : Accumulated) (now' : ℕ) (y' : Day) (w' : Week) (d' : Accumulated) → Grown now y w d now' y' w' d'
    → Within (broken_at now y w d) (broken_at now' y' w' d')
unfolding broken_at
broken_later now y w d now' y' w' d' g = record {
  daily = either_over (ltb day_at_most y.driving) _ (ltb day_at_most y'.driving) _ (over _ _ day_at_most g.driving) (over _ _ extended_days g.extended);
  weekly = over _ _ week_at_most g.weekly;
  fortnightly = over (w.last + w.driving) (w'.last + w'.driving) fortnight_at_most (omega (arith, g.weekly, g.last));
  breaks = over _ _ accumulated_at_most g.sum;
  rests = λ t. lt-ltb (y'.start + day_length) now' (omega (arith, g.time, g.start, ltb-true (y.start + day_length) now t));
}

-- where a breach changes nothing, one before it did not
or_kept : (r b c : Bool) → (c ≡ true → b ≡ true) → r or b ≡ r → r or c ≡ r
unfolding ◌or◌
or_kept true b c h e = refl
or_kept false b false h e = refl
or_kept false b true h e = clash b (h refl) e

either_kept : (r : Breaches) {b c : Breaches} → Within c b → either_broken r b ≡ r → either_broken r c ≡ r
unfolding either_broken
either_kept r l e = λ i. record {
  daily = or_kept _ _ _ l.daily (ap (λ (x : Breaches). x.daily) e) i;
  weekly = or_kept _ _ _ l.weekly (ap (λ (x : Breaches). x.weekly) e) i;
  fortnightly = or_kept _ _ _ l.fortnightly (ap (λ (x : Breaches). x.fortnightly) e) i;
  breaks = or_kept _ _ _ l.breaks (ap (λ (x : Breaches). x.breaks) e) i;
  rests = or_kept _ _ _ l.rests (ap (λ (x : Breaches). x.rests) e) i;
}

none_within : {b c : Breaches} → Within c b → b ≡ unbroken → c ≡ unbroken
none_within {c = c} l e = λ i. record {
  daily = is_false c.daily (λ t. clash _ (l.daily t) (ap (λ (x : Breaches). x.daily) e)) i;
  weekly = is_false c.weekly (λ t. clash _ (l.weekly t) (ap (λ (x : Breaches). x.weekly) e)) i;
  fortnightly = is_false c.fortnightly (λ t. clash _ (l.fortnightly t) (ap (λ (x : Breaches). x.fortnightly) e)) i;
  breaks = is_false c.breaks (λ t. clash _ (l.breaks t) (ap (λ (x : Breaches). x.breaks) e)) i;
  rests = is_false c.rests (λ t. clash _ (l.rests t) (ap (λ (x : Breaches). x.rests) e)) i;
}

first_kept : (f : Option Break) (now now' : ℕ) (b c : Breaches) → Within c b → first_break f now' (smallest_rule b) ≡ f → first_break f now (smallest_rule c) ≡ f
first_kept (Some f) now now' b c l e = refl
first_kept None now now' b c l e = rw (none (smallest_rule b) refl e) refl
  where
    none : (n : ℕ) → smallest_rule b ≡ n → break_of now' (rule_numbered n) ≡ None → smallest_rule c ≡ 0
    none zero t z = none_rule c (none_within l (rule_none b t))
    none (suc zero) t z = cc
    none (suc (suc zero)) t z = cc
    none (suc (suc (suc zero))) t z = cc
    none (suc (suc (suc (suc zero)))) t z = cc
    none (suc (suc (suc (suc (suc n))))) t z = cc

-- a minute that breaks nothing leaves what is broken as it was
pub none_more : (r b : Breaches) → smallest_rule b ≡ 0 → either_broken r b ≡ r
unfolding either_broken
none_more r b e =
    ap (either_broken r) (rule_none b e)
    ∙ (λ i. record {
      daily = or-false r.daily i;
      weekly = or-false r.weekly i;
      fortnightly = or-false r.fortnightly i;
      breaks = or-false r.breaks i;
      rests = or-false r.rests i;
    })

pub first_as_it_was : (f : Option Break) (now b : ℕ) → b ≡ 0 → first_break f now b ≡ f
first_as_it_was None now b e = rw e refl
first_as_it_was (Some f) now b e = refl

-- a minute that breaks a rule is the first breach, unless there was one
numbered : (r : Rule) (n : ℕ) → n ≡ number_of_rule r → n ≤ 5 → rule_numbered n ≡ Some r
numbered AccumulatedDriving n e h = ap rule_numbered e
numbered DailyDriving n e h = ap rule_numbered e
numbered WeeklyDriving n e h = ap rule_numbered e
numbered FortnightlyDriving n e h = ap rule_numbered e
numbered DailyRest n e h = ap rule_numbered e
numbered EntryForm n e h = absurd (omega arith)
numbered NetLength n e h = absurd (omega arith)
numbered CompensationInTime n e h = absurd (omega arith)
numbered ShortenedRests n e h = absurd (omega arith)
numbered WeeklyRestGap n e h = absurd (omega arith)
numbered WeeklyRests n e h = absurd (omega arith)

pub first_found : (f : Option Break) (now n : ℕ) (r : Rule) → n ≡ number_of_rule r → n ≤ 5 → option_or f (Some (record { at = now; rule = r })) ≡ first_break f now n
first_found (Some f) now n r e h = refl
first_found None now n r e h = rw (numbered r n e h) refl

-- ---- a part of n minutes and one more, in a week
not_ended : (now : ℕ) (w : Week) → now < w.end → week_next now w ≡ w
unfolding week_next
not_ended now w h = rw (ne_eqb now w.end (omega arith)) refl

same_day : (now end : ℕ) (d : Day) → day_after 0 now end d ≡ d
unfolding day_after
same_day now end d = refl

-- an account in which nothing that is broken has changed
record Unchanged (s t : Account) : Type 0 where
  broken : t.broken ≡ s.broken
  first : t.first ≡ s.first

module _ (s : Account) (a n : ℕ) (some : 0 < n) (room : s.now + suc n ≤ s.week.end) where
  rest_on : rest_part (rest_part s 1) n ≡ rest_part s (suc n)
  unfolding rest_part
  rest_on =
      let z : s.now + 1 + n ≡ s.now + suc n = omega arith in
      let w : week_next (s.now + 1) s.week ≡ s.week = not_ended (s.now + 1) s.week (omega arith) in
      λ i. record { now = z i; from = s.from; day = s.day; week = week_next (z i) (w i); accumulated = s.accumulated; broken = s.broken; first = s.first }

  rest_end : (rest_part s 1).week.end ≡ s.week.end
  unfolding rest_part
  rest_end = ap (λ (w : Week). w.end) (not_ended (s.now + 1) s.week (omega arith))

  abbrev its_day : Day
  its_day = day_after (s.now - s.from) s.now s.week.end s.day

  abbrev its_accumulated : Accumulated
  its_accumulated = rested (s.now - s.from) s.accumulated

  abbrev broken : ℕ → Breaches
  broken k = broken_at (s.now + k) (day_more (driving_of a k) its_day) (week_more (driving_of a k) s.week) (accumulated_more (driving_of a k) its_accumulated)

  driving_less : (b : Bool) → pick b 1 0 ≤ pick b (suc n) 0
  driving_less true = omega arith
  driving_less false = omega arith

  first_before : Within (broken 1) (broken (suc n))
  unfolding day_more
  first_before =
      let k = driving_less (is_driving a) in
      broken_later _ _ _ _ _ _ _ _ (record {
        time = omega arith;
        start = refl;
        driving = omega arith;
        extended = omega (arith, past_grows (its_day.driving + driving_of a 1) (its_day.driving + driving_of a (suc n)) (omega arith));
        weekly = omega arith;
        last = refl;
        sum = omega arith;
      })

  week_stays : week_next (s.now + 1) (week_more (driving_of a 1) s.week) ≡ week_more (driving_of a 1) s.week
  week_stays = not_ended (s.now + 1) (week_more (driving_of a 1) s.week) (omega arith)

  busy_end : (busy_part s a 1).week.end ≡ s.week.end
  unfolding busy_part
  busy_end = ap (λ (w : Week). w.end) week_stays

  module _ (same : Unchanged s (busy_part s a (suc n))) where
    broken_stays : either_broken s.broken (broken 1) ≡ s.broken
    unfolding busy_part
    broken_stays = either_kept s.broken first_before same.broken

    first_stays : first_break s.first (s.now + 1) (smallest_rule (broken 1)) ≡ s.first
    unfolding busy_part
    first_stays = first_kept s.first (s.now + 1) (s.now + suc n) (broken (suc n)) (broken 1) first_before same.first

    busy_on : busy_part (busy_part s a 1) a n ≡ busy_part s a (suc n)
    unfolding busy_part
    busy_on =
        let z : s.now + 1 - (s.now + 1) ≡ 0 = omega arith in
        let now : s.now + 1 + n ≡ s.now + suc n = omega arith in
        let y = day_more (driving_of a 1) its_day in
        let d = accumulated_more (driving_of a 1) its_accumulated in
        let e = (busy_part s a 1).week.end in
        let day : day_more (driving_of a n) (day_after (s.now + 1 - (s.now + 1)) (s.now + 1) e y) ≡ day_more (driving_of a (suc n)) its_day =
        ap (λ (x : ℕ). day_more (driving_of a n) (day_after x (s.now + 1) e y)) z ∙ ap (day_more (driving_of a n)) (same_day (s.now + 1) e y) ∙ day_on a n its_day in
        let week : week_more (driving_of a n) (week_next (s.now + 1) (week_more (driving_of a 1) s.week)) ≡ week_more (driving_of a (suc n)) s.week =
        ap (week_more (driving_of a n)) week_stays ∙ week_on a n s.week in
        let accumulated : accumulated_more (driving_of a n) (rested (s.now + 1 - (s.now + 1)) d) ≡ accumulated_more (driving_of a (suc n)) its_accumulated =
        ap (λ (x : ℕ). accumulated_more (driving_of a n) (rested x d)) z ∙ ap (accumulated_more (driving_of a n)) (not_rested d) ∙ accumulated_on a n its_accumulated in
        λ i. judged_at (now i) (day i) (week i) (accumulated i) (broken_stays i) (first_stays i)

-- the account t after the first minute of a part of a minute more
record Onward (s t : Account) (a n : ℕ) : Type 0 where
  part : part_after t a n ≡ part_after s a (suc n)
  same : Unchanged s t
  end : t.week.end ≡ s.week.end

onward : (s : Account) (a n : ℕ) → 0 < n → s.now + suc n ≤ s.week.end → Unchanged s (part_after s a (suc n)) → Onward s (part_after s a 1) a n
unfolding part_after rest_part busy_part
onward s a n h room same = record { part = part (is_rest a) same; same = stays (is_rest a) same; end = ends (is_rest a) }
  where
    by : Bool → Account → ℕ → Account
    by b t k = pick b (rest_part t k) (busy_part t a k)

    part : (b : Bool) → Unchanged s (by b s (suc n)) → by b (by b s 1) n ≡ by b s (suc n)
    part true k = rest_on s a n h room
    part false k = busy_on s a n h room k

    stays : (b : Bool) → Unchanged s (by b s (suc n)) → Unchanged s (by b s 1)
    stays true k = record { broken = refl; first = refl }
    stays false k = record { broken = broken_stays s a n h room k; first = first_stays s a n h room k }

    ends : (b : Bool) → (by b s 1).week.end ≡ s.week.end
    ends true = rest_end s a n h room
    ends false = busy_end s a n h room

-- ---- a part is the account of its minutes
fold_part : (n : ℕ) (s : Account) (a : ℕ) → s.now + suc n ≤ s.week.end → Unchanged s (part_after s a (suc n)) → part_after s a (suc n) ≡ account_from s (replicate (suc n) a)
unfolding account_from
fold_part zero s a room same = part_one s a
fold_part (suc n) s a room same =
    let k : Onward s (minute_after s a) a (suc n) = rw part_one at (onward s a (suc n) (omega arith) room same) in
    let now = minute_now s a in
    sym k.part
    ∙ fold_part n (minute_after s a) a (omega (arith, k.end)) (record {
      broken = ap (λ (t : Account). t.broken) k.part ∙ same.broken ∙ sym k.same.broken;
      first = ap (λ (t : Account). t.first) k.part ∙ same.first ∙ sym k.same.first;
    })

-- ---- what a run of minutes keeps
run_kept : (n : ℕ) (s : Account) (a : ℕ) → Bounded s → Ran s a n (account_from s (replicate n a))
unfolding account_from
run_kept zero s a k = record { is = refl; bounded = k; now = omega arith }
run_kept (suc n) s a k =
    let r = run_kept n (minute_after s a) a (minute_bounded s k a) in
    record { is = refl; bounded = r.bounded; now = omega (arith, r.now, minute_now s a) }

ran : (n : ℕ) {s : Account} {a : ℕ} {t : Account} → Bounded s → t ≡ account_from s (replicate n a) → Ran s a n t
ran n {s} {a} k e = rw e (run_kept n s a k)

pub part_ran : {s : Account} {a n : ℕ} {t : Account} → Bounded s → 0 < n → s.now + n ≤ s.week.end → t ≡ part_after s a n → t.broken ≡ s.broken → t.first ≡ s.first → Ran s a n t
part_ran {n = zero} k h room e b f = absurd (omega arith)
part_ran {s} {a} {n = suc n} {t} k h room e b f =
    ran (suc n) k (e ∙ fold_part n s a room (record { broken = ap (λ (x : Account). x.broken) (sym e) ∙ b; first = ap (λ (x : Account). x.first) (sym e) ∙ f }))

pub minute_ran : {s : Account} {a : ℕ} {t : Account} → Bounded s → t ≡ part_after s a 1 → Ran s a 1 t
unfolding account_from
minute_ran {s} {a} k e = ran 1 k (e ∙ part_one s a)

-- ---- what a part's sums stay within
pub driving_most : (a n : ℕ) → driving_of a n ≤ n
driving_most a n = at (is_driving a)
  where
    at : (b : Bool) → pick b n 0 ≤ n
    at true = le_refl _
    at false = omega arith

pub day_start : (k : ℕ) (d : Day) → (day_more k d).start ≡ d.start
unfolding day_more
day_start k d = refl
