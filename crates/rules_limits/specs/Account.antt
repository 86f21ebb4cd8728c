-- Inner: the account of the fixed rules, defined minute by minute. Nobody has to believe it: proofs/AccountRight.antt shows that it answers the fixed rules
-- as they are said of the days and weeks of a recording.
-- Assumes nothing.
use Rattle.std.specs.Prelude.{List, [], ◌∷◌, ℕ, zero, suc, ◌+◌, ◌-◌, leb, ltb, eqb, Option, None, Some}
use Rattle.recording.specs.Tests.{◌and◌, ◌or◌, pick, one}
use Rattle.recording.specs.Words.{is_driving}
use Rattle.recording.specs.Rests.{long_rest_minutes}
use Rattle.recording.specs.Weeks.{week_minutes, is_rest}
use Rattle.rules.specs.Fixed.{day_at_most, ordinary_day, extended_days, week_at_most, fortnight_at_most, cleared, rested, drove}
use Rattle.rules.specs.Fixed.{accumulated_at_most, day_length, either_broken, smallest_rule, unbroken}
use Rattle.rules.specs.declared.Rule.{Rule}
use Rattle.rules.specs.declared.Rule.TheVariants.{AccumulatedDriving, DailyDriving, WeeklyDriving, FortnightlyDriving, DailyRest}
use Rattle.rules.specs.declared.Accumulated.{Accumulated}
use Rattle.rules.specs.declared.Breaches.{Breaches}
use Rattle.rules_limits.specs.declared.Day.{Day}
use Rattle.rules_limits.specs.declared.Week.{Week}
use Rattle.rules_limits.specs.declared.Break.{Break}
use Rattle.rules_limits.specs.declared.NumberedBreak.{NumberedBreak}
use Rattle.rules_limits.specs.declared.Account.{Account}

-- ---- the day: after a rest of n minutes that ends at a minute of the week that ends at `end`; and a minute more of an activity
unfoldable pub day_after : ℕ → ℕ → ℕ → Day → Day
day_after n now end d =
    pick (leb long_rest_minutes n) (record { start = now; driving = 0; extended = pick (leb end (d.start + week_minutes)) d.extended 0 }) d

unfoldable pub day_with : ℕ → Day → Day
day_with a d =
    record {
      start = d.start;
      driving = one (is_driving a) + d.driving;
      extended = d.extended + one (is_driving a and eqb d.driving ordinary_day);
    }

-- ---- the week: a minute more, and the next week where one ends
unfoldable pub week_with : ℕ → Week → Week
week_with a w = record { end = w.end; driving = one (is_driving a) + w.driving; last = w.last }

unfoldable pub week_next : ℕ → Week → Week
week_next now w = pick (eqb now w.end) (record { end = w.end + week_minutes; driving = 0; last = w.driving }) w

-- ---- which of the five are broken at the minute that ends at `now`, and the first breach
unfoldable pub broken_at : ℕ → Day → Week → Accumulated → Breaches
broken_at now y w d = record {
  daily = ltb day_at_most y.driving or ltb extended_days y.extended;
  weekly = ltb week_at_most w.driving;
  fortnightly = ltb fortnight_at_most (w.last + w.driving);
  breaks = ltb accumulated_at_most d.sum;
  rests = ltb (y.start + day_length) now;
}

-- the fixed rule of a number; from 5 on it is rule 5
abbrev pub rule_numbered : ℕ → Option Rule
rule_numbered zero = None
rule_numbered (suc zero) = Some AccumulatedDriving
rule_numbered (suc (suc zero)) = Some DailyDriving
rule_numbered (suc (suc (suc zero))) = Some WeeklyDriving
rule_numbered (suc (suc (suc (suc zero)))) = Some FortnightlyDriving
rule_numbered (suc (suc (suc (suc (suc n))))) = Some DailyRest

abbrev pub break_of : ℕ → Option Rule → Option Break
break_of now None = None
break_of now (Some r) = Some (record { at = now; rule = r })

abbrev pub first_break : Option Break → ℕ → ℕ → Option Break
first_break None now b = break_of now (rule_numbered b)
first_break (Some f) now b = Some f

-- the first breach by its rule's number, which is 0 where nothing is broken
abbrev pub first_numbered : NumberedBreak → ℕ → ℕ → NumberedBreak
first_numbered f now b = pick (eqb f.rule 0) (pick (eqb b 0) f (record { at = now; rule = b })) f

-- ---- a minute
unfoldable pub rest_minute : Account → Account
rest_minute s = record {
  now = s.now + 1;
  from = s.from;
  day = s.day;
  week = week_next (s.now + 1) s.week;
  accumulated = s.accumulated;
  broken = s.broken;
  first = s.first;
}

unfoldable pub busy_minute : Account → ℕ → Account
busy_minute s a =
    let y = day_with a (day_after (s.now - s.from) s.now s.week.end s.day) in
    let w = week_with a s.week in
    let d = drove a (rested (s.now - s.from) s.accumulated) in
    let b = broken_at (s.now + 1) y w d in
    record {
      now = s.now + 1;
      from = s.now + 1;
      day = y;
      week = week_next (s.now + 1) w;
      accumulated = d;
      broken = either_broken s.broken b;
      first = first_break s.first (s.now + 1) (smallest_rule b);
    }

unfoldable pub minute_after : Account → ℕ → Account
minute_after s a = pick (is_rest a) (rest_minute s) (busy_minute s a)

unfoldable pub account_from : Account → List ℕ → Account
account_from s [] = s
account_from s (a ∷ ms) = account_from (minute_after s a) ms

abbrev pub opening : Account
opening = record {
  now = 0;
  from = 0;
  day = record { start = 0; driving = 0; extended = 0 };
  week = record { end = week_minutes; driving = 0; last = 0 };
  accumulated = cleared;
  broken = unbroken;
  first = None;
}
