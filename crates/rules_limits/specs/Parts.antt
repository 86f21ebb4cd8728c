-- Inner: a part of a run in one step, n minutes of one activity, where no week ends before the last, and which are one minute or change nothing that is
-- broken. Nobody has to believe it: proofs/PartRight.antt shows that the account after it is the one kept minute by minute.
-- Assumes nothing.
use Rattle.std.specs.Prelude.{ℕ, ◌+◌, ◌-◌, ◌≤◌, ◌<◌, min, ltb, Option}
use Rattle.recording.specs.Tests.{pick, one}
use Rattle.recording.specs.Words.{is_driving}
use Rattle.recording.specs.Weeks.{is_rest}
use Rattle.rules.specs.Fixed.{ordinary_day, rested, either_broken, smallest_rule}
use Rattle.rules.specs.declared.Accumulated.{Accumulated}
use Rattle.rules.specs.declared.Breaches.{Breaches}
use Rattle.rules_limits.specs.Account.{day_after, week_next, broken_at, first_break}
use Rattle.rules_limits.specs.Runs.{Ran}
use Rattle.rules_limits.specs.declared.Day.{Day}
use Rattle.rules_limits.specs.declared.Week.{Week}
use Rattle.rules_limits.specs.declared.Break.{Break}
use Rattle.rules_limits.specs.declared.Account.{Account}

-- how many of n minutes of an activity are driving
abbrev pub driving_of : ℕ → ℕ → ℕ
driving_of a n = pick (is_driving a) n 0

-- how many of n minutes after `now` a part may take: those of the week that ends at `end`, and one where there is none
abbrev pub in_week : ℕ → ℕ → ℕ → ℕ
in_week now end n = min n (1 + (end - (now + 1)))

-- ---- the day, the week and the driving sum with k minutes of driving more; a day is extended once, where it passes the ordinary driving
unfoldable pub day_more : ℕ → Day → Day
day_more k d =
    record {
      start = d.start;
      driving = d.driving + k;
      extended = d.extended + (one (ltb ordinary_day (d.driving + k)) - one (ltb ordinary_day d.driving));
    }

abbrev pub week_more : ℕ → Week → Week
week_more k w = record { end = w.end; driving = w.driving + k; last = w.last }

abbrev pub accumulated_more : ℕ → Accumulated → Accumulated
accumulated_more k d = record { sum = d.sum + k; split = d.split }

-- ---- a part: of rest, and of another activity, which is judged by what the rules go by at its end
unfoldable pub rest_part : Account → ℕ → Account
rest_part s n = record {
  now = s.now + n;
  from = s.from;
  day = s.day;
  week = week_next (s.now + n) s.week;
  accumulated = s.accumulated;
  broken = s.broken;
  first = s.first;
}

abbrev pub judged_at : ℕ → Day → Week → Accumulated → Breaches → Option Break → Account
judged_at now y w d broken first =
    let b = broken_at now y w d in
    record {
      now = now;
      from = now;
      day = y;
      week = week_next now w;
      accumulated = d;
      broken = either_broken broken b;
      first = first_break first now (smallest_rule b);
    }

unfoldable pub busy_part : Account → ℕ → ℕ → Account
busy_part s a n =
    let rest = s.now - s.from in
    judged_at
    (s.now + n)
    (day_more (driving_of a n) (day_after rest s.now s.week.end s.day))
    (week_more (driving_of a n) s.week)
    (accumulated_more (driving_of a n) (rested rest s.accumulated))
    s.broken
    s.first

unfoldable pub part_after : Account → ℕ → ℕ → Account
part_after s a n = pick (is_rest a) (rest_part s n) (busy_part s a n)

-- a part of a run of n minutes: some of them, and their account
pub record Taken (s : Account) (a n minutes : ℕ) (t : Account) : Type 0 where
  pub some : 0 < minutes
  pub within : minutes ≤ n
  pub ran : Ran s a minutes t
