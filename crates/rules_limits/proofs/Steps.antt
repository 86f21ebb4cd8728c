-- What the steps of the walk keep. Assumes nothing.
use mathlib.Core.Path.{◌≡◌, refl}
use mathlib.Core.Bool.{Bool, true, false}
use Prim.Native.Nat.{ℕ, ◌+◌, ◌-◌, ◌≤◌}
use native.Mathlib.Nat.{le_refl}
use native.Mathlib.Omega.{arith}
use lib.Dec.{leb, eqb}
use borrow.Author.Tests.{eqb-true}
use Rattle.recording.proofs.TestLaws.{one_most}
use Rattle.recording.specs.Tests.{◌and◌, pick}
use Rattle.recording.specs.Words.{is_driving}
use Rattle.recording.specs.Rests.{long_rest_minutes}
use Rattle.recording.specs.Weeks.{week_minutes, is_rest}
use Rattle.rules.specs.Fixed.{ordinary_day, cleared, clears, rested, drove}
use Rattle.rules.specs.declared.Accumulated.{Accumulated}
use Rattle.rules_limits.specs.Account.{day_after, day_with, week_with, week_next, rest_minute, busy_minute, minute_after}
use Rattle.rules_limits.specs.Runs.{Bounded}
use Rattle.rules_limits.specs.declared.Account.{Account}
use Rattle.rules_limits.specs.declared.Day.{Day}
use Rattle.rules_limits.specs.declared.Week.{Week}

pick_most : (b : Bool) (x y n : ℕ) → x ≤ n → y ≤ n → pick b x y ≤ n
pick_most true x y n h l = h
pick_most false x y n h l = l

-- the day after a rest, and with a minute more
pub record DayBounded (d : Day) (n : ℕ) : Type 0 where
  pub start : d.start ≤ n
  pub driving : d.driving ≤ n
  pub extended : d.extended ≤ n

pub day_after_bounded : (n now end : ℕ) (d : Day) → DayBounded d now → DayBounded (day_after n now end d) now
unfolding day_after
day_after_bounded n now end d k = at (leb long_rest_minutes n)
  where
    at : (b : Bool) → DayBounded (pick b (record { start = now; driving = 0; extended = pick (leb end (d.start + week_minutes)) d.extended 0 }) d) now
    at true = record { start = le_refl _; driving = omega arith; extended = pick_most (leb end (d.start + week_minutes)) d.extended 0 now k.extended (omega arith) }
    at false = k

pub day_with_bounded : (a : ℕ) (d : Day) (n : ℕ) → DayBounded d n → DayBounded (day_with a d) (n + 1)
unfolding day_with
day_with_bounded a d n k = record {
  start = omega (arith, k.start);
  driving = omega (arith, k.driving, one_most (is_driving a));
  extended = omega (arith, k.extended, one_most (is_driving a and eqb d.driving ordinary_day));
}

pub record WeekBounded (w : Week) (n : ℕ) : Type 0 where
  pub end : w.end ≤ n + week_minutes
  pub weekly : w.driving ≤ n
  pub last : w.last ≤ n

pub week_with_bounded : (a : ℕ) (w : Week) (n : ℕ) → WeekBounded w n → WeekBounded (week_with a w) (n + 1)
unfolding week_with
week_with_bounded a w n k = record { end = omega (arith, k.end); weekly = omega (arith, k.weekly, one_most (is_driving a)); last = omega (arith, k.last) }

week_more : (w : Week) (n : ℕ) → WeekBounded w n → WeekBounded w (n + 1)
week_more w n k = record { end = omega (arith, k.end); weekly = omega (arith, k.weekly); last = omega (arith, k.last) }

pub week_next_bounded : (n : ℕ) (w : Week) → WeekBounded w n → WeekBounded (week_next n w) n
unfolding week_next
week_next_bounded n w k = at (eqb n w.end) refl
  where
    at : (b : Bool) → eqb n w.end ≡ b → WeekBounded (pick b (record { end = w.end + week_minutes; driving = 0; last = w.driving }) w) n
    at true t = let e : n ≡ w.end = eqb-true n w.end t in record { end = omega arith; weekly = omega arith; last = k.weekly }
    at false t = k

-- the driving sum after a rest
pub rested_bounded : (n : ℕ) (d : Accumulated) (m : ℕ) → d.sum ≤ m → (rested n d).sum ≤ m
unfolding rested
rested_bounded n d m h = at (clears n d) cleared _ (omega arith) h
  where
    at : (b : Bool) (x y : Accumulated) → x.sum ≤ m → y.sum ≤ m → (pick b x y).sum ≤ m
    at true x y p q = p
    at false x y p q = q

-- the account after a minute
module _ (s : Account) (k : Bounded s) where
  pub its_day : DayBounded s.day s.now
  its_day = record { start = k.start; driving = k.driving; extended = k.extended }

  pub its_week : WeekBounded s.week s.now
  its_week = record { end = k.end; weekly = k.weekly; last = k.last }

  drove_bounded : (a n : ℕ) → (drove a (rested n s.accumulated)).sum ≤ s.now + 1
  unfolding drove
  drove_bounded a n = omega (arith, one_most (is_driving a), rested_bounded n s.accumulated s.now k.sum)

  rest_bounded : Bounded (rest_minute s)
  unfolding rest_minute
  rest_bounded =
      let w = week_next_bounded (s.now + 1) s.week (week_more s.week s.now its_week) in
      record {
        from = omega (arith, k.from);
        start = omega (arith, k.start);
        driving = omega (arith, k.driving);
        extended = omega (arith, k.extended);
        end = w.end;
        weekly = w.weekly;
        last = w.last;
        sum = omega (arith, k.sum);
      }

  busy_bounded : (a : ℕ) → Bounded (busy_minute s a)
  unfolding busy_minute
  busy_bounded a =
      let y = day_with_bounded a _ s.now (day_after_bounded (s.now - s.from) s.now s.week.end s.day its_day) in
      let w = week_next_bounded (s.now + 1) (week_with a s.week) (week_with_bounded a s.week s.now its_week) in
      record {
        from = le_refl _;
        start = y.start;
        driving = y.driving;
        extended = y.extended;
        end = w.end;
        weekly = w.weekly;
        last = w.last;
        sum = drove_bounded a (s.now - s.from);
      }

  pub minute_bounded : (a : ℕ) → Bounded (minute_after s a)
  unfolding minute_after
  minute_bounded a = at (is_rest a)
    where
      at : (b : Bool) → Bounded (pick b (rest_minute s) (busy_minute s a))
      at true = rest_bounded
      at false = busy_bounded a

pub minute_now : (s : Account) (a : ℕ) → (minute_after s a).now ≡ s.now + 1
unfolding minute_after rest_minute busy_minute
minute_now s a = at (is_rest a)
  where
    at : (b : Bool) → (pick b (rest_minute s) (busy_minute s a)).now ≡ s.now + 1
    at true = refl
    at false = refl
