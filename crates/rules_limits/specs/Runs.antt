-- Inner: what the functions of this layer keep and answer. Nobody has to believe it: no public contract cites it.
-- Assumes nothing.
use Rattle.std.specs.Prelude.{◌≡◌, ℕ, ◌+◌, ◌≤◌, replicate}
use Rattle.recording.specs.Weeks.{week_minutes}
use Rattle.rules_limits.specs.Account.{account_from}
use Rattle.rules_limits.specs.declared.Account.{Account}

-- no part of an account is past its minute
pub record Bounded (s : Account) : Type 0 where
  pub from : s.from ≤ s.now
  pub start : s.day.start ≤ s.now
  pub driving : s.day.driving ≤ s.now
  pub extended : s.day.extended ≤ s.now
  pub end : s.week.end ≤ s.now + week_minutes
  pub weekly : s.week.driving ≤ s.now
  pub last : s.week.last ≤ s.now
  pub sum : s.accumulated.sum ≤ s.now

-- a run of n minutes
pub record Ran (s : Account) (a n : ℕ) (r : Account) : Type 0 where
  pub is : r ≡ account_from s (replicate n a)
  pub bounded : Bounded r
  pub now : r.now ≡ s.now + n
