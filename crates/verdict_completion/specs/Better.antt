-- Inner: when a state, with what is outstanding, is at least as good as another; how large a state's numbers get; and the best state there is before a
-- rest. Nobody has to believe it: proofs/ shows that the better one can complete what the other can.
-- Assumes nothing.
use Rattle.std.specs.Prelude.{◌≡◌, List, ℕ, ◌≤◌, ◌<◌, length}
use Rattle.recording.specs.Weeks.{week_of}
use Rattle.rules.specs.ReadingRules.{shortened_at_most, weekly_at_least, regular_at_least}
use Rattle.verdict_completion.specs.declared.Counts.{Counts}
use Rattle.verdict_completion.specs.declared.State.{State}
use Rattle.verdict_completion.specs.Completable.{Course, at, count, amount_of, deadline_of}

-- where S is s, a reduction a is no worse than a reduction b: there is none, or it is due after S and needs nothing, or it is no more and due no sooner
pub data Milder (s a b : ℕ) : Type 0 where
  none : a ≡ 0 → Milder s a b
  free : s < deadline_of a → Milder s a b
  some : 0 < b → amount_of a ≤ amount_of b → deadline_of b ≤ deadline_of a → Milder s a b

-- the reductions o are no worse than the reductions p, each than that of the same rest
pub record Reductions (s : ℕ) (o p : List ℕ) : Type 0 where
  pub long : length o ≡ length p
  pub each : (i : ℕ) → Milder s (at o i) (at p i)

-- there is a reduction b that is no less than a reduction a, and due no later
pub record Within (a b : ℕ) : Type 0 where
  pub is_outstanding : 0 < b
  pub less : amount_of a ≤ amount_of b
  pub later : deadline_of b ≤ deadline_of a

-- each of the reductions o lies within one of the reductions p, whatever rests they are of, no two within the same; all of them, and those they lie within,
-- stand in slots below j; p has k slots
pub record Matched (k j : ℕ) (o p : List ℕ) : Type 0 where
  pub long : length p ≡ k
  pub to : ℕ → ℕ
  pub below : (x : ℕ) → 0 < at o x → x < j
  pub to_below : (x : ℕ) → 0 < at o x → to x < j
  pub within : (x : ℕ) → 0 < at o x → Within (at o x) (at p (to x))
  pub apart : (x y : ℕ) → 0 < at o x → 0 < at o y → to x ≡ to y → x ≡ y

-- the state x is at least as good as the state y
pub record Better (x y : State) : Type 0 where
  pub week : x.week ≡ y.week
  pub ended : y.ended ≤ x.ended
  pub short : x.short ≤ y.short
  pub weekly_before : y.before.weekly ≤ x.before.weekly
  pub regular_before : y.before.regular ≤ x.before.regular
  pub weekly : y.current.weekly ≤ x.current.weekly
  pub regular : y.current.regular ≤ x.current.regular

-- a state's numbers are no larger than the rules ask for or allow
pub record Small (st : State) : Type 0 where
  pub short : st.short ≤ shortened_at_most
  pub weekly_before : st.before.weekly ≤ weekly_at_least
  pub regular_before : st.before.regular ≤ regular_at_least
  pub weekly : st.current.weekly ≤ weekly_at_least
  pub regular : st.current.regular ≤ regular_at_least

-- a state at the rest of index j, in the week in which that starts
pub record AtRest (c : Course) (j : ℕ) (here : State) : Type 0 where
  pub within : j < count c
  pub small : Small here
  pub week : here.week ≡ week_of (at c.starts j)
  pub ended : here.ended ≤ at c.starts j

-- a week in which all is counted that rule 11 asks for, and the best state before a rest that starts there
abbrev pub full_counts : Counts
full_counts = record { weekly = weekly_at_least; regular = regular_at_least }

abbrev pub best_state : ℕ → State
best_state start = record { ended = start; short = 0; week = week_of start; before = full_counts; current = full_counts }
