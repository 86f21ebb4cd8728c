-- Inner: rule 9 by one number for each long rest. Nobody has to believe it: proofs/NetLaws.antt of rules_fixed shows that the number says `shortened`,
-- which is rule 9 as it is said to readers.
-- Assumes nothing.
use Rattle.std.specs.Prelude.{Bool, true, false, not, List, [], ◌∷◌, ℕ, ◌+◌, ◌-◌, leb, ltb, eqb, get_or, set}
use Rattle.recording.specs.Tests.{◌or◌, pick}
use Rattle.recording.specs.Rests.{closed_rests, is_long, long_rests}
use Rattle.recording.specs.Weeks.{is_rest}
use Rattle.recording.specs.Operations.{total_at_most}
use Rattle.recording.specs.declared.Span.{Span}
use Rattle.rules.specs.Reading.{Entry, minutes}
use Rattle.rules.specs.ReadingRules.{daily_window, is_first_period, split_day, full_portion, second_period}
use Rattle.rules_nets.specs.declared.OpenDay.{OpenDay}

-- The least net length at which a daily rest is not shortened: the portion that it needs, by whether its day is split, where the window from P
-- reaches that far; where it does not, a minute more than the rest has, so that no net length reaches it.
abbrev pub needed_portion : Bool → ℕ
needed_portion split = pick split second_period full_portion

unfoldable pub regular_net : Bool → ℕ → ℕ → ℕ → ℕ
regular_net split p start end = pick (leb (start + needed_portion split) (p + daily_window)) (needed_portion split) (end - start + 1)

-- none is more than a minute more than the longest rest has
abbrev pub net_at_most : ℕ
net_at_most = total_at_most + 1

-- a day from P to a rest's start, or a rest
abbrev pub span_of : ℕ → ℕ → Span
span_of start end = record { start = start; end = end }

-- the numbers of long rests in order, where P of the first is p and the rests that are not open are `closed`
unfoldable pub nets_from : List Span → ℕ → List Span → List ℕ
nets_from closed p [] = []
nets_from closed p (s ∷ ss) = regular_net (split_day closed (span_of p s.start)) p s.start s.end ∷ nets_from closed s.end ss

unfoldable pub nets_of : List ℕ → List ℕ
nets_of ms = nets_from (closed_rests ms) 0 (long_rests ms)

-- a daily rest counts under rule 9 by its number
unfoldable pub counts_by : List ℕ → Entry → Bool
counts_by nets e = ltb (minutes e) (get_or nets (e.number - 1) 0 + e.compensation)

-- ---- n minutes of an activity end the rest before them
unfoldable pub closes : ℕ → ℕ → Bool
closes activity n = pick (eqb n 0) false (not (is_rest activity))

-- ---- the walk over the rests that are not open: the day that runs after one more, and the numbers from a day on
abbrev pub fresh_day : ℕ → OpenDay
fresh_day p = record { start = p; held = false }

abbrev pub day_then : Bool → OpenDay → Span → OpenDay
day_then true d r = fresh_day r.end
day_then false d r = record { start = d.start; held = d.held or is_first_period r }

unfoldable pub day_on : OpenDay → Span → OpenDay
day_on d r = day_then (is_long r) d r

unfoldable pub nets_on : OpenDay → List Span → List ℕ
nets_on d [] = []
nets_on d (r ∷ rs) = pick (is_long r) (regular_net d.held d.start r.start r.end ∷ nets_on (day_on d r) rs) (nets_on (day_on d r) rs)

-- the number of a rest, if it is long, at the place k
unfoldable pub with_net : OpenDay → Span → ℕ → List ℕ → List ℕ
with_net d r k nets = pick (is_long r) (set nets k (regular_net d.held d.start r.start r.end)) nets
