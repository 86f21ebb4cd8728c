-- Inner: what the functions of this layer answer. Nobody has to believe it: no public contract cites it.
-- Assumes nothing.
use Rattle.std.specs.Prelude.{◌≡◌, Bool, true, false, not, List, [], ◌∷◌, ℕ, zero, suc, ◌+◌, ◌-◌, ◌*◌, ◌≤◌, ◌<◌, leb, ltb, eqb, length, get_or, set, Option, None, Some}
use Rattle.recording.specs.Tests.{◌and◌, ◌or◌, pick, one, all_of, any_of, all_below, count_of}
use Rattle.recording.specs.Rests.{long_rests_at_most}
use Rattle.recording.specs.Operations.{total_at_most}
use Rattle.recording.specs.Weeks.{week_start, week, week_of, inside}
use Rattle.recording.specs.declared.Span.{Span}
use Rattle.rules.specs.Broken.{unless}
use Rattle.rules.specs.Numbers.{rule_or_none}
use Rattle.rules.specs.Reading.{Entry, regular_minutes, standing_of, as_read, is_weekly, is_regular, entry_bytes, carrier_of, fields_in, entries}
use Rattle.rules.specs.ReadingRules.{least_net, rule7, weeks_to_compensate, compensated, shortened_at_most, rule9_from, in_gap, rule10_from, of_kind, weekly_at_least, regular_at_least, later_test}
use Rattle.rules.specs.declared.Kind.{Kind}
use Rattle.rules.specs.declared.Kind.TheVariants.{Daily, Weekly}
use Rattle.rules.specs.declared.Standing.{Standing}
use Rattle.rules.specs.declared.Standing.TheVariants.{Regular, Reduced}
use Rattle.rules_nets.specs.Nets.{net_at_most, counts_by}
use Rattle.rules_items.specs.declared.Item.{Item}
use Rattle.rules_items.specs.declared.LongRest.{LongRest}
use Rattle.rules_items.specs.declared.Tally.{Tally}
use Rattle.rules_items.specs.declared.rests.Rests.{Rests}
use Rattle.rules_items.specs.declared.WeekCounts.{WeekCounts}

-- an item as an entry
abbrev pub entry_by : Item → Entry
entry_by x = record {
  number = x.number;
  before = x.before;
  span = record { start = x.start; end = x.end };
  kind = x.kind;
  week = x.week;
  compensated_by = x.carrier;
  compensation = x.compensation;
}

-- the rest before the one of index i ends there, or at 0
abbrev pub end_before : List ℕ → ℕ → ℕ
end_before ends zero = 0
end_before ends (suc i) = get_or ends i 0

-- the item of index i, from the rests' starts, ends and numbers by rule 9, the reading and the compensations
abbrev pub item_at : List ℕ → List ℕ → List ℕ → List ℕ → List ℕ → ℕ → Item
item_at starts ends nets reading compensations i = record {
  number = i + 1;
  before = end_before ends i;
  start = get_or starts i 0;
  end = get_or ends i 0;
  net = get_or nets i 0;
  kind = get_or reading (entry_bytes * i) 0;
  week = get_or reading (entry_bytes * i + 1) 0;
  carrier = carrier_of (get_or reading (entry_bytes * i + 2) 0) (get_or reading (entry_bytes * i + 3) 0);
  compensation = get_or compensations i 0;
}

-- an item whose numbers are in bounds
abbrev pub compensation_at_most : ℕ
compensation_at_most = 3000000

pub record Sane (x : Item) : Type 0 where
  pub before : x.before ≤ total_at_most
  pub ordered : x.start ≤ x.end
  pub end : x.end ≤ total_at_most
  pub week : x.week ≤ 255
  pub compensation : x.compensation ≤ compensation_at_most
  pub net : x.net ≤ net_at_most

-- ---- the standing of a weekly rest of so many minutes, with a compensation
abbrev pub standing_for : ℕ → ℕ → Standing
standing_for minutes compensation = standing_of (ltb minutes (regular_minutes + compensation)) (regular_minutes + compensation - minutes)

-- ---- an item as a long rest, and the rules of one
abbrev pub rest_by : Item → LongRest
rest_by x = record { start = x.start; end = x.end; kind = as_read (entry_by x) }

abbrev pub enough_by : LongRest → ℕ → Bool
enough_by r compensation = leb (least_net r.kind + compensation) (r.end - r.start)

abbrev pub end_at : List ℕ → ℕ → ℕ → ℕ
end_at ends k zero = 0
end_at ends k (suc i) = pick (ltb i k) (get_or ends i 0) 0

abbrev pub time_by : Kind → ℕ → ℕ → ℕ → ℕ → Bool
time_by Daily week carrier end s = true
time_by (Weekly Regular) week carrier end s = eqb carrier 0
time_by (Weekly (Reduced d)) week carrier end s = pick (eqb carrier 0) (ltb s (week_start (week + weeks_to_compensate))) (leb end (week_start (week + weeks_to_compensate)))

abbrev pub gap_by : ℕ → LongRest → Bool
gap_by q r = not (is_weekly r.kind) or in_gap q r.start

-- each number of a list is at most n
abbrev pub Below : ℕ → List ℕ → Type 0
Below n xs = (i : ℕ) → get_or xs i 0 ≤ n

-- ---- the smaller of two broken rules, where 0 is none
abbrev pub smaller : ℕ → ℕ → ℕ
smaller zero b = b
smaller (suc a) zero = suc a
smaller (suc a) (suc b) = pick (leb a b) (suc a) (suc b)

-- ---- a tally told by numbers: the smallest broken rule or 0, the shortened rests, the end of the last weekly rest
pub record Tallied : Type 0 where
  pub rule : ℕ
  pub short : ℕ
  pub last : ℕ

abbrev pub tallied : Tally → Tallied
tallied t = record { rule = rule_or_none t.rule; short = t.short; last = t.last }

-- ---- rules 8 to 10, an entry more: as a daily rest it counts under rule 9 or not, the carrier ends at `end`, S is s
abbrev pub short_by : Item → Bool
short_by x = ltb (x.end - x.start) (x.net + x.compensation)

unfoldable pub short_after : Bool → ℕ → Entry → ℕ
short_after short n e = pick (is_weekly (as_read e)) 0 (n + one short)

unfoldable pub broken_by : Bool → ℕ → ℕ → Tallied → Entry → ℕ
broken_by short s end t e =
    unless (time_by (as_read e) e.week e.compensated_by end s) 8
    (unless (leb (short_after short t.short e) shortened_at_most) 9
    (unless (not (is_weekly (as_read e)) or in_gap t.last e.span.start) 10 0))

unfoldable pub tally_by : Bool → ℕ → ℕ → Tallied → Entry → Tallied
tally_by short s end t e = record {
  rule = smaller t.rule (broken_by short s end t e);
  short = short_after short t.short e;
  last = pick (is_weekly (as_read e)) e.span.end t.last;
}

-- ---- a payment to a carrier, and a rest counted in its week
abbrev pub added_to : List ℕ → ℕ → ℕ → List ℕ
added_to compensations zero d = compensations
added_to compensations (suc c) d = set compensations c (get_or compensations c 0 + d)

abbrev pub incremented : Bool → List ℕ → ℕ → List ℕ
incremented true counts w = set counts w (get_or counts w 0 + 1)
incremented false counts w = counts

-- ---- the long rests of index i to k, from their starts and ends
abbrev pub span_at : List ℕ → List ℕ → ℕ → Span
span_at starts ends i = record { start = get_or starts i 0; end = get_or ends i 0 }

unfoldable pub spans_from : List ℕ → List ℕ → ℕ → ℕ → List Span
spans_from starts ends i zero = []
spans_from starts ends i (suc n) = span_at starts ends i ∷ spans_from starts ends (suc i) n

abbrev pub spans_in : List ℕ → List ℕ → ℕ → List Span
spans_in starts ends k = spans_from starts ends 0 k

-- those of a struct
abbrev pub spans_among : Rests → List Span
spans_among r = spans_in r.starts.now r.ends.now (length r.starts.now)

-- they stand in the slices, in order, within the limit
pub record Laid (starts ends nets reading compensations : List ℕ) (k : ℕ) : Type 0 where
  pub few : k ≤ long_rests_at_most
  pub starts_in : k ≤ length starts
  pub ends_in : k ≤ length ends
  pub nets_in : k ≤ length nets
  pub compensations_in : k ≤ length compensations
  pub reading_in : length reading ≡ entry_bytes * k
  pub ordered : (i : ℕ) → i < k → get_or starts i 0 ≤ get_or ends i 0
  pub limited : (i : ℕ) → i < k → get_or ends i 0 ≤ total_at_most
  pub numbered : (i : ℕ) → i < k → get_or nets i 0 ≤ net_at_most

-- all zeros
abbrev pub Zeros : List ℕ → Type 0
Zeros xs = (i : ℕ) → get_or xs i 0 ≡ 0

-- a place for each value of a week's byte, and nothing is counted
pub record Fresh (counts : WeekCounts) : Type 0 where
  pub weekly : Zeros counts.weekly
  pub regular : Zeros counts.regular
  pub weekly_size : length counts.weekly ≡ 256
  pub regular_size : length counts.regular ≡ 256

-- rules 8 to 10 from a tally on, by which daily rests count under rule 9
unfoldable pub test_from : (Entry → Bool) → ℕ → List Span → Tallied → List Entry → ℕ
test_from counts s rs t es =
    smaller t.rule
    (unless (all_of (compensated s rs) es) 8 (unless (rule9_from counts t.short es) 9 (unless (rule10_from t.last s es) 10 0)))

abbrev pub fresh_tally : Tallied
fresh_tally = record { rule = 0; short = 0; last = 0 }

-- no week has more than n of either kind
abbrev pub Few : ℕ → WeekCounts → Type 0
Few n counts = Below n counts.weekly × Below n counts.regular

-- what the walk over the rests answers: a rest is too short net of its compensation, or all are through, with what is left of rules 8 to 10 and
-- the rests counted in each week
pub record Through (counts : Entry → Bool) (s : ℕ) (rs : List Span) (es : List Entry) (t : Tallied) (counts' : WeekCounts) : Type 0 where
  pub seven : rule7 es ≡ true
  pub tally : test_from counts s rs fresh_tally es ≡ test_from counts s rs t []
  pub last : t.last ≤ total_at_most
  pub weeklies : (w : ℕ) → w < 256 → get_or counts'.weekly w 0 ≡ count_of (of_kind is_weekly w) es
  pub regulars : (w : ℕ) → w < 256 → get_or counts'.regular w 0 ≡ count_of (of_kind is_regular w) es
  pub few : Few compensation_at_most counts'

abbrev pub Walked : (Entry → Bool) → ℕ → List Span → List Entry → Option Tally → WeekCounts → Type 0
Walked counts s rs es None counts' = rule7 es ≡ false
Walked counts s rs es (Some t) counts' = Through counts s rs es (tallied t) counts'

-- ---- rule 11 by the counts of each week
abbrev pub counted_by : (ℕ → Bool) → List ℕ → ℕ → ℕ
counted_by rest_week counts w = pick (rest_week w) 1 (get_or counts w 0)

unfoldable pub enough_with : (ℕ → Bool) → List ℕ → List ℕ → ℕ → Bool
enough_with rest_week weekly regular w =
    leb weekly_at_least (counted_by rest_week weekly w + counted_by rest_week weekly (w + 1)) and
    leb regular_at_least (counted_by rest_week regular w + counted_by rest_week regular (w + 1))

unfoldable pub rule11_with : (ℕ → Bool) → ℕ → List ℕ → List ℕ → Bool
rule11_with rest_week s weekly regular = all_below (week_of s) (λ w. not (leb (week_start (w + 2)) s) or enough_with rest_week weekly regular w)

-- the weeks that lie inside a long rest
abbrev pub rest_weeks : List Span → ℕ → Bool
rest_weeks rs w = any_of (inside (week w)) rs

-- ---- rules 6 to 11 by the rests that stand in three slices
abbrev pub later_by : List ℕ → List ℕ → List ℕ → List ℕ → ℕ → ℕ → ℕ
later_by starts ends nets reading k s =
    later_test (rest_weeks (spans_in starts ends k)) (counts_by nets) s (spans_in starts ends k) (entries (spans_in starts ends k) (fields_in reading))
