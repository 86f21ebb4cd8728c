-- Inner: what the functions of this layer answer. Nobody has to believe it: no public contract cites it.
-- Assumes nothing.
use Rattle.std.specs.Prelude.{◌≡◌, ◌⊎◌, Bool, true, false, List, map, ℕ, zero, suc, ◌+◌, ◌≤◌, ◌<◌, ltb, max, length, get_or, take, Option, None, Some}
use Rattle.recording.specs.Tests.{pick}
use Rattle.recording.specs.Words.{rest, minutes_of}
use Rattle.recording.specs.Rests.{judged_end, long_rests, long_rests_at_most}
use Rattle.recording.specs.Weeks.{week_start, week_of}
use Rattle.recording.specs.declared.Span.{Span}
use Rattle.rules.specs.Fixed.{fixed_test}
use Rattle.rules.specs.Numbers.{rule_or_none}
use Rattle.rules.specs.declared.Rule.{Rule}
use Rattle.rules_limits.specs.Account.{account_from, opening}
use Rattle.rules.specs.Verdict.{lawful_fields, prefix}
use Rattle.rules.specs.Order.{Fields}
use Rattle.rules.specs.ReadingRules.{weekly_gap}
use Rattle.verdict_completion.specs.declared.course.LongRests.{LongRests}
use Rattle.verdict_completion.specs.Completable.{Course, at, count, rests_only}
use Rattle.rules_nets.specs.Nets.{nets_of}
use Rattle.verdict_completion.specs.First.{KeptBy}
use Rattle.verdict_breach.specs.declared.Rests.{Rests}

-- ---- long rests without a compensation
abbrev pub course_in : LongRests → Course
course_in r = rests_only r.starts.now r.ends.now r.nets.now r.judged

-- ---- a reading of long rests, by its fields, that keeps rules 6 to 11, and whether there is one
abbrev pub HasKept : Course → Type 0
HasKept c = (fields : List ℕ) × Fields (count c) fields × KeptBy c fields

pub record SaysWhether (c : Course) (r : Bool) : Type 0 where
  pub yes : r ≡ true → HasKept c
  pub no : r ≡ false → (fields : List ℕ) → KeptBy c fields → ⊥

-- the same, where the fixed rules hold; where one is broken the answer is no
abbrev pub ByRule : Course → Option Rule → Bool → Type 0
ByRule c None r = SaysWhether c r
ByRule c (Some rule) r = r ≡ false

-- a lawful reading; and whether there is one, where the fixed rules hold
abbrev pub HasReading : List ℕ → Type 0
HasReading ms = (fields : List ℕ) × Fields (length (long_rests ms)) fields × (lawful_fields ms fields ≡ true)

pub record Readable (ms : List ℕ) (r : Bool) : Type 0 where
  pub yes : r ≡ true → fixed_test ms ≡ 0 → HasReading ms
  pub no : r ≡ false → HasReading ms → ⊥

-- a stretch without a lawful reading, below which the fixed rules hold
pub record Bound (ms : List ℕ) (high : ℕ) : Type 0 where
  pub within : high ≤ length ms
  pub fixed : (m : ℕ) → m < high → fixed_test (prefix m ms) ≡ 0
  pub broken : HasReading (prefix high ms) → ⊥

-- ---- up to the judged end t rules 8, 10 and 11 ask no more of rests with these ends than up to s
pub record AsksNoMore (ends : List ℕ) (s t : ℕ) : Type 0 where
  pub week : week_of t ≤ week_of s
  pub from_start : s ≤ weekly_gap → t ≤ weekly_gap
  pub from_rest : (i : ℕ) → i < length ends → s ≤ at ends i + weekly_gap → t ≤ at ends i + weekly_gap

-- the sooner of another judged end and the first past the gap that rule 10 allows after a weekly rest, if that is past s
pub record Sooner (ended s other r : ℕ) : Type 0 where
  pub past : s < other → s < r
  pub least : r ≤ other
  pub gap : s ≤ ended + weekly_gap → r ≤ ended + weekly_gap + 1

-- r is past s, and no judged end before it is one by which they ask more
pub record NextDemand (ends : List ℕ) (s r : ℕ) : Type 0 where
  pub past : s < r
  pub week : r ≤ week_start (week_of s + 1)
  pub from_start : s ≤ weekly_gap → r ≤ weekly_gap + 1
  pub from_rest : (i : ℕ) → i < length ends → s ≤ at ends i + weekly_gap → r ≤ at ends i + weekly_gap + 1

-- ---- the search for the breach minute. The long rests of a recording, in three lists
pub record AllRests (ms starts ends nets : List ℕ) : Type 0 where
  pub begun : starts ≡ map (λ (r : Span). r.start) (long_rests ms)
  pub ended : ends ≡ map (λ (r : Span). r.end) (long_rests ms)
  pub numbered : nets ≡ nets_of ms

abbrev pub AreAllRests : List ℕ → LongRests → Type 0
AreAllRests ms r = AllRests ms r.starts.now r.ends.now r.nets.now

-- with S, the smallest fixed rule that is broken, and the first such breach
pub record Whole (ms starts ends nets : List ℕ) (r : Rests) : Type 0 where
  pub rests : AllRests ms starts ends nets
  pub judged : r.judged ≡ judged_end ms
  pub fixed : rule_or_none r.rule ≡ fixed_test ms
  pub first : r.first ≡ (account_from opening ms).first

-- three slices have room for them
pub record Roomy (words starts ends nets : List ℕ) : Type 0 where
  pub begun : length (long_rests (minutes_of words)) ≤ length starts
  pub ended : length (long_rests (minutes_of words)) ≤ length ends
  pub numbered : length (long_rests (minutes_of words)) ≤ length nets

-- the same in front of three slices, with their count
pub record InFront (words : List ℕ) (r : Rests) (starts ends nets : List ℕ) : Type 0 where
  pub count : r.count ≡ length (long_rests (minutes_of words))
  pub few : r.count ≤ long_rests_at_most
  pub whole : Whole (minutes_of words) (take r.count starts) (take r.count ends) (take r.count nets) r

-- the first n of them, where S is s
abbrev pub first_rests : List ℕ → List ℕ → List ℕ → ℕ → ℕ → Course
first_rests starts ends nets n s = rests_only (take n starts) (take n ends) (take n nets) s

-- the shortest stretch that has n of them
abbrev pub day_start : List ℕ → ℕ → ℕ
day_start ends zero = 0
day_start ends (suc i) = at ends i + 1

-- whether it lies below a bound and has a reading that keeps rules 6 to 11
pub record DayReadable (starts ends nets : List ℕ) (bound n : ℕ) (r : Bool) : Type 0 where
  pub yes : r ≡ true → (day_start ends n < bound) × HasKept (first_rests starts ends nets n (day_start ends n))
  pub no : r ≡ false → day_start ends n < bound → HasKept (first_rests starts ends nets n (day_start ends n)) → ⊥

abbrev pub IsDayReadable : LongRests → ℕ → ℕ → Bool → Type 0
IsDayReadable r = DayReadable r.starts.now r.ends.now r.nets.now

-- it does, and the next such stretch does not
pub record LastDay (starts ends nets : List ℕ) (bound n : ℕ) : Type 0 where
  pub within : n ≤ length starts
  pub below : day_start ends n < bound
  pub kept : HasKept (first_rests starts ends nets n (day_start ends n))
  pub next : n < length starts → day_start ends (suc n) < bound → HasKept (first_rests starts ends nets (suc n) (day_start ends (suc n))) → ⊥

abbrev pub IsLastDay : LongRests → ℕ → ℕ → Type 0
IsLastDay r = LastDay r.starts.now r.ends.now r.nets.now

-- the stretch at which the next rest starts, or the last below the bound
pub record DayTop (starts : List ℕ) (n bound r : ℕ) : Type 0 where
  pub below : r < bound
  pub before : n < length starts → r ≤ at starts n
  pub is : ((n < length starts) × (r ≡ at starts n)) ⊎ (suc r ≡ bound)

-- of the judged ends past `from` and up to `top`, the first that leaves no reading of these rests, or the one past them
pub record FirstWithout (starts ends nets : List ℕ) (from top r : ℕ) : Type 0 where
  pub past : from < r
  pub within : r ≤ top + 1
  pub before : HasKept (rests_only starts ends nets from) → (t : ℕ) → suc t ≡ r → HasKept (rests_only starts ends nets t)
  pub there : r ≤ top → HasKept (rests_only starts ends nets r) → ⊥

abbrev pub IsFirstWithout : LongRests → ℕ → ℕ → Type 0
IsFirstWithout r = FirstWithout r.starts.now r.ends.now r.nets.now r.judged

-- of the stretches from x on, the first that ends in a run of an activity, which has the minutes from one to another
abbrev pub active_in : ℕ → ℕ → ℕ → ℕ → Option ℕ
active_in zero from to x = None
active_in (suc a) from to x = pick (ltb to (max x (from + 1))) None (Some (max x (from + 1)))

-- of the stretches from x on, the first whose last minute is not rest, or the bound
pub record NextActive (ms : List ℕ) (x bound r : ℕ) : Type 0 where
  pub from : x ≤ r
  pub within : r ≤ bound
  pub resting : (i : ℕ) → x ≤ suc i → suc i < r → get_or ms i 0 ≡ rest
  pub active : r < bound → (i : ℕ) → suc i ≡ r → get_or ms i 0 ≡ rest → ⊥
