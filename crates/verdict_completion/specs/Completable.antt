-- Inner: whether the long rests from one on can be read so that rules 6 to 11 hold, with the carrier of a reduced rest left open until a later
-- rest compensates for it. Nobody has to believe it: proofs/ shows that it says whether a lawful reading exists.
-- Assumes nothing.
use Rattle.std.specs.Prelude.{◌≡◌, ◌⊎◌, Bool, List, [], ℕ, zero, suc, ◌+◌, ◌-◌, ◌*◌, ◌/◌, ◌%◌, ◌≤◌, ◌<◌, leb, ltb, length, get_or, set}
use Rattle.recording.specs.Tests.{pick, one}
use Rattle.recording.specs.Weeks.{week_start, week_of}
use Rattle.recording.specs.declared.Span.{Span}
use Rattle.rules.specs.Reading.{Entry, regular_minutes}
use Rattle.rules.specs.ReadingRules.{least_net, weeks_to_compensate, shortened_at_most, weekly_gap}
use Rattle.rules.specs.declared.Kind.TheVariants.{Daily, Weekly}
use Rattle.rules.specs.declared.Standing.TheVariants.{Regular}
use Rattle.rules_nets.specs.Nets.{net_at_most, counts_by}
use Rattle.rules_items.specs.Items.{spans_in, rest_weeks}
use Rattle.verdict_completion.specs.declared.State.{State}
use Rattle.verdict_completion.specs.States.{advance, After, after_daily, after_weekly}
use Rattle.verdict_completion.specs.Runs.{Ends}

-- What stays the same: the long rests' starts and ends, the least net length at which each is no shortened daily rest, the compensation of each from
-- carriers decided before, and S.
pub record Course : Type 0 where
  pub starts : List ℕ
  pub ends : List ℕ
  pub nets : List ℕ
  pub compensations : List ℕ
  pub judged : ℕ

-- long rests that have no compensation yet
abbrev pub rests_only : List ℕ → List ℕ → List ℕ → ℕ → Course
rests_only starts ends nets s = record { starts = starts; ends = ends; nets = nets; compensations = []; judged = s }

abbrev pub at : List ℕ → ℕ → ℕ
at xs i = get_or xs i 0

module _ (c : Course) where
  abbrev pub count : ℕ
  count = length c.starts

  abbrev pub spans_of : List Span
  spans_of = spans_in c.starts c.ends count

  abbrev pub rest_week : ℕ → Bool
  rest_week = rest_weeks spans_of

  -- which daily rests count under rule 9
  abbrev pub counts : Entry → Bool
  counts = counts_by c.nets

  abbrev pub length_at : ℕ → ℕ
  length_at j = at c.ends j - at c.starts j

-- An outstanding reduction is a word: so many units of the week at whose start it is due, and the minutes. 0 is none.
abbrev pub reduction_unit : ℕ
reduction_unit = 2048

abbrev pub amount_of : ℕ → ℕ
amount_of reduction = reduction % reduction_unit

abbrev pub deadline_of : ℕ → ℕ
deadline_of reduction = week_start (reduction / reduction_unit)

-- the reduction of a weekly rest of so many minutes, with a compensation, counted in week w
unfoldable pub outstanding_of : ℕ → ℕ → ℕ → ℕ
outstanding_of minutes compensation w =
    pick (leb (regular_minutes + compensation) minutes) 0 ((w + weeks_to_compensate) * reduction_unit + (regular_minutes + compensation - minutes))

-- a reduction is outstanding that was due before t
unfoldable pub Overdue : List ℕ → ℕ → Type 0
Overdue outstanding t = (i : ℕ) × (0 < at outstanding i) × (deadline_of (at outstanding i) < t)

-- of m reductions from index i on each is compensated for by a rest of so many minutes, or left; F is asked of the compensation and of what is still outstanding
unfoldable pub Compensates : (ℕ → List ℕ → Type 0) → ℕ → ℕ → ℕ → ℕ → List ℕ → Type 0
Compensates F minutes zero i compensation outstanding = F compensation outstanding
Compensates F minutes (suc m) i compensation outstanding =
    ((0 < at outstanding i) × (least_net Daily + (compensation + amount_of (at outstanding i)) ≤ minutes) ×
    Compensates F minutes m (i + 1) (compensation + amount_of (at outstanding i)) (set outstanding i 0))
    ⊎ Compensates F minutes m (i + 1) compensation outstanding

module _ (c : Course) where
  -- whether the rest of index j, daily and with a compensation, is shortened
  abbrev pub shortens : ℕ → ℕ → Bool
  shortens j compensation = ltb (length_at c j) (at c.nets j + compensation)

  -- all rests are read
  abbrev pub Closes : State → List ℕ → Type 0
  Closes st outstanding = Ends (rest_week c) c.judged st × (Overdue outstanding (c.judged + 1) → ⊥)

  -- the rest of index j is read as daily or as weekly in week w, with a compensation, from the state in the week in which it starts; K is asked of
  -- what follows
  module _ (K : State → List ℕ → Type 0) (j : ℕ) (here : State) where
    pub record ReadDaily (compensation : ℕ) (outstanding : List ℕ) : Type 0 where
      pub net : least_net Daily + compensation ≤ length_at c j
      pub few : here.short + one (shortens j compensation) ≤ shortened_at_most
      pub then : K (after_daily (shortens j compensation) here) outstanding

    abbrev pub Counted : ℕ → ℕ → List ℕ → Type 0
    Counted w compensation outstanding =
        After (advance (rest_week c) (w - here.week) here)
        (λ there. K (after_weekly (rest_week c w) (leb (regular_minutes + compensation) (length_at c j)) (at c.ends j) there) (set outstanding j (outstanding_of (length_at c j) compensation w)))

    pub record ReadWeekly (compensation : ℕ) (outstanding : List ℕ) : Type 0 where
      pub net : least_net (Weekly Regular) + compensation ≤ length_at c j
      pub week : ℕ
      pub from : at c.starts j < week_start (week + 1)
      pub upto : week_start week < at c.ends j
      pub then : Counted week compensation outstanding

    abbrev pub Reads : ℕ → List ℕ → Type 0
    Reads compensation outstanding = ReadDaily compensation outstanding ⊎ ReadWeekly compensation outstanding

    abbrev pub Tries : List ℕ → Type 0
    Tries outstanding = Compensates Reads (length_at c j) j 0 (at c.compensations j) outstanding

  -- n rests are left, from index j on
  unfoldable pub Completable : ℕ → ℕ → State → List ℕ → Type 0
  Completable zero j st outstanding = Closes st outstanding
  Completable (suc n) j st outstanding =
      (at c.starts j ≤ st.ended + weekly_gap)
      × (Overdue outstanding (at c.ends j) → ⊥)
      × After (advance (rest_week c) (week_of (at c.starts j) - st.week) st) (λ here. Tries (Completable n (suc j)) j here outstanding)

-- the long rests lie in order, within the judged stretch, and their numbers are in bounds
pub record Lies (c : Course) : Type 0 where
  pub ends_too : length c.ends ≡ length c.starts
  pub nets_too : length c.nets ≡ length c.starts
  pub net : (i : ℕ) → i < count c → at c.nets i ≤ net_at_most
  pub proper : (i : ℕ) → i < count c → at c.starts i < at c.ends i
  pub ordered : (i : ℕ) → suc i < count c → at c.ends i ≤ at c.starts (suc i)
  pub judged : (i : ℕ) → i < count c → at c.ends i ≤ c.judged

-- a state before the rest of index j, or after the last rest
pub record Stands (c : Course) (j : ℕ) (st : State) : Type 0 where
  pub short : st.short ≤ shortened_at_most
  pub ended : (i : ℕ) → j ≤ i → i < count c → st.ended ≤ at c.starts i
  pub week : (i : ℕ) → j ≤ i → i < count c → st.week ≤ week_of (at c.starts i)
  pub week-judged : st.week ≤ week_of c.judged
