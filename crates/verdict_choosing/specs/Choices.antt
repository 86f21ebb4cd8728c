-- Inner: the first reading, entry by entry: which entries of a rest can be gone on with, and what is left to read after a first part.
-- Nobody has to believe it: no public contract cites it.
-- Assumes nothing.
use Rattle.std.specs.Prelude.{◌≡◌, ◌⊎◌, List, ◌∷◌, ℕ, suc, ◌+◌, ◌-◌, ◌≤◌, ◌<◌, leb, length, Option, None, Some}
use Rattle.recording.specs.Tests.{one}
use Rattle.recording.specs.Weeks.{week_start}
use Rattle.recording.specs.Operations.{total_at_most}
use Rattle.rules.specs.Reading.{Entry, daily_kind, weekly_kind, regular_minutes, compensation_of, entries_from}
use Rattle.rules.specs.ReadingRules.{least_net, shortened_at_most, weeks_to_compensate}
use Rattle.rules.specs.Order.{Fields, NotAfter}
use Rattle.rules.specs.declared.Kind.TheVariants.{Daily, Weekly}
use Rattle.rules.specs.declared.Standing.TheVariants.{Regular}
use Rattle.rules_entries.specs.Entries.{with_entry}
use Rattle.rules_items.specs.Items.{end_before, spans_from, added_to}
use Rattle.verdict_completion.specs.declared.State.{State}
use Rattle.verdict_completion.specs.States.{advance, After, after_daily, after_weekly}
use Rattle.verdict_completion.specs.Runs.{Kept}
use Rattle.verdict_completion.specs.Completable.{Course, at, count, spans_of, rest_week, counts, length_at, shortens, ReadDaily, Tries}
use Rattle.verdict_search.specs.Search.{with_compensations, Later, Before}
use Rattle.verdict_merging.specs.Merging.{Ready}
use Rattle.verdict_merging.specs.declared.Room.{Room}
use Rattle.verdict_choosing.specs.declared.Choice.{Choice}

module _ (c : Course) where
  -- the compensation of the rest of index j, and by how many minutes it is reduced as a weekly rest
  abbrev pub compensation_at : ℕ → ℕ
  compensation_at j = at c.compensations j

  abbrev pub reduction_at : ℕ → ℕ
  reduction_at j = regular_minutes + compensation_at j - length_at c j

  -- the reduction of the rest of index j adds to the compensation of the rest of number x, if that is one
  abbrev pub carrying : ℕ → ℕ → Course
  carrying j x = with_compensations c (added_to c.compensations x (reduction_at j))

  -- the rests from that of index j on can be read, from a state in the week in which it starts
  abbrev pub CanBeRead : ℕ → State → List ℕ → Type 0
  CanBeRead j here outstanding = Tries c (Later c j) j here outstanding

  -- the rest of index j is daily, and the later ones can be read
  abbrev pub CanBeDaily : ℕ → State → List ℕ → Type 0
  CanBeDaily j here outstanding = ReadDaily c (Later c j) j here (compensation_at j) outstanding

  -- the carrier of the rest of index j, weekly and counted in week w: none, or a later rest that ends by the deadline
  pub data CarriedBy (j w x : ℕ) : Type 0 where
    alone : x ≡ 0 → (regular_minutes + compensation_at j ≤ length_at c j) ⊎ (c.judged < week_start (w + weeks_to_compensate)) → CarriedBy j w x
    later : (i : ℕ) → x ≡ suc i → j < i → i < count c → length_at c j < regular_minutes + compensation_at j
        → at c.ends i ≤ week_start (w + weeks_to_compensate) → CarriedBy j w x

  -- the state after it
  abbrev pub after_counted : ℕ → ℕ → State → State
  after_counted j w there = after_weekly (rest_week c w) (leb (regular_minutes + compensation_at j) (length_at c j)) (at c.ends j) there

  -- it is weekly, counted in week w and with carrier x, and the later rests can be read
  pub record CanBeWeekly (j : ℕ) (here : State) (outstanding : List ℕ) (w x : ℕ) : Type 0 where
    pub net : least_net (Weekly Regular) + compensation_at j ≤ length_at c j
    pub from : at c.starts j < week_start (w + 1)
    pub upto : week_start w < at c.ends j
    pub carried : CarriedBy j w x
    pub then : After (advance (rest_week c) (w - here.week) here) (λ there. Later (carrying j x) j (after_counted j w there) outstanding)

  -- x is 0 or the number of a rest, and the reduction of the rest of index j fits into that rest, beside its compensation and what it needs itself
  pub record CanHold (j x : ℕ) : Type 0 where
    pub low : x ≤ count c
    pub room : (i : ℕ) → x ≡ suc i → least_net Daily + (compensation_at i + reduction_at j) ≤ length_at c i

  -- the rest of index j has a minute in week w, and its reduction fits
  pub record Fits (j w x : ℕ) : Type 0 where
    pub from : at c.starts j < week_start (w + 1)
    pub upto : week_start w < at c.ends j
    pub holds : CanHold j x

-- a week and a carrier that do not stand after others
pub data NotPast (w x w' x' : ℕ) : Type 0 where
  sooner : w < w' → NotPast w x w' x'
  same : w ≡ w' → x ≤ x' → NotPast w x w' x'

-- w and x are the first week and carrier with which the rest of index j can be gone on with, if the rests can be read at all
pub record FirstWeekly (c : Course) (j : ℕ) (here : State) (outstanding : List ℕ) (w x : ℕ) : Type 0 where
  pub goes : CanBeRead c j here outstanding → CanBeWeekly c j here outstanding w x
  pub fits : Fits c j w x
  pub first : (w' x' : ℕ) → CanBeWeekly c j here outstanding w' x' → NotPast w x w' x'

-- the same of an answer; where there is none it can be gone on with none
abbrev pub FirstChoice : Course → ℕ → State → List ℕ → Option Choice → Type 0
FirstChoice c j here outstanding None = (w x : ℕ) → CanBeWeekly c j here outstanding w x → ⊥
FirstChoice c j here outstanding (Some choice) = FirstWeekly c j here outstanding choice.week choice.carrier

-- ---- what is left to read
module _ (c : Course) where
  -- n rests from index j on, after the entries of the past, keep rules 6 to 11 with these fields
  abbrev pub KeepsFrom : ℕ → ℕ → State → List Entry → List ℕ → Type 0
  KeepsFrom n j st past fields =
      Kept (rest_week c) (counts c) c.judged (spans_of c) st (entries_from (suc j) (end_before c.ends j) past (spans_from c.starts c.ends j n) fields)

  -- the first fields for them
  pub record LeastFrom (n j : ℕ) (st : State) (past : List Entry) (r : List ℕ) : Type 0 where
    pub bounded : Fields n r
    pub keeps : KeepsFrom n j st past r
    pub first : (t : List ℕ) → Fields n t → KeepsFrom n j st past t → NotAfter r t

  -- before the rest of index j, in a state: the first reading goes on with r
  pub record Ahead (j : ℕ) (st : State) (past : List Entry) (r : List ℕ) : Type 0 where
    pub left : ℕ
    pub counts : left + j ≡ count c
    pub least : LeastFrom left j st past r
    pub compensations : (i : ℕ) → j ≤ i → at c.compensations i ≡ compensation_of (suc i) past

-- an entry more of the first reading
pub record Placed (c : Course) (j : ℕ) (st : State) (past : List Entry) (r reading reading' : List ℕ) : Type 0 where
  pub entry : Entry
  pub kind : ℕ
  pub week : ℕ
  pub carrier : ℕ
  pub rest : List ℕ
  pub begins : r ≡ kind ∷ week ∷ carrier ∷ rest
  pub written : reading' ≡ with_entry reading j kind week carrier
  pub ahead : Ahead c (suc j) st (entry ∷ past) rest

-- ---- what the functions answer
-- x is the first number of which P holds, where R does; Q holds of it at any rate
pub record IsFirst (R : Type 0) (P Q : ℕ → Type 0) (x : ℕ) : Type 0 where
  pub goes : R → P x
  pub fits : Q x
  pub first : (y : ℕ) → P y → x ≤ y

-- the same of an answer; where there is none P holds of none
abbrev pub FirstOf : Type 0 → (ℕ → Type 0) → (ℕ → Type 0) → Option ℕ → Type 0
FirstOf R P Q None = (y : ℕ) → P y → ⊥
FirstOf R P Q (Some x) = IsFirst R P Q x

module _ (c : Course) where
  -- each long rest has a compensation, within the limits
  pub record Limited : Type 0 where
    pub one_each : length c.compensations ≡ count c
    pub low : (i : ℕ) → at c.compensations i ≤ total_at_most

  pub record Carries (j w x : ℕ) : Type 0 where
    pub carried : CarriedBy c j w x
    pub holds : CanHold c j x

  -- the rest of index j is weekly, counted in week w, and leads to the state next: it can be gone on with carrier x
  pub record CanHave (j w : ℕ) (next : State) (outstanding : List ℕ) (x : ℕ) : Type 0 where
    pub carried : CarriedBy c j w x
    pub then : Later (carrying c j x) j next outstanding

  -- the entry of a daily rest was written, and r is the state after it, where it does not break rule 9
  pub record PutDaily (j : ℕ) (here : State) (reading reading' : List ℕ) (r : State) : Type 0 where
    pub before : Before c (j + 1) r
    pub written : reading' ≡ with_entry reading j daily_kind 0 0
    pub done : here.short + one (shortens c j (compensation_at c j)) ≤ shortened_at_most → r ≡ after_daily (shortens c j (compensation_at c j)) here

-- the entry of a weekly rest counted in week w, with carrier x, was written and its reduction added to a compensation, and r is the state after it
pub record DoneWeekly (c c' : Course) (j : ℕ) (there : State) (w x : ℕ) (reading reading' : List ℕ) (r : State) : Type 0 where
  pub compensations : c'.compensations ≡ (carrying c j x).compensations
  pub written : reading' ≡ with_entry reading j weekly_kind w x
  pub state : r ≡ after_counted c j w there

pub record PutWeekly (c c' : Course) (j : ℕ) (here : State) (w x : ℕ) (reading reading' : List ℕ) (r : State) : Type 0 where
  pub limited : Limited c'
  pub before : Before c' (j + 1) r
  pub kept : x ≡ 0 → c'.compensations ≡ c.compensations
  pub done : (there : State) → advance (rest_week c) (w - here.week) here ≡ Some there → DoneWeekly c c' j there w x reading reading' r

-- the rest of index j was read: wherever there is a first reading, its entry was written
pub record Stepped (c c' : Course) (j : ℕ) (st : State) (room' : Room) (reading reading' : List ℕ) (r : State) : Type 0 where
  pub limited : Limited c'
  pub ready : Ready c' room'
  pub before : Before c' (j + 1) r
  pub placed : (past : List Entry) (left : List ℕ) → Ahead c j st past left → Placed c' j r past left reading reading'
