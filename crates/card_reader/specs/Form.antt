-- Public: the card's day record, said by generation: a list of days has bytes and has minutes, and some lists are allowed.
-- Assumes nothing.
use Rattle.std.specs.Prelude.{◌≡◌, Bool, not, List, [], ◌∷◌, ◌++◌, ℕ, zero, suc, ◌+◌, ◌*◌, ◌/◌, ◌%◌, ◌<◌, leb}
use Rattle.recording.specs.Tests.{◌and◌, pick, one}
use Rattle.recording.specs.Words.{activities}

-- ---- changes: the bits s, c and p, the activity and the minute in the day
pub record Change : Type 0 where
  pub slot : Bool
  pub crew : Bool
  pub out : Bool
  pub activity : ℕ
  pub minute : ℕ

-- A change is a number: from the top, bit s (slot), c (crew), p (card out), two activity bits with the codes of a word, eleven bits of minute in the day.
-- What one is worth at each place:
abbrev pub slot_place : ℕ
slot_place = 32768

abbrev pub crew_place : ℕ
crew_place = 16384

abbrev pub out_place : ℕ
out_place = 8192

abbrev pub activity_place : ℕ
activity_place = 2048

unfoldable pub number_of : Change → ℕ
number_of c = slot_place * one c.slot + crew_place * one c.crew + out_place * one c.out + activity_place * c.activity + c.minute

-- A change is two bytes, the high one first.
abbrev pub byte_values : ℕ
byte_values = 256

unfoldable pub bytes_of : List ℕ → List ℕ
bytes_of [] = []
bytes_of (n ∷ ns) = n / byte_values ∷ n % byte_values ∷ bytes_of ns

-- Card out with c zero means unknown activity.
abbrev pub unknown : Change → Bool
unknown c = c.out and not c.crew

-- ---- days
abbrev pub day_minutes : ℕ
day_minutes = 1440

-- A change after another of its day: minutes rise within a day.
pub data Rising : ℕ → List Change → Type 0 where
  none : {m : ℕ} → Rising m []
  next : {m : ℕ} {c : Change} {cs : List Change} → m < c.minute → c.minute < day_minutes → c.activity < activities → Rising c.minute cs → Rising m (c ∷ cs)

-- Minute 0 always begins a day.
pub data Day : List Change → Type 0 where
  day : {c : Change} {cs : List Change} → c.minute ≡ 0 → c.activity < activities → Rising 0 cs → Day (c ∷ cs)

pub data Days : List (List Change) → Type 0 where
  none : Days []
  next : {d : List Change} {ds : List (List Change)} → Day d → Days ds → Days (d ∷ ds)

unfoldable pub numbers_then : List Change → List ℕ → List ℕ
numbers_then [] later = later
numbers_then (c ∷ cs) later = number_of c ∷ numbers_then cs later

unfoldable pub numbers_of_days : List (List Change) → List ℕ
numbers_of_days [] = []
numbers_of_days (d ∷ ds) = numbers_then d (numbers_of_days ds)

abbrev pub bytes_of_days : List (List Change) → List ℕ
bytes_of_days ds = bytes_of (numbers_of_days ds)

-- a day record: the bytes of an allowed list of days
pub record OfTheForm (bytes : List ℕ) : Type 0 where
  pub days : List (List Change)
  pub allowed : Days days
  pub bytes_are : bytes ≡ bytes_of_days days

-- ---- the minutes of a list of days
-- The activity of minute t of a day is that of the latest change at or before t; here after the activity a.
unfoldable pub latest : ℕ → ℕ → List Change → ℕ
latest a t [] = a
latest a t (c ∷ cs) = pick (leb c.minute t) (latest c.activity t cs) (latest a t cs)

-- the activities of n minutes from t on; the day's first change is at minute 0, so a day's minutes depend on no activity before
unfoldable pub activities_from : ℕ → ℕ → ℕ → List Change → List ℕ
activities_from a t zero cs = []
activities_from a t (suc n) cs = latest a t cs ∷ activities_from a (suc t) n cs

-- The last activity of a day runs to 1,440.
abbrev pub minutes_of_day : List Change → List ℕ
minutes_of_day d = activities_from 0 0 day_minutes d

unfoldable pub minutes_of_days : List (List Change) → List ℕ
minutes_of_days [] = []
minutes_of_days (d ∷ ds) = minutes_of_day d ++ minutes_of_days ds
