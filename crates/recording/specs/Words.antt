-- Public: words and minutes.
-- Assumes nothing.
use Rattle.std.specs.Prelude.{◌≡◌, Bool, List, [], ◌∷◌, ◌++◌, ℕ, ◌+◌, ◌*◌, ◌/◌, ◌%◌, ltb, eqb, replicate}
use Rattle.recording.specs.Tests.{pick, one}
use Rattle.recording.specs.declared.Activity.{Activity}
use Rattle.recording.specs.declared.Activity.TheVariants.{Rest, Availability, OtherWork, Driving}
use Rattle.recording.specs.declared.Run.{Run}

-- A recording is a slice of words of 32 bits. A word is 4 × minutes + activity.
abbrev pub activities : ℕ
activities = 4

abbrev pub word_of : ℕ → ℕ → ℕ
word_of minutes activity = activities * minutes + activity

abbrev pub minutes_in : ℕ → ℕ
minutes_in word = word / activities

abbrev pub activity_in : ℕ → ℕ
activity_in word = word % activities

-- The codes of the activities. A walk over the minutes takes rest as `zero` and the others as `suc a`.
abbrev pub rest : ℕ
rest = 0

abbrev pub availability : ℕ
availability = 1

abbrev pub other_work : ℕ
other_work = 2

abbrev pub driving : ℕ
driving = 3

-- the code that a number stands for; what is no code stands for other work, which is neither rest nor driving
abbrev pub as_code : ℕ → ℕ
as_code a = pick (ltb a activities) a other_work

-- Only the list of minutes counts; each minute is its activity's code.
unfoldable pub minutes_of : List ℕ → List ℕ
minutes_of [] = []
minutes_of (w ∷ ws) = replicate (minutes_in w) (activity_in w) ++ minutes_of ws

-- which minutes are driving, and how many there are
abbrev pub is_driving : ℕ → Bool
is_driving a = eqb a driving

unfoldable pub driving_time : List ℕ → ℕ
driving_time [] = 0
driving_time (a ∷ ms) = one (is_driving a) + driving_time ms

-- the code of an activity
abbrev pub code_of : Activity → ℕ
code_of Rest = rest
code_of Availability = availability
code_of OtherWork = other_work
code_of Driving = driving

-- a run says what a word says
pub record IsRunOf (word : ℕ) (run : Run) : Type 0 where
  pub activity : code_of run.activity ≡ activity_in word
  pub minutes : run.minutes ≡ minutes_in word
