-- Inner: what the functions of this layer answer. Nobody has to believe it: no public contract cites it.
-- Assumes nothing.
use Rattle.std.specs.Prelude.{◌≡◌, Bool, false, List, [], ◌∷◌, ℕ, ◌+◌, ◌-◌, ◌≤◌, min, leb, eqb, length, drop, set, Result, Ok, Err}
use Rattle.recording.specs.Tests.{pick, one}
use Rattle.recording.specs.Answers.{number_of}
use Rattle.recording.specs.Words.{word_of, minutes_in, activity_in, minutes_of}
use Rattle.recording.specs.Rests.{long_rest_minutes}
use Rattle.recording.specs.Weeks.{is_rest}
use Rattle.recording.specs.Operations.{total_at_most}
use Rattle.recording.specs.declared.Measure.{Measure}
use Rattle.recording.specs.declared.Place.{Place}
use Rattle.recording.specs.declared.Refusal.{Refusal}
use Rattle.recording.specs.declared.recorded.Recording.{Recording}
use Rattle.recording.specs.declared.Span.{Span}

-- a short recording, of twelve weeks or less, and the most long rests that it can have
abbrev pub short_total : ℕ
short_total = 120960

abbrev pub short_rests : ℕ
short_rests = 223

-- the words of a recording: its first word, and those after it
abbrev pub words_in : Recording → List ℕ
words_in r = r.head ∷ r.words.now

-- the number of weighing's refusal, and 0 of a measure
abbrev pub refusal_in : Result Measure Refusal → ℕ
refusal_in (Ok m) = 0
refusal_in (Err r) = number_of r

-- ---- the words of the first m minutes; those past it have none
unfoldable pub cut_at : ℕ → List ℕ → List ℕ
cut_at m [] = []
cut_at m (w ∷ ws) = word_of (min m (minutes_in w)) (activity_in w) ∷ cut_at (m - minutes_in w) ws

-- ---- a run of n minutes of the activity a: whether it ends a long rest, and the place after it
unfoldable pub ends_rest : Place → ℕ → ℕ → Bool
ends_rest p a n = pick (eqb n 0) false (pick (is_rest a) false (leb long_rest_minutes (p.now - p.from)))

unfoldable pub after_run : Place → ℕ → ℕ → Place
after_run p a n =
    pick (eqb n 0) p
    (pick (is_rest a) (record { now = p.now + n; from = p.from; count = p.count })
    (record { now = p.now + n; from = p.now + n; count = p.count + one (leb long_rest_minutes (p.now - p.from)) }))

abbrev pub origin : Place
origin = record { now = 0; from = 0; count = 0 }

unfoldable pub place_of : Place → List ℕ → Place
place_of p [] = p
place_of p (w ∷ ws) = place_of (after_run p (activity_in w) (minutes_in w)) ws

-- what a walk over the words keeps at the word i
pub record Walking (ws : List ℕ) (p : Place) (i : ℕ) : Type 0 where
  pub within : i ≤ length ws
  pub from : p.from ≤ p.now
  pub count : p.count ≤ p.now
  pub room : p.now + length (minutes_of (drop i ws)) ≤ total_at_most
  pub place : place_of origin ws ≡ place_of p (drop i ws)

-- ---- a number of each long rest, written as the rest ends
abbrev pub rest_at : Place → Span
rest_at p = record { start = p.from; end = p.now }

unfoldable pub written_from : (Span → ℕ) → Place → List ℕ → List ℕ → List ℕ
written_from f p [] out = out
written_from f p (w ∷ ws) out =
    written_from f (after_run p (activity_in w) (minutes_in w)) ws
    (pick (ends_rest p (activity_in w) (minutes_in w)) (set out p.count (f (rest_at p))) out)

pub record Scanned (words starts ends : List ℕ) (r : Place) (starts' ends' : List ℕ) : Type 0 where
  pub place : r ≡ place_of origin words
  pub begun : starts' ≡ written_from (λ s. s.start) origin words starts
  pub ended : ends' ≡ written_from (λ s. s.end) origin words ends
