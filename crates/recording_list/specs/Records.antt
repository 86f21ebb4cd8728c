-- Inner: the long rests that are left of a walk over the words. Nobody has to believe it: the listing's own contract goes by the definitions of `recording`.
-- Assumes nothing.
use Rattle.std.specs.Prelude.{List, [], ◌∷◌, ℕ}
use Rattle.recording.specs.Tests.{pick}
use Rattle.recording.specs.Words.{minutes_in, activity_in}
use Rattle.recording.specs.Scan.{ends_rest, after_run, rest_at}
use Rattle.recording.specs.declared.Place.{Place}
use Rattle.recording.specs.declared.Span.{Span}
use Rattle.recording_list.specs.declared.rests.LongRests.{LongRests}

-- from a place on, over the words after it: a word that ends a long rest gives it
unfoldable pub rests_from : Place → List ℕ → List Span
rests_from p [] = []
rests_from p (w ∷ ws) =
    let q = after_run p (activity_in w) (minutes_in w) in
    pick (ends_rest p (activity_in w) (minutes_in w)) (rest_at p ∷ rests_from q ws) (rests_from q ws)

abbrev pub rests_left : LongRests → List Span
rests_left r = rests_from r.place r.words.now
