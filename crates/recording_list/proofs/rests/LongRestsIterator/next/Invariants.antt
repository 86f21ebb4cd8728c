-- `next` of the long rests meets its contract. Assumes nothing.
use Rattle.std.proofs.Common.{◌≡◌, length}
use Rattle.recording_list.specs.Records.{rests_from, rests_left}
use Rattle.recording_list.proofs.Walking.{Walks}
use Rattle.recording_list.proofs.rests.LongRestsIterator.next.Given as goal

abbrev pub invariant-loop-word : goal.invariant-loop-word
invariant-loop-word l = Walks l.place l.words × (rests_left l.initial.self ≡ rests_from l.place l.words)

abbrev pub decreases-loop-word : goal.decreases-loop-word
decreases-loop-word l = length l.words
