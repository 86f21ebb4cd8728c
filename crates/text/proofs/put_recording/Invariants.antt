-- `text::put_recording` meets its contract. Assumes nothing.
use Prim.Native.Nat.{◌+◌}
use lib.ListN.{length}
use Rattle.recording.specs.Words.{code_of, minutes_of}
use Rattle.text.proofs.Parts.{Writing, body_text, left_text}
use Rattle.text.proofs.put_recording.Given as goal

-- what is left, from the page that is reached, makes what the whole makes
abbrev pub invariant-loop-run : goal.invariant-loop-run
invariant-loop-run l = Writing l.initial.page (body_text l.words) (length (minutes_of l.words)) l.page l.left 0 0 l.rest

abbrev pub decreases-loop-run : goal.decreases-loop-run
decreases-loop-run l = length l.rest

-- .. and within a run, from the page where the run begins
abbrev pub invariant-loop-minutes : goal.invariant-loop-minutes
invariant-loop-minutes l = Writing l.initial.page (left_text l.initial.left (code_of l.run.activity) l.initial.minutes l.rest)
    (l.initial.minutes + length (minutes_of l.rest)) l.page l.left (code_of l.run.activity) l.minutes l.rest

abbrev pub decreases-loop-minutes : goal.decreases-loop-minutes
decreases-loop-minutes l = l.minutes
