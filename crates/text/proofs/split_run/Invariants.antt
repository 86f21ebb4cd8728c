-- `text::split_run` meets its contract. The invariant: the words that are left come to what the words in front come to. Assumes nothing.
use mathlib.Core.Path.{◌≡◌}
use Prim.Native.Nat.{◌+◌}
use lib.ListN.{length, drop}
use Rattle.recording.specs.Words.{code_of}
use Rattle.text.specs.Passes.{same_words, same_minutes}
use Rattle.text.proofs.split_run.Given as goal

abbrev pub invariant-loop-word : goal.invariant-loop-word
invariant-loop-word l =
    (same_minutes (code_of l.activity) l.words ≡ l.minutes + same_minutes (code_of l.activity) l.rest) ×
    (drop (same_words (code_of l.activity) l.words) l.words ≡ drop (same_words (code_of l.activity) l.rest) l.rest)

abbrev pub decreases-loop-word : goal.decreases-loop-word
decreases-loop-word l = length l.rest
