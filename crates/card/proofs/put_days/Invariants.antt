-- `card::put_days` meets its contract. Assumes nothing.
use mathlib.Core.List.{◌++◌}
use Prim.Native.Nat.{◌+◌}
use lib.ListN.{drop, replicate}
use Rattle.recording.specs.Words.{code_of, minutes_of}
use Rattle.card_reader.specs.Form.{bytes_of}
use Rattle.card.specs.Writing.{changes_from, record_of_minutes}
use Rattle.card.proofs.Putting.{Putting}
use Rattle.card.proofs.put_days.Given as goal

-- what is left, put from the place that is reached, makes what the whole makes
abbrev pub invariant-loop-word : goal.invariant-loop-word
invariant-loop-word l = Putting l.initial.bytes 0 (record_of_minutes (minutes_of l.words)) l.bytes l.at l.minute (code_of l.before) 0 0 (minutes_of (drop l.word-index l.words))

-- .. and within a run, from the place where the run begins
abbrev pub invariant-loop-left : goal.invariant-loop-left
invariant-loop-left l =
    Putting l.initial.bytes l.initial.at
    (bytes_of (changes_from l.initial.minute (code_of l.initial.before) (replicate l.initial.left (code_of l.run.activity) ++ minutes_of (drop (l.word-index + 1) l.words))))
    l.bytes l.at l.minute (code_of l.before) (code_of l.run.activity) l.left (minutes_of (drop (l.word-index + 1) l.words))

abbrev pub decreases-loop-left : goal.decreases-loop-left
decreases-loop-left l = l.left
