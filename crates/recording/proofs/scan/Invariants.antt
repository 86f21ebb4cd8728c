-- `recording::scan` meets its contract. Assumes nothing.
use mathlib.Core.Path.{◌≡◌}
use Prim.Native.Nat.{suc}
use lib.ListN.{drop}
use Rattle.recording.specs.Scan.{origin, written_from, Walking, words_in}
use Rattle.recording.proofs.scan.Given as goal

abbrev pub invariant-loop-word : goal.invariant-loop-word
invariant-loop-word l = Walking (words_in l.recording) l.place (suc l.word-index) ×
    (written_from (λ s. s.start) origin (words_in l.recording) l.initial.starts ≡ written_from (λ s. s.start) l.place (drop l.word-index l.recording.words.now) l.starts) ×
    (written_from (λ s. s.end) origin (words_in l.recording) l.initial.ends ≡ written_from (λ s. s.end) l.place (drop l.word-index l.recording.words.now) l.ends)
