-- `verdict_breach::next_active` meets its contract. Assumes nothing.
use Prim.Native.Nat.{suc}
use Rattle.recording.specs.Scan.{words_in}
use Rattle.verdict_breach.proofs.Actives.{Ahead}
use Rattle.verdict_breach.proofs.next_active.Given as goal

abbrev pub invariant-loop-word : goal.invariant-loop-word
invariant-loop-word l = Ahead (words_in l.recording) l.x l.at (suc l.word-index)
