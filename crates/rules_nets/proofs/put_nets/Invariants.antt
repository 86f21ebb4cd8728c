-- `rules_nets::put_nets` meets its contract. Assumes nothing.
use Prim.Native.Nat.{suc}
use Rattle.recording.specs.Scan.{words_in}
use Rattle.rules_nets.proofs.NetWalk.{Noting}
use Rattle.rules_nets.proofs.put_nets.Given as goal

abbrev pub invariant-loop-word : goal.invariant-loop-word
invariant-loop-word l = Noting (words_in l.recording) l.initial.nets l.nets l.place l.day (suc l.word-index)
