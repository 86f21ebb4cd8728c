-- `rules_reading::form_test` meets its contract. Assumes nothing.
use Rattle.rules_reading.proofs.WalkLaws.{Forming}
use Rattle.rules_reading.proofs.form_test.Given as goal

abbrev pub invariant-loop-i : goal.invariant-loop-i
invariant-loop-i l = Forming l.rests.starts.now l.rests.ends.now l.reading l.k l.i
