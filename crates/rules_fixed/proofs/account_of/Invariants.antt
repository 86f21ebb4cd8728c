-- `rules_fixed::account_of` meets its contract. Assumes nothing.
use mathlib.Core.List.{◌∷◌}
use lib.ListN.{length}
use Rattle.recording.specs.Scan.{words_in}
use Rattle.rules_fixed.proofs.Surveying.{Walking}
use Rattle.rules_fixed.proofs.account_of.Given as goal

abbrev pub invariant-walk : goal.invariant-walk
invariant-walk l = Walking (words_in l.recording) l.m l.account l.left (l.word ∷ l.words)

abbrev pub decreases-walk : goal.decreases-walk
decreases-walk l = length l.words
