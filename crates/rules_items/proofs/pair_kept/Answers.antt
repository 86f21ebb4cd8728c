-- `rules_items::pair_kept` meets its contract. Assumes nothing.
use borrow.Author.Tests.{le-leb, lt-leb, lt-ltb}
use Rattle.recording.specs.Tests.{◌or◌}
use Rattle.rules_items.proofs.pair_kept.Goals as goal

pub returns-then-s-w : goal.returns-then-s-w
unfolding ◌or◌
returns-then-s-w c = simp (lt-leb _ _ c.if-s-w.true, lt-ltb _ _ c.if-s-w.true)

pub returns-else-s-w : goal.returns-else-s-w
unfolding ◌or◌
returns-else-s-w c = simp (le-leb _ _ c.if-s-w.false) c.enough_in.ensures
