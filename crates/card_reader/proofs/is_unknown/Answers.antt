-- `card_reader::is_unknown` meets its contract. Assumes nothing.
use borrow.Author.Tests.{eq-eqb, ne_eqb}
use Rattle.recording.specs.Tests.{◌and◌}
use Rattle.card_reader.specs.Reading.{is_unknown}
use Rattle.card_reader.proofs.is_unknown.Goals as goal

pub returns-then-change-eq1 : goal.returns-then-change-eq1
unfolding is_unknown ◌and◌
returns-then-change-eq1 c = rw (eq-eqb _ _ c.if-change-eq1.true)

pub returns-else-change-eq1 : goal.returns-else-change-eq1
unfolding is_unknown ◌and◌
returns-else-change-eq1 c = rw (ne_eqb _ _ c.if-change-eq1.false)
