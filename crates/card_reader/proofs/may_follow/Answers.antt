-- `card_reader::may_follow` meets its contract. Assumes nothing.
use native.Mathlib.Omega.{arith}
use borrow.Author.Tests.{eq-eqb, ne_eqb, lt-ltb, le-ltb}
use Rattle.recording.specs.Tests.{◌and◌, ◌or◌}
use Rattle.card_reader.specs.Reading.{follows}
use Rattle.card_reader.specs.Form.{day_minutes}
use Rattle.card_reader.proofs.may_follow.Goals as goal

pub returns-then-minute-eq0 : goal.returns-then-minute-eq0
unfolding follows ◌or◌
returns-then-minute-eq0 c = rw (eq-eqb _ _ c.if-minute-eq0.true)

pub returns-then-minute-lt-DAY_MINUTES : goal.returns-then-minute-lt-DAY_MINUTES
unfolding follows ◌or◌ ◌and◌
returns-then-minute-lt-DAY_MINUTES c = rw (ne_eqb _ _ c.if-minute-eq0.false, lt-ltb c.args.minute day_minutes (omega arith))

pub returns-else-minute-lt-DAY_MINUTES : goal.returns-else-minute-lt-DAY_MINUTES
unfolding follows ◌or◌ ◌and◌
returns-else-minute-lt-DAY_MINUTES c = rw (ne_eqb _ _ c.if-minute-eq0.false, le-ltb c.args.minute day_minutes (omega arith))
