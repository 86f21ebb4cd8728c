-- `card::is_written` meets its contract. Assumes nothing.
use mathlib.Core.Path.{ap, ◌∙◌}
use mathlib.Core.Bool.{not}
use borrow.Author.Tests.{eq-eqb, ne_eqb}
use Rattle.recording.specs.Tests.{◌or◌}
use Rattle.recording.proofs.Activities.{same_codes}
use Rattle.card.specs.Writing.{is_written}
use Rattle.card.proofs.is_written.Goals as goal

pub returns-then-minute-eq0 : goal.returns-then-minute-eq0
unfolding is_written ◌or◌
returns-then-minute-eq0 c = rw (eq-eqb _ _ c.if-minute-eq0.true)

pub returns-else-minute-eq0 : goal.returns-else-minute-eq0
unfolding is_written ◌or◌
returns-else-minute-eq0 c = rw (ne_eqb c.args.minute 0 c.if-minute-eq0.false) (c.ne.ensures ∙ ap not (same_codes c.args.activity c.args.before))
