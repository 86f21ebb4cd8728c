-- `rules_entries::entry_refusal` meets its contract. Assumes nothing.
use borrow.Author.Tests.{eq-eqb, ne_eqb, le-ltb, lt-ltb}
use Rattle.recording.specs.Tests.{◌or◌}
use Rattle.rules.specs.Operations.{entry_at}
use Rattle.rules_entries.proofs.entry_refusal.Goals as goal
use Rattle.rules_entries.proofs.entry_refusal.Goals.{then-number-eq0-via-then-number-eq0, then-number-eq0-via-else-number-eq0+then-reading-number}

pub returns-then-reading-ne0 : goal.returns-then-reading-ne0
unfolding entry_at ◌or◌
returns-then-reading-ne0 c = simp (ne_eqb _ _ c.if-reading-ne0.true)

pub returns-then-number-eq0 : goal.returns-then-number-eq0
unfolding entry_at ◌or◌
returns-then-number-eq0 c = elim c.then-number-eq0.branch [
  | then-number-eq0-via-then-number-eq0 w ↦ simp (eq-eqb _ _ c.if-reading-ne0.false, eq-eqb _ _ w.if-number-eq0.true)
  | then-number-eq0-via-else-number-eq0+then-reading-number w ↦
      simp (eq-eqb _ _ c.if-reading-ne0.false, ne_eqb _ _ w.if-number-eq0.false, lt-ltb _ _ w.if-reading-number.true)
]

pub returns : goal.returns
unfolding entry_at ◌or◌
returns c = simp (eq-eqb _ _ c.if-reading-ne0.false, ne_eqb _ _ c.if-number-eq0.false, le-ltb _ _ c.if-reading-number.false)
