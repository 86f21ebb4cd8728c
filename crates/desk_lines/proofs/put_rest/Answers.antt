-- `desk_lines::put_rest` meets its contract. Assumes nothing.
use borrow.Author.Tests.{eq-eqb, ne_eqb}
use Rattle.rules.specs.Reading.{weekly_kind}
use Rattle.text.proofs.Puts.{puts_then}
use Rattle.desk_lines.specs.Lines.{rest_text, daily_text, weekly_text}
use Rattle.desk_lines.proofs.put_rest.Goals as goal
use Rattle.desk_lines.proofs.put_rest.Goals.{then-kind-eq1, else-kind-eq1}

pub returns : goal.returns
unfolding rest_text daily_text weekly_text
returns c = elim c.if-kind-eq1.branch [
  | then-kind-eq1 w ↦
      let counted = puts_then w.put_span.ensures.text w.put_spaced.ensures.text in
      let told = puts_then counted w.put_spaced-then-kind-eq1.ensures.text in
      rw (eq-eqb c.args.kind weekly_kind w.if-kind-eq1.true) (puts_then told (rw w.page-is at c.put.ensures))
  | else-kind-eq1 w ↦ rw (ne_eqb c.args.kind weekly_kind w.if-kind-eq1.false) (puts_then w.put_span-else-kind-eq1.ensures.text (rw w.page-is at c.put.ensures))
]
