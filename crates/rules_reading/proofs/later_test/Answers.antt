-- `rules_reading::later_test` meets its contract. Assumes nothing.
use Rattle.std.proofs.Common.{sym, ◌∙◌}
use Rattle.rules_reading.proofs.LaterLaws.{later_six, later_seven, later_broken, later_last, one_broken, none_broken}
use Rattle.rules_reading.proofs.later_test.Goals as goal

pub returns-then-not-form_test : goal.returns-then-not-form_test
returns-then-not-form_test c = later_six _ _ _ _ _ _ (sym c.if-not-form_test.true ∙ c.form_test.ensures)

pub returns-in_default : goal.returns-in_default
returns-in_default c = later_seven _ _ _ _ _ _ (sym c.if-not-form_test.false ∙ c.form_test.ensures) (rw c.in_default.is at c.rest_walk.ensures)

pub returns-then-is_some : goal.returns-then-is_some
returns-then-is_some c = later_broken _ _ _ _ _ _ (sym c.if-not-form_test.false ∙ c.form_test.ensures) (rw c.in-Some.is at c.rest_walk.ensures) c.gap_rule.ensures
    c.smaller_rule-broken.ensures (one_broken _ (sym c.is_some.ensures ∙ c.if-is_some.true))

pub returns-then-pairs_test : goal.returns-then-pairs_test
returns-then-pairs_test c = rw c.if-pairs_test.true at (later_last _ _ _ _ _ _ (sym c.if-not-form_test.false ∙ c.form_test.ensures) (rw c.in-Some.is at c.rest_walk.ensures) c.gap_rule.ensures
    c.smaller_rule-broken.ensures (none_broken _ (sym c.is_some.ensures ∙ c.if-is_some.false)) c.requires.judged c.pairs_test.ensures)

pub returns-else-pairs_test : goal.returns-else-pairs_test
returns-else-pairs_test c = rw c.if-pairs_test.false at (later_last _ _ _ _ _ _ (sym c.if-not-form_test.false ∙ c.form_test.ensures) (rw c.in-Some.is at c.rest_walk.ensures) c.gap_rule.ensures
    c.smaller_rule-broken.ensures (none_broken _ (sym c.is_some.ensures ∙ c.if-is_some.false)) c.requires.judged c.pairs_test.ensures)
