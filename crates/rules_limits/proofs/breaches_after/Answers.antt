-- `rules_limits::breaches_after` meets its contract. Assumes nothing.
use mathlib.Core.Path.{sym, ap, ◌∙◌}
use Rattle.rules.specs.Numbers.{rule_or_none}
use Rattle.rules.proofs.ArticleOrder.{rule_most}
use Rattle.rules_limits.proofs.PartRight.{none_more, first_as_it_was, first_found}
use Rattle.rules_limits.proofs.breaches_after.Goals as goal

pub returns-in_default-clause-broken : goal.returns-in_default-clause-broken
returns-in_default-clause-broken c = sym (none_more _ _ (sym c.smallest_rule.ensures ∙ ap rule_or_none c.in_default.is))

pub returns-in_default-clause-first : goal.returns-in_default-clause-first
returns-in_default-clause-first c = sym (first_as_it_was _ _ _ (sym c.smallest_rule.ensures ∙ ap rule_or_none c.in_default.is))

pub returns-clause-first : goal.returns-clause-first
returns-clause-first c =
    let found = sym c.smallest_rule.ensures ∙ ap rule_or_none c.in-Some.is in
    c.or.ensures ∙ first_found c.args.first c.args.minute _ c.in-Some.rule found (rule_most c.args.here)
