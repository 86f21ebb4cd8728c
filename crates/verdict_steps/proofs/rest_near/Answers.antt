-- `verdict_steps::rest_near` meets its contract. Assumes nothing.
use mathlib.Core.Path.{sym, ap, ◌∙◌}
use mathlib.Core.Bool.{not}
use Rattle.std.specs.Prelude.{nat_eq}
use Rattle.verdict_steps.proofs.NearRests.{in_order, rest_found, near_none, near_before}
use Rattle.verdict_steps.proofs.rest_near.Goals as goal

pub returns-then-in_rest : goal.returns-then-in_rest
returns-then-in_rest c = let order = in_order _ c.args.rests.now.lies in
    c.if-in_rest.true ∙ sym (rest_found _ _ _ order _ (sym c.in_rest.ensures ∙ c.if-in_rest.true))

pub returns-then-j-ne0 : goal.returns-then-j-ne0
returns-then-j-ne0 c = let pre = c.requires in
    c.in_rest-then-j-ne0.ensures
    ∙ sym (near_before _ _ _ (in_order _ c.args.rests.now.lies) _ pre.0 pre.2 pre.3 (sym c.in_rest.ensures ∙ c.if-in_rest.false))

pub returns-else-j-ne0 : goal.returns-else-j-ne0
returns-else-j-ne0 c = let pre = c.requires in
    ap (λ j. not (nat_eq j 0)) c.if-j-ne0.false
    ∙ sym (near_none _ _ _ (in_order _ c.args.rests.now.lies) _ pre.0 pre.2 pre.3 c.if-j-ne0.false (sym c.in_rest.ensures ∙ c.if-in_rest.false))
