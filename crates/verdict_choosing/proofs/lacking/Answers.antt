-- `verdict_choosing::lacking` meets its contract. Assumes nothing.
use mathlib.Core.Path.{ap, ◌∙◌}
use Rattle.rules.specs.Reading.{reduction_of}
use Rattle.rules.specs.declared.Kind.TheVariants.{Weekly}
use Rattle.rules.specs.declared.Standing.{Standing}
use Rattle.rules_items.proofs.ItemLaws.{standing_reduction}
use Rattle.verdict_choosing.proofs.lacking.Goals as goal

pub returns : goal.returns
returns c = c.reduction.ensures ∙ ap (λ (s : Standing). reduction_of (Weekly s)) c.standing_of-standing.ensures ∙ standing_reduction _ _
