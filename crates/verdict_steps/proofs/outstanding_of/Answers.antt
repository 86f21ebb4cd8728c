-- `verdict_steps::outstanding_of` meets its contract. Assumes nothing.
use mathlib.Core.Path.{ap}
use native.Mathlib.Omega.{arith}
use Rattle.rules.specs.Reading.{reduction_of}
use Rattle.rules.specs.declared.Kind.TheVariants.{Weekly}
use Rattle.verdict_steps.proofs.outstanding_of.Goals as goal

pub overflow_add-result-in-Reduced : goal.overflow_add-result-in-Reduced
overflow_add-result-in-Reduced c = let e = ap (λ x. reduction_of (Weekly x)) c.in-Reduced.is in
    omega (arith, e, c.requires.0, c.requires.1)

pub returns-in-Reduced : goal.returns-in-Reduced
returns-in-Reduced c = simp c.in-Reduced.is
