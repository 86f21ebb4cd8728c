-- `Search::first_fit` meets its contract. Assumes nothing.
use mathlib.Core.Path.{subst}
use Rattle.verdict_steps.specs.Steps.{FirstFit}
use Rattle.verdict_search.proofs.Used.{first_none, first_some}
use Rattle.verdict_search.proofs.Search.first_fit.Goals as goal

pub returns-in_default : goal.returns-in_default
returns-in_default c = first_none c.requires.used.0 c.requires.used.1 (subst (FirstFit _ c.args.compensation c.args.minutes) c.in_default.is c.candidate.ensures)

pub returns : goal.returns
returns c = first_some c.requires.used.0 c.requires.used.1 (subst (FirstFit _ c.args.compensation c.args.minutes) c.in-Some.is c.candidate.ensures)
