-- `interface::desk_weigh` meets its contract. Assumes nothing.
use mathlib.Core.Path.{sym, ◌∙◌}
use Rattle.interface.proofs.CodeLaws.{measure_small}
use Rattle.interface.proofs.desk_weigh.Goals as goal

pub code_of-requires : goal.code_of-requires
code_of-requires c = λ _ e. measure_small _ (sym c.weigh.ensures ∙ e)
