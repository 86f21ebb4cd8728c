-- `verdict_fronts::move_entry` meets its contract. Assumes nothing.
use Rattle.std.proofs.Common.{arith, ◌∙◌}
use Rattle.verdict_fronts.proofs.FrontLaws.{moved_in}
use Rattle.verdict_fronts.proofs.move_entry.Goals as goal

pub returns : goal.returns
returns c = moved_in _ _ c.args.p c.args.q _ _ (omega arith) (omega arith) c.requires.0 c.requires.1 (c.copy_from_slice-2.ensures.after ∙ c.copy_from_slice.ensures.after)
