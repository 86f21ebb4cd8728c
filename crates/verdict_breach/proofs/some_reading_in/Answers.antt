-- `verdict_breach::some_reading_in` meets its contract. Assumes nothing.
use lib.ListN.{length}
use Rattle.std.proofs.lemmas.List.{take-replicate}
use Rattle.verdict_breach.proofs.Lawfulness.{some_reading}
use Rattle.verdict_breach.proofs.some_reading_in.Goals as goal

pub returns : goal.returns
returns g c = record {
  says = some_reading c.args.rests.now (take-replicate (length c.args.rests.now.starts.now) _ 0 c.requires.few) c.possible.ensures.told;
  lent = c.possible.ensures.lent;
}
