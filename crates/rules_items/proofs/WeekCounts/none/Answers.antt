-- `rules_items::WeekCounts::none` meets its contract. Assumes nothing.
use Rattle.std.proofs.Common.{refl}
use Rattle.rules_items.proofs.SpanLaws.{zeros_at}
use Rattle.rules_items.proofs.WeekCounts.none.Goals as goal

pub returns : goal.returns
returns c = record { weekly = zeros_at 256; regular = zeros_at 256; weekly_size = refl; regular_size = refl }
