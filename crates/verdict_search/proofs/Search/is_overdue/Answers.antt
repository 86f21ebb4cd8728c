-- `Search::is_overdue` meets its contract. Assumes nothing.
use Rattle.verdict_search.proofs.Used.{overdue_used}
use Rattle.verdict_search.proofs.Search.is_overdue.Goals as goal

pub returns : goal.returns
returns c = let used = overdue_used c.args.self.now.slots.now c.args.self.now.used c.requires.unused c.args.t in
    record { yes = λ e. used.to (c.overdue.ensures.yes e); no = λ e h. c.overdue.ensures.no e (used.from h) }
