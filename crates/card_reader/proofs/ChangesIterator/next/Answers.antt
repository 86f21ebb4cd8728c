-- `card_reader::Changes` yields the changes of its bytes. Assumes nothing.
use borrow.Author.Rules.{rules}
use Rattle.card_reader.proofs.Judging.{no_change, first_change}
use Rattle.card_reader.proofs.ChangesIterator.next.Goals as goal

pub returns-in_default-clause-steps : goal.returns-in_default-clause-steps
returns-in_default-clause-steps c = let none = no_change c.args.self.now.bytes.now c.in_default.len_below in (none, none)

pub returns-clause-steps : goal.returns-clause-steps
returns-clause-steps c = first_change c.args.self.now.bytes.now c.in-len2-up.len_at_least c.from.ensures c.from-2.ensures

pub returns-clause-goes : goal.returns-clause-goes
returns-clause-goes c =
    let first = first_change c.args.self.now.bytes.now c.in-len2-up.len_at_least c.from.ensures c.from-2.ensures in
    search rules
