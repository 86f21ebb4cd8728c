-- `verdict_nogoods::knows` meets its contract. Assumes nothing.
use Rattle.std.proofs.Common.{arith, refl, ◌+◌, ◌*◌}
use Rattle.verdict_nogoods.specs.Table.{level_at, entry_words}
use Rattle.verdict_nogoods.proofs.TableLaws.{words_after, dominates_after}
use Rattle.verdict_nogoods.proofs.knows.Goals as goal

pub returns : goal.returns
returns c = λ e.
    let one = rw (c.words_of.ensures, words_after c.args.table.now (level_at c.args.j + 1)) at (c.one_is_as_good.ensures e) in
    let there = dominates_after c.args.table.now (level_at c.args.j + 1) (entry_words * one.0) one.2 in
    let better = there.better in
    record {
      entry = one.0;
      used = record { within = omega (arith, one.1, c.min-used.ensures); stored = omega (arith, one.1, c.min-used.ensures) };
      dominates = record {
        few = there.few;
        better = record {
          week = refl;
          ended = better.ended;
          short = better.short;
          weekly_before = better.weekly_before;
          regular_before = better.regular_before;
          weekly = better.weekly;
          regular = better.regular;
        };
        reductions = there.reductions;
      };
    }
