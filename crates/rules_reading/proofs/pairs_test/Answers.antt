-- `rules_reading::pairs_test` meets its contract. Assumes nothing.
use Rattle.std.proofs.Common.{arith, sym, ◌∙◌, ◌-◌}
use Rattle.rules_items.specs.Items.{rule11_with}
use Rattle.rules_items.proofs.PairLaws.{all_kept, one_broken}
use Rattle.rules_reading.proofs.pairs_test.Goals as goal

pub returns-then-not-pair_kept : goal.returns-then-not-pair_kept
unfolding rule11_with
returns-then-not-pair_kept c = one_broken _ _ (c.loop-w.w - 1) (omega arith) (sym c.pair_kept.ensures ∙ c.if-not-pair_kept.true)

pub returns : goal.returns
unfolding rule11_with
returns c = all_kept _ _ (λ v l. c.loop-w.invariant v (omega arith) l)
