-- `rules_fixed::fixed_test` meets its contract. Assumes nothing.
use native.Mathlib.Omega.{arith}
use Rattle.recording.proofs.Listing.{refused_there, measured_there, measured_is}
use Rattle.rules.specs.Fixed.{smallest_rule}
use Rattle.rules.specs.Operations.{fixed_tested}
use Rattle.rules_fixed.proofs.Surveying.{test_refused, test_past, test_done, account_alone}
use Rattle.rules_fixed.proofs.fixed_test.Goals as goal

pub returns-in_default : goal.returns-in_default
unfolding fixed_tested
returns-in_default c = test_refused _ _ smallest_rule (refused_there _ c.weigh-weighing.ensures c.unwrap_err.ensures)

pub returns-then-measure-m : goal.returns-then-measure-m
unfolding fixed_tested
returns-then-measure-m c = test_past _ _ smallest_rule (measured_there _ c.weigh-weighing.ensures c.in-Ok.is) (omega arith)

pub new-requires : goal.new-requires
new-requires c = (measured_is _ (measured_there _ c.weigh-weighing.ensures c.in-Ok.is)).within

pub returns : goal.returns
unfolding fixed_tested
returns c =
    let q = measured_there _ c.weigh-weighing.ensures c.in-Ok.is in
    test_done _ _ smallest_rule q (omega arith) (account_alone _ _ c.new.ensures.head c.new.ensures.words c.account_of-account.ensures) c.smallest_rule.ensures
