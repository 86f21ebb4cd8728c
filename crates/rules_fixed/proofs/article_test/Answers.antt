-- `rules_fixed::article_test` meets its contract. Assumes nothing.
use native.Mathlib.Omega.{arith}
use Rattle.recording.proofs.Listing.{refused_there, measured_there, measured_is}
use Rattle.rules.specs.Fixed.{first_article}
use Rattle.rules.specs.Operations.{article_tested}
use Rattle.rules_fixed.proofs.Surveying.{test_refused, test_past, test_done, account_alone}
use Rattle.rules_fixed.proofs.article_test.Goals as goal

pub returns-in_default : goal.returns-in_default
unfolding article_tested
returns-in_default c = test_refused _ _ first_article (refused_there _ c.weigh-weighing.ensures c.unwrap_err.ensures)

pub returns-then-m-measure : goal.returns-then-m-measure
unfolding article_tested
returns-then-m-measure c = test_past _ _ first_article (measured_there _ c.weigh-weighing.ensures c.in-Ok.is) (omega arith)

pub new-requires : goal.new-requires
new-requires c = (measured_is _ (measured_there _ c.weigh-weighing.ensures c.in-Ok.is)).within

pub returns : goal.returns
unfolding article_tested
returns c =
    let q = measured_there _ c.weigh-weighing.ensures c.in-Ok.is in
    test_done _ _ first_article q (omega arith) (account_alone _ _ c.new.ensures.head c.new.ensures.words c.account_of-account.ensures) c.first_article.ensures
