-- `rules_fixed::survey_of` meets its contract. Assumes nothing.
use mathlib.Core.Path.{ap, ◌∙◌}
use Rattle.rules_limits.specs.Account.{account_from, opening}
use Rattle.rules_fixed.proofs.Surveying.{all_there}
use Rattle.rules_fixed.proofs.survey_of.Goals as goal

pub returns : goal.returns
returns c = let q = c.scan-place.ensures in
    record {
      place = q.place;
      begun = q.begun;
      ended = q.ended;
      numbered = c.put_nets.ensures;
      account = c.account_of-account.ensures ∙ ap (account_from opening) (all_there q);
    }
