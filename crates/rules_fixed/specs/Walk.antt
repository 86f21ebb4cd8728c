-- Inner: what a walk over a recording answers. Nobody has to believe it: no public contract cites it.
-- Assumes nothing.
use Rattle.std.specs.Prelude.{◌≡◌, List, ℕ}
use Rattle.std.proofs.lemmas.List.Edits.{sets}
use Rattle.recording.specs.Words.{minutes_of}
use Rattle.recording.specs.Scan.{origin, place_of, written_from}
use Rattle.rules_limits.specs.Account.{account_from, opening}
use Rattle.rules_nets.specs.Nets.{nets_of}
use Rattle.rules_fixed.specs.declared.Survey.{Survey}

-- a recording: the place at its end, the long rests' starts, ends and numbers by rule 9, the account
pub record Surveyed (words starts ends nets : List ℕ) (r : Survey) (starts' ends' nets' : List ℕ) : Type 0 where
  pub place : r.place ≡ place_of origin words
  pub begun : starts' ≡ written_from (λ s. s.start) origin words starts
  pub ended : ends' ≡ written_from (λ s. s.end) origin words ends
  pub numbered : nets' ≡ sets nets 0 (nets_of (minutes_of words))
  pub account : r.account ≡ account_from opening (minutes_of words)
