-- Public: "Later rules are read only when the earlier ones hold", the smallest broken rule, or 0.
-- Assumes nothing.
use Rattle.std.specs.Prelude.{Bool, true, false, List, [], ◌∷◌, ℕ, zero, suc}

-- the number of a rule that does not hold, or else what the later rules say
abbrev pub unless : Bool → ℕ → ℕ → ℕ
unless true rule later = later
unless false rule later = rule

-- the rule that is broken already, or else what the later rules say
abbrev pub if_none : ℕ → ℕ → ℕ
if_none zero later = later
if_none (suc rule) later = suc rule

-- the place, from 1, of the first that is broken, or 0; in a list that is read from the place n on
abbrev pub first_from : ℕ → List Bool → ℕ
first_from n [] = 0
first_from n (true ∷ later) = n
first_from n (false ∷ later) = first_from (suc n) later

abbrev pub first_place : List Bool → ℕ
first_place broken = first_from 1 broken
