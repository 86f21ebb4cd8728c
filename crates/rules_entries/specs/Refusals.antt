-- Public: what the companion of an entry answers.
-- Assumes nothing.
use Rattle.std.specs.Prelude.{ℕ, Option, None, Some}
use Rattle.recording.specs.Answers.{number_of}
use Rattle.recording.specs.declared.Refusal.{Refusal}

-- the number of a refusal, and 0 where there is none
abbrev pub refusal_or_none : Option Refusal → ℕ
refusal_or_none None = 0
refusal_or_none (Some r) = number_of r
