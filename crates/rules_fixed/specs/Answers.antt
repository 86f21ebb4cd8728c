-- Public: the numbers that the tests answer.
-- Assumes nothing.
use Rattle.std.specs.Prelude.{ℕ, Option, Result, Ok, Err}
use Rattle.recording.specs.Answers.{Answer, refused, answered, number_of}
use Rattle.recording.specs.declared.Refusal.{Refusal}
use Rattle.rules.specs.Numbers.{rule_or_none, place_or_none}
use Rattle.rules.specs.declared.Rule.{Rule}
use Rattle.rules.specs.declared.Article.{Article}

-- the number of the broken rule, or 0
abbrev pub rule_answer : Result (Option Rule) Refusal → Answer ℕ
rule_answer (Ok rule) = answered (rule_or_none rule)
rule_answer (Err refusal) = refused (number_of refusal)

-- the place of the broken article in the regulation's order, or 0
abbrev pub place_answer : Result (Option Article) Refusal → Answer ℕ
place_answer (Ok article) = answered (place_or_none article)
place_answer (Err refusal) = refused (number_of refusal)
