-- Public: what the code's verdict says; the verdict itself is in rules/specs.
-- Assumes nothing.
use Rattle.std.specs.Prelude.{Result, Ok, Err}
use Rattle.recording.specs.Answers.{Answer, refused, answered, number_of}
use Rattle.recording.specs.declared.Refusal.{Refusal}
use Rattle.rules.specs.Numbers.{number_of_article}
use Rattle.rules.specs.Operations.{Finding, passed, breached}
use Rattle.verdict_judging.specs.declared.Verdict.{Verdict}
use Rattle.verdict_judging.specs.declared.Verdict.TheVariants.{Pass, Breach}

-- A pass, or a breach with its minute and its article's number.
abbrev pub finding : Verdict → Finding
finding Pass = passed
finding (Breach b) = breached b.minute (number_of_article b.article)

-- The number of a refusal, or what the verdict found.
abbrev pub finding_by : Result Verdict Refusal → Answer Finding
finding_by (Ok v) = answered (finding v)
finding_by (Err r) = refused (number_of r)
