-- Inner: the spans as the code holds them. Nobody has to believe it: the operation's own contract goes by the definitions of `rules`.
-- Assumes nothing.
use Rattle.std.specs.Prelude.{List, drop, Result, Ok, Err}
use Rattle.recording.specs.Answers.{Answer, refused, answered, number_of}
use Rattle.recording.specs.declared.Refusal.{Refusal}
use Rattle.rules.specs.declared.Weeks.{Weeks}
use Rattle.verdict_spans.specs.declared.listed.Spans.{Spans}

-- the spans, which an array holds from a place on
abbrev pub spans_in : Spans → List Weeks
spans_in s = drop s.place s.weeks

-- the number of a refusal, or the spans
abbrev pub spans_by : Result Spans Refusal → Answer (List Weeks)
spans_by (Ok s) = answered (spans_in s)
spans_by (Err r) = refused (number_of r)
