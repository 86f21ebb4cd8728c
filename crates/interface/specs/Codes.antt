-- Public: an answer as one number, for callers in C.
-- Assumes nothing.
use Rattle.std.specs.Prelude.{ℕ, ◌+◌, ◌-◌, ◌*◌, ◌/◌, ◌%◌, List, ltb}
use Rattle.recording.specs.Tests.{pick}
use Rattle.recording.specs.Answers.{Answer, refused, answered}
use Rattle.recording.specs.declared.Measure.{Measure}
use Rattle.rules.specs.Reading.{entry_bytes}
use Rattle.rules.specs.Operations.{Finding, passed, breached, entry_at}

-- "The result itself says whether its number is a refusal or an answer, since both start at 1." A refusal is its own number, an answer one unit
-- and its value.
abbrev pub answer_unit : ℕ
answer_unit = 72057594037927936

-- a lent slice has fewer bytes than this
abbrev pub slice_bytes : ℕ
slice_bytes = 9223372036854775808

abbrev pub code_of : {A : Type 0} → (A → ℕ) → Answer A → ℕ
code_of value (refused n) = n
code_of value (answered a) = answer_unit + value a

-- "answers with the count of words, bytes or records written"; "0 or the smallest broken rule"; "0 or the place, 1 to 5, of the first of these broken"
abbrev pub itself : ℕ → ℕ
itself n = n

-- "Weighing gives N, S and k."
abbrev pub judged_unit : ℕ
judged_unit = 1048576

abbrev pub count_unit : ℕ
count_unit = 1099511627776

abbrev pub measure_value : Measure → ℕ
measure_value m = m.total + judged_unit * m.judged + count_unit * m.count

-- A pass has no value, a breach one unit more, eight times its minute and its article.
abbrev pub article_unit : ℕ
article_unit = 8

abbrev pub finding_value : Finding → ℕ
finding_value passed = 0
finding_value (breached m a) = answer_unit + article_unit * m + a

-- The answer is the four bytes "themselves in the caller's reading": the place of the first of them there.
abbrev pub entry_place : ℕ → ℕ
entry_place number = entry_bytes * (number - 1)

abbrev pub entry_code : List ℕ → ℕ → ℕ
entry_code reading number = code_of (λ _. entry_place number) (entry_at reading number)

-- ---- how a caller reads a code
abbrev pub answer_in : {A : Type 0} → (ℕ → A) → ℕ → Answer A
answer_in reads code = pick (ltb code answer_unit) (refused code) (answered (reads (code - answer_unit)))

abbrev pub measure_in : ℕ → Measure
measure_in v = record { total = v % judged_unit; judged = v / judged_unit % judged_unit; count = v / count_unit }

abbrev pub finding_in : ℕ → Finding
finding_in v = pick (ltb v answer_unit) passed (breached ((v - answer_unit) / article_unit) ((v - answer_unit) % article_unit))
