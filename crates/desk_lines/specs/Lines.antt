-- Public: the lines that the desk program prints.
-- Assumes nothing.
use Rattle.std.specs.Prelude.{List, [], ◌∷◌, ◌++◌, ℕ, eqb}
use Rattle.recording.specs.Tests.{pick}
use Rattle.rules.specs.Reading.{weekly_kind}
use Rattle.text_lines.specs.Form.{line_end, closing_line, decimal}

-- ---- lines, each ended by byte 10 and with no spaces but those shown
-- `(verdict`, `(minutes`, `(judged`, `(reading`, `(daily`, `(weekly`, `(breach` and `(refused`
abbrev pub verdict_name : List ℕ
verdict_name = 40 ∷ 118 ∷ 101 ∷ 114 ∷ 100 ∷ 105 ∷ 99 ∷ 116 ∷ []

abbrev pub minutes_name : List ℕ
minutes_name = 40 ∷ 109 ∷ 105 ∷ 110 ∷ 117 ∷ 116 ∷ 101 ∷ 115 ∷ []

abbrev pub judged_name : List ℕ
judged_name = 40 ∷ 106 ∷ 117 ∷ 100 ∷ 103 ∷ 101 ∷ 100 ∷ []

abbrev pub reading_name : List ℕ
reading_name = 40 ∷ 114 ∷ 101 ∷ 97 ∷ 100 ∷ 105 ∷ 110 ∷ 103 ∷ []

abbrev pub daily_name : List ℕ
daily_name = 40 ∷ 100 ∷ 97 ∷ 105 ∷ 108 ∷ 121 ∷ []

abbrev pub weekly_name : List ℕ
weekly_name = 40 ∷ 119 ∷ 101 ∷ 101 ∷ 107 ∷ 108 ∷ 121 ∷ []

abbrev pub breach_name : List ℕ
breach_name = 40 ∷ 98 ∷ 114 ∷ 101 ∷ 97 ∷ 99 ∷ 104 ∷ []

abbrev pub refused_name : List ℕ
refused_name = 40 ∷ 114 ∷ 101 ∷ 102 ∷ 117 ∷ 115 ∷ 101 ∷ 100 ∷ []

abbrev pub space : ℕ
space = 32

-- a line, and the end of one whose bracket closes there
abbrev pub as_line : List ℕ → List ℕ
as_line l = l ++ line_end ∷ []

abbrev pub closed : List ℕ
closed = as_line closing_line

-- a number after a space
abbrev pub spaced : ℕ → List ℕ
spaced n = (space ∷ []) ++ decimal n

-- a line of a name and one number
unfoldable pub numbered : List ℕ → ℕ → List ℕ
numbered name n = name ++ spaced n ++ closed

-- ---- the verdict's
-- A daily rest prints `(daily start end)`, a weekly one `(weekly start end week carrier)`.
unfoldable pub span_text : List ℕ → ℕ → ℕ → List ℕ
span_text name start end = name ++ spaced start ++ spaced end

unfoldable pub daily_text : ℕ → ℕ → List ℕ
daily_text start end = span_text daily_name start end ++ closed

unfoldable pub weekly_text : ℕ → ℕ → ℕ → ℕ → List ℕ
weekly_text start end week carrier = span_text weekly_name start end ++ spaced week ++ spaced carrier ++ closed

-- a rest by its entry in the reading: kind, week, carrier
unfoldable pub rest_text : ℕ → ℕ → ℕ → ℕ → ℕ → List ℕ
rest_text start end kind week carrier = pick (eqb kind weekly_kind) (weekly_text start end week carrier) (daily_text start end)

-- Articles print as 7, 6.1, 6.2, 6.3, 8.2 or 8 for the numbers 1 to 6.
unfoldable pub article_text : ℕ → List ℕ
article_text a =
    pick (eqb a 1) (55 ∷ [])
    (pick (eqb a 2) (54 ∷ 46 ∷ 49 ∷ [])
    (pick (eqb a 3) (54 ∷ 46 ∷ 50 ∷ [])
    (pick (eqb a 4) (54 ∷ 46 ∷ 51 ∷ [])
    (pick (eqb a 5) (56 ∷ 46 ∷ 50 ∷ [])
    (56 ∷ [])))))

-- the line `(breach m a)`
unfoldable pub breach_text : ℕ → ℕ → List ℕ
breach_text m a = breach_name ++ spaced m ++ (space ∷ []) ++ article_text a ++ closed

-- ---- the spans of weeks
-- `(weeks`
abbrev pub weeks_name : List ℕ
weeks_name = 40 ∷ 119 ∷ 101 ∷ 101 ∷ 107 ∷ 115 ∷ []

-- A span prints its first and its last week, `(weeks first last)`.
unfoldable pub weeks_text : ℕ → ℕ → List ℕ
weeks_text first last = span_text weeks_name first last ++ closed
