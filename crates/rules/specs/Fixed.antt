-- Public: document 01, "Fixed rules", rules 1 to 5, over the minutes of a recording; with document 02, request 2. They stand as request 4 asks: "let the
-- work go in the regulation's order, articles 6(1), 6(2), 6(3), 7, 8(2)".
-- Assumes nothing.
use Rattle.std.specs.Prelude.{Bool, true, false, not, List, [], ◌∷◌, ℕ, zero, suc, ◌+◌, leb, ltb, eqb}
use Rattle.recording.specs.Tests.{◌and◌, ◌or◌, pick, one, all_of, all_below, count_of}
use Rattle.recording.specs.Words.{is_driving}
use Rattle.recording.specs.Days.{days, driving_in}
use Rattle.recording.specs.Weeks.{week, week_of, weeks_of}
use Rattle.recording.specs.declared.Span.{Span}
use Rattle.rules.specs.declared.Accumulated.{Accumulated}
use Rattle.rules.specs.declared.Breaches.{Breaches}
use Rattle.rules.specs.Broken.{first_place}

-- The rules of article 6 go by the driving of a span and by the number of weeks.

-- Rule 2, 6(1). "A day's driving is at most 600. At most two days that begin in one week exceed 540."
abbrev pub day_at_most : ℕ
day_at_most = 600

abbrev pub ordinary_day : ℕ
ordinary_day = 540

abbrev pub extended_days : ℕ
extended_days = 2

unfoldable pub extended : (Span → ℕ) → ℕ → Span → Bool
extended driving w d = eqb (week_of d.start) w and ltb ordinary_day (driving d)

unfoldable pub rule2 : (Span → ℕ) → ℕ → List Span → Bool
rule2 driving weeks ds =
    all_of (λ d. leb (driving d) day_at_most) ds and
    all_below weeks (λ w. leb (count_of (extended driving w) ds) extended_days)

-- Rule 3, 6(2). "A week's driving is at most 3,360."
abbrev pub week_at_most : ℕ
week_at_most = 3360

unfoldable pub rule3 : (Span → ℕ) → ℕ → Bool
rule3 driving weeks = all_below weeks (λ w. leb (driving (week w)) week_at_most)

-- Rule 4, 6(3). "Two consecutive weeks have at most 5,400."
abbrev pub fortnight_at_most : ℕ
fortnight_at_most = 5400

unfoldable pub rule4 : (Span → ℕ) → ℕ → Bool
rule4 driving weeks = all_below weeks (λ w. leb (driving (week w) + driving (week (w + 1))) fortnight_at_most)

-- Rule 1, article 7. "A driving sum starts at 0." Beside the sum, `split`: whether a split break has begun, the document's first part.
-- "Clearing forgets the first part."
abbrev pub cleared : Accumulated
cleared = record { sum = 0; split = false }

abbrev pub full_break : ℕ
full_break = 45

abbrev pub first_part : ℕ
first_part = 15

abbrev pub second_part : ℕ
second_part = 30

-- "After a rest of 45 or more it is 0 again. .. a rest of 30 or more after a first part clears the sum."
abbrev pub clears : ℕ → Accumulated → Bool
clears n d = leb full_break n or (leb second_part n and d.split)

-- "A rest of 15 or more is a first part, unless it clears the sum". Document 02, request 2: "From now on a rest is a first part only if driving
-- has been done since the sum was last cleared, or since minute 0 if it never was." The sum is that driving.
abbrev pub splits : ℕ → Accumulated → Bool
splits n d = leb first_part n and ltb 0 d.sum

unfoldable pub rested : ℕ → Accumulated → Accumulated
rested n d = pick (clears n d) cleared (record { sum = d.sum; split = splits n d or d.split })

unfoldable pub drove : ℕ → Accumulated → Accumulated
drove a d = record { sum = one (is_driving a) + d.sum; split = d.split }

-- "The sum never passes 270." A rest of n minutes is under way; an open one is never over.
abbrev pub accumulated_at_most : ℕ
accumulated_at_most = 270

unfoldable pub keeps_accumulated : Accumulated → ℕ → List ℕ → Bool
keeps_accumulated d n [] = true
keeps_accumulated d n (zero ∷ ms) = keeps_accumulated d (suc n) ms
keeps_accumulated d n (suc a ∷ ms) =
    let e = drove (suc a) (rested n d) in
    leb e.sum accumulated_at_most and keeps_accumulated e 0 ms

unfoldable pub rule1 : List ℕ → Bool
rule1 ms = keeps_accumulated cleared 0 ms

-- Rule 5, 8(2). "Every long rest starts at most 900 after P; S too": the end of every day.
abbrev pub day_length : ℕ
day_length = 900

abbrev pub ends_in_time : Span → Bool
ends_in_time d = leb d.end (d.start + day_length)

unfoldable pub rule5 : List Span → Bool
rule5 ds = all_of ends_in_time ds

-- None of the five is broken.
abbrev pub unbroken : Breaches
unbroken = record { daily = false; weekly = false; fortnightly = false; breaks = false; rests = false }

-- What is broken by one account or by the other.
unfoldable pub either_broken : Breaches → Breaches → Breaches
either_broken a b = record {
  daily = a.daily or b.daily;
  weekly = a.weekly or b.weekly;
  fortnightly = a.fortnightly or b.fortnightly;
  breaks = a.breaks or b.breaks;
  rests = a.rests or b.rests;
}

-- Which of the five are broken: by the driving of a span, the number of weeks, the days, and whether the breaks of article 7 are kept; and in a recording.
unfoldable pub breaches_by : (Span → ℕ) → ℕ → List Span → Bool → Breaches
breaches_by driving weeks ds breaks = record {
  daily = not (rule2 driving weeks ds);
  weekly = not (rule3 driving weeks);
  fortnightly = not (rule4 driving weeks);
  breaks = not breaks;
  rests = not (rule5 ds);
}

unfoldable pub breaches : List ℕ → Breaches
breaches ms = breaches_by (driving_in ms) (weeks_of ms) (days ms) (rule1 ms)

-- "0 or the smallest broken rule of 1 to 5": in the order of document 01's numbers
abbrev pub by_number : Breaches → List Bool
by_number b = b.breaks ∷ b.daily ∷ b.weekly ∷ b.fortnightly ∷ b.rests ∷ []

unfoldable pub smallest_rule : Breaches → ℕ
smallest_rule b = first_place (by_number b)

unfoldable pub fixed_test : List ℕ → ℕ
fixed_test ms = smallest_rule (breaches ms)

-- "0 or the place, 1 to 5, of the first of these broken": "articles 6(1), 6(2), 6(3), 7, 8(2)"
abbrev pub by_article : Breaches → List Bool
by_article b = b.daily ∷ b.weekly ∷ b.fortnightly ∷ b.breaks ∷ b.rests ∷ []

unfoldable pub first_article : Breaches → ℕ
first_article b = first_place (by_article b)
