-- Public: document 01, "Readings", rules 6 to 11, over the entries of a reading; rule 9 with request 3 of document 02.
-- Assumes nothing.
use Rattle.std.specs.Prelude.{Bool, true, false, not, List, [], ◌∷◌, ℕ, zero, suc, ◌+◌, min, leb, ltb, eqb, length}
use Rattle.recording.specs.Tests.{◌and◌, ◌or◌, pick, one, all_of, any_of, all_below, count_of}
use Rattle.recording.specs.Rests.{length_of, closed_rests, judged_end, long_rests}
use Rattle.recording.specs.Weeks.{week_start, week_of, touches, rest_only, inside}
use Rattle.recording.specs.declared.Span.{Span}
use Rattle.rules.specs.Broken.{unless, if_none}
use Rattle.rules.specs.Fixed.{fixed_test}
use Rattle.rules.specs.Reading.{Entry, minutes, daily_kind, weekly_kind, as_read, is_weekly, is_regular, fields_in, entries}
use Rattle.rules.specs.declared.Kind.{Kind}
use Rattle.rules.specs.declared.Kind.TheVariants.{Daily, Weekly}
use Rattle.rules.specs.declared.Standing.TheVariants.{Regular, Reduced}

-- Rule 6, form and 8(9). "A kind byte over 1 breaks this rule. Daily: week and carrier are 0."
unfoldable pub formed_daily : Entry → Bool
formed_daily e = eqb e.kind daily_kind and eqb e.week 0 and eqb e.compensated_by 0

-- "Weekly: length at least 1,440; the rest has a minute in that week; the carrier is 0 or a later long rest." Of k long rests.
abbrev pub weekly_length : ℕ
weekly_length = 1440

unfoldable pub formed_weekly : ℕ → Entry → Bool
formed_weekly k e =
    eqb e.kind weekly_kind and leb weekly_length (minutes e) and touches e.span e.week and
    (eqb e.compensated_by 0 or (ltb e.number e.compensated_by and leb e.compensated_by k))

unfoldable pub formed : ℕ → Entry → Bool
formed k e = formed_daily e or formed_weekly k e

unfoldable pub rule6 : ℕ → List Entry → Bool
rule6 k es = all_of (formed k) es

-- Rule 7, 8(7). "own is at least 1,440 if weekly, 540 if daily."
abbrev pub least_net : Kind → ℕ
least_net Daily = 540
least_net (Weekly s) = 1440

unfoldable pub long_enough : Entry → Bool
long_enough e = leb (least_net (as_read e) + e.compensation) (minutes e)

unfoldable pub rule7 : List Entry → Bool
rule7 es = all_of long_enough es

-- Rule 8, 8(6). "For a reduced one counted in week w, due is 10,080 × (w + 4)": the deadline for its compensation
abbrev pub weeks_to_compensate : ℕ
weeks_to_compensate = 4

abbrev pub deadline : Entry → ℕ
deadline e = week_start (e.week + weeks_to_compensate)

-- where the long rest of a number ends
unfoldable pub end_of : List Span → ℕ → ℕ
end_of [] n = 0
end_of (r ∷ rs) zero = 0
end_of (r ∷ rs) (suc zero) = r.end
end_of (r ∷ rs) (suc (suc n)) = end_of rs (suc n)

-- ".. its carrier ends no later than due, or the carrier is 0 and due is after S." First whether the carrier is 0.
abbrev pub by_deadline : Bool → ℕ → List Span → ℕ → ℕ → Bool
by_deadline true s rs carrier due = ltb s due
by_deadline false s rs carrier due = leb (end_of rs carrier) due

-- "A regular weekly rest has carrier 0."
abbrev pub settles : Kind → ℕ → List Span → ℕ → ℕ → Bool
settles Daily s rs carrier due = true
settles (Weekly Regular) s rs carrier due = eqb carrier 0
settles (Weekly (Reduced d)) s rs carrier due = by_deadline (eqb carrier 0) s rs carrier due

unfoldable pub compensated : ℕ → List Span → Entry → Bool
compensated s rs e = settles (as_read e) s rs e.compensated_by (deadline e)

unfoldable pub rule8 : ℕ → List Span → List Entry → Bool
rule8 s rs es = all_of (compensated s rs) es

-- Rule 9, 8(4). "A daily rest's portion is min(start + own, P + 1,440) − start", under n minutes: both sides have start and the load added
abbrev pub daily_window : ℕ
daily_window = 1440

unfoldable pub portion_under : ℕ → Entry → Bool
portion_under n e = ltb (min e.span.end (e.before + daily_window + e.compensation)) (e.span.start + n + e.compensation)

-- Document 02, request 3: ".. an earlier rest of 180 to 539 minutes", both included. It is the first period of a daily rest taken as two.
abbrev pub first_period_at_least : ℕ
first_period_at_least = 180

abbrev pub first_period_at_most : ℕ
first_period_at_most = 539

abbrev pub is_first_period : Span → Bool
is_first_period r = leb first_period_at_least (length_of r) and leb (length_of r) first_period_at_most

-- ".. if its day holds" one: its day runs from P to its start, and of the rests that are not open one lies in it
abbrev pub day_before : Entry → Span
day_before e = record { start = e.before; end = e.span.start }

unfoldable pub split_day : List Span → Span → Bool
split_day closed day = any_of (λ r. inside r day and is_first_period r) closed

-- "A daily rest with portion 540 or more no longer counts under rule 9 if its day holds an earlier rest of 180 to 539 minutes." Those with portion
-- under 660 count otherwise.
abbrev pub full_portion : ℕ
full_portion = 660

abbrev pub second_period : ℕ
second_period = 540

unfoldable pub shortened : List Span → Entry → Bool
shortened closed e =
    not (is_weekly (as_read e)) and portion_under full_portion e and
    not (not (portion_under second_period e) and split_day closed (day_before e))

-- "At most three daily rests with portion under 660 lie between two neighbouring weekly rests, before the first, after the last, or in all where
-- there is no weekly rest." By which daily rests count; there were n since the last weekly rest, or since the start.
abbrev pub shortened_at_most : ℕ
shortened_at_most = 3

unfoldable pub rule9_from : (Entry → Bool) → ℕ → List Entry → Bool
rule9_from counts n [] = true
rule9_from counts n (e ∷ es) =
    let m = pick (is_weekly (as_read e)) 0 (n + one (counts e)) in
    leb m shortened_at_most and rule9_from counts m es

unfoldable pub rule9 : (Entry → Bool) → List Entry → Bool
rule9 counts es = rule9_from counts 0 es

-- Rule 10, 8(6). "From minute 0 or a weekly rest's end to the next weekly rest's start, or to S if none follows: at most 8,640." The last ended at q.
abbrev pub weekly_gap : ℕ
weekly_gap = 8640

abbrev pub in_gap : ℕ → ℕ → Bool
in_gap q point = leb point (q + weekly_gap)

unfoldable pub rule10_from : ℕ → ℕ → List Entry → Bool
rule10_from q s [] = in_gap q s
rule10_from q s (e ∷ es) =
    (not (is_weekly (as_read e)) or in_gap q e.span.start) and
    rule10_from (pick (is_weekly (as_read e)) e.span.end q) s es

unfoldable pub rule10 : ℕ → List Entry → Bool
rule10 s es = rule10_from 0 s es

-- Rule 11, 8(6). "A week of rest minutes only counts as holding exactly one regular weekly rest, however many are counted in it." How many rests
-- of a kind are counted in week w, by which weeks are of rest minutes only
unfoldable pub of_kind : (Kind → Bool) → ℕ → Entry → Bool
of_kind f w e = f (as_read e) and eqb e.week w

unfoldable pub counted_in : (Kind → Bool) → (ℕ → Bool) → List Entry → ℕ → ℕ
counted_in f rest_week es w = pick (rest_week w) 1 (count_of (of_kind f w) es)

abbrev pub weekly_at_least : ℕ
weekly_at_least = 2

abbrev pub regular_at_least : ℕ
regular_at_least = 1

unfoldable pub enough_in : (ℕ → Bool) → List Entry → ℕ → Bool
enough_in rest_week es w =
    leb weekly_at_least (counted_in is_weekly rest_week es w + counted_in is_weekly rest_week es (w + 1)) and
    leb regular_at_least (counted_in is_regular rest_week es w + counted_in is_regular rest_week es (w + 1))

-- "For weeks w and w + 1 with 10,080 × (w + 2) at most S: at least two weekly rests counted, one of them regular."
unfoldable pub rule11 : (ℕ → Bool) → ℕ → List Entry → Bool
rule11 rest_week s es = all_below (week_of s) (λ w. not (leb (week_start (w + 2)) s) or enough_in rest_week es w)

-- rules 6 to 11, by which weeks are of rest minutes only and which daily rests count under rule 9, where S is s and the long rests are rs
unfoldable pub later_test : (ℕ → Bool) → (Entry → Bool) → ℕ → List Span → List Entry → ℕ
later_test rest_week counts s rs es =
    unless (rule6 (length rs) es) 6 (unless (rule7 es) 7 (unless (rule8 s rs es) 8
    (unless (rule9 counts es) 9 (unless (rule10 s es) 10 (unless (rule11 rest_week s es) 11 0)))))

-- "Later rules are read only when the earlier ones hold." 0, or the smallest broken rule of 1 to 11: by the fields of a reading, and of a reading
unfoldable pub fields_test : List ℕ → List ℕ → ℕ
fields_test ms fields =
    if_none (fixed_test ms) (later_test (rest_only ms) (shortened (closed_rests ms)) (judged_end ms) (long_rests ms) (entries (long_rests ms) fields))

unfoldable pub reading_test : List ℕ → List ℕ → ℕ
reading_test ms reading = fields_test ms (fields_in reading)
