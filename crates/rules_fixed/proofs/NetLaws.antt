-- The number of each long rest says rule 9's `shortened` for every compensation; and the numbers of a recording in order. Assumes nothing.
use mathlib.Core.Path.{◌≡◌, refl, sym, ap, ap₂, ◌∙◌}
use mathlib.Core.Bool.{Bool, true, false, not}
use mathlib.Core.List.{List, [], ◌∷◌, ◌++◌, map, Memᴰ as In}
use Prim.Native.Nat.{ℕ, zero, suc, ◌+◌, ◌-◌, ◌≤◌, ◌<◌, min}
use native.Mathlib.Omega.{arith}
use lib.Dec.{leb, ltb}
use lib.ListN.{length, get_or, take}
use lib.Seq.{sets, sets-eq, take-append_seam}
use borrow.Author.Tests.{leb-true, leb-false, ltb-true, ltb-false, lt-ltb, le-ltb}
use Rattle.recording.specs.Tests.{◌and◌, pick}
use Rattle.recording.specs.Words.{minutes_of}
use Rattle.recording.specs.Rests.{closed_rests, judged_end, long_rests}
use Rattle.recording.specs.Operations.{total_at_most}
use Rattle.recording.specs.declared.Span.{Span}
use Rattle.recording.proofs.TestLaws.{and-false}
use Rattle.recording.proofs.Walks.{judged_within}
use Rattle.recording.proofs.LongRests.{Ordered, none, next, rests_ordered, rests_past, rests_split}
use Rattle.rules.specs.Broken.{if_none}
use Rattle.rules.specs.Fixed.{fixed_test}
use Rattle.rules.specs.Reading.{Entry, minutes, as_read, is_weekly, entries}
use Rattle.rules.specs.ReadingRules.{daily_window, portion_under, day_before, split_day, full_portion, second_period, shortened, later_test, fields_test}
use Rattle.rules.proofs.SplitDays.{split_stretch}
use Rattle.rules.proofs.EntryPlaces.{entry_at}
use Rattle.rules.proofs.RuleLaws.{later_counts}
use Rattle.rules.proofs.RestWeekLaws.{inside_rest, reading_by_rests}
use Rattle.rules_nets.specs.Nets.{needed_portion, regular_net, net_at_most, span_of, nets_from, nets_of, counts_by}
use Rattle.rules_fixed.specs.Walk.{Surveyed}
use Rattle.rules_fixed.specs.declared.Survey.{Survey}

-- ---- one rest: its portion is under n where its length is under a number and its compensation
abbrev net_for : ℕ → ℕ → ℕ → ℕ → ℕ
net_for n p start end = pick (leb (start + n) (p + daily_window)) n (end - start + 1)

net_test : (n p start end compensation : ℕ) → start ≤ end
    → ltb (min end (p + daily_window + compensation)) (start + n + compensation) ≡ ltb (end - start) (net_for n p start end + compensation)
net_test n p start end compensation h = at (leb (start + n) (p + daily_window)) (ltb (end - start) (n + compensation)) refl refl
  where
    at : (b c : Bool) → leb (start + n) (p + daily_window) ≡ b → ltb (end - start) (n + compensation) ≡ c
        → ltb (min end (p + daily_window + compensation)) (start + n + compensation) ≡ ltb (end - start) (pick b n (end - start + 1) + compensation)
    at true true e l =
        let a = leb-true (start + n) (p + daily_window) e in
        let d = ltb-true (end - start) (n + compensation) l in
        lt-ltb (min end (p + daily_window + compensation)) (start + n + compensation) (omega arith) ∙ sym l
    at true false e l =
        let a = leb-true (start + n) (p + daily_window) e in
        let d = ltb-false (end - start) (n + compensation) l in
        le-ltb (min end (p + daily_window + compensation)) (start + n + compensation) (omega arith) ∙ sym l
    at false c e l =
        let a = leb-false (start + n) (p + daily_window) e in
        lt-ltb (min end (p + daily_window + compensation)) (start + n + compensation) (omega arith)
        ∙ sym (lt-ltb (end - start) (end - start + 1 + compensation) (omega arith))

-- a portion under 540 is under 660
under_both : (e : Entry) → portion_under full_portion e and portion_under second_period e ≡ portion_under second_period e
unfolding portion_under ◌and◌
under_both e = at (portion_under second_period e) refl
  where
    at : (b : Bool) → portion_under second_period e ≡ b → portion_under full_portion e and b ≡ b
    at true t =
        let l = ltb-true (min e.span.end (e.before + daily_window + e.compensation)) (e.span.start + second_period + e.compensation) t in
        rw (lt-ltb (min e.span.end (e.before + daily_window + e.compensation)) (e.span.start + full_portion + e.compensation) (omega (arith, l))) refl
    at false t = and-false (portion_under full_portion e)

-- what counts is a portion under what the day needs
counted_portion : (split : Bool) (e : Entry) → portion_under full_portion e and not (not (portion_under second_period e) and split) ≡ portion_under (needed_portion split) e
unfolding ◌and◌
counted_portion true e = at (portion_under second_period e) refl
  where
    at : (b : Bool) → portion_under second_period e ≡ b → portion_under full_portion e and not (not b and true) ≡ portion_under second_period e
    at true t = ap (λ (x : Bool). portion_under full_portion e and x) (sym t) ∙ under_both e
    at false t = and-false (portion_under full_portion e) ∙ sym t
counted_portion false e = at (portion_under full_portion e) (portion_under second_period e)
  where
    at : (a b : Bool) → a and not (not b and false) ≡ a
    at true true = refl
    at true false = refl
    at false b = refl

-- THE LAW: for every compensation the number says rule 9's `shortened`
pub net_says : (closed : List Span) (e : Entry) → e.span.start ≤ e.span.end → is_weekly (as_read e) ≡ false
    → shortened closed e ≡ ltb (minutes e) (regular_net (split_day closed (day_before e)) e.before e.span.start e.span.end + e.compensation)
unfolding shortened portion_under regular_net ◌and◌
net_says closed e h d =
    let split : Bool = split_day closed (day_before e) in
    ap (λ (b : Bool). not b and portion_under full_portion e and not (not (portion_under second_period e) and split)) d
    ∙ counted_portion split e
    ∙ net_test (needed_portion split) e.before e.span.start e.span.end e.compensation h

-- ---- the numbers in order: as many, and the number at an index
nets_length : (closed : List Span) (p : ℕ) (ss : List Span) → length (nets_from closed p ss) ≡ length ss
unfolding nets_from
nets_length closed p [] = refl
nets_length closed p (s ∷ ss) = ap suc (nets_length closed s.end ss)

pub all_numbered : (ms : List ℕ) → length (nets_of ms) ≡ length (long_rests ms)
unfolding nets_of
all_numbered ms = nets_length (closed_rests ms) 0 (long_rests ms)

-- all are in bounds
net_most : (split : Bool) (p start end : ℕ) → end ≤ total_at_most → regular_net split p start end ≤ net_at_most
unfolding regular_net
net_most split p start end h = at (leb (start + needed_portion split) (p + daily_window)) split
  where
    at : (b split : Bool) → pick b (needed_portion split) (end - start + 1) ≤ net_at_most
    at true true = omega arith
    at true false = omega arith
    at false split = omega arith

most_from : {to : ℕ} (closed : List Span) (p : ℕ) {from : ℕ} {rs : List Span} → Ordered to from rs → to ≤ total_at_most → (i : ℕ) → i < length rs
    → get_or (nets_from closed p rs) i 0 ≤ net_at_most
unfolding nets_from
most_from closed p none h i l = absurd (omega arith)
most_from closed p (next {r = r} a n e o) h zero l = net_most _ p r.start r.end (omega arith)
most_from closed p (next {r = r} a n e o) h (suc i) l = most_from closed r.end o h i (omega arith)

pub nets_most : (ms : List ℕ) → length ms ≤ total_at_most → (i : ℕ) → i < length (long_rests ms) → get_or (nets_of ms) i 0 ≤ net_at_most
unfolding nets_of
nets_most ms h i l = most_from (closed_rests ms) 0 (rests_ordered ms) (omega (arith, judged_within ms)) i l

nets_at : (closed : List Span) (p : ℕ) (ss : List Span) (i : ℕ) → i < length ss → get_or (nets_from closed p ss) i 0
    ≡ regular_net (split_day closed (span_of (get_or (p ∷ map (λ (s : Span). s.end) ss) i 0) (get_or (map (λ (s : Span). s.start) ss) i 0)))
    (get_or (p ∷ map (λ (s : Span). s.end) ss) i 0) (get_or (map (λ (s : Span). s.start) ss) i 0) (get_or (map (λ (s : Span). s.end) ss) i 0)
unfolding nets_from
nets_at closed p [] i h = absurd (omega arith)
nets_at closed p (s ∷ ss) zero h = refl
nets_at closed p (s ∷ ss) (suc i) h = nets_at closed s.end ss i (omega arith)

-- ---- rules 6 to 11 by the numbers
module _ (ms nets : List ℕ) (numbered : (i : ℕ) → i < length (long_rests ms) → get_or nets i 0 ≡ get_or (nets_of ms) i 0) where
  counts_right : (fields : List ℕ) (e : Entry) → In e (entries (long_rests ms) fields) → is_weekly (as_read e) ≡ false → shortened (closed_rests ms) e ≡ counts_by nets e
  unfolding entries nets_of counts_by
  counts_right fields e i daily =
      let k = entry_at 1 0 [] fields (rests_ordered ms) e i in
      let a = k.1 in
      let z : e.number - 1 ≡ k.0 = omega (arith, a.number) in
      let net : get_or nets (e.number - 1) 0 ≡ regular_net (split_day (closed_rests ms) (day_before e)) e.before e.span.start e.span.end =
      ap (λ (j : ℕ). get_or nets j 0) z ∙ numbered k.0 a.within ∙ nets_at (closed_rests ms) 0 (long_rests ms) k.0 a.within
      ∙ rw (← a.before, ← a.start, ← a.end) refl in
      net_says (closed_rests ms) e a.ordered daily ∙ ap (λ (x : ℕ). ltb (minutes e) (x + e.compensation)) (sym net)

  pub reading_by_numbers : (fields : List ℕ)
      → fields_test ms fields ≡ if_none (fixed_test ms) (later_test (inside_rest (long_rests ms)) (counts_by nets) (judged_end ms) (long_rests ms) (entries (long_rests ms) fields))
  reading_by_numbers fields =
      reading_by_rests ms fields
      ∙ ap (if_none (fixed_test ms)) (later_counts (inside_rest (long_rests ms)) _ _ (judged_end ms) (long_rests ms) (entries (long_rests ms) fields) (counts_right fields))

-- ---- a stretch has the first of the numbers
nets_append : (closed : List Span) (p : ℕ) (rs qs : List Span) → (q : ℕ) × (nets_from closed p (rs ++ qs) ≡ nets_from closed p rs ++ nets_from closed q qs)
unfolding nets_from
nets_append closed p [] qs = (p, refl)
nets_append closed p (r ∷ rs) qs =
    let i = nets_append closed r.end rs qs in
    (i.0, ap (λ (l : List ℕ). regular_net (split_day closed (span_of p r.start)) p r.start r.end ∷ l) i.1)

nets_stretch : (xs ys : List ℕ) (p : ℕ) {from : ℕ} {rs : List Span} → Ordered (judged_end xs) from rs → nets_from (closed_rests (xs ++ ys)) p rs ≡ nets_from (closed_rests xs) p rs
unfolding nets_from
nets_stretch xs ys p none = refl
nets_stretch xs ys p (next {r = r} l m d o) =
    ap₂ (λ (b : Bool) (ns : List ℕ). regular_net b p r.start r.end ∷ ns) (split_stretch xs ys (span_of p r.start) (omega arith)) (nets_stretch xs ys r.end o)

pub first_nets : (xs ys : List ℕ) → nets_of xs ≡ take (length (long_rests xs)) (nets_of (xs ++ ys))
unfolding nets_of
first_nets xs ys =
    let closed = closed_rests (xs ++ ys) in
    let both = nets_append closed 0 (long_rests xs) (rests_past xs ys) in
    let same : nets_from closed 0 (long_rests xs) ≡ nets_from (closed_rests xs) 0 (long_rests xs) = nets_stretch xs ys 0 (rests_ordered xs) in
    sym (ap₂ (λ (k : ℕ) (l : List Span). take k (nets_from closed 0 l)) (sym (nets_length closed 0 (long_rests xs))) (rests_split xs ys)
    ∙ ap (take (length (nets_from closed 0 (long_rests xs)))) both.1
    ∙ take-append_seam (nets_from closed 0 (long_rests xs)) _
    ∙ same)

-- ---- the numbers that a survey leaves in a slice with room for all
pub front : (vs l : List ℕ) → length vs ≤ length l → take (length vs) (sets l 0 vs) ≡ vs
front vs l h = ap (take (length vs)) (sets-eq vs l 0 (omega arith)) ∙ take-append_seam vs _

pub nets_found : {ws starts ends nets starts' ends' nets' : List ℕ} {r : Survey} → Surveyed ws starts ends nets r starts' ends' nets'
    → length (long_rests (minutes_of ws)) ≤ length nets → take (length (long_rests (minutes_of ws))) nets' ≡ nets_of (minutes_of ws)
nets_found {ws} {nets = nets} {nets' = nets'} v room =
    let size : length (nets_of (minutes_of ws)) ≡ length (long_rests (minutes_of ws)) = all_numbered (minutes_of ws) in
    ap (λ (n : ℕ). take n nets') (sym size) ∙ ap (take (length (nets_of (minutes_of ws)))) v.numbered ∙ front (nets_of (minutes_of ws)) nets (omega arith)
