-- The starred cases of document 01, "On the edge", a worked case at each edge of a number, cases of several fixed rules that break at one minute, cases
-- of the verdict beside the first reading, cases of the spans of weeks, and cases of a year, under one law and one test that is computed.
-- Assumes nothing.
use mathlib.Core.Path.{◌≡◌, refl, sym, ap, ap₂, ◌∙◌}
use mathlib.Core.Logic.{◌⊎◌, inl, inr}
use mathlib.Core.Bool.{Bool, true, false, not, false≢true}
use mathlib.Core.List.Memᴰ
use mathlib.Core.List.Memᴰ.{head as here}
use mathlib.Core.List.Memᴰ.{tail as there}
use mathlib.Core.List.{List, [], ◌∷◌, ◌++◌, Memᴰ as In}
use mathlib.Core.Option.{none}
use Prim.Native.Nat.{ℕ, zero, suc, ◌+◌, ◌*◌, ◌-◌, ◌≤◌}
use native.Mathlib.Omega.{arith}
use lib.Dec.{eqb, leb, ltb}
use lib.ListN.{length, drop, replicate}
use borrow.Author.Tests.{eqb-true, eqb-false, leb-true, ltb-true, le-ltb, not-true}
use Rattle.recording.specs.Tests.{◌and◌, ◌or◌, pick, all_of, any_of, keep}
use Rattle.recording.specs.Answers.{Answer, refused, answered, and_then}
use Rattle.recording.specs.Weeks.{week_minutes, week_start}
use Rattle.recording.proofs.WordLaws.{minutes_in_law, activity_in_law}
use Rattle.recording.specs.Operations.{total_from, measure_of, measured}
use Rattle.recording.specs.Words.{word_of, minutes_in, activity_in, rest, availability, other_work, driving, minutes_of}
use Rattle.recording.specs.Rests.{long_rests}
use Rattle.recording.proofs.TestLaws.{and_left, and_right, or_cases}
use Rattle.recording.specs.declared.Span.{Span}
use Rattle.recording.proofs.ByWord.{long_rests_by, rests_by, total_by, total_by_law, cut_at_law, end_by, closed_by, driving_up_to}
use Rattle.recording.specs.Scan.{cut_at}
use Rattle.rules.specs.declared.Breaches.{Breaches}
use Rattle.rules.specs.Fixed.{breaches, smallest_rule, fixed_test, by_article, first_article}
use Rattle.rules.specs.Reading.{Entry, daily_kind, weekly_kind, entry_bytes, reading_size, byte_values, fields_in}
use Rattle.rules.specs.ReadingRules.{shortened, reading_test}
use Rattle.rules.specs.Order.{Bytes}
use Rattle.rules.specs.Verdict.{lawful, first_lawful, prefix, article, article_by, Verdict, pass, breach, verdict}
use Rattle.rules.specs.Operations.{breaches_tested, fixed_tested, article_tested, passed, breached, finding_of, verdict_given, reading_into, first_reading_given}
use Rattle.rules.specs.Spans.{weeks_begun, spans_beginning, spans_from, span_minutes, is_breach, breaching, shorter_inside, least_breach, breach_spans, list_into, spans_given}
use Rattle.rules.specs.declared.Weeks.{Weeks}
use Rattle.rules.specs.Opened.{opened}
use Rattle.rules.proofs.RuleLaws.{lawful_rules}
use Rattle.rules.proofs.Breach.{LawfulReading, lawful_fields_law, first_none, is_none_law, verdict-breach, verdict-pass}
use Rattle.rules.proofs.Spans.{span, lawful_passes, none_breaches, span_is}
use Rattle.rules.proofs.ByWord.{breaches_by_word, breaches_by_law, fixed_by, fixed_by_law, reading_by, reading_by_law, keeps_accumulated_by}
use Rattle.rules.proofs.OnlyDaily.{never_weekly, all_daily, daily_first, daily_none}

-- ---- what a case says
pub data Case : Type 0 where
  -- the verdict is a pass, and the first lawful reading is that of daily rests alone
  passes : List ℕ → Case
  -- the verdict is a breach at a minute, with its article; a lawful reading of the stretch that is a minute shorter goes with it
  breaks : List ℕ → List ℕ → ℕ → ℕ → Case
  -- the verdict is a pass as in `passes`, and the first reading with a buffer of so many bytes answers so
  reads : List ℕ → ℕ → Answer (List ℕ) → Case
  -- the verdict is a breach as in `breaks`, and the first reading with a buffer of so many bytes answers so
  reads_none : List ℕ → List ℕ → ℕ → ℕ → ℕ → Answer (List ℕ) → Case
  -- the spans of weeks in a list of so many records; with every span of the recording, in order, goes a reading, which is lawful unless the span is a breach
  spanning : List ℕ → List (List ℕ) → ℕ → Answer (List Weeks) → Case
  -- fixed rules break at a minute, and none did before: their places in the regulation's order, the fixed test's number and the article test's place there
  together : List ℕ → ℕ → List ℕ → ℕ → ℕ → Case
  -- a reading's test has an answer
  tests : List ℕ → List ℕ → ℕ → Case
  -- a daily rest counts under rule 9 or does not: by the rests that are not open, P, its start and its end, and its load
  counts : List Span → ℕ → ℕ → ℕ → ℕ → Bool → Case

abbrev daily_rest : ℕ → ℕ → ℕ → ℕ → Entry
daily_rest p start end load = record {
  number = 1;
  before = p;
  span = record { start = start; end = end };
  kind = daily_kind;
  week = 0;
  compensated_by = 0;
  compensation = load;
}

-- the places of those that are broken
abbrev places_from : ℕ → List Bool → List ℕ
places_from n [] = []
places_from n (true ∷ later) = n ∷ places_from (suc n) later
places_from n (false ∷ later) = places_from (suc n) later

abbrev pub places : Breaches → List ℕ
places b = places_from 1 (by_article b)

abbrev pub Says : Case → Type 0
Says (passes ws) = verdict (minutes_of ws) ≡ pass (all_daily (minutes_of ws))
Says (breaks ws reading m n) = verdict (minutes_of ws) ≡ breach m n
Says (reads ws room reading) = (verdict_given ws ≡ answered passed) × (first_reading_given ws room ≡ reading)
Says (reads_none ws shorter m n room reading) = (verdict_given ws ≡ answered (breached m n)) × (first_reading_given ws room ≡ reading)
Says (spanning ws readings room list) = spans_given ws room ≡ list
Says (together ws m broken rule place) =
    (places (breaches (prefix (m - 1) (minutes_of ws))) ≡ []) ×
    (places (breaches (prefix m (minutes_of ws))) ≡ broken) ×
    (fixed_tested ws m ≡ answered rule) ×
    (article_tested ws m ≡ answered place)
Says (tests ws reading n) = reading_test (minutes_of ws) reading ≡ n
Says (counts closed p start end load b) = shortened closed (daily_rest p start end load) ≡ b

abbrev pub AllSay : List Case → Type 0
AllSay [] = Unit {0}
AllSay (c ∷ cs) = Says c × AllSay cs

-- ---- a test for it
bytes_test : ℕ → List ℕ → Bool
bytes_test zero [] = true
bytes_test zero (b ∷ r) = false
bytes_test (suc n) [] = false
bytes_test (suc n) (b ∷ r) = ltb b byte_values and bytes_test n r

bytes_test_law : (n : ℕ) (r : List ℕ) → bytes_test n r ≡ true → Bytes n r
unfolding bytes_test
bytes_test_law zero [] t = tt
bytes_test_law zero (b ∷ r) t = false≢true t
bytes_test_law (suc n) [] t = false≢true t
bytes_test_law (suc n) (b ∷ r) t = (ltb-true b byte_values (and_left _ _ t), bytes_test_law n r (and_right _ _ t))

same_numbers : List ℕ → List ℕ → Bool
same_numbers [] [] = true
same_numbers [] (y ∷ ys) = false
same_numbers (x ∷ xs) [] = false
same_numbers (x ∷ xs) (y ∷ ys) = eqb x y and same_numbers xs ys

same_numbers_law : (xs ys : List ℕ) → same_numbers xs ys ≡ true → xs ≡ ys
unfolding same_numbers
same_numbers_law [] [] t = refl
same_numbers_law [] (y ∷ ys) t = absurd (false≢true t)
same_numbers_law (x ∷ xs) [] t = absurd (false≢true t)
same_numbers_law (x ∷ xs) (y ∷ ys) t = ap₂ ◌∷◌ (eqb-true x y (and_left _ _ t)) (same_numbers_law xs ys (and_right _ _ t))

same_answer : Answer (List ℕ) → Answer (List ℕ) → Bool
same_answer (refused m) (refused n) = eqb m n
same_answer (refused m) (answered ys) = false
same_answer (answered xs) (refused n) = false
same_answer (answered xs) (answered ys) = same_numbers xs ys

same_answer_law : (a b : Answer (List ℕ)) → same_answer a b ≡ true → a ≡ b
unfolding same_answer
same_answer_law (refused m) (refused n) t = ap refused (eqb-true m n t)
same_answer_law (refused m) (answered ys) t = absurd (false≢true t)
same_answer_law (answered xs) (refused n) t = absurd (false≢true t)
same_answer_law (answered xs) (answered ys) t = ap answered (same_numbers_law xs ys t)

-- the words are accepted
abbrev accepted : Answer ℕ → Bool
accepted (refused n) = false
accepted (answered total) = true

accepted_words : (ws : List ℕ) → accepted (total_from 0 ws) ≡ true → measured ws ≡ answered (measure_of (minutes_of ws))
unfolding measured
accepted_words ws = at (total_from 0 ws)
  where
    at : (t : Answer ℕ) → accepted t ≡ true → and_then t (λ _. answered (measure_of (minutes_of ws))) ≡ answered (measure_of (minutes_of ws))
    at (refused n) e = absurd (false≢true e)
    at (answered total) e = refl

-- a fixed rule is broken, or no long rest can be weekly and the daily reading is not lawful
none_lawful : List ℕ → Bool
none_lawful ms = not (eqb (fixed_test ms) 0) or (all_of never_weekly (long_rests ms) and not (lawful ms (all_daily ms)))

none_lawful_law : (ms : List ℕ) → none_lawful ms ≡ true → first_lawful ms ≡ none
unfolding none_lawful
none_lawful_law ms t = at (or_cases _ _ t)
  where
    at : (not (eqb (fixed_test ms) 0) ≡ true) ⊎ (all_of never_weekly (long_rests ms) and not (lawful ms (all_daily ms)) ≡ true) → first_lawful ms ≡ none
    at (inl f) = is_none_law ms (λ h. eqb-false (fixed_test ms) 0 (not-true (eqb (fixed_test ms) 0) f) (lawful_rules ms h.0 h.1.keeps).fixed)
    at (inr d) = daily_none ms (and_left _ _ d) (not-true (lawful ms (all_daily ms)) (and_right _ _ d))

-- the same word by word, so that a run of minutes costs a step
abbrev daily_by : List ℕ → List ℕ
daily_by ws = replicate (entry_bytes * length (long_rests_by ws)) 0

abbrev lawful_by : List ℕ → List ℕ → Bool
lawful_by ws reading = eqb (reading_by ws (fields_in reading)) 0

abbrev none_by : List ℕ → Bool
none_by ws = not (eqb (fixed_by ws) 0) or (all_of never_weekly (long_rests_by ws) and not (lawful_by ws (daily_by ws)))

module _ (ws : List ℕ) where
  lawful_by_law : (reading : List ℕ) → lawful (minutes_of ws) reading ≡ lawful_by ws reading
  unfolding lawful reading_test
  lawful_by_law reading = ap (λ (n : ℕ). eqb n 0) (reading_by_law ws (fields_in reading))

  daily_by_law : all_daily (minutes_of ws) ≡ daily_by ws
  unfolding reading_size
  daily_by_law = ap (λ (rs : List Span). replicate (entry_bytes * length rs) 0) (rests_by ws)

  lawful_daily_by : lawful (minutes_of ws) (all_daily (minutes_of ws)) ≡ lawful_by ws (daily_by ws)
  lawful_daily_by = lawful_by_law (all_daily (minutes_of ws)) ∙ ap (lawful_by ws) daily_by_law

  none_by_law : none_lawful (minutes_of ws) ≡ none_by ws
  unfolding none_lawful
  none_by_law = rw (fixed_by_law ws, rests_by ws, lawful_daily_by)

  size_by : reading_size (minutes_of ws) ≡ entry_bytes * length (long_rests_by ws)
  unfolding reading_size
  size_by = ap (λ (rs : List Span). entry_bytes * length rs) (rests_by ws)

  breaches_at : (m : ℕ) → breaches (prefix m (minutes_of ws)) ≡ breaches_by_word (cut_at m ws)
  breaches_at m = ap breaches (sym (cut_at_law m ws)) ∙ breaches_by_law (cut_at m ws)

  tested_at : (m : ℕ) → accepted (total_from 0 ws) ≡ true → leb m (total_by ws) ≡ true → breaches_tested ws m ≡ answered (breaches_by_word (cut_at m ws))
  unfolding breaches_tested
  tested_at m t h = rw (accepted_words ws t, total_by_law ws, le-ltb (total_by ws) m (leb-true m (total_by ws) h)) (ap answered (breaches_at m))

  finding_at : {v : Verdict} → accepted (total_from 0 ws) ≡ true → verdict (minutes_of ws) ≡ v → verdict_given ws ≡ answered (finding_of v)
  unfolding verdict_given
  finding_at t e = rw (accepted_words ws t) (ap (λ v. answered (finding_of v)) e)

  reading_at : {v : Verdict} (room : ℕ) → accepted (total_from 0 ws) ≡ true → verdict (minutes_of ws) ≡ v → first_reading_given ws room ≡ reading_into room (length (long_rests_by ws)) v
  unfolding first_reading_given
  reading_at room t e = rw (accepted_words ws t, rests_by ws) (ap (reading_into room (length (long_rests_by ws))) e)

  spans_at : (room : ℕ) → accepted (total_from 0 ws) ≡ true → spans_given ws room ≡ list_into room (breach_spans (minutes_of ws))
  unfolding spans_given
  spans_at room t = rw (accepted_words ws t) refl

  article_by_law : article (minutes_of ws) ≡ article_by (fixed_by ws)
  unfolding article
  article_by_law = ap article_by (fixed_by_law ws)

-- ---- the words from a minute on, and those of a span
from_at : ℕ → List ℕ → List ℕ
from_at m [] = []
from_at m (w ∷ ws) = word_of (minutes_in w - m) (activity_in w) ∷ from_at (m - minutes_in w) ws

drop_run : (m n a : ℕ) (ms : List ℕ) → drop m (replicate n a ++ ms) ≡ replicate (n - m) a ++ drop (m - n) ms
drop_run zero n a ms =
    let e : n ≡ n - 0 = omega arith in
    let z : 0 ≡ 0 - n = omega arith in
    ap₂ (λ (x y : ℕ). replicate x a ++ drop y ms) e z
drop_run (suc m) zero a ms =
    let e : 0 ≡ 0 - suc m = omega arith in
    let z : suc m ≡ suc m - 0 = omega arith in
    ap₂ (λ (x y : ℕ). replicate x a ++ drop y ms) e z
drop_run (suc m) (suc n) a ms =
    let e : n - m ≡ suc n - suc m = omega arith in
    let z : m - n ≡ suc m - suc n = omega arith in
    drop_run m n a ms ∙ ap₂ (λ (x y : ℕ). replicate x a ++ drop y ms) e z

from_at_law : (m : ℕ) (ws : List ℕ) → minutes_of (from_at m ws) ≡ drop m (minutes_of ws)
unfolding minutes_of from_at
from_at_law zero [] = refl
from_at_law (suc m) [] = refl
from_at_law m (w ∷ ws) =
    ap₂ (λ (n x : ℕ). replicate n x ++ minutes_of (from_at (m - minutes_in w) ws))
    (minutes_in_law (minutes_in w - m) (activity_in w) (omega arith)) (activity_in_law (minutes_in w - m) (activity_in w) (omega arith))
    ∙ ap (λ (l : List ℕ). replicate (minutes_in w - m) (activity_in w) ++ l) (from_at_law (m - minutes_in w) ws)
    ∙ sym (drop_run m (minutes_in w) (activity_in w) (minutes_of ws))

abbrev span_words : List ℕ → Weeks → List ℕ
span_words ws s = cut_at (week_minutes * (s.last + 1 - s.first)) (from_at (week_start s.first) ws)

span_words_law : (ws : List ℕ) (s : Weeks) → s.first ≤ s.last → minutes_of (span_words ws s) ≡ span_minutes (minutes_of ws) s
span_words_law ws s h =
    cut_at_law (week_minutes * (s.last + 1 - s.first)) (from_at (week_start s.first) ws)
    ∙ ap (prefix (week_minutes * (s.last + 1 - s.first))) (from_at_law (week_start s.first) ws) ∙ sym (span_is (minutes_of ws) s h)

-- each span is a breach by the test above, or has the reading that goes with it
readable : List ℕ → List ℕ → Bool
readable own reading = none_by own or (bytes_test (entry_bytes * length (long_rests_by own)) reading and lawful_by own reading)

each_readable : List ℕ → List Weeks → List (List ℕ) → Bool
each_readable ws [] readings = true
each_readable ws (s ∷ ss) [] = false
each_readable ws (s ∷ ss) (r ∷ rs) = leb s.first s.last and readable (span_words ws s) r and each_readable ws ss rs

abbrev span_by : List ℕ → Weeks → Bool
span_by ws s = none_by (span_words ws s)

breaks_by_law : (own reading : List ℕ) → readable own reading ≡ true → is_breach (verdict (minutes_of own)) ≡ none_by own
unfolding readable
breaks_by_law own reading t = at (none_by own) refl (or_cases _ _ t)
  where
    at : (b : Bool) → none_by own ≡ b → (none_by own ≡ true) ⊎ (bytes_test (entry_bytes * length (long_rests_by own)) reading and lawful_by own reading ≡ true)
        → is_breach (verdict (minutes_of own)) ≡ b
    at true e k = none_breaches (minutes_of own) (first_none (minutes_of own) (none_lawful_law (minutes_of own) (none_by_law own ∙ e)))
    at false e (inl k) = absurd (false≢true (sym e ∙ k))
    at false e (inr k) =
        lawful_passes (minutes_of own) (
          fields_in reading,
          lawful_fields_law (minutes_of own) (record {
            bytes = bytes_test_law (reading_size (minutes_of own)) reading (ap (λ (n : ℕ). bytes_test n reading) (size_by own) ∙ and_left _ _ k);
            keeps = lawful_by_law own reading ∙ and_right _ _ k;
          }),
        )

each_by : (ws : List ℕ) (ss : List Weeks) (rs : List (List ℕ)) → each_readable ws ss rs ≡ true → (s : Weeks) → In s ss → breaching (minutes_of ws) s ≡ span_by ws s
unfolding each_readable breaching
each_by ws [] rs t s i = absurd (Memᴰ.not-nil i)
each_by ws (x ∷ ss) [] t s i = absurd (false≢true t)
each_by ws (x ∷ ss) (r ∷ rs) t s i = at (Memᴰ.cases_cons i) (each_by ws ss rs (and_right _ _ t) s)
  where
    this : is_breach (verdict (span_minutes (minutes_of ws) x)) ≡ span_by ws x
    this =
        let u = and_left _ _ t in
        ap (λ (l : List ℕ). is_breach (verdict l)) (sym (span_words_law ws x (leb-true _ _ (and_left _ _ u)))) ∙ breaks_by_law (span_words ws x) r (and_right _ _ u)

    at : (s ≡ x) ⊎ In s ss → (In s ss → is_breach (verdict (span_minutes (minutes_of ws) s)) ≡ span_by ws s) → is_breach (verdict (span_minutes (minutes_of ws) s)) ≡ span_by ws s
    at (inl e) f = rw e this
    at (inr j) f = f j

-- what is kept where two tests agree
any_same : (f g : Weeks → Bool) (ss : List Weeks) → ((s : Weeks) → In s ss → f s ≡ g s) → any_of f ss ≡ any_of g ss
unfolding any_of
any_same f g [] e = refl
any_same f g (s ∷ ss) e = ap₂ ◌or◌ (e s (here refl)) (any_same f g ss (λ t i. e t (there i)))

keep_same : (f g : Weeks → Bool) (ss : List Weeks) → ((s : Weeks) → In s ss → f s ≡ g s) → keep f ss ≡ keep g ss
unfolding keep
keep_same f g [] e = refl
keep_same f g (s ∷ ss) e = ap₂ (λ (b : Bool) (l : List Weeks). pick b (s ∷ l) l) (e s (here refl)) (keep_same f g ss (λ t i. e t (there i)))

least_same : (f g : Weeks → Bool) (all : List Weeks) → ((s : Weeks) → In s all → f s ≡ g s) → keep (least_breach f all) all ≡ keep (least_breach g all) all
unfolding least_breach
least_same f g all e =
    keep_same (least_breach f all) (least_breach g all) all
    (λ s i. ap₂ (λ (a b : Bool). a and not b) (e s i) (any_same _ _ all (λ t j. ap (λ (b : Bool). shorter_inside s t and b) (e t j))))

abbrev spans_by : List ℕ → List Weeks
spans_by ws = keep (least_breach (span_by ws) (spans_from 0 (weeks_begun (total_by ws)))) (spans_from 0 (weeks_begun (total_by ws)))

spans_by_law : (ws : List ℕ) (rs : List (List ℕ)) → each_readable ws (spans_from 0 (weeks_begun (total_by ws))) rs ≡ true → breach_spans (minutes_of ws) ≡ spans_by ws
unfolding breach_spans
spans_by_law ws rs t =
    ap (λ (n : ℕ). keep (least_breach (breaching (minutes_of ws)) (spans_from 0 (weeks_begun n))) (spans_from 0 (weeks_begun n))) (total_by_law ws)
    ∙ least_same (breaching (minutes_of ws)) (span_by ws) (spans_from 0 (weeks_begun (total_by ws))) (each_by ws (spans_from 0 (weeks_begun (total_by ws))) rs t)

same_spans : List Weeks → List Weeks → Bool
same_spans [] [] = true
same_spans [] (y ∷ ys) = false
same_spans (x ∷ xs) [] = false
same_spans (x ∷ xs) (y ∷ ys) = eqb x.first y.first and eqb x.last y.last and same_spans xs ys

same_spans_law : (xs ys : List Weeks) → same_spans xs ys ≡ true → xs ≡ ys
unfolding same_spans
same_spans_law [] [] t = refl
same_spans_law [] (y ∷ ys) t = absurd (false≢true t)
same_spans_law (x ∷ xs) [] t = absurd (false≢true t)
same_spans_law (x ∷ xs) (y ∷ ys) t =
    let u = and_left _ _ t in
    (λ i. span (eqb-true x.first y.first (and_left _ _ u) i) (eqb-true x.last y.last (and_right _ _ u) i) ∷ same_spans_law xs ys (and_right _ _ t) i)

same_list : Answer (List Weeks) → Answer (List Weeks) → Bool
same_list (refused m) (refused n) = eqb m n
same_list (refused m) (answered ys) = false
same_list (answered xs) (refused n) = false
same_list (answered xs) (answered ys) = same_spans xs ys

same_list_law : (a b : Answer (List Weeks)) → same_list a b ≡ true → a ≡ b
unfolding same_list
same_list_law (refused m) (refused n) t = ap refused (eqb-true m n t)
same_list_law (refused m) (answered ys) t = absurd (false≢true t)
same_list_law (answered xs) (refused n) t = absurd (false≢true t)
same_list_law (answered xs) (answered ys) t = ap answered (same_spans_law xs ys t)

-- a breach at a minute, with its article
breaks_by : List ℕ → List ℕ → ℕ → ℕ → Bool
breaks_by ws reading zero n = false
breaks_by ws reading (suc m) n =
    leb (suc m) (total_by ws) and
    bytes_test (entry_bytes * length (long_rests_by (cut_at m ws))) reading and
    lawful_by (cut_at m ws) reading and
    none_by (cut_at (suc m) ws) and
    eqb (article_by (fixed_by (cut_at (suc m) ws))) n

holds : Case → Bool
holds (passes ws) = lawful_by ws (daily_by ws)
holds (breaks ws reading m n) = breaks_by ws reading m n
holds (reads ws room reading) = accepted (total_from 0 ws) and lawful_by ws (daily_by ws) and same_answer (reading_into room (length (long_rests_by ws)) (pass (daily_by ws))) reading
holds (reads_none ws shorter m n room reading) =
    accepted (total_from 0 ws) and breaks_by ws shorter m n and same_answer (reading_into room (length (long_rests_by ws)) (breach m n)) reading
holds (spanning ws readings room list) =
    accepted (total_from 0 ws) and each_readable ws (spans_from 0 (weeks_begun (total_by ws))) readings and same_list (list_into room (spans_by ws)) list
holds (together ws m broken rule place) =
    accepted (total_from 0 ws) and
    leb m (total_by ws) and
    same_numbers (places (breaches_by_word (cut_at (m - 1) ws))) [] and
    same_numbers (places (breaches_by_word (cut_at m ws))) broken and
    eqb (smallest_rule (breaches_by_word (cut_at m ws))) rule and
    eqb (first_article (breaches_by_word (cut_at m ws))) place
holds (tests ws reading n) = eqb (reading_by ws (fields_in reading)) n
holds (counts closed p start end load b) = pick b (shortened closed (daily_rest p start end load)) (not (shortened closed (daily_rest p start end load)))

-- THE LAW
module _ (ws : List ℕ) (m : ℕ) where
  lawful_there : {reading : List ℕ} → bytes_test (entry_bytes * length (long_rests_by (cut_at m ws))) reading ≡ true → lawful_by (cut_at m ws) reading ≡ true
      → LawfulReading (prefix m (minutes_of ws)) reading
  lawful_there {reading} b t = rw (← cut_at_law m ws) (record {
    bytes = bytes_test_law (reading_size (minutes_of (cut_at m ws))) reading (rw (size_by (cut_at m ws)) b);
    keeps = rw (lawful_by_law (cut_at m ws) reading) t;
  })

  none_there : none_by (cut_at m ws) ≡ true → first_lawful (prefix m (minutes_of ws)) ≡ none
  none_there t = rw (← cut_at_law m ws) (none_lawful_law _ (rw (none_by_law (cut_at m ws)) t))

  article_there : article (prefix m (minutes_of ws)) ≡ article_by (fixed_by (cut_at m ws))
  article_there = rw (← cut_at_law m ws) (article_by_law (cut_at m ws))

daily_pass : (ws : List ℕ) → lawful_by ws (daily_by ws) ≡ true → verdict (minutes_of ws) ≡ pass (all_daily (minutes_of ws))
daily_pass ws t = verdict-pass _ _ (daily_first (minutes_of ws) (rw (lawful_daily_by ws) t))

breach_there : (ws reading : List ℕ) (m n : ℕ) → breaks_by ws reading m n ≡ true → verdict (minutes_of ws) ≡ breach m n
unfolding breaks_by
breach_there ws reading zero n t = absurd (false≢true t)
breach_there ws reading (suc m) n t =
    let t1 = and_left _ _ t in
    let t2 = and_left _ _ t1 in
    let t3 = and_left _ _ t2 in
    let within = leb-true (suc m) (total_by ws) (and_left _ _ t3) in
    verdict-breach (minutes_of ws) m (
      fields_in reading,
      lawful_fields_law (prefix m (minutes_of ws)) (lawful_there ws m (and_right _ _ t3) (and_right _ _ t2)),
    ) (none_there ws (suc m) (and_right _ _ t1))
    (rw (total_by_law ws) within)
    ∙ ap (breach (suc m)) (article_there ws (suc m) ∙ eqb-true _ n (and_right _ _ t))

says : (c : Case) → holds c ≡ true → Says c
unfolding holds fixed_tested article_tested reading_test
says (passes ws) t = daily_pass ws t
says (breaks ws reading m n) t = breach_there ws reading m n t
says (reads ws room reading) t =
    let t1 = and_left _ _ t in
    let v = daily_pass ws (and_right _ _ t1) ∙ ap pass (daily_by_law ws) in
    (finding_at ws (and_left _ _ t1) v, reading_at ws room (and_left _ _ t1) v ∙ same_answer_law _ reading (and_right _ _ t))
says (reads_none ws shorter m n room reading) t =
    let t1 = and_left _ _ t in
    let v = breach_there ws shorter m n (and_right _ _ t1) in
    (finding_at ws (and_left _ _ t1) v, reading_at ws room (and_left _ _ t1) v ∙ same_answer_law _ reading (and_right _ _ t))
says (spanning ws readings room list) t =
    let t1 = and_left _ _ t in
    spans_at ws room (and_left _ _ t1) ∙ ap (list_into room) (spans_by_law ws readings (and_right _ _ t1)) ∙ same_list_law _ list (and_right _ _ t)
says (together ws m broken rule place) t =
    let t1 = and_left _ _ t in
    let t2 = and_left _ _ t1 in
    let t3 = and_left _ _ t2 in
    let t4 = and_left _ _ t3 in
    let there = tested_at ws m (and_left _ _ t4) (and_right _ _ t4) in (
      ap places (breaches_at ws (m - 1)) ∙ same_numbers_law _ [] (and_right _ _ t3),
      ap places (breaches_at ws m) ∙ same_numbers_law _ broken (and_right _ _ t2),
      ap (λ (x : Answer Breaches). and_then x (λ b. answered (smallest_rule b))) there ∙ ap answered (eqb-true _ rule (and_right _ _ t1)),
      ap (λ (x : Answer Breaches). and_then x (λ b. answered (first_article b))) there ∙ ap answered (eqb-true _ place (and_right _ _ t)),
    )
says (tests ws reading n) t = reading_by_law ws (fields_in reading) ∙ eqb-true _ n t
says (counts closed p start end load true) t = t
says (counts closed p start end load false) t = not-true (shortened closed (daily_rest p start end load)) t

all_say : (cs : List Case) → all_of holds cs ≡ true → AllSay cs
unfolding all_of
all_say [] t = tt
all_say (c ∷ cs) t = (says c (and_left _ _ t), all_say cs (and_right _ _ t))

-- ---- how the cases are written: words of n minutes, a part that is repeated, and readings
abbrev pub d : ℕ → ℕ
d n = word_of n driving

abbrev pub w : ℕ → ℕ
w n = word_of n other_work

abbrev pub a : ℕ → ℕ
a n = word_of n availability

abbrev pub r : ℕ → ℕ
r n = word_of n rest

abbrev pub times : ℕ → List ℕ → List ℕ → List ℕ
times zero part after = after
times (suc n) part after = part ++ times n part after

abbrev pub daily : ℕ → List ℕ → List ℕ
daily k after = times k (daily_kind ∷ 0 ∷ 0 ∷ 0 ∷ []) after

abbrev pub weekly_by : ℕ → ℕ → ℕ → List ℕ → List ℕ
weekly_by week low high after = weekly_kind ∷ week ∷ low ∷ high ∷ after

abbrev pub weekly : ℕ → ℕ → List ℕ → List ℕ
weekly week carrier after = weekly_by week carrier 0 after

abbrev pub rest_of : ℕ → ℕ → Span
rest_of start end = record { start = start; end = end }

-- "Starred: proved."
abbrev pub starred : List Case
starred =
    passes [] ∷
    passes (d 270 ∷ []) ∷
    breaks (d 271 ∷ []) [] 271 1 ∷
    passes (d 135 ∷ r 15 ∷ d 135 ∷ r 30 ∷ d 270 ∷ []) ∷
    breaks (d 135 ∷ r 14 ∷ d 135 ∷ r 30 ∷ d 270 ∷ []) [] 315 1 ∷
    breaks (d 135 ∷ r 30 ∷ d 135 ∷ r 15 ∷ d 1 ∷ []) [] 316 1 ∷
    breaks (d 270 ∷ a 45 ∷ d 1 ∷ []) [] 316 1 ∷
    passes (w 900 ∷ []) ∷
    breaks (w 901 ∷ []) [] 901 5 ∷
    breaks (w 900 ∷ r 539 ∷ w 1 ∷ []) [] 1440 5 ∷
    passes (w 900 ∷ r 540 ∷ w 1 ∷ []) ∷
    passes (times 3 (w 840 ∷ r 600 ∷ []) (w 1 ∷ [])) ∷
    breaks (times 4 (w 840 ∷ r 600 ∷ []) (w 1 ∷ [])) (daily 3 []) 5761 6 ∷
    passes (times 6 (w 780 ∷ r 660 ∷ []) []) ∷
    breaks (times 6 (w 780 ∷ r 660 ∷ []) (w 1 ∷ [])) (daily 5 []) 8641 6 ∷ []

-- a day of 540 minutes of driving; and one of 541
abbrev ordinary : List ℕ
ordinary = d 270 ∷ r 45 ∷ d 270 ∷ []

abbrev longer : List ℕ
longer = d 270 ∷ r 45 ∷ d 270 ∷ r 45 ∷ d 1 ∷ []

-- the other edges
abbrev pub worked : List Case
worked =
    -- rule 1: 45, 30
    passes (d 270 ∷ r 45 ∷ d 1 ∷ []) ∷
    breaks (d 270 ∷ r 44 ∷ d 1 ∷ []) [] 315 1 ∷
    breaks (d 135 ∷ r 15 ∷ d 135 ∷ r 29 ∷ d 1 ∷ []) [] 315 1 ∷
    -- a rest before any driving is no first part, nor is one after work and availability alone
    breaks (r 15 ∷ d 270 ∷ r 30 ∷ d 1 ∷ []) [] 316 1 ∷
    breaks (r 30 ∷ d 270 ∷ r 30 ∷ d 1 ∷ []) [] 331 1 ∷
    breaks (r 44 ∷ d 270 ∷ r 44 ∷ d 1 ∷ []) [] 359 1 ∷
    breaks (w 60 ∷ a 60 ∷ r 15 ∷ d 270 ∷ r 30 ∷ d 1 ∷ []) [] 436 1 ∷
    -- one after a minute of driving is
    passes (r 15 ∷ d 1 ∷ r 15 ∷ d 269 ∷ r 30 ∷ d 1 ∷ []) ∷
    breaks (r 15 ∷ d 1 ∷ r 14 ∷ d 269 ∷ r 30 ∷ d 1 ∷ []) [] 330 1 ∷
    -- the same after the sum is cleared, by 45 or by a second part
    breaks (d 1 ∷ r 45 ∷ w 60 ∷ r 15 ∷ d 270 ∷ r 30 ∷ d 1 ∷ []) [] 422 1 ∷
    breaks (d 1 ∷ r 15 ∷ d 1 ∷ r 30 ∷ a 60 ∷ r 15 ∷ d 270 ∷ r 30 ∷ d 1 ∷ []) [] 423 1 ∷
    passes (d 1 ∷ r 45 ∷ d 1 ∷ r 15 ∷ d 269 ∷ r 30 ∷ d 1 ∷ []) ∷
    -- a first part does not live on after that
    breaks (d 1 ∷ r 15 ∷ d 1 ∷ r 45 ∷ d 270 ∷ r 30 ∷ d 1 ∷ []) [] 363 1 ∷
    breaks (d 1 ∷ r 15 ∷ d 1 ∷ r 30 ∷ d 270 ∷ r 30 ∷ d 1 ∷ []) [] 348 1 ∷
    -- and a reading's test goes by it
    tests (r 15 ∷ d 270 ∷ r 30 ∷ d 1 ∷ r 540 ∷ w 1 ∷ []) (daily 1 []) 1 ∷
    tests (d 1 ∷ r 15 ∷ d 269 ∷ r 30 ∷ d 1 ∷ r 540 ∷ w 1 ∷ []) (daily 1 []) 0 ∷
    -- rule 2: 600, 540, two days
    passes (d 270 ∷ r 45 ∷ d 270 ∷ r 45 ∷ d 60 ∷ []) ∷
    breaks (d 270 ∷ r 45 ∷ d 270 ∷ r 45 ∷ d 61 ∷ []) [] 691 2 ∷
    passes (times 2 (longer ++ r 660 ∷ []) (ordinary ++ w 1 ∷ [])) ∷
    breaks (times 2 (longer ++ r 660 ∷ []) longer) (daily 2 []) 3213 2 ∷
    -- rule 3: 3,360
    passes (times 3 (ordinary ++ r 540 ∷ []) (times 3 (ordinary ++ r 660 ∷ []) (d 120 ∷ []))) ∷
    breaks (times 3 (ordinary ++ r 540 ∷ []) (times 3 (ordinary ++ r 660 ∷ []) (d 121 ∷ []))) (daily 6 []) 7231 3 ∷
    -- rule 4: 5,400
    breaks (times 3 (ordinary ++ r 540 ∷ []) (times 2 (ordinary ++ r 660 ∷ []) (ordinary ++ r 3630 ∷ times 3 (ordinary ++ r 540 ∷ []) longer)))
    (daily 5 (weekly 0 0 (daily 3 []))) 14086 4 ∷
    -- rule 6: 1,440, and a week's end
    tests (w 60 ∷ r 1440 ∷ w 1 ∷ []) (weekly 0 0 []) 0 ∷
    tests (w 60 ∷ r 1439 ∷ w 1 ∷ []) (weekly 0 0 []) 6 ∷
    tests (r 10081 ∷ w 1 ∷ []) (weekly 1 0 []) 0 ∷
    tests (r 10080 ∷ w 1 ∷ []) (weekly 1 0 []) 6 ∷
    -- rule 7: 540 and 1,440, net of a reduction of 1,260
    tests (w 60 ∷ r 1440 ∷ w 60 ∷ r 1800 ∷ w 1 ∷ []) (weekly 0 2 (daily 1 [])) 0 ∷
    tests (w 60 ∷ r 1440 ∷ w 60 ∷ r 1799 ∷ w 1 ∷ []) (weekly 0 2 (daily 1 [])) 7 ∷
    tests (w 60 ∷ r 1440 ∷ w 60 ∷ r 2700 ∷ w 1 ∷ []) (weekly 0 2 (weekly 0 0 [])) 0 ∷
    tests (w 60 ∷ r 1440 ∷ w 60 ∷ r 2699 ∷ w 1 ∷ []) (weekly 0 2 (weekly 0 0 [])) 7 ∷
    -- rule 8: 2,700, and four weeks to the minute
    tests (w 60 ∷ r 2699 ∷ w 60 ∷ r 541 ∷ w 1 ∷ []) (weekly 0 2 (daily 1 [])) 0 ∷
    tests (w 60 ∷ r 2700 ∷ w 60 ∷ r 541 ∷ w 1 ∷ []) (weekly 0 2 (daily 1 [])) 8 ∷
    tests (w 60 ∷ r 1440 ∷ w 60 ∷ r 38758 ∷ w 1 ∷ []) (weekly 0 0 (weekly 0 0 [])) 0 ∷
    tests (w 60 ∷ r 1440 ∷ w 60 ∷ r 38759 ∷ w 1 ∷ []) (weekly 0 0 (weekly 0 0 [])) 8 ∷
    tests (w 60 ∷ r 1440 ∷ w 60 ∷ r 38760 ∷ w 1 ∷ []) (weekly 0 2 (weekly 0 0 [])) 0 ∷
    tests (w 60 ∷ r 1440 ∷ w 60 ∷ r 38761 ∷ w 1 ∷ []) (weekly 0 2 (weekly 0 0 [])) 8 ∷
    -- rule 9: 660, and the 1,440 after P
    passes (times 4 (w 780 ∷ r 660 ∷ []) (w 1 ∷ [])) ∷
    breaks (times 4 (w 780 ∷ r 659 ∷ []) (w 1 ∷ [])) (daily 3 []) 5757 6 ∷
    breaks (times 4 (w 781 ∷ r 660 ∷ []) (w 1 ∷ [])) (daily 3 []) 5765 6 ∷
    -- a day with an earlier rest of 180 to 539; one of 540 is a long rest and ends the day
    passes (times 4 (w 300 ∷ r 180 ∷ w 360 ∷ r 600 ∷ []) (w 1 ∷ [])) ∷
    breaks (times 4 (w 300 ∷ r 179 ∷ w 361 ∷ r 600 ∷ []) (w 1 ∷ [])) (daily 3 []) 5761 6 ∷
    passes (times 4 (w 100 ∷ r 539 ∷ w 101 ∷ r 600 ∷ []) (w 1 ∷ [])) ∷
    breaks (times 4 (w 100 ∷ r 540 ∷ w 101 ∷ r 600 ∷ []) (w 1 ∷ [])) (daily 3 []) 2683 6 ∷
    passes (times 4 (w 100 ∷ r 180 ∷ w 100 ∷ r 200 ∷ w 260 ∷ r 600 ∷ []) (w 1 ∷ [])) ∷
    -- one that begins at minute 0
    passes (r 180 ∷ w 660 ∷ r 600 ∷ times 3 (w 840 ∷ r 600 ∷ []) (w 1 ∷ [])) ∷
    breaks (r 179 ∷ w 661 ∷ r 600 ∷ times 3 (w 840 ∷ r 600 ∷ []) (w 1 ∷ [])) (daily 3 []) 5761 6 ∷
    -- one in the last of four short days, in the day before it and in the day after it
    passes (times 3 (w 840 ∷ r 600 ∷ []) (w 300 ∷ r 180 ∷ w 360 ∷ r 600 ∷ w 1 ∷ [])) ∷
    breaks (times 3 (w 840 ∷ r 600 ∷ []) (w 300 ∷ r 180 ∷ w 300 ∷ r 660 ∷ w 840 ∷ r 600 ∷ w 1 ∷ [])) (daily 4 []) 7201 6 ∷
    breaks (times 4 (w 840 ∷ r 600 ∷ []) (w 300 ∷ r 180 ∷ w 1 ∷ [])) (daily 3 []) 5761 6 ∷
    -- portion 540 by the window and by a load; with a minute less rule 5 or rule 7 is broken first
    passes (times 4 (w 300 ∷ r 180 ∷ w 420 ∷ r 600 ∷ []) (w 1 ∷ [])) ∷
    breaks (times 4 (w 300 ∷ r 180 ∷ w 421 ∷ r 600 ∷ []) (w 1 ∷ [])) [] 901 5 ∷
    tests (w 60 ∷ r 2699 ∷ times 3 (w 840 ∷ r 600 ∷ []) (w 300 ∷ r 180 ∷ w 360 ∷ r 541 ∷ w 1 ∷ [])) (weekly 0 5 (daily 4 [])) 0 ∷
    tests (w 60 ∷ r 2699 ∷ times 3 (w 840 ∷ r 600 ∷ []) (w 300 ∷ r 179 ∷ w 361 ∷ r 541 ∷ w 1 ∷ [])) (weekly 0 5 (daily 4 [])) 9 ∷
    tests (w 60 ∷ r 2699 ∷ times 3 (w 840 ∷ r 600 ∷ []) (w 300 ∷ r 180 ∷ w 360 ∷ r 540 ∷ w 1 ∷ [])) (weekly 0 5 (daily 4 [])) 7 ∷
    -- rule 9 by itself: portion 540 and 539, by the window and by a load
    counts (rest_of 300 480 ∷ []) 0 900 1500 0 false ∷
    counts (rest_of 300 480 ∷ []) 0 901 1501 0 true ∷
    counts (rest_of 300 480 ∷ []) 0 840 1440 60 false ∷
    counts (rest_of 300 480 ∷ []) 0 840 1440 61 true ∷
    -- the earlier rest has 179, 180, 539 and 540 minutes
    counts (rest_of 300 479 ∷ []) 0 840 1440 0 true ∷
    counts (rest_of 300 480 ∷ []) 0 840 1440 0 false ∷
    counts (rest_of 300 839 ∷ []) 0 840 1440 0 false ∷
    counts (rest_of 300 840 ∷ []) 0 840 1440 0 true ∷
    -- it lies in the day from P to the start, or a minute of it does not
    counts (rest_of 300 480 ∷ []) 300 480 1139 0 false ∷
    counts (rest_of 300 480 ∷ []) 301 480 1139 0 true ∷
    counts (rest_of 300 480 ∷ []) 0 479 1138 0 true ∷
    -- rule 11: two weekly rests, one of them regular, in the weeks that end by S
    tests (w 60 ∷ r 11460 ∷ times 5 (w 780 ∷ r 660 ∷ []) (w 780 ∷ r 540 ∷ w 119 ∷ [])) (weekly 0 0 (daily 6 [])) 0 ∷
    tests (w 60 ∷ r 11460 ∷ times 5 (w 780 ∷ r 660 ∷ []) (w 780 ∷ r 540 ∷ w 120 ∷ [])) (weekly 0 0 (daily 6 [])) 11 ∷
    tests (times 5 (w 780 ∷ r 660 ∷ []) (w 780 ∷ r 2700 ∷ times 5 (w 780 ∷ r 660 ∷ []) (w 780 ∷ r 1440 ∷ w 60 ∷ [])))
    (daily 5 (weekly 0 0 (daily 5 (weekly 1 0 [])))) 0 ∷
    tests (times 5 (w 780 ∷ r 660 ∷ []) (w 780 ∷ r 1440 ∷ times 5 (w 780 ∷ r 660 ∷ []) (w 780 ∷ r 1440 ∷ w 780 ∷ r 540 ∷ w 1 ∷ [])))
    (daily 5 (weekly 0 0 (daily 5 (weekly 1 0 (daily 1 []))))) 11 ∷
    -- a week of rest minutes only holds one, whether or not one is counted in it
    tests (r 11520 ∷ times 5 (w 780 ∷ r 660 ∷ []) (w 780 ∷ r 540 ∷ w 120 ∷ [])) (weekly 1 0 (daily 6 [])) 0 ∷
    tests (r 11520 ∷ times 5 (w 780 ∷ r 660 ∷ []) (w 780 ∷ r 540 ∷ w 120 ∷ [])) (weekly 0 0 (daily 6 [])) 11 ∷
    []

-- an ordinary day with the rest after it, and a day of 600 minutes of driving with its own
abbrev shift : List ℕ
shift = ordinary ++ r 660 ∷ []

abbrev long_shift : List ℕ
long_shift = d 270 ∷ r 45 ∷ d 270 ∷ r 45 ∷ d 60 ∷ r 660 ∷ []

-- a first week with 2,040 minutes of driving, and one with 2,700, then these words
abbrev week2040 : List ℕ → List ℕ
week2040 after = times 3 (d 255 ∷ r 45 ∷ d 255 ∷ r 660 ∷ []) (d 255 ∷ r 45 ∷ d 255 ∷ r 5880 ∷ after)

abbrev week2700 : List ℕ → List ℕ
week2700 after = times 4 shift (ordinary ++ r 4515 ∷ after)

-- Request 4: two, three and more of the fixed rules break at one minute
abbrev pub ordered : List Case
ordered =
    -- 7 with 6(1), 6(2), 6(3) and 8(2)
    together (d 270 ∷ r 45 ∷ d 60 ∷ r 45 ∷ d 271 ∷ []) 691 (1 ∷ 4 ∷ []) 1 1 ∷
    together (times 2 (longer ++ r 600 ∷ []) (d 270 ∷ r 45 ∷ d 271 ∷ [])) 3048 (1 ∷ 4 ∷ []) 1 1 ∷
    together (times 5 shift (d 270 ∷ r 45 ∷ d 120 ∷ r 660 ∷ d 271 ∷ [])) 7591 (2 ∷ 4 ∷ []) 1 2 ∷
    together (week2700 (times 4 shift (d 270 ∷ r 660 ∷ d 271 ∷ []))) 16261 (3 ∷ 4 ∷ []) 1 3 ∷
    together (w 630 ∷ d 271 ∷ []) 901 (4 ∷ 5 ∷ []) 1 4 ∷
    -- 6(1) with 8(2), 6(2) with 6(3)
    together (d 270 ∷ r 45 ∷ d 270 ∷ r 255 ∷ d 61 ∷ []) 901 (1 ∷ 5 ∷ []) 2 1 ∷
    together (week2040 (times 2 long_shift (times 4 shift (d 1 ∷ [])))) 17761 (2 ∷ 3 ∷ []) 3 2 ∷
    -- three, and all five
    together (d 270 ∷ r 45 ∷ d 60 ∷ r 255 ∷ d 271 ∷ []) 901 (1 ∷ 4 ∷ 5 ∷ []) 1 1 ∷
    together (week2040 (times 5 shift (d 270 ∷ r 45 ∷ d 120 ∷ r 660 ∷ d 271 ∷ []))) 17671 (2 ∷ 3 ∷ 4 ∷ []) 1 2 ∷
    together (week2040 (long_shift ++ times 4 shift (d 270 ∷ r 45 ∷ d 60 ∷ r 255 ∷ d 271 ∷ []))) 17311 (1 ∷ 2 ∷ 3 ∷ 4 ∷ 5 ∷ []) 1 1 ∷
    -- one alone
    together (d 270 ∷ r 45 ∷ d 270 ∷ r 45 ∷ d 61 ∷ []) 691 (1 ∷ []) 2 1 ∷
    together (times 2 long_shift (times 4 shift (d 1 ∷ []))) 7681 (2 ∷ []) 3 2 ∷
    together (week2700 (times 5 shift (d 1 ∷ []))) 16306 (3 ∷ []) 4 3 ∷
    together (d 271 ∷ []) 271 (4 ∷ []) 1 4 ∷
    together (w 901 ∷ []) 901 (5 ∷ []) 5 5 ∷
    -- the article of the verdict goes by the rules' numbers
    breaks (d 270 ∷ r 45 ∷ d 60 ∷ r 45 ∷ d 271 ∷ []) [] 691 1 ∷
    breaks (w 630 ∷ d 271 ∷ []) [] 901 1 ∷
    breaks (week2040 (times 2 long_shift (times 4 shift (d 1 ∷ [])))) (daily 3 (weekly 0 0 (daily 5 []))) 17761 3 ∷
    breaks (week2040 (times 5 shift (d 270 ∷ r 45 ∷ d 120 ∷ r 660 ∷ d 271 ∷ []))) (daily 3 (weekly 0 0 (daily 6 []))) 17671 1 ∷
    []

-- Request 5: the verdict, and the first reading in a buffer that is short, just enough or longer
abbrev pub asked : List Case
asked =
    reads [] 0 (answered []) ∷
    reads (w 900 ∷ []) 0 (answered []) ∷
    reads (w 900 ∷ r 540 ∷ w 1 ∷ []) 3 (refused 4) ∷
    reads (w 900 ∷ r 540 ∷ w 1 ∷ []) 4 (answered (daily 1 [])) ∷
    reads (w 900 ∷ r 540 ∷ w 1 ∷ []) 5 (answered (daily 1 [])) ∷
    reads (times 3 (w 840 ∷ r 600 ∷ []) (w 1 ∷ [])) 11 (refused 4) ∷
    reads (times 3 (w 840 ∷ r 600 ∷ []) (w 1 ∷ [])) 12 (answered (daily 3 [])) ∷
    reads_none (r 15 ∷ d 270 ∷ r 30 ∷ d 1 ∷ []) [] 316 1 0 (refused 13) ∷
    reads_none (w 901 ∷ []) [] 901 5 0 (refused 13) ∷
    reads_none (times 4 (w 840 ∷ r 600 ∷ []) (w 1 ∷ [])) (daily 3 []) 5761 6 15 (refused 4) ∷
    reads_none (times 4 (w 840 ∷ r 600 ∷ []) (w 1 ∷ [])) (daily 3 []) 5761 6 16 (refused 13) ∷
    []

-- Request 6: the spans of weeks that are a breach alone, in a list that is short, just enough or longer
abbrev pub alone : List Case
alone =
    -- no week; one, lawful to its last minute; a part of one, and of a second after a lawful first
    spanning [] [] 0 (answered []) ∷
    spanning (r 10079 ∷ w 1 ∷ []) (weekly 0 0 [] ∷ []) 0 (answered []) ∷
    spanning (w 901 ∷ []) ([] ∷ []) 0 (refused 14) ∷
    spanning (w 901 ∷ []) ([] ∷ []) 1 (answered (span 0 0 ∷ [])) ∷
    spanning (w 901 ∷ []) ([] ∷ []) 2 (answered (span 0 0 ∷ [])) ∷
    spanning (w 900 ∷ r 9180 ∷ w 901 ∷ []) ([] ∷ [] ∷ [] ∷ []) 1 (answered (span 1 1 ∷ [])) ∷
    -- a breach in each of two weeks, each by itself: the whole is one too, and holds them
    spanning (d 271 ∷ r 9809 ∷ d 271 ∷ []) ([] ∷ [] ∷ [] ∷ []) 1 (refused 14) ∷
    spanning (d 271 ∷ r 9809 ∷ d 271 ∷ []) ([] ∷ [] ∷ [] ∷ []) 2 (answered (span 0 0 ∷ span 1 1 ∷ [])) ∷
    -- two good halves and a bad whole: 5,401 minutes of driving in two weeks
    spanning (week2700 (times 5 shift (d 1 ∷ []))) (daily 4 [] ∷ [] ∷ daily 5 [] ∷ []) 1 (answered (span 0 1 ∷ [])) ∷
    spanning (week2700 (times 5 shift [])) (daily 4 [] ∷ daily 4 (weekly 0 0 (daily 4 [])) ∷ daily 4 [] ∷ []) 0 (answered []) ∷
    -- a lawful whole whose second week is a breach: of the rest over its Monday 120 minutes are left
    spanning (w 900 ∷ r 9300 ∷ w 900 ∷ []) ([] ∷ weekly 0 0 [] ∷ [] ∷ []) 1 (answered (span 1 1 ∷ [])) ∷
    spanning (w 900 ∷ r 9300 ∷ w 780 ∷ []) ([] ∷ weekly 0 0 [] ∷ [] ∷ []) 0 (answered []) ∷
    []

-- Request 7: as many minutes as a year has, and a carrier by its two bytes
abbrev pub year : List Case
year =
    passes (r 534240 ∷ []) ∷
    reads (r 534240 ∷ []) 0 (answered []) ∷
    breaks (w 900 ∷ r 532439 ∷ w 901 ∷ []) (weekly 0 0 []) 534240 5 ∷
    -- the second of two rests pays back; 258 and 512 are no rests, and a daily rest has no carrier
    tests (w 60 ∷ r 1440 ∷ w 60 ∷ r 1800 ∷ w 1 ∷ []) (weekly_by 0 2 0 (daily 1 [])) 0 ∷
    tests (w 60 ∷ r 1440 ∷ w 60 ∷ r 1800 ∷ w 1 ∷ []) (weekly_by 0 2 1 (daily 1 [])) 6 ∷
    tests (w 60 ∷ r 1440 ∷ w 60 ∷ r 1800 ∷ w 1 ∷ []) (weekly_by 0 0 2 (daily 1 [])) 6 ∷
    tests (w 900 ∷ r 540 ∷ w 1 ∷ []) (daily_kind ∷ 0 ∷ 0 ∷ 1 ∷ []) 6 ∷
    []

-- THE JOINT THEOREM
pub on_the_edge : AllSay (starred ++ worked ++ ordered ++ asked ++ alone ++ year)
unfolding opened end_by closed_by total_by driving_up_to cut_at keeps_accumulated_by breaks_by holds bytes_test same_numbers same_answer from_at readable each_readable spans_beginning spans_from
    shorter_inside least_breach same_spans same_list
on_the_edge = all_say (starred ++ worked ++ ordered ++ asked ++ alone ++ year) refl
