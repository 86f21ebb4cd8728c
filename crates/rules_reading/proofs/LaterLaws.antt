-- What the reading test answers at each return. Assumes nothing.
use mathlib.Core.Path.{◌≡◌, refl, sym, ap, ap₂, subst, ◌∙◌}
use mathlib.Core.Bool.{Bool, true, false, false≢true}
use Rattle.std.specs.Prelude.{Option, None, Some}
use Rattle.std.specs.Option.{is_some}
use mathlib.Core.List.{List, ◌∷◌, map}
use Prim.Native.Nat.{ℕ, zero, suc, ◌+◌, ◌*◌, ◌≤◌, ◌<◌}
use native.Mathlib.Omega.{arith}
use lib.Dec.{eqb}
use lib.ListN.{length, get_or, take, drop, replicate, length-replicate, length-map}
use lib.Seq.{sets, sets-eq, take-append_seam}
use borrow.Author.Tests.{eqb-true, eq-eqb, ne_eqb}
use Rattle.recording.specs.Tests.{pick, all_of}
use Rattle.recording.specs.Answers.{refused, answered}
use Rattle.recording.specs.Words.{minutes_of}
use Rattle.recording.specs.Rests.{judged_end, long_rests, long_rests_at_most}
use Rattle.recording.specs.Operations.{total_at_most, measure_of, measured}
use Rattle.recording.specs.Scan.{short_total, short_rests, place_of, written_from, after_run, ends_rest}
use Rattle.recording.specs.declared.Measure.{Measure}
use Rattle.recording.specs.declared.Span.{Span}
use Rattle.recording.proofs.Walks.{judged_within}
use Rattle.recording.proofs.LongRests.{Ordered, none, next, rests_ordered, few_rests, few_short}
use Rattle.recording.proofs.Scanning.{scan_written}
use Rattle.recording.proofs.Listing.{measured_is}
use Rattle.rules.specs.Broken.{unless, if_none}
use Rattle.rules.specs.Numbers.{number_of_rule, rule_or_none}
use Rattle.rules.specs.declared.Rule.{Rule}
use Rattle.rules.specs.declared.Rule.TheVariants as rule
use Rattle.rules.specs.Fixed.{smallest_rule, fixed_test}
use Rattle.rules.specs.Reading.{Entry, entry_bytes, fields_in, entries}
use Rattle.rules.specs.ReadingRules.{rule6, rule7, rule8, rule9_from, rule9, in_gap, rule10_from, rule10, rule11, later_test, fields_test, reading_test}
use Rattle.rules.specs.Operations.{reading_tested}
use Rattle.rules.specs.Verdict.{lawful}
use Rattle.rules_nets.specs.Nets.{nets_of, counts_by, net_at_most}
use Rattle.rules_fixed.specs.Walk.{Surveyed}
use Rattle.rules_fixed.specs.declared.Survey.{Survey}
use Rattle.rules_limits.proofs.AccountRight.{rule_right}
use Rattle.rules_fixed.proofs.NetLaws.{all_numbered, nets_most, reading_by_numbers}
use Rattle.rules_items.specs.declared.WeekCounts.{WeekCounts}
use Rattle.rules_items.specs.Items.{smaller, spans_from, spans_in, Tallied, test_from, Through, rule11_with, rest_weeks, later_by}
use Rattle.rules_items.proofs.PairLaws.{rule11_with_law}
pub use Rattle.rules_items.proofs.SpanLaws.{spans_length, zeros_at, nowhere, map_at, spans_are, if_zero}

-- ---- rules 8 to 10, then 11
joined : (r8 r9 r10 : Bool) (x : ℕ) → unless r8 8 (unless r9 9 (unless r10 10 x)) ≡ pick (eqb (unless r8 8 (unless r9 9 (unless r10 10 0))) 0) x (unless r8 8 (unless r9 9 (unless r10 10 0)))
joined true true true x = refl
joined true true false x = refl
joined true false r10 x = refl
joined false r9 r10 x = refl

module _ (starts ends nets reading : List ℕ) (k s : ℕ) where
  abbrev rests : List Span
  rests = spans_in starts ends k

  abbrev es : List Entry
  es = entries (spans_in starts ends k) (fields_in reading)

  six_is : rule6 (length (spans_in starts ends k)) (entries (spans_in starts ends k) (fields_in reading)) ≡ rule6 k (entries (spans_in starts ends k) (fields_in reading))
  six_is = ap (λ (n : ℕ). rule6 n (entries (spans_in starts ends k) (fields_in reading))) (spans_length starts ends 0 k)

  pub later_six : false ≡ rule6 k (entries (spans_in starts ends k) (fields_in reading)) → 6 ≡ later_by starts ends nets reading k s
  unfolding later_test
  later_six t = rw (six_is ∙ sym t) refl

  module _ (six : true ≡ rule6 k (entries (spans_in starts ends k) (fields_in reading))) where
    pub later_seven : rule7 (entries (spans_in starts ends k) (fields_in reading)) ≡ false → 7 ≡ later_by starts ends nets reading k s
    unfolding later_test
    later_seven t = rw (six_is ∙ sym six, t) refl

    module _ {t : Tallied} {counts : WeekCounts} (h : Through (counts_by nets) s (spans_in starts ends k) (entries (spans_in starts ends k) (fields_in reading)) t counts)
        {g b : ℕ} (qg : g ≡ unless (in_gap t.last s) 10 0) (qb : b ≡ smaller t.rule g) where
      -- what the tally comes to is what rules 8 to 10 say
      eight_to_ten : b ≡ unless (rule8 s (spans_in starts ends k) (entries (spans_in starts ends k) (fields_in reading))) 8
          (unless (rule9 (counts_by nets) (entries (spans_in starts ends k) (fields_in reading))) 9 (unless (rule10 s (entries (spans_in starts ends k) (fields_in reading))) 10 0))
      unfolding test_from all_of rule9_from rule10_from rule8 rule9 rule10
      eight_to_ten = qb ∙ ap (smaller t.rule) qg ∙ sym h.tally

      later_is : later_by starts ends nets reading k s ≡ pick (eqb b 0) (unless (rule11 (rest_weeks (spans_in starts ends k)) s (entries (spans_in starts ends k) (fields_in reading))) 11 0) b
      unfolding later_test
      later_is =
          rw (six_is ∙ sym six, h.seven)
          (joined (rule8 s (spans_in starts ends k) (entries (spans_in starts ends k) (fields_in reading)))
          (rule9 (counts_by nets) (entries (spans_in starts ends k) (fields_in reading))) (rule10 s (entries (spans_in starts ends k) (fields_in reading))) _
          ∙ ap (λ (x : ℕ). pick (eqb x 0) (unless (rule11 (rest_weeks (spans_in starts ends k)) s (entries (spans_in starts ends k) (fields_in reading))) 11 0) x) (sym eight_to_ten))

      pub later_broken : (b ≡ 0 → ⊥) → b ≡ later_by starts ends nets reading k s
      later_broken z = sym (later_is ∙ rw (ne_eqb b 0 z) refl)

      pub later_last : {r : Bool} → b ≡ 0 → s ≤ total_at_most → r ≡ rule11_with (rest_weeks (spans_in starts ends k)) s counts.weekly counts.regular
          → unless r 11 0 ≡ later_by starts ends nets reading k s
      later_last {r} z l q =
          sym (later_is ∙ rw (eq-eqb b 0 z)
          (ap (λ (x : Bool). unless x 11 0)
          (sym (q ∙ rule11_with_law (rest_weeks (spans_in starts ends k)) s (entries (spans_in starts ends k) (fields_in reading)) counts.weekly counts.regular l h.weeklies h.regulars))))

-- ---- the rests that one walk writes into slices with room for them, and the slices' front
first_words : (xs vs : List ℕ) (k : ℕ) → k ≡ length vs → length vs ≤ length xs → take k (sets xs 0 vs) ≡ vs
first_words xs vs k e h =
    let l : 0 + length vs ≤ length xs = omega arith in
    ap₂ (λ (n : ℕ) (x : List ℕ). take n x) e (sets-eq vs xs 0 l) ∙ take-append_seam vs (drop (0 + length vs) xs)

-- a recording of words alone
pub surveyed_alone : (ws : List ℕ) {head : ℕ} {words : List ℕ} {r : Survey} {starts₀ ends₀ nets₀ starts ends nets : List ℕ} → (head ≡ 0) × (words ≡ ws)
    → Surveyed (head ∷ words) starts₀ ends₀ nets₀ r starts ends nets → Surveyed ws starts₀ ends₀ nets₀ r starts ends nets
unfolding minutes_of place_of written_from after_run ends_rest
surveyed_alone ws {head} {words} {r} {starts₀} {ends₀} {nets₀} {starts} {ends} {nets} (z, q) v =
    alone ws starts₀ ends₀ nets₀ r starts ends nets (subst (λ (l : List ℕ). Surveyed (0 ∷ l) starts₀ ends₀ nets₀ r starts ends nets) q (rw z at v))
  where
    alone : (ws starts₀ ends₀ nets₀ : List ℕ) (r : Survey) (starts ends nets : List ℕ) → Surveyed (0 ∷ ws) starts₀ ends₀ nets₀ r starts ends nets
        → Surveyed ws starts₀ ends₀ nets₀ r starts ends nets
    alone ws starts₀ ends₀ nets₀ r starts ends nets v = record { place = v.place; begun = v.begun; ended = v.ended; numbered = v.numbered; account = v.account }

pub in_order : {to from : ℕ} {rs : List Span} → Ordered to from rs → (i : ℕ) → i < length rs → ((get_or rs i nowhere).start ≤ (get_or rs i nowhere).end) × ((get_or rs i nowhere).end ≤ to)
in_order none i h = absurd (omega arith)
in_order (next l n e o) zero h = (omega arith, omega arith)
in_order (next l n e o) (suc i) h = in_order o i (omega arith)

if_some : (n x : ℕ) → (n ≡ 0 → ⊥) → if_none n x ≡ n
if_some zero x z = absurd (z refl)
if_some (suc n) x z = refl

module _ (ws reading : List ℕ) {m : Measure} (q : measured ws ≡ answered m) {r : Survey} {n : ℕ} {starts ends nets : List ℕ} (room : m.count ≤ n)
    (v : Surveyed ws (replicate n 0) (replicate n 0) (replicate n 0) r starts ends nets) where
  abbrev ms : List ℕ
  ms = minutes_of ws

  is : m ≡ measure_of (minutes_of ws)
  is = (measured_is ws q).is

  pub within : length (minutes_of ws) ≤ total_at_most
  within = (measured_is ws q).within

  few : length (long_rests (minutes_of ws)) ≤ long_rests_at_most
  few = few_rests (minutes_of ws) within

  count_is : m.count ≡ length (long_rests (minutes_of ws))
  count_is = ap (λ (x : Measure). x.count) is

  pub judged_is : m.judged ≡ judged_end (minutes_of ws)
  judged_is = ap (λ (x : Measure). x.judged) is

  pub judged_most : m.judged ≤ total_at_most
  judged_most = omega (arith, judged_is, judged_within (minutes_of ws), within)

  fits : length (long_rests (minutes_of ws)) ≤ length (replicate {A = ℕ} n 0)
  fits = rw length-replicate (omega (arith, count_is))

  starts_are : take m.count starts ≡ map (λ (x : Span). x.start) (long_rests (minutes_of ws))
  starts_are = ap (take m.count) (v.begun ∙ scan_written (λ x. x.start) ws (replicate n 0)) ∙ first_words (replicate n 0) _ m.count (rw length-map count_is) (rw length-map fits)

  ends_are : take m.count ends ≡ map (λ (x : Span). x.end) (long_rests (minutes_of ws))
  ends_are = ap (take m.count) (v.ended ∙ scan_written (λ x. x.end) ws (replicate n 0)) ∙ first_words (replicate n 0) _ m.count (rw length-map count_is) (rw length-map fits)

  nets_are : take m.count nets ≡ nets_of (minutes_of ws)
  nets_are = ap (take m.count) v.numbered ∙ first_words (replicate n 0) _ m.count (rw (all_numbered (minutes_of ws)) count_is) (rw (all_numbered (minutes_of ws)) fits)

  -- how many there are
  pub starts_count : length (take m.count starts) ≡ m.count
  starts_count = ap length starts_are ∙ rw length-map (sym count_is)

  pub ends_count : length (take m.count ends) ≡ m.count
  ends_count = ap length ends_are ∙ rw length-map (sym count_is)

  pub nets_count : length (take m.count nets) ≡ m.count
  nets_count = ap length nets_are ∙ all_numbered (minutes_of ws) ∙ sym count_is

  pub count_few : m.count ≤ long_rests_at_most
  count_few = omega (arith, few, count_is)

  start_at : (i : ℕ) → i < length (long_rests (minutes_of ws)) → get_or (take m.count starts) i 0 ≡ (get_or (long_rests (minutes_of ws)) i nowhere).start
  start_at i h = ap (λ (x : List ℕ). get_or x i 0) starts_are ∙ map_at (λ x. x.start) (long_rests (minutes_of ws)) i nowhere h

  end_at : (i : ℕ) → i < length (long_rests (minutes_of ws)) → get_or (take m.count ends) i 0 ≡ (get_or (long_rests (minutes_of ws)) i nowhere).end
  end_at i h = ap (λ (x : List ℕ). get_or x i 0) ends_are ∙ map_at (λ x. x.end) (long_rests (minutes_of ws)) i nowhere h

  pub rest_ordered : (i : ℕ) → i < length (take m.count starts) → get_or (take m.count starts) i 0 ≤ get_or (take m.count ends) i 0
  rest_ordered i h =
      let l : i < length (long_rests (minutes_of ws)) = omega (arith, count_is, starts_count) in
      omega (arith, start_at i l, end_at i l, (in_order (rests_ordered (minutes_of ws)) i l).0)

  pub rest_limited : (i : ℕ) → i < length (take m.count starts) → get_or (take m.count ends) i 0 ≤ total_at_most
  rest_limited i h =
      let l : i < length (long_rests (minutes_of ws)) = omega (arith, count_is, starts_count) in
      omega (arith, end_at i l, (in_order (rests_ordered (minutes_of ws)) i l).1, judged_within (minutes_of ws), within)

  pub rest_numbered : (i : ℕ) → i < length (take m.count starts) → get_or (take m.count nets) i 0 ≤ net_at_most
  rest_numbered i h =
      let l : i < length (long_rests (minutes_of ws)) = omega (arith, count_is, starts_count) in
      omega (arith, ap (λ (x : List ℕ). get_or x i 0) nets_are, nets_most (minutes_of ws) within i l)

  pub spans_rests : spans_in (take m.count starts) (take m.count ends) (length (take m.count starts)) ≡ long_rests (minutes_of ws)
  spans_rests =
      ap (spans_from (take m.count starts) (take m.count ends) 0) (starts_count ∙ count_is)
      ∙ spans_are (take m.count starts) (take m.count ends) (long_rests (minutes_of ws)) 0
      (λ j h. let e : 0 + j ≡ j = omega arith in ap (λ (n : ℕ). get_or (take m.count starts) n 0) e ∙ start_at j h)
      (λ j h. let e : 0 + j ≡ j = omega arith in ap (λ (n : ℕ). get_or (take m.count ends) n 0) e ∙ end_at j h)

  pub test_fixed : {rule : ℕ} → rule ≡ smallest_rule r.account.broken → length reading ≡ entry_bytes * m.count → (rule ≡ 0 → ⊥) → answered rule ≡ reading_tested ws reading
  unfolding reading_tested reading_test fields_test
  test_fixed {rule} p e z =
      rw (q, eq-eqb (length reading) (entry_bytes * m.count) e) (ap answered (rw (← rule_right (minutes_of ws) v.account p) (sym (if_some rule _ z))))

  pub test_later : {rule x : ℕ} → rule ≡ smallest_rule r.account.broken → length reading ≡ entry_bytes * m.count → rule ≡ 0
      → x ≡ later_by (take m.count starts) (take m.count ends) (take m.count nets) reading (length (take m.count starts)) m.judged → answered x ≡ reading_tested ws reading
  unfolding reading_tested reading_test
  test_later {x = x} p e z l =
      rw (q, eq-eqb (length reading) (entry_bytes * m.count) e)
      (ap answered
      (l ∙ ap₂ (λ (rs : List Span) (s : ℕ). later_test (rest_weeks rs) (counts_by (take m.count nets)) s rs (entries rs (fields_in reading))) spans_rests judged_is
      ∙ sym (if_zero (fixed_test (minutes_of ws)) _ (sym (rule_right (minutes_of ws) v.account p) ∙ z))
      ∙ sym (reading_by_numbers (minutes_of ws) (take m.count nets) (λ i h. ap (λ (y : List ℕ). get_or y i 0) nets_are) (fields_in reading))))

module _ (ws reading : List ℕ) where
  pub test_refused : {n : ℕ} → measured ws ≡ refused n → refused n ≡ reading_tested ws reading
  unfolding reading_tested
  test_refused e = rw e

  pub test_sized : {m : Measure} → measured ws ≡ answered m → (length reading ≡ entry_bytes * m.count → ⊥) → refused 6 ≡ reading_tested ws reading
  unfolding reading_tested
  test_sized {m} e z = rw (e, ne_eqb (length reading) (entry_bytes * m.count) z) refl

-- ---- a rule that is broken has a number
numbered : (r : Rule) → number_of_rule r ≡ 0 → ⊥
numbered rule.AccumulatedDriving e = omega arith
numbered rule.DailyDriving e = omega arith
numbered rule.WeeklyDriving e = omega arith
numbered rule.FortnightlyDriving e = omega arith
numbered rule.DailyRest e = omega arith
numbered rule.EntryForm e = omega arith
numbered rule.NetLength e = omega arith
numbered rule.CompensationInTime e = omega arith
numbered rule.ShortenedRests e = omega arith
numbered rule.WeeklyRestGap e = omega arith
numbered rule.WeeklyRests e = omega arith

pub one_broken : (o : Option Rule) → is_some o ≡ true → rule_or_none o ≡ 0 → ⊥
one_broken None e = absurd (false≢true e)
one_broken (Some r) e = numbered r

pub none_broken : (o : Option Rule) → is_some o ≡ false → rule_or_none o ≡ 0
none_broken None e = refl
none_broken (Some r) e = absurd (false≢true (sym e))

-- ---- the test's answer is 0 exactly where the reading is lawful
module _ (ws reading : List ℕ) {m : Measure} (q : measured ws ≡ answered m) (e : length reading ≡ entry_bytes * m.count) where
  answer_is : reading_tested ws reading ≡ answered (reading_test (minutes_of ws) reading)
  unfolding reading_tested
  answer_is = rw (q, eq-eqb (length reading) (entry_bytes * m.count) e) refl

  pub tested_lawful : reading_tested ws reading ≡ answered 0 → lawful (minutes_of ws) reading ≡ true
  unfolding lawful
  tested_lawful t =
      let a : answered (reading_test (minutes_of ws) reading) ≡ answered 0 = sym answer_is ∙ t in
      eq-eqb (reading_test (minutes_of ws) reading) 0 cc

  pub lawful_tested : lawful (minutes_of ws) reading ≡ true → reading_tested ws reading ≡ answered 0
  unfolding lawful
  lawful_tested t = answer_is ∙ ap answered (eqb-true (reading_test (minutes_of ws) reading) 0 t)

-- ---- room for the long rests of a short recording, and of any
module _ (ws : List ℕ) {m : Measure} (q : measured ws ≡ answered m) where
  count_rests : m.count ≡ length (long_rests (minutes_of ws))
  count_rests = ap (λ (x : Measure). x.count) (measured_is ws q).is

  pub room_short : m.total ≤ short_total → m.count ≤ short_rests
  room_short h = omega (arith, count_rests, few_short (minutes_of ws) (omega (arith, ap (λ (x : Measure). x.total) (measured_is ws q).is)))

  pub room_long : m.count ≤ long_rests_at_most
  room_long = omega (arith, count_rests, few_rests (minutes_of ws) (measured_is ws q).within)
