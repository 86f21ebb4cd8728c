-- A reading of a recording's long rests that keeps rules 6 to 11 is a lawful one, where the fixed rules hold. Assumes nothing.
use mathlib.Core.Path.{◌≡◌, refl, sym, ap, subst, ◌∙◌}
use mathlib.Core.Bool.{Bool, true, false, not}
use mathlib.Core.Logic.{◌⊎◌, inl, inr}
use mathlib.Core.List.{List, [], map}
use mathlib.Core.Option.{Option as Maybe, some}
use Prim.Native.Nat.{ℕ, zero, suc, ◌+◌, ◌*◌, ◌≤◌, ◌<◌}
use native.Mathlib.Omega.{arith}
use lib.ListN.{length, get_or, take, replicate, length-map, length-replicate, get_or-replicate, get_or-eq_default}
use borrow.Author.Tests.{eqb-true, eq-eqb}
use Rattle.recording.specs.Words.{minutes_of}
use Rattle.recording.specs.Rests.{judged_end, long_rests, long_rests_at_most}
use Rattle.recording.specs.Operations.{total_at_most}
use Rattle.recording.specs.declared.Span.{Span}
use Rattle.recording.proofs.TestLaws.{less_or_not}
use Rattle.recording.proofs.Walks.{judged_within}
use Rattle.recording.proofs.LongRests.{Ordered, none as no-rest, next, rests_ordered, few_rests}
use Rattle.rules.specs.Broken.{if_none}
use Rattle.std.proofs.Common.{Option, Some, None}
use Rattle.rules.specs.Fixed.{fixed_test}
use Rattle.rules.specs.Numbers.{number_of_rule, rule_or_none}
use Rattle.rules.specs.declared.Rule.{Rule}
use Rattle.rules.specs.declared.Rule.TheVariants.{AccumulatedDriving, DailyDriving, WeeklyDriving, FortnightlyDriving, DailyRest, EntryForm, NetLength}
use Rattle.rules.specs.declared.Rule.TheVariants.{CompensationInTime, ShortenedRests, WeeklyRestGap, WeeklyRests}
use Rattle.rules.specs.Reading.{entry_bytes, reading_size, compensation_of, entries}
use Rattle.rules.specs.ReadingRules.{fields_test}
use Rattle.rules.specs.Order.{Fields}
use Rattle.rules.specs.Verdict.{lawful_fields, is_none, first_fields, first_lawful}
use Rattle.rules.proofs.Breach.{HasLawful, first_fields_law, is_none_law, some_first}
use Rattle.rules_items.specs.Items.{spans_from, spans_in, rest_weeks, Zeros}
use Rattle.rules_items.proofs.SpanLaws.{nowhere, map_at, spans_are, if_zero}
use Rattle.verdict_completion.specs.States.{start_state}
use Rattle.verdict_completion.specs.Runs.{Kept}
use Rattle.verdict_completion.specs.Completable.{Course, count, Lies, rests_only}
use Rattle.verdict_completion.proofs.Carriers.{extend, extended}
use Rattle.verdict_completion.proofs.RunLaws.{later_kept, kept_later}
use Rattle.verdict_completion.specs.Courses.{course_with}
use Rattle.verdict_completion.specs.declared.course.LongRests.{LongRests}
use Rattle.verdict_completion.proofs.Courses.{lies_with}
use Rattle.verdict_sweep.specs.Sweep.{Told, CanBeRead}
use Rattle.rules_nets.specs.Nets.{nets_of, counts_by}
use Rattle.rules_fixed.proofs.NetLaws.{all_numbered, nets_most, reading_by_numbers}
use Rattle.verdict_completion.specs.First.{KeptBy, Least}
use Rattle.verdict_breach.specs.Verdicts.{InFront, course_in, HasKept, SaysWhether, ByRule, HasReading, Readable, AllRests, Whole}
use Rattle.verdict_breach.proofs.Days.{lies_later}
use Rattle.verdict_breach.specs.declared.Rests.{Rests}

-- ---- the search's answer on long rests without compensations
none_zeros : (k : ℕ) → Zeros (replicate {A = ℕ} k 0)
none_zeros k i = at (less_or_not i k)
  where
    at : (i < k) ⊎ (k ≤ i) → ◌≡◌ {A = ℕ} (get_or (replicate k 0) i 0) 0
    at (inl h) = get_or-replicate k i 0 0 h
    at (inr h) = get_or-eq_default (replicate {A = ℕ} k 0) 0 {n = i} (omega (arith, length-replicate {A = ℕ} k 0, h))

module _ (rests : LongRests) where
  abbrev k : ℕ
  k = length rests.starts.now

  abbrev c : Course
  c = course_with rests (replicate k 0)

  all : k + 0 ≡ k
  all = omega arith

  pub some_reading : {S : Type 0} {r : Bool} {o : List ℕ} → o ≡ replicate k 0 → Told (CanBeRead (course_with rests o) (replicate k 0)) r S → SaysWhether (course_in rests) r
  unfolding entries compensation_of
  some_reading {S} {r} e told =
      let a = subst (λ (l : List ℕ). Told (CanBeRead (course_with rests l) (replicate k 0)) r S) e told in
      let zeros = none_zeros k in
      let size : length (replicate {A = ℕ} k 0) ≡ k = length-replicate k 0 in
      record {
        yes = λ t. extend c (lies_with rests (replicate k 0)) (omega (arith, rests.few)) rests.low k 0 _ (replicate k 0) [] all size zeros (λ i h. zeros i) (a.yes t);
        no = λ t fields q. a.no t (extended c (lies_with rests (replicate k 0)) (omega (arith, rests.few)) rests.low k 0 _ (replicate k 0) [] all size zeros (λ i h. zeros i) fields q);
      }

-- ---- the long rests of a recording, with their numbers
abbrev pub rests_in : List ℕ → Course
rests_in ms = rests_only (map (λ (r : Span). r.start) (long_rests ms)) (map (λ (r : Span). r.end) (long_rests ms)) (nets_of ms) (judged_end ms)

module _ (rs : List Span) where
  abbrev starts : List ℕ
  starts = map (λ (r : Span). r.start) rs

  abbrev ends : List ℕ
  ends = map (λ (r : Span). r.end) rs

  size : length starts ≡ length rs
  size = length-map rs (λ (r : Span). r.start)

  spans_back_law : spans_in starts ends (length starts) ≡ rs
  spans_back_law =
      ap (spans_from starts ends 0) size
      ∙ spans_are starts ends rs 0
      (λ j h. ap (λ (n : ℕ). get_or starts n 0) (let e : 0 + j ≡ j = omega arith in e) ∙ map_at (λ r. r.start) rs j nowhere h)
      (λ j h. ap (λ (n : ℕ). get_or ends n 0) (let e : 0 + j ≡ j = omega arith in e) ∙ map_at (λ r. r.end) rs j nowhere h)

pub record Neighbours (to from : ℕ) (rs : List Span) (i : ℕ) : Type 0 where
  pub from_on : from ≤ (get_or rs i nowhere).start
  pub proper : (get_or rs i nowhere).start < (get_or rs i nowhere).end
  pub over : (get_or rs i nowhere).end < to
  pub before_next : suc i < length rs → (get_or rs i nowhere).end < (get_or rs (suc i) nowhere).start

pub neighbours : {to from : ℕ} {rs : List Span} → Ordered to from rs → (i : ℕ) → i < length rs → Neighbours to from rs i
neighbours no-rest i h = absurd (omega arith)
neighbours {to} {from} (next {r = r} {rs = rs} l n e o) zero h =
    record { from_on = l; proper = omega arith; over = omega arith; before_next = λ g. after (neighbours o 0 (omega arith)) }
  where
    after : Neighbours to (suc r.end) rs 0 → r.end < (get_or rs 0 nowhere).start
    after q = omega (arith, q.from_on)
neighbours {to} {from} (next {r = r} {rs = rs} l n e o) (suc i) h =
    let q = neighbours o i (omega arith) in
    record { from_on = omega (arith, q.from_on); proper = q.proper; over = q.over; before_next = λ g. q.before_next (omega arith) }

pub lies_in : (ms : List ℕ) → length ms ≤ total_at_most → Lies (rests_in ms)
lies_in ms within =
    record {
      ends_too = length-map (long_rests ms) (λ (r : Span). r.end) ∙ sym (size (long_rests ms));
      nets_too = all_numbered ms ∙ sym (size (long_rests ms));
      net = λ i h. nets_most ms within i (there i h);
      proper = λ i h. rw (at_start i (there i h), at_end i (there i h)) (neighbours (rests_ordered ms) i (there i h)).proper;
      ordered = λ i h. rw (at_end i (before i h), at_start (suc i) (there (suc i) h)) (omega (arith, (neighbours (rests_ordered ms) i (before i h)).before_next (there (suc i) h)));
      judged = λ i h. rw (at_end i (there i h)) (omega (arith, (neighbours (rests_ordered ms) i (there i h)).over));
    }
  where
    there : (i : ℕ) → i < count (rests_in ms) → i < length (long_rests ms)
    there i h = rw (size (long_rests ms)) at h

    before : (i : ℕ) → suc i < count (rests_in ms) → i < length (long_rests ms)
    before i h = let g = there (suc i) h in omega arith

    at_start : (i : ℕ) → i < length (long_rests ms) → get_or (starts (long_rests ms)) i 0 ≡ (get_or (long_rests ms) i nowhere).start
    at_start i h = map_at (λ r. r.start) (long_rests ms) i nowhere h

    at_end : (i : ℕ) → i < length (long_rests ms) → get_or (ends (long_rests ms)) i 0 ≡ (get_or (long_rests ms) i nowhere).end
    at_end i h = map_at (λ r. r.end) (long_rests ms) i nowhere h

-- ---- lawful, and kept
module _ (ms : List ℕ) where
  abbrev KeptThere : List Span → List ℕ → Type 0
  KeptThere rs fields = Kept (rest_weeks rs) (counts_by (nets_of ms)) (judged_end ms) rs (start_state (rest_weeks rs 0)) (entries rs fields)

  pub lawful_kept : (fields : List ℕ) → lawful_fields ms fields ≡ true → KeptBy (rests_in ms) fields
  unfolding lawful_fields
  lawful_kept fields t =
      let z : fields_test ms fields ≡ 0 = eqb-true (fields_test ms fields) 0 t in
      let k : KeptThere (long_rests ms) fields =
      later_kept (rest_weeks (long_rests ms)) (counts_by (nets_of ms)) (judged_end ms) (long_rests ms) fields (rests_ordered ms)
      (later_none (fixed_test ms) _ (sym (reading_by_numbers ms (nets_of ms) (λ i h. refl) fields) ∙ z)) in
      subst (λ (rs : List Span). KeptThere rs fields) (sym (spans_back_law (long_rests ms))) k
    where
      later_none : (n x : ℕ) → if_none n x ≡ 0 → x ≡ 0
      later_none zero x e = e
      later_none (suc n) x e = absurd (omega arith)

  pub kept_lawful : fixed_test ms ≡ 0 → (fields : List ℕ) → KeptBy (rests_in ms) fields → lawful_fields ms fields ≡ true
  unfolding lawful_fields
  kept_lawful f fields k =
      let k' : KeptThere (long_rests ms) fields = subst (λ (rs : List Span). KeptThere rs fields) (spans_back_law (long_rests ms)) k in
      let z = kept_later (rest_weeks (long_rests ms)) (counts_by (nets_of ms)) (judged_end ms) (long_rests ms) fields (rests_ordered ms) k' in
      eq-eqb (fields_test ms fields) 0 (reading_by_numbers ms (nets_of ms) (λ i h. refl) fields ∙ if_zero (fixed_test ms) _ f ∙ z)

  pub fixed_first : (fields : List ℕ) → lawful_fields ms fields ≡ true → fixed_test ms ≡ 0
  unfolding lawful_fields fields_test
  fixed_first fields t = fixed_none (fixed_test ms) _ (eqb-true (fields_test ms fields) 0 t)
    where
      fixed_none : (n x : ℕ) → if_none n x ≡ 0 → n ≡ 0
      fixed_none zero x e = refl
      fixed_none (suc n) x e = absurd (omega arith)

  as_many : (fields : List ℕ) → Fields (length (long_rests ms)) fields → Fields (count (rests_in ms)) fields
  as_many fields b = subst (λ (n : ℕ). Fields n fields) (sym (size (long_rests ms))) b

  as_few : (fields : List ℕ) → Fields (count (rests_in ms)) fields → Fields (length (long_rests ms)) fields
  as_few fields b = subst (λ (n : ℕ). Fields n fields) (size (long_rests ms)) b

  pub least : {f : List ℕ} → first_fields ms ≡ some f → Least (rests_in ms) f
  least {f} e =
      let first = first_fields_law ms e in
      let l = first.sound in
      record {
        bounded = as_many f l.bounded;
        keeps = lawful_kept f l.keeps;
        first = λ t b k. first.least t (record { bounded = as_few t b; keeps = kept_lawful (fixed_first f l.keeps) t k });
      }

  pub has_kept : HasReading ms → HasKept (rests_in ms)
  has_kept h = (h.0, as_many h.0 h.1, lawful_kept h.0 h.2)

  pub kept_has : fixed_test ms ≡ 0 → HasKept (rests_in ms) → HasReading ms
  kept_has f h = (h.0, as_few h.0 h.1, kept_lawful f h.0 h.2)

  pub readable : {r : Bool} → SaysWhether (rests_in ms) r → Readable ms r
  readable a = record { yes = λ t f. kept_has f (a.yes t); no = λ t h. a.no t h.0 (lawful_kept h.0 h.2) }

-- ---- the answer whether there is a lawful reading
pub to_has : {ms : List ℕ} → HasReading ms → HasLawful ms
to_has (r, b, k) = (r, record { bounded = b; keeps = k })

pub from_has : {ms : List ℕ} → HasLawful ms → HasReading ms
from_has (r, l) = (r, l.bounded, l.keeps)

pub has_none : (ms : List ℕ) → (fixed_test ms ≡ 0 → ⊥) → false ≡ not (is_none (first_lawful ms))
has_none ms f = sym (ap (λ (o : Maybe (List ℕ)). not (is_none o)) (is_none_law ms (λ h. f (fixed_first ms h.0 h.1.keeps))))

module _ (ms : List ℕ) {r : Bool} (a : Readable ms r) where
  pub has_it : fixed_test ms ≡ 0 → r ≡ not (is_none (first_lawful ms))
  has_it f = at r refl
    where
      at : (t : Bool) → r ≡ t → t ≡ not (is_none (first_lawful ms))
      at true e = sym (ap not (some_first ms (to_has (a.yes e f))))
      at false e = sym (ap (λ (o : Maybe (List ℕ)). not (is_none o)) (is_none_law ms (λ h. a.no e (from_has h))))

-- a rule has a number
pub is_rule : (r : Rule) → number_of_rule r ≡ 0 → ⊥
is_rule AccumulatedDriving e = absurd (omega arith)
is_rule DailyDriving e = absurd (omega arith)
is_rule WeeklyDriving e = absurd (omega arith)
is_rule FortnightlyDriving e = absurd (omega arith)
is_rule DailyRest e = absurd (omega arith)
is_rule EntryForm e = absurd (omega arith)
is_rule NetLength e = absurd (omega arith)
is_rule CompensationInTime e = absurd (omega arith)
is_rule ShortenedRests e = absurd (omega arith)
is_rule WeeklyRestGap e = absurd (omega arith)
is_rule WeeklyRests e = absurd (omega arith)

-- the answer that goes by the fixed rules first
pub by_fixed : (ms : List ℕ) (rule : Option Rule) {t : Bool} → fixed_test ms ≡ rule_or_none rule → ByRule (rests_in ms) rule t → t ≡ not (is_none (first_lawful ms))
by_fixed ms None e a = has_it ms (readable ms a) e
by_fixed ms (Some r) e a = a ∙ has_none ms (λ z. is_rule r (sym e ∙ z))

-- ---- the long rests of a recording in front of three slices
module _ {ws : List ℕ} {r : Rests} {starts ends nets : List ℕ} (q : InFront ws r starts ends nets) where
  pub starts_size : r.count ≡ length (take r.count starts)
  starts_size = q.count ∙ sym (length-map (long_rests (minutes_of ws)) (λ (x : Span). x.start)) ∙ sym (ap length q.whole.rests.begun)

  pub ends_size : r.count ≡ length (take r.count ends)
  ends_size = q.count ∙ sym (length-map (long_rests (minutes_of ws)) (λ (x : Span). x.end)) ∙ sym (ap length q.whole.rests.ended)

  pub nets_size : r.count ≡ length (take r.count nets)
  nets_size = q.count ∙ sym (all_numbered (minutes_of ws)) ∙ sym (ap length q.whole.rests.numbered)

  pub reading_there : {n : ℕ} → n ≡ reading_size (minutes_of ws) → n ≡ entry_bytes * length (take r.count starts)
  unfolding reading_size
  reading_there h = h ∙ ap (λ (n : ℕ). entry_bytes * n) (sym q.count ∙ starts_size)

-- ---- the long rests of the whole, in three lists
module _ {ms starts ends nets : List ℕ} (q : AllRests ms starts ends nets) (within : length ms ≤ total_at_most) where
  course_there : (s : ℕ) → s ≡ judged_end ms → rests_only starts ends nets s ≡ rests_in ms
  course_there s e = λ i. rests_only (q.begun i) (q.ended i) (q.numbered i) (e i)

  pub all_lie : Lies (rests_only starts ends nets total_at_most)
  all_lie =
      let l : Lies (rests_only starts ends nets (judged_end ms)) = subst Lies (sym (course_there (judged_end ms) refl)) (lies_in ms within) in
      lies_later l (omega (arith, judged_within ms))

  pub all_few : length starts ≤ long_rests_at_most
  all_few = omega (arith, ap length q.begun, size (long_rests ms), few_rests ms within)

-- the answer of the whole, by the fixed rules first
module _ {ms starts ends nets : List ℕ} {r : Rests} (q : Whole ms starts ends nets r) (within : length ms ≤ total_at_most) where
  pub whole_rests : Lies (rests_only starts ends nets r.judged) × (length starts ≤ long_rests_at_most) × (r.judged ≤ total_at_most)
  whole_rests =
      (subst Lies (sym (course_there q.rests within r.judged q.judged)) (lies_in ms within), all_few q.rests within, omega (arith, q.judged, judged_within ms))

  pub whole_lawful : {t : Bool} → ByRule (rests_only starts ends nets r.judged) r.rule t → t ≡ not (is_none (first_lawful ms))
  whole_lawful {t} a =
      by_fixed ms r.rule (sym q.fixed)
      (subst (λ (c : Course). ByRule c r.rule t) (course_there q.rests within r.judged q.judged) a)

  pub whole_least : {f : List ℕ} → first_fields ms ≡ some f → Least (rests_only starts ends nets r.judged) f
  whole_least {f} e = subst (λ (c : Course). Least c f) (sym (course_there q.rests within r.judged q.judged)) (least ms e)
