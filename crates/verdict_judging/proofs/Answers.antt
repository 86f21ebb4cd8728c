-- What the verdict and the first reading answer at each return. Assumes nothing.
use mathlib.Core.Path.{◌≡◌, refl, sym, ap, subst, ◌∙◌}
use mathlib.Core.Bool.{Bool, true, false, not}
use mathlib.Core.List.{List, ◌∷◌, ◌++◌}
use mathlib.Core.Option.{Option, none, some}
use Prim.Native.Nat.{ℕ, ◌*◌, ◌≤◌, ◌<◌}
use native.Mathlib.Omega.{arith}
use lib.ListN.{length, take, drop}
use lib.Seq.{length-take-le}
use borrow.Author.Tests.{lt-ltb, le-ltb}
use Rattle.recording.specs.Answers.{Answer, refused, answered, counted, filled}
use Rattle.recording.specs.Words.{minutes_of}
use Rattle.recording.specs.Rests.{long_rests, long_rests_at_most}
use Rattle.recording.specs.Operations.{total_at_most, measure_of, measured}
use Rattle.recording.specs.declared.Measure.{Measure}
use Rattle.recording.proofs.TestLaws.{clash}
use Rattle.recording.proofs.LongRests.{few_rests}
use Rattle.recording.proofs.Listing.{measured_is}
use Rattle.rules.specs.Reading.{entry_bytes, reading_size, bytes_of}
use Rattle.rules.specs.Verdict.{prefix, is_none, first_fields, first_lawful, breach_minute, article, Verdict, breach, verdict_by, verdict}
use Rattle.rules.specs.Operations.{Finding, passed, finding_of, verdict_given, reading_of, first_reading_given}
use Rattle.rules.proofs.Breach.{verdict-pass, some_first, found_fields}
use Rattle.rules.proofs.EntryLaws.{first_size}
use Rattle.verdict_completion.specs.Completable.{Lies, rests_only}
use Rattle.verdict_completion.specs.First.{Least}
use Rattle.verdict_breach.specs.Verdicts.{ByRule, InFront, Whole, HasReading}
use Rattle.verdict_breach.specs.declared.Rests.{Rests}
use Rattle.verdict_breach.proofs.Lawfulness.{to_has, whole_rests, whole_lawful, whole_least}

-- a first lawful reading, where the answer says that there is one
first_is : (ms : List ℕ) → true ≡ not (is_none (first_lawful ms)) → (f : List ℕ) × (first_lawful ms ≡ some f)
first_is ms e = at (first_lawful ms) refl e
  where
    at : (o : Option (List ℕ)) → first_lawful ms ≡ o → true ≡ not (is_none o) → (f : List ℕ) × (first_lawful ms ≡ some f)
    at none q e = clash true refl e
    at (some f) q e = (f, q)

pub none_is : (ms : List ℕ) → false ≡ not (is_none (first_lawful ms)) → HasReading ms → ⊥
none_is ms e h = clash true refl (sym (e ∙ ap not (some_first ms (to_has h))))

-- and a breach, where it says that there is none
verdict_none : (ms : List ℕ) → false ≡ not (is_none (first_lawful ms)) → verdict ms ≡ breach (breach_minute ms) (article (prefix (breach_minute ms) ms))
unfolding verdict
verdict_none ms e = at (first_lawful ms) e
  where
    at : (o : Option (List ℕ)) → false ≡ not (is_none o)
        → verdict_by o (breach_minute ms) (article (prefix (breach_minute ms) ms)) ≡ breach (breach_minute ms) (article (prefix (breach_minute ms) ms))
    at none e = refl
    at (some f) e = clash true refl (sym e)

-- ---- the verdict
pub lawful_found : (ms : List ℕ) → true ≡ not (is_none (first_lawful ms)) → answered passed ≡ answered (finding_of (verdict ms))
lawful_found ms e = let f = first_is ms e in sym (ap (λ v. answered (finding_of v)) (verdict-pass ms f.0 f.1))

module _ (ws : List ℕ) where
  pub verdict_refused : {n : ℕ} → measured ws ≡ refused n → refused n ≡ verdict_given ws
  unfolding verdict_given
  verdict_refused q = rw q refl

  module _ {k : Measure} (q : measured ws ≡ answered k) where
    is : k ≡ measure_of (minutes_of ws)
    is = (measured_is ws q).is

    pub within : length (minutes_of ws) ≤ total_at_most
    within = (measured_is ws q).within

    pub total_is : k.total ≡ length (minutes_of ws)
    total_is = ap (λ (x : Measure). x.total) is

    count_is : k.count ≡ length (long_rests (minutes_of ws))
    count_is = ap (λ (x : Measure). x.count) is

    pub count_few : k.count ≤ long_rests_at_most
    count_few = omega (arith, count_is, few_rests (minutes_of ws) within)

    pub verdict_found : {f : Answer Finding} → f ≡ answered (finding_of (verdict (minutes_of ws))) → f ≡ verdict_given ws
    unfolding verdict_given
    verdict_found e = e ∙ rw q refl

-- the recording of words alone: its first word has no minutes
pub from_words : (ws : List ℕ) → minutes_of (0 ∷ ws) ≡ minutes_of ws
unfolding minutes_of
from_words ws = refl

pub within_alone : (ws : List ℕ) {k : Measure} → measured ws ≡ answered k → length (minutes_of (0 ∷ ws)) ≤ total_at_most
within_alone ws q = omega (arith, ap length (from_words ws), within ws q)

pub fits_alone : (ws : List ℕ) {room : ℕ} → length (long_rests (minutes_of ws)) ≤ room → length (long_rests (minutes_of (0 ∷ ws))) ≤ room
fits_alone ws h = omega (arith, ap (λ (ms : List ℕ). length (long_rests ms)) (from_words ws), h)

pub alone : {ws : List ℕ} {r : Rests} {starts ends nets : List ℕ} → InFront (0 ∷ ws) r starts ends nets → InFront ws r starts ends nets
alone {ws} {r} {starts} {ends} {nets} rests = record {
  count = rests.count ∙ ap (λ (ms : List ℕ). length (long_rests ms)) (from_words ws);
  few = rests.few;
  whole = subst (λ (ms : List ℕ). Whole ms (take r.count starts) (take r.count ends) (take r.count nets) r) (from_words ws) rests.whole;
}

-- the long rests of the whole in front of three slices
module _ {ws : List ℕ} {k : Measure} {r : Rests} {starts ends nets : List ℕ} (rests : InFront ws r starts ends nets) (q : measured ws ≡ answered k) where
  pub rests_there : Lies (rests_only (take r.count starts) (take r.count ends) (take r.count nets) r.judged) × (length (take r.count starts) ≤ long_rests_at_most)
      × (r.judged ≤ total_at_most)
  rests_there = whole_rests rests.whole (within ws q)

  pub asked_there : {t : Bool} → ByRule (rests_only (take r.count starts) (take r.count ends) (take r.count nets) r.judged) r.rule t
      → t ≡ not (is_none (first_lawful (minutes_of ws)))
  asked_there = whole_lawful rests.whole (within ws q)

  pub least_there : {f : List ℕ} → first_fields (minutes_of ws) ≡ some f → Least (rests_only (take r.count starts) (take r.count ends) (take r.count nets) r.judged) f
  least_there = whole_least rests.whole (within ws q)

-- ---- the first reading and its buffer
module _ (ws old : List ℕ) where
  pub record Told (answer : Answer ℕ) (new : List ℕ) : Type 0 where
    pub result : answer ≡ counted (first_reading_given ws (length old))
    pub buffer : new ≡ filled (first_reading_given ws (length old)) old

  told : {g : Answer (List ℕ)} → first_reading_given ws (length old) ≡ g → {answer : Answer ℕ} {new : List ℕ} → answer ≡ counted g → new ≡ filled g old → Told answer new
  told e a b = record { result = a ∙ ap counted (sym e); buffer = b ∙ ap (λ (x : Answer (List ℕ)). filled x old) (sym e) }

  pub told_refused : {n : ℕ} → measured ws ≡ refused n → Told (refused n) old
  unfolding first_reading_given
  told_refused {n} q = told {g = refused n} (rw q refl) refl refl

  module _ {k : Measure} (q : measured ws ≡ answered k) where
    pub told_short : length old < entry_bytes * k.count → Told (refused 4) old
    unfolding first_reading_given
    told_short h = told {g = refused 4} (rw (q, lt-ltb (length old) (entry_bytes * k.count) h) refl) refl refl

    module _ (h : entry_bytes * k.count ≤ length old) where
      reading_is : {v : Verdict} → verdict (minutes_of ws) ≡ v → first_reading_given ws (length old) ≡ reading_of v
      unfolding first_reading_given
      reading_is e = rw (q, le-ltb (length old) (entry_bytes * k.count) h) (ap reading_of e)

      size_is : entry_bytes * k.count ≡ reading_size (minutes_of ws)
      unfolding reading_size
      size_is = ap (λ (n : ℕ). entry_bytes * n) (count_is ws q)

      pub front_size : entry_bytes * k.count ≡ length (take (entry_bytes * k.count) old)
      front_size = sym (length-take-le (entry_bytes * k.count) old h)

      pub front_reading : length (take (entry_bytes * k.count) old) ≡ reading_size (minutes_of ws)
      front_reading = sym front_size ∙ size_is

      pub told_none : false ≡ not (is_none (first_lawful (minutes_of ws))) → Told (refused 13) old
      told_none e = told (reading_is (verdict_none (minutes_of ws) e)) refl refl

      pub told_pass : {new : List ℕ} → true ≡ not (is_none (first_lawful (minutes_of ws)))
          → ((f : List ℕ) → first_fields (minutes_of ws) ≡ some f → new ≡ bytes_of f)
          → Told (answered (entry_bytes * k.count)) (new ++ drop (entry_bytes * k.count) old)
      told_pass {new} e w =
          let f = first_is (minutes_of ws) e in
          let g = found_fields (minutes_of ws) f.1 in
          let same : new ≡ f.0 = w g.0 g.1 ∙ sym g.2 in
          let n : length f.0 ≡ entry_bytes * k.count = first_size (minutes_of ws) f.0 f.1 ∙ sym size_is in
          told (reading_is (verdict-pass (minutes_of ws) f.0 f.1))
          (ap answered (sym n))
          (ap (λ (l : List ℕ). l ++ drop (entry_bytes * k.count) old) same ∙ ap (λ (x : ℕ). f.0 ++ drop x old) (sym n))
