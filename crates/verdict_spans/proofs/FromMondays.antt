-- One verdict from a Monday on tells of every span that begins there whether it is a breach, since a breach stays one when the end moves later. So the
-- walk from the last Monday to the first comes to the document's spans. Assumes nothing.
use mathlib.Core.Path.{◌≡◌, refl, sym, ap, ◌∙◌}
use mathlib.Core.Logic.{◌⊎◌, inl, inr}
use mathlib.Core.List.{List}
use mathlib.Core.Option.{Option, none, some}
use Prim.Native.Nat.{ℕ, ◌+◌, ◌-◌, ◌*◌, ◌≤◌, ◌<◌}
use native.Mathlib.Omega.{arith}
use lib.Dec.{leb}
use lib.ListN.{length, drop}
use borrow.Author.Tests.{le-leb, lt-leb}
use Rattle.recording.specs.Answers.{answered}
use Rattle.recording.specs.Weeks.{week_minutes, week_start, week_of}
use Rattle.recording.specs.Operations.{total_at_most}
use Rattle.recording.proofs.TestLaws.{less_or_not}
use Rattle.rules.specs.Verdict.{prefix, first_lawful, breach_minute, article, verdict_by, verdict}
use Rattle.rules.specs.Operations.{Finding, passed, breached, finding_of}
use Rattle.rules.specs.Spans.{weeks_begun, is_breach, breaching, breach_spans}
use Rattle.rules.proofs.Breach.{HasLawful, Breach, first_fields_law, found_fields, first_none, prefix_lawful, shorter_lawful, breach_is, breach_after}
use Rattle.verdict_spans.specs.Mondays.{last_week, Sound, last_from, spans_back}
use Rattle.rules.proofs.Spans.{span, lawful_passes, none_breaches, span_is}
use Rattle.verdict_spans.proofs.SpanLaws.{back_is}

-- ---- what is found of a recording: a pass with a lawful reading, or a breach at its minute with none
data Found (ms : List ℕ) : Finding → Type 0 where
  lawful : HasLawful ms → Found ms passed
  unlawful : {a : ℕ} → (HasLawful ms → ⊥) → Found ms (breached (breach_minute ms) a)

found : (ms : List ℕ) → Found ms (finding_of (verdict ms))
unfolding verdict
found ms = at (first_lawful ms) refl
  where
    at : (o : Option (List ℕ)) → first_lawful ms ≡ o → Found ms (finding_of (verdict_by o (breach_minute ms) (article (prefix (breach_minute ms) ms))))
    at none e = unlawful (first_none ms e)
    at (some r) e = let (f, q, b) = found_fields ms e in lawful (f, (first_fields_law ms q).sound)

-- a breach has a minute of the recording
pub sound_from : (ms : List ℕ) → length ms ≤ total_at_most → Sound (answered (finding_of (verdict ms)))
sound_from ms h = at (finding_of (verdict ms)) (found ms)
  where
    at : (f : Finding) → Found ms f → Sound (answered f)
    at passed k = tt
    at (breached m a) (unlawful n) =
        let p = breach_after ms n in
        (omega (arith, p.1), omega (arith, (breach_is ms n).within))

-- ---- a span that begins at a Monday
module _ (ms : List ℕ) where
  abbrev weeks : ℕ
  weeks = weeks_begun (length ms)

  own : (a : ℕ) → a < weeks → a ≤ last_from ms a
  own a h = at (finding_of (verdict (drop (week_start a) ms)))
    where
      at : (f : Finding) → a ≤ last_week weeks a f
      at passed = omega arith
      at (breached m z) = omega arith

  module _ (a b : ℕ) (h : a ≤ b) (l : b < weeks) where
    abbrev from : List ℕ
    from = drop (week_start a) ms

    abbrev stretch : ℕ
    stretch = week_minutes * (b + 1 - a)

    by_week : {f : Finding} → Found from f → is_breach (verdict (prefix stretch from)) ≡ leb (last_week weeks a f) b
    by_week (lawful k) = lawful_passes (prefix stretch from) (prefix_lawful stretch from k) ∙ sym (lt-leb weeks b l)
    by_week (unlawful n) = at (less_or_not stretch (breach_minute from))
      where
        k : Breach from (breach_minute from)
        k = breach_is from n

        at : (stretch < breach_minute from) ⊎ (breach_minute from ≤ stretch) → is_breach (verdict (prefix stretch from)) ≡ leb (a + week_of (breach_minute from - 1)) b
        at (inl g) = lawful_passes (prefix stretch from) (k.shorter stretch g) ∙ sym (lt-leb (a + week_of (breach_minute from - 1)) b (omega arith))
        at (inr g) =
            let p = breach_after from n in
            none_breaches (prefix stretch from) (λ w. k.none_there (shorter_lawful from (breach_minute from) stretch g w))
            ∙ sym (le-leb (a + week_of (breach_minute from - 1)) b (omega (arith, p.1)))

    breaks_by_law : breaching ms (span a b) ≡ leb (last_from ms a) b
    unfolding breaching
    breaks_by_law = ap (λ (l : List ℕ). is_breach (verdict l)) (span_is ms (span a b) h) ∙ by_week (found from)

  -- THE LAW: the walk comes to the document's spans
  pub spans_back_law : breach_spans ms ≡ spans_back weeks (last_from ms) 0 weeks
  unfolding breach_spans
  spans_back_law = back_is weeks (last_from ms) (breaching ms) own breaks_by_law
