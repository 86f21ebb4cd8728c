-- Rule 11 goes by S and the long rests alone: a week of rest minutes only is one inside a long rest, for the weeks that it asks of.
-- Assumes nothing.
use mathlib.Core.Path.{◌≡◌, sym, ap, ap₂, ◌∙◌}
use mathlib.Core.Bool.{Bool, true}
use mathlib.Core.List.{List}
use Prim.Native.Nat.{ℕ, ◌+◌, ◌≤◌}
use native.Mathlib.Omega.{arith}
use lib.Dec.{leb}
use Rattle.recording.specs.Tests.{◌and◌, any_of, pick, count_of}
use Rattle.recording.specs.Rests.{closed_rests, judged_end, long_rests}
use Rattle.recording.specs.Weeks.{week_start, week, rest_only, inside}
use Rattle.recording.specs.declared.Span.{Span}
use Rattle.recording.proofs.TestLaws.{same_test}
use Rattle.recording.proofs.RestWeeks.{rest_week_law}
use Rattle.rules.specs.Broken.{if_none}
use Rattle.rules.specs.Fixed.{fixed_test}
use Rattle.rules.specs.Reading.{Entry, entries, is_weekly, is_regular}
use Rattle.rules.specs.ReadingRules.{shortened, weekly_at_least, regular_at_least, of_kind, counted_in, enough_in, rule11, later_test, fields_test}
use Rattle.rules.proofs.ReadingPrefix.{pair_enough, pairs_enough}
use Rattle.rules.specs.declared.Kind.{Kind}

abbrev pub inside_rest : List Span → ℕ → Bool
inside_rest rs w = any_of (inside (week w)) rs

module _ (p q : ℕ → Bool) (es : List Entry) where
  counted_same : (f : Kind → Bool) (w : ℕ) → p w ≡ q w → counted_in f p es w ≡ counted_in f q es w
  unfolding counted_in
  counted_same f w e = ap (λ (b : Bool). pick b 1 (count_of (of_kind f w) es)) e

  enough_same : (w : ℕ) → p w ≡ q w → p (w + 1) ≡ q (w + 1) → enough_in p es w ≡ enough_in q es w
  unfolding enough_in
  enough_same w e e' =
      ap₂ (λ (m n : ℕ). leb weekly_at_least m and leb regular_at_least n)
      (ap₂ ◌+◌ (counted_same is_weekly w e) (counted_same is_weekly (w + 1) e'))
      (ap₂ ◌+◌ (counted_same is_regular w e) (counted_same is_regular (w + 1) e'))

  rule11_from : (s : ℕ) → ((w : ℕ) → week_start (w + 1) ≤ s → p w ≡ q w) → rule11 p s es ≡ true → rule11 q s es ≡ true
  rule11_from s e t =
      pairs_enough q s es (λ w h.
      let a : week_start (w + 1) ≤ s = omega arith in
      let b : week_start (w + 1 + 1) ≤ s = omega arith in
      sym (enough_same w (e w a) (e (w + 1) b)) ∙ pair_enough p s es t w h)

pub rule11_same : (p q : ℕ → Bool) (s : ℕ) (es : List Entry) → ((w : ℕ) → week_start (w + 1) ≤ s → p w ≡ q w) → rule11 p s es ≡ rule11 q s es
rule11_same p q s es e = same_test _ _ (rule11_from p q es s e) (rule11_from q p es s (λ w h. sym (e w h)))

pub later_same : (p q : ℕ → Bool) (counts : Entry → Bool) (s : ℕ) (rs : List Span) (es : List Entry) → ((w : ℕ) → week_start (w + 1) ≤ s → p w ≡ q w)
    → later_test p counts s rs es ≡ later_test q counts s rs es
unfolding later_test
later_same p q counts s rs es e = rw (rule11_same p q s es e)

pub reading_by_rests : (ms fields : List ℕ)
    → fields_test ms fields ≡ if_none (fixed_test ms) (later_test (inside_rest (long_rests ms)) (shortened (closed_rests ms)) (judged_end ms) (long_rests ms) (entries (long_rests ms) fields))
unfolding fields_test
reading_by_rests ms fields =
    ap (if_none (fixed_test ms)) (later_same (rest_only ms) (inside_rest (long_rests ms)) _ (judged_end ms) (long_rests ms) (entries (long_rests ms) fields) (rest_week_law ms))
