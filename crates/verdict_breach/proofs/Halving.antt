-- The day of the breach, found by halving; and the breach that follows from its minute. Assumes nothing.
use mathlib.Core.Path.{◌≡◌, refl, sym, ap, subst, ◌∙◌}
use mathlib.Core.Logic.{◌⊎◌, inl, inr}
use mathlib.Core.Bool.{Bool, true, false}
use mathlib.Core.List.{List, []}
use Prim.Native.Nat.{ℕ, zero, suc, ◌+◌, ◌-◌, ◌≤◌, ◌<◌, zero-le}
use native.Mathlib.Omega.{arith}
use lib.ListN.{length}
use lib.Seq.{take-length}
use Rattle.std.proofs.Common.{Option, Some, None}
use Rattle.rules.specs.Fixed.{fixed_test}
use Rattle.rules.specs.Numbers.{number_of_rule, number_of_article, article_of}
use Rattle.rules.specs.declared.Rule.{Rule}
use Rattle.rules.specs.declared.Rule.TheVariants.{AccumulatedDriving, DailyDriving, WeeklyDriving, FortnightlyDriving, DailyRest, EntryForm, NetLength}
use Rattle.rules.specs.declared.Rule.TheVariants.{CompensationInTime, ShortenedRests, WeeklyRestGap, WeeklyRests}
use Rattle.rules.proofs.ArticleOrder.{rule_most}
use Rattle.rules.specs.Verdict.{prefix, breach_minute, article, verdict}
use Rattle.rules.specs.Operations.{breached, finding_of}
use Rattle.rules.specs.Opened.{opened}
use Rattle.rules.proofs.Breach.{HasLawful, prefix_lawful, Breach, breach_is, breach_after, is_none_law}
use Rattle.rules_limits.specs.Account.{account_from, opening}
use Rattle.rules_limits.specs.declared.Break.{Break}
use Rattle.rules_limits.proofs.AccountRight.{First, unbroken, broken as broken-at, account_right, first_least}
use Rattle.recording.proofs.TestLaws.{less_or_not}
use Rattle.rules_items.specs.Items.{spans_from}
use Rattle.verdict_completion.specs.States.{advance}
use Rattle.verdict_completion.specs.Runs.{Runs}
use Rattle.verdict_completion.specs.Completable.{rests_only}
use Rattle.verdict_breach.specs.Verdicts.{HasKept, HasReading, Bound, first_rests, day_start, DayReadable, LastDay}
use Rattle.verdict_breach.proofs.Lawfulness.{fixed_first, from_has, is_rule}

-- no rests, at the beginning: the empty reading keeps the rules
kept_nothing : HasKept (rests_only [] [] [] 0)
unfolding opened Runs advance spans_from
kept_nothing = ([], tt, record { six = refl; seven = refl; eight = refl; runs = (zero-le, tt) })

-- between a number of long rests after which there is a reading that keeps rules 6 to 11 and one after which there is none, below the bound
pub record Halving (starts ends nets : List ℕ) (bound low high : ℕ) : Type 0 where
  pub order : low < high
  pub within : high ≤ length starts + 1
  pub below : day_start ends low < bound
  pub kept : HasKept (first_rests starts ends nets low (day_start ends low))
  pub none : high ≤ length starts → day_start ends high < bound → HasKept (first_rests starts ends nets high (day_start ends high)) → ⊥

pub start_halving : (starts ends nets : List ℕ) {bound high : ℕ} → 0 < bound → high ≡ length starts + 1 → Halving starts ends nets bound 0 high
start_halving starts ends nets h e = record { order = omega arith; within = omega arith; below = h; kept = kept_nothing; none = λ l. absurd (omega arith) }

module _ {starts ends nets : List ℕ} {bound low high middle : ℕ} (h : Halving starts ends nets bound low high) {r : Bool} (a : DayReadable starts ends nets bound middle r) (above : low < middle)
    (below : middle < high) where
  pub halve_up : r ≡ true → Halving starts ends nets bound middle high
  halve_up t = record { order = below; within = h.within; below = (a.yes t).0; kept = (a.yes t).1; none = h.none }

  pub halve_down : r ≡ false → Halving starts ends nets bound low middle
  halve_down t = record { order = above; within = omega (arith, h.within); below = h.below; kept = h.kept; none = λ l. a.no t }

pub halved : {starts ends nets : List ℕ} {bound low high : ℕ} → Halving starts ends nets bound low high → high - low ≤ 1 → LastDay starts ends nets bound low
halved {starts} {ends} {nets} {bound} {low} {high} h l =
    let e : high ≡ suc low = omega (arith, h.order) in
    record {
      within = omega (arith, h.within, h.order);
      below = h.below;
      kept = h.kept;
      next = subst (λ (n : ℕ). n ≤ length starts → day_start ends n < bound → HasKept (first_rests starts ends nets n (day_start ends n)) → ⊥) e h.none;
    }

-- a stretch without a lawful reading is not the empty one
module _ (ms : List ℕ) where
  no_whole : (m : ℕ) → (HasReading (prefix m ms) → ⊥) → HasLawful ms → ⊥
  no_whole m n h = n (from_has (prefix_lawful m ms h))

  pub bound_above : (bound : ℕ) → Bound ms bound → 0 < bound
  bound_above zero b =
      let n = no_whole 0 b.broken in
      absurd (b.broken (from_has ((breach_is ms n).shorter 0 (omega (arith, (breach_after ms n).1)))))
  bound_above (suc bound) b = omega arith

-- ---- the breach
-- a fixed rule has the number of its article
article_number : (r : Rule) → number_of_rule r ≤ 5 → number_of_article (article_of r) ≡ number_of_rule r
article_number AccumulatedDriving h = refl
article_number DailyDriving h = refl
article_number WeeklyDriving h = refl
article_number FortnightlyDriving h = refl
article_number DailyRest h = refl
article_number EntryForm h = absurd (omega arith)
article_number NetLength h = absurd (omega arith)
article_number CompensationInTime h = absurd (omega arith)
article_number ShortenedRests h = absurd (omega arith)
article_number WeeklyRestGap h = absurd (omega arith)
article_number WeeklyRests h = absurd (omega arith)

fixed_most : (ms : List ℕ) → fixed_test ms ≤ 5
unfolding fixed_test
fixed_most ms = rule_most _

module _ (ms : List ℕ) (n : HasReading ms → ⊥) where
  abbrev first : Option Break
  first = (account_from opening ms).first

  no_lawful : HasLawful ms → ⊥
  no_lawful h = n (from_has h)

  finding : {m a : ℕ} → m ≡ breach_minute ms → a ≡ article (prefix m ms) → breached m a ≡ finding_of (verdict ms)
  unfolding verdict
  finding {m} {a} e f = rw (is_none_law ms no_lawful, f, sym e) refl

  -- the article: 6 below the first breach of a fixed rule, there that rule's
  no_rule : (m : ℕ) → fixed_test (prefix m ms) ≡ 0 → 6 ≡ article (prefix m ms)
  unfolding article
  no_rule m e = rw e refl

  some_rule : (m r : ℕ) → fixed_test (prefix m ms) ≡ r → (r ≡ 0 → ⊥) → r ≡ article (prefix m ms)
  unfolding article
  some_rule m zero e z = absurd (z refl)
  some_rule m (suc r) e z = rw e refl

  pub least_in_whole : {total : ℕ} → total ≡ length ms → first ≡ None → Bound ms total
  least_in_whole e z = subst (Bound ms) (sym e) (record {
    within = omega arith;
    fixed = λ m l. (first_least ms).none_broken z m;
    broken = λ h. n (subst HasReading (take-length ms) h);
  })

  pub breach_whole : {m : ℕ} → first ≡ None → m ≡ breach_minute ms → breached m 6 ≡ finding_of (verdict ms)
  breach_whole {m} z e = finding e (no_rule m ((first_least ms).none_broken z m))

  module _ {f : Break} (q : first ≡ Some f) where
    first_within : {o : Option Break} → First ms o → o ≡ Some f → f.at ≤ length ms
    first_within (unbroken z) r = cc
    first_within (broken-at {f = g} k e h p s) r =
        let same : g ≡ f = cc in
        omega (arith, ap (λ (b : Break). b.at) same)

    pub least_in_fixed : Bound ms f.at
    least_in_fixed = record {
      within = first_within (account_right ms).first q;
      fixed = (first_least ms).before q;
      broken = λ h. is_rule f.rule (sym ((first_least ms).there q) ∙ fixed_first (prefix f.at ms) h.0 h.2);
    }

    pub breach_under : {m : ℕ} → m ≡ breach_minute ms → m < f.at → breached m 6 ≡ finding_of (verdict ms)
    breach_under {m} e l = finding e (no_rule m ((first_least ms).before q m l))

    pub breach_here : {m : ℕ} → m ≡ breach_minute ms → f.at ≤ m → breached m (number_of_article (article_of f.rule)) ≡ finding_of (verdict ms)
    breach_here {m} e l =
        let b = breach_is ms no_lawful in
        let s : m ≡ f.at = at_first b e l in
        let t : fixed_test (prefix m ms) ≡ number_of_rule f.rule = ap (λ (x : ℕ). fixed_test (prefix x ms)) s ∙ (first_least ms).there q in
        finding e (article_number f.rule (omega (arith, t, fixed_most (prefix m ms))) ∙ some_rule m (number_of_rule f.rule) t (is_rule f.rule))
      where
        -- the stretch that breaks a fixed rule has no lawful reading, so the breach is no later
        at_first : {m : ℕ} → Breach ms (breach_minute ms) → m ≡ breach_minute ms → f.at ≤ m → m ≡ f.at
        at_first {m} b e l = no_later (less_or_not f.at (breach_minute ms))
          where
            no_later : (f.at < breach_minute ms) ⊎ (breach_minute ms ≤ f.at) → m ≡ f.at
            no_later (inl h) = absurd (least_in_fixed.broken (from_has (b.shorter f.at h)))
            no_later (inr h) = omega arith
