-- A reading that keeps rules 6 to 11 up to one judged end keeps them up to another by which they ask no more. Assumes nothing.
use mathlib.Core.Path.{◌≡◌, refl, sym, subst}
use mathlib.Core.Logic.{◌⊎◌, inl, inr}
use mathlib.Core.Bool.{Bool, true, false}
use mathlib.Core.List.{List, [], ◌∷◌}
use Prim.Native.Nat.{ℕ, zero, suc, ◌+◌, ◌-◌, ◌≤◌, ◌<◌}
use native.Mathlib.Omega.{arith}
use lib.Dec.{eqb}
use lib.ListN.{length, get_or-eq_default}
use borrow.Author.Tests.{ltb-true, lt-ltb}
use Rattle.recording.specs.Tests.{pick}
use Rattle.recording.specs.Weeks.{week_start, week_of}
use Rattle.recording.specs.declared.Span.{Span}
use Rattle.recording.proofs.TestLaws.{less_or_not, all_at, at_all}
use Rattle.rules.specs.Reading.{Entry, as_read, entries_from, entries}
use Rattle.rules.specs.ReadingRules.{by_deadline, settles, compensated, rule8, weekly_gap}
use Rattle.rules.specs.declared.Kind.{Kind}
use Rattle.rules.specs.declared.Kind.TheVariants.{Daily, Weekly}
use Rattle.rules.specs.declared.Standing.TheVariants.{Regular, Reduced}
use Rattle.rules_items.specs.Items.{spans_from}
use Rattle.verdict_completion.specs.declared.State.{State}
use Rattle.std.proofs.Common.{Option, None}
use Rattle.verdict_completion.specs.States.{pair_kept, advance, After}
use Rattle.verdict_completion.specs.Runs.{Ends, Takes, Runs}
use Rattle.verdict_completion.specs.Completable.{at, spans_of, rest_week, counts, rests_only}
use Rattle.verdict_completion.specs.First.{KeptBy}
use Rattle.verdict_breach.specs.Verdicts.{HasKept, AsksNoMore, NextDemand}

-- ---- weeks
module _ (rest_week : ℕ → Bool) where
  after_both : (P Q : State → Type 0) (b : Bool) (u v : Option State) → (After v Q → After u P) → After (pick b v None) Q → After (pick b u None) P
  after_both P Q true u v f h = f h
  after_both P Q false u v f h = absurd h

  -- fewer weeks are kept too
  fewer_weeks : (m n : ℕ) (st : State) → m ≤ n → After (advance rest_week n st) (λ _. Unit {0}) → After (advance rest_week m st) (λ _. Unit {0})
  unfolding advance
  fewer_weeks zero n st h a = tt
  fewer_weeks (suc m) zero st h a = absurd (omega arith)
  fewer_weeks (suc m) (suc n) st h a = after_both (λ _. Unit {0}) (λ _. Unit {0}) (pair_kept st) _ _ (fewer_weeks m n _ (omega arith)) a

  -- the last weekly rest stays the same from week to week
  weeks_on : (P Q : State → Type 0) (n : ℕ) (st : State) → ((there : State) → there.ended ≡ st.ended → Q there → P there)
      → After (advance rest_week n st) Q → After (advance rest_week n st) P
  unfolding advance
  weeks_on P Q zero st f a = f st refl a
  weeks_on P Q (suc n) st f a = after_both P Q (pair_kept st) _ _ (weeks_on P Q n _ f) a

module _ (s t : ℕ) (week : week_of t ≤ week_of s) where
  -- rule 10 up to t asks no more after a weekly rest that ended at q
  abbrev Reaches : ℕ → Type 0
  Reaches q = s ≤ q + weekly_gap → t ≤ q + weekly_gap

  abbrev EachReaches : List Entry → Type 0
  EachReaches [] = Unit {0}
  EachReaches (e ∷ es) = Reaches e.span.end × EachReaches es

  -- ---- rules 9 to 11
  module _ (rest_week : ℕ → Bool) (counts : Entry → Bool) where
    ends_too : (st : State) → Reaches st.ended → Ends rest_week s st → Ends rest_week t st
    ends_too st r h = (r h.0, fewer_weeks rest_week (week_of t - st.week) (week_of s - st.week) st (omega arith) h.1)

    takes_too : (e : Entry) (es : List Entry) → ((st : State) → Reaches st.ended → Runs rest_week counts s st es → Runs rest_week counts t st es) → Reaches e.span.end
        → (k : Kind) (here : State) → Reaches here.ended
        → Takes rest_week counts s (λ next. Runs rest_week counts s next es) e k here → Takes rest_week counts t (λ next. Runs rest_week counts t next es) e k here
    takes_too e es on q Daily here r h = (h.0, on _ r h.1)
    takes_too e es on q (Weekly x) here r h = weeks_on rest_week _ _ (e.week - here.week) here (λ there p. on _ q) h

    runs_too : (es : List Entry) → EachReaches es → (st : State) → Reaches st.ended → Runs rest_week counts s st es → Runs rest_week counts t st es
    unfolding Runs
    runs_too [] each st r h = ends_too st r h
    runs_too (e ∷ es) each st r h = (
      h.0,
      weeks_on rest_week (Takes rest_week counts t (λ next. Runs rest_week counts t next es) e (as_read e))
          (Takes rest_week counts s (λ next. Runs rest_week counts s next es) e (as_read e)) (week_of e.span.start - st.week) st
          (λ here p. takes_too e es (runs_too es each.1) each.0 (as_read e) here (subst Reaches (sym p) r)) h.1,
    )

  -- ---- rule 8
  before_deadline : (w : ℕ) → s < week_start w → t < week_start w
  before_deadline w h = omega arith

  deadline_too : (b : Bool) (rs : List Span) (carrier w : ℕ) → by_deadline b s rs carrier (week_start w) ≡ true → by_deadline b t rs carrier (week_start w) ≡ true
  deadline_too true rs carrier w h = lt-ltb t (week_start w) (before_deadline w (ltb-true s (week_start w) h))
  deadline_too false rs carrier w h = h

  settles_too : (k : Kind) (rs : List Span) (carrier w : ℕ) → settles k s rs carrier (week_start w) ≡ true → settles k t rs carrier (week_start w) ≡ true
  settles_too Daily rs carrier w h = h
  settles_too (Weekly Regular) rs carrier w h = h
  settles_too (Weekly (Reduced d)) rs carrier w h = deadline_too (eqb carrier 0) rs carrier w h

  compensated_too : (rs : List Span) (e : Entry) → compensated s rs e ≡ true → compensated t rs e ≡ true
  unfolding compensated
  compensated_too rs e h = settles_too (as_read e) rs _ _ h

  eight_too : (rs : List Span) (es : List Entry) → rule8 s rs es ≡ true → rule8 t rs es ≡ true
  unfolding rule8
  eight_too rs es h = at_all (compensated t rs) es (λ e i. compensated_too rs e (all_at (compensated s rs) i h))

  -- ---- the ends of the entries are those of the rests
  each_reaches : (starts ends : List ℕ) → ((i : ℕ) → Reaches (at ends i)) → (m j n p : ℕ) (past : List Entry) (fields : List ℕ)
      → EachReaches (entries_from n p past (spans_from starts ends j m) fields)
  unfolding entries_from spans_from
  each_reaches starts ends r zero j n p past fields = tt
  each_reaches starts ends r (suc m) j n p past fields = (r j, each_reaches starts ends r m (suc j) _ _ _ _)

-- ---- all of them
module _ (starts nets : List ℕ) {ends : List ℕ} {s t : ℕ} (a : AsksNoMore ends s t) where
  reaches : (i : ℕ) → (i < length ends) ⊎ (length ends ≤ i) → s ≤ at ends i + weekly_gap → t ≤ at ends i + weekly_gap
  reaches i (inl l) = a.from_rest i l
  reaches i (inr l) = let e : at ends i ≡ 0 = get_or-eq_default ends 0 {n = i} l in λ h. omega (arith, a.from_start (omega arith))

  pub kept_too : (fields : List ℕ) → KeptBy (rests_only starts ends nets s) fields → KeptBy (rests_only starts ends nets t) fields
  unfolding entries
  kept_too fields k =
      let c = rests_only starts ends nets s in
      record {
        six = k.six;
        seven = k.seven;
        eight = eight_too s t a.week (spans_of c) (entries (spans_of c) fields) k.eight;
        runs = runs_too s t a.week (rest_week c) (counts c) (entries (spans_of c) fields)
            (each_reaches s t a.week starts ends (λ i. reaches i (less_or_not i (length ends))) _ _ _ _ _ _) _ a.from_start k.runs;
      }

  pub has_too : HasKept (rests_only starts ends nets s) → HasKept (rests_only starts ends nets t)
  has_too h = (h.0, h.1, kept_too h.0 h.2)

-- a sooner one, and one before the next demand
pub sooner : {ends : List ℕ} (s t : ℕ) → t ≤ s → AsksNoMore ends s t
sooner s t h = record { week = omega arith; from_start = λ l. omega arith; from_rest = λ i g l. omega arith }

pub before_next : {ends : List ℕ} {s r : ℕ} → NextDemand ends s r → (t : ℕ) → t < r → AsksNoMore ends s t
before_next {ends} {s} {r} n t h = record {
  week = omega (arith, n.week);
  from_start = λ l. omega (arith, n.from_start l);
  from_rest = λ i g l. omega (arith, n.from_rest i g l);
}
