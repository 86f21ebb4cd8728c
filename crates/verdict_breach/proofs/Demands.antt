-- What the walk over the ends of long rests keeps that looks for the next demand, and the search past it. Assumes nothing.
use mathlib.Core.Path.{◌≡◌, ap}
use mathlib.Core.Logic.{◌⊎◌, inl, inr}
use mathlib.Core.Bool.{Bool, true, false}
use mathlib.Core.List.{List}
use Prim.Native.Nat.{ℕ, suc, ◌+◌, ◌-◌, ◌≤◌, ◌<◌}
use native.Mathlib.Omega.{arith}
use lib.ListN.{length}
use Rattle.recording.proofs.TestLaws.{less_or_not}
use Rattle.recording.specs.Weeks.{week_start, week_of}
use Rattle.rules.specs.ReadingRules.{weekly_gap}
use Rattle.verdict_completion.specs.Completable.{at, rests_only}
use Rattle.verdict_breach.specs.Verdicts.{HasKept, SaysWhether, Sooner, NextDemand, FirstWithout}
use Rattle.verdict_breach.proofs.JudgedEnds.{has_too, sooner, before_next}

-- the ends before index i are through
pub record Demands (ends : List ℕ) (s next i : ℕ) : Type 0 where
  pub past : s < next
  pub week : next ≤ week_start (week_of s + 1)
  pub from_start : s ≤ weekly_gap → next ≤ weekly_gap + 1
  pub from_rest : (j : ℕ) → j < i → s ≤ at ends j + weekly_gap → next ≤ at ends j + weekly_gap + 1

pub start_demands : (ends : List ℕ) {s other next : ℕ} → other ≡ week_start (week_of s + 1) → Sooner 0 s other next → Demands ends s next 0
start_demands ends {s} e g = record {
  past = g.past (omega arith);
  week = omega (arith, g.least);
  from_start = λ h. omega (arith, g.gap (omega arith));
  from_rest = λ j l h. absurd (omega arith);
}

pub demands_on : {ends : List ℕ} {s next i r : ℕ} → Demands ends s next i → Sooner (at ends i) s next r → Demands ends s r (i + 1)
demands_on {ends} {s} {next} {i} {r} d g = record {
  past = g.past d.past;
  week = omega (arith, g.least, d.week);
  from_start = λ h. omega (arith, g.least, d.from_start h);
  from_rest = λ k h q. through k q (less_or_not k i) h;
}
  where
    through : (k : ℕ) → s ≤ at ends k + weekly_gap → (k < i) ⊎ (i ≤ k) → k < i + 1 → r ≤ at ends k + weekly_gap + 1
    through k q (inl p) h = omega (arith, g.least, d.from_rest k p q)
    through k q (inr p) h = let e : i ≡ k = omega arith in let z : at ends i ≡ at ends k = ap (at ends) e in omega (arith, g.gap (omega arith))

pub demands_done : {ends : List ℕ} {s next i : ℕ} → Demands ends s next i → i ≡ length ends → NextDemand ends s next
demands_done d e = record { past = d.past; week = d.week; from_start = d.from_start; from_rest = λ j h q. d.from_rest j (omega arith) q }

-- ---- the judged ends before `next` leave a reading, if `from` does
pub record Asking (starts ends nets : List ℕ) (from next : ℕ) : Type 0 where
  pub past : from < next
  pub before : HasKept (rests_only starts ends nets from) → (t : ℕ) → suc t ≡ next → HasKept (rests_only starts ends nets t)

module _ (starts nets : List ℕ) {ends : List ℕ} {from next : ℕ} where
  pub start_asking : NextDemand ends from next → Asking starts ends nets from next
  start_asking n = record { past = n.past; before = λ h t e. has_too starts nets (before_next n t (omega arith)) h }

module _ {starts ends nets : List ℕ} {from next : ℕ} (k : Asking starts ends nets from next) where
  pub ask_on : {r : ℕ} {a : Bool} → SaysWhether (rests_only starts ends nets next) a → a ≡ true → NextDemand ends next r → Asking starts ends nets from r
  ask_on s t n = record { past = omega (arith, k.past, n.past); before = λ h u e. has_too starts nets (before_next n u (omega arith)) (s.yes t) }

  pub found_none : {top : ℕ} {a : Bool} → next ≤ top → SaysWhether (rests_only starts ends nets next) a → a ≡ false → FirstWithout starts ends nets from top next
  found_none l s f = record { past = k.past; within = omega arith; before = k.before; there = λ h i. s.no f i.0 i.2 }

  pub all_asked : {top : ℕ} → from ≤ top → top < next → FirstWithout starts ends nets from top (top + 1)
  all_asked {top} f l = record {
    past = omega arith;
    within = omega arith;
    before = λ h t e. has_too starts nets (sooner (next - 1) t (omega arith)) (k.before h (next - 1) (omega arith));
    there = λ h. absurd (omega arith);
  }
