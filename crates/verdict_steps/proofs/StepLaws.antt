-- Laws of the steps of the search: when a reduction is due, weeks one by one, and what holds of all indices. Assumes nothing.
use mathlib.Core.Path.{◌≡◌, refl, sym, ap, subst}
use mathlib.Core.Logic.{⊎_elim}
use mathlib.Core.Bool.{Bool, true, false, false≢true}
use Prim.Native.Nat.{ℕ, zero, suc, ◌+◌, ◌-◌, ◌*◌, ◌/◌, ◌≤◌, ◌<◌, min, zero-le}
use native.Mathlib.Nat.{le_refl}
use native.Mathlib.Omega.{arith}
use lib.Dec.{leb, ltb}
use borrow.Author.Tests.{lt-leb, le-leb, ltb-true, ltb-false}
use Rattle.recording.specs.Tests.{pick}
use Rattle.recording.specs.Weeks.{week_of}
use Rattle.recording.proofs.TestLaws.{less_or_not}
use Rattle.rules.specs.Reading.{regular_minutes, standing_of, is_regular, reduction_of}
use Rattle.rules.specs.ReadingRules.{regular_at_least, weeks_to_compensate}
use Rattle.rules.specs.declared.Kind.TheVariants.{Weekly}
use Rattle.verdict_completion.specs.declared.State.{State}
use Rattle.std.specs.Prelude.{None, Some}
use Rattle.verdict_completion.specs.States.{pair_kept, next_week, advance}
use Rattle.verdict_completion.specs.Completable.{reduction_unit, deadline_of, outstanding_of}
use Rattle.verdict_completion.specs.Better.{Small}
use Rattle.rules_items.specs.Items.{standing_for}
use Rattle.verdict_steps.specs.Steps.{Says, outstanding_by}

pub no_more : (n : ℕ) → n ≤ regular_at_least → n ≡ min regular_at_least (n + 0)
no_more n l = omega arith

-- ---- when a reduction is due, by weeks
pub deadline_after : (reduction s : ℕ) → week_of s < reduction / reduction_unit → s < deadline_of reduction
deadline_after reduction s l = omega arith

pub deadline_by : (reduction s : ℕ) → reduction / reduction_unit ≤ week_of s → deadline_of reduction ≤ s
deadline_by reduction s l = omega arith

-- ---- what is said where a test fails
pub says_no : {P : Type 0} → (P → ⊥) → Says P false
says_no n = record { yes = λ h. absurd (false≢true h); no = λ _. n }

-- ---- weeks one by one
module _ (rest_week : ℕ → Bool) (st : State) (to : ℕ) where
  abbrev next : State
  next = next_week (rest_week (st.week + 1)) st

  step : (t : Bool) → pair_kept st ≡ t → st.week < to → advance rest_week (to - st.week) st ≡ pick t (advance rest_week (to - (st.week + 1)) next) None
  unfolding advance
  step t e l =
      let m : to - st.week ≡ suc (to - (st.week + 1)) = omega arith in
      subst (λ (n : ℕ). advance rest_week n st ≡ pick t (advance rest_week (to - (st.week + 1)) next) None) (sym m)
      (ap (λ (b : Bool). pick b (advance rest_week (to - (st.week + 1)) next) None) e)

  pub advance_on : st.week < to → pair_kept st ≡ true → advance rest_week (to - st.week) st ≡ advance rest_week (to - (st.week + 1)) next
  advance_on l e = step true e l

  pub advance_broken : st.week < to → pair_kept st ≡ false → advance rest_week (to - st.week) st ≡ None
  advance_broken l e = step false e l

  pub advance_done : to ≤ st.week → advance rest_week (to - st.week) st ≡ Some st
  unfolding advance
  advance_done l = let m : to - st.week ≡ zero = omega arith in subst (λ (n : ℕ). advance rest_week n st ≡ Some st) (sym m) refl

pub next_small : (st : State) (rest : Bool) → Small st → Small (next_week rest st)
next_small st true s = record {
  short = s.short;
  weekly_before = s.weekly;
  regular_before = s.regular;
  weekly = omega arith;
  regular = le_refl _;
}
next_small st false s = record {
  short = s.short;
  weekly_before = s.weekly;
  regular_before = s.regular;
  weekly = zero-le;
  regular = zero-le;
}

-- ---- of all indices
-- what holds at n and below it holds below n + 1
pub up_to : (P : ℕ → Type 0) (n x : ℕ) → x < n + 1 → P n → (x < n → P x) → P x
up_to P n x l here below = ⊎_elim below (λ k. subst P (let e : n ≡ x = omega arith in e) here) (less_or_not x n)

-- ---- the standing of a weekly rest
pub standing_regular : (minutes compensation : ℕ) → is_regular (Weekly (standing_for minutes compensation)) ≡ leb (regular_minutes + compensation) minutes
standing_regular minutes compensation = by (ltb minutes (regular_minutes + compensation)) refl
  where
    by : (b : Bool) → ltb minutes (regular_minutes + compensation) ≡ b
        → is_regular (Weekly (standing_of b (regular_minutes + compensation - minutes))) ≡ leb (regular_minutes + compensation) minutes
    by true e = sym (lt-leb (regular_minutes + compensation) minutes (ltb-true minutes (regular_minutes + compensation) e))
    by false e = sym (le-leb (regular_minutes + compensation) minutes (ltb-false minutes (regular_minutes + compensation) e))

pub standing_reduction : (minutes compensation w : ℕ) → outstanding_by (standing_for minutes compensation) w ≡ outstanding_of minutes compensation w
unfolding outstanding_of
standing_reduction minutes compensation w = by (ltb minutes (regular_minutes + compensation)) refl
  where
    outstanding : ℕ
    outstanding = (w + weeks_to_compensate) * reduction_unit + (regular_minutes + compensation - minutes)

    by : (b : Bool) → ltb minutes (regular_minutes + compensation) ≡ b
        → outstanding_by (standing_of b (regular_minutes + compensation - minutes)) w ≡ pick (leb (regular_minutes + compensation) minutes) 0 outstanding
    by true e = rw (lt-leb (regular_minutes + compensation) minutes (ltb-true minutes (regular_minutes + compensation) e)) refl
    by false e = rw (le-leb (regular_minutes + compensation) minutes (ltb-false minutes (regular_minutes + compensation) e)) refl

pub standing_low : (minutes compensation : ℕ) → reduction_of (Weekly (standing_for minutes compensation)) ≤ regular_minutes + compensation
standing_low minutes compensation = by (ltb minutes (regular_minutes + compensation))
  where
    by : (b : Bool) → reduction_of (Weekly (standing_of b (regular_minutes + compensation - minutes))) ≤ regular_minutes + compensation
    by true = omega arith
    by false = zero-le
