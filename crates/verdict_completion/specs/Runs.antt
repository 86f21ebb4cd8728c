-- Inner: rules 9 to 11 as a walk over the entries of a reading, from a state on.
-- Nobody has to believe it: proofs/ shows that the walk goes through exactly where the rules hold.
-- Assumes nothing.
use Rattle.std.specs.Prelude.{◌≡◌, Bool, true, List, [], ◌∷◌, ℕ, ◌+◌, ◌-◌, ◌≤◌, length}
use Rattle.recording.specs.Tests.{one}
use Rattle.recording.specs.Weeks.{week_of}
use Rattle.recording.specs.declared.Span.{Span}
use Rattle.rules.specs.Reading.{Entry, as_read, is_regular}
use Rattle.rules.specs.ReadingRules.{rule6, rule7, rule8, shortened_at_most, weekly_gap}
use Rattle.rules.specs.declared.Kind.{Kind}
use Rattle.rules.specs.declared.Kind.TheVariants.{Daily, Weekly}
use Rattle.verdict_completion.specs.declared.State.{State}
use Rattle.verdict_completion.specs.States.{advance, After, after_daily, after_weekly}

-- no rest is left: rule 10 up to S, rule 11 for the weeks that are over by S
abbrev pub Ends : (ℕ → Bool) → ℕ → State → Type 0
Ends rest_week s st = (s ≤ st.ended + weekly_gap) × After (advance rest_week (week_of s - st.week) st) (λ _. Unit {0})

-- by which daily rests count under rule 9
module _ (rest_week : ℕ → Bool) (counts : Entry → Bool) (s : ℕ) where
  -- a rest, in the week in which it starts, where the later ones go on by K
  abbrev pub Takes : (State → Type 0) → Entry → Kind → State → Type 0
  Takes K e Daily here = (here.short + one (counts e) ≤ shortened_at_most) × K (after_daily (counts e) here)
  Takes K e (Weekly t) here =
      After (advance rest_week (e.week - here.week) here)
      (λ there. K (after_weekly (rest_week e.week) (is_regular (Weekly t)) e.span.end there))

  unfoldable pub Runs : State → List Entry → Type 0
  Runs st [] = Ends rest_week s st
  Runs st (e ∷ es) =
      (e.span.start ≤ st.ended + weekly_gap) ×
      After (advance rest_week (week_of e.span.start - st.week) st) (Takes (λ next. Runs next es) e (as_read e))

-- rules 6 to 11, from a state on, where the long rests are rs and S is s
pub record Kept (rest_week : ℕ → Bool) (counts : Entry → Bool) (s : ℕ) (rs : List Span) (st : State) (es : List Entry) : Type 0 where
  pub six : rule6 (length rs) es ≡ true
  pub seven : rule7 es ≡ true
  pub eight : rule8 s rs es ≡ true
  pub runs : Runs rest_week counts s st es
