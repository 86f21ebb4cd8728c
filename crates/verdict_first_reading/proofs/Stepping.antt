-- A rest more is read: wherever there is a first reading, its entry was written. Assumes nothing.
use mathlib.Core.Path.{◌≡◌, refl, sym, subst, ◌∙◌}
use mathlib.Core.List.{List, ◌∷◌}
use Prim.Native.Nat.{ℕ, zero, suc, ◌+◌, ◌-◌, ◌<◌}
use native.Mathlib.Omega.{arith}
use lib.ListN.{length, replicate, length-replicate}
use Rattle.std.specs.Prelude.{Option, None, Some}
use Rattle.recording.specs.Weeks.{week_of}
use Rattle.rules.specs.Reading.{Entry, daily_kind, weekly_kind}
use Rattle.rules.specs.ReadingRules.{least_net}
use Rattle.rules.specs.declared.Kind.TheVariants.{Weekly}
use Rattle.rules.specs.declared.Standing.TheVariants.{Regular}
use Rattle.rules_items.specs.Items.{Zeros}
use Rattle.verdict_completion.specs.declared.State.{State}
use Rattle.verdict_completion.specs.declared.course.LongRests.{LongRests}
use Rattle.verdict_completion.specs.States.{advance}
use Rattle.verdict_completion.specs.Completable.{Course, at, rest_week, length_at, Lies}
use Rattle.verdict_completion.specs.Courses.{course_with}
use Rattle.verdict_completion.specs.Better.{AtRest, best_state}
use Rattle.verdict_completion.proofs.Courses.{lies_with}
use Rattle.verdict_completion.proofs.Monotone.{arrives}
use Rattle.verdict_search.specs.Search.{Before}
use Rattle.verdict_search.proofs.Slots.{brought}
use Rattle.verdict_merging.specs.declared.Room.{Room}
use Rattle.verdict_merging.specs.Merging.{nothing, Ready}
use Rattle.verdict_choosing.specs.Choices.{compensation_at, carrying, CanBeRead, CanBeDaily, CanBeWeekly, FirstWeekly, Ahead, Limited, PutDaily, PutWeekly, Stepped}
use Rattle.verdict_choosing.proofs.Choosing.{daily, weekly, NextDaily, too_short_for_weekly, never_broken, goes_as_daily, goes_as_weekly, goes_nowhere}
use Rattle.verdict_choosing.proofs.Placing.{before_best, before_here}

zeros_all : (n : ℕ) → Zeros (replicate n 0)
zeros_all zero i = refl
zeros_all (suc n) zero = refl
zeros_all (suc n) (suc i) = zeros_all n i

module _ (rests : LongRests) (compensations : List ℕ) (limited : Limited (course_with rests compensations)) (j : ℕ) (st : State)
    (before : Before (course_with rests compensations) j st) (inside : j < length rests.starts.now) where
  abbrev c : Course
  c = course_with rests compensations

  lies : Lies c
  lies = lies_with rests compensations

  abbrev brought_on : Option State
  brought_on = advance (rest_week c) (week_of (at c.starts j) - st.week) st

  -- the state at the rest
  pub at_rest : {b : Option State} {here : State} → b ≡ brought_on → b ≡ Some here → AtRest c j here
  at_rest e g = arrives c lies inside before.stands (brought (rest_week c) (week_of (at c.starts j) - st.week) before.small e g)

  pub stepped_broken : {b : Option State} {r : State} (room : Room) (reading : List ℕ) → Ready c room → b ≡ brought_on → b ≡ None → r ≡ best_state (at c.starts j)
      → Stepped c c j st room reading reading r
  stepped_broken {b} {r} room reading ready e g q = record {
    limited = limited;
    ready = ready;
    before = before_best c lies j inside q;
    placed = λ past left a. absurd (never_broken c lies (omega (arith, rests.few)) rests.low limited.one_each j inside st past left a (sym e ∙ g));
  }

  module _ {b : Option State} {here : State} (e : b ≡ brought_on) (g : b ≡ Some here) (room : Room) (reading : List ℕ) where
    module _ (reading' : List ℕ) (r : State) where
      stepped_daily : Ready c room → PutDaily c j here reading reading' r → ((past : List Entry) (left : List ℕ) → Ahead c j st past left → NextDaily c j past here left)
          → Stepped c c j st room reading reading' r
      stepped_daily ready put next = record {
        limited = limited;
        ready = ready;
        before = put.before;
        placed = λ past left a.
            let n = next past left a in
            record {
              entry = daily c j past;
              kind = daily_kind;
              week = 0;
              carrier = 0;
              rest = n.rest;
              begins = n.begins;
              written = put.written;
              ahead = subst (λ (s : State). Ahead c (suc j) s (daily c j past ∷ past) n.rest) (sym (put.done n.few)) n.ahead;
            };
      }

      pub stepped_short : Ready c room → length_at c j < least_net (Weekly Regular) + compensation_at c j → PutDaily c j here reading reading' r
          → Stepped c c j st room reading reading' r
      stepped_short ready s put =
          stepped_daily ready put
          (λ past left a. too_short_for_weekly c lies (omega (arith, rests.few)) rests.low limited.one_each j inside st past left a here (sym e ∙ g) s)

      pub stepped_as_daily : Ready c room → (CanBeRead c j here (nothing c) → CanBeDaily c j here (nothing c)) → PutDaily c j here reading reading' r
          → Stepped c c j st room reading reading' r
      stepped_as_daily ready d put =
          stepped_daily ready put
          (λ past left a.
          goes_as_daily c lies (omega (arith, rests.few)) rests.low limited.one_each j inside st past left (nothing c) (length-replicate _ _) (zeros_all _) a here (sym e ∙ g) d)

      pub stepped_weekly : (p : List ℕ) (w x : ℕ) → Ready (course_with rests p) room → (CanBeDaily c j here (nothing c) → ⊥) → FirstWeekly c j here (nothing c) w x
          → PutWeekly c (course_with rests p) j here w x reading reading' r → Stepped c (course_with rests p) j st room reading reading' r
      stepped_weekly p w x ready nay f put = record {
        limited = put.limited;
        ready = ready;
        before = put.before;
        placed = λ past left a.
            let n = goes_as_weekly c lies (omega (arith, rests.few)) rests.low limited.one_each j inside st past left (nothing c) (length-replicate _ _) (zeros_all _) a here
            (sym e ∙ g) nay w x f in
            let d = put.done n.there n.counted in
            record {
              entry = weekly c j past w x;
              kind = weekly_kind;
              week = w;
              carrier = x;
              rest = n.rest;
              begins = n.begins;
              written = d.written;
              ahead =
                  subst (λ (l : List ℕ). Ahead (course_with rests l) (suc j) r (weekly c j past w x ∷ past) n.rest) (sym d.compensations)
                  (subst (λ (s : State). Ahead (carrying c j x) (suc j) s (weekly c j past w x ∷ past) n.rest) (sym d.state) n.ahead);
            };
      }

    -- it can be neither: there is no first reading
    pub stepped_nowhere : Ready c room → (CanBeDaily c j here (nothing c) → ⊥) → ((w x : ℕ) → CanBeWeekly c j here (nothing c) w x → ⊥)
        → Stepped c c j st room reading reading here
    stepped_nowhere ready nay none = record {
      limited = limited;
      ready = ready;
      before = before_here c lies j here (at_rest e g);
      placed = λ past left a.
          absurd (goes_nowhere c lies (omega (arith, rests.few)) rests.low limited.one_each j inside st past left (nothing c) (length-replicate _ _) (zeros_all _) a here
          (sym e ∙ g) nay none);
    }
