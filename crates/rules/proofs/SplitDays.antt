-- Which rests matter to a day: none before it, none after it. Assumes nothing.
use mathlib.Core.Path.{◌≡◌, refl, ap, ◌∙◌}
use mathlib.Core.Bool.{Bool, false}
use mathlib.Core.List.{List, ◌++◌}
use Prim.Native.Nat.{ℕ, ◌≤◌, ◌<◌}
use native.Mathlib.Omega.{arith}
use borrow.Author.Tests.{lt-leb}
use Rattle.recording.specs.Tests.{◌and◌, ◌or◌, any_of}
use Rattle.recording.specs.Rests.{judged_end, closed_rests}
use Rattle.recording.specs.Weeks.{inside}
use Rattle.recording.specs.declared.Span.{Span}
use Rattle.recording.proofs.TestLaws.{and-false, or-false, any_append}
use Rattle.recording.proofs.Walks.{closed_rests_append}
use Rattle.recording.proofs.ClosedRests.{Apart, none, next, past_apart}
use Rattle.rules.specs.ReadingRules.{is_first_period, split_day}

-- a rest that begins before the day, or ends after it, is not in it
pub before_day : (r day : Span) → r.start < day.start → inside r day and is_first_period r ≡ false
unfolding inside ◌and◌
before_day r day h = rw (lt-leb day.start r.start h) refl

pub after_day : (r day : Span) → day.end < r.end → inside r day and is_first_period r ≡ false
unfolding inside ◌and◌
after_day r day h = rw (lt-leb r.end day.end h, and-false) refl

pub split_append : (xs ys : List Span) (day : Span) → split_day (xs ++ ys) day ≡ split_day xs day or split_day ys day
unfolding split_day
split_append xs ys day = any_append (λ r. inside r day and is_first_period r) xs ys

pub none_after : (day : Span) {from : ℕ} {rs : List Span} → day.end ≤ from → Apart from rs → split_day rs day ≡ false
unfolding split_day any_of ◌or◌
none_after day h none = refl
none_after day h (next {r = r} l m o) = rw (after_day r day (omega arith)) (none_after day (omega arith) o)

-- a stretch has all the rests of its days
pub split_stretch : (xs ys : List ℕ) (day : Span) → day.end ≤ judged_end xs → split_day (closed_rests (xs ++ ys)) day ≡ split_day (closed_rests xs) day
split_stretch xs ys day h =
    ap (λ (rs : List Span). split_day rs day) (closed_rests_append xs ys)
    ∙ split_append (closed_rests xs) _ day
    ∙ ap (λ (b : Bool). split_day (closed_rests xs) day or b) (none_after day h (past_apart xs ys))
    ∙ or-false (split_day (closed_rests xs) day)
