-- The walk from rest to rest comes to all long rests. Assumes nothing.
use mathlib.Core.Path.{◌≡◌, refl, sym, ap, ◌∙◌}
use mathlib.Core.Bool.{true, false}
use mathlib.Core.List.{List, [], ◌∷◌}
use Prim.Native.Nat.{ℕ, ◌+◌, ◌≤◌}
use native.Mathlib.Omega.{arith}
use lib.ListN.{length, length-append, length-replicate}
use Rattle.recording.specs.Tests.{pick, keep}
use Rattle.recording.specs.Words.{minutes_in, activity_in, minutes_of, code_of, IsRunOf}
use Rattle.recording.specs.Rests.{long_rests}
use Rattle.recording.specs.Operations.{total_at_most}
use Rattle.recording.specs.Scan.{ends_rest, after_run, rest_at, origin}
use Rattle.recording.specs.declared.Place.{Place}
use Rattle.recording.specs.declared.Run.{Run}
use Rattle.recording.specs.declared.Span.{Span}
use Rattle.recording.proofs.ByWord.{closed_by, rests_by}
use Rattle.recording.proofs.Scanning.{rests_on, rests_next, run_sensible}
use Rattle.recording_list.specs.Records.{rests_from}

pub rests_from_law : (p : Place) (ws : List ℕ) → rests_from p ws ≡ rests_on p ws
unfolding rests_from closed_by keep
rests_from_law p [] = refl
rests_from_law p (w ∷ ws) =
    let q = after_run p (activity_in w) (minutes_in w) in
    ap (λ (rs : List Span). pick (ends_rest p (activity_in w) (minutes_in w)) (rest_at p ∷ rs) rs) (rests_from_law q ws) ∙ sym (rests_next p w ws)

pub all_rests : (ws : List ℕ) → rests_from origin ws ≡ long_rests (minutes_of ws)
all_rests ws = rests_from_law origin ws ∙ sym (rests_by ws)

-- one word of the walk: where the run that it is leads, and what is left there
pub record Walks (p : Place) (ws : List ℕ) : Type 0 where
  pub from : p.from ≤ p.now
  pub count : p.count ≤ p.now
  pub room : p.now + length (minutes_of ws) ≤ total_at_most

module _ {p : Place} {w : ℕ} {vs ws : List ℕ} {run : Run} (k : Walks p vs) (e : vs ≡ w ∷ ws) (r : IsRunOf w run) where
  minutes_there : length (minutes_of vs) ≡ run.minutes + length (minutes_of ws)
  unfolding minutes_of
  minutes_there = rw (e, r.minutes, length-append, length-replicate)

  pub can_go : (p.from ≤ p.now) × (p.count ≤ p.now) × (p.now + run.minutes ≤ total_at_most)
  can_go = (k.from, k.count, omega (arith, k.room, minutes_there))

  module _ {q : Place} (t : q ≡ after_run p (code_of run.activity) run.minutes) where
    pub goes_on : Walks q ws
    goes_on = rw t (let s = run_sensible p (code_of run.activity) run.minutes k.from k.count in
        record { from = s.from; count = s.count; room = omega (arith, k.room, s.now, minutes_there) })

    pub rest_ends : ends_rest p (code_of run.activity) run.minutes ≡ true → rests_from p vs ≡ rest_at p ∷ rests_from q ws
    unfolding rests_from
    rest_ends b = rw (e, t, ← r.activity, ← r.minutes, b)

    pub no_rest_ends : ends_rest p (code_of run.activity) run.minutes ≡ false → rests_from p vs ≡ rests_from q ws
    unfolding rests_from
    no_rest_ends b = rw (e, t, ← r.activity, ← r.minutes, b)

pub none_left : (p : Place) (ws : List ℕ) → length ws ≡ 0 → rests_from p ws ≡ []
unfolding rests_from
none_left p [] e = refl
none_left p (w ∷ ws) e = absurd (omega (arith, e))
