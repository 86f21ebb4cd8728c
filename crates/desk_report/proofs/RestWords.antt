-- A recording has no more long rests than half its words: each has a word of rest, and after it one of another activity. Assumes nothing.
use mathlib.Core.Path.{◌≡◌, refl}
use mathlib.Core.Bool.{Bool, true, false}
use mathlib.Core.List.{List, [], ◌∷◌}
use Prim.Native.Nat.{ℕ, zero, suc, ◌+◌, ◌-◌, ◌*◌, ◌≤◌, ◌<◌}
use native.Mathlib.Omega.{arith}
use lib.Dec.{leb}
use lib.ListN.{length}
use borrow.Author.Tests.{leb-true}
use Rattle.recording.specs.Tests.{one}
use Rattle.recording.specs.Words.{minutes_in, activity_in, minutes_of}
use Rattle.recording.specs.Rests.{long_rest_minutes, long_rests}
use Rattle.recording.specs.Scan.{after_run, origin, place_of}
use Rattle.recording.specs.declared.Place.{Place}
use Rattle.recording.proofs.Scanning.{none_run, rest_run, busy_run, scan_count}
use Rattle.desk_report.specs.Composing.{rest_words}

-- after n words: those of the rests so far, and one more in a rest
record Paid (p : Place) (n : ℕ) : Type 0 where
  ended : rest_words * p.count ≤ n
  resting : p.from < p.now → suc (rest_words * p.count) ≤ n

run_paid : (p : Place) (a m n : ℕ) → Paid p n → Paid (after_run p a m) (suc n)
run_paid p a zero n k = rw (none_run p a) (record { ended = omega (arith, k.ended); resting = λ h. omega (arith, k.resting h) })
run_paid p zero (suc m) n k = rw (rest_run p m) (record { ended = omega (arith, k.ended); resting = λ h. omega (arith, k.ended) })
run_paid p (suc a) (suc m) n k = rw (busy_run p a m) (record { ended = by (leb long_rest_minutes (p.now - p.from)) refl; resting = λ h. absurd (omega (arith, h)) })
  where
    by : (b : Bool) → leb long_rest_minutes (p.now - p.from) ≡ b → rest_words * (p.count + one b) ≤ suc n
    by true e = omega (arith, k.resting (omega (arith, leb-true long_rest_minutes (p.now - p.from) e)))
    by false e = omega (arith, k.ended)

place_paid : (p : Place) (ws : List ℕ) (n : ℕ) → Paid p n → rest_words * (place_of p ws).count ≤ n + length ws
unfolding place_of
place_paid p [] n k = omega (arith, k.ended)
place_paid p (w ∷ ws) n k =
    omega (arith, place_paid (after_run p (activity_in w) (minutes_in w)) ws (suc n) (run_paid p (activity_in w) (minutes_in w) n k))

pub rests_paid : (ws : List ℕ) → rest_words * length (long_rests (minutes_of ws)) ≤ length ws
rests_paid ws = omega (arith, scan_count ws, place_paid origin ws 0 (record { ended = omega arith; resting = λ h. absurd (omega (arith, h)) }))
