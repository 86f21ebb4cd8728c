-- What listing answers, by weighing's answer. Assumes nothing.
use mathlib.Core.Path.{◌≡◌, ap}
use Prim.Native.Nat.{ℕ, ◌≤◌, ◌<◌}
use mathlib.Core.List.{List}
use lib.ListN.{length}
use borrow.Author.Tests.{lt-ltb, le-ltb}
use Rattle.recording.specs.Answers.{refused, answered}
use Rattle.recording.specs.Words.{minutes_of}
use Rattle.recording.specs.Rests.{long_rests}
use Rattle.recording.specs.Operations.{measured, listed}
use Rattle.recording.specs.declared.Measure.{Measure}
use Rattle.recording.proofs.Listing.{measured_is}

module _ (ws : List ℕ) (room : ℕ) where
  pub listed_refused : {n : ℕ} → measured ws ≡ refused n → listed ws room ≡ refused n
  unfolding listed
  listed_refused q = rw q

  module _ {m : Measure} (q : measured ws ≡ answered m) where
    pub listed_short : room < m.count → listed ws room ≡ refused 3
    unfolding listed
    listed_short h = rw (q, lt-ltb room m.count h)

    pub listed_there : m.count ≤ room → listed ws room ≡ answered (long_rests (minutes_of ws))
    unfolding listed
    listed_there h = rw (q, le-ltb room m.count h)

    pub count_is : m.count ≡ length (long_rests (minutes_of ws))
    count_is = ap (λ (x : Measure). x.count) (measured_is ws q).is
