-- The long rests that a survey leaves in three slices. Assumes nothing.
use mathlib.Core.Path.{◌≡◌, sym, ap, ◌∙◌}
use mathlib.Core.List.{List, map}
use Prim.Native.Nat.{ℕ, ◌≤◌}
use native.Mathlib.Omega.{arith}
use lib.ListN.{length, take, replicate, length-map, length-take, length-replicate}
use Rattle.recording.specs.Words.{minutes_of}
use Rattle.recording.specs.Rests.{long_rests}
use Rattle.recording.specs.Operations.{total_at_most}
use Rattle.recording.specs.Scan.{origin, written_from}
use Rattle.recording.specs.declared.Place.{Place}
use Rattle.recording.specs.declared.Span.{Span}
use Rattle.recording.proofs.LongRests.{few_rests}
use Rattle.recording.proofs.Scanning.{scan_end, scan_count, scan_written}
use Rattle.std.proofs.Common.{Option}
use Rattle.rules.specs.Fixed.{smallest_rule}
use Rattle.rules.specs.Numbers.{rule_or_none}
use Rattle.rules.specs.declared.Rule.{Rule}
use Rattle.rules_fixed.specs.Walk.{Surveyed}
use Rattle.rules_limits.specs.declared.Account.{Account}
use Rattle.rules_fixed.specs.declared.Survey.{Survey}
use Rattle.rules_limits.proofs.AccountRight.{rule_right}
use Rattle.rules_fixed.proofs.NetLaws.{front, nets_found}
use Rattle.verdict_breach.specs.Verdicts.{Roomy, InFront}

module _ {ws starts ends nets starts' ends' nets' : List ℕ} {r : Survey} (v : Surveyed ws starts ends nets r starts' ends' nets')
    (within : length (minutes_of ws) ≤ total_at_most) where
  count_is : r.place.count ≡ length (long_rests (minutes_of ws))
  count_is = ap (λ (p : Place). p.count) v.place ∙ scan_count ws

  written : (f : Span → ℕ) (out out' : List ℕ) → length (long_rests (minutes_of ws)) ≤ length out → out' ≡ written_from f origin ws out
      → take r.place.count out' ≡ map f (long_rests (minutes_of ws))
  written f out out' h e =
      let size : length (map f (long_rests (minutes_of ws))) ≡ length (long_rests (minutes_of ws)) = length-map (long_rests (minutes_of ws)) f in
      ap (λ (n : ℕ). take n out') (count_is ∙ sym size) ∙ ap (take (length (map f (long_rests (minutes_of ws))))) (e ∙ scan_written f ws out)
      ∙ front (map f (long_rests (minutes_of ws))) out (omega arith)

  pub in_front : {k : ℕ} {rule : Option Rule} → k ≡ r.place.count → rule_or_none rule ≡ smallest_rule r.account.broken → Roomy ws starts ends nets
      → InFront ws (record { count = k; judged = r.place.from; rule = rule; first = r.account.first }) starts' ends' nets'
  in_front q p room = record {
    count = q ∙ count_is;
    few = omega (arith, count_is, few_rests (minutes_of ws) within);
    whole = record {
      rests = record {
        begun = ap (λ (n : ℕ). take n starts') q ∙ written (λ s. s.start) starts starts' room.begun v.begun;
        ended = ap (λ (n : ℕ). take n ends') q ∙ written (λ s. s.end) ends ends' room.ended v.ended;
        numbered = ap (λ (n : ℕ). take n nets') (q ∙ count_is) ∙ nets_found v room.numbered;
      };
      judged = ap (λ (p : Place). p.from) v.place ∙ scan_end ws;
      fixed = rule_right (minutes_of ws) v.account p;
      first = ap (λ (t : Account). t.first) v.account;
    };
  }

-- arrays with room for the long rests
pub roomy : (ws : List ℕ) (room : ℕ) → length (long_rests (minutes_of ws)) ≤ room → Roomy ws (replicate room 0) (replicate room 0) (replicate room 0)
roomy ws room h = record { begun = rw length-replicate h; ended = rw length-replicate h; numbered = rw length-replicate h }

-- so many lie in front of a list
pub fits_in : {n : ℕ} (xs : List ℕ) → n ≡ length (take n xs) → n ≤ length xs
fits_in {n} xs e = omega (arith, e, length-take n xs)
