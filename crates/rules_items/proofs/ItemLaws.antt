-- Small laws of items. Assumes nothing.
use mathlib.Core.Path.{◌≡◌, refl, sym, ap, ◌∙◌}
use mathlib.Core.Bool.{Bool, true, false}
use mathlib.Core.List.{List}
use Prim.Native.Nat.{ℕ, zero, suc, ◌+◌, ◌-◌, ◌≤◌, ◌<◌}
use native.Mathlib.Omega.{arith}
use lib.Dec.{leb, ltb}
use lib.ListN.{get_or, set}
use borrow.Author.Tests.{le-leb, lt-ltb, ltb-false, ne_eqb}
use Rattle.recording.specs.Tests.{◌and◌, ◌or◌, pick}
use Rattle.recording.specs.Weeks.{week_start, touches}
use Rattle.rules.specs.Reading.{weekly_kind, regular_minutes, standing_of, as_read, reduction_of}
use Rattle.rules.specs.declared.Kind.{Kind}
use Rattle.rules.specs.declared.Kind.TheVariants.{Weekly}
use Rattle.rules.specs.ReadingRules.{weekly_length, formed_daily, formed_weekly, formed}
use Rattle.rules_items.specs.Items.{entry_by, end_before, end_at, standing_for, rest_by, added_to}
use Rattle.rules_items.specs.declared.LongRest.{LongRest}
use Rattle.rules_items.specs.declared.Item.{Item}

pub end_before_suc : (ends : List ℕ) (i : ℕ) → (i ≡ 0 → ⊥) → get_or ends (i - 1) 0 ≡ end_before ends i
end_before_suc ends zero h = absurd (h refl)
end_before_suc ends (suc i) h = let e : suc i - 1 ≡ i = omega arith in ap (λ (n : ℕ). get_or ends n 0) e

pub end_at_suc : (ends : List ℕ) (k n : ℕ) → (n ≡ 0 → ⊥) → end_at ends k n ≡ pick (ltb (n - 1) k) (get_or ends (n - 1) 0) 0
end_at_suc ends k zero h = absurd (h refl)
end_at_suc ends k (suc i) h = let e : i ≡ suc i - 1 = omega arith in ap (λ (n : ℕ). pick (ltb n k) (get_or ends n 0) 0) e

-- the reduction of a weekly rest is what it lacks
pub standing_reduction : (minutes compensation : ℕ) → reduction_of (Weekly (standing_for minutes compensation)) ≡ regular_minutes + compensation - minutes
standing_reduction minutes compensation = by (ltb minutes (regular_minutes + compensation)) refl
  where
    by : (b : Bool) → ltb minutes (regular_minutes + compensation) ≡ b → reduction_of (Weekly (standing_of b (regular_minutes + compensation - minutes))) ≡ regular_minutes + compensation - minutes
    by true e = refl
    by false e = let h : regular_minutes + compensation ≤ minutes = ltb-false minutes (regular_minutes + compensation) e in omega arith

-- a weekly entry whose carrier is not 0: all but that there is such a rest
pub formed_carried : (k : ℕ) (x : Item) → x.kind ≡ weekly_kind → weekly_length ≤ x.end - x.start → x.start < week_start (x.week + 1) → week_start x.week < x.end
    → (x.carrier ≡ 0 → ⊥) → x.number < x.carrier → leb x.carrier k ≡ formed k (entry_by x)
unfolding formed formed_daily formed_weekly touches ◌and◌ ◌or◌
formed_carried k x e l s t z n =
    rw (
      e,
      le-leb weekly_length (x.end - x.start) l,
      lt-ltb x.start (week_start (x.week + 1)) s,
      lt-ltb (week_start x.week) x.end t,
      ne_eqb x.carrier 0 z,
      lt-ltb x.number
          x.carrier n,
    )
    refl

-- the kind of an item's rest
pub kind_is : (x : Item) {r : LongRest} {m : Kind} → r ≡ rest_by x → r.kind ≡ m → as_read (entry_by x) ≡ m
kind_is x e q = sym (ap (λ (r : LongRest). r.kind) e) ∙ q

pub added_to-suc : (compensations : List ℕ) (c d : ℕ) → (c ≡ 0 → ⊥) → added_to compensations c d ≡ set compensations (c - 1) (get_or compensations (c - 1) 0 + d)
added_to-suc compensations zero d h = absurd (h refl)
added_to-suc compensations (suc c) d h = let e : c ≡ suc c - 1 = omega arith in ap (λ (n : ℕ). set compensations n (get_or compensations n 0 + d)) e
