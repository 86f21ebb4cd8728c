-- Laws of the nogoods: what is remembered stays sound, and an emptied memory is. Assumes nothing.
use mathlib.Core.Path.{◌≡◌, refl, sym, ap, subst, ◌∙◌}
use mathlib.Core.Logic.{◌⊎◌, inl, inr}
use mathlib.Core.List.{List}
use Prim.Native.Nat.{ℕ, suc, ◌+◌, ◌-◌, ◌≤◌, ◌<◌}
use native.Mathlib.Omega.{arith}
use lib.ListN.{length, drop, length-drop}
use Rattle.std.proofs.Common.{min}
use Rattle.std.proofs.lemmas.List.{length-take}
use Rattle.recording.specs.Weeks.{week_of}
use Rattle.recording.proofs.TestLaws.{less_or_not}
use Rattle.verdict_completion.specs.declared.State.{State}
use Rattle.verdict_completion.specs.Completable.{Course, at, count, Tries, Lies}
use Rattle.verdict_completion.specs.Better.{Within, Matched, Better}
use Rattle.verdict_completion.proofs.Monotone.{Mono, MonoBy, matched_last, completable_by, completable_mono, tries_by}
use Rattle.verdict_nogoods.specs.Table.{reductions_at_most, level_at, entry_at, reductions_of, reduction_place, state_in, reductions_at, outstanding_count}
use Rattle.verdict_nogoods.specs.Table.{InUse, Dominates, Holds, SameEntry, Entry, old, new, Remembered, Empty}
use Rattle.verdict_nogoods.proofs.TableLaws.{slot_low, outstanding_count-more, reductions_each, reductions_low, reductions_in_use}
use Rattle.verdict_search.specs.Search.{Later, Sound}

-- ---- a state that is remembered
-- what an entry says depends on its words alone
state_same : (t t' : List ℕ) (p w : ℕ) → SameEntry t t' p → state_in t' p w ≡ state_in t p w
state_same t t' p w s = rw (
  s p (omega arith) (omega arith),
  s (p + 1) (omega arith) (omega arith),
  s (p + 2) (omega arith) (omega arith),
  s (p + 3) (omega arith) (omega arith),
  s (p + 4) (omega arith) (omega arith),
  s (p + 5) (omega arith) (omega arith),
) refl

dominates_back : (t t' : List ℕ) (p : ℕ) (st : State) (o : List ℕ) → SameEntry t t' p → length t' ≡ length t → Dominates t' p st o → Dominates t p st o
dominates_back t t' p st o s size h =
    let n = s (p + 6) (omega arith) (omega arith) in
    let long : length (reductions_at t' p) ≡ length (reductions_at t p) =
    omega (
      arith,
      n,
      length-take (min (reductions_of t p) reductions_at_most) (drop (p + 7) t),
      length-take (min (reductions_of t' p) reductions_at_most) (drop (p + 7) t'),
      length-drop {A = ℕ} (p + 7) t,
      length-drop {A = ℕ} (p + 7) t',
    ) in
    record {
      few = omega (arith, h.few, n);
      better = subst (λ (x : State). Better x st) (state_same t t' p st.week s) h.better;
      reductions = record {
        to = h.reductions.to;
        within = λ d l. subst (λ (x : ℕ). Within x (at o (h.reductions.to d))) (each d (omega (arith, reductions_low t p)) n) (h.reductions.within d (omega (arith, long)));
        rises = λ d e l m. h.reductions.rises d e l (omega (arith, long));
      };
    }
  where
    each : (d : ℕ) → d < min (reductions_of t p) reductions_at_most → reductions_of t' p ≡ reductions_of t p → at (reductions_at t' p) d ≡ at (reductions_at t p) d
    each d l n = reductions_each t' p d (omega (arith, n)) ∙ s (reduction_place p d) (omega arith) (omega arith) ∙ sym (reductions_each t p d l)

held_better : (t : List ℕ) (p : ℕ) (x y : State) (o q : List ℕ) → x.week ≡ y.week → Holds t p x o → Dominates t p y q → Better x y
held_better t p x y o q w h k = record {
  week = w;
  ended = omega (arith, h.ended, k.better.ended);
  short = omega (arith, h.short, k.better.short);
  weekly_before = omega (arith, h.weekly_before, k.better.weekly_before);
  regular_before = omega (arith, h.regular_before, k.better.regular_before);
  weekly = omega (arith, h.weekly, k.better.weekly);
  regular = omega (arith, h.regular, k.better.regular);
}

-- the reductions of a stored state lie within those of one that it is at least as good as
held_matched : (k j : ℕ) (t : List ℕ) (p : ℕ) (x y : State) (o q : List ℕ) → length q ≡ k → ((i : ℕ) → j ≤ i → at o i ≡ 0) → ((i : ℕ) → j ≤ i → at q i ≡ 0)
    → Holds t p x o → Dominates t p y q → Matched k j o q
held_matched k j t p x y o q long ends ends' h b = record {
  long = long;
  to = to;
  below = λ i l. before o ends i l;
  to_below = λ i l. before q ends' (to i) (within i l).is_outstanding;
  within = within;
  apart = λ i m l l' e. same i m l l' e (less_or_not i m) (less_or_not m i);
}
  where
    in_use : (i : ℕ) → 0 < at o i → outstanding_count o i < length (reductions_at t p)
    in_use i l = reductions_in_use t p (outstanding_count o i) (omega (arith, h.count, h.few, outstanding_count-more o i (length o) (slot_low o i l) l)) (omega (arith, l, h.reduction i l))

    to : ℕ → ℕ
    to i = b.reductions.to (outstanding_count o i)

    before : (l : List ℕ) → ((i : ℕ) → j ≤ i → at l i ≡ 0) → (i : ℕ) → 0 < at l i → i < j
    before l z i is_outstanding = go (less_or_not i j)
      where
        go : (i < j) ⊎ (j ≤ i) → i < j
        go (inl f) = f
        go (inr f) = absurd (omega (arith, is_outstanding, z i f))

    within : (i : ℕ) → 0 < at o i → Within (at o i) (at q (to i))
    within i l = subst (λ (v : ℕ). Within v (at q (to i)))
        (reductions_each t p (outstanding_count o i) (omega (arith, in_use i l, reductions_low t p)) ∙ h.reduction i l) (b.reductions.within (outstanding_count o i) (in_use i l))

    rising : (i m : ℕ) → i < m → 0 < at o i → 0 < at o m → to i < to m
    rising i m f l l' = b.reductions.rises (outstanding_count o i) (outstanding_count o m) (outstanding_count-more o i m f l) (in_use m l')

    same : (i m : ℕ) → 0 < at o i → 0 < at o m → to i ≡ to m → (i < m) ⊎ (m ≤ i) → (m < i) ⊎ (i ≤ m) → i ≡ m
    same i m l l' e (inl f) g = absurd (omega (arith, rising i m f l l', e))
    same i m l l' e (inr f) (inl g) = absurd (omega (arith, rising m i g l' l, e))
    same i m l l' e (inr f) (inr g) = omega arith

module _ (c : Course) (lies : Lies c) where
  pub later_mono : (j : ℕ) → j < count c → Mono c (Later c j)
  later_mono j l x y o p = completable_mono c lies (count c - (j + 1)) (j + 1) x y o p (omega arith)

  pub later_matched : (j : ℕ) → j < count c → MonoBy c (matched_last c) (suc j) (Later c j)
  later_matched j l x y o p b d =
      let e : suc j ≡ j + 1 = omega arith in
      completable_by c (matched_last c) lies (count c - (j + 1)) (j + 1) x y o p (omega arith) b (subst (λ (i : ℕ). Matched (count c) i o p) e d)

  module _ (t t' : List ℕ) (j : ℕ) (here : State) (o : List ℕ) (within : j < count c) (week : here.week ≡ week_of (at c.starts j)) (long : length o ≡ count c)
      (unused : (x : ℕ) → j ≤ x → at o x ≡ 0) (sound : Sound c t) (kept : Remembered t t' j here o) (nay : Tries c (Later c j) j here o → ⊥) where
    few_on : (i e : ℕ) → i < count c → Entry t t' j here o i e → reductions_of t' (entry_at i e) ≤ reductions_at_most
    few_on i e l (old u s) = omega (arith, sound.few i e l u, s (entry_at i e + 6) (omega arith) (omega arith))
    few_on i e l (new q h) = h.few

    closed_on : (i e : ℕ) (st : State) (p : List ℕ) → i < count c → st.week ≡ week_of (at c.starts i) → length p ≡ count c → ((x : ℕ) → i ≤ x → at p x ≡ 0) → Entry t t' j here o i e
        → Dominates t' (entry_at i e) st p → Tries c (Later c i) i st p → ⊥
    closed_on i e st p l w len z (old u s) b h =
        sound.closed i st p l w len z (record { entry = e; used = u; dominates = dominates_back t t' (entry_at i e) st p s kept.size b }) h
    closed_on i e st p l w len z (new q k) b h =
        nay (tries_by c (matched_last c) (Later c j) j within (later_matched j within)
        (held_better t' (entry_at i e) here st o p (week ∙ ap (λ (x : ℕ). week_of (at c.starts x)) (sym q) ∙ sym w) k b) o p
        (held_matched (count c) j t' (entry_at i e) here st o p len unused (λ x f. z x (omega (arith, q))) k b)
        (subst (λ (x : ℕ). Tries c (Later c x) x st p) q h))

    -- a state that cannot be completed is remembered
    pub sound_on : Sound c t'
    sound_on = record {
      few = λ i e l u. few_on i e l (kept.entries i e u);
      closed = λ i st p l w len z k h. closed_on i k.entry st p l w len z (kept.entries i k.entry k.used) k.dominates h;
    }

  none_used : {t : List ℕ} (i e : ℕ) → at t (level_at i) ≡ 0 → InUse t i e → ⊥
  none_used i e z u = omega (arith, u.stored)

  pub empty_sound : {t : List ℕ} → Empty t (count c) → Sound c t
  empty_sound z = record {
    few = λ j e l u. absurd (none_used j e (z j l) u);
    closed = λ j here o l w len _ k h. none_used j k.entry (z j l) k.used;
  }
