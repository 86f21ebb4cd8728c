-- What is outstanding in the slots in use is what is outstanding. Assumes nothing.
use mathlib.Core.Path.{◌≡◌, sym, ap, subst, ◌∙◌}
use mathlib.Core.Logic.{◌⊎◌, inl, inr}
use mathlib.Core.List.{List}
use Prim.Native.Nat.{ℕ, ◌+◌, ◌-◌, ◌≤◌, ◌<◌}
use native.Mathlib.Omega.{arith}
use lib.ListN.{length, take, drop}
use Rattle.std.specs.Prelude.{None, Some, slice_range}
use Rattle.std.proofs.lemmas.List.{get_or-take, get_or-drop, get_or_past, length-take, length-take-le, length-drop}
use Rattle.recording.proofs.TestLaws.{less_or_not}
use Rattle.verdict_completion.specs.Completable.{at, deadline_of, Overdue}
use Rattle.verdict_steps.specs.Steps.{Fits, FirstFit}
use Rattle.verdict_search.specs.Search.{InUse, FirstFrom}
use Rattle.verdict_search.proofs.Leading.{Equal}

pub part_length : (o : List ℕ) (i n : ℕ) → n ≤ length o → length (slice_range o i n) ≡ n - i
part_length o i n l = length-take-le (n - i) (drop i o) (omega (arith, l, length-drop i o))

pub part_at : (o : List ℕ) (i n x : ℕ) → i ≤ x → x < n → at (slice_range o i n) (x - i) ≡ at o x
part_at o i n x a b = let e : i + (x - i) ≡ x = omega arith in get_or-take (n - i) (drop i o) (x - i) 0 (omega arith) ∙ get_or-drop i o (x - i) 0 ∙ ap (at o) e

module _ (o : List ℕ) (n : ℕ) (unused : (x : ℕ) → n ≤ x → at o x ≡ 0) where
  used_at : (x : ℕ) → at (take n o) x ≡ at o x
  used_at x = go (less_or_not x n)
    where
      go : (x < n) ⊎ (n ≤ x) → at (take n o) x ≡ at o x
      go (inl l) = get_or-take n o x 0 l
      go (inr l) = get_or_past (take n o) x 0 (omega (arith, l, length-take n o)) ∙ sym (unused x l)

  pub overdue_used : (t : ℕ) → Equal (Overdue (take n o) t) (Overdue o t)
  unfolding Overdue
  overdue_used t = record {
    to = λ h. (h.0, subst (λ (r : ℕ). 0 < r) (used_at h.0) h.1, subst (λ (r : ℕ). deadline_of r < t) (used_at h.0) h.2);
    from = λ h. (h.0, subst (λ (r : ℕ). 0 < r) (sym (used_at h.0)) h.1, subst (λ (r : ℕ). deadline_of r < t) (sym (used_at h.0)) h.2);
  }

-- the first of the slots from i on that fits is the first of the list from i on that does
module _ {o : List ℕ} {i n compensation minutes : ℕ} (from : i ≤ n) (used : InUse n o) where
  pub first_none : FirstFit (slice_range o i n) compensation minutes None → FirstFrom o i n compensation minutes None
  first_none w x l f = go (less_or_not x n)
    where
      go : (x < n) ⊎ (n ≤ x) → ⊥
      go (inl h) = w (x - i) (subst (λ (r : ℕ). Fits r compensation minutes) (sym (part_at o i n x l h)) f)
      go (inr h) = omega (arith, f.is_outstanding, used.unused x h)

  pub first_some : {d : ℕ} → FirstFit (slice_range o i n) compensation minutes (Some d) → FirstFrom o i n compensation minutes (Some (i + d))
  first_some {d} w =
      let l : i + d < n = omega (arith, w.0, part_length o i n used.in_range) in
      let e : i + d - i ≡ d = omega arith in
      let here = subst (λ (r : ℕ). Fits r compensation minutes) (sym (ap (λ (x : ℕ). at (slice_range o i n) x) e) ∙ part_at o i n (i + d) (omega arith) l) w.1 in
      (omega arith, l, here, λ x a b f. w.2 (x - i) (omega arith) (subst (λ (r : ℕ). Fits r compensation minutes) (sym (part_at o i n x a (omega (arith, b, l)))) f))
