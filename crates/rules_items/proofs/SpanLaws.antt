-- Laws of spans that stand in slices, and of arrays of zeros. Assumes nothing.
use mathlib.Core.Path.{◌≡◌, refl, ap, ap₂, ◌∙◌}
use mathlib.Core.Logic.{◌⊎◌, inl, inr}
use mathlib.Core.List.{List, [], ◌∷◌, map}
use Prim.Native.Nat.{ℕ, zero, suc, ◌+◌, ◌≤◌, ◌<◌}
use native.Mathlib.Omega.{arith}
use lib.ListN.{length, get_or, replicate, length-replicate, get_or-replicate, get_or-eq_default}
use Rattle.recording.specs.declared.Span.{Span}
use Rattle.recording.proofs.TestLaws.{less_or_not}
use Rattle.rules.specs.Broken.{if_none}
use Rattle.rules_items.specs.Items.{spans_from, Zeros}

pub spans_length : (starts ends : List ℕ) (i n : ℕ) → length (spans_from starts ends i n) ≡ n
unfolding spans_from
spans_length starts ends i zero = refl
spans_length starts ends i (suc n) = ap suc (spans_length starts ends (suc i) n)

-- ---- arrays of zeros
pub zeros_at : (n : ℕ) → Zeros (replicate n 0)
zeros_at n i = at (less_or_not i n)
  where
    at : (i < n) ⊎ (n ≤ i) → ◌≡◌ {A = ℕ} (get_or (replicate n 0) i 0) 0
    at (inl h) = get_or-replicate n i 0 0 h
    at (inr h) = get_or-eq_default (replicate n 0) 0 {n = i} (rw length-replicate h)

pub map_at : (f : Span → ℕ) (rs : List Span) (i : ℕ) (d : Span) → i < length rs → get_or (map f rs) i 0 ≡ f (get_or rs i d)
map_at f [] i d h = absurd (omega arith)
map_at f (r ∷ rs) zero d h = refl
map_at f (r ∷ rs) (suc i) d h = map_at f rs i d (omega arith)

abbrev pub nowhere : Span
nowhere = record { start = 0; end = 0 }

pub spans_are : (starts ends : List ℕ) (rs : List Span) (i : ℕ)
    → ((j : ℕ) → j < length rs → get_or starts (i + j) 0 ≡ (get_or rs j nowhere).start) → ((j : ℕ) → j < length rs → get_or ends (i + j) 0 ≡ (get_or rs j nowhere).end)
    → spans_from starts ends i (length rs) ≡ rs
unfolding spans_from
spans_are starts ends [] i f g = refl
spans_are starts ends (r ∷ rs) i f g =
    let z : i ≡ i + 0 = omega arith in
    let a : get_or starts i 0 ≡ r.start = ap (λ (n : ℕ). get_or starts n 0) z ∙ f 0 (omega arith) in
    let b : get_or ends i 0 ≡ r.end = ap (λ (n : ℕ). get_or ends n 0) z ∙ g 0 (omega arith) in
    ap₂ ◌∷◌ (λ t. record { start = a t; end = b t })
    (spans_are starts ends rs (suc i)
    (λ j h. let e : suc i + j ≡ i + suc j = omega arith in ap (λ (n : ℕ). get_or starts n 0) e ∙ f (suc j) (omega arith))
    (λ j h. let e : suc i + j ≡ i + suc j = omega arith in ap (λ (n : ℕ). get_or ends n 0) e ∙ g (suc j) (omega arith)))

-- ---- a broken rule before others
pub if_zero : (n x : ℕ) → n ≡ 0 → if_none n x ≡ x
if_zero zero x e = refl
if_zero (suc n) x e = absurd (omega arith)
