-- Laws of the table of nogoods: what a store leaves as it was, and what it writes. Assumes nothing.
use mathlib.Core.Path.{◌≡◌, refl, sym, ap, ap₂, subst, ◌∙◌}
use mathlib.Core.Logic.{◌⊎◌, inl, inr}
use mathlib.Core.Bool.{Bool, true, false}
use mathlib.Core.List.{List, ◌++◌}
use Prim.Native.Nat.{ℕ, zero, suc, ◌+◌, ◌-◌, ◌*◌, ◌%◌, ◌≤◌, ◌<◌}
use native.Mathlib.Nat.{eq-or-lt_of_le, le_refl}
use native.Mathlib.Omega.{arith}
use lib.Dec.{ltb, eqb}
use lib.ListN.{length, length-set, get_or, set, take, drop, length-drop, get_or-append, get_or-eq_default}
use lib.Seq.{get_or-set_same, get_or-set_other, length-take-le, get_or-take, get_or-drop, get_or-append_right, drop-drop}
use borrow.Author.Tests.{lt-ltb, le-ltb, eqb-true, eqb-false}
use Rattle.std.proofs.Common.{min}
use Rattle.std.proofs.lemmas.List.{take_all, length-take}
use Rattle.std.proofs.lemmas.List.Sums.{count_by_more_yes, count_by_more_no}
use Rattle.std.specs.List.{count_by}
use Rattle.recording.specs.Tests.{pick, one}
use Rattle.recording.proofs.TestLaws.{less_or_not}
use Rattle.verdict_completion.specs.declared.State.{State}
use Rattle.verdict_completion.specs.Completable.{at}
use Rattle.verdict_completion.specs.Better.{Within}
use Rattle.verdict_nogoods.specs.Table.{ring_size, state_words, reductions_at_most, entry_words, level_words, level_at, entry_at, reductions_of, reduction_place, reduction_in, reductions_at}
use Rattle.verdict_nogoods.specs.Table.{InUse, Dominates, Paired, Known, Holds, Written, Entry, old, new, Remembered, Empty, outstanding_count, is_reduction, words_of, stated, PutAll}

pub same_or_not : (a b : ℕ) → (a ≡ b) ⊎ (a ≡ b → ⊥)
same_or_not a b = go (eqb a b) refl
  where
    go : (t : Bool) → eqb a b ≡ t → (a ≡ b) ⊎ (a ≡ b → ⊥)
    go true e = inl (eqb-true a b e)
    go false e = inr (eqb-false a b e)

-- ---- a word stored
pub same : (t : List ℕ) (i a : ℕ) → i < length t → at (set t i a) i ≡ a
same t i a l = get_or-set_same t i a 0 l

pub skip : (t : List ℕ) (i x a : ℕ) → (x ≡ i → ⊥) → at (set t i a) x ≡ at t x
skip t i x a n = get_or-set_other t i x a 0 n

-- ---- levels emptied: all of them, or as far as the table reaches
pub empty_all : (t : List ℕ) (i k : ℕ) → (k ≤ i) ⊎ (length t ≤ level_at i) → ((x : ℕ) → x < i → at t (level_at x) ≡ 0) → Empty t k
empty_all t i k end before x l = go end (less_or_not x i)
  where
    go : (k ≤ i) ⊎ (length t ≤ level_at i) → (x < i) ⊎ (i ≤ x) → at t (level_at x) ≡ 0
    go _ (inl m) = before x m
    go (inl e) (inr m) = absurd (omega arith)
    go (inr e) (inr m) = get_or-eq_default t 0 (omega arith)

-- ---- words put in place of as many from p on
module _ (t ws : List ℕ) (p : ℕ) (room : p + length ws ≤ length t) where
  abbrev pub spliced : List ℕ
  spliced = take p t ++ (ws ++ drop (p + length ws) t)

  front : length (take p t) ≡ p
  front = length-take-le p t (omega arith)

  past : (k : ℕ) → p ≤ k → at spliced k ≡ at (ws ++ drop (p + length ws) t) (k - p)
  past k l = let f = front in get_or-append_right (take p t) (ws ++ drop (p + length ws) t) k 0 (omega arith) ∙ ap (λ (j : ℕ). at (ws ++ drop (p + length ws) t) (k - j)) f

  pub spliced_in : (k : ℕ) → p ≤ k → k < p + length ws → at spliced k ≡ at ws (k - p)
  spliced_in k l m = past k l ∙ get_or-append ws (drop (p + length ws) t) 0 (k - p) (omega arith)

  pub spliced_out : (k : ℕ) → (k < p) ⊎ (p + length ws ≤ k) → at spliced k ≡ at t k
  spliced_out k (inl l) = let f = front in get_or-append (take p t) (ws ++ drop (p + length ws) t) 0 k (omega arith) ∙ get_or-take p t k 0 l
  spliced_out k (inr l) =
      let e : p + length ws + (k - p - length ws) ≡ k = omega arith in
      past k (omega arith) ∙ get_or-append_right ws (drop (p + length ws) t) (k - p) 0 (omega arith) ∙ get_or-drop (p + length ws) t (k - p - length ws) 0 ∙ ap (at t) e

-- ---- how many reductions there are
pub outstanding_count-on : (outstanding : List ℕ) (i : ℕ) → outstanding_count outstanding (i + 1) ≡ outstanding_count outstanding i + one (ltb 0 (at outstanding i))
unfolding outstanding_count
outstanding_count-on outstanding i = let e : suc i ≡ i + 1 = omega arith in subst (λ (n : ℕ). outstanding_count outstanding n ≡ outstanding_count outstanding i + one (ltb 0 (at outstanding i))) e refl

pub outstanding_count-up : (outstanding : List ℕ) (i n : ℕ) → i ≤ n → outstanding_count outstanding i ≤ outstanding_count outstanding n
unfolding outstanding_count
outstanding_count-up outstanding i zero l = let e : zero ≡ i = omega arith in subst (λ (x : ℕ). outstanding_count outstanding x ≤ outstanding_count outstanding zero) e (le_refl _)
outstanding_count-up outstanding i (suc n) l = go (eq-or-lt_of_le l) (outstanding_count-up outstanding i n)
  where
    go : (i ≡ suc n) ⊎ (i < suc n) → (i ≤ n → outstanding_count outstanding i ≤ outstanding_count outstanding n) → outstanding_count outstanding i ≤ outstanding_count outstanding (suc n)
    go (inl e) up = subst (λ (x : ℕ). outstanding_count outstanding x ≤ outstanding_count outstanding (suc n)) (sym e) (le_refl _)
    go (inr h) up = omega (arith, up (omega arith))

-- where slot i has one there is one reduction more
pub outstanding_count-more : (outstanding : List ℕ) (i n : ℕ) → i < n → 0 < at outstanding i → outstanding_count outstanding i < outstanding_count outstanding n
outstanding_count-more outstanding i n l h = omega (arith, outstanding_count-up outstanding (i + 1) n (omega arith), outstanding_count-on outstanding i, ap one (lt-ltb 0 (at outstanding i) h))

-- the whole count
count_first : (outstanding : List ℕ) (n : ℕ) → n ≤ length outstanding → outstanding_count outstanding n ≡ count_by is_reduction (take n outstanding)
unfolding outstanding_count
count_first outstanding zero l = refl
count_first outstanding (suc n) l = go (count_first outstanding n (omega arith)) (ltb 0 (at outstanding n)) refl
  where
    e : n + 1 ≡ suc n
    e = omega arith

    go : outstanding_count outstanding n ≡ count_by is_reduction (take n outstanding) → (b : Bool) → ltb 0 (at outstanding n) ≡ b
        → outstanding_count outstanding n + one (ltb 0 (at outstanding n)) ≡ count_by is_reduction (take (suc n) outstanding)
    go before true h = omega (arith, before, ap one h, count_by_more_yes is_reduction outstanding n 0 (omega arith) h, ap (λ (x : ℕ). count_by is_reduction (take x outstanding)) e)
    go before false h = omega (arith, before, ap one h, count_by_more_no is_reduction outstanding n 0 (omega arith) h, ap (λ (x : ℕ). count_by is_reduction (take x outstanding)) e)

pub count_all : (outstanding : List ℕ) → outstanding_count outstanding (length outstanding) ≡ count_by is_reduction outstanding
count_all outstanding = count_first outstanding (length outstanding) (le_refl _) ∙ ap (count_by is_reduction) (take_all (length outstanding) outstanding (le_refl _))

-- where there is one
pub slot_low : (outstanding : List ℕ) (i : ℕ) → 0 < at outstanding i → i < length outstanding
slot_low outstanding i h = go (less_or_not i (length outstanding))
  where
    go : (i < length outstanding) ⊎ (length outstanding ≤ i) → i < length outstanding
    go (inl l) = l
    go (inr l) = absurd (omega (arith, h, get_or-eq_default {A = ℕ} outstanding 0 l))

-- ---- reductions compared
-- each of the first d reductions f lies within one of the first i reductions g, in order
pub record PairedBelow (f g : ℕ → ℕ) (d i : ℕ) : Type 0 where
  pub to : ℕ → ℕ
  pub below : (x : ℕ) → x < d → to x < i
  pub within : (x : ℕ) → x < d → Within (f x) (g (to x))
  pub rises : (x y : ℕ) → x < y → y < d → to x < to y

pub paired_start : (f g : ℕ → ℕ) → PairedBelow f g 0 0
paired_start f g = record { to = λ x. x; below = λ x l. absurd (omega arith); within = λ x l. absurd (omega arith); rises = λ x y a b. absurd (omega arith) }

module _ {f g : ℕ → ℕ} {d i : ℕ} (before : PairedBelow f g d i) where
  -- the reduction of index i is passed over
  pub paired_past : PairedBelow f g d (i + 1)
  paired_past = record { to = before.to; below = λ x l. omega (arith, before.below x l); within = before.within; rises = before.rises }

  -- the reduction of index d lies within that of index i
  pub paired_on : Within (f d) (g i) → PairedBelow f g (d + 1) (i + 1)
  paired_on this = record { to = to; below = λ x l. below x (less_or_not x d); within = λ x l. within x l (less_or_not x d); rises = λ x y a b. rises x y a (omega arith) (less_or_not y d) }
    where
      to : ℕ → ℕ
      to x = pick (ltb x d) (before.to x) i

      earlier : (x : ℕ) → x < d → to x ≡ before.to x
      earlier x l = ap (λ (b : Bool). pick b (before.to x) i) (lt-ltb x d l)

      last : (x : ℕ) → d ≤ x → to x ≡ i
      last x l = ap (λ (b : Bool). pick b (before.to x) i) (le-ltb x d l)

      below : (x : ℕ) → (x < d) ⊎ (d ≤ x) → to x < i + 1
      below x (inl l) = omega (arith, earlier x l, before.below x l)
      below x (inr l) = omega (arith, last x l)

      within : (x : ℕ) → x < d + 1 → (x < d) ⊎ (d ≤ x) → Within (f x) (g (to x))
      within x h (inl l) = subst (λ (y : ℕ). Within (f x) (g y)) (sym (earlier x l)) (before.within x l)
      within x h (inr l) =
          let e : d ≡ x = omega arith in
          subst (λ (y : ℕ). Within (f x) (g y)) (sym (last x l)) (subst (λ (y : ℕ). Within (f y) (g i)) e this)

      rises : (x y : ℕ) → x < y → x < d → (y < d) ⊎ (d ≤ y) → to x < to y
      rises x y a b (inl l) = omega (arith, earlier x b, earlier y l, before.rises x y a l)
      rises x y a b (inr l) = omega (arith, earlier x b, last y l, before.below x b)

-- all of them
pub paired_all : {stored present : List ℕ} {d i : ℕ} → PairedBelow (at stored) (at present) d i → length stored ≤ d → Paired stored present
paired_all before l = record { to = before.to; within = λ x h. before.within x (omega arith); rises = λ x y a b. before.rises x y a (omega arith) }

-- ---- the reductions of an entry
pub put_start : (t : List ℕ) (p : ℕ) (outstanding : List ℕ) → PutAll t t p outstanding 0 0
unfolding outstanding_count
put_start t p outstanding = record { count = refl; below = λ x _. refl; above = λ x _. refl; reduction = λ i l h. absurd (omega arith) }

module _ {t t₁ outstanding : List ℕ} {p i d : ℕ} (before : PutAll t t₁ p outstanding i d) where
  -- no reduction
  pub put_past : at outstanding i ≡ 0 → PutAll t t₁ p outstanding (i + 1) d
  put_past z = record {
    count = before.count ∙ (let e : outstanding_count outstanding i ≡ outstanding_count outstanding (i + 1) =
        omega (arith, outstanding_count-on outstanding i, ap one (le-ltb 0 (at outstanding i) (omega (arith, z)))) in e);
    below = before.below;
    above = before.above;
    reduction = λ y l h. before.reduction y (low y h (less_or_not y i) l) h;
  }
    where
      low : (y : ℕ) → 0 < at outstanding y → (y < i) ⊎ (i ≤ y) → y < i + 1 → y < i
      low y h (inl m) l = m
      low y h (inr m) l = let e : i ≡ y = omega arith in absurd (omega (arith, h, z, ap (at outstanding) e))

  -- one more
  pub put_on : p + entry_words ≤ length t₁ → d < reductions_at_most → 0 < at outstanding i → PutAll t (set t₁ (reduction_place p d) (at outstanding i)) p outstanding (i + 1) (d + 1)
  put_on room few is_one = record {
    count = (let e : d + 1 ≡ outstanding_count outstanding (i + 1) = omega (arith, before.count, outstanding_count-on outstanding i, ap one (lt-ltb 0 (at outstanding i) is_one)) in e);
    below = λ x l. skip t₁ (reduction_place p d) x (at outstanding i) (λ e. omega (arith, l, e)) ∙ before.below x l;
    above = λ x l. skip t₁ (reduction_place p d) x (at outstanding i) (λ e. omega (arith, l, e)) ∙ before.above x l;
    reduction = λ y l h. go y h (less_or_not y i) l;
  }
    where
      t₂ : List ℕ
      t₂ = set t₁ (reduction_place p d) (at outstanding i)

      go : (y : ℕ) → 0 < at outstanding y → (y < i) ⊎ (i ≤ y) → y < i + 1
          → reduction_in (set t₁ (reduction_place p d) (at outstanding i)) p (outstanding_count outstanding y) ≡ at outstanding y
      go y h (inl l) _ =
          skip t₁ (reduction_place p d) (reduction_place p (outstanding_count outstanding y)) (at outstanding i) (λ e. omega (arith, before.count, outstanding_count-more outstanding y i l h, e))
          ∙ before.reduction y l h
      go y h (inr m) l =
          let e : i ≡ y = omega arith in
          let f : d ≡ outstanding_count outstanding y = before.count ∙ ap (outstanding_count outstanding) e in
          subst (λ (x : ℕ). reduction_in (set t₁ (reduction_place p d) (at outstanding i)) p x ≡ at outstanding y) f
          (same t₁ (reduction_place p d) (at outstanding i) (omega arith) ∙ ap (at outstanding) e)

  pub put_room : count_by is_reduction outstanding ≤ reductions_at_most → i < length outstanding → 0 < at outstanding i → d < reductions_at_most
  put_room few l h = omega (arith, before.count, count_all outstanding, outstanding_count-more outstanding i (length outstanding) l h)

-- ---- an entry written
module _ (t t₁ outstanding : List ℕ) (p d : ℕ) (st : State) (room : p + entry_words ≤ length t₁) (few : d ≤ reductions_at_most) (reductions : PutAll t t₁ p outstanding (length outstanding) d) where
  abbrev t₂ : List ℕ
  t₂ = stated t₁ p st d

  word_at : (k x : ℕ) → k < state_words → x ≡ p + k → at t₂ x ≡ get_or (words_of st d) k 0
  word_at k x l e = spliced_in t₁ (words_of st d) p (omega arith) x (omega arith) (omega arith) ∙ ap (λ (i : ℕ). get_or (words_of st d) i 0) (let f : x - p ≡ k = omega arith in f)

  pub written : Written t t₂ p st outstanding
  written = record {
    holds = record {
      ended = word_at 0 p (omega arith) (omega arith);
      short = word_at 1 (p + 1) (omega arith) refl;
      weekly_before = word_at 2 (p + 2) (omega arith) refl;
      regular_before = word_at 3 (p + 3) (omega arith) refl;
      weekly = word_at 4 (p + 4) (omega arith) refl;
      regular = word_at 5 (p + 5) (omega arith) refl;
      few = omega (arith, many);
      count = many ∙ reductions.count;
      reduction = λ i h. spliced_out t₁ (words_of st d) p (omega arith) (reduction_place p (outstanding_count outstanding i)) (inr (omega arith))
          ∙ reductions.reduction i (slot_low outstanding i h) h;
    };
    other = λ x h. go x h;
  }
    where
      many : at t₂ (p + 6) ≡ d
      many = word_at 6 (p + 6) (omega arith) refl

      go : (x : ℕ) → (x < p) ⊎ (p + entry_words ≤ x) → at t₂ x ≡ at t x
      go x (inl l) = spliced_out t₁ (words_of st d) p (omega arith) x (inl l) ∙ reductions.below x (omega arith)
      go x (inr l) = spliced_out t₁ (words_of st d) p (omega arith) x (inr (omega arith)) ∙ reductions.above x l

-- ---- a state stored
pub unchanged : (t : List ℕ) (j : ℕ) (st : State) (outstanding : List ℕ) → Remembered t t j st outstanding
unchanged t j st outstanding = record { size = refl; entries = λ i e u. old u (λ x _ _. refl) }

-- the level's word before, and after
module _
    (t t₂ outstanding : List ℕ)
    (j before after : ℕ)
    (st : State)
    (room : level_words * (j + 1) ≤ length t)
    (size : length t₂ ≡ length t)
    (word : at t (level_at j) ≡ before)
    (more : after ≤ before + 1)
    (writing : Written t t₂ (entry_at j (before % ring_size)) st outstanding)
  where
    abbrev place : ℕ
    place = entry_at j (before % ring_size)

    abbrev t₃ : List ℕ
    t₃ = set t₂ (level_at j) after

    outside : (x : ℕ) → (x < place) ⊎ (place + entry_words ≤ x) → (x ≡ level_at j → ⊥) → at t₃ x ≡ at t x
    outside x h other = skip t₂ (level_at j) x after other ∙ writing.other x h

    -- another level
    elsewhere : (i e : ℕ) → (i ≡ j → ⊥) → InUse t₃ i e → Entry t t₃ j st outstanding i e
    elsewhere i e other u = old
        (record { within = u.within; stored = subst (λ (x : ℕ). e < x) (outside (level_at i) (apart (level_at i) (omega arith) (omega arith)) (λ h. other (omega arith))) u.stored })
        (λ x a b. outside x (apart x (omega (arith, a)) (omega (arith, b, u.within))) (λ h. other (omega (arith, h, a, b, u.within))))
      where
        apart : (x : ℕ) → level_at i ≤ x → x < level_at (i + 1) → (x < place) ⊎ (place + entry_words ≤ x)
        apart x a b = go (less_or_not i j)
          where
            go : (i < j) ⊎ (j ≤ i) → (x < place) ⊎ (place + entry_words ≤ x)
            go (inl l) = inl (omega arith)
            go (inr l) = inr (omega (arith, other))

    -- this level, another entry
    beside : (e : ℕ) → (e ≡ before % ring_size → ⊥) → InUse t₃ j e → Entry t t₃ j st outstanding j e
    beside e other u = old
        (record { within = u.within; stored = rw word (omega (arith, other, u.within, below)) })
        (λ x a b. outside x (apart x a b (less_or_not e (before % ring_size))) (λ h. omega (arith, h, a)))
      where
        below : e < after
        below = let h : at t₃ (level_at j) ≡ after = same t₂ (level_at j) after (omega arith) in subst (λ (x : ℕ). e < x) h u.stored

        apart : (x : ℕ) → entry_at j e ≤ x → x < entry_at j e + entry_words → (e < before % ring_size) ⊎ (before % ring_size ≤ e) → (x < place) ⊎ (place + entry_words ≤ x)
        apart x a b (inl l) = inl (omega arith)
        apart x a b (inr l) = inr (omega (arith, other))

    kept : (x : ℕ) → place ≤ x → at t₃ x ≡ at t₂ x
    kept x l = skip t₂ (level_at j) x after (λ h. omega (arith, h, l))

    holds : Holds t₃ place st outstanding
    holds = let h = writing.holds in record {
      ended = kept place (le_refl _) ∙ h.ended;
      short = kept (place + 1) (omega arith) ∙ h.short;
      weekly_before = kept (place + 2) (omega arith) ∙ h.weekly_before;
      regular_before = kept (place + 3) (omega arith) ∙ h.regular_before;
      weekly = kept (place + 4) (omega arith) ∙ h.weekly;
      regular = kept (place + 5) (omega arith) ∙ h.regular;
      few = omega (arith, h.few, kept (place + 6) (omega arith));
      count = kept (place + 6) (omega arith) ∙ h.count;
      reduction = λ i l. kept (reduction_place place (outstanding_count outstanding i)) (omega arith) ∙ h.reduction i l;
    }

    pub stored : Remembered t t₃ j st outstanding
    stored = record { size = length-set t₂ (level_at j) after ∙ size; entries = λ i e u. go i e u (same_or_not i j) }
      where
        here : (e : ℕ) → InUse t₃ j e → (e ≡ before % ring_size) ⊎ (e ≡ before % ring_size → ⊥) → Entry t t₃ j st outstanding j e
        here e u (inl q) = new refl (subst (λ (x : ℕ). Holds t₃ (entry_at j x) st outstanding) (sym q) holds)
        here e u (inr q) = beside e q u

        go : (i e : ℕ) → InUse t₃ i e → (i ≡ j) ⊎ (i ≡ j → ⊥) → Entry t t₃ j st outstanding i e
        go i e u (inl q) = subst (λ (x : ℕ). InUse t₃ x e → Entry t t₃ j st outstanding x e) (sym q) (λ v. here e v (same_or_not e (before % ring_size))) u
        go i e u (inr q) = elsewhere i e q u

-- ---- what is outstanding in the first m slots, where no other is in use, told by all of them
module _ (slots : List ℕ) (m : ℕ) (unused : (x : ℕ) → m ≤ x → at slots x ≡ 0) where
  pub slot_same : (i : ℕ) → at (take m slots) i ≡ at slots i
  slot_same i = go (less_or_not i m)
    where
      go : (i < m) ⊎ (m ≤ i) → at (take m slots) i ≡ at slots i
      go (inl l) = get_or-take m slots i 0 l
      go (inr l) = get_or-eq_default (take m slots) 0 (omega (arith, length-take m slots)) ∙ sym (unused i l)

  pub count_same : (n : ℕ) → outstanding_count (take m slots) n ≡ outstanding_count slots n
  unfolding outstanding_count
  count_same zero = refl
  count_same (suc n) = rw (count_same n, slot_same n) refl

  count_past : (a b : ℕ) → length (take m slots) ≤ a → a ≤ b → outstanding_count slots b ≡ outstanding_count slots a
  unfolding outstanding_count
  count_past a zero l h = ap (outstanding_count slots) (let e : zero ≡ a = omega arith in e)
  count_past a (suc b) l h = go (eq-or-lt_of_le h) (count_past a b l)
    where
      go : (a ≡ suc b) ⊎ (a < suc b) → (a ≤ b → outstanding_count slots b ≡ outstanding_count slots a) → outstanding_count slots (suc b) ≡ outstanding_count slots a
      go (inl e) up = ap (outstanding_count slots) (sym e)
      go (inr g) up = omega (arith, up (omega arith), ap one (le-ltb 0 (at slots b) (omega (arith, sym (slot_same b) ∙ get_or-eq_default {A = ℕ} (take m slots) 0 (omega arith)))))

  pub holds_of_all : {t : List ℕ} {p : ℕ} {st : State} → Holds t p st (take m slots) → Holds t p st slots
  holds_of_all {t} {p} {st} h = record {
    ended = h.ended;
    short = h.short;
    weekly_before = h.weekly_before;
    regular_before = h.regular_before;
    weekly = h.weekly;
    regular = h.regular;
    few = h.few;
    count = h.count ∙ count_same (length (take m slots)) ∙ sym (count_past (length (take m slots)) (length slots) (le_refl _) (omega (arith, length-take m slots)));
    reduction = λ i l. subst (λ (x : ℕ). reduction_in t p x ≡ at slots i) (count_same i) (h.reduction i (omega (arith, slot_same i, l)) ∙ slot_same i);
  }

  pub remembered_of_all : {t t' : List ℕ} {j : ℕ} {st : State} → Remembered t t' j st (take m slots) → Remembered t t' j st slots
  remembered_of_all {t} {t'} {j} {st} h = record { size = h.size; entries = λ i e u. go i e (h.entries i e u) }
    where
      go : (i e : ℕ) → Entry t t' j st (take m slots) i e → Entry t t' j st slots i e
      go i e (old u s) = old u s
      go i e (new q s) = new q (holds_of_all s)

-- a reduction that lies within one of the first m lies within one of all
paired_of_all : (stored slots : List ℕ) (m : ℕ) → Paired stored (take m slots) → Paired stored slots
paired_of_all stored slots m h = record {
  to = h.to;
  within = λ d l. subst (Within (at stored d)) (first (h.to d) (h.within d l).is_outstanding) (h.within d l);
  rises = h.rises;
}
  where
    first : (i : ℕ) → 0 < at (take m slots) i → at (take m slots) i ≡ at slots i
    first i l = get_or-take m slots i 0 (omega (arith, slot_low (take m slots) i l, length-take m slots))

pub known_of_all : {t : List ℕ} (slots : List ℕ) {j : ℕ} (m : ℕ) {st : State} → Known t j st (take m slots) → Known t j st slots
known_of_all slots m h = record {
  entry = h.entry;
  used = h.used;
  dominates = record { few = h.dominates.few; better = h.dominates.better; reductions = paired_of_all _ slots m h.dominates.reductions };
}

-- ---- an entry after the first k words
pub words_after : (t : List ℕ) (k : ℕ) → take (length t - k) (drop k t) ≡ drop k t
words_after t k = take_all (length t - k) (drop k t) (omega (arith, length-drop {A = ℕ} k t))

module _ (t : List ℕ) (k p : ℕ) where
  word_after : (i : ℕ) → at (drop k t) (p + i) ≡ at t (k + p + i)
  word_after i = let e : k + (p + i) ≡ k + p + i = omega arith in get_or-drop k t (p + i) 0 ∙ ap (at t) e

  pub dominates_after : {st : State} {outstanding : List ℕ} → Dominates (drop k t) p st outstanding → Dominates t (k + p) st outstanding
  dominates_after {st} {outstanding} h =
      let e : k + (p + state_words) ≡ k + p + state_words = omega arith in
      record {
        few = omega (arith, h.few, word_after 6);
        better = record {
          week = h.better.week;
          ended = omega (arith, h.better.ended, get_or-drop k t p 0);
          short = omega (arith, h.better.short, word_after 1);
          weekly_before = omega (arith, h.better.weekly_before, word_after 2);
          regular_before = omega (arith, h.better.regular_before, word_after 3);
          weekly = omega (arith, h.better.weekly, word_after 4);
          regular = omega (arith, h.better.regular, word_after 5);
        };
        reductions = subst (λ (l : List ℕ). Paired l outstanding)
            (ap₂ (λ (n : ℕ) (l : List ℕ). take (min n reductions_at_most) l) (word_after 6) (drop-drop (p + state_words) k t ∙ ap (λ (x : ℕ). drop x t) e)) h.reductions;
      }

-- ---- the reductions of an entry
pub reductions_each : (t : List ℕ) (p d : ℕ) → d < min (reductions_of t p) reductions_at_most → at (reductions_at t p) d ≡ reduction_in t p d
reductions_each t p d l = get_or-take (min (reductions_of t p) reductions_at_most) (drop (p + state_words) t) d 0 l ∙ get_or-drop (p + state_words) t d 0

pub reductions_low : (t : List ℕ) (p : ℕ) → length (reductions_at t p) ≤ min (reductions_of t p) reductions_at_most
reductions_low t p = omega (arith, length-take (min (reductions_of t p) reductions_at_most) (drop (p + state_words) t))

pub reductions_length : (t : List ℕ) (p : ℕ) → p + entry_words ≤ length t → length (reductions_at t p) ≡ min (reductions_of t p) reductions_at_most
reductions_length t p room = omega (arith, length-take (min (reductions_of t p) reductions_at_most) (drop (p + state_words) t), length-drop {A = ℕ} (p + state_words) t)

-- one that there is stands among them
pub reductions_in_use : (t : List ℕ) (p d : ℕ) → d < min (reductions_of t p) reductions_at_most → 0 < reduction_in t p d → d < length (reductions_at t p)
reductions_in_use t p d l h = slot_low (reductions_at t p) d (omega (arith, reductions_each t p d l))
