-- The spans by the last week of the shortest breach from each Monday on: one is a breach exactly if it ends no sooner. The last Monday first, one walk
-- comes to those that hold no shorter one: none missing, none twice, in order. Assumes nothing.
use mathlib.Core.Path.{◌≡◌, refl, sym, ap, ◌∙◌}
use mathlib.Core.Logic.{◌⊎◌, inl, inr}
use mathlib.Core.Bool.{Bool, true, false, not}
use mathlib.Core.List.{List, [], ◌∷◌, ◌++◌, Memᴰ as In}
use Prim.Native.Nat.{ℕ, zero, suc, ◌+◌, ◌≤◌, ◌<◌}
use native.Mathlib.Nat.{eq-or-lt_of_le, le_refl}
use native.Mathlib.Omega.{arith}
use lib.Dec.{leb, ltb, eqb}
use borrow.Author.Tests.{leb-true, le-leb, ltb-true, ltb-false, lt-ltb, eq-eqb, ne_eqb, eqb-true}
use Rattle.recording.specs.Tests.{◌and◌, pick, any_of, keep}
use Rattle.recording.proofs.TestLaws.{and_left, and_right, and_both, clash, is_false, same_test, less_or_not, any_of_law, of_any, keep_append, and-false, Witness}
use Rattle.rules.specs.Spans.{spans_beginning, spans_from, shorter_inside, least_breach}
use Rattle.rules.specs.declared.Weeks.{Weeks}
use Rattle.rules.proofs.Spans.{span, from_in, Within, of_from, Inside, inside_is, is_inside}
use Rattle.verdict_spans.specs.Mondays.{nearest, with_span, spans_back}

-- ---- of the spans with one first week one is kept, or none
keep_none : (f : Weeks → Bool) (a last n : ℕ) → ((b : ℕ) → last ≤ b → b < last + n → f (span a b) ≡ false) → keep f (spans_beginning a last n) ≡ []
unfolding spans_beginning keep
keep_none f a last zero h = refl
keep_none f a last (suc n) h = rw (h last (le_refl _) (omega arith)) (keep_none f a (suc last) n (λ b l g. h b (omega arith) (omega arith)))

keep_one : (f : Weeks → Bool) (a l last n : ℕ) → last ≤ l → l < last + n → ((b : ℕ) → last ≤ b → b < last + n → f (span a b) ≡ eqb b l)
    → keep f (spans_beginning a last n) ≡ span a l ∷ []
unfolding spans_beginning keep
keep_one f a l last zero h g e = absurd (omega arith)
keep_one f a l last (suc n) h g e = at (eq-or-lt_of_le h) (λ q. keep_one f a l (suc last) n q (omega arith) (λ b i j. e b (omega arith) (omega arith)))
  where
    at : (last ≡ l) ⊎ (last < l) → (last < l → keep f (spans_beginning a (suc last) n) ≡ span a l ∷ [])
        → pick (f (span a last)) (span a last ∷ keep f (spans_beginning a (suc last) n)) (keep f (spans_beginning a (suc last) n)) ≡ span a l ∷ []
    at (inl q) k =
        rw (e last (le_refl _) (omega arith) ∙ eq-eqb last l q, keep_none f a (suc last) n (λ b i j. e b (omega arith) (omega arith) ∙ ne_eqb b l (λ z. absurd (omega arith))))
        (ap (λ (x : ℕ). span a x ∷ []) q)
    at (inr q) k = rw (e last (le_refl _) (omega arith) ∙ ne_eqb last l (λ z. absurd (omega arith))) (k q)

-- ---- THE LAW, of so many weeks, where one is a breach exactly if it ends no sooner than `last_of` its first week
module _ (weeks : ℕ) (last_of : ℕ → ℕ) (breaks : Weeks → Bool) (own : (a : ℕ) → a < weeks → a ≤ last_of a)
    (by : (a b : ℕ) → a ≤ b → b < weeks → breaks (span a b) ≡ leb (last_of a) b) where
  abbrev back : ℕ → ℕ → List Weeks
  back first n = spans_back weeks last_of first n

  abbrev near : ℕ → ℕ → ℕ
  near first n = nearest weeks (back first n)

  abbrev least : Weeks → Bool
  least = least_breach breaks (spans_from 0 weeks)

  -- the nearest end of the later spans is the least of `last_of`, or the number of weeks
  near_most : (first n : ℕ) → near first n ≤ weeks
  unfolding spans_back with_span
  near_most first zero = le_refl _
  near_most first (suc n) = at (ltb (last_of first) (near (suc first) n)) refl (near_most (suc first) n)
    where
      at : (t : Bool) → ltb (last_of first) (near (suc first) n) ≡ t → near (suc first) n ≤ weeks
          → nearest weeks (pick t (span first (last_of first) ∷ back (suc first) n) (back (suc first) n)) ≤ weeks
      at true e k = omega (arith, ltb-true (last_of first) (near (suc first) n) e)
      at false e k = k

  near_low : (first n : ℕ) → first + n ≡ weeks → (a : ℕ) → first ≤ a → a < weeks → near first n ≤ last_of a
  unfolding spans_back with_span
  near_low first zero e a h l = absurd (omega arith)
  near_low first (suc n) e a h l = at (ltb (last_of first) (near (suc first) n)) refl (eq-or-lt_of_le h) (λ q. near_low (suc first) n (omega arith) a q l)
    where
      at : (t : Bool) → ltb (last_of first) (near (suc first) n) ≡ t → (first ≡ a) ⊎ (first < a) → (first < a → near (suc first) n ≤ last_of a)
          → nearest weeks (pick t (span first (last_of first) ∷ back (suc first) n) (back (suc first) n)) ≤ last_of a
      at true t (inl q) k = rw q (le_refl _)
      at true t (inr q) k = omega (arith, ltb-true (last_of first) (near (suc first) n) t, k q)
      at false t (inl q) k = omega (arith, ltb-false (last_of first) (near (suc first) n) t, ap last_of q)
      at false t (inr q) k = k q

  record Near (first end : ℕ) : Type 0 where
    week : ℕ
    from : first ≤ week
    to : week < weeks
    is : last_of week ≡ end

  later : {first end : ℕ} → Near (suc first) end → Near first end
  later k = record { week = k.week; from = omega (arith, k.from); to = k.to; is = k.is }

  near_is : (first n : ℕ) → first + n ≡ weeks → (near first n ≡ weeks) ⊎ Near first (near first n)
  unfolding spans_back with_span
  near_is first zero e = inl refl
  near_is first (suc n) e = at (ltb (last_of first) (near (suc first) n)) (near_is (suc first) n (omega arith))
    where
      at : (t : Bool) → (near (suc first) n ≡ weeks) ⊎ Near (suc first) (near (suc first) n)
          → (nearest weeks (pick t (span first (last_of first) ∷ back (suc first) n) (back (suc first) n)) ≡ weeks)
          ⊎ Near first (nearest weeks (pick t (span first (last_of first) ∷ back (suc first) n) (back (suc first) n)))
      at true k = inr (record { week = first; from = le_refl _; to = omega arith; is = refl })
      at false (inl q) = inl q
      at false (inr q) = inr (later q)

  -- a span that begins at a week is one of the least breaches exactly if it ends as soon as one from there does, and before those that begin later
  module _ (a b n : ℕ) (e : a + suc n ≡ weeks) (h : a ≤ b) (l : b < weeks) where
    abbrev holds : Weeks → Bool
    holds t = shorter_inside (span a b) t and breaks t

    broken_by_law : (t : Weeks) → In t (spans_from 0 weeks) → Inside (span a b) t → breaks t ≡ true → any_of holds (spans_from 0 weeks) ≡ true
    broken_by_law t i k w = any_of_law holds i (and_both _ _ (is_inside (span a b) t k) w)

    to_end : least (span a b) ≡ true → (eqb b (last_of a) and ltb (last_of a) (near (suc a) n)) ≡ true
    unfolding least_breach
    to_end t = and_both _ _ (eq-eqb b (last_of a) ends) (lt-ltb (last_of a) (near (suc a) n) (before (less_or_not (last_of a) (near (suc a) n))))
      where
        none : any_of holds (spans_from 0 weeks) ≡ true → ⊥
        none w = clash (not (any_of holds (spans_from 0 weeks))) (and_right _ _ t) (ap not w)

        reached : last_of a ≤ b
        reached = leb-true _ _ (sym (by a b h l) ∙ and_left _ _ t)

        sooner : last_of a < b → ⊥
        sooner g =
            none (broken_by_law (span a (last_of a)) (from_in a (last_of a) 0 weeks (omega arith) (own a (omega arith)) (omega arith))
            (record { after = le_refl _; before = reached; shorter = omega (arith, own a (omega arith)) })
            (by a (last_of a) (own a (omega arith)) (omega arith) ∙ le-leb (last_of a) (last_of a) (le_refl _)))

        ends : b ≡ last_of a
        ends = at (eq-or-lt_of_le reached)
          where
            at : (last_of a ≡ b) ⊎ (last_of a < b) → b ≡ last_of a
            at (inl q) = sym q
            at (inr q) = absurd (sooner q)

        held : near (suc a) n ≤ last_of a → (near (suc a) n ≡ weeks) ⊎ Near (suc a) (near (suc a) n) → ⊥
        held g (inl q) = omega (arith, reached, q)
        held g (inr q) =
            none (broken_by_law (span q.week (last_of q.week)) (from_in q.week (last_of q.week) 0 weeks (omega arith) (own q.week q.to) (omega (arith, q.is, reached)))
            (record {
              after = omega (arith, q.from);
              before = omega (arith, q.is, reached);
              shorter = omega (arith, q.is, q.from, reached, own q.week q.to);
            })
            (by q.week (last_of q.week) (own q.week q.to) (omega (arith, q.is, reached)) ∙ le-leb (last_of q.week) (last_of q.week) (le_refl _)))

        before : (last_of a < near (suc a) n) ⊎ (near (suc a) n ≤ last_of a) → last_of a < near (suc a) n
        before (inl g) = g
        before (inr g) = absurd (held g (near_is (suc a) n (omega arith)))

    from_end : (eqb b (last_of a) and ltb (last_of a) (near (suc a) n)) ≡ true → least (span a b) ≡ true
    unfolding least_breach
    from_end t = and_both _ _ (by a b h l ∙ le-leb (last_of a) b (omega (arith, ends))) (ap not (is_false _ (λ w. none (of_any holds (spans_from 0 weeks) w))))
      where
        ends : b ≡ last_of a
        ends = eqb-true b (last_of a) (and_left _ _ t)

        before : last_of a < near (suc a) n
        before = ltb-true _ _ (and_right _ _ t)

        none_inside : (s : Weeks) → Within 0 (0 + weeks) s → Inside (span a b) s → breaks s ≡ true → ⊥
        none_inside s i k w = at (eq-or-lt_of_le k.after)
          where
            late : last_of s.first ≤ s.last
            late = leb-true _ _ (sym (by s.first s.last i.proper (omega (arith, i.to))) ∙ w)

            at : (a ≡ s.first) ⊎ (a < s.first) → ⊥
            at (inl q) = omega (arith, late, ap last_of q, k.before, k.shorter, ends, q)
            at (inr q) = omega (arith, late, near_low (suc a) n (omega arith) s.first q (omega (arith, i.to, i.proper)), k.before, ends, before)

        none : Witness holds (spans_from 0 weeks) → ⊥
        none w = none_inside w.item (of_from 0 weeks w.listed) (inside_is (span a b) w.item (and_left _ _ w.passes)) (and_right _ _ w.passes)

    least_at : least (span a b) ≡ (eqb b (last_of a) and ltb (last_of a) (near (suc a) n))
    least_at = same_test _ _ to_end from_end

  and_yes : (x : Bool) → x and true ≡ x
  unfolding ◌and◌
  and_yes true = refl
  and_yes false = refl

  back_from : (first n : ℕ) → first + n ≡ weeks → keep least (spans_from first n) ≡ back first n
  unfolding spans_from spans_back with_span keep
  back_from first zero e = refl
  back_from first (suc n) e =
      keep_append least (spans_beginning first first (suc n)) (spans_from (suc first) n)
      ∙ ap (λ (l : List Weeks). keep least (spans_beginning first first (suc n)) ++ l) (back_from (suc first) n (omega arith))
      ∙ at (ltb (last_of first) (near (suc first) n)) refl
    where
      at : (t : Bool) → ltb (last_of first) (near (suc first) n) ≡ t
          → keep least (spans_beginning first first (suc n)) ++ back (suc first) n ≡ pick t (span first (last_of first) ∷ back (suc first) n) (back (suc first) n)
      at true t =
          ap (λ (l : List Weeks). l ++ back (suc first) n)
          (keep_one least first (last_of first) first (suc n) (own first (omega arith)) (omega (arith, ltb-true (last_of first) (near (suc first) n) t, near_most (suc first) n))
          (λ b h g. least_at first b n e h (omega arith) ∙ ap (λ (x : Bool). eqb b (last_of first) and x) t ∙ and_yes (eqb b (last_of first))))
      at false t =
          ap (λ (l : List Weeks). l ++ back (suc first) n)
          (keep_none least first first (suc n) (λ b h g. least_at first b n e h (omega arith) ∙ ap (λ (x : Bool). eqb b (last_of first) and x) t ∙ and-false (eqb b (last_of first))))

  pub back_is : keep least (spans_from 0 weeks) ≡ back 0 weeks
  back_is = back_from 0 weeks (omega arith)
