-- The long rests and the judged end of a stretch, from those of the whole. Assumes nothing.
use mathlib.Core.Path.{◌≡◌, refl, sym, ap, subst, ◌∙◌}
use mathlib.Core.Logic.{◌⊎◌, inl, inr}
use mathlib.Core.Bool.{Bool, true, false}
use mathlib.Core.List.{List, [], ◌∷◌, ◌++◌, append-nil}
use Prim.Native.Nat.{ℕ, zero, suc, ◌+◌, ◌-◌, ◌≤◌, ◌<◌}
use native.Mathlib.Omega.{arith}
use lib.Dec.{leb}
use lib.ListN.{length, get_or, take, drop, length-append, length-take, take-append-drop, get_or-append}
use lib.Seq.{length-take-le, get_or-take, get_or-drop, get_or-append-add, take_all, take_at, take-add}
use Rattle.recording.specs.Tests.{pick, keep}
use Rattle.recording.specs.Words.{rest}
use Rattle.recording.specs.Rests.{long_rest_minutes, end_from, judged_end, closed_from, long_from, long_rests}
use Rattle.recording.specs.declared.Span.{Span}
use Rattle.recording.proofs.TestLaws.{less_or_not}
use Rattle.recording.proofs.Walks.{judged_within, judged_append, long_rests_append}
use Rattle.recording.proofs.Runs.{trailing_judged}
use Rattle.recording.proofs.LongRests.{long_busy, rests_ordered}
use Rattle.rules.specs.Verdict.{prefix}
use Rattle.rules_nets.specs.Nets.{nets_of}
use Rattle.rules_fixed.proofs.NetLaws.{all_numbered, first_nets}
use Rattle.rules_items.proofs.SpanLaws.{nowhere}
use Rattle.verdict_breach.proofs.Lawfulness.{neighbours}

-- ---- the long rests past a stretch end there or later
abbrev EndFrom : ℕ → List Span → Type 0
EndFrom now rs = (i : ℕ) → i < length rs → now ≤ (get_or rs i nowhere).end

end_picked : (b : Bool) (from now : ℕ) (rs : List Span) → EndFrom (suc now) rs → EndFrom now (pick b (record { start = from; end = now } ∷ rs) rs)
end_picked true from now rs f zero h = omega arith
end_picked true from now rs f (suc i) h = omega (arith, f i (omega arith))
end_picked false from now rs f i h = omega (arith, f i h)

past_ends : (from now : ℕ) (ms : List ℕ) → EndFrom now (long_from from now ms)
unfolding closed_from keep
past_ends from now [] i h = absurd (omega arith)
past_ends from now (zero ∷ ms) i h = omega (arith, past_ends from (suc now) ms i h)
past_ends from now (suc a ∷ ms) i h =
    subst (EndFrom now) (sym (long_busy from now a ms)) (end_picked (leb long_rest_minutes (now - from)) from now _ (past_ends (suc now) (suc now) ms)) i h

-- ---- the long rests of a stretch
module _ (ms : List ℕ) (m : ℕ) (within : m ≤ length ms) where
  abbrev there : List Span
  there = long_rests (prefix m ms)

  abbrev past : List Span
  past = long_from (judged_end (prefix m ms)) (length (prefix m ms)) (drop m ms)

  size : length (prefix m ms) ≡ m
  size = length-take-le m ms within

  split : long_rests ms ≡ there ++ past
  split = ap long_rests (sym (take-append-drop m ms)) ∙ long_rests_append (prefix m ms) (drop m ms)

  pub judged_most : judged_end (prefix m ms) ≤ m
  judged_most = omega (arith, judged_within (prefix m ms), size)

  pub over_there : (i : ℕ) → i < length there → (get_or (long_rests ms) i nowhere).end < judged_end (prefix m ms)
  over_there i h =
      let e : get_or (long_rests ms) i nowhere ≡ get_or there i nowhere = ap (λ (l : List Span). get_or l i nowhere) split ∙ get_or-append there past nowhere i h in
      subst (λ (r : Span). r.end < judged_end (prefix m ms)) (sym e) (neighbours (rests_ordered (prefix m ms)) i h).over

  over_past : (i : ℕ) → length there ≤ i → i < length (long_rests ms) → m ≤ (get_or (long_rests ms) i nowhere).end
  over_past i l h =
      let n : length (long_rests ms) ≡ length there + length past = ap length split ∙ length-append there past in
      let q : length there + (i - length there) ≡ i = omega arith in
      let e : get_or (long_rests ms) i nowhere ≡ get_or past (i - length there) nowhere =
      ap (λ (l : List Span). get_or l i nowhere) split ∙ ap (λ (x : ℕ). get_or (there ++ past) x nowhere) (sym q) ∙ get_or-append-add there past (i - length there) nowhere in
      subst (λ (r : Span). m ≤ r.end) (sym e)
      (omega (arith, size, past_ends (judged_end (prefix m ms)) (length (prefix m ms)) (drop m ms) (i - length there) (omega arith)))

  -- the first n are over before it, and the next is not
  pub rests_there : (n : ℕ) → n ≤ length (long_rests ms) → ((i : ℕ) → suc i ≡ n → (get_or (long_rests ms) i nowhere).end < m)
      → (n < length (long_rests ms) → m ≤ (get_or (long_rests ms) n nowhere).end) → long_rests (prefix m ms) ≡ take n (long_rests ms)
  rests_there n h last next = sym (ap (take n) split ∙ take_at there past n (as_many n last h next (less_or_not (length there) n) (less_or_not n (length there))))
    where
      as_many : (n : ℕ) → ((i : ℕ) → suc i ≡ n → (get_or (long_rests ms) i nowhere).end < m) → n ≤ length (long_rests ms)
          → (n < length (long_rests ms) → m ≤ (get_or (long_rests ms) n nowhere).end)
          → (length there < n) ⊎ (n ≤ length there) → (n < length there) ⊎ (length there ≤ n) → length there ≡ n
      as_many zero last h next (inl l) b = absurd (omega arith)
      as_many (suc i) last h next (inl l) b = absurd (omega (arith, last i refl, over_past i (omega arith) (omega arith)))
      as_many n last h next (inr l) (inl g) =
          let k : length (long_rests ms) ≡ length there + length past = ap length split ∙ length-append there past in
          absurd (omega (arith, over_there n g, judged_most, next (omega arith)))
      as_many n last h next (inr l) (inr g) = omega arith

  -- S is its end, where its last minute is not rest
  pub judged_there : ((i : ℕ) → suc i ≡ m → get_or ms i 0 ≡ rest → ⊥) → judged_end (prefix m ms) ≡ m
  judged_there f = trailing_judged (record {
    within = omega (arith, size);
    resting = λ i h l. absurd (omega (arith, size));
    before = λ i e z. f i e (sym (get_or-take m ms i 0 (omega arith)) ∙ z);
  })

-- ---- d minutes of rest more change neither
rest_more : (from now : ℕ) (zs : List ℕ) → ((i : ℕ) → i < length zs → get_or zs i 0 ≡ rest) → (end_from from now zs ≡ from) × (long_from from now zs ≡ [])
unfolding end_from closed_from keep
rest_more from now [] f = (refl, refl)
rest_more from now (zero ∷ zs) f = rest_more from (suc now) zs (λ i h. f (suc i) (omega arith))
rest_more from now (suc a ∷ zs) f = let e : suc a ≡ 0 = f 0 (omega arith) in absurd (omega arith)

module _ (ms : List ℕ) (m d : ℕ) (within : m + d ≤ length ms) (resting : (i : ℕ) → i < d → get_or ms (m + i) 0 ≡ rest) where
  abbrev more : List ℕ
  more = take d (drop m ms)

  all_rest : (i : ℕ) → i < length more → get_or more i 0 ≡ rest
  all_rest i h = upto (less_or_not i d)
    where
      upto : (i < d) ⊎ (d ≤ i) → get_or more i 0 ≡ rest
      upto (inl l) = get_or-take d (drop m ms) i 0 l ∙ get_or-drop m ms i 0 ∙ resting i l
      upto (inr l) = absurd (omega (arith, length-take d (drop m ms)))

  abbrev after : (end_from (judged_end (prefix m ms)) (length (prefix m ms)) more ≡ judged_end (prefix m ms)) × (long_from (judged_end (prefix m ms)) (length (prefix m ms)) more ≡ [])
  after = rest_more _ _ more all_rest

  pub judged_rested : judged_end (prefix (m + d) ms) ≡ judged_end (prefix m ms)
  judged_rested = ap judged_end (take-add m d ms) ∙ judged_append (prefix m ms) more ∙ after.0

  pub rests_rested : long_rests (prefix (m + d) ms) ≡ long_rests (prefix m ms)
  rests_rested =
      ap long_rests (take-add m d ms) ∙ long_rests_append (prefix m ms) more ∙ ap (λ (l : List Span). long_rests (prefix m ms) ++ l) after.1 ∙ append-nil _

  pub nets_rested : nets_of (prefix (m + d) ms) ≡ nets_of (prefix m ms)
  nets_rested =
      let k : length (nets_of (prefix (m + d) ms)) ≡ length (long_rests (prefix m ms)) = all_numbered (prefix (m + d) ms) ∙ ap length rests_rested in
      sym (first_nets (prefix m ms) more
      ∙ ap (λ (l : List ℕ). take (length (long_rests (prefix m ms))) (nets_of l)) (sym (take-add m d ms))
      ∙ take_all (length (long_rests (prefix m ms))) (nets_of (prefix (m + d) ms)) (omega (arith, k)))
