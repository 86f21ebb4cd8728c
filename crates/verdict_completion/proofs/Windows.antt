-- What a state knows of the weekly rests read so far is enough for rule 11: the counts of two weeks, capped at what the rule asks for.
-- Assumes nothing.
use mathlib.Core.Path.{◌≡◌, refl, sym, ap, ap₂, subst, ◌∙◌}
use mathlib.Core.Logic.{◌⊎◌, inl, inr}
use mathlib.Core.Bool.{Bool, true, false, false≢true}
use mathlib.Core.List.{List, [], ◌∷◌}
use Prim.Native.Nat.{ℕ, zero, suc, ◌+◌, ◌≤◌, ◌<◌, min}
use native.Mathlib.Nat.{eq-or-lt_of_le}
use native.Mathlib.Omega.{arith}
use lib.Dec.{leb, eqb}
use borrow.Author.Tests.{leb-true, le-leb, eqb-true, eq-eqb, ne_eqb}
use Rattle.recording.specs.Tests.{◌and◌, ◌or◌, pick, one, count_of}
use Rattle.recording.proofs.TestLaws.{and_left, and_right, or_left, is_false, same_test}
use Rattle.rules.specs.Reading.{Entry, as_read, is_weekly, is_regular}
use Rattle.rules.specs.ReadingRules.{of_kind, counted_in, weekly_at_least, regular_at_least, enough_in}
use Rattle.rules.specs.declared.Kind.{Kind}
use Rattle.rules.proofs.ReadingPrefix.{regular_weekly}
use Rattle.verdict_completion.specs.declared.Counts.{Counts}
use Rattle.verdict_completion.specs.declared.State.{State}
use Rattle.std.specs.Prelude.{None}
use Rattle.verdict_completion.specs.States.{fresh_counts, counted_more, start_state, pair_kept, next_week, advance, After, after_daily, after_weekly}

-- ---- entries that are counted alike in a week, whatever weekly rests are asked for
abbrev pub OfWeekly : (Kind → Bool) → Type 0
OfWeekly f = (m : Kind) → f m ≡ true → is_weekly m ≡ true

pub record Alike (xs ys : List Entry) (w : ℕ) : Type 0 where
  pub counts : (f : Kind → Bool) → OfWeekly f → count_of (of_kind f w) xs ≡ count_of (of_kind f w) ys

alike_trans : {xs ys zs : List Entry} {w : ℕ} → Alike xs ys w → Alike ys zs w → Alike xs zs w
alike_trans a b = record { counts = λ f o. a.counts f o ∙ b.counts f o }

-- an entry that is daily, or counted in another week
pub not_in_week : (e : Entry) (past : List Entry) (w : ℕ) → (is_weekly (as_read e) ≡ true → e.week ≡ w → ⊥) → Alike (e ∷ past) past w
unfolding count_of of_kind
not_in_week e past w h = record {
  counts = λ f o.
      rw (is_false (f (as_read e) and eqb e.week w) (λ t. h (o (as_read e) (and_left _ _ t)) (eqb-true e.week w (and_right _ _ t)))) (omega arith);
}

and-true : (b : Bool) → b and true ≡ b
unfolding ◌and◌
and-true true = refl
and-true false = refl

-- an entry in its own week
in_week : (f : Kind → Bool) (e : Entry) (past : List Entry) → count_of (of_kind f e.week) (e ∷ past) ≡ one (f (as_read e)) + count_of (of_kind f e.week) past
unfolding count_of of_kind
in_week f e past =
    let q : f (as_read e) and eqb e.week e.week ≡ f (as_read e) = rw (eq-eqb e.week e.week refl) (and-true (f (as_read e))) in
    ap (λ (b : Bool). one b + count_of (of_kind f e.week) past) q

module _ (rest_week : ℕ → Bool) where
  counted_alike : (f : Kind → Bool) → OfWeekly f → {xs ys : List Entry} {w : ℕ} → Alike xs ys w → counted_in f rest_week xs w ≡ counted_in f rest_week ys w
  unfolding counted_in
  counted_alike f o {w = w} a = ap (pick (rest_week w) 1) (a.counts f o)

  pub enough_alike : {xs ys : List Entry} (w : ℕ) → Alike xs ys w → Alike xs ys (w + 1) → enough_in rest_week xs w ≡ enough_in rest_week ys w
  unfolding enough_in
  enough_alike w a b =
      ap₂ (λ (m n : ℕ). leb weekly_at_least m and leb regular_at_least n)
      (ap₂ ◌+◌ (counted_alike is_weekly (λ m t. t) a) (counted_alike is_weekly (λ m t. t) b))
      (ap₂ ◌+◌ (counted_alike is_regular regular_weekly a) (counted_alike is_regular regular_weekly b))

  -- ---- counts are those of a week
  pub record Tallied (past : List Entry) (w : ℕ) (c : Counts) : Type 0 where
    pub weekly : min weekly_at_least (counted_in is_weekly rest_week past w) ≡ c.weekly
    pub regular : min regular_at_least (counted_in is_regular rest_week past w) ≡ c.regular

  tallied_alike : {xs ys : List Entry} {w : ℕ} {c : Counts} → Alike xs ys w → Tallied ys w c → Tallied xs w c
  tallied_alike a t = record {
    weekly = ap (min weekly_at_least) (counted_alike is_weekly (λ m u. u) a) ∙ t.weekly;
    regular = ap (min regular_at_least) (counted_alike is_regular regular_weekly a) ∙ t.regular;
  }

  -- no rest is counted yet
  fresh : (b : Bool) (k : ℕ) → 1 ≤ k → min k (pick b 1 0) ≡ one b
  fresh true k h = omega arith
  fresh false k h = omega arith

  tallied_fresh : {past : List Entry} {w : ℕ} → Alike past [] w → Tallied past w (fresh_counts (rest_week w))
  unfolding counted_in count_of
  tallied_fresh {w = w} a = record {
    weekly = ap (λ (n : ℕ). min weekly_at_least (pick (rest_week w) 1 n)) (a.counts is_weekly (λ m t. t)) ∙ fresh (rest_week w) weekly_at_least (omega arith);
    regular = ap (λ (n : ℕ). min regular_at_least (pick (rest_week w) 1 n)) (a.counts is_regular regular_weekly) ∙ fresh (rest_week w) regular_at_least (omega arith);
  }

  -- a weekly rest more
  more : (b : Bool) (k n m a x : ℕ) → m ≡ a + n → min k (pick b 1 n) ≡ x → min k (pick b 1 m) ≡ pick b x (min k (x + a))
  more true k n m a x e h = h
  more false k n m a x e h = omega arith

  more_weekly : (b regular : Bool) (c : Counts) → pick b c.weekly (min weekly_at_least (c.weekly + 1)) ≡ (counted_more b regular c).weekly
  more_weekly true regular c = refl
  more_weekly false regular c = refl

  more_regular : (b regular : Bool) (c : Counts) → pick b c.regular (min regular_at_least (c.regular + one regular)) ≡ (counted_more b regular c).regular
  more_regular true regular c = refl
  more_regular false regular c = refl

  tallied_more : {past : List Entry} {c : Counts} (e : Entry) → is_weekly (as_read e) ≡ true → Tallied past e.week c
      → Tallied (e ∷ past) e.week (counted_more (rest_week e.week) (is_regular (as_read e)) c)
  unfolding counted_in
  tallied_more {past} {c} e t k = record {
    weekly =
        more (rest_week e.week) weekly_at_least _ _ 1 _ (in_week is_weekly e past ∙ ap (λ (b : Bool). one b + count_of (of_kind is_weekly e.week) past) t) k.weekly
        ∙ more_weekly (rest_week e.week) (is_regular (as_read e)) c;
    regular =
        more (rest_week e.week) regular_at_least _ _ (one (is_regular (as_read e))) _ (in_week is_regular e past) k.regular
        ∙ more_regular (rest_week e.week) (is_regular (as_read e)) c;
  }

  -- ---- a state is what the entries read so far leave: its counts are those of its week and of the week before, no rest is counted later, and
  -- the weeks before hold enough
  pub record Seen (past : List Entry) (st : State) : Type 0 where
    pub before : (w : ℕ) → w + 1 ≡ st.week → Tallied past w st.before
    pub current : Tallied past st.week st.current
    pub later : (w : ℕ) → st.week < w → Alike past [] w
    pub closed : (w : ℕ) → w + 1 < st.week → enough_in rest_week past w ≡ true

  pub seen_start : Seen [] (start_state (rest_week 0))
  seen_start = record {
    before = λ w e. absurd (omega arith);
    current = tallied_fresh (record { counts = λ f o. refl });
    later = λ w h. record { counts = λ f o. refl };
    closed = λ w h. absurd (omega arith);
  }

  abbrev week_on : State → State
  week_on st = next_week (rest_week (st.week + 1)) st

  -- ---- rule 11 for the week before and the week reached
  capped : (k a b x y : ℕ) → min k a ≡ x → min k b ≡ y → leb k (x + y) ≡ leb k (a + b)
  capped k a b x y e h =
      same_test _ _ (λ t. le-leb k (a + b) (omega (arith, leb-true k (x + y) t))) (λ t. le-leb k (x + y) (omega (arith, leb-true k (a + b) t)))

  module _ {past : List Entry} {st : State} (seen : Seen past st) where
    pair_same : (w : ℕ) → w + 1 ≡ st.week → pair_kept st ≡ enough_in rest_week past w
    unfolding pair_kept enough_in ◌or◌
    pair_same w e =
        let b = seen.before w e in
        let c : Tallied past (w + 1) st.current = subst (λ (v : ℕ). Tallied past v st.current) (sym e) seen.current in
        rw (ne_eqb st.week 0 (λ z. omega arith))
        (ap₂ ◌and◌ (capped weekly_at_least _ _ _ _ b.weekly c.weekly) (capped regular_at_least _ _ _ _ b.regular c.regular))

    pair_kept_law : ((w : ℕ) → w + 1 ≡ st.week → enough_in rest_week past w ≡ true) → pair_kept st ≡ true
    unfolding pair_kept
    pair_kept_law h = at st.week refl
      where
        at : (n : ℕ) → n ≡ st.week → pair_kept st ≡ true
        at zero e = or_left _ _ (eq-eqb st.week 0 (sym e))
        at (suc w) e = let q : w + 1 ≡ st.week = omega arith in pair_same w q ∙ h w q

    seen_next : pair_kept st ≡ true → Seen past (week_on st)
    seen_next t = record {
      before = λ w e. let q : st.week ≡ w = omega arith in subst (λ (v : ℕ). Tallied past v st.current) q seen.current;
      current = tallied_fresh (seen.later (st.week + 1) (omega arith));
      later = λ w h. seen.later w (omega arith);
      closed = λ w h. at w (eq-or-lt_of_le (omega arith));
    }
      where
        at : (w : ℕ) → (w + 1 ≡ st.week) ⊎ (w + 1 < st.week) → enough_in rest_week past w ≡ true
        at w (inl e) = sym (pair_same w e) ∙ t
        at w (inr l) = seen.closed w l

  -- ---- n weeks on
  pub record Reached (past : List Entry) (n : ℕ) (st there : State) : Type 0 where
    pub seen : Seen past there
    pub week : there.week ≡ st.week + n
    pub ended : there.ended ≡ st.ended
    pub short : there.short ≡ st.short

  reached_next : {past : List Entry} {n : ℕ} {st there : State} → Reached past n (week_on st) there → Reached past (suc n) st there
  reached_next r = record { seen = r.seen; week = omega (arith, r.week); ended = r.ended; short = r.short }

  -- where every pair of weeks that is over holds enough, it succeeds
  pub advance_on : {past : List Entry} (n : ℕ) (st : State) (P : State → Type 0) → Seen past st
      → ((w : ℕ) → w + 1 < st.week + n → enough_in rest_week past w ≡ true)
      → ((there : State) → Reached past n st there → P there) → After (advance rest_week n st) P
  unfolding advance
  advance_on zero st P seen h k = k st (record { seen = seen; week = omega arith; ended = refl; short = refl })
  advance_on (suc n) st P seen h k =
      let t = pair_kept_law seen (λ w e. h w (omega arith)) in
      rw t (advance_on n (week_on st) P (seen_next seen t) (λ w l. h w (omega arith)) (λ there r. k there (reached_next r)))

  -- and it succeeds only there
  pub record Advanced (past : List Entry) (n : ℕ) (st : State) (P : State → Type 0) : Type 0 where
    pub there : State
    pub reached : Reached past n st there
    pub then : P there

  pub advanced : {past : List Entry} (n : ℕ) (st : State) (P : State → Type 0) → Seen past st → After (advance rest_week n st) P → Advanced past n st P
  unfolding advance
  advanced zero st P seen p = record { there = st; reached = record { seen = seen; week = omega arith; ended = refl; short = refl }; then = p }
  advanced {past} (suc n) st P seen p = at (pair_kept st) refl p (λ t q. advanced n (week_on st) P (seen_next seen t) q)
    where
      at : (b : Bool) → pair_kept st ≡ b → After (pick b (advance rest_week n (week_on st)) None) P
          → (pair_kept st ≡ true → After (advance rest_week n (week_on st)) P → Advanced past n (week_on st) P) → Advanced past (suc n) st P
      at true t q ih = let a = ih t q in record { there = a.there; reached = reached_next a.reached; then = a.then }
      at false t q ih = absurd q

  -- ---- a rest read
  pub seen_daily : {past : List Entry} {st : State} (e : Entry) (b : Bool) → is_weekly (as_read e) ≡ false → Seen past st → Seen (e ∷ past) (after_daily b st)
  seen_daily {past} e b z seen =
      let same : (w : ℕ) → Alike (e ∷ past) past w = λ w. not_in_week e past w (λ t q. false≢true (sym z ∙ t)) in
      record {
        before = λ w q. tallied_alike (same w) (seen.before w q);
        current = tallied_alike (same _) seen.current;
        later = λ w h. alike_trans (same w) (seen.later w h);
        closed = λ w h. enough_alike w (same w) (same (w + 1)) ∙ seen.closed w h;
      }

  pub seen_weekly : {past : List Entry} {st : State} (e : Entry) (end : ℕ) → is_weekly (as_read e) ≡ true → st.week ≡ e.week → Seen past st
      → Seen (e ∷ past) (after_weekly (rest_week e.week) (is_regular (as_read e)) end st)
  seen_weekly {past} {st} e end t q seen =
      let same : (w : ℕ) → (st.week ≡ w → ⊥) → Alike (e ∷ past) past w = λ w n. not_in_week e past w (λ u v. n (q ∙ v)) in
      record {
        before = λ w h. tallied_alike (same w (λ z. omega arith)) (seen.before w h);
        current =
            subst (λ (v : ℕ). Tallied (e ∷ past) v (counted_more (rest_week e.week) (is_regular (as_read e)) st.current)) (sym q)
            (tallied_more e t (subst (λ (v : ℕ). Tallied past v st.current) q seen.current));
        later = λ w h. alike_trans (same w (λ z. omega arith)) (seen.later w h);
        closed = λ w h. enough_alike w (same w (λ z. omega arith)) (same (w + 1) (λ z. omega arith)) ∙ seen.closed w h;
      }
