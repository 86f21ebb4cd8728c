-- Each part of a rest's question, as the questions that it comes to. Assumes nothing.
use mathlib.Core.Path.{◌≡◌, refl, sym, ap, subst, ◌∙◌}
use mathlib.Core.Logic.{◌⊎◌, inl, inr}
use mathlib.Core.Bool.{Bool, true, false, true≢false}
use mathlib.Core.List.{List}
use Prim.Native.Nat.{ℕ, zero, suc, ◌+◌, ◌-◌, ◌≤◌, ◌<◌}
use native.Mathlib.Nat.{le_refl, eq-zero-or-pos}
use native.Mathlib.Omega.{arith}
use lib.Dec.{leb, ltb}
use lib.ListN.{set}
use borrow.Author.Tests.{ltb-true}
use Rattle.recording.specs.Tests.{pick}
use Rattle.recording.specs.Weeks.{week_start, week_of}
use Rattle.recording.proofs.TestLaws.{less_or_not}
use Rattle.rules.specs.Reading.{regular_minutes, is_weekly}
use Rattle.rules.specs.ReadingRules.{least_net, shortened_at_most, weekly_gap}
use Rattle.rules.specs.declared.Kind.{Kind}
use Rattle.rules.specs.declared.Kind.TheVariants.{Daily, Weekly}
use Rattle.rules.specs.declared.Standing.{Standing}
use Rattle.rules.specs.declared.Standing.TheVariants.{Regular}
use Rattle.rules_items.specs.Items.{standing_for}
use Rattle.verdict_completion.specs.declared.State.{State}
use Rattle.std.specs.Prelude.{Option, None, Some}
use Rattle.verdict_completion.specs.States.{advance, After, after_daily, after_weekly}
use Rattle.verdict_completion.specs.Completable.{
  Course,
  at,
  count,
  rest_week,
  length_at,
  amount_of,
  deadline_of,
  outstanding_of,
  Overdue,
  Compensates,
  shortens,
  Closes,
  ReadDaily,
  ReadWeekly,
  Counted,
  Reads,
  Tries,
  Completable,
  Lies,
}
use Rattle.verdict_completion.specs.Better.{Within, Matched, AtRest}
use Rattle.verdict_completion.proofs.Matching.{within_self, put_at}
use Rattle.verdict_completion.proofs.Monotone.{better_self, matched_last, completable_by, regular_by, forget, recall}
use Rattle.verdict_steps.specs.Steps.{Fits, outstanding_by}
use Rattle.verdict_steps.proofs.StepLaws.{standing_reduction}
use Rattle.verdict_search.specs.Search.{Later, InSlots, FirstFrom}
use Rattle.verdict_search.proofs.Memory.{later_mono}
use Rattle.verdict_fronts.specs.Front.{entry_at}
use Rattle.verdict_search.specs.Leading.{Can, Any, CountedIn, ReadAs, TakenAs}
use Rattle.verdict_search.proofs.Leading.{Equal}

one_left : (n i : ℕ) → i < n → n - i ≡ suc (n - (i + 1))
one_left n i l = omega arith

-- ---- compensating out of a rest
-- d is the first slot from i on, below n, whose reduction fits, or n
pub record Candidate (outstanding : List ℕ) (i n compensation minutes d : ℕ) : Type 0 where
  pub low : i ≤ d
  pub high : d ≤ n
  pub passed : (x : ℕ) → i ≤ x → x < d → Fits (at outstanding x) compensation minutes → ⊥
  pub found : d < n → Fits (at outstanding d) compensation minutes

pub no_candidate : {o : List ℕ} {i n j compensation minutes : ℕ} → i ≤ n → n ≤ j → FirstFrom o i n compensation minutes None → Candidate o i j compensation minutes j
no_candidate from le w = record { low = omega (arith, from, le); high = le_refl _; passed = λ x l _. w x l; found = λ h. absurd (omega arith) }

pub some_candidate : {o : List ℕ} {i n j compensation minutes d : ℕ} → n ≤ j → FirstFrom o i n compensation minutes (Some d) → Candidate o i j compensation minutes d
some_candidate le w = record { low = w.0; high = omega (arith, w.1, le); passed = w.3; found = λ _. w.2 }

module _ (F : ℕ → List ℕ → Type 0) (minutes compensation : ℕ) (o : List ℕ) where
  abbrev pub Compensated : ℕ → ℕ → Type 0
  Compensated j d = Compensates F minutes (j - (d + 1)) (d + 1) (compensation + amount_of (at o d)) (set o d 0)

  abbrev pub Left : ℕ → ℕ → Type 0
  Left j i = Compensates F minutes (j - i) i compensation o

  compensates_in : (j i : ℕ) → i < j → ((0 < at o i) × (least_net Daily + (compensation + amount_of (at o i)) ≤ minutes) × Compensated j i) ⊎ Left j (i + 1) → Left j i
  unfolding Compensates
  compensates_in j i l h = subst (λ (m : ℕ). Compensates F minutes m i compensation o) (sym (one_left j i l)) h

  compensates_out : (j i : ℕ) → i < j → Left j i → ((0 < at o i) × (least_net Daily + (compensation + amount_of (at o i)) ≤ minutes) × Compensated j i) ⊎ Left j (i + 1)
  unfolding Compensates
  compensates_out j i l h = subst (λ (m : ℕ). Compensates F minutes m i compensation o) (one_left j i l) h

  skip : (m i d j : ℕ) → d ≡ i + m → d ≤ j → ((x : ℕ) → i ≤ x → x < d → Fits (at o x) compensation minutes → ⊥) → Left j i → Left j d
  skip zero i d j e le pass h = let q : i ≡ d = omega arith in subst (λ (x : ℕ). Left j x) q h
  skip (suc m) i d j e le pass h = go (compensates_out j i (omega arith) h) (skip m (i + 1) d j (omega arith) le (λ x l k. pass x (omega arith) k))
    where
      go : ((0 < at o i) × (least_net Daily + (compensation + amount_of (at o i)) ≤ minutes) × Compensated j i) ⊎ Left j (i + 1) → (Left j (i + 1) → Left j d) → Left j d
      go (inl q) f = absurd (pass i (le_refl _) (omega arith) (record { is_outstanding = q.0; fits = q.1 }))
      go (inr q) f = f q

  unskip : (m i d j : ℕ) → d ≡ i + m → d ≤ j → Left j d → Left j i
  unskip zero i d j e le h = let q : d ≡ i = omega arith in subst (λ (x : ℕ). Left j x) q h
  unskip (suc m) i d j e le h = compensates_in j i (omega arith) (inr (unskip m (i + 1) d j (omega arith) le h))

  module _ {i j d : ℕ} (w : Candidate o i j compensation minutes d) where
    to_candidate : Left j i → Left j d
    to_candidate h = skip (d - i) i d j (omega (arith, w.low)) w.high w.passed h

    from_candidate : Left j d → Left j i
    from_candidate h = unskip (d - i) i d j (omega (arith, w.low)) w.high h

    -- no reduction that fits is left
    pub none_fits : d ≡ j → Equal (F compensation o) (Compensates F minutes (j - i) i compensation o)
    unfolding Compensates
    none_fits e =
        let z : j - d ≡ zero = omega (arith, e) in
        record {
          to = λ p. from_candidate (subst (λ (m : ℕ). Compensates F minutes m d compensation o) (sym z) p);
          from = λ p. subst (λ (m : ℕ). Compensates F minutes m d compensation o) z (to_candidate p);
        }

    -- the reduction of slot d is compensated for, or left
    pub one_fits : d < j → Equal (Compensated j d ⊎ Left j (d + 1)) (Compensates F minutes (j - i) i compensation o)
    one_fits l = record { to = go; from = λ p. back (compensates_out j d l (to_candidate p)) }
      where
        go : Compensated j d ⊎ Left j (d + 1) → Left j i
        go (inl p) = let f = w.found l in from_candidate (compensates_in j d l (inl (f.is_outstanding, f.fits, p)))
        go (inr p) = from_candidate (compensates_in j d l (inr p))

        back : ((0 < at o d) × (least_net Daily + (compensation + amount_of (at o d)) ≤ minutes) × Compensated j d) ⊎ Left j (d + 1) → Compensated j d ⊎ Left j (d + 1)
        back (inl q) = inl q.2
        back (inr q) = inr q

  -- all reductions of the rests before j
  pub all_reductions : (j : ℕ) → Equal (Compensates F minutes (j - 0) 0 compensation o) (Compensates F minutes j 0 compensation o)
  all_reductions j =
      let e : j - 0 ≡ j = omega arith in
      record { to = λ h. subst (λ (m : ℕ). Compensates F minutes m 0 compensation o) e h; from = λ h. subst (λ (m : ℕ). Compensates F minutes m 0 compensation o) (sym e) h }

-- ---- a rest
module _ (c : Course) (lies : Lies c) where
  -- a new reduction stands in the next slot as well as in that of its own rest
  module _ {j n : ℕ} {o : List ℕ} (h : InSlots c j n o) (inside : j < count c) (a : ℕ) where
    used : (x : ℕ) → 0 < at o x → x < n
    used x is_outstanding = go (less_or_not x n)
      where
        go : (x < n) ⊎ (n ≤ x) → x < n
        go (inl l) = l
        go (inr l) = absurd (omega (arith, is_outstanding, h.unused x l))

    matched_self : Matched (count c) j o o
    matched_self = record {
      long = h.one_each;
      to = λ x. x;
      below = λ x is_outstanding. omega (arith, used x is_outstanding, h.below);
      to_below = λ x is_outstanding. omega (arith, used x is_outstanding, h.below);
      within = λ x is_outstanding. within_self is_outstanding;
      apart = λ x y _ _ e. e;
    }

    itself : (a ≡ 0) ⊎ Within a a
    itself = go (eq-zero-or-pos a)
      where
        go : (a ≡ 0) ⊎ (0 < a) → (a ≡ 0) ⊎ Within a a
        go (inl z) = inl z
        go (inr l) = inr (within_self l)

    next_slot : Matched (count c) (j + 1) (set o n a) (set o j a)
    unfolding matched_self
    next_slot =
        put_at matched_self (j + 1) n j a a (λ x is_outstanding e. let q : x ≡ j = e in omega (arith, used x is_outstanding, h.below)) (omega arith) (omega (arith, h.below))
        (omega arith) inside itself

    own_slot : Matched (count c) (j + 1) (set o j a) (set o n a)
    unfolding matched_self
    own_slot =
        put_at matched_self (j + 1) j n a a (λ x is_outstanding e. let q : x ≡ n = e in omega (arith, used x is_outstanding)) (omega arith) (omega arith) (omega (arith, h.below))
        (omega (arith, h.below)) itself

    pub in_next_slot : (st : State) → Equal (Later c j st (set o n a)) (Later c j st (set o j a))
    in_next_slot st =
        let m : count c - (j + 1) + (j + 1) ≡ count c = omega arith in
        record {
          to = completable_by c (matched_last c) lies (count c - (j + 1)) (j + 1) st st (set o j a) (set o n a) m (better_self st) own_slot;
          from = completable_by c (matched_last c) lies (count c - (j + 1)) (j + 1) st st (set o n a) (set o j a) m (better_self st) next_slot;
        }

  -- a reduction that is due after S is left out
  pub left_out : (j : ℕ) (st : State) (o : List ℕ) (a d : ℕ) → j < count c → a ≡ pick (ltb c.judged (deadline_of d)) 0 d
      → Equal (Later c j st (set o j a)) (Later c j st (set o j d))
  left_out j st o a d l e = go (ltb c.judged (deadline_of d)) refl e
    where
      go : (t : Bool) → ltb c.judged (deadline_of d) ≡ t → a ≡ pick t 0 d → Equal (Later c j st (set o j a)) (Later c j st (set o j d))
      go true q z =
          let after = ltb-true c.judged (deadline_of d) q in
          let m : count c - (j + 1) + (j + 1) ≡ count c = omega arith in
          record {
            to = λ k. recall c lies (count c - (j + 1)) (j + 1) st o j d m after (subst (λ (x : ℕ). Later c j st (set o j x)) z k);
            from = λ k. subst (λ (x : ℕ). Later c j st (set o j x)) (sym z) (forget c lies (count c - (j + 1)) (j + 1) st o j d m after k);
          }
      go false q z = record { to = λ k. subst (λ (x : ℕ). Later c j st (set o j x)) z k; from = λ k. subst (λ (x : ℕ). Later c j st (set o j x)) (sym z) k }

  module _ (j : ℕ) (st : State) (o : List ℕ) where
    abbrev Step : Type 0
    Step =
        (at c.starts j ≤ st.ended + weekly_gap)
        × (Overdue o (at c.ends j) → ⊥)
        × After (advance (rest_week c) (week_of (at c.starts j) - st.week) st) (λ here. Tries c (Later c j) j here o)

    abbrev StepBy : ℕ → Type 0
    StepBy i =
        (at c.starts j ≤ st.ended + weekly_gap)
        × (Overdue o (at c.ends j) → ⊥)
        × After (advance (rest_week c) (week_of (at c.starts j) - st.week) st) (λ here. Tries c (Completable c (count c - (j + 1)) i) j here o)

    step_in : j < count c → Step → Completable c (count c - j) j st o
    unfolding Completable
    step_in l h =
        let e : j + 1 ≡ suc j = omega arith in
        subst (λ (m : ℕ). Completable c m j st o) (sym (one_left (count c) j l)) (subst StepBy e h)

    step_out : j < count c → Completable c (count c - j) j st o → Step
    unfolding Completable
    step_out l h =
        let e : suc j ≡ j + 1 = omega arith in
        subst StepBy e (subst (λ (m : ℕ). Completable c m j st o) (one_left (count c) j l) h)

    -- a rest starts too late, or a reduction is overdue, or two weeks break rule 11
    pub too_late : j < count c → st.ended + weekly_gap < at c.starts j → Completable c (count c - j) j st o → ⊥
    too_late l h k = omega (arith, (step_out l k).0)

    pub is_overdue : j < count c → Overdue o (at c.ends j) → Completable c (count c - j) j st o → ⊥
    is_overdue l h k = (step_out l k).1 h

    pub pair_broken : {b : Option State} → j < count c → b ≡ advance (rest_week c) (week_of (at c.starts j) - st.week) st → b ≡ None
        → Completable c (count c - j) j st o → ⊥
    pair_broken l e g k = subst (λ (x : Option State). After x (λ here. Tries c (Later c j) j here o)) (sym e ∙ g) (step_out l k).2

    -- all rests are read
    pub closed : j ≡ count c → Equal (Closes c st o) (Completable c (count c - j) j st o)
    unfolding Completable
    closed e =
        let z : count c - j ≡ zero = omega (arith, e) in
        record { to = λ h. subst (λ (m : ℕ). Completable c m j st o) (sym z) h; from = λ h. subst (λ (m : ℕ). Completable c m j st o) z h }

    pub goes_on : {b : Option State} (here : State) → j < count c → at c.starts j ≤ st.ended + weekly_gap → (Overdue o (at c.ends j) → ⊥)
        → b ≡ advance (rest_week c) (week_of (at c.starts j) - st.week) st → b ≡ Some here → Equal (Tries c (Later c j) j here o) (Completable c (count c - j) j st o)
    goes_on here l near deadline e g = record {
      to = λ t. step_in l (near, deadline, subst (λ (x : Option State). After x (λ y. Tries c (Later c j) j y o)) (sym g ∙ e) t);
      from = λ k. subst (λ (x : Option State). After x (λ y. Tries c (Later c j) j y o)) (sym e ∙ g) (step_out l k).2;
    }

  module _ (j : ℕ) (here : State) (o : List ℕ) (compensation : ℕ) where
    -- the rest is too short net of the compensation
    pub too_short : length_at c j < least_net Daily + compensation → Reads c (Later c j) j here compensation o → ⊥
    too_short l (inl h) = omega (arith, h.net)
    too_short l (inr h) = omega (arith, h.net)

    -- a rest that can be a regular weekly one need not be daily
    pub as_regular : AtRest c j here → regular_minutes + compensation ≤ length_at c j → Equal (ReadWeekly c (Later c j) j here compensation o) (Reads c (Later c j) j here compensation o)
    as_regular k fits = record { to = inr; from = go }
      where
        go : Reads c (Later c j) j here compensation o → ReadWeekly c (Later c j) j here compensation o
        go (inl d) = regular_by c lies (Later c j) (later_mono c lies j k.within) j here compensation o k fits d
        go (inr w) = w

    -- one that is too short for a weekly rest is daily
    pub as_short : length_at c j < least_net (Weekly Regular) + compensation → Equal (ReadDaily c (Later c j) j here compensation o) (Reads c (Later c j) j here compensation o)
    as_short l = record { to = inl; from = go }
      where
        go : Reads c (Later c j) j here compensation o → ReadDaily c (Later c j) j here compensation o
        go (inl d) = d
        go (inr w) = absurd (omega (arith, w.net))

    module _ {b : Bool} {next : State} (e : b ≡ shortens c j compensation) (f : next ≡ after_daily b here) where
      next_daily : next ≡ after_daily (shortens c j compensation) here
      next_daily = f ∙ ap (λ (x : Bool). after_daily x here) e

      pub too_many : shortened_at_most < next.short → ReadDaily c (Later c j) j here compensation o → ⊥
      too_many l h = omega (arith, h.few, ap (λ (x : State). x.short) next_daily)

      pub as_daily : least_net Daily + compensation ≤ length_at c j → next.short ≤ shortened_at_most → Equal (Later c j next o) (ReadDaily c (Later c j) j here compensation o)
      as_daily net l = record {
        to = λ k. record {
          net = net;
          few = omega (arith, l, ap (λ (x : State). x.short) next_daily);
          then = subst (λ (x : State). Later c j x o) next_daily k;
        };
        from = λ k. subst (λ (x : State). Later c j x o) (sym next_daily) k.then;
      }

    module _ (w : ℕ) (rest regular : Bool) {b : Option State} {there next : State} (e : b ≡ advance (rest_week c) (w - here.week) here) (g : b ≡ Some there)
        (f : next ≡ after_weekly rest regular (at c.ends j) there) where
      pub as_counted : rest ≡ rest_week c w → regular ≡ leb (regular_minutes + compensation) (length_at c j)
          → Equal (Later c j next (set o j (outstanding_of (length_at c j) compensation w))) (Counted c (Later c j) j here w compensation o)
      as_counted u v =
          let left = set o j (outstanding_of (length_at c j) compensation w) in
          let q : next ≡ after_weekly (rest_week c w) (leb (regular_minutes + compensation) (length_at c j)) (at c.ends j) there
          = f ∙ ap (λ (x : Bool). after_weekly x regular (at c.ends j) there) u ∙ ap (λ (x : Bool). after_weekly (rest_week c w) x (at c.ends j) there) v in
          record {
            to = λ k. subst (λ (x : Option State). After x (λ y. Later c j (after_weekly (rest_week c w) (leb (regular_minutes + compensation) (length_at c j)) (at c.ends j) y) left)) (sym g ∙ e)
                (subst (λ (x : State). Later c j x left) q k);
            from = λ k. subst (λ (x : State). Later c j x left) (sym q)
                (subst (λ (x : Option State). After x (λ y. Later c j (after_weekly (rest_week c w) (leb (regular_minutes + compensation) (length_at c j)) (at c.ends j) y) left)) (sym e ∙ g) k);
          }

    pub not_counted : (w : ℕ) {b : Option State} → b ≡ advance (rest_week c) (w - here.week) here → b ≡ None → Counted c (Later c j) j here w compensation o → ⊥
    not_counted w e g h =
        subst (λ (x : Option State). After x (λ y. Later c j (after_weekly (rest_week c w) (leb (regular_minutes + compensation) (length_at c j)) (at c.ends j) y)
        (set o j (outstanding_of (length_at c j) compensation w))))
        (sym e ∙ g) h

-- ---- the weeks of a rest
module _ (c : Course) (K : State → List ℕ → Type 0) (j : ℕ) (here : State) (compensation : ℕ) (o : List ℕ) where
  pub no_week : (v : ℕ) → CountedIn c K j here compensation o v v → ⊥
  no_week v h = omega (arith, h.low, h.high)

  pub one_week : (v w : ℕ) → v ≤ w → Equal (CountedIn c K j here compensation o v w ⊎ Counted c K j here w compensation o) (CountedIn c K j here compensation o v (w + 1))
  one_week v w l = record { to = go; from = λ h. back h (less_or_not h.week w) }
    where
      go : CountedIn c K j here compensation o v w ⊎ Counted c K j here w compensation o → CountedIn c K j here compensation o v (w + 1)
      go (inl h) = record { week = h.week; low = h.low; high = omega (arith, h.high); counted = h.counted }
      go (inr h) = record { week = w; low = l; high = omega arith; counted = h }

      back : (h : CountedIn c K j here compensation o v (w + 1)) → (h.week < w) ⊎ (w ≤ h.week) → CountedIn c K j here compensation o v w ⊎ Counted c K j here w compensation o
      back h (inl m) = inl (record { week = h.week; low = h.low; high = m; counted = h.counted })
      back h (inr m) = let e : h.week ≡ w = omega (arith, h.high) in inr (subst (λ (x : ℕ). Counted c K j here x compensation o) e h.counted)

  pub a_week : (v w : ℕ) → least_net (Weekly Regular) + compensation ≤ length_at c j → v ≡ week_of (at c.starts j) → (week_start (w - 1) < at c.ends j) ⊎ (w ≤ v)
      → CountedIn c K j here compensation o v w → ReadWeekly c K j here compensation o
  a_week v w net e s h = record { net = net; week = h.week; from = omega (arith, h.low, e); upto = go s; then = h.counted }
    where
      go : (week_start (w - 1) < at c.ends j) ⊎ (w ≤ v) → week_start h.week < at c.ends j
      go (inl l) = omega (arith, h.high)
      go (inr l) = absurd (omega (arith, h.low, h.high))

  pub all_weeks : (v w : ℕ) → v ≡ week_of (at c.starts j) → at c.ends j ≤ week_start w → ReadWeekly c K j here compensation o → CountedIn c K j here compensation o v w
  all_weeks v w e l h = record { week = h.week; low = omega (arith, h.from, e); high = omega (arith, h.upto, l); counted = h.then }

-- ---- the entries of a front
module _ (c : Course) (j : ℕ) (t : List ℕ) where
  pub no_entry : Any c j t 0 → ⊥
  no_entry h = omega (arith, h.below)

  pub one_entry : (e : ℕ) → Equal (Any c j t e ⊎ Can c j t (entry_at e)) (Any c j t (e + 1))
  one_entry e = record { to = go; from = λ h. back h (less_or_not h.entry e) }
    where
      go : Any c j t e ⊎ Can c j t (entry_at e) → Any c j t (e + 1)
      go (inl h) = record { entry = h.entry; below = omega (arith, h.below); can = h.can }
      go (inr h) = record { entry = e; below = omega arith; can = h }

      back : (h : Any c j t (e + 1)) → (h.entry < e) ⊎ (e ≤ h.entry) → Any c j t e ⊎ Can c j t (entry_at e)
      back h (inl m) = inl (record { entry = h.entry; below = m; can = h.can })
      back h (inr m) = let q : h.entry ≡ e = omega (arith, h.below) in inr (subst (λ (x : ℕ). Can c j t (entry_at x)) q h.can)

-- ---- a rest read as of a kind
module _ (c : Course) (K : State → List ℕ → Type 0) (j : ℕ) (here : State) (compensation : ℕ) {kind : Kind} (o : List ℕ) where
  pub read_daily : kind ≡ Daily → Equal (ReadAs c K j here compensation kind o) (ReadDaily c K j here compensation o)
  read_daily e = record {
    to = λ h. subst (λ (x : Kind). ReadAs c K j here compensation x o) e h;
    from = λ h. subst (λ (x : Kind). ReadAs c K j here compensation x o) (sym e) h;
  }

  pub read_weekly : {standing : Standing} → kind ≡ Weekly standing → Equal (ReadAs c K j here compensation kind o) (ReadWeekly c K j here compensation o)
  read_weekly e = record {
    to = λ h. subst (λ (x : Kind). ReadAs c K j here compensation x o) e h;
    from = λ h. subst (λ (x : Kind). ReadAs c K j here compensation x o) (sym e) h;
  }

standing_in : Kind → Standing
standing_in Daily = Regular
standing_in (Weekly standing) = standing

module _ (c : Course) (j compensation : ℕ) {kind : Kind} where
  pub taken_daily : kind ≡ Daily → TakenAs c j compensation kind → least_net Daily + compensation ≤ length_at c j
  taken_daily e (TakenAs.daily _ n) = n
  taken_daily e (TakenAs.weekly _ n) = omega (arith, n)

  pub taken_standing : {standing : Standing} → kind ≡ Weekly standing → TakenAs c j compensation kind → standing ≡ standing_for (length_at c j) compensation
  unfolding standing_in
  taken_standing e (TakenAs.daily d _) = absurd (true≢false (ap is_weekly (sym e ∙ d)))
  taken_standing e (TakenAs.weekly w _) = ap standing_in (sym e ∙ w)

  pub taken_weekly : {standing : Standing} → kind ≡ Weekly standing → TakenAs c j compensation kind → least_net (Weekly Regular) + compensation ≤ length_at c j
  taken_weekly e (TakenAs.daily d _) = absurd (true≢false (ap is_weekly (sym e ∙ d)))
  taken_weekly e (TakenAs.weekly _ n) = n

-- the reduction of its standing is that of the question
pub is_outstanding-as : (c : Course) (j : ℕ) (st : State) (o : List ℕ) (compensation w : ℕ) {standing : Standing} → standing ≡ standing_for (length_at c j) compensation
    → Equal (Later c j st (set o j (outstanding_by standing w))) (Later c j st (set o j (outstanding_of (length_at c j) compensation w)))
is_outstanding-as c j st o compensation w {standing} e =
    let q : outstanding_by standing w ≡ outstanding_of (length_at c j) compensation w = ap (λ (x : Standing). outstanding_by x w) e ∙ standing_reduction (length_at c j) compensation w in
    record { to = λ h. subst (λ (x : ℕ). Later c j st (set o j x)) q h; from = λ h. subst (λ (x : ℕ). Later c j st (set o j x)) (sym q) h }
