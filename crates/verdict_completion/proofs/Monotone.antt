-- A state that is at least as good can complete what another can; and what follows from that: a rest that can be a regular weekly one need not
-- be daily, and a reduction that is due after S needs nothing.
-- Assumes nothing.
use mathlib.Core.Path.{◌≡◌, refl, sym, ap, subst, ◌∙◌}
use mathlib.Core.Logic.{◌⊎◌, inl, inr}
use mathlib.Core.Bool.{Bool, true, false, false≢true}
use mathlib.Core.List.{List}
use Prim.Native.Nat.{ℕ, zero, suc, ◌+◌, ◌-◌, ◌*◌, ◌≤◌, ◌<◌, min, zero-le}
use native.Mathlib.Nat.{le_refl, le_trans, eq-zero-or-pos}
use native.Mathlib.Omega.{arith}
use lib.Dec.{leb, eqb}
use lib.ListN.{length, set, length-set}
use lib.Seq.{get_or-set_same, get_or-set_other, set_out, set-get_or}
use borrow.Author.Tests.{leb-true, leb-false, le-leb, ltb-true, lt-ltb, eqb-true, eq-eqb}
use Rattle.recording.specs.Tests.{◌and◌, pick, one}
use Rattle.recording.specs.Weeks.{week_start, week_of}
use Rattle.recording.proofs.TestLaws.{and_left, and_right, and_both, or_cases, or_left, or_right, one_most, less_or_not}
use Rattle.rules.specs.Reading.{regular_minutes}
use Rattle.rules.specs.ReadingRules.{least_net, weeks_to_compensate, shortened_at_most, weekly_at_least, regular_at_least}
use Rattle.rules.specs.declared.Kind.TheVariants.{Weekly}
use Rattle.rules.specs.declared.Standing.TheVariants.{Regular}
use Rattle.verdict_completion.specs.declared.State.{State}
use Rattle.std.specs.Prelude.{Option, None}
use Rattle.verdict_completion.specs.States.{pair_kept, next_week, advance, After, after_daily, after_weekly}
use Rattle.verdict_completion.specs.Completable.{Course, at, count, rest_week, length_at, reduction_unit, amount_of, deadline_of}
use Rattle.verdict_completion.specs.Completable.{outstanding_of, Overdue, Compensates, shortens, ReadDaily, ReadWeekly, Reads, Tries}
use Rattle.verdict_completion.specs.Completable.{Completable, Lies, Stands}
use Rattle.verdict_completion.specs.Better.{Milder, none, free, some, Reductions, Within, Matched, Better, Small, AtRest}
use Rattle.verdict_completion.proofs.Matching.{same_or_not, matched_on, matched_overdue, put_at, matched_compensates}

-- ---- reductions
module _ (s : ℕ) where
  pub milder_self : (a : ℕ) → Milder s a a
  milder_self a = go (eq-zero-or-pos a)
    where
      go : (a ≡ 0) ⊎ (0 < a) → Milder s a a
      go (inl z) = none z
      go (inr h) = some h (le_refl _) (le_refl _)

  pub reductions_self : (o : List ℕ) → Reductions s o o
  reductions_self o = record { long = refl; each = λ i. milder_self (at o i) }

  milder_same : {a b a' b' : ℕ} → a' ≡ a → b' ≡ b → Milder s a b → Milder s a' b'
  milder_same {a} {b} {a'} {b'} e f m = subst (λ (x : ℕ). Milder s x b') (sym e) (subst (λ (y : ℕ). Milder s a y) (sym f) m)

  -- a store on both sides
  pub set_both : {o p : List ℕ} (i : ℕ) {a b : ℕ} → Reductions s o p → Milder s a b → Reductions s (set o i a) (set p i b)
  set_both {o} {p} i {a} {b} d m = record {
    long = length-set o i a ∙ d.long ∙ sym (length-set p i b);
    each = λ x. go x (same_or_not x i);
  }
    where
      here : (i < length o) ⊎ (length o ≤ i) → Milder s (at (set o i a) i) (at (set p i b) i)
      here (inl h) = milder_same (get_or-set_same o i a 0 h) (get_or-set_same p i b 0 (omega (arith, d.long))) m
      here (inr h) = milder_same (ap (λ (l : List ℕ). at l i) (set_out o i a h)) (ap (λ (l : List ℕ). at l i) (set_out p i b (omega (arith, d.long)))) (d.each i)

      go : (x : ℕ) → (x ≡ i) ⊎ (x ≡ i → ⊥) → Milder s (at (set o i a) x) (at (set p i b) x)
      go x (inl e) = milder_same (ap (at (set o i a)) e) (ap (at (set p i b)) e) (here (less_or_not i (length o)))
      go x (inr n) = milder_same (get_or-set_other o i x a 0 n) (get_or-set_other p i x b 0 n) (d.each x)

  -- one side stays as it is
  set_right : {o p : List ℕ} (i b : ℕ) → Reductions s o p → Milder s (at o i) b → Reductions s o (set p i b)
  set_right {o} {p} i b d m = subst (λ (l : List ℕ). Reductions s l (set p i b)) (set-get_or o i 0) (set_both i d m)

  pub set_left : {o p : List ℕ} (i a : ℕ) → Reductions s o p → Milder s a (at p i) → Reductions s (set o i a) p
  set_left {o} {p} i a d m = subst (λ (l : List ℕ). Reductions s (set o i a) l) (set-get_or p i 0) (set_both i d m)

  -- nothing outstanding is no worse than anything

  -- a reduction that is no worse than one that is compensated for is left, or is no more
  data Settled (a b : ℕ) : Type 0 where
    leave : Milder s a 0 → Settled a b
    settle : 0 < a → amount_of a ≤ amount_of b → Settled a b

  settled : {a b : ℕ} → Milder s a b → Settled a b
  settled (none z) = leave (none z)
  settled (free h) = leave (free h)
  settled {a} {b} (some p q r) = go (eq-zero-or-pos a)
    where
      go : (a ≡ 0) ⊎ (0 < a) → Settled a b
      go (inl z) = leave (none z)
      go (inr h) = settle h q

  overdue_one : {a b : ℕ} (t : ℕ) → t ≤ s + 1 → Milder s a b → 0 < a → deadline_of a < t → (0 < b) × (deadline_of b < t)
  overdue_one t le (none z) h k = absurd (omega arith)
  overdue_one t le (free f) h k = absurd (omega arith)
  overdue_one t le (some p q r) h k = (p, omega arith)

  pub overdue_mono : {o p : List ℕ} (t : ℕ) → t ≤ s + 1 → Reductions s o p → Overdue o t → Overdue p t
  unfolding Overdue
  overdue_mono t le d h = let q = overdue_one t le (d.each h.0) h.1 h.2 in (h.0, q.0, q.1)

  module _ (F G : ℕ → List ℕ → Type 0) (minutes : ℕ) (mono : (a b : ℕ) (o p : List ℕ) → a ≤ b → Reductions s o p → G b p → F a o) where
    pub compensates_mono : (m i a b : ℕ) {o p : List ℕ} → a ≤ b → Reductions s o p → Compensates G minutes m i b p → Compensates F minutes m i a o
    unfolding Compensates
    compensates_mono zero i a b {o} {p} le d h = mono a b o p le d h
    compensates_mono (suc m) i a b {o} {p} le d (inr h) = inr (compensates_mono m (i + 1) a b le d h)
    compensates_mono (suc m) i a b {o} {p} le d (inl h) =
        go (settled (d.each i))
        (λ l e. compensates_mono m (i + 1) a (b + amount_of (at p i)) l e h.2)
        (λ l e. compensates_mono m (i + 1) (a + amount_of (at o i)) (b + amount_of (at p i)) l e h.2)
      where
        go : Settled (at o i) (at p i)
            → (a ≤ b + amount_of (at p i) → Reductions s o (set p i 0) → Compensates F minutes m (i + 1) a o)
            → (a + amount_of (at o i) ≤ b + amount_of (at p i) → Reductions s (set o i 0) (set p i 0) → Compensates F minutes m (i + 1) (a + amount_of (at o i)) (set o i 0))
            → Compensates F minutes (suc m) i a o
        go (leave z) f g = inr (f (omega arith) (set_right i 0 d z))
        go (settle q e) f g = inl (q, omega (arith, h.1), g (omega arith) (set_both i d (none refl)))

-- ---- states and weeks
pub better_self : (x : State) → Better x x
better_self x = record {
  week = refl;
  ended = le_refl _;
  short = le_refl _;
  weekly_before = le_refl _;
  regular_before = le_refl _;
  weekly = le_refl _;
  regular = le_refl _;
}

pair_mono : {x y : State} → Better x y → pair_kept y ≡ true → pair_kept x ≡ true
unfolding pair_kept
pair_mono {x} {y} b t = go (or_cases _ _ t)
  where
    go : (eqb y.week 0 ≡ true)
        ⊎ (leb weekly_at_least (y.before.weekly + y.current.weekly) and leb regular_at_least (y.before.regular + y.current.regular) ≡ true)
        → pair_kept x ≡ true
    go (inl z) = or_left _ _ (eq-eqb x.week 0 (b.week ∙ eqb-true y.week 0 z))
    go (inr z) =
        let u = leb-true weekly_at_least (y.before.weekly + y.current.weekly) (and_left _ _ z) in
        let v = leb-true regular_at_least (y.before.regular + y.current.regular) (and_right _ _ z) in
        or_right (eqb x.week 0) _
        (and_both _ _ (le-leb weekly_at_least (x.before.weekly + x.current.weekly) (omega (arith, b.weekly_before, b.weekly)))
        (le-leb regular_at_least (x.before.regular + x.current.regular) (omega (arith, b.regular_before, b.regular))))

module _ (rest_week : ℕ → Bool) where
  next_better : {x y : State} → Better x y → Better (next_week (rest_week (x.week + 1)) x) (next_week (rest_week (y.week + 1)) y)
  next_better {x} {y} b =
      let e : one (rest_week (y.week + 1)) ≡ one (rest_week (x.week + 1)) = ap (λ (n : ℕ). one (rest_week (n + 1))) (sym b.week) in
      record {
        week = ap (λ (n : ℕ). n + 1) b.week;
        ended = b.ended;
        short = b.short;
        weekly_before = b.weekly;
        regular_before = b.regular;
        weekly = omega (arith, e);
        regular = omega (arith, e);
      }

  after_pick : (P Q : State → Type 0) (s t : Bool) (u v : Option State) → (t ≡ true → s ≡ true) → (After v Q → After u P) → After (pick t v None) Q
      → After (pick s u None) P
  after_pick P Q true true u v f g h = g h
  after_pick P Q false true u v f g h = absurd (false≢true (f refl))
  after_pick P Q s false u v f g h = absurd h

  -- what a better state is brought to is better
  pub advance_mono : (P Q : State → Type 0) (n : ℕ) {x y : State} → Better x y → ((x' y' : State) → Better x' y' → Q y' → P x')
      → After (advance rest_week n y) Q → After (advance rest_week n x) P
  unfolding advance
  advance_mono P Q zero {x} {y} b f h = f x y b h
  advance_mono P Q (suc n) {x} {y} b f h = after_pick P Q (pair_kept x) (pair_kept y) _ _ (pair_mono b) (advance_mono P Q n (next_better b) f) h

  -- what an advance keeps
  pub record Carried (n : ℕ) (st there : State) : Type 0 where
    pub week : there.week ≡ st.week + n
    pub ended : there.ended ≡ st.ended
    pub short : there.short ≡ st.short
    pub small : Small there

  next_small : (b : Bool) {st : State} → Small st → Small (next_week b st)
  next_small b h = record {
    short = h.short;
    weekly_before = h.weekly;
    regular_before = h.regular;
    weekly = le_trans (one_most b) (omega arith);
    regular = one_most b;
  }

  carried_on : (n : ℕ) (b : Bool) (st there : State) → Carried n (next_week b st) there → Carried (suc n) st there
  carried_on n b st there h = record { week = omega (arith, h.week); ended = h.ended; short = h.short; small = h.small }

  after_if : (P Q : State → Type 0) (t : Bool) (u : Option State) → (After u Q → After u P) → After (pick t u None) Q → After (pick t u None) P
  after_if P Q true u f h = f h
  after_if P Q false u f h = absurd h

  -- what follows of an advanced state may take that it is such
  pub advanced : (P Q : State → Type 0) (n : ℕ) {st : State} → Small st → ((there : State) → Carried n st there → Q there → P there)
      → After (advance rest_week n st) Q → After (advance rest_week n st) P
  unfolding advance
  advanced P Q zero {st} h f a = f st (record { week = omega arith; ended = refl; short = refl; small = h }) a
  advanced P Q (suc n) {st} h f a =
      after_if P Q (pair_kept st) _
      (advanced P Q n (next_small (rest_week (st.week + 1)) h) (λ there k q. f there (carried_on n (rest_week (st.week + 1)) st there k) q)) a

-- ---- a rest
least : (n a b : ℕ) → a ≤ b → min n a ≤ min n b
least n a b le = omega arith

one_mono : (s t : Bool) → (s ≡ true → t ≡ true) → one s ≤ one t
one_mono true t f = rw (f refl) (le_refl _)
one_mono false t f = zero-le

short_mono : (c : Course) (j a b : ℕ) → a ≤ b → one (shortens c j a) ≤ one (shortens c j b)
short_mono c j a b le =
    one_mono (shortens c j a) (shortens c j b)
    (λ t. lt-ltb (length_at c j) (at c.nets j + b) (omega (arith, ltb-true (length_at c j) (at c.nets j + a) t)))

daily_better : {x y : State} (s t : Bool) → one s ≤ one t → Better x y → Better (after_daily s x) (after_daily t y)
daily_better s t le b = record {
  week = b.week;
  ended = b.ended;
  short = omega (arith, b.short);
  weekly_before = b.weekly_before;
  regular_before = b.regular_before;
  weekly = b.weekly;
  regular = b.regular;
}

weekly_better : {x y : State} (rest_week s t : Bool) (end : ℕ) → one t ≤ one s → Better x y → Better (after_weekly rest_week s end x) (after_weekly rest_week t end y)
weekly_better true s t end le b = record {
  week = b.week;
  ended = le_refl _;
  short = zero-le;
  weekly_before = b.weekly_before;
  regular_before = b.regular_before;
  weekly = b.weekly;
  regular = b.regular;
}
weekly_better false s t end le b = record {
  week = b.week;
  ended = le_refl _;
  short = zero-le;
  weekly_before = b.weekly_before;
  regular_before = b.regular_before;
  weekly = least weekly_at_least _ _ (omega (arith, b.weekly));
  regular = least regular_at_least _ _ (omega (arith, b.regular));
}

-- less given as compensation leaves no reduction, or one within the other
reduction_mono : (minutes w a b : ℕ) → a ≤ b → least_net (Weekly Regular) + b ≤ minutes → (outstanding_of minutes a w ≡ 0) ⊎ Within (outstanding_of minutes a w) (outstanding_of minutes b w)
unfolding outstanding_of
reduction_mono minutes w a b le net = go (leb (regular_minutes + a) minutes) (leb (regular_minutes + b) minutes) refl refl
  where
    go : (t u : Bool) → leb (regular_minutes + a) minutes ≡ t → leb (regular_minutes + b) minutes ≡ u
        → (pick t 0 ((w + weeks_to_compensate) * reduction_unit + (regular_minutes + a - minutes)) ≡ 0)
        ⊎ Within (pick t 0 ((w + weeks_to_compensate) * reduction_unit + (regular_minutes + a - minutes)))
        (pick u 0 ((w + weeks_to_compensate) * reduction_unit + (regular_minutes + b - minutes)))
    go true u e f = inl refl
    go false true e f = absurd (omega (arith, leb-false (regular_minutes + a) minutes e, leb-true (regular_minutes + b) minutes f))
    go false false e f = inr (record { is_outstanding = omega arith; less = omega arith; later = omega arith })

-- ---- a comparison of reductions that lasts
-- R compares what is outstanding before the rest of an index. It lasts: when that rest leaves nothing new outstanding, or something on both sides; where a reduction is overdue, one is on
-- the other side too; and what can be compensated for on the other side can be.
pub record Lasting (c : Course) (R : ℕ → List ℕ → List ℕ → Type 0) : Type 1 where
  pub on : (j : ℕ) {o p : List ℕ} → R j o p → R (suc j) o p
  pub put : (j a b : ℕ) {o p : List ℕ} → j < count c → R j o p → (a ≡ 0) ⊎ Within a b → R (suc j) (set o j a) (set p j b)
  pub overdue : (j t : ℕ) {o p : List ℕ} → t ≤ c.judged + 1 → R j o p → Overdue o t → Overdue p t
  pub compensates : (j : ℕ) (F G : ℕ → List ℕ → Type 0) (minutes : ℕ) → ((a b : ℕ) (o p : List ℕ) → a ≤ b → R j o p → G b p → F a o) → (a b : ℕ) {o p : List ℕ} → a ≤ b → R j o p
      → Compensates G minutes j 0 b p → Compensates F minutes j 0 a o

milder_of : (s : ℕ) {a b : ℕ} → (a ≡ 0) ⊎ Within a b → Milder s a b
milder_of s (inl z) = none z
milder_of s (inr w) = some w.is_outstanding w.less w.later

-- reductions compared by the rest that was reduced, and whatever rests they are of
reductions_last : (c : Course) → Lasting c (λ _. Reductions c.judged)
reductions_last c = record {
  on = λ j d. d;
  put = λ j a b _ d m. set_both c.judged j d (milder_of c.judged m);
  overdue = λ j t le d. overdue_mono c.judged t le d;
  compensates = λ j F G minutes mono a b le d h. compensates_mono c.judged F G minutes mono j 0 a b le d h;
}

pub matched_last : (c : Course) → Lasting c (Matched (count c))
matched_last c = record {
  on = λ j d. matched_on d;
  put = λ j a b l d m. put_at d (suc j) j j a b (λ x h e. omega (arith, d.to_below x h)) (omega arith) (omega arith) (omega arith) l m;
  overdue = λ j t le d. matched_overdue d t;
  compensates = λ j F G minutes mono a b le d h. matched_compensates F G minutes mono j 0 a b le d h;
}

module _ (c : Course) {R : ℕ → List ℕ → List ℕ → Type 0} (lasting : Lasting c R) where
  -- what follows can do at least as much from what is at least as good
  abbrev pub MonoBy : ℕ → (State → List ℕ → Type 0) → Type 0
  MonoBy j K = (x y : State) (o p : List ℕ) → Better x y → R j o p → K y p → K x o

  module _ (K : State → List ℕ → Type 0) (j : ℕ) (inside : j < count c) (mono : MonoBy (suc j) K) {x y : State} (better : Better x y) where
    daily_mono : (a b : ℕ) (o p : List ℕ) → a ≤ b → R j o p → ReadDaily c K j y b p → ReadDaily c K j x a o
    daily_mono a b o p le d h =
        let e = short_mono c j a b le in
        record {
          net = omega (arith, h.net);
          few = omega (arith, h.few, e, better.short);
          then = mono _ _ o p (daily_better (shortens c j a) (shortens c j b) e better) (lasting.on j d) h.then;
        }

    weekly_mono : (a b : ℕ) (o p : List ℕ) → a ≤ b → R j o p → ReadWeekly c K j y b p → ReadWeekly c K j x a o
    weekly_mono a b o p le d h = record {
      net = omega (arith, h.net);
      week = h.week;
      from = h.from;
      upto = h.upto;
      then =
          advance_mono (rest_week c)
          (λ there. K (after_weekly (rest_week c h.week) (leb (regular_minutes + a) (length_at c j)) (at c.ends j) there) (set o j (outstanding_of (length_at c j) a h.week)))
          (λ there. K (after_weekly (rest_week c h.week) (leb (regular_minutes + b) (length_at c j)) (at c.ends j) there) (set p j (outstanding_of (length_at c j) b h.week)))
          (h.week - x.week) better
          (λ x' y' b'. mono _ _ _ _ (weekly_better (rest_week c h.week) _ _ (at c.ends j) regular b') (lasting.put j _ _ inside d (reduction_mono (length_at c j) h.week a b le h.net)))
          (subst (λ (n : ℕ). After (advance (rest_week c) (h.week - n) y) (λ there. K (after_weekly (rest_week c h.week) (leb (regular_minutes + b) (length_at c j)) (at c.ends j) there)
          (set p j (outstanding_of (length_at c j) b h.week)))) (sym better.week) h.then);
    }
      where
        regular : one (leb (regular_minutes + b) (length_at c j)) ≤ one (leb (regular_minutes + a) (length_at c j))
        regular =
            one_mono _ _
            (λ t. le-leb (regular_minutes + a) (length_at c j) (let u = leb-true (regular_minutes + b) (length_at c j) t in omega arith))

    pub reads_by : (a b : ℕ) (o p : List ℕ) → a ≤ b → R j o p → Reads c K j y b p → Reads c K j x a o
    reads_by a b o p le d (inl h) = inl (daily_mono a b o p le d h)
    reads_by a b o p le d (inr h) = inr (weekly_mono a b o p le d h)

    pub tries_by : (o p : List ℕ) → R j o p → Tries c K j y p → Tries c K j x o
    tries_by o p d h =
        lasting.compensates j (Reads c K j x) (Reads c K j y) (length_at c j) reads_by (at c.compensations j) (at c.compensations j) (le_refl _) d h

  pub completable_by : Lies c → (n j : ℕ) (x y : State) (o p : List ℕ) → n + j ≡ count c → Better x y → R j o p → Completable c n j y p → Completable c n j x o
  unfolding Completable
  completable_by lies zero j x y o p e b d h = (
    (
      omega (arith, h.0.0, b.ended),
      advance_mono (rest_week c) (λ _. Unit) (λ _. Unit) (week_of c.judged - x.week) b (λ _ _ _ u. u)
          (subst (λ (w : ℕ). After (advance (rest_week c) (week_of c.judged - w) y) (λ _. Unit)) (sym b.week) h.0.1),
    ),
    λ l. h.1 (lasting.overdue j (c.judged + 1) (le_refl _) d l),
  )
  completable_by lies (suc n) j x y o p e b d h = (
    omega (arith, h.0, b.ended),
    λ l. h.1 (lasting.overdue j (at c.ends j) (let u = lies.judged j (omega arith) in omega arith) d l),
    advance_mono (rest_week c) (λ here. Tries c (Completable c n (suc j)) j here o) (λ here. Tries c (Completable c n (suc j)) j here p)
        (week_of (at c.starts j) - x.week) b
        (λ x' y' b'. tries_by (Completable c n (suc j)) j (omega arith) (λ x'' y'' o' p'. completable_by lies n (suc j) x'' y'' o' p' (omega arith)) b' o p d)
        (subst (λ (w : ℕ). After (advance (rest_week c) (week_of (at c.starts j) - w) y) (λ here. Tries c (Completable c n (suc j)) j here p)) (sym b.week) h.2),
  )

-- ---- the laws
-- the same, of reductions compared by the rest that was reduced
abbrev pub Mono : (c : Course) → (State → List ℕ → Type 0) → Type 0
Mono c K = (x y : State) (o p : List ℕ) → Better x y → Reductions c.judged o p → K y p → K x o

regular_better : (st : State) (rest_week short : Bool) (end : ℕ) → Small st → st.ended ≤ end → Better (after_weekly rest_week true end st) (after_daily short st)
regular_better st true short end h le = record {
  week = refl;
  ended = le;
  short = zero-le;
  weekly_before = le_refl _;
  regular_before = le_refl _;
  weekly = le_refl _;
  regular = le_refl _;
}
regular_better st false short end h le = record {
  week = refl;
  ended = le;
  short = zero-le;
  weekly_before = le_refl _;
  regular_before = le_refl _;
  weekly = omega (arith, h.weekly);
  regular = omega (arith, h.regular);
}

module _ (c : Course) (lies : Lies c) where
  pub completable_mono : (n j : ℕ) (x y : State) (o p : List ℕ) → n + j ≡ count c → Better x y → Reductions c.judged o p
      → Completable c n j y p → Completable c n j x o
  completable_mono = completable_by c (reductions_last c) lies

  -- a rest that can be a regular weekly rest, in the week in which it starts, need not be daily
  pub regular_by : (K : State → List ℕ → Type 0) → Mono c K → (j : ℕ) (here : State) (compensation : ℕ) (outstanding : List ℕ) → AtRest c j here
      → regular_minutes + compensation ≤ length_at c j → ReadDaily c K j here compensation outstanding → ReadWeekly c K j here compensation outstanding
  unfolding advance outstanding_of
  regular_by K mono j here compensation outstanding r fits h =
      let proper = lies.proper j r.within in
      let w = week_of (at c.starts j) in
      let still : 0 ≡ w - here.week = omega (arith, r.week) in
      let yes : true ≡ leb (regular_minutes + compensation) (length_at c j) = sym (le-leb (regular_minutes + compensation) (length_at c j) fits) in
      record {
        net = omega (arith, fits);
        week = w;
        from = omega arith;
        upto = omega (arith, proper);
        then =
            subst (λ (m : ℕ). After (advance (rest_week c) m here) (λ there. K (after_weekly (rest_week c w) (leb (regular_minutes + compensation) (length_at c j)) (at c.ends j) there)
            (set outstanding j
            (outstanding_of (length_at c j) compensation w)))) still
            (subst (λ (t : Bool). K (after_weekly (rest_week c w) t (at c.ends j) here) (set outstanding j
            (pick t 0 ((w + weeks_to_compensate) * reduction_unit + (regular_minutes + compensation - length_at c j))))) yes
            (mono _ _ _ outstanding (regular_better here (rest_week c w) (shortens c j compensation) (at c.ends j) r.small (omega (arith, proper, r.ended)))
            (set_left c.judged j 0 (reductions_self c.judged outstanding) (none refl)) h.then));
      }

  -- a reduction that is due after S needs nothing
  module _ (n j : ℕ) (st : State) (outstanding : List ℕ) (i d : ℕ) (e : n + j ≡ count c) (after : c.judged < deadline_of d) where
    pub forget : Completable c n j st (set outstanding i d) → Completable c n j st (set outstanding i 0)
    forget h = completable_mono n j st st _ _ e (better_self st) (set_both c.judged i (reductions_self c.judged outstanding) (none refl)) h

    pub recall : Completable c n j st (set outstanding i 0) → Completable c n j st (set outstanding i d)
    recall h = completable_mono n j st st _ _ e (better_self st) (set_both c.judged i (reductions_self c.judged outstanding) (free after)) h

-- ---- the states that are reached
pub daily_small : (t : Bool) {here : State} → Small here → here.short + one t ≤ shortened_at_most → Small (after_daily t here)
daily_small t h few = record {
  short = few;
  weekly_before = h.weekly_before;
  regular_before = h.regular_before;
  weekly = h.weekly;
  regular = h.regular;
}

pub weekly_small : (rest_week t : Bool) (end : ℕ) {there : State} → Small there → Small (after_weekly rest_week t end there)
weekly_small true t end h = record {
  short = zero-le;
  weekly_before = h.weekly_before;
  regular_before = h.regular_before;
  weekly = h.weekly;
  regular = h.regular;
}
weekly_small false t end h = record {
  short = zero-le;
  weekly_before = h.weekly_before;
  regular_before = h.regular_before;
  weekly = omega arith;
  regular = omega arith;
}

module _ (c : Course) (lies : Lies c) where
  -- a rest ends before each later one starts
  later_from : (m j : ℕ) → j + suc m < count c → at c.ends j ≤ at c.starts (j + suc m)
  later_from zero j h = let e : suc j ≡ j + 1 = omega arith in subst (λ (i : ℕ). at c.ends j ≤ at c.starts i) e (lies.ordered j (omega arith))
  later_from (suc m) j h =
      let a = later_from m j (omega arith) in
      let b = lies.proper (j + suc m) (omega arith) in
      let d = lies.ordered (j + suc m) (omega arith) in
      let e : suc (j + suc m) ≡ j + suc (suc m) = omega arith in
      subst (λ (i : ℕ). at c.ends j ≤ at c.starts i) e (omega (arith, a, b, d))

  pub later : (j i : ℕ) → j < i → i < count c → at c.ends j ≤ at c.starts i
  later j i l h = let e : j + suc (i - suc j) ≡ i = omega arith in subst (λ (x : ℕ). at c.ends j ≤ at c.starts x) e (later_from (i - suc j) j (omega arith))

  pub arrives : {j : ℕ} {st here : State} → j < count c → Stands c j st → Carried (rest_week c) (week_of (at c.starts j) - st.week) st here → AtRest c j here
  arrives {j} l h k = record {
    within = l;
    small = k.small;
    week = omega (arith, k.week, h.week j (le_refl _) l);
    ended = omega (arith, k.ended, h.ended j (le_refl _) l);
  }

  pub daily_stands : (j : ℕ) (t : Bool) {here : State} → AtRest c j here → here.short + one t ≤ shortened_at_most → Stands c (suc j) (after_daily t here)
  daily_stands j t h few =
      let p = lies.proper j h.within in
      record {
        short = few;
        ended = λ i l k. omega (arith, h.ended, later j i l k, p);
        week = λ i l k. omega (arith, h.week, later j i l k, p);
        week-judged = omega (arith, h.week, lies.judged j h.within, p);
      }

  -- the week reached is the one in which the rest is counted
  pub counted_week : (j w : ℕ) {here there : State} → AtRest c j here → at c.starts j < week_start (w + 1) → Carried (rest_week c) (w - here.week) here there → there.week ≡ w
  counted_week j w h from k = omega (arith, h.week, k.week)

  pub weekly_stands : (j w : ℕ) (rest t : Bool) {here there : State} → AtRest c j here → at c.starts j < week_start (w + 1) → week_start w < at c.ends j
      → Carried (rest_week c) (w - here.week) here there → Stands c (suc j) (after_weekly rest t (at c.ends j) there)
  weekly_stands j w rest t h from upto k =
      let e = counted_week j w h from k in
      record {
        short = zero-le;
        ended = λ i l m. later j i l m;
        week = λ i l m. omega (arith, later j i l m);
        week-judged = omega (arith, lies.judged j h.within);
      }
