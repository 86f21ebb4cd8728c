-- Laws of what a question is lent, and of the states before a rest and at it. Assumes nothing.
use mathlib.Core.Path.{◌≡◌, refl, sym, ap, subst, ◌∙◌}
use mathlib.Core.Logic.{◌⊎◌, inl, inr}
use mathlib.Core.Bool.{Bool}
use mathlib.Core.List.{List}
use Prim.Native.Nat.{ℕ, suc, ◌+◌, ◌-◌, ◌≤◌, ◌<◌, zero-le}
use native.Mathlib.Nat.{le_refl}
use native.Mathlib.Omega.{arith}
use lib.ListN.{length}
use Rattle.recording.specs.Operations.{total_at_most}
use Rattle.recording.specs.Weeks.{week_start, week_of}
use Rattle.recording.proofs.TestLaws.{one_most, less_or_not}
use Rattle.rules.specs.ReadingRules.{shortened_at_most}
use Rattle.verdict_completion.specs.declared.State.{State}
use Rattle.std.specs.Prelude.{Option, Some}
use Rattle.verdict_completion.specs.States.{start_state, advance, After, after_daily, after_weekly}
use Rattle.verdict_completion.specs.Completable.{Course, at, count, rest_week, Lies, Stands}
use Rattle.verdict_completion.specs.Better.{Small, AtRest}
use Rattle.verdict_completion.proofs.Monotone.{Carried, advanced, counted_week, daily_stands, daily_small, weekly_stands, weekly_small}
use Rattle.verdict_search.specs.Search.{InUse, InSlots, Free, Before}
use Rattle.verdict_search.specs.Leading.{Front, Given, SameLent, Kept}
use Rattle.verdict_search.specs.declared.Search.{Search}

-- what holds below d and at d holds below d + 1
pub one_more : (P : ℕ → Type 0) (d x : ℕ) → x < d + 1 → P d → (x < d → P x) → P x
one_more P d x l at-d below = go (less_or_not x d)
  where
    go : (x < d) ⊎ (d ≤ x) → P x
    go (inl h) = below h
    go (inr h) = let e : d ≡ x = omega arith in subst P e at-d

-- ---- weeks
pub brought : (rest : ℕ → Bool) (n : ℕ) {st here : State} {b : Option State} → Small st → b ≡ advance rest n st → b ≡ Some here → Carried rest n st here
brought rest n {st} {here} {b} small e g =
    subst (λ (x : Option State). After x (Carried rest n st)) (sym e ∙ g)
    (advanced rest (Carried rest n st) (λ _. Unit) n small (λ there k _. k) (subst (λ (x : Option State). After x (λ _. Unit)) (sym g ∙ e) tt))

-- an empty front
pub front_none : (c : Course) (j : ℕ) (t : List ℕ) → Front c j t 0
front_none c j t = record { room = zero-le; each = λ e l. absurd (omega arith) }

-- ---- a rest
module _ (c : Course) (lies : Lies c) where
  slots_of : {j n : ℕ} {o : List ℕ} (i m : ℕ) (p : List ℕ) → InSlots c j n o → length p ≡ length o → m ≤ i → ((x : ℕ) → m ≤ x → at p x ≡ 0) → InSlots c i m p
  slots_of i m p h e le z = record { one_each = e ∙ h.one_each; below = le; unused = z }

  pub slots_none : {o : List ℕ} (j : ℕ) → Free c o → InSlots c j 0 o
  slots_none {o} j h = slots_of j 0 o h refl zero-le h.unused

  pub starts_low : (j : ℕ) → j < count c → at c.starts j ≤ c.judged
  starts_low j l = omega (arith, lies.proper j l, lies.judged j l)

  -- the rest before that of index j + 1
  pub reached_at : (j : ℕ) {week : ℕ} → week_of (at c.starts j) ≤ week → week_of (at c.starts (j + 1 - 1)) ≤ week
  reached_at j {week} h = let e : j ≡ j + 1 - 1 = omega arith in subst (λ (i : ℕ). week_of (at c.starts i) ≤ week) e h

  -- a week in which a rest has a minute is no later than that in which the next rest starts
  pub week_by_next : (j w : ℕ) → week_start w < at c.ends j → j + 1 < count c → w ≤ week_of (at c.starts (j + 1))
  week_by_next j w l h =
      let e : suc j ≡ j + 1 = omega arith in
      let m = subst (λ (i : ℕ). at c.ends j ≤ at c.starts i) e (lies.ordered j (omega arith)) in
      omega (arith, l, m)

  -- what an advance asks, to the week in which a rest starts and to one in which it is counted
  pub to_start : (j : ℕ) (st : State) → c.judged ≤ total_at_most → j < count c → Before c j st
      → (j ≤ count c) × (week_of (at c.starts j) < 255) × Small st × (0 < j → week_of (at c.starts (j - 1)) ≤ st.week)
      × (j < count c → week_of (at c.starts j) ≤ week_of (at c.starts j))
  to_start j st low l b = (omega arith, omega (arith, starts_low j l), b.small, b.reached, λ _. le_refl _)

  pub to_counted : (j w : ℕ) (here : State) → c.judged ≤ total_at_most → AtRest c j here → week_start w < at c.ends j
      → (j + 1 ≤ count c) × (w < 255) × Small here × (0 < j + 1 → week_of (at c.starts (j + 1 - 1)) ≤ here.week)
      × (j + 1 < count c → w ≤ week_of (at c.starts (j + 1)))
  to_counted j w here low a l =
      (omega (arith, a.within), omega (arith, l, lies.judged j a.within), a.small, λ _. reached_at j (omega (arith, a.week)), week_by_next j w l)

  next_stands : (j : ℕ) {st : State} → Stands c (suc j) st → Stands c (j + 1) st
  next_stands j {st} h = let e : suc j ≡ j + 1 = omega arith in subst (λ (i : ℕ). Stands c i st) e h

  module _ (j : ℕ) (here : State) (b : Bool) {next : State} (f : next ≡ after_daily b here) where
    pub before_daily : AtRest c j here → next.short ≤ shortened_at_most → Before c (j + 1) next
    before_daily k l =
        subst (Before c (j + 1)) (sym f)
        (record {
          within = omega (arith, k.within);
          stands = next_stands j (daily_stands c lies j b k (omega (arith, l, ap (λ (x : State). x.short) f)));
          small = daily_small b k.small (omega (arith, l, ap (λ (x : State). x.short) f));
          ended = omega (arith, k.ended, starts_low j k.within);
          reached = λ _. reached_at j (omega (arith, k.week));
        })

  module _ (j w : ℕ) (here : State) (rest regular : Bool) {b : Option State} {there next : State} (e : b ≡ advance (rest_week c) (w - here.week) here) (g : b ≡ Some there)
      (f : next ≡ after_weekly rest regular (at c.ends j) there) where
    pub before_weekly : AtRest c j here → at c.starts j < week_start (w + 1) → week_start w < at c.ends j → Before c (j + 1) next
    before_weekly k from upto =
        let m = brought (rest_week c) (w - here.week) k.small e g in
        subst (Before c (j + 1)) (sym f)
        (record {
          within = omega (arith, k.within);
          stands = next_stands j (weekly_stands c lies j w rest regular k from upto m);
          small = weekly_small rest regular (at c.ends j) m.small;
          ended = lies.judged j k.within;
          reached = λ _. reached_at j (omega (arith, from, counted_week c lies j w k from m));
        })

  start_small : (b : Bool) → Small (start_state b)
  start_small b = record {
    short = zero-le;
    weekly_before = zero-le;
    regular_before = zero-le;
    weekly = omega (arith, one_most b);
    regular = one_most b;
  }

  start_stands : (b : Bool) → Stands c 0 (start_state b)
  start_stands b = record { short = zero-le; ended = λ i _ _. zero-le; week = λ i _ _. zero-le; week-judged = zero-le }

  pub before_start : {st : State} (b : Bool) → st ≡ start_state b → Before c 0 st
  before_start {st} b e = subst (Before c 0) (sym e) (record { within = zero-le; stands = start_stands b; small = start_small b; ended = zero-le; reached = λ l. absurd (omega arith) })

-- what a step is lent: before a later rest, and after a question that was led on
pub given_on : {c : Course} {j i : ℕ} {search : Search} → Given c j i search → Given c (j + 1) i search
given_on {c} {j} {i} {search} g = record {
  slots = record { one_each = g.slots.one_each; below = omega (arith, g.slots.below); unused = g.slots.unused };
  sound = g.sound;
  well = g.well;
}

pub lent_self : {a : Search} → SameLent a a
lent_self = record { slots = refl; nogoods = refl; next = refl; many = refl; table = refl; room = refl }

pub lent_on : {a b d : Search} → SameLent a b → SameLent b d → SameLent a d
lent_on f g = record { slots = g.slots ∙ f.slots; nogoods = g.nogoods ∙ f.nogoods; next = g.next ∙ f.next; many = g.many ∙ f.many; table = g.table ∙ f.table; room = g.room ∙ f.room }

pub kept_on : {a b d : Search} → Kept a b → Kept b d → Kept a d
kept_on f g = record { lent = lent_on f.lent g.lent; used = g.used ∙ f.used }

-- the slots in use
pub in_use : {c : Course} {j n : ℕ} {o : List ℕ} → j ≤ count c → InSlots c j n o → InUse n o
in_use l h = record { in_range = omega (arith, l, h.below, h.one_each); unused = h.unused }
