-- Laws of the functions that write the first reading: what a compensation leaves room for, candidates in order, and the bytes written so far.
-- Assumes nothing.
use mathlib.Core.Path.{◌≡◌, refl, sym, ap, subst, ◌∙◌}
use mathlib.Core.Logic.{◌⊎◌, inl, inr, ⊎_elim}
use mathlib.Core.Bool.{Bool, true, false, false≢true, true≢false}
use mathlib.Core.List.{List, [], ◌∷◌, ◌++◌, append_assoc}
use Prim.Native.Nat.{ℕ, zero, suc, ◌+◌, ◌-◌, ◌*◌, ◌/◌, ◌%◌, ◌≤◌, ◌<◌, zero-le}
use native.Mathlib.Nat.{le_refl}
use native.Mathlib.Omega.{arith}
use lib.Dec.{leb, ltb}
use lib.ListN.{length, set, length-set, length-append}
use lib.Seq.{get_or-set_same}
use borrow.Author.Tests.{leb-true, leb-false, ltb-true, ltb-false}
use Rattle.recording.specs.Weeks.{week_start, week_of}
use Rattle.recording.specs.Operations.{total_at_most}
use Rattle.recording.proofs.TestLaws.{less_or_not}
use Rattle.rules.specs.Reading.{Entry, regular_minutes, compensation_of, entry_fields, entry_bytes, byte_values, bytes_of, entries}
use Rattle.rules.specs.ReadingRules.{least_net, weeks_to_compensate}
use Rattle.rules.specs.declared.Kind.TheVariants.{Daily, Weekly}
use Rattle.rules.specs.declared.Standing.TheVariants.{Regular}
use Rattle.rules.proofs.FirstLaws.{fields_length}
use Rattle.rules.proofs.FieldLaws.{bytes_size}
use Rattle.rules_items.specs.Items.{added_to, Zeros}
use Rattle.verdict_completion.specs.declared.State.{State}
use Rattle.std.specs.Prelude.{Option, None, Some}
use Rattle.verdict_completion.specs.States.{start_state, advance, After, after_daily, after_weekly}
use Rattle.verdict_completion.specs.Completable.{Course, at, count, rest_week, length_at, amount_of, outstanding_of, Compensates, shortens, Reads, Tries, Completable, Lies, Stands}
use Rattle.verdict_completion.specs.Better.{AtRest, best_state}
use Rattle.verdict_completion.proofs.Heads.{arrives, after}
use Rattle.verdict_completion.proofs.Monotone.{daily_stands}
use Rattle.verdict_completion.proofs.Compensations.{set_other}
use Rattle.verdict_steps.specs.Steps.{Says}
use Rattle.verdict_search.specs.Search.{Later, Before, with_compensations}
use Rattle.verdict_merging.specs.Merging.{ToldIf, Trial}
use Rattle.verdict_merging.proofs.Merging.{added_to-some, added_to-later}
use Rattle.verdict_search.proofs.Leading.{Equal}
use Rattle.verdict_search.proofs.Slots.{reached_at}
use Rattle.rules_entries.specs.Entries.{with_entry}
use Rattle.verdict_choosing.specs.First.{Least, rests_only}
use Rattle.verdict_choosing.proofs.Choosing.{carrier_low}
use Rattle.verdict_choosing.specs.Choices.{compensation_at, reduction_at, carrying, CanBeRead, CarriedBy, after_counted, CanBeWeekly, CanHold, NotPast, FirstWeekly}
use Rattle.verdict_choosing.specs.Choices.{LeastFrom, Ahead, Placed, IsFirst, FirstOf, Limited, Carries, CanHave}

-- ---- each rest that is left is long enough for its compensation
record Compensating (F : ℕ → List ℕ → Type 0) (compensation : ℕ) : Type 0 where
  total : ℕ
  left : List ℕ
  more : compensation ≤ total
  asked : F total left

compensating : (F : ℕ → List ℕ → Type 0) (minutes m i compensation : ℕ) (outstanding : List ℕ) → Compensates F minutes m i compensation outstanding → Compensating F compensation
unfolding Compensates
compensating F minutes zero i compensation outstanding h = record { total = compensation; left = outstanding; more = le_refl _; asked = h }
compensating F minutes (suc m) i compensation outstanding (inl h) =
    let q = compensating F minutes m (i + 1) (compensation + amount_of (at outstanding i)) (set outstanding i 0) h.2 in
    record { total = q.total; left = q.left; more = omega (arith, q.more); asked = q.asked }
compensating F minutes (suc m) i compensation outstanding (inr h) = compensating F minutes m (i + 1) compensation outstanding h

module _ (c : Course) where
  abbrev LongEnough : ℕ → Type 0
  LongEnough y = least_net Daily + at c.compensations y ≤ length_at c y

  here_or_later : (j y : ℕ) → j ≤ y → LongEnough j → (suc j ≤ y → LongEnough y) → LongEnough y
  here_or_later j y l now then = ⊎_elim then (λ h. let e : j ≡ y = omega arith in subst LongEnough e now) (less_or_not j y)

  long_on : (j : ℕ) (here : State) (compensation y : ℕ) (K : State → List ℕ → Type 0) (outstanding : List ℕ) → at c.compensations j ≤ compensation → j ≤ y
      → ((st : State) (o : List ℕ) → suc j ≤ y → K st o → LongEnough y) → Reads c K j here compensation outstanding → LongEnough y
  long_on j here compensation y K outstanding more l ih (inl d) =
      here_or_later j y l (omega (arith, d.net)) (λ h. ih (after_daily (shortens c j compensation) here) outstanding h d.then)
  long_on j here compensation y K outstanding more l ih (inr d) =
      let next : State → State = after_weekly (rest_week c d.week) (leb (regular_minutes + compensation) (length_at c j)) (at c.ends j) in
      let is_outstanding : List ℕ = set outstanding j (outstanding_of (length_at c j) compensation d.week) in
      let t = arrives (advance (rest_week c) (d.week - here.week) here) (λ there. K (next there) is_outstanding) d.then in
      here_or_later j y l (omega (arith, d.net)) (λ h. ih (next t.state) is_outstanding h t.holds)

  long_enough : (n j : ℕ) (st : State) (outstanding : List ℕ) (y : ℕ) → j ≤ y → y < n + j → Completable c n j st outstanding → LongEnough y
  unfolding Completable
  long_enough zero j st outstanding y l m h = absurd (omega arith)
  long_enough (suc n) j st outstanding y l m h =
      let t = arrives (advance (rest_week c) (week_of (at c.starts j) - st.week) st) (λ here. Tries c (Completable c n (suc j)) j here outstanding) h.2 in
      let p = compensating (Reads c (Completable c n (suc j)) j t.state) (length_at c j) j 0 (at c.compensations j) outstanding t.holds in
      long_on j t.state p.total y (Completable c n (suc j)) p.left p.more l
      (λ st' o k g. long_enough n (suc j) st' o y k (omega arith) g) p.asked

-- ---- other compensations
pub before_with : (c : Course) (p : List ℕ) {j : ℕ} {st : State} → Before c j st → Before (with_compensations c p) j st
before_with c p h = record {
  within = h.within;
  stands = record { short = h.stands.short; ended = h.stands.ended; week = h.stands.week; week-judged = h.stands.week-judged };
  small = h.small;
  ended = h.ended;
  reached = h.reached;
}

pub added_to-length : (p : List ℕ) (x d : ℕ) → length (added_to p x d) ≡ length p
added_to-length p zero d = refl
added_to-length p (suc i) d = length-set p i _

-- ---- answers
pub if_no : {R P S : Type 0} → (P → ⊥) → S → ToldIf R P false S
if_no n s = record { yes = λ h. absurd (false≢true h); no = λ _. n; ready = s }

pub if_carry : {R P Q S : Type 0} {r : Bool} → Equal P Q → ToldIf R P r S → ToldIf R Q r S
if_carry i h = record { yes = λ e a. i.to (h.yes e a); no = λ e q. h.no e (i.from q); ready = h.ready }

-- ---- a state that is left as it is
pub before_here : (c : Course) (lies : Lies c) (j : ℕ) (here : State) → AtRest c j here → Before c (j + 1) here
before_here c lies j here h =
    let e : suc j ≡ j + 1 = omega arith in
    let d = daily_stands c lies j false h (omega (arith, h.small.short)) in
    record {
      within = omega (arith, h.within);
      stands = subst (λ (i : ℕ). Stands c i here) e (record { short = h.small.short; ended = d.ended; week = d.week; week-judged = d.week-judged });
      small = h.small;
      ended = omega (arith, h.ended, lies.proper j h.within, lies.judged j h.within);
      reached = λ _. reached_at c lies j (omega (arith, h.week));
    }

pub before_best : (c : Course) (lies : Lies c) (j : ℕ) {st : State} → j < count c → st ≡ best_state (at c.starts j) → Before c (j + 1) st
before_best c lies j {st} inside e =
    subst (Before c (j + 1)) (sym e)
    (before_here c lies j (best_state (at c.starts j)) (record {
      within = inside;
      small = record { short = zero-le; weekly_before = le_refl _; regular_before = le_refl _; weekly = le_refl _; regular = le_refl _ };
      week = refl;
      ended = le_refl _;
    }))

module _ (c : Course) (j : ℕ) where
  added_to-low : Lies c → c.judged ≤ total_at_most → Limited c → (x : ℕ) → CanHold c j x → (i : ℕ) → at (added_to c.compensations x (reduction_at c j)) i ≤ total_at_most
  added_to-low lies judged s zero r i = s.low i
  added_to-low lies judged s (suc y) r i = by (less_or_not y i)
    where
      v : ℕ
      v = at c.compensations y + reduction_at c j

      other : (i ≡ y → ⊥) → at (set c.compensations y (at c.compensations y + reduction_at c j)) i ≤ total_at_most
      other n = subst (λ (m : ℕ). m ≤ total_at_most) (sym (set_other c.compensations y i _ n)) (s.low i)

      same : at (set c.compensations y (at c.compensations y + reduction_at c j)) y ≤ total_at_most
      same =
          let e : at (set c.compensations y (at c.compensations y + reduction_at c j)) y ≡ at c.compensations y + reduction_at c j =
          get_or-set_same c.compensations y (at c.compensations y + reduction_at c j) 0 (omega (arith, s.one_each, r.low)) in
          omega (arith, e, r.room y refl, lies.judged y (omega (arith, r.low)), judged)

      by : (y < i) ⊎ (i ≤ y) → at (set c.compensations y (at c.compensations y + reduction_at c j)) i ≤ total_at_most
      by (inl h) = other (λ q. omega arith)
      by (inr h) =
          ⊎_elim (λ k. other (λ q. omega arith))
          (λ k. let e : y ≡ i = omega arith in subst (λ (m : ℕ). at (set c.compensations y (at c.compensations y + reduction_at c j)) m ≤ total_at_most) e same)
          (less_or_not i y)

  pub limited_with : Lies c → c.judged ≤ total_at_most → Limited c → (x : ℕ) → CanHold c j x → Limited (carrying c j x)
  limited_with lies judged s x r = record {
    one_each = added_to-length c.compensations x (reduction_at c j) ∙ s.one_each;
    low = added_to-low lies judged s x r;
  }

  -- what can be gone on with has room
  room_by : (w : ℕ) (next : State) (outstanding : List ℕ) (x : ℕ) → length c.compensations ≡ count c → CarriedBy c j w x → Later (carrying c j x) j next outstanding
      → CanHold c j x
  room_by w next outstanding x long (CarriedBy.alone z h) g = record { low = omega arith; room = λ i q. absurd (omega (arith, z, q)) }
  room_by w next outstanding x long (CarriedBy.later i z l m u d) g =
      let e : at (carrying c j x).compensations i ≡ at c.compensations i + reduction_at c j =
      ap (λ (y : ℕ). at (added_to c.compensations y (reduction_at c j)) i) z ∙ get_or-set_same c.compensations i _ 0 (omega (arith, long)) in
      let h : least_net Daily + at (carrying c j x).compensations i ≤ length_at c i =
      long_enough (carrying c j x) (count c - (j + 1)) (j + 1) next outstanding i (omega arith) (omega arith) g in
      let r : least_net Daily + (at c.compensations i + reduction_at c j) ≤ length_at c i = omega (arith, h, e) in
      record {
        low = omega arith;
        room = λ i' q.
            let k : i ≡ i' = omega (arith, z, q) in
            subst (λ (y : ℕ). least_net Daily + (at c.compensations y + reduction_at c j) ≤ length_at c y) k r;
      }

  pub room_with : (w : ℕ) (next : State) (outstanding : List ℕ) (x : ℕ) → length c.compensations ≡ count c → CanHave c j w next outstanding x → CanHold c j x
  room_with w next outstanding x long g = room_by w next outstanding x long g.carried g.then

  -- ---- carriers in order
  carrier_past : {w x : ℕ} → CarriedBy c j w x → 0 < x → j + 2 ≤ x
  carrier_past (CarriedBy.alone z h) p = absurd (omega arith)
  carrier_past (CarriedBy.later i z l m u d) p = omega arith

  module _ {w : ℕ} {next : State} {outstanding : List ℕ} where
    -- where it can be gone on without a carrier, that is the first; else there is none up to the second rest after it
    pub none_after : (CanHave c j w next outstanding 0 → ⊥) → (y : ℕ) → y < j + 2 → CanHave c j w next outstanding y → ⊥
    none_after nay y l g = ⊎_elim (λ p. let v = carrier_past g.carried p in omega (arith, v)) (λ p. let e : y ≡ 0 = omega arith in nay (subst (CanHave c j w next outstanding) e g)) (less_or_not 0 y)

    pub none_below : (x : ℕ) → (CanHave c j w next outstanding x → ⊥) → ((y : ℕ) → y < x → CanHave c j w next outstanding y → ⊥)
        → (y : ℕ) → y < x + 1 → CanHave c j w next outstanding y → ⊥
    none_below x nay old y l g = ⊎_elim (λ h. old y h g) (λ h. let e : y ≡ x = omega arith in nay (subst (CanHave c j w next outstanding) e g)) (less_or_not y x)

    -- no carrier is past the rests
    pub none_at_last : (x : ℕ) → count c < x → ((y : ℕ) → y < x → CanHave c j w next outstanding y → ⊥) → (y : ℕ) → CanHave c j w next outstanding y → ⊥
    none_at_last x past old y g = old y (omega (arith, carrier_low c j w y g.carried)) g

    pub is_first : {R : Type 0} {Q : ℕ → Type 0} (x : ℕ) → (R → CanHave c j w next outstanding x) → Q x → ((y : ℕ) → y < x → CanHave c j w next outstanding y → ⊥)
        → IsFirst R (CanHave c j w next outstanding) Q x
    is_first x goes fits old = record { goes = goes; fits = fits; first = λ y h. ⊎_elim (λ l. absurd (old y l h)) (λ l. l) (less_or_not y x) }

  -- the state after the rest, by its week
  module _ (w : ℕ) (here there next : State) (outstanding : List ℕ) (counted : advance (rest_week c) (w - here.week) here ≡ Some there)
      (e : next ≡ after_counted c j w there) where
    pub from_with : (x : ℕ) → least_net (Weekly Regular) + compensation_at c j ≤ length_at c j → at c.starts j < week_start (w + 1) → week_start w < at c.ends j
        → CanHave c j w next outstanding x → CanBeWeekly c j here outstanding w x
    from_with x net from upto g = record {
      net = net;
      from = from;
      upto = upto;
      carried = g.carried;
      then = after _ counted (subst (λ (st : State). Later (carrying c j x) j st outstanding) e g.then);
    }

    pub to_with : (x : ℕ) → CanBeWeekly c j here outstanding w x → CanHave c j w next outstanding x
    to_with x g = record {
      carried = g.carried;
      then =
          subst (λ (st : State). Later (carrying c j x) j st outstanding) (sym e)
          (subst (λ (b : Option State). After b (λ y. Later (carrying c j x) j (after_counted c j w y) outstanding)) counted g.then);
    }

  pub not_counted : (w : ℕ) (here : State) (outstanding : List ℕ) (x : ℕ) → advance (rest_week c) (w - here.week) here ≡ None → CanBeWeekly c j here outstanding w x → ⊥
  not_counted w here outstanding x e g = subst (λ (b : Option State). After b (λ y. Later (carrying c j x) j (after_counted c j w y) outstanding)) e g.then

  -- the first carrier, by the week
  pub first_with : (R : Type 0) (P P' Q : ℕ → Type 0) (found : Option ℕ) → ((x : ℕ) → P x → P' x) → ((x : ℕ) → P' x → P x) → FirstOf R P Q found → FirstOf R P' Q found
  first_with R P P' Q None to from f = λ y g. f y (from y g)
  first_with R P P' Q (Some x) to from f = record { goes = λ r. to x (f.goes r); fits = f.fits; first = λ y g. f.first y (from y g) }

  -- ---- weeks in order
  module _ {here : State} {outstanding : List ℕ} (w : ℕ) (old : (v y : ℕ) → v < w → CanBeWeekly c j here outstanding v y → ⊥) where
    pub none_before : {found : Option ℕ} → found ≡ None → FirstOf (CanBeRead c j here outstanding) (CanBeWeekly c j here outstanding w) (CanHold c j) found
        → (v y : ℕ) → v < w + 1 → CanBeWeekly c j here outstanding v y → ⊥
    none_before {found} e f v y l g =
        ⊎_elim (λ h. old v y h g)
        (λ h. let k : v ≡ w = omega arith in
        subst (FirstOf (CanBeRead c j here outstanding) (CanBeWeekly c j here outstanding w) (CanHold c j)) e f y (subst (λ (u : ℕ). CanBeWeekly c j here outstanding u y) k g))
        (less_or_not v w)

    pub first_here : {found : Option ℕ} {x : ℕ} → found ≡ Some x → FirstOf (CanBeRead c j here outstanding) (CanBeWeekly c j here outstanding w) (CanHold c j) found
        → at c.starts j < week_start (w + 1) → week_start w < at c.ends j → FirstWeekly c j here outstanding w x
    first_here {found} {x} e g from upto =
        let f : IsFirst (CanBeRead c j here outstanding) (CanBeWeekly c j here outstanding w) (CanHold c j) x =
        subst (FirstOf (CanBeRead c j here outstanding) (CanBeWeekly c j here outstanding w) (CanHold c j)) e g in
        record {
          goes = f.goes;
          fits = record { from = from; upto = upto; holds = f.fits };
          first = λ v y h.
              ⊎_elim (λ l. absurd (old v y l h))
              (λ l. ⊎_elim NotPast.sooner
              (λ k. let q : v ≡ w = omega arith in NotPast.same (sym q) (f.first y (subst (λ (u : ℕ). CanBeWeekly c j here outstanding u y) q h))) (less_or_not w v))
              (less_or_not v w);
        }

    pub none_at_all : at c.ends j ≤ week_start w → (v y : ℕ) → CanBeWeekly c j here outstanding v y → ⊥
    none_at_all past v y g = old v y (omega (arith, g.upto)) g

-- ---- whether a rest can be the carrier
module _ (c : Course) (j w x : ℕ) where
  abbrev deadline : ℕ
  deadline = week_start (w + weeks_to_compensate)

  pub carries_none : x ≡ 0 → reduction_at c j ≡ 0 → Says (Carries c j w x) true
  carries_none z r = record {
    yes = λ _. record { carried = CarriedBy.alone z (inl (omega (arith, r))); holds = record { low = omega arith; room = λ i q. absurd (omega (arith, z, q)) } };
    no = λ h. absurd (true≢false h);
  }

  pub carries_late : x ≡ 0 → (reduction_at c j ≡ 0 → ⊥) → Says (Carries c j w x) (ltb c.judged deadline)
  carries_late z r = record {
    yes = λ h. record { carried = CarriedBy.alone z (inr (ltb-true c.judged deadline h)); holds = record { low = omega arith; room = λ i q. absurd (omega (arith, z, q)) } };
    no = λ h k. by h k.carried;
  }
    where
      by : ltb c.judged deadline ≡ false → CarriedBy c j w x → ⊥
      by h (CarriedBy.alone e (inl q)) = r (omega arith)
      by h (CarriedBy.alone e (inr q)) = let g = ltb-false c.judged deadline h in omega (arith, g, q)
      by h (CarriedBy.later i e l m u d) = omega (arith, e, z)

  pub carries_regular : (x ≡ 0 → ⊥) → reduction_at c j ≡ 0 → Carries c j w x → ⊥
  carries_regular n r k = by k.carried
    where
      by : CarriedBy c j w x → ⊥
      by (CarriedBy.alone e h) = n e
      by (CarriedBy.later i e l m u d) = omega (arith, r, u)

  pub carries_past : (x ≡ 0 → ⊥) → deadline < at c.ends (x - 1) → Carries c j w x → ⊥
  carries_past n p k = by k.carried
    where
      by : CarriedBy c j w x → ⊥
      by (CarriedBy.alone e h) = n e
      by (CarriedBy.later i e l m u d) = let q : x - 1 ≡ i = omega (arith, e) in let v = ap (at c.ends) q in omega (arith, v, d, p)

  pub carries_fits : (x ≡ 0 → ⊥) → (reduction_at c j ≡ 0 → ⊥) → j + 1 < x → x ≤ count c → at c.ends (x - 1) ≤ deadline
      → (less : ℕ) → less ≡ reduction_at c j → Says (Carries c j w x) (leb (least_net Daily + (at c.compensations (x - 1) + less)) (at c.ends (x - 1) - at c.starts (x - 1)))
  carries_fits n r l m d less e = record {
    yes = λ h. record {
      carried = CarriedBy.later (x - 1) (omega (arith, l)) (omega (arith, l)) (omega (arith, l, m)) (omega arith) d;
      holds = record {
        low = m;
        room = λ i q.
            let v : x - 1 ≡ i = omega (arith, q) in
            let g = leb-true (least_net Daily + (at c.compensations (x - 1) + less)) (at c.ends (x - 1) - at c.starts (x - 1)) h in
            subst (λ (y : ℕ). least_net Daily + (at c.compensations y + reduction_at c j) ≤ length_at c y) v (omega (arith, g, e));
      };
    };
    no = λ h k.
        let g = leb-false (least_net Daily + (at c.compensations (x - 1) + less)) (at c.ends (x - 1) - at c.starts (x - 1)) h in
        let v = k.holds.room (x - 1) (omega (arith, l)) in
        omega (arith, g, v, e);
  }

-- with a carrier that is one, the later rests are what is left to ask
pub with_carrier : (c : Course) (j w : ℕ) (next : State) (o : List ℕ) (x : ℕ) {d : Course} → d ≡ carrying c j x → CarriedBy c j w x
    → Equal (Later d j next o) (CanHave c j w next o x)
with_carrier c j w next o x {d} e k = record {
  to = λ p. record { carried = k; then = subst (λ (a : Course). Later a j next o) e p };
  from = λ g. subst (λ (a : Course). Later a j next o) (sym e) g.then;
}

-- a course is a trial of itself; and so is the one in which a carrier has the reduction of the rest of index j
pub trial_same : (c : Course) {x : ℕ} → Trial c c x
trial_same c = record { same_rests = refl; later = λ i l. refl; same = λ z. refl }

pub trial_carrying : (c : Course) (j x : ℕ) {d : Course} → (x ≡ 0 → ⊥) → d ≡ carrying c j x → Trial c d x
trial_carrying c j x {d} n e = record {
  same_rests = subst (λ (a : Course). a ≡ with_compensations c a.compensations) (sym e) refl;
  later = λ i l. subst (λ (a : Course). at a.compensations i ≡ at c.compensations i) (sym e) (added_to-later c.compensations x (reduction_at c j) i l);
  same = λ z. absurd (n z);
}

-- the compensations with the reduction of the rest of index j
pub carried_on : (c : Course) (j x : ℕ) {less : ℕ} {p : List ℕ} → (x ≡ 0 → ⊥) → less ≡ reduction_at c j → p ≡ set c.compensations (x - 1) (at c.compensations (x - 1) + less)
    → p ≡ added_to c.compensations x (reduction_at c j)
carried_on c j x {less} {p} n e q =
    q ∙ sym (added_to-some c.compensations x less n) ∙ ap (added_to c.compensations x) e

-- ---- the bytes written so far
-- the bytes of the entries in front, then those of the others
bytes_append : (j : ℕ) (front later : List ℕ) → length front ≡ entry_fields * j → bytes_of (front ++ later) ≡ bytes_of front ++ bytes_of later
unfolding bytes_of
bytes_append j [] later h = refl
bytes_append j (a ∷ []) later h = absurd (omega arith)
bytes_append j (a ∷ b ∷ []) later h = absurd (omega arith)
bytes_append zero (a ∷ b ∷ d ∷ front) later h = absurd (omega arith)
bytes_append (suc j) (a ∷ b ∷ d ∷ front) later h =
    ap (λ (l : List ℕ). a ∷ b ∷ d % byte_values ∷ d / byte_values ∷ l) (bytes_append j front later (omega arith))

pub record Progress (c : Course) (f reading : List ℕ) (j : ℕ) (st : State) : Type 0 where
  pub front : List ℕ
  pub left : List ℕ
  pub back : List ℕ
  pub past : List Entry
  pub whole : f ≡ front ++ left
  pub written : reading ≡ bytes_of front ++ back
  pub long : length front ≡ entry_fields * j
  pub ahead : Ahead c j st past left

pub progress_start : (c : Course) (f reading : List ℕ) (st : State) → Least (rests_only c.starts c.ends c.nets c.judged) f
    → Zeros c.compensations → st ≡ start_state (rest_week c 0) → Progress c f reading 0 st
unfolding entries compensation_of bytes_of
progress_start c f reading st l z e = record {
  front = [];
  left = f;
  back = reading;
  past = [];
  whole = refl;
  written = refl;
  long = refl;
  ahead = record {
    left = count c;
    counts = omega arith;
    least =
        subst (λ (s : State). LeastFrom c (count c) 0 s [] f) (sym e)
        (record { bounded = l.bounded; keeps = l.keeps; first = l.first });
    compensations = λ i h. z i;
  };
}

set_past : (front ys : List ℕ) (n i v : ℕ) → n ≡ length front + i → set (front ++ ys) n v ≡ front ++ set ys i v
set_past [] ys n i v e = let q : n ≡ i = omega arith in ap (λ (m : ℕ). set ys m v) q
set_past (x ∷ front) ys zero i v e = absurd (omega arith)
set_past (x ∷ front) ys (suc n) i v e = ap (λ (l : List ℕ). x ∷ l) (set_past front ys n i v (omega arith))

record EntryMore (front back : List ℕ) (j a b d : ℕ) : Type 0 where
  later : List ℕ
  now_reads : with_entry (front ++ back) j a b d ≡ front ++ (a ∷ b ∷ d % byte_values ∷ d / byte_values ∷ later)

entry_more : (front back : List ℕ) (j n a b d : ℕ) → length front ≡ entry_bytes * j → length back ≡ entry_bytes * suc n → EntryMore front back j a b d
entry_more front [] j n a b d h g = absurd (omega arith)
entry_more front (p ∷ []) j n a b d h g = absurd (omega arith)
entry_more front (p ∷ q ∷ []) j n a b d h g = absurd (omega arith)
entry_more front (p ∷ q ∷ r ∷ []) j n a b d h g = absurd (omega arith)
entry_more front (p ∷ q ∷ r ∷ t ∷ later) j n a b d h g = record {
  later = later;
  now_reads =
      ap (λ (l : List ℕ). set (set (set l (entry_bytes * j + 1) b) (entry_bytes * j + 2) (d % byte_values)) (entry_bytes * j + 3) (d / byte_values))
      (set_past front (p ∷ q ∷ r ∷ t ∷ later) (entry_bytes * j) 0 a (omega arith))
      ∙ ap (λ (l : List ℕ). set (set l (entry_bytes * j + 2) (d % byte_values)) (entry_bytes * j + 3) (d / byte_values))
      (set_past front (a ∷ q ∷ r ∷ t ∷ later) (entry_bytes * j + 1) 1 b (omega arith))
      ∙ ap (λ (l : List ℕ). set l (entry_bytes * j + 3) (d / byte_values)) (set_past front (a ∷ b ∷ r ∷ t ∷ later) (entry_bytes * j + 2) 2 (d % byte_values) (omega arith))
      ∙ set_past front (a ∷ b ∷ d % byte_values ∷ t ∷ later) (entry_bytes * j + 3) 3 (d / byte_values) (omega arith);
}

pub progress_on : (c d : Course) (f reading reading' : List ℕ) (j : ℕ) (st next : State) → length reading ≡ entry_bytes * count c → j < count c
    → ((past : List Entry) (left : List ℕ) → Ahead c j st past left → Placed d j next past left reading reading')
    → Progress c f reading j st → Progress d f reading' (j + 1) next
unfolding bytes_of
progress_on c d f reading reading' j st next size inside step p =
    let q = step p.past p.left p.ahead in
    let sized : length (bytes_of p.front) ≡ entry_bytes * j = bytes_size j p.front p.long in
    let m : length reading ≡ length (bytes_of p.front) + length p.back = ap length p.written ∙ length-append (bytes_of p.front) p.back in
    let t = entry_more (bytes_of p.front) p.back j (count c - suc j) q.kind q.week q.carrier sized (omega (arith, m, sized, size)) in
    let entered : List ℕ = q.kind ∷ q.week ∷ q.carrier ∷ [] in
    let e : suc j ≡ j + 1 = omega arith in
    record {
      front = p.front ++ entered;
      left = q.rest;
      back = t.later;
      past = q.entry ∷ p.past;
      whole = p.whole ∙ ap (λ (l : List ℕ). p.front ++ l) q.begins ∙ sym (append_assoc p.front entered q.rest);
      written =
          q.written ∙ ap (λ (l : List ℕ). with_entry l j q.kind q.week q.carrier) p.written ∙ t.now_reads
          ∙ sym (append_assoc (bytes_of p.front) (bytes_of entered) t.later)
          ∙ ap (λ (l : List ℕ). l ++ t.later) (sym (bytes_append j p.front entered p.long));
      long = length-append p.front entered ∙ omega (arith, p.long);
      ahead = subst (λ (i : ℕ). Ahead d i next (q.entry ∷ p.past) q.rest) e q.ahead;
    }

nothing : (l : List ℕ) → length l ≡ 0 → l ≡ []
nothing [] e = refl
nothing (x ∷ l) e = absurd (omega arith)

pub progress_end : (c : Course) (f reading : List ℕ) (j : ℕ) (st : State) → length reading ≡ entry_bytes * count c → count c ≤ j
    → Progress c f reading j st → reading ≡ bytes_of f
unfolding bytes_of
progress_end c f reading j st size all p =
    let sized : length (bytes_of p.front) ≡ entry_bytes * j = bytes_size j p.front p.long in
    let m : length reading ≡ length (bytes_of p.front) + length p.back = ap length p.written ∙ length-append (bytes_of p.front) p.back in
    let b : p.back ≡ [] = nothing p.back (omega (arith, m, size, sized, p.ahead.counts)) in
    let h : length p.left ≡ entry_fields * p.ahead.left = fields_length p.ahead.left p.left p.ahead.least.bounded in
    let l : p.left ≡ [] = nothing p.left (omega (arith, h, p.ahead.counts)) in
    p.written ∙ ap (λ (x : List ℕ). bytes_of p.front ++ x) b
    ∙ sym (bytes_append j p.front [] p.long) ∙ ap (λ (x : List ℕ). bytes_of (p.front ++ x)) (sym l) ∙ ap bytes_of (sym p.whole)

-- ---- a state brought on, or not
pub none_not_some : {b a : Option State} {there : State} → b ≡ a → b ≡ None → a ≡ Some there → ⊥
none_not_some {b} {a} {there} e f g = let z : ◌≡◌ {A = ℕ} 0 1 = cc in omega arith

pub to_same : {b a : Option State} {here there : State} → b ≡ a → b ≡ Some here → a ≡ Some there → here ≡ there
to_same e f g = cc

pub counted_state : (c : Course) (j w : ℕ) (rest : Bool) (there next : State)
    → next ≡ after_weekly rest (leb (regular_minutes + compensation_at c j) (length_at c j)) (at c.ends j) there → rest ≡ rest_week c w → next ≡ after_counted c j w there
counted_state c j w rest there next e r =
    e ∙ ap (λ (b : Bool). after_weekly b (leb (regular_minutes + compensation_at c j) (length_at c j)) (at c.ends j) there) r

pub at_rest_with : (c : Course) (p : List ℕ) {j : ℕ} {here : State} → AtRest c j here → AtRest (with_compensations c p) j here
at_rest_with c p h = record { within = h.within; small = h.small; week = h.week; ended = h.ended }
