-- An entry more of the first reading: after the entries that are decided, the first reading goes on with the first entry with which the later
-- rests can still be read. Assumes nothing.
use mathlib.Core.Path.{◌≡◌, refl, sym, ap, subst, ◌∙◌}
use mathlib.Core.Logic.{◌⊎◌, inl, inr}
use mathlib.Core.Bool.{Bool, true, false}
use mathlib.Core.List.{List, [], ◌∷◌}
use Prim.Native.Nat.{ℕ, zero, suc, ◌+◌, ◌-◌, ◌≤◌, ◌<◌}
use native.Mathlib.Nat.{le_refl}
use native.Mathlib.Omega.{arith}
use lib.Dec.{leb, eqb}
use lib.ListN.{length, set}
use lib.Seq.{get_or-set_same}
use borrow.Author.Tests.{eqb-true, eqb-false, ne_eqb}
use Rattle.recording.specs.Tests.{pick, one}
use Rattle.recording.specs.Weeks.{week_start, week_of}
use Rattle.recording.specs.Operations.{total_at_most}
use Rattle.rules.specs.Reading.{Entry, daily_kind, weekly_kind, regular_minutes, as_read, is_regular, reduction_of, compensation_of, byte_values, entry_of, entries_from}
use Rattle.rules.specs.ReadingRules.{least_net, deadline, end_of, shortened_at_most, weekly_gap}
use Rattle.rules.specs.Order.{carrier_values, Fields, NotAfter}
use Rattle.rules.specs.declared.Kind.TheVariants.{Daily, Weekly}
use Rattle.rules.specs.declared.Standing.TheVariants.{Regular}
use Rattle.rules_items.specs.Items.{end_before, span_at, spans_from, added_to, Zeros}
use Rattle.verdict_completion.specs.declared.State.{State}
use Rattle.std.specs.Prelude.{Option, None, Some}
use Rattle.verdict_completion.specs.States.{advance, After, after_daily, after_weekly}
use Rattle.verdict_completion.specs.Runs.{Kept}
use Rattle.verdict_completion.specs.Completable.{Course, at, count, spans_of, rest_week, counts, length_at, shortens, Tries, Completable, Lies}
use Rattle.verdict_completion.proofs.Heads.{arrives, after, reduction_weekly, regular_weekly, Carried, DailyStep, WeeklyStep, kept_daily, kept_weekly, kept_head}
use Rattle.verdict_completion.proofs.Compensations.{set_other}
use Rattle.verdict_completion.proofs.Carriers.{end_at, rests, shortened_at, extend, extended}
use Rattle.verdict_search.specs.Search.{Later, with_compensations}
use Rattle.verdict_choosing.specs.Choices.{compensation_at, reduction_at, carrying, CanBeRead, CanBeDaily, CarriedBy}
use Rattle.verdict_choosing.specs.Choices.{after_counted, CanBeWeekly, NotPast, FirstWeekly, KeepsFrom, LeastFrom, Ahead}

-- ---- fields by entries
-- the fields of a reading are those of an entry and what is left
record Entered (n : ℕ) (r : List ℕ) : Type 0 where
  kind : ℕ
  week : ℕ
  carrier : ℕ
  rest : List ℕ
  begins : r ≡ kind ∷ week ∷ carrier ∷ rest
  bounded : Fields n rest

entered : (n : ℕ) (r : List ℕ) → Fields (suc n) r → Entered n r
entered n [] h = absurd h
entered n (a ∷ []) h = absurd h.1
entered n (a ∷ b ∷ []) h = absurd h.1.1
entered n (a ∷ b ∷ d ∷ r) h = record { kind = a; week = b; carrier = d; rest = r; begins = refl; bounded = h.1.1.1 }

with_entry : (n a b d : ℕ) (r : List ℕ) → a < byte_values → b < byte_values → d < carrier_values → Fields n r → Fields (suc n) (a ∷ b ∷ d ∷ r)
with_entry n a b d r la lb ld h = (la, (lb, (ld, h)))

without_entry : (n a b d : ℕ) (r : List ℕ) → Fields (suc n) (a ∷ b ∷ d ∷ r) → Fields n r
without_entry n a b d r h = h.1.1.1

-- ---- the order of readings that begin with an entry
record Entry≤ (a b d a' b' d' : ℕ) : Type 0 where
  first : a ≤ a'
  second : a ≡ a' → b ≤ b'
  third : a ≡ a' → b ≡ b' → d ≤ d'

entry_order : (a b d a' b' d' : ℕ) (r t : List ℕ) → NotAfter (a ∷ b ∷ d ∷ r) (a' ∷ b' ∷ d' ∷ t) → Entry≤ a b d a' b' d'
entry_order a b d a' b' d' r t (inl l) = record { first = omega arith; second = λ e. absurd (omega arith); third = λ e f. absurd (omega arith) }
entry_order a b d a' b' d' r t (inr (e, inl l)) = record { first = omega arith; second = λ e. omega arith; third = λ e f. absurd (omega arith) }
entry_order a b d a' b' d' r t (inr (e, inr (f, inl l))) = record { first = omega arith; second = λ e. omega arith; third = λ e f. omega arith }
entry_order a b d a' b' d' r t (inr (e, inr (f, inr (g, h)))) = record { first = omega arith; second = λ e. omega arith; third = λ e f. omega arith }

after_entry : (a b d : ℕ) (r t : List ℕ) → NotAfter (a ∷ b ∷ d ∷ r) (a ∷ b ∷ d ∷ t) → NotAfter r t
after_entry a b d r t (inl l) = absurd (omega arith)
after_entry a b d r t (inr (e, inl l)) = absurd (omega arith)
after_entry a b d r t (inr (e, inr (f, inl l))) = absurd (omega arith)
after_entry a b d r t (inr (e, inr (f, inr (g, h)))) = h

-- ---- other compensations
pub lies_with : (c : Course) (p : List ℕ) → Lies c → Lies (with_compensations c p)
lies_with c p l = record { ends_too = l.ends_too; nets_too = l.nets_too; net = l.net; proper = l.proper; ordered = l.ordered; judged = l.judged }

-- ---- what is asked of the later rests, by how many are left
later_out : (c : Course) (n j : ℕ) (st : State) (outstanding : List ℕ) → suc n + j ≡ count c → Later c j st outstanding → Completable c n (suc j) st outstanding
later_out c n j st outstanding k h =
    let a : count c - (j + 1) ≡ n = omega arith in
    let b : j + 1 ≡ suc j = omega arith in
    subst (λ (m : ℕ). Completable c m (suc j) st outstanding) a (subst (λ (i : ℕ). Completable c (count c - (j + 1)) i st outstanding) b h)

later_in : (c : Course) (n j : ℕ) (st : State) (outstanding : List ℕ) → suc n + j ≡ count c → Completable c n (suc j) st outstanding → Later c j st outstanding
later_in c n j st outstanding k h =
    let a : n ≡ count c - (j + 1) = omega arith in
    let b : suc j ≡ j + 1 = omega arith in
    subst (λ (i : ℕ). Completable c (count c - (j + 1)) i st outstanding) b (subst (λ (m : ℕ). Completable c m (suc j) st outstanding) a h)

-- ---- the compensations besides
pub carrier_low : (c : Course) (j w x : ℕ) → CarriedBy c j w x → x ≤ count c
carrier_low c j w x (CarriedBy.alone z h) = omega arith
carrier_low c j w x (CarriedBy.later i z l m u d) = omega arith

compensations_on : (c : Course) (j i x : ℕ) → length c.compensations ≡ count c → x ≤ count c
    → at (added_to c.compensations x (reduction_at c j)) i ≡ pick (eqb x (suc i)) (reduction_at c j) 0 + at c.compensations i
compensations_on c j i zero long h = rw (ne_eqb 0 (suc i) (λ q. omega arith)) (omega arith)
compensations_on c j i (suc y) long h = by _ refl
  where
    by : (b : Bool) → eqb (suc y) (suc i) ≡ b
        → at (set c.compensations y (at c.compensations y + reduction_at c j)) i ≡ pick b (reduction_at c j) 0 + at c.compensations i
    by true t =
        let e : y ≡ i = omega (arith, eqb-true (suc y) (suc i) t) in
        let a : at (set c.compensations y (at c.compensations y + reduction_at c j)) y ≡ at c.compensations y + reduction_at c j =
        get_or-set_same c.compensations y (at c.compensations y + reduction_at c j) 0 (omega (arith, long)) in
        subst (λ (m : ℕ). at (set c.compensations y (at c.compensations y + reduction_at c j)) m ≡ reduction_at c j + at c.compensations m) e (a ∙ omega arith)
    by false t =
        set_other c.compensations y i (at c.compensations y + reduction_at c j) (λ q. eqb-false (suc y) (suc i) t (omega arith)) ∙ omega arith

-- ---- the entry of index j after the entries of the past
module _ (c : Course) (j : ℕ) (past : List Entry) where
  abbrev pub entry : ℕ → ℕ → ℕ → Entry
  entry kind week carrier = entry_of (suc j) (end_before c.ends j) past (span_at c.starts c.ends j) (kind ∷ week ∷ carrier ∷ [])

  abbrev pub daily : Entry
  daily = entry daily_kind 0 0

  abbrev pub weekly : ℕ → ℕ → Entry
  weekly w x = entry weekly_kind w x

  abbrev shortly : Bool
  shortly = shortens c j (compensation_at c j)

module _ (c : Course) (n j : ℕ) (st : State) (past : List Entry) where
  abbrev after_it : Entry → List ℕ → List Entry
  after_it e rest = entries_from (suc (suc j)) (end_before c.ends (suc j)) (e ∷ past) (spans_from c.starts c.ends (suc j) n) rest

  keeps_out : (a b d : ℕ) (rest : List ℕ) → KeepsFrom c (suc n) j st past (a ∷ b ∷ d ∷ rest)
      → Kept (rest_week c) (counts c) c.judged (spans_of c) st (entry c j past a b d ∷ after_it (entry c j past a b d) rest)
  unfolding entries_from spans_from
  keeps_out a b d rest h = h

  keeps_in : (a b d : ℕ) (rest : List ℕ) → Kept (rest_week c) (counts c) c.judged (spans_of c) st (entry c j past a b d ∷ after_it (entry c j past a b d) rest)
      → KeepsFrom c (suc n) j st past (a ∷ b ∷ d ∷ rest)
  unfolding entries_from spans_from
  keeps_in a b d rest h = h

  -- the rest is daily, or weekly in week w with carrier x, from the state in the week in which it starts
  record DailyFirst (here : State) (rest : List ℕ) : Type 0 where
    gap : at c.starts j ≤ st.ended + weekly_gap
    net : least_net Daily + compensation_at c j ≤ length_at c j
    few : here.short + one (shortly c j past) ≤ shortened_at_most
    then : KeepsFrom c n (suc j) (after_daily (shortly c j past) here) (daily c j past ∷ past) rest

  record WeeklyFirst (here : State) (w x : ℕ) (rest : List ℕ) : Type 0 where
    gap : at c.starts j ≤ st.ended + weekly_gap
    net : least_net (Weekly Regular) + compensation_at c j ≤ length_at c j
    from : at c.starts j < week_start (w + 1)
    upto : week_start w < at c.ends j
    carried : CarriedBy c j w x
    there : State
    counted : advance (rest_week c) (w - here.week) here ≡ Some there
    then : KeepsFrom c n (suc j) (after_counted c j w there) (weekly c j past w x ∷ past) rest

  -- the first entry of fields that keep the rules
  data Begins (here : State) : List ℕ → Type 0 where
    daily_first : (rest : List ℕ) → DailyFirst here rest → Begins here (daily_kind ∷ 0 ∷ 0 ∷ rest)
    weekly_first : (w x : ℕ) (rest : List ℕ) → WeeklyFirst here w x rest → Begins here (weekly_kind ∷ w ∷ x ∷ rest)

  module _ (compensations : (i : ℕ) → j ≤ i → at c.compensations i ≡ compensation_of (suc i) past) where
    own_compensation : compensation_of (suc j) past ≡ compensation_at c j
    own_compensation = sym (compensations j (le_refl _))

    daily_short : counts c (daily c j past) ≡ shortly c j past
    daily_short = shortened_at c j past (daily_kind ∷ 0 ∷ 0 ∷ []) ∙ ap (shortens c j) own_compensation

    daily-compensations : (i : ℕ) → suc j ≤ i → at c.compensations i ≡ compensation_of (suc i) (daily c j past ∷ past)
    unfolding compensation_of
    daily-compensations i l = compensations i (omega arith) ∙ rw (ne_eqb 0 (suc i) (λ q. omega arith)) (omega arith)

    module _ (w x : ℕ) where
      weekly_reduction : reduction_of (as_read (weekly c j past w x)) ≡ reduction_at c j
      weekly_reduction = reduction_weekly (weekly c j past w x) refl ∙ ap (λ (compensation : ℕ). regular_minutes + compensation - length_at c j) own_compensation

      weekly_regular : is_regular (as_read (weekly c j past w x)) ≡ leb (regular_minutes + compensation_at c j) (length_at c j)
      weekly_regular = regular_weekly (weekly c j past w x) refl ∙ ap (λ (compensation : ℕ). leb (regular_minutes + compensation) (length_at c j)) own_compensation

      carried_out : Carried c.judged (spans_of c) (weekly c j past w x) → CarriedBy c j w x
      carried_out (Carried.nowhere z (inl h)) = CarriedBy.alone z (inl (omega (arith, own_compensation, h)))
      carried_out (Carried.nowhere z (inr h)) = CarriedBy.alone z (inr h)
      carried_out (Carried.there h l u d) = by x refl
        where
          by : (y : ℕ) → x ≡ y → CarriedBy c j w x
          by zero z = absurd (omega arith)
          by (suc i) z =
              let m : i < count c = omega (arith, rests c) in
              let e : end_of (spans_of c) x ≡ at c.ends i = ap (end_of (spans_of c)) z ∙ end_at c i m in
              CarriedBy.later i z (omega arith) m (omega (arith, own_compensation, u)) (subst (λ (t : ℕ). t ≤ deadline (weekly c j past w x)) e d)

      carried_in : CarriedBy c j w x → Carried c.judged (spans_of c) (weekly c j past w x)
      carried_in (CarriedBy.alone z (inl h)) = Carried.nowhere z (inl (omega (arith, own_compensation, h)))
      carried_in (CarriedBy.alone z (inr h)) = Carried.nowhere z (inr h)
      carried_in (CarriedBy.later i z l m u d) =
          let e : end_of (spans_of c) x ≡ at c.ends i = ap (end_of (spans_of c)) z ∙ end_at c i m in
          Carried.there (omega arith) (omega (arith, rests c)) (omega (arith, own_compensation, u)) (subst (λ (t : ℕ). t ≤ deadline (weekly c j past w x)) (sym e) d)

      -- the compensations besides are what the entry brings
      weekly-compensations : length c.compensations ≡ count c → CarriedBy c j w x
          → (i : ℕ) → suc j ≤ i → at (carrying c j x).compensations i ≡ compensation_of (suc i) (weekly c j past w x ∷ past)
      unfolding compensation_of
      weekly-compensations long h i l =
          compensations_on c j i x long (carrier_low c j w x h)
          ∙ ap (λ (m : ℕ). pick (eqb x (suc i)) (reduction_at c j) 0 + m) (compensations i (omega arith))
          ∙ ap (λ (m : ℕ). pick (eqb x (suc i)) m 0 + compensation_of (suc i) past) (sym weekly_reduction)

    module _ (here : State) (reached : advance (rest_week c) (week_of (at c.starts j) - st.week) st ≡ Some here) where
      daily_keeps : (rest : List ℕ) → DailyFirst here rest → KeepsFrom c (suc n) j st past (daily_kind ∷ 0 ∷ 0 ∷ rest)
      daily_keeps rest h =
          keeps_in daily_kind 0 0 rest
          (kept_daily (rest_week c) (counts c) c.judged (spans_of c) st (daily c j past) (after_it (daily c j past) rest)
          (record {
            here = here;
            head = record {
              kind = refl;
              week = refl;
              compensated_by = refl;
              net = omega (arith, own_compensation, h.net);
              few = subst (λ (b : Bool). here.short + one b ≤ shortened_at_most) (sym daily_short) h.few;
            };
            gap = h.gap;
            reached = reached;
            then = subst (λ (b : Bool). KeepsFrom c n (suc j) (after_daily b here) (daily c j past ∷ past) rest) (sym daily_short) h.then;
          }))

      weekly_keeps : (w x : ℕ) (rest : List ℕ) → WeeklyFirst here w x rest → KeepsFrom c (suc n) j st past (weekly_kind ∷ w ∷ x ∷ rest)
      weekly_keeps w x rest h =
          keeps_in weekly_kind w x rest
          (kept_weekly (rest_week c) (counts c) c.judged (spans_of c) st (weekly c j past w x) (after_it (weekly c j past w x) rest)
          (record {
            here = here;
            there = h.there;
            head = record { kind = refl; net = omega (arith, own_compensation, h.net); from = h.from; upto = h.upto; carried = carried_in w x h.carried };
            gap = h.gap;
            reached = reached;
            counted = h.counted;
            then =
                subst (λ (b : Bool). KeepsFrom c n (suc j) (after_weekly (rest_week c w) b (at c.ends j) h.there) (weekly c j past w x ∷ past) rest)
                (sym (weekly_regular w x)) h.then;
          }))

      same_here : {there : State} → advance (rest_week c) (week_of (at c.starts j) - st.week) st ≡ Some there → there ≡ here
      same_here {there} e = cc

      daily_begins : (rest : List ℕ) → DailyStep (rest_week c) (counts c) c.judged (spans_of c) st (daily c j past) (after_it (daily c j past) rest)
          → DailyFirst here rest
      daily_begins rest d =
          let e = same_here d.reached in
          record {
            gap = d.gap;
            net = omega (arith, own_compensation, d.head.net);
            few =
                subst (λ (s : State). s.short + one (shortly c j past) ≤ shortened_at_most) e
                (subst (λ (b : Bool). d.here.short + one b ≤ shortened_at_most) daily_short d.head.few);
            then =
                subst (λ (s : State). KeepsFrom c n (suc j) (after_daily (shortly c j past) s) (daily c j past ∷ past) rest) e
                (subst (λ (b : Bool). KeepsFrom c n (suc j) (after_daily b d.here) (daily c j past ∷ past) rest) daily_short d.then);
          }

      weekly_begins : (w x : ℕ) (rest : List ℕ)
          → WeeklyStep (rest_week c) (counts c) c.judged (spans_of c) st (weekly c j past w x) (after_it (weekly c j past w x) rest) → WeeklyFirst here w x rest
      weekly_begins w x rest d = record {
        gap = d.gap;
        net = omega (arith, own_compensation, d.head.net);
        from = d.head.from;
        upto = d.head.upto;
        carried = carried_out w x d.head.carried;
        there = d.there;
        counted = subst (λ (s : State). advance (rest_week c) (w - s.week) s ≡ Some d.there) (same_here d.reached) d.counted;
        then =
            subst (λ (b : Bool). KeepsFrom c n (suc j) (after_weekly (rest_week c w) b (at c.ends j) d.there) (weekly c j past w x ∷ past) rest)
            (weekly_regular w x) d.then;
      }

      begins : (a b d : ℕ) (rest : List ℕ) → KeepsFrom c (suc n) j st past (a ∷ b ∷ d ∷ rest) → Begins here (a ∷ b ∷ d ∷ rest)
      begins a b d rest h =
          by a b d (kept_head (rest_week c) (counts c) c.judged (spans_of c) st (entry c j past a b d) (after_it (entry c j past a b d) rest) (keeps_out a b d rest h))
        where
          by : (a b d : ℕ) → DailyStep (rest_week c) (counts c) c.judged (spans_of c) st (entry c j past a b d) (after_it (entry c j past a b d) rest)
              ⊎ WeeklyStep (rest_week c) (counts c) c.judged (spans_of c) st (entry c j past a b d) (after_it (entry c j past a b d) rest) → Begins here (a ∷ b ∷ d ∷ rest)
          by zero zero zero (inl s) = daily_first rest (daily_begins rest s)
          by zero zero (suc d) (inl s) = absurd (omega (arith, s.head.compensated_by))
          by zero (suc b) d (inl s) = absurd (omega (arith, s.head.week))
          by (suc a) b d (inl s) = absurd (omega (arith, s.head.kind))
          by zero b d (inr s) = absurd (omega (arith, s.head.kind))
          by (suc zero) b d (inr s) = weekly_first b d rest (weekly_begins b d rest s)
          by (suc (suc a)) b d (inr s) = absurd (omega (arith, s.head.kind))

-- ---- the first reading after that entry
record Tail (n : ℕ) (P : List ℕ → Type 0) : Type 0 where
  rest : List ℕ
  bounded : Fields n rest
  holds : P rest

-- the next entry is that of a daily rest, or of a weekly rest in week w with carrier x
pub record NextDaily (c : Course) (j : ℕ) (past : List Entry) (here : State) (r : List ℕ) : Type 0 where
  pub rest : List ℕ
  pub begins : r ≡ daily_kind ∷ 0 ∷ 0 ∷ rest
  pub few : here.short + one (shortens c j (compensation_at c j)) ≤ shortened_at_most
  pub ahead : Ahead c (suc j) (after_daily (shortens c j (compensation_at c j)) here) (daily c j past ∷ past) rest

pub record NextWeekly (c : Course) (j : ℕ) (past : List Entry) (here : State) (w x : ℕ) (r : List ℕ) : Type 0 where
  pub rest : List ℕ
  pub begins : r ≡ weekly_kind ∷ w ∷ x ∷ rest
  pub there : State
  pub counted : advance (rest_week c) (w - here.week) here ≡ Some there
  pub ahead : Ahead (carrying c j x) (suc j) (after_counted c j w there) (weekly c j past w x ∷ past) rest

module _ (c : Course) (lies : Lies c) (few : count c < carrier_values) (bound : c.judged ≤ total_at_most) (long : length c.compensations ≡ count c)
    (n j : ℕ) (k : suc n + j ≡ count c) (st : State) (past : List Entry) (compensations : (i : ℕ) → j ≤ i → at c.compensations i ≡ compensation_of (suc i) past)
    (here : State) (reached : advance (rest_week c) (week_of (at c.starts j) - st.week) st ≡ Some here) where
  module _ (outstanding : List ℕ) (size : length outstanding ≡ count c) (zeros : Zeros outstanding) where
    goes_daily : (rest : List ℕ) → DailyFirst c n j st past here rest → CanBeDaily c j here outstanding
    goes_daily rest h = record {
      net = h.net;
      few = h.few;
      then =
          later_in c n j _ outstanding k
          (extended c lies few bound n (suc j) _ outstanding (daily c j past ∷ past) (omega arith) size zeros (daily-compensations c n j st past compensations) rest h.then);
    }

    goes_weekly : (w x : ℕ) (rest : List ℕ) → WeeklyFirst c n j st past here w x rest → CanBeWeekly c j here outstanding w x
    goes_weekly w x rest h = record {
      net = h.net;
      from = h.from;
      upto = h.upto;
      carried = h.carried;
      then =
          after _ h.counted
          (later_in (carrying c j x) n j _ outstanding k
          (extended (carrying c j x) (lies_with c (carrying c j x).compensations lies) few bound n (suc j) _ outstanding (weekly c j past w x ∷ past) (omega arith) size zeros
          (weekly-compensations c n j st past compensations w x long h.carried) rest h.then));
    }

    can_be_daily : at c.starts j ≤ st.ended + weekly_gap → CanBeDaily c j here outstanding → Tail n (DailyFirst c n j st past here)
    can_be_daily gap g =
        let a = extend c lies few bound n (suc j) _ outstanding (daily c j past ∷ past) (omega arith) size zeros (daily-compensations c n j st past compensations)
        (later_out c n j _ outstanding k g.then) in
        record { rest = a.0; bounded = a.1; holds = record { gap = gap; net = g.net; few = g.few; then = a.2 } }

    weekly_goes : (w x : ℕ) → at c.starts j ≤ st.ended + weekly_gap → CanBeWeekly c j here outstanding w x → Tail n (WeeklyFirst c n j st past here w x)
    weekly_goes w x gap g =
        let t = arrives _ _ g.then in
        let a = extend (carrying c j x) (lies_with c (carrying c j x).compensations lies) few bound n (suc j) _ outstanding (weekly c j past w x ∷ past) (omega arith) size zeros
        (weekly-compensations c n j st past compensations w x long g.carried) (later_out (carrying c j x) n j _ outstanding k t.holds) in
        record {
          rest = a.0;
          bounded = a.1;
          holds = record {
            gap = gap;
            net = g.net;
            from = g.from;
            upto = g.upto;
            carried = g.carried;
            there = t.state;
            counted = t.reached;
            then = a.2;
          };
        }

  -- ---- what is left after the entry
  ahead_daily : (rest : List ℕ) → LeastFrom c (suc n) j st past (daily_kind ∷ 0 ∷ 0 ∷ rest) → DailyFirst c n j st past here rest
      → Ahead c (suc j) (after_daily (shortens c j (compensation_at c j)) here) (daily c j past ∷ past) rest
  ahead_daily rest l h = record {
    left = n;
    counts = omega arith;
    least = record {
      bounded = without_entry n daily_kind 0 0 rest l.bounded;
      keeps = h.then;
      first = λ t b g.
          after_entry daily_kind 0 0 rest t
          (l.first (daily_kind ∷ 0 ∷ 0 ∷ t) (with_entry n daily_kind 0 0 t (omega arith) (omega arith) (omega arith) b)
          (daily_keeps c n j st past compensations here reached t (record { gap = h.gap; net = h.net; few = h.few; then = g })));
    };
    compensations = daily-compensations c n j st past compensations;
  }

  week_byte : (w : ℕ) → week_start w < at c.ends j → w < byte_values
  week_byte w h = omega (arith, lies.judged j (omega arith))

  carrier_value : (w x : ℕ) → CarriedBy c j w x → x < carrier_values
  carrier_value w x h = omega (arith, carrier_low c j w x h)

  ahead_weekly : (w x : ℕ) (rest : List ℕ) → LeastFrom c (suc n) j st past (weekly_kind ∷ w ∷ x ∷ rest) → (h : WeeklyFirst c n j st past here w x rest)
      → Ahead (carrying c j x) (suc j) (after_counted c j w h.there) (weekly c j past w x ∷ past) rest
  ahead_weekly w x rest l h = record {
    left = n;
    counts = omega arith;
    least = record {
      bounded = without_entry n weekly_kind w x rest l.bounded;
      keeps = h.then;
      first = λ t b g.
          after_entry weekly_kind w x rest t
          (l.first (weekly_kind ∷ w ∷ x ∷ t) (with_entry n weekly_kind w x t (omega arith) (week_byte w h.upto) (carrier_value w x h.carried) b)
          (weekly_keeps c n j st past compensations here reached w x t (record {
            gap = h.gap;
            net = h.net;
            from = h.from;
            upto = h.upto;
            carried = h.carried;
            there = h.there;
            counted = h.counted;
            then = g;
          })));
    };
    compensations = weekly-compensations c n j st past compensations w x long h.carried;
  }

  next_daily : (rest : List ℕ) → LeastFrom c (suc n) j st past (daily_kind ∷ 0 ∷ 0 ∷ rest) → DailyFirst c n j st past here rest
      → NextDaily c j past here (daily_kind ∷ 0 ∷ 0 ∷ rest)
  next_daily rest l h = record { rest = rest; begins = refl; few = h.few; ahead = ahead_daily rest l h }

  how_begins : (r : List ℕ) → LeastFrom c (suc n) j st past r → Begins c n j st past here r
  how_begins r l =
      let e = entered n r l.bounded in
      let h : KeepsFrom c (suc n) j st past (e.kind ∷ e.week ∷ e.carrier ∷ e.rest) = subst (KeepsFrom c (suc n) j st past) e.begins l.keeps in
      subst (Begins c n j st past here) (sym e.begins) (begins c n j st past compensations here reached e.kind e.week e.carrier e.rest h)

  -- a rest too short for a weekly one
  must_be_daily : (r : List ℕ) → LeastFrom c (suc n) j st past r → length_at c j < least_net (Weekly Regular) + compensation_at c j → Begins c n j st past here r
      → NextDaily c j past here r
  must_be_daily r l s (daily_first rest h) = next_daily rest l h
  must_be_daily r l s (weekly_first w x rest h) = absurd (omega (arith, h.net))

  module _ (outstanding : List ℕ) (size : length outstanding ≡ count c) (zeros : Zeros outstanding) where
    is_daily : (r : List ℕ) → LeastFrom c (suc n) j st past r → CanBeDaily c j here outstanding → Begins c n j st past here r → NextDaily c j past here r
    is_daily r l g (daily_first rest h) = next_daily rest l h
    is_daily r l g (weekly_first w x rest h) =
        let t = can_be_daily outstanding size zeros h.gap g in
        let o = entry_order weekly_kind w x daily_kind 0 0 rest t.rest
        (l.first (daily_kind ∷ 0 ∷ 0 ∷ t.rest) (with_entry n daily_kind 0 0 t.rest (omega arith) (omega arith) (omega arith) t.bounded)
        (daily_keeps c n j st past compensations here reached t.rest t.holds)) in
        absurd (omega (arith, o.first))

    is_weekly : (r : List ℕ) (w x : ℕ) → LeastFrom c (suc n) j st past r → (CanBeDaily c j here outstanding → ⊥) → CanBeRead c j here outstanding
        → FirstWeekly c j here outstanding w x → Begins c n j st past here r → NextWeekly c j past here w x r
    is_weekly r w x l nay can f (daily_first rest h) = absurd (nay (goes_daily outstanding size zeros rest h))
    is_weekly r w x l nay can f (weekly_first w' x' rest h) =
        let mine = goes_weekly outstanding size zeros w' x' rest h in
        let g = f.goes can in
        let t = weekly_goes outstanding size zeros w x h.gap g in
        let o = entry_order weekly_kind w' x' weekly_kind w x rest t.rest
        (l.first (weekly_kind ∷ w ∷ x ∷ t.rest)
        (with_entry n weekly_kind w x t.rest (omega arith) (week_byte w g.upto) (carrier_value w x g.carried) t.bounded)
        (weekly_keeps c n j st past compensations here reached w x t.rest t.holds)) in
        let m = both (f.first w' x' mine) (o.second refl) (o.third refl) in
        subst (λ (y : ℕ). NextWeekly c j past here w y (weekly_kind ∷ w' ∷ x' ∷ rest)) m.1
        (subst (λ (v : ℕ). NextWeekly c j past here v x' (weekly_kind ∷ w' ∷ x' ∷ rest)) m.0
        (record { rest = rest; begins = refl; there = h.there; counted = h.counted; ahead = ahead_weekly w' x' rest l h }))
      where
        both : NotPast w x w' x' → w' ≤ w → (w' ≡ w → x' ≤ x) → (w' ≡ w) × (x' ≡ x)
        both (NotPast.sooner s) a b = absurd (omega arith)
        both (NotPast.same e s) a b = (sym e, omega (arith, b (sym e)))

    never_begins : {r : List ℕ} → (CanBeDaily c j here outstanding → ⊥) → ((w x : ℕ) → CanBeWeekly c j here outstanding w x → ⊥) → Begins c n j st past here r → ⊥
    never_begins nay none (daily_first rest h) = nay (goes_daily outstanding size zeros rest h)
    never_begins nay none (weekly_first w x rest h) = none w x (goes_weekly outstanding size zeros w x rest h)

-- ---- the step: before the rest of index j, in a state brought on to the week in which it starts
module _ (c : Course) (lies : Lies c) (few : count c < carrier_values) (bound : c.judged ≤ total_at_most) (long : length c.compensations ≡ count c)
    (j : ℕ) (inside : j < count c) (st : State) (past : List Entry) (r : List ℕ) where
  abbrev BroughtTo : State → Type 0
  BroughtTo here = advance (rest_week c) (week_of (at c.starts j) - st.week) st ≡ Some here

  step_short : (n : ℕ) → n + j ≡ count c → LeastFrom c n j st past r → ((i : ℕ) → j ≤ i → at c.compensations i ≡ compensation_of (suc i) past)
      → (here : State) → BroughtTo here → length_at c j < least_net (Weekly Regular) + compensation_at c j → NextDaily c j past here r
  step_short zero k l compensations here reached s = absurd (omega arith)
  step_short (suc n) k l compensations here reached s =
      must_be_daily c lies few bound long n j k st past compensations here reached r l s (how_begins c lies few bound long n j k st past compensations here reached r l)

  pub too_short_for_weekly : Ahead c j st past r → (here : State) → BroughtTo here → length_at c j < least_net (Weekly Regular) + compensation_at c j
      → NextDaily c j past here r
  too_short_for_weekly a here reached s = step_short a.left a.counts a.least a.compensations here reached s

  step_broken : (n : ℕ) → n + j ≡ count c → LeastFrom c n j st past r
      → advance (rest_week c) (week_of (at c.starts j) - st.week) st ≡ None → ⊥
  step_broken zero k l e = omega arith
  step_broken (suc n) k l e =
      let t = entered n r l.bounded in
      go t.kind t.week t.carrier _
      (kept_head (rest_week c) (counts c) c.judged (spans_of c) st _ _
      (keeps_out c n j st past t.kind t.week t.carrier t.rest (subst (KeepsFrom c (suc n) j st past) t.begins l.keeps)))
    where
      differ : (here : State) → BroughtTo here → ⊥
      differ here q = let z : ◌≡◌ {A = ℕ} 0 1 = cc in omega arith

      go : (a b d : ℕ) (xs : List Entry) → DailyStep (rest_week c) (counts c) c.judged (spans_of c) st (entry c j past a b d) xs
          ⊎ WeeklyStep (rest_week c) (counts c) c.judged (spans_of c) st (entry c j past a b d) xs → ⊥
      go a b d xs (inl s) = differ s.here s.reached
      go a b d xs (inr s) = differ s.here s.reached

  pub never_broken : Ahead c j st past r → advance (rest_week c) (week_of (at c.starts j) - st.week) st ≡ None → ⊥
  never_broken a e = step_broken a.left a.counts a.least e

  module _ (outstanding : List ℕ) (size : length outstanding ≡ count c) (zeros : Zeros outstanding) where
    -- where there is a first reading, the rests can be read
    can_be_read : (n : ℕ) → n + j ≡ count c → LeastFrom c n j st past r → ((i : ℕ) → j ≤ i → at c.compensations i ≡ compensation_of (suc i) past)
        → (here : State) → BroughtTo here → CanBeRead c j here outstanding
    unfolding Completable
    can_be_read zero k l compensations here reached = absurd (omega arith)
    can_be_read (suc n) k l compensations here reached =
        let a : n ≡ count c - (j + 1) = omega arith in
        let b : suc j ≡ j + 1 = omega arith in
        let g = extended c lies few bound (suc n) j st outstanding past k size zeros compensations r l.keeps in
        let t = subst (λ (x : Option State). After x (λ y. Tries c (Completable c n (suc j)) j y outstanding)) reached g.2 in
        subst (λ (i : ℕ). Tries c (Completable c (count c - (j + 1)) i) j here outstanding) b (subst (λ (m : ℕ). Tries c (Completable c m (suc j)) j here outstanding) a t)

    step_daily : (n : ℕ) → n + j ≡ count c → LeastFrom c n j st past r → ((i : ℕ) → j ≤ i → at c.compensations i ≡ compensation_of (suc i) past)
        → (here : State) → BroughtTo here → (CanBeRead c j here outstanding → CanBeDaily c j here outstanding) → NextDaily c j past here r
    step_daily zero k l compensations here reached g = absurd (omega arith)
    step_daily (suc n) k l compensations here reached g =
        is_daily c lies few bound long n j k st past compensations here reached outstanding size zeros r l (g (can_be_read (suc n) k l compensations here reached))
        (how_begins c lies few bound long n j k st past compensations here reached r l)

    pub goes_as_daily : Ahead c j st past r → (here : State) → BroughtTo here → (CanBeRead c j here outstanding → CanBeDaily c j here outstanding) → NextDaily c j past here r
    goes_as_daily a here reached g = step_daily a.left a.counts a.least a.compensations here reached g

    step_weekly : (n : ℕ) → n + j ≡ count c → LeastFrom c n j st past r → ((i : ℕ) → j ≤ i → at c.compensations i ≡ compensation_of (suc i) past)
        → (here : State) → BroughtTo here → (CanBeDaily c j here outstanding → ⊥) → (w x : ℕ) → FirstWeekly c j here outstanding w x → NextWeekly c j past here w x r
    step_weekly zero k l compensations here reached nay w x f = absurd (omega arith)
    step_weekly (suc n) k l compensations here reached nay w x f =
        is_weekly c lies few bound long n j k st past compensations here reached outstanding size zeros r w x l nay (can_be_read (suc n) k l compensations here reached) f
        (how_begins c lies few bound long n j k st past compensations here reached r l)

    pub goes_as_weekly : Ahead c j st past r → (here : State) → BroughtTo here → (CanBeDaily c j here outstanding → ⊥) → (w x : ℕ)
        → FirstWeekly c j here outstanding w x → NextWeekly c j past here w x r
    goes_as_weekly a here reached nay w x f = step_weekly a.left a.counts a.least a.compensations here reached nay w x f

    step_never : (n : ℕ) → n + j ≡ count c → LeastFrom c n j st past r → ((i : ℕ) → j ≤ i → at c.compensations i ≡ compensation_of (suc i) past)
        → (here : State) → BroughtTo here → (CanBeDaily c j here outstanding → ⊥) → ((w x : ℕ) → CanBeWeekly c j here outstanding w x → ⊥) → ⊥
    step_never zero k l compensations here reached nay none = omega arith
    step_never (suc n) k l compensations here reached nay none =
        never_begins c lies few bound long n j k st past compensations here reached outstanding size zeros nay none
        (how_begins c lies few bound long n j k st past compensations here reached r l)

    -- where it can be neither there is no first reading
    pub goes_nowhere : Ahead c j st past r → (here : State) → BroughtTo here → (CanBeDaily c j here outstanding → ⊥)
        → ((w x : ℕ) → CanBeWeekly c j here outstanding w x → ⊥) → ⊥
    goes_nowhere a here reached nay none = step_never a.left a.counts a.least a.compensations here reached nay none
