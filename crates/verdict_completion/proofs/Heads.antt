-- The first entry of a walk that keeps rules 6 to 11: what it needs as a daily rest and as a weekly rest, and that it needs no more.
-- Assumes nothing.
use mathlib.Core.Path.{◌≡◌, refl, sym, ap, subst, ◌∙◌}
use mathlib.Core.Logic.{◌⊎◌, inl, inr}
use mathlib.Core.Bool.{Bool, true, false}
use mathlib.Core.List.{List, ◌∷◌}
use Prim.Native.Nat.{ℕ, ◌+◌, ◌-◌, ◌≤◌, ◌<◌}
use native.Mathlib.Omega.{arith}
use lib.Dec.{leb, ltb, eqb}
use lib.ListN.{length}
use borrow.Author.Tests.{leb-true, le-leb, lt-leb, ltb-true, ltb-false, lt-ltb, eqb-true, eq-eqb, ne_eqb}
use Rattle.recording.specs.Tests.{◌and◌, ◌or◌, one, all_of}
use Rattle.recording.specs.Weeks.{week_start, week_of, touches}
use Rattle.recording.specs.declared.Span.{Span}
use Rattle.recording.proofs.TestLaws.{and_left, and_right, and_both, or_cases, or_left, or_right, clash}
use Rattle.rules.specs.Reading.{Entry, minutes, daily_kind, weekly_kind, regular_minutes, standing_of, as_read, is_regular, reduction_of}
use Rattle.rules.specs.ReadingRules.{formed_daily, weekly_length, formed_weekly, formed, rule6, least_net, long_enough, rule7, deadline, end_of, by_deadline, settles, compensated, rule8}
use Rattle.rules.specs.ReadingRules.{shortened_at_most, weekly_gap}
use Rattle.rules.specs.declared.Kind.{Kind}
use Rattle.rules.specs.declared.Kind.TheVariants.{Daily, Weekly}
use Rattle.rules.specs.declared.Standing.{Standing}
use Rattle.rules.specs.declared.Standing.TheVariants.{Regular}
use Rattle.verdict_completion.specs.declared.State.{State}
use Rattle.std.specs.Prelude.{Option, None, Some}
use Rattle.verdict_completion.specs.States.{advance, After, after_daily, after_weekly}
use Rattle.verdict_completion.specs.Runs.{Takes, Runs, Kept}

-- ---- a state brought on
pub record Arrives (b : Option State) (P : State → Type 0) : Type 0 where
  pub state : State
  pub reached : b ≡ Some state
  pub holds : P state

pub arrives : (b : Option State) (P : State → Type 0) → After b P → Arrives b P
arrives None P h = absurd h
arrives (Some st) P h = record { state = st; reached = refl; holds = h }

pub after : {b : Option State} (P : State → Type 0) {st : State} → b ≡ Some st → P st → After b P
after P e h = subst (λ (x : Option State). After x P) (sym e) h

-- ---- an entry as it is read
pub as_daily : (e : Entry) → e.kind ≡ daily_kind → as_read e ≡ Daily
unfolding as_read
as_daily e z = rw (ne_eqb e.kind weekly_kind (λ q. omega arith)) refl

abbrev pub standing : Entry → Standing
standing e = standing_of (ltb (minutes e) (regular_minutes + e.compensation)) (regular_minutes + e.compensation - minutes e)

pub as_weekly : (e : Entry) → e.kind ≡ weekly_kind → as_read e ≡ Weekly (standing e)
unfolding as_read
as_weekly e z = rw (eq-eqb e.kind weekly_kind z) refl

pub reduction_daily : (e : Entry) → e.kind ≡ daily_kind → reduction_of (as_read e) ≡ 0
reduction_daily e z = ap reduction_of (as_daily e z)

pub reduction_weekly : (e : Entry) → e.kind ≡ weekly_kind → reduction_of (as_read e) ≡ regular_minutes + e.compensation - minutes e
reduction_weekly e z = ap reduction_of (as_weekly e z) ∙ by _ refl
  where
    by : (b : Bool) → ltb (minutes e) (regular_minutes + e.compensation) ≡ b
        → reduction_of (Weekly (standing_of b (regular_minutes + e.compensation - minutes e))) ≡ regular_minutes + e.compensation - minutes e
    by true t = refl
    by false t = let h : regular_minutes + e.compensation ≤ minutes e = ltb-false (minutes e) (regular_minutes + e.compensation) t in omega arith

pub regular_weekly : (e : Entry) → e.kind ≡ weekly_kind → is_regular (as_read e) ≡ leb (regular_minutes + e.compensation) (minutes e)
regular_weekly e z = ap is_regular (as_weekly e z) ∙ by _ refl
  where
    by : (b : Bool) → ltb (minutes e) (regular_minutes + e.compensation) ≡ b
        → is_regular (Weekly (standing_of b (regular_minutes + e.compensation - minutes e))) ≡ leb (regular_minutes + e.compensation) (minutes e)
    by true t = sym (lt-leb (regular_minutes + e.compensation) (minutes e) (ltb-true (minutes e) (regular_minutes + e.compensation) t))
    by false t = sym (le-leb (regular_minutes + e.compensation) (minutes e) (ltb-false (minutes e) (regular_minutes + e.compensation) t))

-- ---- what the first entry needs
-- as a daily rest, in the state of the week in which it starts
pub record DailyHead (counts : Entry → Bool) (here : State) (e : Entry) : Type 0 where
  pub kind : e.kind ≡ daily_kind
  pub week : e.week ≡ 0
  pub compensated_by : e.compensated_by ≡ 0
  pub net : least_net Daily + e.compensation ≤ minutes e
  pub few : here.short + one (counts e) ≤ shortened_at_most

-- the carrier of a weekly rest: none, where it is regular or due after S, or a later rest that ends by the deadline
pub data Carried (s : ℕ) (rs : List Span) (e : Entry) : Type 0 where
  nowhere : e.compensated_by ≡ 0 → (regular_minutes + e.compensation ≤ minutes e) ⊎ (s < deadline e) → Carried s rs e
  there : e.number < e.compensated_by → e.compensated_by ≤ length rs → minutes e < regular_minutes + e.compensation
      → end_of rs e.compensated_by ≤ deadline e → Carried s rs e

pub record WeeklyHead (s : ℕ) (rs : List Span) (e : Entry) : Type 0 where
  pub kind : e.kind ≡ weekly_kind
  pub net : least_net (Weekly Regular) + e.compensation ≤ minutes e
  pub from : e.span.start < week_start (e.week + 1)
  pub upto : week_start e.week < e.span.end
  pub carried : Carried s rs e

module _ (rest_week : ℕ → Bool) (counts : Entry → Bool) (s : ℕ) (rs : List Span) (st : State) (e : Entry) (es : List Entry) where
  pub record DailyStep : Type 0 where
    pub here : State
    pub head : DailyHead counts here e
    pub gap : e.span.start ≤ st.ended + weekly_gap
    pub reached : advance rest_week (week_of e.span.start - st.week) st ≡ Some here
    pub then : Kept rest_week counts s rs (after_daily (counts e) here) es

  pub record WeeklyStep : Type 0 where
    pub here : State
    pub there : State
    pub head : WeeklyHead s rs e
    pub gap : e.span.start ≤ st.ended + weekly_gap
    pub reached : advance rest_week (week_of e.span.start - st.week) st ≡ Some here
    pub counted : advance rest_week (e.week - here.week) here ≡ Some there
    pub then : Kept rest_week counts s rs (after_weekly (rest_week e.week) (is_regular (as_read e)) e.span.end there) es

  -- ---- a daily rest
  pub kept_daily : DailyStep → Kept rest_week counts s rs st (e ∷ es)
  unfolding rule6 rule7 rule8 all_of formed formed_daily long_enough compensated Runs
  kept_daily d =
      let z = as_daily e d.head.kind in
      record {
        six =
            and_both _ _
            (or_left _ _ (and_both _ _
            (and_both _ _ (eq-eqb e.kind daily_kind d.head.kind) (eq-eqb e.week 0 d.head.week)) (eq-eqb e.compensated_by 0 d.head.compensated_by)))
            d.then.six;
        seven = rw z (and_both _ _ (le-leb (least_net Daily + e.compensation) (minutes e) d.head.net) d.then.seven);
        eight = rw z (and_both _ _ refl d.then.eight);
        runs = (d.gap, after _ d.reached (rw z (d.head.few, d.then.runs)));
      }

  daily_kept : Kept rest_week counts s rs st (e ∷ es) → formed_daily e ≡ true → DailyStep
  unfolding rule6 rule7 rule8 all_of formed_daily long_enough Runs
  daily_kept k t =
      let kind0 : e.kind ≡ daily_kind = eqb-true e.kind daily_kind (and_left _ _ (and_left _ _ t)) in
      let z = as_daily e kind0 in
      let v : leb (least_net Daily + e.compensation) (minutes e) ≡ true =
      subst (λ (m : Kind). leb (least_net m + e.compensation) (minutes e) ≡ true) z (and_left _ _ k.seven) in
      let a = arrives _ _ k.runs.1 in
      let r : Takes rest_week counts s (λ next. Runs rest_week counts s next es) e Daily a.state =
      subst (λ (m : Kind). Takes rest_week counts s (λ next. Runs rest_week counts s next es) e m a.state) z a.holds in
      record {
        here = a.state;
        head = record {
          kind = kind0;
          week = eqb-true e.week 0 (and_right _ _ (and_left _ _ t));
          compensated_by = eqb-true e.compensated_by 0 (and_right _ _ t);
          net = leb-true (least_net Daily + e.compensation) (minutes e) v;
          few = r.0;
        };
        gap = k.runs.0;
        reached = a.reached;
        then = record { six = and_right _ _ k.six; seven = and_right _ _ k.seven; eight = and_right _ _ k.eight; runs = r.1 };
      }

  -- ---- a weekly rest: its carrier, by rules 6 and 8
  carrier_form : Carried s rs e → eqb e.compensated_by 0 or (ltb e.number e.compensated_by and leb e.compensated_by (length rs)) ≡ true
  carrier_form (Carried.nowhere z u) = or_left _ _ (eq-eqb e.compensated_by 0 z)
  carrier_form (Carried.there h l u d) =
      or_right _ _ (and_both _ _ (lt-ltb e.number e.compensated_by h) (le-leb e.compensated_by (length rs) l))

  abbrev settled : Bool → Bool
  settled b = settles (Weekly (standing_of b (regular_minutes + e.compensation - minutes e))) s rs e.compensated_by (deadline e)

  carrier_time : (b : Bool) → ltb (minutes e) (regular_minutes + e.compensation) ≡ b → Carried s rs e → settled b ≡ true
  carrier_time true t (Carried.nowhere z (inl q)) =
      let h : minutes e < regular_minutes + e.compensation = ltb-true (minutes e) (regular_minutes + e.compensation) t in absurd (omega arith)
  carrier_time true t (Carried.nowhere z (inr q)) = rw (eq-eqb e.compensated_by 0 z) (lt-ltb s (deadline e) q)
  carrier_time true t (Carried.there h l u d) =
      rw (ne_eqb e.compensated_by 0 (λ q. omega arith)) (le-leb (end_of rs e.compensated_by) (deadline e) d)
  carrier_time false t (Carried.nowhere z u) = eq-eqb e.compensated_by 0 z
  carrier_time false t (Carried.there h l u d) =
      let k : regular_minutes + e.compensation ≤ minutes e = ltb-false (minutes e) (regular_minutes + e.compensation) t in absurd (omega arith)

  carrier_is : (b : Bool) → ltb (minutes e) (regular_minutes + e.compensation) ≡ b
      → (eqb e.compensated_by 0 ≡ true) ⊎ (ltb e.number e.compensated_by and leb e.compensated_by (length rs) ≡ true)
      → settled b ≡ true → Carried s rs e
  carrier_is false t f q =
      Carried.nowhere (eqb-true e.compensated_by 0 q) (inl (ltb-false (minutes e) (regular_minutes + e.compensation) t))
  carrier_is true t f q = by _ refl f
    where
      by : (z : Bool) → eqb e.compensated_by 0 ≡ z
          → (eqb e.compensated_by 0 ≡ true) ⊎ (ltb e.number e.compensated_by and leb e.compensated_by (length rs) ≡ true) → Carried s rs e
      by true y f =
          let d : ltb s (deadline e) ≡ true = subst (λ (b : Bool). by_deadline b s rs e.compensated_by (deadline e) ≡ true) y q in
          Carried.nowhere (eqb-true e.compensated_by 0 y) (inr (ltb-true s (deadline e) d))
      by false y (inl f) = clash _ f y
      by false y (inr f) =
          let d : leb (end_of rs e.compensated_by) (deadline e) ≡ true = subst (λ (b : Bool). by_deadline b s rs e.compensated_by (deadline e) ≡ true) y q in
          Carried.there (ltb-true e.number e.compensated_by (and_left _ _ f)) (leb-true e.compensated_by (length rs) (and_right _ _ f))
          (ltb-true (minutes e) (regular_minutes + e.compensation) t) (leb-true (end_of rs e.compensated_by) (deadline e) d)

  pub kept_weekly : WeeklyStep → Kept rest_week counts s rs st (e ∷ es)
  unfolding rule6 rule7 rule8 all_of formed formed_weekly touches long_enough compensated Runs
  kept_weekly d =
      let h = d.head in
      let z = as_weekly e h.kind in
      let l : weekly_length ≤ minutes e = omega (arith, h.net) in
      let n : Kept rest_week counts s rs (after_weekly (rest_week e.week) (is_regular (Weekly (standing e))) e.span.end d.there) es =
      subst (λ (m : Kind). Kept rest_week counts s rs (after_weekly (rest_week e.week) (is_regular m) e.span.end d.there) es) z d.then in
      record {
        six =
            and_both _ _
            (or_right _ _ (and_both _ _
            (and_both _ _ (and_both _ _ (eq-eqb e.kind weekly_kind h.kind) (le-leb weekly_length (minutes e) l))
            (and_both _ _ (lt-ltb e.span.start (week_start (e.week + 1)) h.from) (lt-ltb (week_start e.week) e.span.end h.upto)))
            (carrier_form h.carried)))
            n.six;
        seven = rw z (and_both _ _ (le-leb (least_net (Weekly Regular) + e.compensation) (minutes e) h.net) n.seven);
        eight = rw z (and_both _ _ (carrier_time _ refl h.carried) n.eight);
        runs = (d.gap, after _ d.reached (rw z (after _ d.counted n.runs)));
      }

  weekly_kept : Kept rest_week counts s rs st (e ∷ es) → formed_weekly (length rs) e ≡ true → WeeklyStep
  unfolding rule6 rule7 rule8 all_of formed_weekly touches long_enough compensated Runs
  weekly_kept k t =
      let t1 = and_left _ _ t in
      let t2 = and_left _ _ t1 in
      let t3 = and_right _ _ t1 in
      let kind1 : e.kind ≡ weekly_kind = eqb-true e.kind weekly_kind (and_left _ _ t2) in
      let z = as_weekly e kind1 in
      let v : leb (least_net (Weekly (standing e)) + e.compensation) (minutes e) ≡ true =
      subst (λ (m : Kind). leb (least_net m + e.compensation) (minutes e) ≡ true) z (and_left _ _ k.seven) in
      let q : settles (Weekly (standing e)) s rs e.compensated_by (deadline e) ≡ true =
      subst (λ (m : Kind). settles m s rs e.compensated_by (deadline e) ≡ true) z (and_left _ _ k.eight) in
      let a = arrives _ _ k.runs.1 in
      let r : Takes rest_week counts s (λ next. Runs rest_week counts s next es) e (Weekly (standing e)) a.state =
      subst (λ (m : Kind). Takes rest_week counts s (λ next. Runs rest_week counts s next es) e m a.state) z a.holds in
      let b = arrives _ _ r in
      let n : Kept rest_week counts s rs (after_weekly (rest_week e.week) (is_regular (Weekly (standing e))) e.span.end b.state) es =
      record { six = and_right _ _ k.six; seven = and_right _ _ k.seven; eight = and_right _ _ k.eight; runs = b.holds } in
      record {
        here = a.state;
        there = b.state;
        head = record {
          kind = kind1;
          net = leb-true (least_net (Weekly Regular) + e.compensation) (minutes e) v;
          from = ltb-true e.span.start (week_start (e.week + 1)) (and_left _ _ t3);
          upto = ltb-true (week_start e.week) e.span.end (and_right _ _ t3);
          carried = carrier_is _ refl (or_cases _ _ (and_right _ _ t)) q;
        };
        gap = k.runs.0;
        reached = a.reached;
        counted = b.reached;
        then = subst (λ (m : Kind). Kept rest_week counts s rs (after_weekly (rest_week e.week) (is_regular m) e.span.end b.state) es) (sym z) n;
      }

  -- one or the other
  pub kept_head : Kept rest_week counts s rs st (e ∷ es) → DailyStep ⊎ WeeklyStep
  unfolding rule6 all_of formed
  kept_head k = by (or_cases (formed_daily e) (formed_weekly (length rs) e) (and_left _ _ k.six))
    where
      by : (formed_daily e ≡ true) ⊎ (formed_weekly (length rs) e ≡ true) → DailyStep ⊎ WeeklyStep
      by (inl t) = inl (daily_kept k t)
      by (inr t) = inr (weekly_kept k t)
