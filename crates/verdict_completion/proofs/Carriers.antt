-- Carriers decided late and carriers decided at once come to the same: the rests from one on can be completed exactly where some fields for them
-- keep rules 6 to 11. Assumes nothing.
use mathlib.Core.Path.{◌≡◌, refl, sym, ap, ap₂, subst, ◌∙◌}
use mathlib.Core.Logic.{◌⊎◌, inl, inr, ⊎_elim}
use mathlib.Core.Bool.{Bool, true, false}
use mathlib.Core.List.{List, [], ◌∷◌}
use Prim.Native.Nat.{ℕ, zero, suc, ◌+◌, ◌-◌, ◌≤◌, ◌<◌}
use native.Mathlib.Nat.{le_refl, eq-zero-or-pos}
use native.Mathlib.Omega.{arith}
use lib.Dec.{leb, ltb, eqb}
use lib.ListN.{length, set, drop, length-set}
use lib.Seq.{get_or-set_same}
use borrow.Author.Tests.{lt-ltb, eqb-true, eqb-false, eq-eqb, ne_eqb}
use Rattle.recording.specs.Tests.{pick, one, all_of}
use Rattle.recording.specs.Weeks.{week_start, week_of}
use Rattle.recording.specs.Operations.{total_at_most}
use Rattle.recording.proofs.TestLaws.{less_or_not}
use Rattle.rules.specs.Reading.{Entry, minutes, daily_kind, weekly_kind, regular_minutes, as_read, is_regular, reduction_of, compensation_of, entry_fields, byte_values, entry_of, entries_from}
use Rattle.rules.specs.ReadingRules.{rule6, rule7, rule8, least_net, deadline, end_of, shortened_at_most, weekly_gap}
use Rattle.rules.specs.Order.{carrier_values, Fields}
use Rattle.rules.specs.declared.Kind.TheVariants.{Daily, Weekly}
use Rattle.rules.specs.declared.Standing.TheVariants.{Regular}
use Rattle.rules_nets.specs.Nets.{counts_by}
use Rattle.rules_items.specs.Items.{end_before, span_at, spans_from, Zeros}
use Rattle.rules_items.proofs.TallyLaws.{end_of_spans}
use Rattle.rules_items.proofs.SpanLaws.{spans_length}
use Rattle.verdict_completion.specs.declared.State.{State}
use Rattle.std.specs.Prelude.{Some}
use Rattle.verdict_completion.specs.States.{advance, after_daily, after_weekly}
use Rattle.verdict_completion.specs.Runs.{Runs, Kept}
use Rattle.verdict_completion.specs.Completable.{Course, at, count, spans_of, rest_week, counts, length_at, amount_of, deadline_of}
use Rattle.verdict_completion.specs.Completable.{outstanding_of, Overdue, shortens, ReadDaily, ReadWeekly, Reads, Completable, Lies}
use Rattle.verdict_completion.proofs.Heads.{arrives, after, reduction_daily, reduction_weekly, regular_weekly, Carried, DailyStep, WeeklyStep, kept_daily}
use Rattle.verdict_completion.proofs.Heads.{kept_weekly, kept_head}
use Rattle.verdict_completion.proofs.Compensations.{reduction_none, reduction_some, reduction_deadline, reduction_amount, share, brought}
use Rattle.verdict_completion.proofs.Compensations.{share_none, share_other, brought_same, brought_last, brought_nothing, set_other}
use Rattle.verdict_completion.proofs.Compensations.{carried_by, Compensated, added_to, Left, compensates}

-- ---- a reduction from before the rest of a number and after it: compensated for by it, or left as it was
data Moves (number : ℕ) (carrier reduction carrier' reduction' : ℕ) : Type 0 where
  gone : carrier ≡ number → reduction' ≡ 0 → Moves number carrier reduction carrier' reduction'
  stays : carrier' ≡ carrier → reduction' ≡ reduction → (carrier ≡ number → ⊥) → Moves number carrier reduction carrier' reduction'

moves_share : {number carrier reduction carrier' reduction' : ℕ} (later : ℕ) → number < later → Moves number carrier reduction carrier' reduction'
    → share later carrier reduction ≡ share later carrier' reduction'
moves_share {number} {carrier} {reduction} {carrier'} {reduction'} later h (Moves.gone e z) =
    share_other later carrier reduction (λ q. omega arith) ∙ sym (share_none later carrier' reduction' z)
moves_share {number} {carrier} {reduction} {carrier'} {reduction'} later h (Moves.stays e d n) = sym (ap₂ (share later) e d)

module _ (c : Course) where
  -- a reduction and its carrier, before the rest of index j: no reduction, or one that is due after S, or a rest from index j on that ends in time
  data Way (j carrier reduction : ℕ) : Type 0 where
    none : reduction ≡ 0 → Way j carrier reduction
    late : carrier ≡ 0 → c.judged < deadline_of reduction → Way j carrier reduction
    there : (i : ℕ) → carrier ≡ suc i → j ≤ i → i < count c → at c.ends i ≤ deadline_of reduction → Way j carrier reduction

  -- what the rests from index j on compensate for: the compensations decided before and what the outstanding reductions bring
  abbrev Compensations : ℕ → List Entry → (ℕ → ℕ) → List ℕ → Type 0
  Compensations j past carrier outstanding = (i : ℕ) → j ≤ i → compensation_of (suc i) past ≡ at c.compensations i + brought (suc i) carrier outstanding j 0

  abbrev entry_at : ℕ → List Entry → List ℕ → Entry
  entry_at j past fields = entry_of (suc j) (end_before c.ends j) past (span_at c.starts c.ends j) fields

  abbrev entries_at : ℕ → ℕ → List Entry → List ℕ → List Entry
  entries_at n j past fields = entries_from (suc j) (end_before c.ends j) past (spans_from c.starts c.ends j n) fields

  -- rule 9 sees of a daily rest its number
  pub shortened_at : (j : ℕ) (past : List Entry) (fields : List ℕ) → counts c (entry_at j past fields) ≡ shortens c j (compensation_of (suc j) past)
  unfolding counts_by
  shortened_at j past fields =
      let z : suc j - 1 ≡ j = omega arith in
      ap (λ (i : ℕ). ltb (length_at c j) (at c.nets i + compensation_of (suc j) past)) z

  abbrev Keeps : State → List Entry → Type 0
  Keeps st es = Kept (rest_week c) (counts c) c.judged (spans_of c) st es

  compensations_next : (j : ℕ) (past : List Entry) (e : Entry) (f g : ℕ → ℕ) (outstanding next : List ℕ) → Compensations j past f outstanding
      → ((x : ℕ) → x < j → Moves (suc j) (f x) (at outstanding x) (g x) (at next x))
      → ((i : ℕ) → pick (eqb e.compensated_by (suc i)) (reduction_of (as_read e)) 0 ≡ share (suc i) (g j) (at next j))
      → Compensations (suc j) (e ∷ past) g next
  unfolding compensation_of
  compensations_next j past e f g outstanding next h m own i l =
      let a : compensation_of (suc i) past ≡ at c.compensations i + brought (suc i) f outstanding j 0 = h i (omega arith) in
      let b : brought (suc i) f outstanding j 0 ≡ brought (suc i) g next j 0 =
      brought_same (suc i) f g outstanding next j 0 (λ x _ r. moves_share (suc i) (omega arith) (m x (omega arith))) in
      let d : brought (suc i) g next (suc j) 0 ≡ brought (suc i) g next j 0 + share (suc i) (g j) (at next j) = brought_last (suc i) g next j in
      let o = own i in
      omega (arith, o, d, b, a)

  -- the reduction of a rest itself, as its entry says it and as a word
  own_share : (e : Entry) (carrier reduction : ℕ) → reduction_of (as_read e) ≡ amount_of reduction → (0 < reduction → e.compensated_by ≡ carrier)
      → (i : ℕ) → pick (eqb e.compensated_by (suc i)) (reduction_of (as_read e)) 0 ≡ share (suc i) carrier reduction
  own_share e carrier reduction r q i =
      ap (λ (x : ℕ). pick (eqb e.compensated_by (suc i)) x 0) r
      ∙ ⊎_elim
      (λ z. share_none (suc i) e.compensated_by reduction z ∙ sym (share_none (suc i) carrier reduction z))
      (λ h. ap (λ (x : ℕ). share (suc i) x reduction) (q h))
      (eq-zero-or-pos reduction)

  -- ---- where rests end
  pub end_at : (i : ℕ) → i < count c → end_of (spans_of c) (suc i) ≡ at c.ends i
  end_at i h = sym (end_of_spans c.starts c.ends (count c) (suc i)) ∙ rw (lt-ltb i (count c) h) refl

  pub rests : length (spans_of c) ≡ count c
  rests = spans_length c.starts c.ends 0 (count c)

  module _ (lies : Lies c) where
    ends_on : (j d : ℕ) → j + d < count c → at c.ends j ≤ at c.ends (j + d)
    ends_on j zero h = let e : j ≡ j + 0 = omega arith in subst (λ (x : ℕ). at c.ends j ≤ at c.ends x) e (le_refl _)
    ends_on j (suc d) h =
        let e : suc (j + d) ≡ j + suc d = omega arith in
        let a : at c.ends j ≤ at c.ends (j + d) = ends_on j d (omega arith) in
        let b : at c.ends (j + d) ≤ at c.starts (suc (j + d)) = lies.ordered (j + d) (omega arith) in
        let f : at c.starts (suc (j + d)) < at c.ends (suc (j + d)) = lies.proper (suc (j + d)) (omega arith) in
        subst (λ (x : ℕ). at c.ends j ≤ at c.ends x) e (omega arith)

    ends_later : (j i : ℕ) → j ≤ i → i < count c → at c.ends j ≤ at c.ends i
    ends_later j i l h =
        let e : j + (i - j) ≡ i = omega arith in
        subst (λ (x : ℕ). at c.ends j ≤ at c.ends x) e (ends_on j (i - j) (omega arith))

  -- ---- the carrier of a weekly rest, as a byte and as a way for its reduction
  abbrev carrier_of : ℕ → ℕ → ℕ
  carrier_of reduction carrier = pick (eqb reduction 0) 0 carrier

  carrier_some : (reduction carrier : ℕ) → 0 < reduction → carrier_of reduction carrier ≡ carrier
  carrier_some reduction carrier h = rw (ne_eqb reduction 0 (λ z. omega arith)) refl

  carrier_value : count c < carrier_values → {j carrier reduction : ℕ} → Way j carrier reduction → carrier_of reduction carrier < carrier_values
  carrier_value few {j} {carrier} {reduction} w = ⊎_elim (λ z. rw z (omega arith)) (λ h. rw (carrier_some reduction carrier h) (by h w)) (eq-zero-or-pos reduction)
    where
      by : 0 < reduction → Way j carrier reduction → carrier < carrier_values
      by h (Way.none z) = absurd (omega arith)
      by h (Way.late z l) = omega arith
      by h (Way.there i z l m d) = omega arith

  abbrev reduction_after : Entry → ℕ
  reduction_after e = outstanding_of (minutes e) e.compensation e.week

  way_carried : (e : Entry) (a : ℕ) → least_net (Weekly Regular) + e.compensation ≤ minutes e → e.compensated_by ≡ carrier_of (reduction_after e) a
      → Way e.number a (reduction_after e) → Carried c.judged (spans_of c) e
  way_carried e a n q w = by (less_or_not (minutes e) (regular_minutes + e.compensation)) w
    where
      by : (minutes e < regular_minutes + e.compensation) ⊎ (regular_minutes + e.compensation ≤ minutes e) → Way e.number a (reduction_after e)
          → Carried c.judged (spans_of c) e
      by (inr r) w =
          Carried.nowhere (q ∙ ap (λ (d : ℕ). carrier_of d a) (reduction_none (minutes e) e.compensation e.week r)) (inl r)
      by (inl r) (Way.none z) =
          let h : 0 < reduction_after e = reduction_some (minutes e) e.compensation e.week r in absurd (omega arith)
      by (inl r) (Way.late z l) =
          Carried.nowhere (q ∙ carrier_some (reduction_after e) a (reduction_some (minutes e) e.compensation e.week r) ∙ z)
          (inr (subst (λ (d : ℕ). c.judged < d) (reduction_deadline (minutes e) e.compensation e.week n r) l))
      by (inl r) (Way.there i z l m d) =
          let y : e.compensated_by ≡ suc i = q ∙ carrier_some (reduction_after e) a (reduction_some (minutes e) e.compensation e.week r) ∙ z in
          let u : end_of (spans_of c) e.compensated_by ≡ at c.ends i = ap (end_of (spans_of c)) y ∙ end_at i m in
          let v : deadline_of (reduction_after e) ≡ deadline e = reduction_deadline (minutes e) e.compensation e.week n r in
          Carried.there (omega arith) (omega (arith, rests)) r (subst (λ (x : ℕ). x ≤ deadline e) (sym u) (subst (λ (x : ℕ). at c.ends i ≤ x) v d))

  carried_way : (e : Entry) → least_net (Weekly Regular) + e.compensation ≤ minutes e → Carried c.judged (spans_of c) e
      → Way e.number e.compensated_by (reduction_after e)
  carried_way e n (Carried.nowhere z (inl r)) = Way.none (reduction_none (minutes e) e.compensation e.week r)
  carried_way e n (Carried.nowhere z (inr l)) =
      ⊎_elim
      (λ r. Way.late z (subst (λ (d : ℕ). c.judged < d) (sym (reduction_deadline (minutes e) e.compensation e.week n r)) l))
      (λ r. Way.none (reduction_none (minutes e) e.compensation e.week r))
      (less_or_not (minutes e) (regular_minutes + e.compensation))
  carried_way e n (Carried.there h l r d) = by e.compensated_by refl
    where
      by : (x : ℕ) → e.compensated_by ≡ x → Way e.number e.compensated_by (reduction_after e)
      by zero y = absurd (omega arith)
      by (suc i) y =
          let m : i < count c = omega (arith, rests) in
          let u : end_of (spans_of c) e.compensated_by ≡ at c.ends i = ap (end_of (spans_of c)) y ∙ end_at i m in
          let v : deadline_of (reduction_after e) ≡ deadline e = reduction_deadline (minutes e) e.compensation e.week n r in
          Way.there i y (omega arith) m (subst (λ (x : ℕ). at c.ends i ≤ x) (sym v) (subst (λ (x : ℕ). x ≤ deadline e) u d))

  -- ---- from a completion to fields: carriers for what is outstanding, and fields that are right after every past that compensates as the carriers say
  record Answer (n j : ℕ) (st : State) (outstanding : List ℕ) : Type 0 where
    carrier : ℕ → ℕ
    fields : List ℕ
    settled : (x : ℕ) → x < j → Way j (carrier x) (at outstanding x)
    bounded : Fields n fields
    kept : (past : List Entry) → Compensations j past carrier outstanding → Keeps st (entries_at n j past fields)

  answer_end : (j : ℕ) (st : State) (outstanding : List ℕ) → Completable c 0 j st outstanding → Answer 0 j st outstanding
  unfolding Completable Overdue entries_from spans_from rule6 rule7 rule8 all_of Runs
  answer_end j st outstanding h = record {
    carrier = λ x. 0;
    fields = [];
    settled = λ x l. ⊎_elim Way.none (λ p. Way.late refl (uncompensated x p)) (eq-zero-or-pos (at outstanding x));
    bounded = tt;
    kept = λ past g. record { six = refl; seven = refl; eight = refl; runs = h.0 };
  }
    where
      uncompensated : (x : ℕ) → 0 < at outstanding x → c.judged < deadline_of (at outstanding x)
      uncompensated x p = ⊎_elim (λ l. l) (λ l. absurd (h.1 (x, p, omega arith))) (less_or_not c.judged (deadline_of (at outstanding x)))

  -- the rest of index j has compensated for its part, and what is outstanding after it has carriers
  module _ {n j : ℕ} {outstanding : List ℕ} (inside : j < count c) (on-time : Overdue outstanding (at c.ends j) → ⊥)
      {F : ℕ → List ℕ → Type 0} (p : Compensated F j 0 (at c.compensations j) outstanding) {st' : State} {next : List ℕ}
      (below : (x : ℕ) → x < j → at next x ≡ at p.left x) (a : Answer n (suc j) st' next) where
    abbrev by_now : ℕ → ℕ
    by_now = carried_by p.left (suc j) a.carrier

    not_now : {x reduction : ℕ} → 0 < reduction → Way (suc j) x reduction → x ≡ suc j → ⊥
    not_now h (Way.none z) q = omega arith
    not_now h (Way.late z l) q = omega arith
    not_now h (Way.there i z l m d) q = omega arith

    way_left : (x : ℕ) → x < j → Way (suc j) (a.carrier x) (at p.left x)
    way_left x l = subst (λ (d : ℕ). Way (suc j) (a.carrier x) d) (below x l) (a.settled x (omega arith))

    -- a reduction that is left stood there before
    stood : (x : ℕ) → (at p.left x ≡ 0 → ⊥) → at p.left x ≡ at outstanding x
    stood x n = ⊎_elim (λ e. e) (λ z. absurd (n z)) (p.each x)

    moves_now : (x : ℕ) → x < j → Moves (suc j) (by_now x) (at outstanding x) (a.carrier x) (at next x)
    moves_now x l = by _ refl
      where
        by : (b : Bool) → eqb (at p.left x) 0 ≡ b → Moves (suc j) (pick b (suc j) (a.carrier x)) (at outstanding x) (a.carrier x) (at next x)
        by true t = Moves.gone refl (below x l ∙ eqb-true (at p.left x) 0 t)
        by false t =
            let z : at p.left x ≡ 0 → ⊥ = eqb-false (at p.left x) 0 t in
            Moves.stays refl (below x l ∙ stood x z) (not_now (omega arith) (way_left x l))

    way_back : {x reduction : ℕ} → Way (suc j) x reduction → Way j x reduction
    way_back (Way.none z) = Way.none z
    way_back (Way.late z l) = Way.late z l
    way_back (Way.there i z l m d) = Way.there i z (omega arith) m d

    settled_now : (x : ℕ) → x < j → Way j (by_now x) (at outstanding x)
    unfolding Overdue
    settled_now x l = by _ refl (eq-zero-or-pos (at outstanding x))
      where
        by : (b : Bool) → eqb (at p.left x) 0 ≡ b → (at outstanding x ≡ 0) ⊎ (0 < at outstanding x) → Way j (pick b (suc j) (a.carrier x)) (at outstanding x)
        by b t (inl z) = Way.none z
        by true t (inr h) =
            Way.there j refl (le_refl _) inside
            (⊎_elim (λ r. absurd (on-time (x, h, r))) (λ r. r) (less_or_not (deadline_of (at outstanding x)) (at c.ends j)))
        by false t (inr h) =
            subst (λ (d : ℕ). Way j (a.carrier x) d) (stood x (eqb-false (at p.left x) 0 t)) (way_back (way_left x l))

    compensation_now : (past : List Entry) → Compensations j past by_now outstanding → compensation_of (suc j) past ≡ p.total
    compensation_now past h =
        h j (le_refl _) ∙ sym (p.sum (suc j) a.carrier (λ x _ r s. not_now s (way_left x (omega arith))))

    module _ (few : count c < carrier_values) {st here : State} (gap : at c.starts j ≤ st.ended + weekly_gap)
        (reached : advance (rest_week c) (week_of (at c.starts j) - st.week) st ≡ Some here) where
      answer_daily : least_net Daily + p.total ≤ length_at c j → here.short + one (shortens c j p.total) ≤ shortened_at_most
          → st' ≡ after_daily (shortens c j p.total) here → at next j ≡ 0 → Answer (suc n) j st outstanding
      unfolding entries_from spans_from
      answer_daily net short to nothing = record {
        carrier = by_now;
        fields = daily_kind ∷ 0 ∷ 0 ∷ a.fields;
        settled = settled_now;
        bounded = (omega arith, (omega arith, (omega arith, a.bounded)));
        kept = λ past h.
            let e : Entry = entry_at j past (daily_kind ∷ 0 ∷ 0 ∷ a.fields) in
            let l : compensation_of (suc j) past ≡ p.total = compensation_now past h in
            let b : counts c e ≡ shortens c j p.total = shortened_at j past (daily_kind ∷ 0 ∷ 0 ∷ a.fields) ∙ ap (shortens c j) l in
            let k : Keeps st' (entries_at n (suc j) (e ∷ past) a.fields) =
            a.kept (e ∷ past) (compensations_next j past e by_now a.carrier outstanding next h moves_now
            (own_share e (a.carrier j) (at next j) (reduction_daily e refl ∙ ap amount_of (sym nothing)) (λ s. absurd (omega arith)))) in
            kept_daily (rest_week c) (counts c) c.judged (spans_of c) st e (entries_at n (suc j) (e ∷ past) a.fields) (record {
              here = here;
              head = record {
                kind = refl;
                week = refl;
                compensated_by = refl;
                net = omega (arith, net, l);
                few = subst (λ (x : Bool). here.short + one x ≤ shortened_at_most) (sym b) short;
              };
              gap = gap;
              reached = reached;
              then = subst (λ (x : State). Keeps x (entries_at n (suc j) (e ∷ past) a.fields)) (to ∙ ap (λ (x : Bool). after_daily x here) (sym b)) k;
            });
      }

      answer_weekly : (w : ℕ) {there : State} → w < byte_values → least_net (Weekly Regular) + p.total ≤ length_at c j
          → at c.starts j < week_start (w + 1) → week_start w < at c.ends j → advance (rest_week c) (w - here.week) here ≡ Some there
          → st' ≡ after_weekly (rest_week c w) (leb (regular_minutes + p.total) (length_at c j)) (at c.ends j) there
          → at next j ≡ outstanding_of (length_at c j) p.total w → Answer (suc n) j st outstanding
      unfolding entries_from spans_from
      answer_weekly w {there} small net from upto counted to is_outstanding =
          let way : Way (suc j) (a.carrier j) (outstanding_of (length_at c j) p.total w) =
          subst (λ (d : ℕ). Way (suc j) (a.carrier j) d) is_outstanding (a.settled j (omega arith)) in
          let carrier : ℕ = carrier_of (outstanding_of (length_at c j) p.total w) (a.carrier j) in
          let fields : List ℕ = weekly_kind ∷ w ∷ carrier ∷ a.fields in
          record {
            carrier = by_now;
            fields = fields;
            settled = settled_now;
            bounded = (omega arith, (small, (carrier_value few way, a.bounded)));
            kept = λ past h.
                let e : Entry = entry_at j past fields in
                let l : compensation_of (suc j) past ≡ p.total = compensation_now past h in
                let m : least_net (Weekly Regular) + e.compensation ≤ minutes e = omega (arith, net, l) in
                let o : reduction_after e ≡ outstanding_of (length_at c j) p.total w = ap (λ (x : ℕ). outstanding_of (length_at c j) x w) l in
                let r : is_regular (as_read e) ≡ leb (regular_minutes + p.total) (length_at c j) =
                regular_weekly e refl ∙ ap (λ (x : ℕ). leb (regular_minutes + x) (length_at c j)) l in
                let q : e.compensated_by ≡ carrier_of (reduction_after e) (a.carrier j) = ap (λ (x : ℕ). carrier_of x (a.carrier j)) (sym o) in
                let k : Keeps st' (entries_at n (suc j) (e ∷ past) a.fields) =
                a.kept (e ∷ past) (compensations_next j past e by_now a.carrier outstanding next h moves_now
                (own_share e (a.carrier j) (at next j) (reduction_weekly e refl ∙ sym (reduction_amount (minutes e) e.compensation e.week m) ∙ ap amount_of (o ∙ sym is_outstanding))
                (λ s. ap (λ (x : ℕ). carrier_of x (a.carrier j)) (sym is_outstanding) ∙ carrier_some (at next j) (a.carrier j) s))) in
                kept_weekly (rest_week c) (counts c) c.judged (spans_of c) st e (entries_at n (suc j) (e ∷ past) a.fields) (record {
                  here = here;
                  there = there;
                  head = record {
                    kind = refl;
                    net = m;
                    from = from;
                    upto = upto;
                    carried = way_carried e (a.carrier j) m q (subst (λ (d : ℕ). Way (suc j) (a.carrier j) d) (sym o) way);
                  };
                  gap = gap;
                  reached = reached;
                  counted = counted;
                  then =
                      subst (λ (x : State). Keeps x (entries_at n (suc j) (e ∷ past) a.fields))
                      (to ∙ ap (λ (x : Bool). after_weekly (rest_week c w) x (at c.ends j) there) (sym r)) k;
                });
          }

  module _ (lies : Lies c) (few : count c < carrier_values) (bound : c.judged ≤ total_at_most) where
    module _ (n j : ℕ) (st here : State) (outstanding : List ℕ) (inside : j < count c) (size : length outstanding ≡ count c) (fresh : (x : ℕ) → j ≤ x → at outstanding x ≡ 0)
        (gap : at c.starts j ≤ st.ended + weekly_gap) (on-time : Overdue outstanding (at c.ends j) → ⊥)
        (reached : advance (rest_week c) (week_of (at c.starts j) - st.week) st ≡ Some here)
        (ih : (st' : State) (next : List ℕ) → length next ≡ count c → ((x : ℕ) → suc j ≤ x → at next x ≡ 0) → Completable c n (suc j) st' next → Answer n (suc j) st' next)
        (p : Compensated (Reads c (Completable c n (suc j)) j here) j 0 (at c.compensations j) outstanding) where
      beyond : (x : ℕ) → j ≤ x → at p.left x ≡ 0
      beyond x l = ⊎_elim (λ e. e ∙ fresh x l) (λ z. z) (p.each x)

      answer_read : Reads c (Completable c n (suc j)) j here p.total p.left → Answer (suc n) j st outstanding
      answer_read (inl d) =
          let a = ih (after_daily (shortens c j p.total) here) p.left (p.size ∙ size) (λ x l. beyond x (omega arith)) d.then in
          answer_daily inside on-time p (λ x l. refl) a few gap reached d.net d.few refl (beyond j (le_refl _))
      answer_read (inr d) =
          let reduction : ℕ = outstanding_of (length_at c j) p.total d.week in
          let next : List ℕ = set p.left j reduction in
          let t = arrives _ _ d.then in
          let a = ih _ next (length-set p.left j reduction ∙ p.size ∙ size)
          (λ x l. set_other p.left j x reduction (λ q. omega arith) ∙ beyond x (omega arith)) t.holds in
          let u : week_start d.week < at c.ends j = d.upto in
          answer_weekly inside on-time p (λ x l. set_other p.left j x reduction (λ q. omega arith)) a few gap reached
          d.week (omega (arith, u, lies.judged j inside)) d.net d.from u t.reached refl
          (get_or-set_same p.left j reduction 0 (omega (arith, p.size)))

    answer : (n j : ℕ) (st : State) (outstanding : List ℕ) → n + j ≡ count c → length outstanding ≡ count c → ((x : ℕ) → j ≤ x → at outstanding x ≡ 0)
        → Completable c n j st outstanding → Answer n j st outstanding
    unfolding Completable
    answer zero j st outstanding k size fresh h = answer_end j st outstanding h
    answer (suc n) j st outstanding k size fresh h =
        let t = arrives _ _ h.2 in
        let p = added_to _ (length_at c j) j 0 (at c.compensations j) outstanding t.holds in
        answer_read n j st t.state outstanding (omega arith) size fresh h.0 h.1 t.reached
        (λ st' next s f g. answer n (suc j) st' next (omega arith) s f g) p p.asked

  -- ---- from fields to a completion: each rest compensates for the reductions whose carrier it is
  module _ (lies : Lies c) where
    -- where every outstanding reduction has a carrier, none is overdue
    not_overdue : (j : ℕ) (outstanding : List ℕ) (carrier : ℕ → ℕ) → j < count c → ((x : ℕ) → j ≤ x → at outstanding x ≡ 0)
        → ((x : ℕ) → x < j → Way j (carrier x) (at outstanding x)) → Overdue outstanding (at c.ends j) → ⊥
    unfolding Overdue
    not_overdue j outstanding carrier inside fresh settled (x, h, l) = ⊎_elim (λ r. by (settled x r)) (λ r. let z = fresh x r in omega arith) (less_or_not x j)
      where
        by : Way j (carrier x) (at outstanding x) → ⊥
        by (Way.none z) = omega arith
        by (Way.late z d) = let e = lies.judged j inside in omega arith
        by (Way.there i z r m d) = let e = ends_later lies j i r m in omega arith

  none_left : (j : ℕ) (outstanding : List ℕ) (carrier : ℕ → ℕ) → j ≡ count c → ((x : ℕ) → j ≤ x → at outstanding x ≡ 0)
      → ((x : ℕ) → x < j → Way j (carrier x) (at outstanding x)) → Overdue outstanding (c.judged + 1) → ⊥
  unfolding Overdue
  none_left j outstanding carrier k fresh settled (x, h, l) = ⊎_elim (λ r. by (settled x r)) (λ r. let z = fresh x r in omega arith) (less_or_not x j)
    where
      by : Way j (carrier x) (at outstanding x) → ⊥
      by (Way.none z) = omega arith
      by (Way.late z d) = omega arith
      by (Way.there i z r m d) = omega arith

  way_on : {j x reduction x' reduction' : ℕ} → Moves (suc j) x reduction x' reduction' → Way j x reduction → Way (suc j) x' reduction'
  way_on (Moves.gone e z) w = Way.none z
  way_on (Moves.stays e q n) (Way.none z) = Way.none (q ∙ z)
  way_on (Moves.stays e q n) (Way.late z d) = Way.late (e ∙ z) (subst (λ (y : ℕ). c.judged < deadline_of y) (sym q) d)
  way_on (Moves.stays e q n) (Way.there i z r m d) =
      Way.there i (e ∙ z) (omega arith) m (subst (λ (y : ℕ). at c.ends i ≤ deadline_of y) (sym q) d)

  -- the rest of index j compensates for the reductions whose carrier it is; next is what is outstanding after it, by later carriers
  module _ {j : ℕ} {outstanding left : List ℕ} {carrier : ℕ → ℕ} (l : Left (suc j) carrier j 0 outstanding left)
      (settled : (x : ℕ) → x < j → Way j (carrier x) (at outstanding x)) (next : List ℕ) (later : ℕ → ℕ)
      (same : (x : ℕ) → x < j → later x ≡ carrier x) (below : (x : ℕ) → x < j → at next x ≡ at left x) where
    moves_then : (x : ℕ) → x < j → Moves (suc j) (carrier x) (at outstanding x) (later x) (at next x)
    moves_then x r = by _ refl
      where
        by : (b : Bool) → eqb (carrier x) (suc j) ≡ b → Moves (suc j) (carrier x) (at outstanding x) (later x) (at next x)
        by true t = let e = eqb-true (carrier x) (suc j) t in Moves.gone e (below x r ∙ l.gone x (omega arith) (omega arith) e)
        by false t = let n = eqb-false (carrier x) (suc j) t in Moves.stays (same x r) (below x r ∙ l.stays x n) n

    settled_then : Way (suc j) (later j) (at next j) → (x : ℕ) → x < suc j → Way (suc j) (later x) (at next x)
    settled_then own x r =
        ⊎_elim (λ s. way_on (moves_then x s) (settled x s))
        (λ s. let q : x ≡ j = omega arith in subst (λ (y : ℕ). Way (suc j) (later y) (at next y)) (sym q) own) (less_or_not x j)

  abbrev Complete : ℕ → ℕ → Type 0
  Complete n j =
      (st : State) (outstanding : List ℕ) (carrier : ℕ → ℕ) (past : List Entry) (fields : List ℕ) → length outstanding ≡ count c
      → ((x : ℕ) → j ≤ x → at outstanding x ≡ 0) → ((x : ℕ) → x < j → Way j (carrier x) (at outstanding x)) → Compensations j past carrier outstanding
      → Keeps st (entries_at n j past fields) → Completable c n j st outstanding

  complete_end : (j : ℕ) → j ≡ count c → Complete 0 j
  unfolding Completable entries_from spans_from Runs
  complete_end j k st outstanding carrier past fields size fresh settled h g = (g.runs, none_left j outstanding carrier k fresh settled)

  module _ (lies : Lies c) (n j : ℕ) (inside : j < count c) (ih : Complete n (suc j)) (st : State) (outstanding : List ℕ) (carrier : ℕ → ℕ) (past : List Entry) (fields : List ℕ)
      (size : length outstanding ≡ count c) (fresh : (x : ℕ) → j ≤ x → at outstanding x ≡ 0) (settled : (x : ℕ) → x < j → Way j (carrier x) (at outstanding x))
      (compensations : Compensations j past carrier outstanding) where
    abbrev this : Entry
    this = entry_at j past fields

    abbrev rest : List Entry
    rest = entries_at n (suc j) (entry_at j past fields ∷ past) (drop entry_fields fields)

    step_daily : (d : DailyStep (rest_week c) (counts c) c.judged (spans_of c) st this rest) (left : List ℕ) → Left (suc j) carrier j 0 outstanding left
        → ReadDaily c (Completable c n (suc j)) j d.here this.compensation left
    step_daily d left l =
        let b = shortened_at j past fields in
        let z : at left j ≡ 0 = l.beyond j (omega arith) ∙ fresh j (le_refl _) in
        record {
          net = d.head.net;
          few = subst (λ (x : Bool). d.here.short + one x ≤ shortened_at_most) b d.head.few;
          then =
              ih _ left carrier (this ∷ past) (drop entry_fields fields) (l.size ∙ size) (λ x r. l.beyond x (omega arith) ∙ fresh x (omega arith))
              (settled_then l settled left carrier (λ x r. refl) (λ x r. refl) (Way.none z))
              (compensations_next j past this carrier carrier outstanding left compensations (moves_then l settled left carrier (λ x r. refl) (λ x r. refl))
              (own_share this (carrier j) (at left j) (reduction_daily this d.head.kind ∙ ap amount_of (sym z)) (λ s. absurd (omega arith))))
              (subst (λ (x : Bool). Keeps (after_daily x d.here) rest) b d.then);
        }

    step_weekly : (d : WeeklyStep (rest_week c) (counts c) c.judged (spans_of c) st this rest) (left : List ℕ) → Left (suc j) carrier j 0 outstanding left
        → ReadWeekly c (Completable c n (suc j)) j d.here this.compensation left
    step_weekly d left l =
        let reduction : ℕ = reduction_after this in
        let next : List ℕ = set left j reduction in
        let later : ℕ → ℕ = λ x. pick (eqb x j) this.compensated_by (carrier x) in
        let same : (x : ℕ) → x < j → later x ≡ carrier x = λ x r. rw (ne_eqb x j (λ q. omega arith)) refl in
        let own : later j ≡ this.compensated_by = rw (eq-eqb j j refl) refl in
        let below : (x : ℕ) → x < j → at next x ≡ at left x = λ x r. set_other left j x reduction (λ q. omega arith) in
        let is_outstanding : at next j ≡ reduction = get_or-set_same left j reduction 0 (omega (arith, l.size, size)) in
        let way : Way (suc j) (later j) (at next j) =
        subst (λ (x : ℕ). Way (suc j) x (at next j)) (sym own)
        (subst (λ (x : ℕ). Way (suc j) this.compensated_by x) (sym is_outstanding) (carried_way this d.head.net d.head.carried)) in
        record {
          net = d.head.net;
          week = this.week;
          from = d.head.from;
          upto = d.head.upto;
          then =
              after _ d.counted
              (ih _ next later (this ∷ past) (drop entry_fields fields) (length-set left j reduction ∙ l.size ∙ size)
              (λ x r. set_other left j x reduction (λ q. omega arith) ∙ l.beyond x (omega arith) ∙ fresh x (omega arith))
              (settled_then l settled next later same below way)
              (compensations_next j past this carrier later outstanding next compensations (moves_then l settled next later same below)
              (own_share this (later j) (at next j)
              (reduction_weekly this d.head.kind ∙ sym (reduction_amount (minutes this) this.compensation this.week d.head.net) ∙ ap amount_of (sym is_outstanding))
              (λ s. sym own)))
              (subst (λ (x : Bool). Keeps (after_weekly (rest_week c this.week) x (at c.ends j) d.there) rest) (regular_weekly this d.head.kind) d.then));
        }

    complete_next : Keeps st (entries_at (suc n) j past fields) → Completable c (suc n) j st outstanding
    unfolding Completable entries_from spans_from
    complete_next g = by (kept_head (rest_week c) (counts c) c.judged (spans_of c) st this rest g)
      where
        by : DailyStep (rest_week c) (counts c) c.judged (spans_of c) st this rest ⊎ WeeklyStep (rest_week c) (counts c) c.judged (spans_of c) st this rest → Completable c (suc n) j st outstanding
        by (inl d) = (
          d.gap,
          not_overdue lies j outstanding carrier inside fresh settled,
          after _ d.reached
              (compensates _ (length_at c j) (suc j) this.compensation carrier d.head.net j 0 (at c.compensations j) outstanding (compensations j (le_refl _))
              (λ left l. inl (step_daily d left l))),
        )
        by (inr d) =
            let m : least_net Daily + this.compensation ≤ length_at c j = omega (arith, d.head.net) in (
              d.gap,
              not_overdue lies j outstanding carrier inside fresh settled,
              after _ d.reached
                  (compensates _ (length_at c j) (suc j) this.compensation carrier m j 0 (at c.compensations j) outstanding (compensations j (le_refl _))
                  (λ left l. inr (step_weekly d left l))),
            )

  complete : Lies c → (n j : ℕ) → n + j ≡ count c → Complete n j
  complete lies zero j k = complete_end j (omega arith)
  complete lies (suc n) j k = complete_next lies n j (omega arith) (complete lies n (suc j) (omega arith))

-- ---- the theorem, where nothing is outstanding yet: all carriers of the past are decided
no_more : (p number : ℕ) (carrier : ℕ → ℕ) (outstanding : List ℕ) (m : ℕ) → Zeros outstanding → p ≡ p + brought number carrier outstanding m 0
no_more p number carrier outstanding m z = let b : brought number carrier outstanding m 0 ≡ 0 = brought_nothing number carrier outstanding m 0 z in omega arith

module _ (c : Course) (lies : Lies c) (few : count c < carrier_values) (bound : c.judged ≤ total_at_most) where
  pub extend : (n j : ℕ) (st : State) (outstanding : List ℕ) (past : List Entry) → n + j ≡ count c → length outstanding ≡ count c → Zeros outstanding
      → ((i : ℕ) → j ≤ i → at c.compensations i ≡ compensation_of (suc i) past) → Completable c n j st outstanding
      → (fields : List ℕ) × Fields n fields
      × Kept (rest_week c) (counts c) c.judged (spans_of c) st (entries_from (suc j) (end_before c.ends j) past (spans_from c.starts c.ends j n) fields)
  extend n j st outstanding past k size z h g =
      let a = answer c lies few bound n j st outstanding k size (λ x l. z x) g in
      (a.fields, a.bounded, a.kept past (λ i l. sym (h i l) ∙ no_more (at c.compensations i) (suc i) a.carrier outstanding j z))

  pub extended : (n j : ℕ) (st : State) (outstanding : List ℕ) (past : List Entry) → n + j ≡ count c → length outstanding ≡ count c → Zeros outstanding
      → ((i : ℕ) → j ≤ i → at c.compensations i ≡ compensation_of (suc i) past) → (fields : List ℕ)
      → Kept (rest_week c) (counts c) c.judged (spans_of c) st (entries_from (suc j) (end_before c.ends j) past (spans_from c.starts c.ends j n) fields)
      → Completable c n j st outstanding
  extended n j st outstanding past k size z h fields g =
      complete c lies n j k st outstanding (λ x. 0) past fields size (λ x l. z x) (λ x l. Way.none (z x))
      (λ i l. sym (h i l) ∙ no_more (at c.compensations i) (suc i) (λ x. 0) outstanding j z) g
