-- Rules 9 to 11 hold of the entries of a reading exactly where the walk from the start state goes through them.
-- Assumes nothing.
use mathlib.Core.Path.{◌≡◌, refl, sym, ap, subst, ◌∙◌}
use mathlib.Core.Bool.{Bool, true, false, not}
use mathlib.Core.List.{List, [], ◌∷◌}
use Prim.Native.Nat.{ℕ, suc, ◌+◌, ◌-◌, ◌≤◌, ◌<◌, zero-le}
use native.Mathlib.Nat.{le_refl, le_trans}
use native.Mathlib.Omega.{arith}
use lib.Dec.{leb}
use lib.ListN.{length, drop}
use borrow.Author.Tests.{leb-true, le-leb}
use Rattle.recording.specs.Tests.{◌and◌, ◌or◌, pick, one, all_of, count_of}
use Rattle.recording.specs.Weeks.{week_start, week_of}
use Rattle.recording.specs.declared.Span.{Span}
use Rattle.recording.proofs.TestLaws.{and_left, and_right, and_both, or_else, or_left, or_right}
use Rattle.recording.proofs.LongRests.{Ordered}
use Rattle.rules.specs.Reading.{Entry, as_read, is_weekly, is_regular, entry_fields, entry_of, entries_from, entries}
use Rattle.rules.specs.ReadingRules.{formed, rule6, shortened_at_most, rule9_from, rule9, weekly_gap, in_gap, rule10_from, rule10, of_kind, enough_in, later_test}
use Rattle.rules.specs.declared.Kind.{Kind}
use Rattle.rules.specs.declared.Kind.TheVariants.{Daily, Weekly}
use Rattle.rules.proofs.ReadingPrefix.{Starts, nil, cons, InItsWeek, in_its_week, none_counted, pair_enough, pairs_enough}
use Rattle.rules.proofs.RuleLaws.{later_rules, rules_later}
use Rattle.verdict_completion.specs.declared.State.{State}
use Rattle.verdict_completion.specs.States.{start_state, after_daily, after_weekly}
use Rattle.verdict_completion.specs.Runs.{Takes, Runs, Kept}
use Rattle.verdict_completion.proofs.Windows.{Alike, not_in_week, enough_alike, Seen, seen_start, Reached, advance_on, advanced, seen_daily, seen_weekly}

-- ---- entries read one by one, the latest in front
unfoldable pub all_read : List Entry → List Entry → List Entry
all_read past [] = past
all_read past (e ∷ es) = all_read (e ∷ past) es

count_read : (f : Entry → Bool) (past es : List Entry) → count_of f (all_read past es) ≡ count_of f past + count_of f es
unfolding all_read count_of
count_read f past [] = omega arith
count_read f past (e ∷ es) = count_read f (e ∷ past) es ∙ omega arith

module _ (s : ℕ) where
  -- ---- the entries' rests lie in order, from a minute on and within S
  pub data InOrder : ℕ → List Entry → Type 0 where
    none : {t : ℕ} → t ≤ s → InOrder t []
    next : {t : ℕ} {e : Entry} {es : List Entry} → t ≤ e.span.start → e.span.start < e.span.end → InOrder e.span.end es → InOrder t (e ∷ es)

  pub in_order : (n p : ℕ) (earlier : List Entry) (fields : List ℕ) {t from : ℕ} {rs : List Span} → t ≤ from → t ≤ s → Ordered s from rs
      → InOrder t (entries_from n p earlier rs fields)
  unfolding entries_from
  in_order n p earlier fields h l Ordered.none = none l
  in_order n p earlier fields h l (Ordered.next {r = r} a b c o) =
      next {e = entry_of n p earlier r fields} (le_trans h a) (omega arith)
      (in_order (suc n) r.end (entry_of n p earlier r fields ∷ earlier) (drop entry_fields fields) (omega arith) (omega arith) o)

  record Next (t : ℕ) (e : Entry) (es : List Entry) : Type 0 where
    after : t ≤ e.span.start
    proper : e.span.start < e.span.end
    rest : InOrder e.span.end es

  this_next : {t : ℕ} {e : Entry} {es : List Entry} → InOrder t (e ∷ es) → Next t e es
  this_next (next a b o) = record { after = a; proper = b; rest = o }

  within : {t : ℕ} {es : List Entry} → InOrder t es → t ≤ s
  within (none l) = l
  within (next a b o) = omega (arith, within o)

  starting : {t u : ℕ} {es : List Entry} → t ≤ u → InOrder u es → Starts t es
  starting h (none l) = nil
  starting h (next a b o) = cons (le_trans h a) (starting (omega arith) o)

  -- ---- rule 10: the next weekly rest, or S, is no earlier than the next rest
  pub no_late_rest : {t : ℕ} {es : List Entry} (q : ℕ) → InOrder t es → rule10_from q s es ≡ true → t ≤ q + weekly_gap
  unfolding rule10_from
  no_late_rest q (none l) r = le_trans l (leb-true s (q + weekly_gap) r)
  no_late_rest q (next {t = t} {e = e} {es = es} a b o) r = at (is_weekly (as_read e)) r (no_late_rest q o)
    where
      at : (weekly : Bool) → (not weekly or in_gap q e.span.start) and rule10_from (pick weekly e.span.end q) s es ≡ true
          → (rule10_from q s es ≡ true → e.span.end ≤ q + weekly_gap) → t ≤ q + weekly_gap
      at true u ih = le_trans a (leb-true e.span.start (q + weekly_gap) (or_else _ _ refl (and_left _ _ u)))
      at false u ih = omega (arith, ih (and_right _ _ u))

  -- ---- rule 11: no later rest is counted in a week that is over. There are k long rests.
  module _ (rest_week : ℕ → Bool) (counts : Entry → Bool) (k : ℕ) where
    read_alike : (past : List Entry) {t : ℕ} {es : List Entry} (w : ℕ) → InOrder t es → all_of (formed k) es ≡ true → week_start (w + 1) ≤ t
        → Alike past (all_read past es) w
    read_alike past {es = es} w o g h = record {
      counts = λ f c. let z = none_counted k w f c _ h (starting (le_refl _) o) g in omega (arith, z, count_read (of_kind f w) past es);
    }

    -- rules 9 to 11, where past is read, the last weekly rest ended at q, and there were n shortened rests since
    pub record Holds (past : List Entry) (n q : ℕ) (es : List Entry) : Type 0 where
      pub nine : rule9_from counts n es ≡ true
      pub ten : rule10_from q s es ≡ true
      pub eleven : (w : ℕ) → week_start (w + 2) ≤ s → enough_in rest_week (all_read past es) w ≡ true

    over : {past es : List Entry} {n q t : ℕ} → Holds past n q es → InOrder t es → all_of (formed k) es ≡ true → (w : ℕ) → week_start (w + 2) ≤ t
        → enough_in rest_week past w ≡ true
    over {past} a o g w h =
        enough_alike rest_week w (read_alike past w o g (omega arith)) (read_alike past (w + 1) o g (omega arith))
        ∙ a.eleven w (le_trans h (within o))

    holds_at : {past es : List Entry} {n n' q q' : ℕ} → n ≡ n' → q ≡ q' → Holds past n q es → Holds past n' q' es
    holds_at {past} {es} {n} {n'} {q} {q'} a c h =
        record { nine = subst (λ (x : ℕ). rule9_from counts x es ≡ true) a h.nine; ten = subst (λ (x : ℕ). rule10_from x s es ≡ true) c h.ten; eleven = h.eleven }

    -- where the next rest is daily, and where it is weekly
    record DailyHolds (past : List Entry) (n q : ℕ) (e : Entry) (es : List Entry) : Type 0 where
      few : n + one (counts e) ≤ shortened_at_most
      left : Holds (e ∷ past) (n + one (counts e)) q es

    record WeeklyHolds (past : List Entry) (q : ℕ) (e : Entry) (es : List Entry) : Type 0 where
      near : e.span.start ≤ q + weekly_gap
      left : Holds (e ∷ past) 0 e.span.end es

    module _ {past : List Entry} {e : Entry} {es : List Entry} {n q : ℕ} where
      holds_daily : is_weekly (as_read e) ≡ false → Holds past n q (e ∷ es) → DailyHolds past n q e es
      unfolding rule9_from rule10_from all_read
      holds_daily z h =
          let m = n + one (counts e) in
          let t : leb m shortened_at_most and rule9_from counts m es ≡ true = rw z at h.nine in
          record {
            few = leb-true m shortened_at_most (and_left _ _ t);
            left = record { nine = and_right _ _ t; ten = and_right _ _ (rw z at h.ten); eleven = h.eleven };
          }

      daily_holds : is_weekly (as_read e) ≡ false → DailyHolds past n q e es → Holds past n q (e ∷ es)
      unfolding rule9_from rule10_from all_read
      daily_holds z d = record {
        nine = rw z (and_both _ _ (le-leb (n + one (counts e)) shortened_at_most d.few) d.left.nine);
        ten = rw z (and_both _ _ (or_left _ _ refl) d.left.ten);
        eleven = d.left.eleven;
      }

      holds_weekly : is_weekly (as_read e) ≡ true → Holds past n q (e ∷ es) → WeeklyHolds past q e es
      unfolding rule9_from rule10_from all_read
      holds_weekly z h =
          let t : (not true or in_gap q e.span.start) and rule10_from e.span.end s es ≡ true = rw z at h.ten in
          record {
            near = leb-true e.span.start (q + weekly_gap) (or_else _ _ refl (and_left _ _ t));
            left = record { nine = and_right _ _ (rw z at h.nine); ten = and_right _ _ t; eleven = h.eleven };
          }

      weekly_holds : is_weekly (as_read e) ≡ true → WeeklyHolds past q e es → Holds past n q (e ∷ es)
      unfolding rule9_from rule10_from all_read
      weekly_holds z d = record {
        nine = rw z (and_both _ _ refl d.left.nine);
        ten = rw z (and_both _ _ (or_right _ _ (le-leb e.span.start (q + weekly_gap) d.near)) d.left.ten);
        eleven = d.left.eleven;
      }

    -- ---- the walk stands between what is read and what is left
    pub record Between (past : List Entry) (st : State) (es : List Entry) : Type 0 where
      pub seen : Seen rest_week past st
      pub from : ℕ
      pub order : InOrder from es
      pub week : st.week ≤ week_of from
      pub form : all_of (formed k) es ≡ true

    -- ---- a rest is read
    module _ {past : List Entry} {st here : State} {e : Entry} {es : List Entry} (b : Between past st (e ∷ es))
        (r : Reached rest_week past (week_of e.span.start - st.week) st here) where
      abbrev lies : Next b.from e es
      lies = this_next b.order

      between_daily : (short : Bool) → is_weekly (as_read e) ≡ false → Between (e ∷ past) (after_daily short here) es
      unfolding all_of
      between_daily short z = record {
        seen = seen_daily rest_week e short z r.seen;
        from = e.span.end;
        order = lies.rest;
        week = omega (arith, r.week, b.week, lies.after, lies.proper);
        form = and_right _ _ b.form;
      }

      week_on : InItsWeek e → here.week ≤ e.week
      week_on i = omega (arith, r.week, b.week, lies.after, i.from)

      its_week : is_weekly (as_read e) ≡ true → InItsWeek e
      unfolding all_of
      its_week t = in_its_week k e (and_left _ _ b.form) t

      between_weekly : {there : State} (m : Kind) → as_read e ≡ m → is_weekly m ≡ true → Reached rest_week past (e.week - here.week) here there
          → Between (e ∷ past) (after_weekly (rest_week e.week) (is_regular m) e.span.end there) es
      unfolding all_of
      between_weekly {there} m q t r' =
          let u : is_weekly (as_read e) ≡ true = ap is_weekly q ∙ t in
          let i = its_week u in
          let l = week_on i in
          let v : there.week ≡ e.week = omega (arith, r'.week) in
          record {
            seen =
                subst (λ (x : Kind). Seen rest_week (e ∷ past) (after_weekly (rest_week e.week) (is_regular x) e.span.end there)) q
                (seen_weekly rest_week e e.span.end u v r'.seen);
            from = e.span.end;
            order = lies.rest;
            week = omega (arith, v, i.upto);
            form = and_right _ _ b.form;
          }

      -- the pairs of weeks that are over by the week in which it is counted
      over_weekly : {n q : ℕ} → is_weekly (as_read e) ≡ true → Holds (e ∷ past) n q es → (w : ℕ) → w + 1 < here.week + (e.week - here.week)
          → enough_in rest_week past w ≡ true
      unfolding all_of
      over_weekly u h w l =
          let i = its_week u in
          let g = week_on i in
          let c : week_start (w + 2) ≤ e.span.end = omega (arith, i.upto) in
          sym (enough_alike rest_week w (not_in_week e past w (λ t v. omega arith)) (not_in_week e past (w + 1) (λ t v. omega arith)))
          ∙ over h lies.rest (and_right _ _ b.form) w c

      takes : Holds past st.short st.ended (e ∷ es)
          → ((next : State) → Between (e ∷ past) next es → Holds (e ∷ past) next.short next.ended es → Runs rest_week counts s next es)
          → (m : Kind) → as_read e ≡ m → Takes rest_week counts s (λ next. Runs rest_week counts s next es) e m here
      takes h ih Daily q =
          let d = holds_daily (ap is_weekly q) (holds_at (sym r.short) (sym r.ended) h) in
          (d.few, ih (after_daily (counts e) here) (between_daily (counts e) (ap is_weekly q)) d.left)
      takes h ih (Weekly t) q =
          let d = holds_weekly (ap is_weekly q) h in
          advance_on rest_week (e.week - here.week) here
          (λ there. Runs rest_week counts s (after_weekly (rest_week e.week) (is_regular (Weekly t)) e.span.end there) es) r.seen
          (over_weekly (ap is_weekly q) d.left)
          (λ there r'. ih (after_weekly (rest_week e.week) (is_regular (Weekly t)) e.span.end there) (between_weekly (Weekly t) q refl r') d.left)

      taken : e.span.start ≤ st.ended + weekly_gap
          → ((next : State) → Between (e ∷ past) next es → Runs rest_week counts s next es → Holds (e ∷ past) next.short next.ended es)
          → (m : Kind) → as_read e ≡ m → Takes rest_week counts s (λ next. Runs rest_week counts s next es) e m here → Holds past st.short st.ended (e ∷ es)
      taken g ih Daily q (f, a) =
          holds_at r.short r.ended
          (daily_holds (ap is_weekly q)
          (record { few = f; left = ih (after_daily (counts e) here) (between_daily (counts e) (ap is_weekly q)) a }))
      taken g ih (Weekly t) q a =
          let d = advanced rest_week (e.week - here.week) here
          (λ there. Runs rest_week counts s (after_weekly (rest_week e.week) (is_regular (Weekly t)) e.span.end there) es) r.seen a in
          weekly_holds (ap is_weekly q)
          (record {
            near = g;
            left = ih (after_weekly (rest_week e.week) (is_regular (Weekly t)) e.span.end d.there) (between_weekly (Weekly t) q refl d.reached) d.then;
          })

    -- ---- all of them
    pub rules_run : {past : List Entry} {st : State} (es : List Entry) → Between past st es → Holds past st.short st.ended es → Runs rest_week counts s st es
    unfolding Runs rule10_from all_read
    rules_run {past} {st} [] b h = (
      leb-true s (st.ended + weekly_gap) h.ten,
      advance_on rest_week (week_of s - st.week) st (λ there. Unit {0}) b.seen (λ w l. h.eleven w (omega (arith, b.week, within b.order))) (λ there r. tt),
    )
    rules_run {past} {st} (e ∷ es) b h =
        let o = this_next b.order in
        let near : InOrder e.span.start (e ∷ es) = next (le_refl _) o.proper o.rest in (
          no_late_rest st.ended near h.ten,
          advance_on rest_week (week_of e.span.start - st.week) st (Takes rest_week counts s (λ next. Runs rest_week counts s next es) e (as_read e)) b.seen
              (λ w l. over h near b.form w (omega (arith, b.week, o.after)))
              (λ here r. takes b r h (λ next b' h'. rules_run es b' h') (as_read e) refl),
        )

    pub run_rules : {past : List Entry} {st : State} (es : List Entry) → Between past st es → Runs rest_week counts s st es → Holds past st.short st.ended es
    unfolding Runs rule9_from rule10_from all_read
    run_rules {past} {st} [] b (g, a) =
        let d = advanced rest_week (week_of s - st.week) st (λ there. Unit {0}) b.seen a in
        record {
          nine = refl;
          ten = le-leb s (st.ended + weekly_gap) g;
          eleven = λ w h. d.reached.seen.closed w (omega (arith, d.reached.week));
        }
    run_rules {past} {st} (e ∷ es) b (g, a) =
        let d = advanced rest_week (week_of e.span.start - st.week) st (Takes rest_week counts s (λ next. Runs rest_week counts s next es) e (as_read e)) b.seen a in
        taken b d.reached g (λ next b' r'. run_rules es b' r') (as_read e) refl d.then

-- ---- from the start
module _ (rest_week : ℕ → Bool) (counts : Entry → Bool) (s : ℕ) (rs : List Span) (fields : List ℕ) (o : Ordered s 0 rs) where
  at_start : rule6 (length rs) (entries rs fields) ≡ true → Between s rest_week counts (length rs) [] (start_state (rest_week 0)) (entries rs fields)
  unfolding rule6 entries
  at_start t = record { seen = seen_start rest_week; from = 0; order = in_order s 1 0 [] fields zero-le zero-le o; week = zero-le; form = t }

  start_alike : (w : ℕ) → Alike (all_read [] (entries rs fields)) (entries rs fields) w
  unfolding count_of
  start_alike w = record { counts = λ f c. count_read (of_kind f w) [] (entries rs fields) ∙ omega arith }

  start_enough : (w : ℕ) → enough_in rest_week (all_read [] (entries rs fields)) w ≡ enough_in rest_week (entries rs fields) w
  start_enough w = enough_alike rest_week w (start_alike w) (start_alike (w + 1))

  pub later_kept : later_test rest_week counts s rs (entries rs fields) ≡ 0 → Kept rest_week counts s rs (start_state (rest_week 0)) (entries rs fields)
  unfolding rule9 rule10
  later_kept t =
      let l = later_rules rest_week counts s rs (entries rs fields) t in
      record {
        six = l.six;
        seven = l.seven;
        eight = l.eight;
        runs = rules_run s rest_week counts (length rs) (entries rs fields) (at_start l.six) (record {
          nine = l.nine;
          ten = l.ten;
          eleven = λ w h. start_enough w ∙ pair_enough rest_week s (entries rs fields) l.eleven w h;
        });
      }

  pub kept_later : Kept rest_week counts s rs (start_state (rest_week 0)) (entries rs fields) → later_test rest_week counts s rs (entries rs fields) ≡ 0
  unfolding rule9 rule10
  kept_later a =
      let h = run_rules s rest_week counts (length rs) (entries rs fields) (at_start a.six) a.runs in
      rules_later rest_week counts s rs (entries rs fields) (record {
        six = a.six;
        seven = a.seven;
        eight = a.eight;
        nine = h.nine;
        ten = h.ten;
        eleven = pairs_enough rest_week s (entries rs fields) (λ w l. sym (start_enough w) ∙ h.eleven w l);
      })
