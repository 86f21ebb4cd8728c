-- The breach minute, found among the long rests of the whole. Assumes nothing.
use mathlib.Core.Path.{◌≡◌, refl, sym, ap, ap₂, subst, ◌∙◌}
use mathlib.Core.Logic.{◌⊎◌, inl, inr}
use mathlib.Core.List.Memᴰ.{head as here}
use mathlib.Core.List.Memᴰ.{tail as there}
use mathlib.Core.List.{List, [], ◌∷◌, map, Memᴰ as In}
use Prim.Native.Nat.{ℕ, zero, suc, ◌+◌, ◌-◌, ◌≤◌, ◌<◌}
use native.Mathlib.Omega.{arith}
use lib.ListN.{length, get_or, take, drop, length-map, take-append-drop}
use lib.Seq.{length-take-le}
use Rattle.recording.specs.Words.{rest}
use Rattle.recording.specs.Rests.{judged_end, long_rests}
use Rattle.recording.specs.declared.Span.{Span}
use Rattle.recording.proofs.TestLaws.{less_or_not}
use Rattle.recording.proofs.Runs.{Run}
use Rattle.recording.proofs.LongRests.{rests_ordered, long_is}
use Rattle.rules.specs.Fixed.{fixed_test}
use Rattle.rules.specs.Verdict.{prefix, breach_minute}
use Rattle.rules.proofs.Breach.{shorter_lawful, only_breach}
use Rattle.rules_nets.specs.Nets.{nets_of}
use Rattle.rules_fixed.proofs.NetLaws.{first_nets}
use Rattle.rules_items.proofs.SpanLaws.{nowhere, map_at}
use Rattle.verdict_completion.specs.Completable.{Course, at, rests_only}
use Rattle.verdict_breach.specs.Verdicts.{HasKept, HasReading, Bound, AllRests, first_rests, day_start, LastDay, DayTop, FirstWithout, NextActive}
use Rattle.verdict_breach.proofs.JudgedEnds.{has_too, sooner}
use Rattle.verdict_breach.proofs.Lawfulness.{neighbours, has_kept, kept_has, to_has, from_has}
use Rattle.verdict_breach.proofs.Cuts.{judged_most, over_there, rests_there, judged_there, judged_rested, rests_rested, nets_rested}

map-take : (f : Span → ℕ) (n : ℕ) (rs : List Span) → map f (take n rs) ≡ take n (map f rs)
map-take f zero rs = refl
map-take f (suc n) [] = refl
map-take f (suc n) (r ∷ rs) = ap (λ (l : List ℕ). f r ∷ l) (map-take f n rs)

in_at : (rs : List Span) (i : ℕ) → i < length rs → In (get_or rs i nowhere) rs
in_at [] i h = absurd (omega arith)
in_at (r ∷ rs) zero h = here refl
in_at (r ∷ rs) (suc i) h = there (in_at rs i (omega arith))

-- long rests with their numbers as a course, where S is s
abbrev spans_course : List Span → List ℕ → ℕ → Course
spans_course rs nets s = rests_only (map (λ (r : Span). r.start) rs) (map (λ (r : Span). r.end) rs) nets s

-- a stretch with the first n long rests has their numbers
nets_there : (ms : List ℕ) (m n : ℕ) → n ≤ length (long_rests ms) → long_rests (prefix m ms) ≡ take n (long_rests ms) → nets_of (prefix m ms) ≡ take n (nets_of ms)
nets_there ms m n h e =
    let k : length (long_rests (prefix m ms)) ≡ n = ap length e ∙ length-take-le n (long_rests ms) h in
    first_nets (prefix m ms) (drop m ms) ∙ ap₂ (λ (i : ℕ) (l : List ℕ). take i (nets_of l)) k (take-append-drop m ms)

module _ {ms starts ends nets : List ℕ} (q : AllRests ms starts ends nets) where
  count_is : length starts ≡ length (long_rests ms)
  count_is = ap length q.begun ∙ length-map (long_rests ms) (λ (r : Span). r.start)

  start_at : (i : ℕ) → i < length starts → at starts i ≡ (get_or (long_rests ms) i nowhere).start
  start_at i h = ap (λ (l : List ℕ). at l i) q.begun ∙ map_at (λ r. r.start) (long_rests ms) i nowhere (omega (arith, count_is))

  end_at : (i : ℕ) → i < length starts → at ends i ≡ (get_or (long_rests ms) i nowhere).end
  end_at i h = ap (λ (l : List ℕ). at l i) q.ended ∙ map_at (λ r. r.end) (long_rests ms) i nowhere (omega (arith, count_is))

  run_at : (i : ℕ) → i < length starts → Run ms (get_or (long_rests ms) i nowhere)
  run_at i h = (long_is ms (in_at (long_rests ms) i (omega (arith, count_is)))).rest.run

  -- ---- a stretch with n long rests
  module _ (m n : ℕ) (within : m ≤ length ms) (few : n ≤ length starts) (e : long_rests (prefix m ms) ≡ take n (long_rests ms)) where
    course_is : (s : ℕ) → spans_course (long_rests (prefix m ms)) (nets_of (prefix m ms)) s ≡ first_rests starts ends nets n s
    course_is s =
        ap₂ (λ (l : List Span) (ns : List ℕ). spans_course l ns s) e (nets_there ms m n (omega (arith, count_is)) e)
        ∙ (λ i. rests_only ((map-take (λ r. r.start) n (long_rests ms) ∙ ap (take n) (sym q.begun)) i)
        ((map-take (λ r. r.end) n (long_rests ms) ∙ ap (take n) (sym q.ended)) i) (ap (take n) (sym q.numbered) i) s)

    -- a reading that keeps the rules up to its end is one of it
    has_there : fixed_test (prefix m ms) ≡ 0 → HasKept (first_rests starts ends nets n m) → HasReading (prefix m ms)
    has_there f h =
        kept_has (prefix m ms) f
        (subst HasKept (sym (course_is (judged_end (prefix m ms)))) (has_too (take n starts) (take n nets) (sooner m (judged_end (prefix m ms)) (judged_most ms m within)) h))

    -- and one of it keeps them up to a judged end that is no later
    kept_there : (t : ℕ) → t ≤ judged_end (prefix m ms) → HasReading (prefix m ms) → HasKept (first_rests starts ends nets n t)
    kept_there t l h =
        has_too (take n starts) (take n nets) (sooner (judged_end (prefix m ms)) t l) (subst HasKept (course_is (judged_end (prefix m ms))) (has_kept (prefix m ms) h))

  -- it has n, where it is no shorter than the shortest and the next is not over
  rests_at : (m n : ℕ) → m ≤ length ms → n ≤ length starts → day_start ends n ≤ m → (n < length starts → m ≤ (get_or (long_rests ms) n nowhere).end)
      → long_rests (prefix m ms) ≡ take n (long_rests ms)
  rests_at m n w h l next =
      rests_there ms m w n (omega (arith, count_is))
      (λ i e. let d : at ends i + 1 ≡ day_start ends n = ap (day_start ends) e in omega (arith, end_at i (omega arith)))
      (λ g. next (omega (arith, count_is)))

  -- ---- the breach minute
  module _ {bound : ℕ} (b : Bound ms bound) {n top x r : ℕ} (day : LastDay starts ends nets bound n) (last : DayTop starts n bound top)
      (first : FirstWithout (take n starts) (take n ends) (take n nets) (day_start ends n) top x) (active : NextActive ms x bound r) where
    -- the next rest starts past top
    next_over : (m : ℕ) → m ≤ top → n < length starts → m ≤ (get_or (long_rests ms) n nowhere).end
    next_over m l h = omega (arith, last.before h, start_at n h, (run_at n h).some)

    has_before : (y : ℕ) → suc y ≡ x → HasReading (prefix y ms)
    has_before y e =
        let w : y ≤ length ms = omega (arith, b.within, last.below, first.within) in
        has_there y n w day.within (rests_at y n w day.within (omega (arith, first.past)) (next_over y (omega (arith, first.within))))
        (b.fixed y (omega (arith, last.below, first.within))) (first.before day.kept y e)

    -- minutes of rest more
    has_rested : (y z : ℕ) → suc y ≡ x → suc z ≡ r → HasReading (prefix z ms)
    has_rested y z e f =
        let d = z - y in
        let g : y + d ≡ z = omega (arith, active.from) in
        let w : y + d ≤ length ms = omega (arith, active.within, b.within) in
        let s : (i : ℕ) → i < d → get_or ms (y + i) 0 ≡ rest = λ i h. active.resting (y + i) (omega arith) (omega arith) in
        let j = judged_rested ms y d w s in
        let k = rests_rested ms y d w s in
        let u = nets_rested ms y d w s in
        subst (λ (m : ℕ). HasReading (prefix m ms)) g
        (kept_has (prefix (y + d) ms) (b.fixed (y + d) (omega (arith, active.within)))
        (subst HasKept (λ i. spans_course (sym k i) (sym u i) (sym j i)) (has_kept (prefix y ms) (has_before y e))))

    -- where the next rest starts first, the stretch with it is the breach
    none_after : n < length starts → top ≡ at starts n → x ≡ suc top → r < bound → HasReading (prefix r ms) → ⊥
    none_after h t e l k =
        let a = end_at n h in
        let o : (get_or (long_rests ms) n nowhere).end < r = ended (less_or_not (get_or (long_rests ms) n nowhere).end r) in
        let w : at ends n + 1 ≤ length ms = omega (arith, b.within) in
        let there = rests_at (at ends n + 1) (suc n) w (omega arith) (omega arith) next_later in
        let size : length (long_rests (prefix (at ends n + 1) ms)) ≡ suc n = ap length there ∙ length-take-le (suc n) (long_rests ms) (omega (arith, count_is)) in
        day.next h (omega arith)
        (kept_there (at ends n + 1) (suc n) w (omega arith) there (at ends n + 1) (omega (arith, over_there ms (at ends n + 1) w n (omega (arith, size))))
        (from_has (shorter_lawful ms (at ends n + 1) r (omega arith) (to_has k))))
      where
        ended : ((get_or (long_rests ms) n nowhere).end < r) ⊎ (r ≤ (get_or (long_rests ms) n nowhere).end) → (get_or (long_rests ms) n nowhere).end < r
        ended (inl g) = g
        ended (inr g) =
            let z : suc (r - 1) ≡ r = omega (arith, active.from) in
            absurd (active.active l (r - 1) z ((run_at n h).resting (r - 1) (omega (arith, start_at n h, active.from)) (omega arith)))

        next_later : suc n < length starts → at ends n + 1 ≤ (get_or (long_rests ms) (suc n) nowhere).end
        next_later g =
            let o = (neighbours (rests_ordered ms) n (omega (arith, count_is))).before_next (omega (arith, count_is)) in
            omega (arith, end_at n h, (run_at (suc n) g).some)

    none_there : x ≤ top → r < bound → HasReading (prefix r ms) → ⊥
    none_there t l k =
        let w : r ≤ length ms = omega (arith, b.within) in
        let j : judged_end (prefix r ms) ≡ r = judged_there ms r w (active.active l) in
        first.there t
        (kept_there r n w day.within (rests_at r n w day.within (omega (arith, first.past, active.from)) (λ h. running h (less_or_not (get_or (long_rests ms) n nowhere).end r))) x
        (omega (arith, active.from)) k)
      where
        -- the next rest is not over: else the minute before it would be one of rest
        running : n < length starts → ((get_or (long_rests ms) n nowhere).end < r) ⊎ (r ≤ (get_or (long_rests ms) n nowhere).end) → r ≤ (get_or (long_rests ms) n nowhere).end
        running h (inr g) = g
        running h (inl g) =
            let u = run_at n h in
            let s = (get_or (long_rests ms) n nowhere).start in
            let o : x ≤ s = omega (arith, last.before h, start_at n h) in
            let e : suc (s - 1) ≡ s = omega (arith, first.past) in
            absurd (u.before (s - 1) e (active.resting (s - 1) (omega arith) (omega (arith, u.some))))

    none_here : HasReading (prefix r ms) → ⊥
    none_here k = at_bound (less_or_not r bound)
      where
        at_top : r < bound → ((n < length starts) × (top ≡ at starts n)) ⊎ (suc top ≡ bound) → top < x → ⊥
        at_top l (inl h) g = none_after h.0 h.1 (omega (arith, first.within)) l k
        at_top l (inr h) g = omega (arith, active.from)

        within_top : r < bound → (top < x) ⊎ (x ≤ top) → ⊥
        within_top l (inl g) = at_top l last.is g
        within_top l (inr g) = none_there g l k

        at_bound : (r < bound) ⊎ (bound ≤ r) → ⊥
        at_bound (inl l) = within_top l (less_or_not top x)
        at_bound (inr l) = let e : r ≡ bound = omega (arith, active.within) in b.broken (subst (λ (m : ℕ). HasReading (prefix m ms)) e k)

    least_is : r ≡ breach_minute ms
    least_is =
        let e : suc (x - 1) ≡ x = omega (arith, first.past) in
        let f : suc (r - 1) ≡ r = omega (arith, first.past, active.from) in
        sym (only_breach ms (r - 1) (omega (arith, active.within, b.within)) (to_has (has_rested (x - 1) (r - 1) e f))
        (λ k. none_here (subst (λ (m : ℕ). HasReading (prefix m ms)) f (from_has k)))
        ∙ f)

  -- ---- the day starts no later than the rest after it
  day_before : (n : ℕ) → n < length starts → day_start ends n ≤ at starts n
  day_before zero h = omega arith
  day_before (suc n) h =
      omega (arith, end_at n (omega arith), start_at (suc n) h, (neighbours (rests_ordered ms) n (omega (arith, count_is))).before_next (omega (arith, count_is)))

  pub from_low : {bound n top : ℕ} → LastDay starts ends nets bound n → DayTop starts n bound top → day_start ends n ≤ top
  from_low {bound} {n} {top} day last = upto last.is
    where
      upto : ((n < length starts) × (top ≡ at starts n)) ⊎ (suc top ≡ bound) → day_start ends n ≤ top
      upto (inl h) = omega (arith, day_before n h.0, h.1)
      upto (inr h) = omega (arith, day.below)

  pub least_found : {bound n from top x r : ℕ} → Bound ms bound → LastDay starts ends nets bound n → from ≡ day_start ends n → DayTop starts n bound top
      → FirstWithout (take n starts) (take n ends) (take n nets) from top x → NextActive ms x bound r → r ≡ breach_minute ms
  least_found {n = n} {top = top} {x = x} b day e last first active =
      least_is b day last (subst (λ (d : ℕ). FirstWithout (take n starts) (take n ends) (take n nets) d top x) e first) active
