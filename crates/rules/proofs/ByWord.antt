-- The tests word by word: what they come to where a run of equal minutes is taken in one step.
-- Assumes nothing.
use mathlib.Core.Path.{◌≡◌, refl, ap, fun_ext, ◌∙◌}
use mathlib.Core.Bool.{Bool, true, false}
use mathlib.Core.List.{List, [], ◌∷◌, ◌++◌}
use Prim.Native.Nat.{ℕ, zero, suc, ◌+◌, ◌≤◌}
use native.Mathlib.Omega.{arith}
use lib.Dec.{leb}
use lib.ListN.{replicate}
use borrow.Author.Tests.{leb-true, le-leb}
use Rattle.recording.specs.Tests.{◌and◌, ◌or◌, pick, one}
use Rattle.recording.specs.Words.{minutes_in, activity_in, minutes_of, is_driving}
use Rattle.recording.specs.Days.{days_from, days}
use Rattle.recording.specs.Weeks.{week_of}
use Rattle.recording.proofs.TestLaws.{and-false}
use Rattle.recording.proofs.ByWord.{closed_by, judged_end_by, judged_by, closed_rests_by, long_rests_by, rests_by, total_by, total_by_law, driving_by, driving_by_law}
use Rattle.rules.specs.Broken.{if_none}
use Rattle.rules.specs.declared.Accumulated.{Accumulated}
use Rattle.rules.specs.declared.Breaches.{Breaches}
use Rattle.rules.specs.Fixed.{cleared, rested, drove, accumulated_at_most, keeps_accumulated, rule1, breaches_by, breaches, smallest_rule, fixed_test}
use Rattle.rules.specs.Reading.{entries}
use Rattle.rules.specs.ReadingRules.{shortened, later_test, fields_test}
use Rattle.rules.proofs.RestWeekLaws.{inside_rest, reading_by_rests}

-- ---- rule 1: n minutes of an activity that is not rest
abbrev pub drove_for : ℕ → ℕ → Accumulated → Accumulated
drove_for n a d = record { sum = pick (is_driving a) n 0 + d.sum; split = d.split }

abbrev pub keeps_accumulated_run : ℕ → ℕ → Accumulated → ℕ → (Accumulated → ℕ → Bool) → Bool
keeps_accumulated_run zero a d k later = later d k
keeps_accumulated_run (suc n) zero d k later = later d (k + suc n)
keeps_accumulated_run (suc n) (suc a) d k later =
    let e = drove_for (suc n) (suc a) (rested k d) in
    leb e.sum accumulated_at_most and later e 0

unfoldable pub keeps_accumulated_by : Accumulated → ℕ → List ℕ → Bool
keeps_accumulated_by d k [] = true
keeps_accumulated_by d k (w ∷ ws) = keeps_accumulated_run (minutes_in w) (activity_in w) d k (λ e m. keeps_accumulated_by e m ws)

-- no rest changes nothing
pub not_rested : (d : Accumulated) → rested 0 d ≡ d
unfolding rested ◌and◌ ◌or◌
not_rested d = refl

more_driving : (n a : ℕ) (d : Accumulated) → drove_for n a (drove a d) ≡ drove_for (suc n) a d
unfolding drove
more_driving n a d = λ i. record { sum = go (is_driving a) i; split = d.split }
  where
    go : (b : Bool) → pick b n 0 + (one b + d.sum) ≡ pick b (suc n) 0 + d.sum
    go true = omega arith
    go false = omega arith

-- a limit that is kept at the end of a run was kept within it
at_the_end : (x y limit : ℕ) (b : Bool) → x ≤ y → leb x limit and (leb y limit and b) ≡ leb y limit and b
unfolding ◌and◌
at_the_end x y limit b h = go (leb y limit) refl
  where
    go : (t : Bool) → leb y limit ≡ t → leb x limit and (t and b) ≡ t and b
    go true e = ap (λ (z : Bool). z and b) (le-leb x limit (omega (arith, leb-true y limit e)))
    go false e = and-false (leb x limit)

grows : (n a : ℕ) (d : Accumulated) → d.sum ≤ (drove_for n a d).sum
grows n a d = omega arith

rest_kept : (n : ℕ) (d : Accumulated) (k : ℕ) (ms : List ℕ) → keeps_accumulated d k (replicate n 0 ++ ms) ≡ keeps_accumulated d (k + n) ms
unfolding keeps_accumulated
rest_kept zero d k ms = ap (λ (m : ℕ). keeps_accumulated d m ms) (omega arith)
rest_kept (suc n) d k ms = rest_kept n d (suc k) ms ∙ ap (λ (m : ℕ). keeps_accumulated d m ms) (omega arith)

busy_kept : (n a : ℕ) (d : Accumulated) (ms : List ℕ)
    → leb d.sum accumulated_at_most and keeps_accumulated d 0 (replicate n (suc a) ++ ms) ≡ leb (drove_for n (suc a) d).sum accumulated_at_most and keeps_accumulated (drove_for n (suc a) d) 0 ms
unfolding keeps_accumulated
busy_kept zero a d ms = ap (λ (e : Accumulated). leb e.sum accumulated_at_most and keeps_accumulated e 0 ms) (λ i. record { sum = same (is_driving (suc a)) i; split = d.split })
  where
    same : (b : Bool) → d.sum ≡ pick b 0 0 + d.sum
    same true = omega arith
    same false = omega arith
busy_kept (suc n) a d ms =
    ap (λ (e : Accumulated). leb d.sum accumulated_at_most and (leb (drove (suc a) e).sum accumulated_at_most and keeps_accumulated (drove (suc a) e) 0 (replicate n (suc a) ++ ms))) (not_rested d)
    ∙ ap (λ (b : Bool). leb d.sum accumulated_at_most and b) (busy_kept n a (drove (suc a) d) ms)
    ∙ ap (λ (e : Accumulated). leb d.sum accumulated_at_most and (leb e.sum accumulated_at_most and keeps_accumulated e 0 ms)) (more_driving n (suc a) d)
    ∙ at_the_end d.sum (drove_for (suc n) (suc a) d).sum accumulated_at_most _ (grows (suc n) (suc a) d)

kept_run : (n a : ℕ) (d : Accumulated) (k : ℕ) (ms : List ℕ) → keeps_accumulated d k (replicate n a ++ ms) ≡ keeps_accumulated_run n a d k (λ e m. keeps_accumulated e m ms)
unfolding keeps_accumulated
kept_run zero a d k ms = refl
kept_run (suc n) zero d k ms = rest_kept (suc n) d k ms
kept_run (suc n) (suc a) d k ms =
    busy_kept n a (drove (suc a) (rested k d)) ms
    ∙ ap (λ (e : Accumulated). leb e.sum accumulated_at_most and keeps_accumulated e 0 ms) (more_driving n (suc a) (rested k d))

kept_same : (n a : ℕ) (d : Accumulated) (k : ℕ) (f g : Accumulated → ℕ → Bool) → ((e : Accumulated) (m : ℕ) → f e m ≡ g e m) → keeps_accumulated_run n a d k f ≡ keeps_accumulated_run n a d k g
kept_same zero a d k f g e = e d k
kept_same (suc n) zero d k f g e = e d (k + suc n)
kept_same (suc n) (suc a) d k f g e =
    ap (λ (b : Bool). leb (drove_for (suc n) (suc a) (rested k d)).sum accumulated_at_most and b) (e (drove_for (suc n) (suc a) (rested k d)) 0)

kept_by : (d : Accumulated) (k : ℕ) (ws : List ℕ) → keeps_accumulated d k (minutes_of ws) ≡ keeps_accumulated_by d k ws
unfolding minutes_of keeps_accumulated keeps_accumulated_by
kept_by d k [] = refl
kept_by d k (w ∷ ws) =
    kept_run (minutes_in w) (activity_in w) d k (minutes_of ws)
    ∙ kept_same (minutes_in w) (activity_in w) d k (λ e m. keeps_accumulated e m (minutes_of ws)) (λ e m. keeps_accumulated_by e m ws) (λ e m. kept_by e m ws)

-- ---- the tests
abbrev pub breaches_by_word : List ℕ → Breaches
breaches_by_word ws = breaches_by (driving_by ws) (week_of (total_by ws) + 1) (days_from 0 (judged_end_by ws) (long_rests_by ws)) (keeps_accumulated_by cleared 0 ws)

abbrev pub fixed_by : List ℕ → ℕ
fixed_by ws = smallest_rule (breaches_by_word ws)

abbrev pub reading_by : List ℕ → List ℕ → ℕ
reading_by ws fields = if_none (fixed_by ws) (later_test (inside_rest (long_rests_by ws)) (shortened (closed_by 0 0 ws)) (judged_end_by ws) (long_rests_by ws) (entries (long_rests_by ws) fields))

pub breaches_by_law : (ws : List ℕ) → breaches (minutes_of ws) ≡ breaches_by_word ws
unfolding breaches rule1 days
breaches_by_law ws =
    rw (kept_by cleared 0 ws, fun_ext (driving_by_law ws), total_by_law ws, judged_by ws, rests_by ws)

pub fixed_by_law : (ws : List ℕ) → fixed_test (minutes_of ws) ≡ fixed_by ws
unfolding fixed_test
fixed_by_law ws = ap smallest_rule (breaches_by_law ws)

pub reading_by_law : (ws fields : List ℕ) → fields_test (minutes_of ws) fields ≡ reading_by ws fields
reading_by_law ws fields =
    reading_by_rests (minutes_of ws) fields
    ∙ rw (fixed_by_law ws, judged_by ws, rests_by ws, closed_rests_by ws)
