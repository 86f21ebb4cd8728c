-- Minutes joined into runs, and cut into weeks. Assumes nothing.
use mathlib.Core.Path.{◌≡◌, refl, sym, ap, ap₂, ◌∙◌}
use mathlib.Core.Logic.{◌⊎◌, inl, inr}
use mathlib.Core.Bool.{Bool, true, false}
use mathlib.Core.List.{List, [], ◌∷◌, ◌++◌}
use Prim.Native.Nat.{ℕ, zero, suc, ◌+◌, ◌-◌, ◌*◌, ◌≤◌, ◌<◌, min}
use native.Mathlib.Omega.{arith}
use lib.Dec.{eqb}
use lib.ListN.{length, take, drop, replicate, length-take, length-drop, take-append-drop}
use borrow.Author.Tests.{eq-eqb, eqb-true}
use Rattle.recording.specs.Tests.{pick}
use Rattle.recording.specs.Words.{activities, word_of, minutes_in, activity_in, minutes_of}
use Rattle.recording.specs.Weeks.{week_minutes}
use Rattle.recording.specs.Operations.{total_at_most}
use Rattle.recording.proofs.WordLaws.{minutes_in_law, activity_in_law, minutes_append, Coded, no_minute, minute, coded_take, coded_drop}
use Rattle.recording.proofs.TestLaws.{less_or_not}
use Rattle.text_lines.specs.Form.{run_at_most, sum_of, Runs, Week, Weeks, Allowed}
use Rattle.text_lines.specs.Form as form
use Rattle.text.specs.Writing.{joined_to, joined, weeks_within, weeks_joined}
use Rattle.text.specs.Passes.{EachSome, none, next}
use Rattle.text.proofs.WeekLines.{one_week, all_runs}

-- ---- one minute more
longer_minutes : (w : ℕ) → minutes_in (w + activities) ≡ suc (minutes_in w)
longer_minutes w = omega arith

longer_activity : (w : ℕ) → activity_in (w + activities) ≡ activity_in w
longer_activity w = omega arith

-- the first run has the first minute's activity
data First (a : ℕ) : List ℕ → Type 0 where
  first : {w : ℕ} {ws : List ℕ} → activity_in w ≡ a → First a (w ∷ ws)

joined_to_first : (a : ℕ) (ws : List ℕ) → a < activities → First a (joined_to a ws)
unfolding joined_to
joined_to_first a [] h = first (activity_in_law 1 a h)
joined_to_first a (w ∷ ws) h = go (eqb a (activity_in w)) refl
  where
    go : (b : Bool) → eqb a (activity_in w) ≡ b → First a (pick b ((w + activities) ∷ ws) (word_of 1 a ∷ w ∷ ws))
    go true e = first (longer_activity w ∙ sym (eqb-true a (activity_in w) e))
    go false e = first (activity_in_law 1 a h)

unfoldable pub starts_with : ℕ → List ℕ → Bool
starts_with a [] = false
starts_with a (b ∷ ms) = eqb a b

joined_other : (a : ℕ) {ms : List ℕ} → Coded ms → starts_with a ms ≡ false → joined_to a (joined ms) ≡ word_of 1 a ∷ joined ms
unfolding starts_with joined joined_to
joined_other a no_minute s = refl
joined_other a (minute {a = b} {ms = ms} h c) s = go (joined_to_first b (joined ms) h)
  where
    go : {ws : List ℕ} → First b ws → joined_to a ws ≡ word_of 1 a ∷ ws
    go (first {w} {ws} e) = rw (e, s)

longer_run : (a w : ℕ) (ws : List ℕ) → activity_in w ≡ a → joined_to a (w ∷ ws) ≡ (w + activities) ∷ ws
unfolding joined_to
longer_run a w ws e = rw (eq-eqb a (activity_in w) (sym e))

pub joined_run : (n a : ℕ) {ms : List ℕ} → 1 ≤ n → a < activities → Coded ms → starts_with a ms ≡ false
    → joined (replicate n a ++ ms) ≡ word_of n a ∷ joined ms
unfolding joined
joined_run zero a k h c s = absurd (omega arith)
joined_run (suc zero) a k h c s = joined_other a c s
joined_run (suc (suc n)) a {ms} k h c s = ap (joined_to a) (joined_run (suc n) a (omega arith) h c s) ∙ longer (word_of (suc n) a) (activity_in_law (suc n) a h) (omega arith)
  where
    longer : (w : ℕ) → activity_in w ≡ a → w + activities ≡ word_of (suc (suc n)) a → joined_to a (w ∷ joined ms) ≡ word_of (suc (suc n)) a ∷ joined ms
    longer w e f = longer_run a w (joined ms) e ∙ ap (λ (v : ℕ). v ∷ joined ms) f

-- ---- what is joined has the minutes
joined_to_minutes : (a : ℕ) (ws : List ℕ) → a < activities → minutes_of (joined_to a ws) ≡ a ∷ minutes_of ws
unfolding joined_to minutes_of
joined_to_minutes a [] h = rw (minutes_in_law 1 a h, activity_in_law 1 a h)
joined_to_minutes a (w ∷ ws) h = go (eqb a (activity_in w)) refl
  where
    go : (b : Bool) → eqb a (activity_in w) ≡ b → minutes_of (pick b ((w + activities) ∷ ws) (word_of 1 a ∷ w ∷ ws)) ≡ a ∷ (replicate (minutes_in w) (activity_in w) ++ minutes_of ws)
    go true e = rw (longer_minutes w, longer_activity w, eqb-true a (activity_in w) e)
    go false e = rw (minutes_in_law 1 a h, activity_in_law 1 a h)

pub joined_minutes : {ms : List ℕ} → Coded ms → minutes_of (joined ms) ≡ ms
unfolding joined minutes_of
joined_minutes no_minute = refl
joined_minutes (minute {a} {ms} h c) = joined_to_minutes a (joined ms) h ∙ ap (λ (l : List ℕ). a ∷ l) (joined_minutes c)

joined_to_sum : (a : ℕ) (ws : List ℕ) → a < activities → sum_of (joined_to a ws) ≡ suc (sum_of ws)
unfolding joined_to sum_of
joined_to_sum a [] h = rw (minutes_in_law 1 a h)
joined_to_sum a (w ∷ ws) h = go (eqb a (activity_in w))
  where
    go : (b : Bool) → sum_of (pick b ((w + activities) ∷ ws) (word_of 1 a ∷ w ∷ ws)) ≡ suc (minutes_in w + sum_of ws)
    go true = rw (longer_minutes w) (omega arith)
    go false = rw (minutes_in_law 1 a h) (omega arith)

joined_sum : {ms : List ℕ} → Coded ms → sum_of (joined ms) ≡ length ms
unfolding joined sum_of
joined_sum no_minute = refl
joined_sum (minute {a} {ms} h c) = joined_to_sum a (joined ms) h ∙ ap suc (joined_sum c)

joined_to_some : (a : ℕ) {ws : List ℕ} → a < activities → EachSome ws → EachSome (joined_to a ws)
unfolding joined_to
joined_to_some a h none = next {w = word_of 1 a} (omega (arith, minutes_in_law 1 a h)) none
joined_to_some a h (next {w} {ws} k e) = go (eqb a (activity_in w))
  where
    go : (b : Bool) → EachSome (pick b ((w + activities) ∷ ws) (word_of 1 a ∷ w ∷ ws))
    go true = next {w = w + activities} (omega (arith, longer_minutes w)) e
    go false = next {w = word_of 1 a} (omega (arith, minutes_in_law 1 a h)) (next k e)

joined_some : {ms : List ℕ} → Coded ms → EachSome (joined ms)
unfolding joined
joined_some no_minute = none
joined_some (minute {a} h c) = joined_to_some a h (joined_some c)

-- ---- a week's minutes, joined, are a week of the form
runs_of : {ws : List ℕ} → EachSome ws → sum_of ws ≤ run_at_most → Runs ws
unfolding sum_of
runs_of none h = form.none
runs_of (next k e) h = form.next (record { some = k; within = omega arith }) (runs_of e (omega arith))

some_words : (ws : List ℕ) → 1 ≤ sum_of ws → 1 ≤ length ws
unfolding sum_of
some_words [] h = absurd (omega arith)
some_words (w ∷ ws) h = omega arith

joined_week : {ms : List ℕ} → Coded ms → 1 ≤ length ms → length ms ≤ week_minutes → Week (joined ms)
joined_week {ms} c k h =
    let s : sum_of (joined ms) ≡ length ms = joined_sum c in
    record { some = some_words (joined ms) (omega arith); runs = runs_of (joined_some c) (omega arith); within = omega arith }

-- ---- the weeks of minutes
weeks_empty : (k : ℕ) → weeks_within k [] ≡ []
unfolding weeks_within
weeks_empty zero = refl
weeks_empty (suc k) = refl

weeks_there : (k : ℕ) (ms : List ℕ) → 1 ≤ length (weeks_within k ms) → 1 ≤ length ms
weeks_there k [] h = absurd (omega (arith, ap length (weeks_empty k)))
weeks_there k (a ∷ ms) h = omega arith

weeks_enough : (j k : ℕ) (ms : List ℕ) → length ms ≤ j → length ms ≤ k → weeks_within j ms ≡ weeks_within k ms
unfolding weeks_within
weeks_enough zero zero ms h l = refl
weeks_enough zero (suc k) [] h l = refl
weeks_enough zero (suc k) (a ∷ ms) h l = absurd (omega arith)
weeks_enough (suc j) zero [] h l = refl
weeks_enough (suc j) zero (a ∷ ms) h l = absurd (omega arith)
weeks_enough (suc j) (suc k) [] h l = refl
weeks_enough (suc j) (suc k) (a ∷ ms) h l =
    let d : length (drop week_minutes (a ∷ ms)) ≡ suc (length ms) - week_minutes = length-drop week_minutes (a ∷ ms) in
    ap (λ (l : List (List ℕ)). joined (take week_minutes (a ∷ ms)) ∷ l) (weeks_enough j k (drop week_minutes (a ∷ ms)) (omega arith) (omega arith))

pub weeks_next : (ms : List ℕ) → 1 ≤ length ms → weeks_joined ms ≡ joined (take week_minutes ms) ∷ weeks_joined (drop week_minutes ms)
unfolding weeks_joined weeks_within
weeks_next [] h = absurd (omega arith)
weeks_next (a ∷ ms) h =
    let d : length (drop week_minutes (a ∷ ms)) ≡ suc (length ms) - week_minutes = length-drop week_minutes (a ∷ ms) in
    ap (λ (l : List (List ℕ)). joined (take week_minutes (a ∷ ms)) ∷ l)
    (weeks_enough (length ms) (length (drop week_minutes (a ∷ ms))) (drop week_minutes (a ∷ ms)) (omega arith) (omega arith))

-- the first week's part of n minutes, which is whole where some are left
first_part : (n : ℕ) {part : ℕ} → 1 ≤ n → part ≡ min week_minutes n → (1 ≤ part) × (part ≤ week_minutes)
first_part n h p = (omega arith, omega arith)

full_part : (n : ℕ) {part left sum : ℕ} → part ≡ min week_minutes n → left ≡ n - week_minutes → 1 ≤ left → sum ≡ part → week_minutes - sum ≡ 0
full_part n p l h s = omega arith

weeks_each : (k : ℕ) {ms : List ℕ} → Coded ms → Weeks (weeks_within k ms)
unfolding weeks_within
weeks_each zero c = form.none
weeks_each (suc k) no_minute = form.none
weeks_each (suc k) (minute {a} {ms} h c) =
    let w = a ∷ ms in
    let e : Coded (take week_minutes w) = coded_take week_minutes (minute h c) in
    let t = length-take week_minutes w in
    let p = first_part (length w) (omega arith) t in
    one_week (weeks_within k (drop week_minutes w)) (joined_week e p.0 p.1) (weeks_each k (coded_drop week_minutes (minute h c)))
    (λ x. full_part (length w) t (length-drop week_minutes w) (weeks_there k (drop week_minutes w) x) (joined_sum e))

weeks_few : (k : ℕ) (ms : List ℕ) → week_minutes * length (weeks_within k ms) < length ms + week_minutes
unfolding weeks_within
weeks_few zero ms = omega arith
weeks_few (suc k) [] = omega arith
weeks_few (suc k) (a ∷ ms) =
    let w = a ∷ ms in
    let d : length (drop week_minutes w) ≡ length w - week_minutes = length-drop week_minutes w in
    let i : week_minutes * length (weeks_within k (drop week_minutes w)) < length (drop week_minutes w) + week_minutes = weeks_few k (drop week_minutes w) in
    go (less_or_not 0 (length (weeks_within k (drop week_minutes w)))) d i (weeks_there k (drop week_minutes w))
  where
    go : {n m : ℕ} → (0 < n) ⊎ (n ≤ 0) → m ≡ suc (length ms) - week_minutes → week_minutes * n < m + week_minutes → (1 ≤ n → 1 ≤ m)
        → week_minutes * suc n < suc (length ms) + week_minutes
    go (inl x) d i f = omega (arith, f x)
    go (inr x) d i f = omega arith

-- 0 to 53 weeks: the weeks of a recording within the limit are allowed
pub weeks_allowed : {ms : List ℕ} → Coded ms → length ms ≤ total_at_most → Allowed (weeks_joined ms)
unfolding weeks_joined
weeks_allowed {ms} c h = record { few = omega (arith, weeks_few (length ms) ms); each = weeks_each (length ms) c }

weeks_minutes : (k : ℕ) {ms : List ℕ} → Coded ms → length ms ≤ k → minutes_of (all_runs (weeks_within k ms)) ≡ ms
unfolding weeks_within all_runs minutes_of
weeks_minutes zero no_minute h = refl
weeks_minutes zero (minute l c) h = absurd (omega arith)
weeks_minutes (suc k) no_minute h = refl
weeks_minutes (suc k) (minute {a} {ms} l c) h =
    let w = a ∷ ms in
    let d : length (drop week_minutes w) ≡ length w - week_minutes = length-drop week_minutes w in
    minutes_append (joined (take week_minutes w)) (all_runs (weeks_within k (drop week_minutes w)))
    ∙ ap₂ (λ (x y : List ℕ). x ++ y) (joined_minutes (coded_take week_minutes (minute l c))) (weeks_minutes k (coded_drop week_minutes (minute l c)) (omega arith))
    ∙ take-append-drop week_minutes w

-- the runs of the weeks have the minutes
pub all_minutes : {ms : List ℕ} → Coded ms → minutes_of (all_runs (weeks_joined ms)) ≡ ms
unfolding weeks_joined
all_minutes {ms} c = weeks_minutes (length ms) c (omega arith)
