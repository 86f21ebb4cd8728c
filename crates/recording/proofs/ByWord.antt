-- The recording word by word: what the definitions over minutes come to where a run of equal minutes is taken in one step.
-- Assumes nothing.
use mathlib.Core.Path.{◌≡◌, refl, sym, ap, ap₂, ◌∙◌}
use mathlib.Core.Bool.{Bool, true, false}
use mathlib.Core.List.{List, [], ◌∷◌, ◌++◌}
use Prim.Native.Nat.{ℕ, zero, suc, ◌+◌, ◌-◌, min}
use native.Mathlib.Nat.{le_refl}
use native.Mathlib.Omega.{arith}
use lib.ListN.{length, take, replicate, length-append, length-replicate}
use lib.Seq.{slice}
use borrow.Author.Tests.{le-ltb}
use Rattle.recording.specs.Tests.{pick, one, keep}
use Rattle.recording.specs.Words.{minutes_in, activity_in, minutes_of, is_driving, driving_time}
use Rattle.recording.specs.Rests.{with_rest, end_from, judged_end, closed_from, closed_rests, is_long, long_rests}
use Rattle.recording.specs.Days.{driving_in}
use Rattle.recording.specs.Scan.{cut_at}
use Rattle.recording.specs.declared.Span.{Span}
use Rattle.recording.proofs.WordLaws.{minutes_in_law, activity_in_law}

-- ---- S and the rests: `from` and `now` after a run of n minutes of the activity a
abbrev pub by_run : {A : Type 0} → ℕ → ℕ → ℕ → ℕ → (ℕ → ℕ → A) → A
by_run zero a from now later = later from now
by_run (suc n) zero from now later = later from (now + suc n)
by_run (suc n) (suc a) from now later = later (now + suc n) (now + suc n)

abbrev pub rests_by_run : ℕ → ℕ → ℕ → ℕ → (ℕ → ℕ → List Span) → List Span
rests_by_run zero a from now later = later from now
rests_by_run (suc n) zero from now later = later from (now + suc n)
rests_by_run (suc n) (suc a) from now later = with_rest from now (later (now + suc n) (now + suc n))

unfoldable pub end_by : ℕ → ℕ → List ℕ → ℕ
end_by from now [] = from
end_by from now (w ∷ ws) = by_run (minutes_in w) (activity_in w) from now (λ f t. end_by f t ws)

unfoldable pub closed_by : ℕ → ℕ → List ℕ → List Span
closed_by from now [] = []
closed_by from now (w ∷ ws) = rests_by_run (minutes_in w) (activity_in w) from now (λ f t. closed_by f t ws)

-- a number that is written in two ways
at : {A : Type 0} (f : ℕ → A) {m n : ℕ} → m ≡ n → f m ≡ f n
at f e = ap f e

rest_end : (n from now : ℕ) (ms : List ℕ) → end_from from now (replicate n 0 ++ ms) ≡ end_from from (now + n) ms
unfolding end_from
rest_end zero from now ms = at (λ t. end_from from t ms) (omega arith)
rest_end (suc n) from now ms = rest_end n from (suc now) ms ∙ at (λ t. end_from from t ms) (omega arith)

busy_end : (n a now : ℕ) (ms : List ℕ) → end_from now now (replicate n (suc a) ++ ms) ≡ end_from (now + n) (now + n) ms
unfolding end_from
busy_end zero a now ms = at (λ t. end_from t t ms) (omega arith)
busy_end (suc n) a now ms = busy_end n a (suc now) ms ∙ at (λ t. end_from t t ms) (omega arith)

end_run : (n a from now : ℕ) (ms : List ℕ) → end_from from now (replicate n a ++ ms) ≡ by_run n a from now (λ f t. end_from f t ms)
unfolding end_from
end_run zero a from now ms = refl
end_run (suc n) zero from now ms = rest_end (suc n) from now ms
end_run (suc n) (suc a) from now ms = busy_end n a (suc now) ms ∙ at (λ t. end_from t t ms) (omega arith)

rest_closed : (n from now : ℕ) (ms : List ℕ) → closed_from from now (replicate n 0 ++ ms) ≡ closed_from from (now + n) ms
unfolding closed_from
rest_closed zero from now ms = at (λ t. closed_from from t ms) (omega arith)
rest_closed (suc n) from now ms = rest_closed n from (suc now) ms ∙ at (λ t. closed_from from t ms) (omega arith)

busy_closed : (n a now : ℕ) (ms : List ℕ) → closed_from now now (replicate n (suc a) ++ ms) ≡ closed_from (now + n) (now + n) ms
unfolding closed_from
busy_closed zero a now ms = at (λ t. closed_from t t ms) (omega arith)
busy_closed (suc n) a now ms =
    rw (le-ltb now now (le_refl _)) (busy_closed n a (suc now) ms ∙ at (λ t. closed_from t t ms) (omega arith))

closed_run : (n a from now : ℕ) (ms : List ℕ) → closed_from from now (replicate n a ++ ms) ≡ rests_by_run n a from now (λ f t. closed_from f t ms)
unfolding closed_from
closed_run zero a from now ms = refl
closed_run (suc n) zero from now ms = rest_closed (suc n) from now ms
closed_run (suc n) (suc a) from now ms = ap (with_rest from now) (busy_closed n a (suc now) ms ∙ at (λ t. closed_from t t ms) (omega arith))

after_same : {A : Type 0} (n a from now : ℕ) (f g : ℕ → ℕ → A) → ((x y : ℕ) → f x y ≡ g x y) → by_run n a from now f ≡ by_run n a from now g
after_same zero a from now f g e = e from now
after_same (suc n) zero from now f g e = e from (now + suc n)
after_same (suc n) (suc a) from now f g e = e (now + suc n) (now + suc n)

rests_same : (n a from now : ℕ) (f g : ℕ → ℕ → List Span) → ((x y : ℕ) → f x y ≡ g x y) → rests_by_run n a from now f ≡ rests_by_run n a from now g
rests_same zero a from now f g e = e from now
rests_same (suc n) zero from now f g e = e from (now + suc n)
rests_same (suc n) (suc a) from now f g e = ap (with_rest from now) (e (now + suc n) (now + suc n))

end_by_law : (from now : ℕ) (ws : List ℕ) → end_from from now (minutes_of ws) ≡ end_by from now ws
unfolding minutes_of end_from end_by
end_by_law from now [] = refl
end_by_law from now (w ∷ ws) =
    end_run (minutes_in w) (activity_in w) from now (minutes_of ws)
    ∙ after_same (minutes_in w) (activity_in w) from now (λ f t. end_from f t (minutes_of ws)) (λ f t. end_by f t ws) (λ f t. end_by_law f t ws)

closed_by_law : (from now : ℕ) (ws : List ℕ) → closed_from from now (minutes_of ws) ≡ closed_by from now ws
unfolding minutes_of closed_from closed_by
closed_by_law from now [] = refl
closed_by_law from now (w ∷ ws) =
    closed_run (minutes_in w) (activity_in w) from now (minutes_of ws)
    ∙ rests_same (minutes_in w) (activity_in w) from now (λ f t. closed_from f t (minutes_of ws)) (λ f t. closed_by f t ws) (λ f t. closed_by_law f t ws)

abbrev pub judged_end_by : List ℕ → ℕ
judged_end_by ws = end_by 0 0 ws

abbrev pub long_rests_by : List ℕ → List Span
long_rests_by ws = keep is_long (closed_by 0 0 ws)

pub judged_by : (ws : List ℕ) → judged_end (minutes_of ws) ≡ judged_end_by ws
unfolding judged_end
judged_by ws = end_by_law 0 0 ws

pub closed_rests_by : (ws : List ℕ) → closed_rests (minutes_of ws) ≡ closed_by 0 0 ws
unfolding closed_rests
closed_rests_by ws = closed_by_law 0 0 ws

pub rests_by : (ws : List ℕ) → long_rests (minutes_of ws) ≡ long_rests_by ws
unfolding long_rests
rests_by ws = ap (keep is_long) (closed_by_law 0 0 ws)

-- ---- N
unfoldable pub total_by : List ℕ → ℕ
total_by [] = 0
total_by (w ∷ ws) = minutes_in w + total_by ws

pub total_by_law : (ws : List ℕ) → length (minutes_of ws) ≡ total_by ws
unfolding minutes_of total_by
total_by_law [] = refl
total_by_law (w ∷ ws) = rw (length-append, length-replicate) (omega (arith, total_by_law ws))

-- ---- driving: up to a minute, and in a span
unfoldable pub driving_up_to : ℕ → List ℕ → ℕ
driving_up_to t [] = 0
driving_up_to t (w ∷ ws) = pick (is_driving (activity_in w)) (min t (minutes_in w)) 0 + driving_up_to (t - minutes_in w) ws

one_run : (b : Bool) (t n : ℕ) → one b + pick b (min t n) 0 ≡ pick b (min (suc t) (suc n)) 0
one_run true t n = omega arith
one_run false t n = refl

none_run : (b : Bool) (n x : ℕ) → x ≡ pick b (min 0 n) 0 + x
none_run true n x = omega arith
none_run false n x = omega arith

no_run : (b : Bool) (t x : ℕ) → x ≡ pick b (min t 0) 0 + x
no_run true t x = omega arith
no_run false t x = omega arith

driving_run : (n t a : ℕ) (ms : List ℕ) → driving_time (take t (replicate n a ++ ms)) ≡ pick (is_driving a) (min t n) 0 + driving_time (take (t - n) ms)
unfolding driving_time
driving_run zero t a ms =
    let e : t ≡ t - 0 = omega arith in
    no_run (is_driving a) t (driving_time (take t ms)) ∙ at (λ x. pick (is_driving a) (min t 0) 0 + driving_time (take x ms)) e
driving_run (suc n) zero a ms =
    let e : 0 ≡ 0 - suc n = omega arith in
    none_run (is_driving a) (suc n) 0 ∙ at (λ x. pick (is_driving a) (min 0 (suc n)) 0 + driving_time (take x ms)) e
driving_run (suc n) (suc t) a ms =
    let e : t - n ≡ suc t - suc n = omega arith in
    omega (arith, driving_run n t a ms, one_run (is_driving a) t n, at (λ x. driving_time (take x ms)) e)

pub driving_up_to_law : (t : ℕ) (ws : List ℕ) → driving_time (take t (minutes_of ws)) ≡ driving_up_to t ws
unfolding minutes_of driving_time driving_up_to
driving_up_to_law zero [] = refl
driving_up_to_law (suc t) [] = refl
driving_up_to_law t (w ∷ ws) =
    driving_run (minutes_in w) t (activity_in w) (minutes_of ws)
    ∙ ap (λ (x : ℕ). pick (is_driving (activity_in w)) (min t (minutes_in w)) 0 + x) (driving_up_to_law (t - minutes_in w) ws)

-- the driving in a span is what there is up to its end less what there is up to its start
pub driving_less : (from to : ℕ) (ms : List ℕ) → driving_time (slice from to ms) ≡ driving_time (take to ms) - driving_time (take from ms)
unfolding driving_time
driving_less zero to ms = omega arith
driving_less (suc from) zero ms = omega arith
driving_less (suc from) (suc to) [] = refl
driving_less (suc from) (suc to) (a ∷ ms) = omega (arith, driving_less from to ms)

abbrev pub driving_by : List ℕ → Span → ℕ
driving_by ws d = driving_up_to d.end ws - driving_up_to d.start ws

pub driving_by_law : (ws : List ℕ) (d : Span) → driving_in (minutes_of ws) d ≡ driving_by ws d
unfolding driving_in
driving_by_law ws d =
    driving_less d.start d.end (minutes_of ws)
    ∙ ap₂ (λ (x y : ℕ). x - y) (driving_up_to_law d.end ws) (driving_up_to_law d.start ws)

-- ---- a stretch
pub take_run : (m n a : ℕ) (ms : List ℕ) → take m (replicate n a ++ ms) ≡ replicate (min m n) a ++ take (m - n) ms
take_run m zero a ms =
    let e : m ≡ m - 0 = omega arith in
    let z : 0 ≡ min m 0 = omega arith in
    ap₂ (λ (x y : ℕ). replicate x a ++ take y ms) z e
take_run zero (suc n) a ms =
    let e : 0 ≡ 0 - suc n = omega arith in
    let z : 0 ≡ min 0 (suc n) = omega arith in
    ap₂ (λ (x y : ℕ). replicate x a ++ take y ms) z e
take_run (suc m) (suc n) a ms =
    let e : m - n ≡ suc m - suc n = omega arith in
    let z : suc (min m n) ≡ min (suc m) (suc n) = omega arith in
    ap (λ (l : List ℕ). a ∷ l) (take_run m n a ms) ∙ ap₂ (λ (x y : ℕ). replicate x a ++ take y ms) z e

pub cut_at_law : (m : ℕ) (ws : List ℕ) → minutes_of (cut_at m ws) ≡ take m (minutes_of ws)
unfolding minutes_of cut_at
cut_at_law zero [] = refl
cut_at_law (suc m) [] = refl
cut_at_law m (w ∷ ws) =
    ap₂ (λ (n x : ℕ). replicate n x ++ minutes_of (cut_at (m - minutes_in w) ws))
    (minutes_in_law (min m (minutes_in w)) (activity_in w) (omega arith)) (activity_in_law (min m (minutes_in w)) (activity_in w) (omega arith))
    ∙ ap (λ (l : List ℕ). replicate (min m (minutes_in w)) (activity_in w) ++ l) (cut_at_law (m - minutes_in w) ws)
    ∙ sym (take_run m (minutes_in w) (activity_in w) (minutes_of ws))
