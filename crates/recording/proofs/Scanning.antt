-- The walk over the words: what it keeps, and that it comes to S, k and the long rests.
-- Assumes nothing.
use mathlib.Core.Path.{◌≡◌, refl, sym, ap, subst, ◌∙◌}
use mathlib.Core.Bool.{Bool, true, false}
use mathlib.Core.List.{List, [], ◌∷◌, map}
use Prim.Native.Nat.{ℕ, zero, suc, ◌+◌, ◌-◌, ◌≤◌, ◌<◌}
use native.Mathlib.Numerals.{add-one}
use native.Mathlib.Omega.{arith}
use lib.Dec.{leb, eqb-suc-zero}
use lib.ListN.{length, drop, get_or, set, length-append, length-replicate}
use lib.Seq.{drop-cons, drop-length, sets, length-sets}
use Rattle.recording.specs.Tests.{pick, one, keep}
use Rattle.recording.specs.Words.{minutes_in, activity_in, minutes_of, code_of, IsRunOf}
use Rattle.recording.specs.Rests.{long_rest_minutes, is_long, judged_end, long_rests}
use Rattle.recording.specs.Operations.{total_at_most}
use Rattle.recording.specs.Scan.{ends_rest, after_run, origin, place_of, Walking, rest_at, written_from, Scanned}
use Rattle.recording.specs.declared.Place.{Place}
use Rattle.recording.specs.declared.Run.{Run}
use Rattle.recording.specs.declared.Span.{Span}
use Rattle.recording.proofs.LongRests.{long_with_rest}
use Rattle.recording.proofs.ByWord.{by_run, rests_by_run, end_by, closed_by, judged_by, rests_by}

-- ---- a run: the place after it, by its number of minutes and its activity
module _ (p : Place) where
  pub none_run : (a : ℕ) → after_run p a 0 ≡ p
  unfolding after_run
  none_run a = refl

  pub rest_run : (n : ℕ) → after_run p 0 (suc n) ≡ record { now = p.now + suc n; from = p.from; count = p.count }
  unfolding after_run
  rest_run n = rw (eqb-suc-zero n)

  pub busy_run : (a n : ℕ) → after_run p (suc a) (suc n)
      ≡ record { now = p.now + suc n; from = p.now + suc n; count = p.count + one (leb long_rest_minutes (p.now - p.from)) }
  unfolding after_run
  busy_run a n = rw (eqb-suc-zero n, eqb-suc-zero a)

  pub record Sensible (q : Place) (n : ℕ) : Type 0 where
    pub now : q.now ≡ p.now + n
    pub from : q.from ≤ q.now
    pub count : q.count ≤ q.now

  one_at_most : (b : Bool) → one b ≤ 1
  one_at_most true = omega arith
  one_at_most false = omega arith

  pub run_sensible : (a n : ℕ) → p.from ≤ p.now → p.count ≤ p.now → Sensible (after_run p a n) n
  run_sensible a zero h k = rw (none_run a) (record { now = omega arith; from = h; count = k })
  run_sensible zero (suc n) h k = rw (rest_run n) (record { now = refl; from = omega arith; count = omega arith })
  run_sensible (suc a) (suc n) h k =
      rw (busy_run a n) (record { now = refl; from = omega arith; count = omega (arith, one_at_most (leb long_rest_minutes (p.now - p.from))) })

  -- what follows a run follows from the place after it
  run_on : {A : Type 0} (a n : ℕ) (f : ℕ → ℕ → A) → by_run n a p.from p.now f ≡ f (after_run p a n).from (after_run p a n).now
  run_on a zero f = rw (none_run a) refl
  run_on zero (suc n) f = rw (rest_run n) refl
  run_on (suc a) (suc n) f = rw (busy_run a n) refl

  -- the long rests of a run and of what follows it
  run_rests : (a n : ℕ) (f : ℕ → ℕ → List Span) → keep is_long (rests_by_run n a p.from p.now f)
      ≡ pick (ends_rest p a n) (rest_at p ∷ keep is_long (f (after_run p a n).from (after_run p a n).now)) (keep is_long (f (after_run p a n).from (after_run p a n).now))
  unfolding ends_rest
  run_rests a zero f = rw (none_run a) refl
  run_rests zero (suc n) f = rw (rest_run n, eqb-suc-zero n) refl
  run_rests (suc a) (suc n) f = rw (busy_run a n, eqb-suc-zero n, eqb-suc-zero a) (long_with_rest p.from p.now (f (p.now + suc n) (p.now + suc n)))

  run_count : (a n : ℕ) → (after_run p a n).count ≡ p.count + one (ends_rest p a n)
  unfolding ends_rest
  run_count a zero = rw (none_run a) (omega arith)
  run_count zero (suc n) = rw (rest_run n, eqb-suc-zero n) (omega arith)
  run_count (suc a) (suc n) = rw (busy_run a n, eqb-suc-zero n, eqb-suc-zero a) refl

-- ---- the whole walk
pub place_end : (p : Place) (ws : List ℕ) → (place_of p ws).from ≡ end_by p.from p.now ws
unfolding place_of end_by
place_end p [] = refl
place_end p (w ∷ ws) =
    place_end (after_run p (activity_in w) (minutes_in w)) ws ∙ sym (run_on p (activity_in w) (minutes_in w) (λ f t. end_by f t ws))

-- the long rests from a place on
abbrev pub rests_on : Place → List ℕ → List Span
rests_on p ws = keep is_long (closed_by p.from p.now ws)

pub rests_next : (p : Place) (w : ℕ) (ws : List ℕ) → rests_on p (w ∷ ws)
    ≡ pick (ends_rest p (activity_in w) (minutes_in w)) (rest_at p ∷ rests_on (after_run p (activity_in w) (minutes_in w)) ws) (rests_on (after_run p (activity_in w) (minutes_in w)) ws)
unfolding closed_by
rests_next p w ws = run_rests p (activity_in w) (minutes_in w) (λ f t. closed_by f t ws)

pick-length : (b : Bool) (r : Span) (rs : List Span) (c : ℕ) → c + length (pick b (r ∷ rs) rs) ≡ c + one b + length rs
pick-length true r rs c = omega arith
pick-length false r rs c = omega arith

pub place_count : (p : Place) (ws : List ℕ) → (place_of p ws).count ≡ p.count + length (rests_on p ws)
unfolding place_of closed_by keep
place_count p [] = omega arith
place_count p (w ∷ ws) =
    let q = after_run p (activity_in w) (minutes_in w) in
    place_count q ws
    ∙ ap (λ (c : ℕ). c + length (rests_on q ws)) (run_count p (activity_in w) (minutes_in w))
    ∙ sym (ap (λ (rs : List Span). p.count + length rs) (rests_next p w ws) ∙ pick-length (ends_rest p (activity_in w) (minutes_in w)) (rest_at p) (rests_on q ws) p.count)

pub pick-sets : (b : Bool) (v : ℕ) (vs : List ℕ) (c c' : ℕ) (out : List ℕ) → c' ≡ c + one b
    → sets (pick b (set out c v) out) c' vs ≡ sets out c (pick b (v ∷ vs) vs)
pick-sets true v vs c c' out e = ap (λ (n : ℕ). sets (set out c v) n vs) (e ∙ add-one c)
pick-sets false v vs c c' out e = ap (λ (n : ℕ). sets out n vs) (omega arith)

pick_written : (f : Span → ℕ) (b : Bool) (r : Span) (rs : List Span) (c c' : ℕ) (out : List ℕ) → c' ≡ c + one b
    → sets (pick b (set out c (f r)) out) c' (map f rs) ≡ sets out c (map f (pick b (r ∷ rs) rs))
pick_written f true r rs c c' out e = pick-sets true (f r) (map f rs) c c' out e
pick_written f false r rs c c' out e = pick-sets false (f r) (map f rs) c c' out e

pub place_written : (f : Span → ℕ) (p : Place) (ws out : List ℕ) → written_from f p ws out ≡ sets out p.count (map f (rests_on p ws))
unfolding written_from closed_by keep
place_written f p [] out = refl
place_written f p (w ∷ ws) out =
    let q = after_run p (activity_in w) (minutes_in w) in
    place_written f q ws _
    ∙ pick_written f (ends_rest p (activity_in w) (minutes_in w)) (rest_at p) (rests_on q ws) p.count q.count out (run_count p (activity_in w) (minutes_in w))
    ∙ sym (ap (λ (rs : List Span). sets out p.count (map f rs)) (rests_next p w ws))

-- the minutes that a walk has gone through
place_total : (p : Place) (ws : List ℕ) → p.from ≤ p.now → p.count ≤ p.now → (place_of p ws).now ≡ p.now + length (minutes_of ws)
unfolding place_of minutes_of
place_total p [] h k = omega arith
place_total p (w ∷ ws) h k =
    let s = run_sensible p (activity_in w) (minutes_in w) h k in
    place_total (after_run p (activity_in w) (minutes_in w)) ws s.from s.count ∙ rw (length-append, length-replicate) (omega (arith, s.now))

pub scan_total : (ws : List ℕ) → (place_of origin ws).now ≡ length (minutes_of ws)
scan_total ws = omega (arith, place_total origin ws (omega arith) (omega arith))

pub scan_end : (ws : List ℕ) → (place_of origin ws).from ≡ judged_end (minutes_of ws)
scan_end ws = place_end origin ws ∙ sym (judged_by ws)

pub scan_count : (ws : List ℕ) → (place_of origin ws).count ≡ length (long_rests (minutes_of ws))
scan_count ws = place_count origin ws ∙ rw (rests_by ws) (omega arith)

pub scan_written : (f : Span → ℕ) (ws out : List ℕ) → written_from f origin ws out ≡ sets out 0 (map f (long_rests (minutes_of ws)))
scan_written f ws out = place_written f origin ws out ∙ rw (rests_by ws)

-- ---- what the walk keeps at the word i
pub start_walking : (ws : List ℕ) → length (minutes_of ws) ≤ total_at_most → Walking ws origin 0
start_walking ws h = record { within = omega arith; from = omega arith; count = omega arith; room = omega arith; place = refl }

module _ {ws : List ℕ} {p : Place} {i : ℕ} (k : Walking ws p i) (h : i < length ws) where
  left_there : length (minutes_of (drop i ws)) ≡ minutes_in (get_or ws i 0) + length (minutes_of (drop (i + 1) ws))
  unfolding minutes_of
  left_there = rw (drop-cons ws i 0, add-one, length-append, length-replicate) refl

  pub run_room : p.now + minutes_in (get_or ws i 0) ≤ total_at_most
  run_room = omega (arith, k.room, left_there)

  pub walk_on : Walking ws (after_run p (activity_in (get_or ws i 0)) (minutes_in (get_or ws i 0))) (i + 1)
  unfolding place_of
  walk_on =
      let s = run_sensible p (activity_in (get_or ws i 0)) (minutes_in (get_or ws i 0)) k.from k.count in
      record {
        within = omega arith;
        from = s.from;
        count = s.count;
        room = omega (arith, k.room, left_there, s.now);
        place = k.place ∙ rw (drop-cons ws i 0, add-one) refl;
      }

  pub write_on : (f : Span → ℕ) (out : List ℕ) {q : Place} {b : Bool} {out' : List ℕ} → q ≡ after_run p (activity_in (get_or ws i 0)) (minutes_in (get_or ws i 0))
      → b ≡ ends_rest p (activity_in (get_or ws i 0)) (minutes_in (get_or ws i 0)) → out' ≡ pick b (set out p.count (f (rest_at p))) out
      → written_from f p (drop i ws) out ≡ written_from f q (drop (i + 1) ws) out'
  unfolding written_from
  write_on f out e t g = rw (drop-cons ws i 0, add-one, e, g, t) refl

-- the same of the run that a word is
module _ {ws : List ℕ} {p : Place} {i : ℕ} (k : Walking ws p i) (h : i < length ws) {run : Run} (r : IsRunOf (get_or ws i 0) run) where
  pub run_fits : (p.from ≤ p.now) × (p.count ≤ p.now) × (p.now + run.minutes ≤ total_at_most)
  run_fits = (k.from, k.count, omega (arith, run_room k h, r.minutes))

  pub walk_run : {q : Place} → q ≡ after_run p (code_of run.activity) run.minutes → Walking ws q (i + 1)
  walk_run e = rw (e, r.activity, r.minutes) (walk_on k h)

-- a first word ends no long rest
none_ended : (a n : ℕ) → ends_rest origin a n ≡ false
unfolding ends_rest
none_ended a zero = refl
none_ended zero (suc n) = rw (eqb-suc-zero n) refl
none_ended (suc a) (suc n) = rw (eqb-suc-zero n, eqb-suc-zero a) refl

module _ (w : ℕ) (ws : List ℕ) (h : length (minutes_of (w ∷ ws)) ≤ total_at_most) where
  pub first_room : 0 + minutes_in w ≤ total_at_most
  first_room = run_room (start_walking (w ∷ ws) h) (omega arith)

  pub first_walking : Walking (w ∷ ws) (after_run origin (activity_in w) (minutes_in w)) 1
  first_walking = walk_on (start_walking (w ∷ ws) h) (omega arith)

pub first_written : (f : Span → ℕ) (w : ℕ) (ws out : List ℕ) → written_from f origin (w ∷ ws) out ≡ written_from f (after_run origin (activity_in w) (minutes_in w)) ws out
unfolding written_from
first_written f w ws out = rw (none_ended (activity_in w) (minutes_in w)) refl

-- the same of the run that the first word is, from the place before the first minute
module _ (w : ℕ) (ws : List ℕ) {p : Place} {run : Run} where
  pub origin_fits : length (minutes_of (w ∷ ws)) ≤ total_at_most → IsRunOf w run → p ≡ origin → (p.from ≤ p.now) × (p.count ≤ p.now) × (p.now + run.minutes ≤ total_at_most)
  origin_fits h r o = rw o (omega arith, omega arith, omega (arith, first_room w ws h, r.minutes))

  pub first_run : length (minutes_of (w ∷ ws)) ≤ total_at_most → IsRunOf w run → p ≡ origin → {q : Place} → q ≡ after_run p (code_of run.activity) run.minutes → Walking (w ∷ ws) q 1
  first_run h r o e = rw (e, o, r.activity, r.minutes) (first_walking w ws h)

  pub first_run_written : (f : Span → ℕ) → IsRunOf w run → p ≡ origin → {q : Place} (out : List ℕ) → q ≡ after_run p (code_of run.activity) run.minutes
      → written_from f origin (w ∷ ws) out ≡ written_from f q ws out
  first_run_written f r o out e = first_written f w ws out ∙ rw (e, o, r.activity, r.minutes)

-- a word of no minutes stands for none
pub scanned_alone : {ws starts ends starts' ends' : List ℕ} {p : Place} → Scanned (0 ∷ ws) starts ends p starts' ends' → Scanned ws starts ends p starts' ends'
unfolding place_of written_from after_run ends_rest
scanned_alone k = record { place = k.place; begun = k.begun; ended = k.ended }

-- the next word, where the first stands apart
pub next_word : (i : ℕ) → suc i + 1 ≡ suc (i + 1)
next_word i = omega arith

module _ {w : ℕ} {ws : List ℕ} {p : Place} {i : ℕ} (k : Walking (w ∷ ws) p (suc i)) (h : i < length ws) where
  pub next_room : p.now + minutes_in (get_or ws i 0) ≤ total_at_most
  next_room = run_room k (omega arith)

  pub next_walking : Walking (w ∷ ws) (after_run p (activity_in (get_or ws i 0)) (minutes_in (get_or ws i 0))) (suc (i + 1))
  next_walking = subst (λ (n : ℕ). Walking (w ∷ ws) (after_run p (activity_in (get_or ws i 0)) (minutes_in (get_or ws i 0))) n) (next_word i) (walk_on k (omega arith))

  pub next_written : (f : Span → ℕ) (out : List ℕ) {q : Place} {b : Bool} {out' : List ℕ} → q ≡ after_run p (activity_in (get_or ws i 0)) (minutes_in (get_or ws i 0))
      → b ≡ ends_rest p (activity_in (get_or ws i 0)) (minutes_in (get_or ws i 0)) → out' ≡ pick b (set out p.count (f (rest_at p))) out
      → written_from f p (drop i ws) out ≡ written_from f q (drop (i + 1) ws) out'
  next_written f out {q} {b} {out'} e t g = write_on k (omega arith) f out e t g ∙ ap (λ (n : ℕ). written_from f q (drop n (w ∷ ws)) out') (next_word i)

-- the same of the run that the next word is
module _ {w : ℕ} {ws : List ℕ} {p : Place} {i : ℕ} (k : Walking (w ∷ ws) p (suc i)) (h : i < length ws) {run : Run} (r : IsRunOf (get_or ws i 0) run) where
  pub next_fits : (p.from ≤ p.now) × (p.count ≤ p.now) × (p.now + run.minutes ≤ total_at_most)
  next_fits = (k.from, k.count, omega (arith, next_room k h, r.minutes))

  pub next_run : {q : Place} → q ≡ after_run p (code_of run.activity) run.minutes → Walking (w ∷ ws) q (suc (i + 1))
  next_run e = rw (e, r.activity, r.minutes) (next_walking k h)

  pub next_run_written : (f : Span → ℕ) (out : List ℕ) {q : Place} {b : Bool} {out' : List ℕ} → q ≡ after_run p (code_of run.activity) run.minutes
      → b ≡ ends_rest p (code_of run.activity) run.minutes → out' ≡ pick b (set out p.count (f (rest_at p))) out
      → written_from f p (drop i ws) out ≡ written_from f q (drop (i + 1) ws) out'
  next_run_written f out e t g = next_written k h f out (e ∙ rw (r.activity, r.minutes)) (t ∙ rw (r.activity, r.minutes)) g

module _ {ws : List ℕ} {p : Place} {i : ℕ} (k : Walking ws p i) (h : i ≡ length ws) where
  pub walk_done : p ≡ place_of origin ws
  unfolding place_of
  walk_done = sym (k.place ∙ rw (h, drop-length) refl)

  pub write_done : (f : Span → ℕ) (out : List ℕ) → written_from f p (drop i ws) out ≡ out
  unfolding written_from
  write_done f out = rw (h, drop-length) refl

-- what is written over is as long as before
pub written_length : (f : Span → ℕ) (p : Place) (ws out : List ℕ) → length (written_from f p ws out) ≡ length out
written_length f p ws out = ap length (place_written f p ws out) ∙ length-sets out p.count (map f (rests_on p ws))

pub same_length : (f : Span → ℕ) (p q : Place) (ws us out out' : List ℕ) → written_from f p ws out ≡ written_from f q us out' → length out' ≡ length out
same_length f p q ws us out out' e = sym (written_length f q us out') ∙ sym (ap length e) ∙ written_length f p ws out
