-- The walk over the words finds the number of each long rest: the day that runs is split where rule 9 says so. Assumes nothing.
use mathlib.Core.Path.{◌≡◌, refl, sym, ap, ap₂, subst, ◌∙◌}
use mathlib.Core.Bool.{Bool, true, false}
use mathlib.Core.List.{List, [], ◌∷◌, ◌++◌, append_assoc}
use Prim.Native.Nat.{ℕ, zero, suc, ◌+◌, ◌-◌, ◌≤◌, ◌<◌}
use native.Mathlib.Nat.{le_refl}
use native.Mathlib.Numerals.{add-one}
use native.Mathlib.Omega.{arith}
use lib.Dec.{ltb, eqb-suc-zero}
use lib.ListN.{length, drop, get_or, set}
use lib.Seq.{sets, length-sets, drop-cons, drop-length}
use borrow.Author.Tests.{le-leb, lt-leb, ltb-false}
use Rattle.recording.specs.Tests.{◌and◌, ◌or◌, pick, any_of, keep}
use Rattle.recording.specs.Words.{minutes_in, activity_in, minutes_of, code_of, IsRunOf}
use Rattle.recording.specs.Rests.{with_rest, closed_rests, long_rest_minutes, is_long, long_rests}
use Rattle.recording.specs.Weeks.{inside}
use Rattle.recording.specs.Operations.{total_at_most}
use Rattle.recording.specs.Scan.{after_run, origin, rest_at, Walking}
use Rattle.recording.specs.declared.Place.{Place}
use Rattle.recording.specs.declared.Run.{Run}
use Rattle.recording.specs.declared.Span.{Span}
use Rattle.recording.proofs.TestLaws.{or-false}
use Rattle.recording.proofs.ClosedRests.{Apart, none, next, rests_apart}
use Rattle.recording.proofs.ByWord.{rests_by_run, closed_by, closed_rests_by}
use Rattle.recording.proofs.Scanning.{none_run, rest_run, busy_run, pick-sets, start_walking, walk_on, next_word}
use Rattle.rules.specs.ReadingRules.{first_period_at_least, is_first_period, split_day}
use Rattle.rules.proofs.SplitDays.{before_day, split_append, none_after}
use Rattle.rules_nets.specs.Nets.{regular_net, span_of, nets_from, nets_of, fresh_day, closes, day_then, day_on, nets_on, with_net}
use Rattle.rules_nets.specs.declared.OpenDay.{OpenDay}

-- ---- the day that runs after the rests `done`, which are over by `from`: whether it is split so far, and that it has none of theirs if it begins there
record Open (done : List Span) (from : ℕ) (d : OpenDay) : Type 0 where
  begun : d.start ≤ from
  held : (t : ℕ) → from ≤ t → split_day done (span_of d.start t) ≡ d.held
  gone : (p t : ℕ) → from ≤ p → split_day done (span_of p t) ≡ false

open_first : Open [] 0 (fresh_day 0)
unfolding split_day any_of
open_first = record { begun = omega arith; held = λ t h. refl; gone = λ p t h. refl }

-- one rest more
module _ {done : List Span} {from : ℕ} {d : OpenDay} (g : Open done from d) (r : Span) (after : from ≤ r.start) (proper : r.start < r.end) where
  abbrev more : List Span
  more = done ++ r ∷ []

  with_it : (day : Span) → split_day more day ≡ split_day done day or (inside r day and is_first_period r)
  unfolding split_day any_of
  with_it day = split_append done (r ∷ []) day ∙ ap (λ (b : Bool). split_day done day or b) (or-false (inside r day and is_first_period r))

  gone_then : (p t : ℕ) → r.end ≤ p → split_day more (span_of p t) ≡ false
  unfolding ◌or◌
  gone_then p t h = with_it (span_of p t) ∙ rw (g.gone p t (omega arith), before_day r (span_of p t) (omega arith)) refl

  held_then : (t : ℕ) → r.end ≤ t → split_day more (span_of d.start t) ≡ d.held or is_first_period r
  unfolding inside ◌and◌
  held_then t h =
      with_it (span_of d.start t)
      ∙ rw (g.held t (omega arith), le-leb d.start r.start (omega (arith, g.begun)), le-leb r.end t h) refl

  open_then : (b : Bool) → Open more r.end (day_then b d r)
  open_then true = record { begun = le_refl _; held = λ t h. gone_then r.end t (le_refl _); gone = gone_then }
  open_then false = record { begun = omega (arith, g.begun); held = held_then; gone = gone_then }

  open_next : Open more r.end (day_on d r)
  unfolding day_on
  open_next = open_then (is_long r)

  -- its day is split where the day that runs is
  split_there : {rs : List Span} → Apart r.end rs → split_day (done ++ r ∷ rs) (span_of d.start r.start) ≡ d.held
  split_there {rs} o =
      split_append done (r ∷ rs) (span_of d.start r.start)
      ∙ ap₂ ◌or◌ (g.held r.start after) (none_after (span_of d.start r.start) (le_refl _) (next (le_refl _) proper o))
      ∙ or-false d.held

number_or_not : (b : Bool) (whole : List Span) (d : OpenDay) (r : Span) (rs ks : List Span) → split_day whole (span_of d.start r.start) ≡ d.held
    → nets_on (day_then b d r) rs ≡ nets_from whole (day_then b d r).start ks
    → pick b (regular_net d.held d.start r.start r.end ∷ nets_on (day_then b d r) rs) (nets_on (day_then b d r) rs) ≡ nets_from whole d.start (pick b (r ∷ ks) ks)
unfolding nets_from
number_or_not true whole d r rs ks s e = ap₂ (λ (b : Bool) (l : List ℕ). regular_net b d.start r.start r.end ∷ l) (sym s) e
number_or_not false whole d r rs ks s e = e

on_right : (done : List Span) {from : ℕ} {rest : List Span} (d : OpenDay) → Apart from rest → Open done from d
    → nets_on d rest ≡ nets_from (done ++ rest) d.start (keep is_long rest)
unfolding nets_on nets_from keep day_on
on_right done d none g = refl
on_right done d (next {r = r} {rs = rs} l m o) g =
    number_or_not (is_long r) (done ++ r ∷ rs) d r rs (keep is_long rs) (split_there g r l m o)
    (on_right (done ++ r ∷ []) (day_on d r) o (open_next g r l m)
    ∙ ap (λ (whole : List Span). nets_from whole (day_on d r).start (keep is_long rs)) (append_assoc done (r ∷ []) rs))

-- THE LAW of the walk: over all rests it comes to the numbers of rule 9
pub walk_right : (ms : List ℕ) → nets_on (fresh_day 0) (closed_rests ms) ≡ nets_of ms
unfolding nets_of long_rests closed_rests
walk_right ms = on_right [] (fresh_day 0) (rests_apart ms) open_first

-- ---- the rest from `from` to `now`, if it has a minute, and what follows it
module _ (d : OpenDay) (from now : ℕ) where
  none_rested : now ≤ from → day_on d (span_of from now) ≡ d
  unfolding day_on ◌and◌
  none_rested h = rw (lt-leb long_rest_minutes (now - from) (omega arith), lt-leb first_period_at_least (now - from) (omega arith), or-false) refl

  abbrev numbers_on : List Span → List ℕ
  numbers_on rs =
      pick (is_long (span_of from now)) (regular_net d.held d.start from now ∷ nets_on (day_on d (span_of from now)) rs) (nets_on (day_on d (span_of from now)) rs)

  nets_if : (b : Bool) (rs : List Span) → ltb from now ≡ b → nets_on d (pick b (span_of from now ∷ rs) rs) ≡ numbers_on rs
  unfolding nets_on
  nets_if true rs e = refl
  nets_if false rs e =
      let h : now ≤ from = ltb-false from now e in
      rw (lt-leb long_rest_minutes (now - from) (omega arith)) (ap (λ (x : OpenDay). nets_on x rs) (sym (none_rested h)))

  nets_with : (rs : List Span) → nets_on d (with_rest from now rs) ≡ numbers_on rs
  nets_with rs = nets_if (ltb from now) rs refl

-- ---- a run: the numbers written by it and those to come
abbrev day_run : OpenDay → Place → ℕ → ℕ → OpenDay
day_run d p a n = pick (closes a n) (day_on d (rest_at p)) d

abbrev net_run : OpenDay → Place → ℕ → ℕ → List ℕ → List ℕ
net_run d p a n out = pick (closes a n) (with_net d (rest_at p) p.count out) out

module _ (d : OpenDay) (p : Place) where
  run_nets : (a n : ℕ) (f : ℕ → ℕ → List Span) (out : List ℕ) → sets out p.count (nets_on d (rests_by_run n a p.from p.now f))
      ≡ sets (net_run d p a n out) (after_run p a n).count (nets_on (day_run d p a n) (f (after_run p a n).from (after_run p a n).now))
  unfolding closes with_net
  run_nets a zero f out = rw (none_run p a) refl
  run_nets zero (suc n) f out = rw (rest_run p n, eqb-suc-zero n) refl
  run_nets (suc a) (suc n) f out =
      rw (busy_run p a n, eqb-suc-zero n, eqb-suc-zero a)
      (ap (sets out p.count) (nets_with d p.from p.now (f (p.now + suc n) (p.now + suc n)))
      ∙ sym (pick-sets (is_long (rest_at p)) (regular_net d.held d.start p.from p.now) _ p.count _ out refl))

  run_begun : (a n : ℕ) → d.start ≤ p.from → p.from ≤ p.now → (day_run d p a n).start ≤ (after_run p a n).from
  unfolding closes day_on
  run_begun a zero h l = rw (none_run p a) h
  run_begun zero (suc n) h l = rw (rest_run p n, eqb-suc-zero n) h
  run_begun (suc a) (suc n) h l = rw (busy_run p a n, eqb-suc-zero n, eqb-suc-zero a) (at (is_long (rest_at p)))
    where
      at : (b : Bool) → (day_then b d (rest_at p)).start ≤ p.now + suc n
      at true = omega arith
      at false = omega arith

-- ---- what the walk keeps at the word i
pub record Noting (ws nets₀ nets : List ℕ) (p : Place) (d : OpenDay) (i : ℕ) : Type 0 where
  pub walking : Walking ws p i
  pub begun : d.start ≤ p.from
  pub same : sets nets₀ 0 (nets_of (minutes_of ws)) ≡ sets nets p.count (nets_on d (closed_by p.from p.now (drop i ws)))

start_noting : (ws nets : List ℕ) → length (minutes_of ws) ≤ total_at_most → Noting ws nets nets origin (fresh_day 0) 0
start_noting ws nets h = record {
  walking = start_walking ws h;
  begun = omega arith;
  same = ap (sets nets 0) (sym (walk_right (minutes_of ws)) ∙ ap (nets_on (fresh_day 0)) (closed_rests_by ws));
}

module _ {ws nets₀ nets : List ℕ} {p : Place} {d : OpenDay} {i : ℕ} (g : Noting ws nets₀ nets p d i) where
  note_on : {q : Place} {e : OpenDay} {nets' : List ℕ} → i < length ws → q ≡ after_run p (activity_in (get_or ws i 0)) (minutes_in (get_or ws i 0))
      → e ≡ day_run d p (activity_in (get_or ws i 0)) (minutes_in (get_or ws i 0)) → nets' ≡ net_run d p (activity_in (get_or ws i 0)) (minutes_in (get_or ws i 0)) nets
      → Noting ws nets₀ nets' q e (i + 1)
  unfolding closed_by
  note_on h a b c =
      let w : ℕ = get_or ws i 0 in
      rw (a, b, c) (record {
        walking = walk_on g.walking h;
        begun = run_begun d p (activity_in w) (minutes_in w) g.begun g.walking.from;
        same =
            g.same
            ∙ ap (λ (l : List ℕ). sets nets p.count (nets_on d (closed_by p.from p.now l))) (drop-cons ws i 0 h ∙ ap (λ (j : ℕ). w ∷ drop j ws) (sym (add-one i)))
            ∙ run_nets d p (activity_in w) (minutes_in w) (λ f t. closed_by f t (drop (i + 1) ws)) nets;
      })

  pub note_done : i ≡ length ws → nets ≡ sets nets₀ 0 (nets_of (minutes_of ws))
  unfolding closed_by nets_on
  note_done h = sym (g.same ∙ rw (h, drop-length) refl)

  pub as_long : length nets ≡ length nets₀
  as_long = sym (length-sets nets p.count (nets_on d (closed_by p.from p.now (drop i ws)))) ∙ sym (ap length g.same) ∙ length-sets nets₀ 0 (nets_of (minutes_of ws))

-- the first word: no rest ends before it
none_noted : (a n : ℕ) → fresh_day 0 ≡ day_run (fresh_day 0) origin a n
none_noted a n = at (closes a n)
  where
    at : (b : Bool) → fresh_day 0 ≡ pick b (day_on (fresh_day 0) (rest_at origin)) (fresh_day 0)
    at true = sym (none_rested (fresh_day 0) 0 0 (le_refl _))
    at false = refl

none_put : (a n : ℕ) (nets : List ℕ) → nets ≡ net_run (fresh_day 0) origin a n nets
unfolding with_net
none_put a n nets = at (closes a n)
  where
    at : (b : Bool) → nets ≡ pick b (pick (is_long (rest_at origin)) (set nets 0 (regular_net false 0 0 0)) nets) nets
    at true = refl
    at false = refl

pub first_noting : (w : ℕ) (ws nets : List ℕ) {q : Place} → length (minutes_of (w ∷ ws)) ≤ total_at_most → q ≡ after_run origin (activity_in w) (minutes_in w)
    → Noting (w ∷ ws) nets nets q (fresh_day 0) 1
first_noting w ws nets h e =
    note_on (start_noting (w ∷ ws) nets h) (omega arith) e (none_noted (activity_in w) (minutes_in w)) (none_put (activity_in w) (minutes_in w) nets)

-- and the next, where the first stands apart
pub next_noting : {w : ℕ} {ws nets₀ nets : List ℕ} {p : Place} {d : OpenDay} {i : ℕ} {q : Place} {e : OpenDay} {nets' : List ℕ} → Noting (w ∷ ws) nets₀ nets p d (suc i)
    → i < length ws → q ≡ after_run p (activity_in (get_or ws i 0)) (minutes_in (get_or ws i 0)) → e ≡ day_run d p (activity_in (get_or ws i 0)) (minutes_in (get_or ws i 0))
    → nets' ≡ net_run d p (activity_in (get_or ws i 0)) (minutes_in (get_or ws i 0)) nets → Noting (w ∷ ws) nets₀ nets' q e (suc (i + 1))
next_noting {w} {ws} {nets₀} {i = i} {q = q} {e = e} {nets' = nets'} g h a b c =
    subst (λ (j : ℕ). Noting (w ∷ ws) nets₀ nets' q e j) (next_word i) (note_on g (omega arith) a b c)

-- the same of the runs that the words are
module _ {w : ℕ} {ws : List ℕ} {p : Place} {run : Run} where
  pub first_run_noting : (nets : List ℕ) → length (minutes_of (w ∷ ws)) ≤ total_at_most → IsRunOf w run → p ≡ origin → {q : Place} → q ≡ after_run p (code_of run.activity) run.minutes
      → Noting (w ∷ ws) nets nets q (fresh_day 0) 1
  first_run_noting nets h r o e = first_noting w ws nets h (e ∙ rw (o, r.activity, r.minutes))

  pub next_run_noting : {nets₀ nets : List ℕ} {d : OpenDay} {i : ℕ} → Noting (w ∷ ws) nets₀ nets p d (suc i) → i < length ws → IsRunOf (get_or ws i 0) run
      → {q : Place} → q ≡ after_run p (code_of run.activity) run.minutes → {e : OpenDay} → e ≡ day_run d p (code_of run.activity) run.minutes
      → {nets' : List ℕ} → nets' ≡ net_run d p (code_of run.activity) run.minutes nets → Noting (w ∷ ws) nets₀ nets' q e (suc (i + 1))
  next_run_noting g h r a b c = next_noting g h (a ∙ rw (r.activity, r.minutes)) (b ∙ rw (r.activity, r.minutes)) (c ∙ rw (r.activity, r.minutes))
