-- The walk over the words: what it keeps, and what the tests answer at each return. Assumes nothing.
use mathlib.Core.Path.{◌≡◌, refl, sym, ap, ap₂, subst, ◌∙◌}
use mathlib.Core.List.{List, [], ◌∷◌, ◌++◌, append-nil, append_assoc}
use Prim.Native.Nat.{ℕ, ◌+◌, ◌-◌, ◌≤◌, ◌<◌, min}
use native.Mathlib.Omega.{arith}
use lib.ListN.{length, take, replicate, length-append, length-replicate}
use lib.Seq.{take-nil, take_all}
use borrow.Author.Tests.{lt-ltb, le-ltb}
use Rattle.recording.specs.Answers.{Answer, refused, answered, and_then}
use Rattle.recording.specs.Words.{minutes_in, activity_in, minutes_of, code_of, IsRunOf}
use Rattle.recording.specs.Operations.{total_at_most, measured}
use Rattle.recording.specs.Scan.{Scanned}
use Rattle.recording.specs.declared.Measure.{Measure}
use Rattle.recording.specs.declared.Run.{Run}
use Rattle.recording.specs.declared.Place.{Place}
use Rattle.recording.proofs.ByWord.{take_run}
use Rattle.recording.proofs.Scanning.{scan_total, scanned_alone}
use Rattle.rules.specs.declared.Breaches.{Breaches}
use Rattle.rules.specs.Operations.{breaches_tested}
use Rattle.rules_limits.specs.Account.{account_from, opening}
use Rattle.rules_limits.specs.Runs.{Bounded, Ran}
use Rattle.rules_limits.specs.declared.Account.{Account}
use Rattle.rules_fixed.specs.Walk.{Surveyed}
use Rattle.rules_fixed.specs.declared.Survey.{Survey}
use Rattle.rules_limits.proofs.AccountRight.{account_right}
use Rattle.rules_account.proofs.Running.{account_append}

-- ---- the walk, with these words ahead and so many minutes left
pub record Walking (ws : List ℕ) (m : ℕ) (s : Account) (left : ℕ) (ahead : List ℕ) : Type 0 where
  pub bounded : Bounded s
  pub room : s.now + length (minutes_of ahead) ≤ total_at_most
  pub done : List ℕ
  pub split : take m (minutes_of ws) ≡ done ++ take left (minutes_of ahead)
  pub account : s ≡ account_from opening done

opening_bounded : Bounded opening
opening_bounded = record {
  from = omega arith;
  start = omega arith;
  driving = omega arith;
  extended = omega arith;
  end = omega arith;
  weekly = omega arith;
  last = omega arith;
  sum = omega arith;
}

pub start_walking : (ws : List ℕ) (m : ℕ) → length (minutes_of ws) ≤ total_at_most → Walking ws m opening m ws
unfolding account_from
start_walking ws m h = record { bounded = opening_bounded; room = omega arith; done = []; split = refl; account = refl }

module _ {ws : List ℕ} {m : ℕ} {s : Account} {left w : ℕ} {ahead : List ℕ} (k : Walking ws m s left (w ∷ ahead)) {run : Run} (r : IsRunOf w run) where
  left_there : length (minutes_of (w ∷ ahead)) ≡ minutes_in w + length (minutes_of ahead)
  unfolding minutes_of
  left_there = rw (length-append, length-replicate) refl

  taken_there : take left (minutes_of (w ∷ ahead)) ≡ replicate (min left (minutes_in w)) (activity_in w) ++ take (left - minutes_in w) (minutes_of ahead)
  unfolding minutes_of
  taken_there = take_run left (minutes_in w) (activity_in w) (minutes_of ahead)

  its_part : min left run.minutes ≡ min left (minutes_in w)
  its_part = ap (min left) r.minutes

  module _ {n : ℕ} (e : n ≡ min left run.minutes) where
    pub run_fits : Bounded s × (s.now + n ≤ total_at_most)
    run_fits = (k.bounded, omega (arith, k.room, left_there, its_part))

    pub walk_on : {t : Account} → Ran s (code_of run.activity) n t → Walking ws m t (left - n) ahead
    walk_on {t} q =
        let a = code_of run.activity in
        let z : left - minutes_in w ≡ left - n = omega (arith, its_part) in
        let c : replicate (min left (minutes_in w)) (activity_in w) ≡ replicate n a = ap₂ replicate (sym (e ∙ its_part)) (sym r.activity) in
        record {
          bounded = q.bounded;
          room = omega (arith, k.room, left_there, q.now, its_part);
          done = k.done ++ replicate n a;
          split =
              k.split ∙ ap (λ (l : List ℕ). k.done ++ l) (taken_there ∙ ap₂ (λ (l : List ℕ) (y : ℕ). l ++ take y (minutes_of ahead)) c z)
              ∙ sym (append_assoc k.done (replicate n a) _);
          account = q.is ∙ ap (λ (x : Account). account_from x (replicate n a)) k.account ∙ sym (account_append opening k.done (replicate n a));
        }

pub next_words : {ws : List ℕ} {m : ℕ} {s : Account} {left w : ℕ} {ahead later : List ℕ} → ahead ≡ w ∷ later → Walking ws m s left ahead → Walking ws m s left (w ∷ later)
next_words {ws} {m} {s} {left} e k = subst (λ (l : List ℕ). Walking ws m s left l) e k

pub walk_done : {ws : List ℕ} {m : ℕ} {s : Account} {left : ℕ} (ahead : List ℕ) → Walking ws m s left ahead → length ahead ≡ 0 → s ≡ account_from opening (take m (minutes_of ws))
unfolding account_from minutes_of
walk_done {ws} {m} {left = left} [] k h =
    let e : take m (minutes_of ws) ≡ k.done ++ [] = k.split ∙ rw take-nil refl in
    k.account ∙ ap (account_from opening) (sym (e ∙ append-nil k.done))
walk_done (w ∷ ahead) k h = absurd (omega arith)

-- the place at the end of a scan is past all minutes
pub all_there : {ws starts ends starts' ends' : List ℕ} {p : Place} → Scanned ws starts ends p starts' ends' → take p.now (minutes_of ws) ≡ minutes_of ws
all_there {ws} {p = p} q = take_all p.now (minutes_of ws) (omega (arith, ap (λ (x : Place). x.now) q.place ∙ scan_total ws))

-- a word of no minutes stands for none
pub surveyed_alone : {ws starts ends nets starts' ends' nets' : List ℕ} {r : Survey}
    → Surveyed (0 ∷ ws) starts ends nets r starts' ends' nets' → Surveyed ws starts ends nets r starts' ends' nets'
unfolding minutes_of
surveyed_alone {starts = starts} {ends = ends} {starts' = starts'} {ends' = ends'} {r = r} k =
    let q = scanned_alone (record { place = k.place; begun = k.begun; ended = k.ended }) in
    record { place = q.place; begun = q.begun; ended = q.ended; numbered = k.numbered; account = k.account }

-- the minutes of a recording of words alone, and the account of the first m
pub account_alone : (ws : List ℕ) (m : ℕ) {s : Account} {head : ℕ} {words : List ℕ} → head ≡ 0 → words ≡ ws → s ≡ account_from opening (take m (minutes_of (head ∷ words)))
    → s ≡ account_from opening (take m (minutes_of ws))
unfolding minutes_of
account_alone ws m {s} z q e = subst (λ (l : List ℕ). s ≡ account_from opening (take m (minutes_of l))) q (rw z at e)

-- ---- the tests, each by what it picks from the rules that are broken
module _ (ws : List ℕ) (m : ℕ) (pick : Breaches → ℕ) where
  abbrev picked : Answer ℕ
  picked = and_then (breaches_tested ws m) (λ b. answered (pick b))

  pub test_refused : {n : ℕ} → measured ws ≡ refused n → refused n ≡ picked
  unfolding breaches_tested
  test_refused e = rw e

  pub test_past : {k : Measure} → measured ws ≡ answered k → k.total < m → refused 5 ≡ picked
  unfolding breaches_tested
  test_past {k} e h = rw (e, lt-ltb k.total m h) refl

  pub test_done : {k : Measure} {s : Account} {n : ℕ} → measured ws ≡ answered k → m ≤ k.total → s ≡ account_from opening (take m (minutes_of ws)) → n ≡ pick s.broken
      → answered n ≡ picked
  unfolding breaches_tested
  test_done {k} {s} e h q p =
      rw (e, le-ltb k.total m h) (ap answered (p ∙ ap pick (ap (λ (x : Account). x.broken) q ∙ (account_right (take m (minutes_of ws))).broken)))
