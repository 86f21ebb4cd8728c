-- A run, part by part: what its walk keeps, and that it comes to the account. Assumes nothing.
use mathlib.Core.Path.{◌≡◌, refl, sym, ap, ◌∙◌}
use mathlib.Core.List.{List, [], ◌∷◌, ◌++◌}
use Prim.Native.Nat.{ℕ, zero, suc, ◌+◌, ◌-◌, ◌≤◌}
use native.Mathlib.Nat.{zero-add, suc-add}
use native.Mathlib.Omega.{arith}
use lib.ListN.{replicate}
use Rattle.recording.specs.Operations.{total_at_most}
use Rattle.rules_limits.specs.Account.{minute_after, account_from}
use Rattle.rules_limits.specs.Runs.{Bounded, Ran}
use Rattle.rules_limits.specs.declared.Account.{Account}

-- ---- runs of minutes
pub account_append : (s : Account) (xs ys : List ℕ) → account_from s (xs ++ ys) ≡ account_from (account_from s xs) ys
unfolding account_from
account_append s [] ys = refl
account_append s (x ∷ xs) ys = account_append (minute_after s x) xs ys

account_runs : (k n a : ℕ) (s : Account) → account_from s (replicate (k + n) a) ≡ account_from (account_from s (replicate k a)) (replicate n a)
unfolding account_from
account_runs zero n a s = rw zero-add refl
account_runs (suc k) n a s = rw suc-add (account_runs k n a (minute_after s a))

-- n minutes are to come to r, of which left are left from t
pub record Running (r : Account) (n a left : ℕ) (t : Account) : Type 0 where
  pub bounded : Bounded t
  pub room : t.now + left ≤ total_at_most
  pub now : t.now + left ≡ n
  pub same : r ≡ account_from t (replicate left a)

pub run_on : {r : Account} {n a left k : ℕ} {t u : Account} → Running r n a left t → k ≤ left → Ran t a k u → Running r n a (left - k) u
run_on {a = a} {left = left} {k = k} {t = t} g h e =
    let z : left ≡ k + (left - k) = omega arith in
    record {
      bounded = e.bounded;
      room = omega (arith, g.room, e.now);
      now = omega (arith, g.now, e.now);
      same =
          g.same ∙ ap (λ (x : ℕ). account_from t (replicate x a)) z ∙ account_runs k (left - k) a t
          ∙ ap (λ (x : Account). account_from x (replicate (left - k) a)) (sym e.is);
    }

pub run_done : {s : Account} {n a left : ℕ} {t : Account} → Running (account_from s (replicate n a)) (s.now + n) a left t → left ≤ 0 → Ran s a n t
unfolding account_from
run_done {left = zero} k h = record { is = sym k.same; bounded = k.bounded; now = omega (arith, k.now) }
run_done {left = suc left} k h = absurd (omega arith)
