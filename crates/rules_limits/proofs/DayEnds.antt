-- Days and long rests with one minute more. Assumes nothing.
use mathlib.Core.Path.{◌≡◌, refl, sym, ap, ◌∙◌}
use mathlib.Core.Logic.{◌⊎◌, inl, inr}
use mathlib.Core.Bool.{true, false}
use mathlib.Core.List.Memᴰ
use mathlib.Core.List.{List, [], ◌∷◌, ◌++◌, append-nil, Memᴰ as In}
use Prim.Native.Nat.{ℕ, suc, ◌-◌, ◌≤◌, zero-le}
use native.Mathlib.Nat.{le_refl}
use native.Mathlib.Omega.{arith}
use lib.Dec.{leb}
use lib.ListN.{length}
use Rattle.recording.specs.Tests.{pick, keep}
use Rattle.recording.specs.Rests.{end_from, closed_from, judged_end, long_rest_minutes, long_rests}
use Rattle.recording.specs.Days.{days_from, days}
use Rattle.recording.specs.declared.Span.{Span}
use Rattle.recording.proofs.Walks.{judged_append, long_rests_append}
use Rattle.recording.proofs.LongRests.{Ordered, none, next, rests_ordered, long_busy}

abbrev pub span : ℕ → ℕ → Span
span a b = record { start = a; end = b }

-- ---- the days that are over, and where the one that runs began
unfoldable pub last_end : ℕ → List Span → ℕ
last_end p [] = p
last_end p (r ∷ rs) = last_end r.end rs

unfoldable pub done_days : ℕ → List Span → List Span
done_days p [] = []
done_days p (r ∷ rs) = span p r.start ∷ done_days r.end rs

days_split : (p s : ℕ) (rs : List Span) → days_from p s rs ≡ done_days p rs ++ span (last_end p rs) s ∷ []
unfolding days_from done_days last_end
days_split p s [] = refl
days_split p s (r ∷ rs) = ap (λ (l : List Span). span p r.start ∷ l) (days_split r.end s rs)

last_snoc : (p : ℕ) (rs : List Span) (r : Span) → last_end p (rs ++ r ∷ []) ≡ r.end
unfolding last_end
last_snoc p [] r = refl
last_snoc p (q ∷ rs) r = last_snoc q.end rs r

done_snoc : (p : ℕ) (rs : List Span) (r : Span) → done_days p (rs ++ r ∷ []) ≡ done_days p rs ++ span (last_end p rs) r.start ∷ []
unfolding done_days last_end
done_snoc p [] r = refl
done_snoc p (q ∷ rs) r = ap (λ (l : List Span). span p q.start ∷ l) (done_snoc q.end rs r)

-- where they lie: up to the judged end, and begun no later than the one that runs
pub record Past (to last : ℕ) (d : Span) : Type 0 where
  pub ends : d.end ≤ to
  pub starts : d.start ≤ d.end
  pub before : d.start ≤ last

last_from : {to : ℕ} (p : ℕ) {from : ℕ} {rs : List Span} → Ordered to from rs → p ≤ from → p ≤ last_end p rs
unfolding last_end
last_from p none h = le_refl _
last_from p (next {r = r} l n e o) h = omega (arith, last_from r.end o (omega arith))

last_to : {to : ℕ} (p : ℕ) {from : ℕ} {rs : List Span} → Ordered to from rs → p ≤ to → last_end p rs ≤ to
unfolding last_end
last_to p none h = h
last_to p (next {r = r} l n e o) h = last_to r.end o (omega arith)

done_past : {to : ℕ} (p : ℕ) {from : ℕ} {rs : List Span} → Ordered to from rs → p ≤ from → (d : Span) → In d (done_days p rs) → Past to (last_end p rs) d
unfolding done_days last_end
done_past p none h d i = absurd (Memᴰ.not-nil i)
done_past {to} p (next {r = r} {rs = rs} l n e o) h d i = at (Memᴰ.cases_cons i) (λ j. done_past r.end o (omega arith) d j)
  where
    at : (d ≡ span p r.start) ⊎ In d (done_days r.end rs) → (In d (done_days r.end rs) → Past to (last_end r.end rs) d) → Past to (last_end r.end rs) d
    at (inl q) later = rw q (record { ends = omega arith; starts = omega arith; before = omega (arith, last_from r.end o (omega arith)) })
    at (inr j) later = later j

-- ---- of a recording
abbrev pub day_start : List ℕ → ℕ
day_start xs = last_end 0 (long_rests xs)

abbrev pub days_done : List ℕ → List Span
days_done xs = done_days 0 (long_rests xs)

module _ (xs : List ℕ) where
  pub days_are : days xs ≡ days_done xs ++ span (day_start xs) (judged_end xs) ∷ []
  unfolding days
  days_are = days_split 0 (judged_end xs) (long_rests xs)

  pub done_are : (d : Span) → In d (days_done xs) → Past (judged_end xs) (day_start xs) d
  done_are d i = done_past 0 (rests_ordered xs) zero-le d i

  pub day_within : day_start xs ≤ judged_end xs
  day_within = last_to 0 (rests_ordered xs) zero-le

  -- a minute of rest
  pub judged_rest : judged_end (xs ++ 0 ∷ []) ≡ judged_end xs
  unfolding end_from
  judged_rest = judged_append xs (0 ∷ [])

  pub rests_rest : long_rests (xs ++ 0 ∷ []) ≡ long_rests xs
  unfolding closed_from keep
  rests_rest = long_rests_append xs (0 ∷ []) ∙ append-nil (long_rests xs)

  pub days_rest : days (xs ++ 0 ∷ []) ≡ days xs
  unfolding days
  days_rest = rw (judged_rest, rests_rest)

  -- another minute, after a rest that is long or not
  module _ (a : ℕ) where
    pub judged_busy : judged_end (xs ++ suc a ∷ []) ≡ suc (length xs)
    unfolding end_from
    judged_busy = judged_append xs (suc a ∷ [])

    rests_busy : long_rests (xs ++ suc a ∷ []) ≡ long_rests xs ++ pick (leb long_rest_minutes (length xs - judged_end xs)) (span (judged_end xs) (length xs) ∷ []) []
    unfolding closed_from keep
    rests_busy = long_rests_append xs (suc a ∷ []) ∙ ap (λ (l : List Span). long_rests xs ++ l) (long_busy (judged_end xs) (length xs) a [])

    pub record LongBefore : Type 0 where
      pub begins : day_start (xs ++ suc a ∷ []) ≡ length xs
      pub over : days_done (xs ++ suc a ∷ []) ≡ days xs

    pub long_before : leb long_rest_minutes (length xs - judged_end xs) ≡ true → LongBefore
    long_before t =
        let e : long_rests (xs ++ suc a ∷ []) ≡ long_rests xs ++ span (judged_end xs) (length xs) ∷ [] = rw t at rests_busy in
        record {
          begins = ap (last_end 0) e ∙ last_snoc 0 (long_rests xs) (span (judged_end xs) (length xs));
          over = ap (done_days 0) e ∙ done_snoc 0 (long_rests xs) (span (judged_end xs) (length xs)) ∙ sym days_are;
        }

    pub record ShortBefore : Type 0 where
      pub begins : day_start (xs ++ suc a ∷ []) ≡ day_start xs
      pub over : days_done (xs ++ suc a ∷ []) ≡ days_done xs

    pub short_before : leb long_rest_minutes (length xs - judged_end xs) ≡ false → ShortBefore
    short_before t =
        let e : long_rests (xs ++ suc a ∷ []) ≡ long_rests xs = (rw t at rests_busy) ∙ append-nil (long_rests xs) in
        record { begins = ap (last_end 0) e; over = ap (done_days 0) e }

    pub days_busy : days (xs ++ suc a ∷ []) ≡ days_done (xs ++ suc a ∷ []) ++ span (day_start (xs ++ suc a ∷ [])) (suc (length xs)) ∷ []
    unfolding days
    days_busy = days_split 0 (judged_end (xs ++ suc a ∷ [])) (long_rests (xs ++ suc a ∷ [])) ∙ rw judged_busy
