-- The driving up to a minute, with one minute more. Assumes nothing.
use mathlib.Core.Path.{◌≡◌, refl, ap, ◌∙◌}
use mathlib.Core.List.{List, [], ◌∷◌, ◌++◌}
use Prim.Native.Nat.{ℕ, suc, ◌+◌, ◌-◌, ◌≤◌, ◌<◌}
use native.Mathlib.Omega.{arith}
use lib.ListN.{length, get_or, take, drop, length-append, length-drop, take-append-drop}
use lib.Seq.{take_all, take-append-le, get_or-drop}
use Rattle.recording.specs.Tests.{one}
use Rattle.recording.specs.Words.{rest, is_driving, driving_time}
use Rattle.recording.specs.Rests.{judged_end}
use Rattle.recording.specs.Days.{driving_in}
use Rattle.recording.specs.declared.Span.{Span}
use Rattle.recording.proofs.Runs.{judged_trailing}
use Rattle.recording.proofs.ByWord.{driving_less}

-- the driving up to a minute
abbrev pub up_to : List ℕ → ℕ → ℕ
up_to xs t = driving_time (take t xs)

pub driving_append : (xs ys : List ℕ) → driving_time (xs ++ ys) ≡ driving_time xs + driving_time ys
unfolding driving_time
driving_append [] ys = omega arith
driving_append (x ∷ xs) ys = omega (arith, driving_append xs ys)

pub up_to_within : (t : ℕ) (xs ys : List ℕ) → t ≤ length xs → up_to (xs ++ ys) t ≡ up_to xs t
up_to_within t xs ys h = ap driving_time (take-append-le t xs ys h)

pub up_to_past : (t : ℕ) (xs : List ℕ) → length xs ≤ t → up_to xs t ≡ driving_time xs
up_to_past t xs h = ap driving_time (take_all t xs h)

pub up_to_all : (t : ℕ) (xs : List ℕ) → up_to xs t ≤ driving_time xs
up_to_all t xs = omega (arith, driving_append (take t xs) (drop t xs), ap driving_time (take-append-drop t xs))

-- rest is no driving, so there is none past the judged end
rest_not_driving : (xs : List ℕ) → ((i : ℕ) → i < length xs → get_or xs i 0 ≡ rest) → driving_time xs ≡ 0
unfolding driving_time
rest_not_driving [] h = refl
rest_not_driving (x ∷ xs) h =
    let e : one (is_driving x) ≡ 0 = rw (h 0 (omega arith)) refl in
    omega (arith, rest_not_driving xs (λ i l. h (suc i) (omega arith)))

pub up_to_judged : (xs : List ℕ) → up_to xs (judged_end xs) ≡ driving_time xs
up_to_judged xs =
    let t = judged_trailing xs in
    let z : driving_time (drop (judged_end xs) xs) ≡ 0 =
    rest_not_driving (drop (judged_end xs) xs) (λ i l.
    get_or-drop (judged_end xs) xs i 0 ∙ t.resting (judged_end xs + i) (omega arith) (omega (arith, length-drop (judged_end xs) xs))) in
    omega (arith, driving_append (take (judged_end xs) xs) (drop (judged_end xs) xs), ap driving_time (take-append-drop (judged_end xs) xs))

pub driving_between : (xs : List ℕ) (d : Span) → driving_in xs d ≡ up_to xs d.end - up_to xs d.start
unfolding driving_in
driving_between xs d = driving_less d.start d.end xs

-- one minute more
module _ (xs : List ℕ) (a : ℕ) where
  pub driving_snoc : driving_time (xs ++ a ∷ []) ≡ driving_time xs + one (is_driving a)
  unfolding driving_time
  driving_snoc = omega (arith, driving_append xs (a ∷ []))

  pub length_more : length (xs ++ a ∷ []) ≡ suc (length xs)
  length_more = rw length-append (omega arith)

  pub driving_same : (d : Span) → d.end ≤ length xs → d.start ≤ length xs → driving_in (xs ++ a ∷ []) d ≡ driving_in xs d
  driving_same d h l =
      driving_between (xs ++ a ∷ []) d
      ∙ omega (arith, up_to_within d.end xs (a ∷ []) h, up_to_within d.start xs (a ∷ []) l, driving_between xs d)

  -- a span that starts within and ends past what there was
  pub driving_on : (d : Span) → length xs < d.end → d.start ≤ length xs → driving_in (xs ++ a ∷ []) d + up_to xs d.start ≡ driving_time xs + one (is_driving a)
  driving_on d h l =
      omega (
        arith,
        driving_between (xs ++ a ∷ []) d,
        up_to_past d.end (xs ++ a ∷ []) (omega (arith, length_more)),
        driving_snoc,
        up_to_within d.start xs (a ∷ []) l,
        up_to_all d.start xs,
      )
