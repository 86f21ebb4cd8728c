-- The two ways to say the form agree. Assumes nothing.
use mathlib.Core.Path.{◌≡◌, refl, sym, ap, ap₂, ◌∙◌}
use mathlib.Core.Logic.{◌⊎◌, inl, inr}
use mathlib.Core.Bool.{Bool, true, false, not, false≢true}
use mathlib.Core.List.{List, [], ◌∷◌}
use Prim.Native.Nat.{ℕ, zero, suc, ◌+◌, ◌*◌, ◌/◌, ◌%◌, ◌≤◌, ◌<◌}
use native.Mathlib.Omega.{arith}
use lib.Dec.{eqb, ltb}
use lib.ListN.{length}
use borrow.Author.Tests.{eqb-true, ltb-true, eq-eqb, ne_eqb, lt-ltb}
use Rattle.recording.specs.Tests.{◌and◌, ◌or◌, one, any_of}
use Rattle.recording.specs.Words.{activities}
use Rattle.recording.proofs.TestLaws.{and_left, and_right, and_both, or_cases, or_left, or_right, one_most}
use Rattle.card_reader.specs.Form.{Change, slot_place, crew_place, out_place, activity_place, number_of, byte_values, bytes_of, unknown, day_minutes}
use Rattle.card_reader.specs.Form.{Rising, day, Days, numbers_then, numbers_of_days, bytes_of_days, OfTheForm}
use Rattle.card_reader.specs.Form as form
use Rattle.card_reader.specs.Reading.{changes_in, change_minute, change_activity, bit_at, is_unknown, follows, all_follow, in_order, is_even, is_day_record}

-- ---- bytes and changes
two_bytes : (n : ℕ) → byte_values * (n / byte_values) + n % byte_values ≡ n
two_bytes n = omega arith

pub changes_of_bytes : (cs : List ℕ) → changes_in (bytes_of cs) ≡ cs
unfolding changes_in bytes_of
changes_of_bytes [] = refl
changes_of_bytes (c ∷ cs) = ap₂ (λ (n : ℕ) (l : List ℕ). n ∷ l) (two_bytes c) (changes_of_bytes cs)

pub bytes_length : (cs : List ℕ) → length (bytes_of cs) ≡ 2 * length cs
unfolding bytes_of
bytes_length [] = refl
bytes_length (c ∷ cs) = let k = bytes_length cs in omega (arith, k)

pub bytes_even : (cs : List ℕ) → is_even (length (bytes_of cs)) ≡ true
unfolding is_even
bytes_even cs = eq-eqb (length (bytes_of cs) % 2) 0 (omega (arith, bytes_length cs))

-- a byte
pub data Bytes : List ℕ → Type 0 where
  none : Bytes []
  next : {b : ℕ} {bytes : List ℕ} → b < byte_values → Bytes bytes → Bytes (b ∷ bytes)

-- ---- reading takes a generated change apart
bit_is : (b : Bool) (n : ℕ) → n ≡ one b → eqb n 1 ≡ b
bit_is true n e = eq-eqb n 1 e
bit_is false n e = ne_eqb n 1 (λ q. omega arith)

module _ (c : Change) (l : c.minute < activity_place) where
  pub minute_read : change_minute (number_of c) ≡ c.minute
  unfolding number_of
  minute_read = omega arith

  pub activity_read : c.activity < activities → change_activity (number_of c) ≡ c.activity
  unfolding number_of
  activity_read h = omega arith

  pub unknown_is_read : c.activity < activities → is_unknown (number_of c) ≡ unknown c
  unfolding number_of is_unknown
  unknown_is_read h =
      let s : one c.slot ≤ 1 = one_most c.slot in
      let k : one c.crew ≤ 1 = one_most c.crew in
      let o : one c.out ≤ 1 = one_most c.out in
      ap₂ (λ (a b : Bool). a and not b) (bit_is c.out (number_of c / out_place % 2) (omega arith)) (bit_is c.crew (number_of c / crew_place % 2) (omega arith))

-- ---- what is generated is read
-- minute 0 may follow every change
after_any : (m : ℕ) (later : List ℕ) → in_order later ≡ true → all_follow m later ≡ true
unfolding in_order all_follow follows
after_any m [] e = refl
after_any m (c ∷ cs) e = and_both _ _ (or_left _ _ (and_left _ _ e)) (and_right _ _ e)

pub rising_follow : {m : ℕ} {cs : List Change} → Rising m cs → (later : List ℕ) → in_order later ≡ true → all_follow m (numbers_then cs later) ≡ true
unfolding all_follow follows numbers_then
rising_follow {m} form.none later e = after_any m later e
rising_follow {m} (form.next {c = c} {cs = cs} l k h r) later e =
    rw (minute_read c (omega arith)) (and_both _ _ (or_right _ _ (and_both _ _ (lt-ltb _ _ k) (lt-ltb _ _ l))) (rising_follow r later e))

pub days_in_order : {ds : List (List Change)} → Days ds → in_order (numbers_of_days ds) ≡ true
unfolding in_order numbers_of_days numbers_then
days_in_order form.none = refl
days_in_order (form.next {ds = ds} (day {c = c} {cs = cs} z h r) l) =
    rw (minute_read c (omega arith), z) (and_both _ _ refl (rising_follow r (numbers_of_days ds) (days_in_order l)))

pub form_is_read : {bytes : List ℕ} → OfTheForm bytes → is_day_record bytes ≡ true
unfolding is_day_record
form_is_read f = rw (f.bytes_are, changes_of_bytes) (and_both _ _ (bytes_even (numbers_of_days f.days)) (days_in_order f.allowed))

-- ---- what is read is generated
-- the change of a number
abbrev pub change_in : ℕ → Change
change_in n = record {
  slot = bit_at slot_place n;
  crew = bit_at crew_place n;
  out = bit_at out_place n;
  activity = change_activity n;
  minute = change_minute n;
}

bit_value : (n : ℕ) → n < 2 → one (eqb n 1) ≡ n
bit_value zero h = refl
bit_value (suc zero) h = refl
bit_value (suc (suc n)) h = absurd (omega arith)

place_by_place : (s k o a m : ℕ) {n q u v : ℕ} → n ≡ activity_place * q + m → q ≡ activities * u + a → u ≡ 2 * v + o → v ≡ 2 * s + k
    → slot_place * s + crew_place * k + out_place * o + activity_place * a + m ≡ n
place_by_place s k o a m e f g h = omega arith

change_in_law : (n : ℕ) → n < byte_values * byte_values → number_of (change_in n) ≡ n
unfolding number_of
change_in_law n h =
    let s : one (bit_at slot_place n) ≡ n / slot_place % 2 = bit_value (n / slot_place % 2) (omega arith) in
    let t : n / slot_place % 2 ≡ n / slot_place = omega arith in
    let k : one (bit_at crew_place n) ≡ n / crew_place % 2 = bit_value (n / crew_place % 2) (omega arith) in
    let o : one (bit_at out_place n) ≡ n / out_place % 2 = bit_value (n / out_place % 2) (omega arith) in
    let a : n ≡ activity_place * (n / activity_place) + n % activity_place = omega arith in
    let b : n / activity_place ≡ activities * (n / out_place) + n / activity_place % activities = omega arith in
    let c : n / out_place ≡ 2 * (n / crew_place) + n / out_place % 2 = omega arith in
    let d : n / crew_place ≡ 2 * (n / slot_place) + n / crew_place % 2 = omega arith in
    rw (s, t, k, o) (place_by_place (n / slot_place) (n / crew_place % 2) (n / out_place % 2) (change_activity n) (change_minute n) a b c d)

-- changes of two bytes
pub data Fitting : List ℕ → Type 0 where
  none : Fitting []
  next : {c : ℕ} {cs : List ℕ} → c < byte_values * byte_values → Fitting cs → Fitting (c ∷ cs)

bytes_fit : {bytes : List ℕ} → Bytes bytes → Fitting (changes_in bytes)
unfolding changes_in
bytes_fit none = none
bytes_fit (next h none) = none
bytes_fit (next {b = high} h (next {b = low} l b)) = next {c = byte_values * high + low} (omega arith) (bytes_fit b)

no_single : {A : Type 0} → is_even 1 ≡ true → A
unfolding is_even
no_single e = absurd (false≢true e)

even_less : (n : ℕ) → is_even (suc (suc n)) ≡ true → is_even n ≡ true
unfolding is_even
even_less n e = let z : suc (suc n) % 2 ≡ 0 = eqb-true _ _ e in eq-eqb (n % 2) 0 (omega arith)

bytes_of_changes : {bytes : List ℕ} → Bytes bytes → is_even (length bytes) ≡ true → bytes ≡ bytes_of (changes_in bytes)
unfolding changes_in bytes_of
bytes_of_changes none e = refl
bytes_of_changes (next h none) e = no_single e
bytes_of_changes (next {b = high} h (next {b = low} {bytes = bytes} l b)) e =
    let p : high ≡ (byte_values * high + low) / byte_values = omega arith in
    let q : low ≡ (byte_values * high + low) % byte_values = omega arith in
    let i = bytes_of_changes b (even_less (length bytes) e) in
    λ k. p k ∷ q k ∷ i k

-- changes in order, by days; after a change at minute m, the rest of its day comes first
record Grouped (cs : List ℕ) : Type 0 where
  days : List (List Change)
  allowed : Days days
  numbers_are : cs ≡ numbers_of_days days

record Under (m : ℕ) (cs : List ℕ) : Type 0 where
  rest : List Change
  rising : Rising m rest
  days : List (List Change)
  allowed : Days days
  numbers_are : cs ≡ numbers_then rest (numbers_of_days days)

new_day : {c : ℕ} {cs : List ℕ} → c < byte_values * byte_values → change_minute c ≡ 0 → Under 0 cs → Grouped (c ∷ cs)
unfolding numbers_of_days numbers_then
new_day {c} h z u = record {
  days = (change_in c ∷ u.rest) ∷ u.days;
  allowed = form.next (day {c = change_in c} z (omega arith) u.rising) u.allowed;
  numbers_are = ap₂ (λ (n : ℕ) (l : List ℕ). n ∷ l) (sym (change_in_law c h)) u.numbers_are;
}

same_day : {m c : ℕ} {cs : List ℕ} → c < byte_values * byte_values → m < change_minute c → change_minute c < day_minutes → Under (change_minute c) cs → Under m (c ∷ cs)
unfolding numbers_then
same_day {m} {c} h l k u = record {
  rest = change_in c ∷ u.rest;
  rising = form.next {c = change_in c} l k (omega arith) u.rising;
  days = u.days;
  allowed = u.allowed;
  numbers_are = ap₂ (λ (n : ℕ) (l : List ℕ). n ∷ l) (sym (change_in_law c h)) u.numbers_are;
}

follow_under : {cs : List ℕ} (m : ℕ) → Fitting cs → all_follow m cs ≡ true → Under m cs
unfolding all_follow follows numbers_of_days numbers_then
follow_under m none e = record { rest = []; rising = form.none; days = []; allowed = form.none; numbers_are = refl }
follow_under m (next {c = c} {cs = cs} h f) e = at (or_cases _ _ (and_left _ _ e)) (follow_under (change_minute c) f (and_right _ _ e))
  where
    at : (eqb (change_minute c) 0 ≡ true) ⊎ (ltb (change_minute c) day_minutes and ltb m (change_minute c) ≡ true) → Under (change_minute c) cs → Under m (c ∷ cs)
    at (inl z) u =
        let y : change_minute c ≡ 0 = eqb-true _ _ z in
        let g = new_day h y (rw y at u) in
        record { rest = []; rising = form.none; days = g.days; allowed = g.allowed; numbers_are = g.numbers_are }
    at (inr b) u = same_day h (ltb-true _ _ (and_right _ _ b)) (ltb-true _ _ (and_left _ _ b)) u

order_grouped : {cs : List ℕ} → Fitting cs → in_order cs ≡ true → Grouped cs
unfolding in_order numbers_of_days
order_grouped none e = record { days = []; allowed = form.none; numbers_are = refl }
order_grouped (next {c = c} {cs = cs} h f) e =
    let y : change_minute c ≡ 0 = eqb-true _ _ (and_left _ _ e) in
    let u : Under (change_minute c) cs = follow_under (change_minute c) f (and_right _ _ e) in
    new_day h y (rw y at u)

pub read_is_form : {bytes : List ℕ} → Bytes bytes → is_day_record bytes ≡ true → OfTheForm bytes
unfolding is_day_record
read_is_form b e =
    let g = order_grouped (bytes_fit b) (and_right _ _ e) in
    record { days = g.days; allowed = g.allowed; bytes_are = bytes_of_changes b (and_left _ _ e) ∙ ap bytes_of g.numbers_are }

-- ---- unknown activities: of some change of some day
unfoldable pub any_unknown : List (List Change) → Bool
any_unknown [] = false
any_unknown (d ∷ ds) = any_of unknown d or any_unknown ds

or_assoc : (a b c : Bool) → a or (b or c) ≡ a or b or c
unfolding ◌or◌
or_assoc true b c = refl
or_assoc false b c = refl

rising_unknown : {m : ℕ} {cs : List Change} → Rising m cs → (later : List ℕ) → any_of is_unknown (numbers_then cs later) ≡ any_of unknown cs or any_of is_unknown later
unfolding any_of numbers_then ◌or◌
rising_unknown form.none later = refl
rising_unknown (form.next {c = c} {cs = cs} l k h r) later =
    ap₂ (λ (a b : Bool). a or b) (unknown_is_read c (omega arith) h) (rising_unknown r later) ∙ or_assoc (unknown c) (any_of unknown cs) (any_of is_unknown later)

numbers_unknown : {ds : List (List Change)} → Days ds → any_of is_unknown (numbers_of_days ds) ≡ any_unknown ds
unfolding any_of numbers_of_days numbers_then any_unknown
numbers_unknown form.none = refl
numbers_unknown (form.next {ds = ds} (day {c = c} {cs = cs} z h r) l) =
    ap₂ (λ (a b : Bool). a or b) (unknown_is_read c (omega arith) h) (rising_unknown r (numbers_of_days ds) ∙ ap (λ (b : Bool). any_of unknown cs or b) (numbers_unknown l))
    ∙ or_assoc (unknown c) (any_of unknown cs) (any_unknown ds)

pub unknown_read : {ds : List (List Change)} → Days ds → any_of is_unknown (changes_in (bytes_of_days ds)) ≡ any_unknown ds
unknown_read {ds} l = ap (any_of is_unknown) (changes_of_bytes (numbers_of_days ds)) ∙ numbers_unknown l
