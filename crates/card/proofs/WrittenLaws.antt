-- What is written is a day record, reads back as the same minutes, and has changes just where the minutes change. Assumes nothing.
use mathlib.Core.Path.{◌≡◌, refl, sym, ap, ◌∙◌}
use mathlib.Core.Logic.{◌⊎◌, inl, inr}
use mathlib.Core.Bool.{Bool, true, false, not, true≢false}
use mathlib.Core.List.{List, [], ◌∷◌, ◌++◌}
use Prim.Native.Nat.{ℕ, zero, suc, ◌+◌, ◌-◌, ◌*◌, ◌/◌, ◌%◌, ◌≤◌, ◌<◌}
use native.Mathlib.Omega.{arith}
use lib.Dec.{eqb, ltb}
use lib.ListN.{length, get_or, replicate}
use borrow.Author.Tests.{eqb-true, eqb-false, not-false, eq-eqb, ne_eqb, lt-ltb, le-ltb}
use Rattle.recording.specs.Tests.{◌and◌, ◌or◌, pick, any_of, keep}
use Rattle.recording.specs.Answers.{answered, refuse_if}
use Rattle.recording.specs.Words.{activities, rest, minutes_of}
use Rattle.recording.specs.Operations.{total_at_most, measured}
use Rattle.recording.specs.declared.Measure.{Measure}
use Rattle.recording.proofs.TestLaws.{and_both, or_left, or_right, less_or_not}
use Rattle.recording.proofs.WordLaws.{Coded, no_minute, minute, minutes_in_law, activity_in_law, coded_minutes}
use Rattle.recording.proofs.Listing.{measured_is}
use Rattle.card_reader.specs.Form.{activity_place, out_place, byte_values, bytes_of, day_minutes, OfTheForm, minutes_of_days}
use Rattle.card_reader.specs.Reading.{changes_in, change_minute, change_activity, is_unknown, begins_day, follows, all_follow, in_order, is_day_record, end_before, words_of, card_read}
use Rattle.card.specs.Writing.{change_of, is_written, change_if, next_minute, changes_from, changes_of, record_of_minutes, is_whole_days, card_written}
use Rattle.card_reader.proofs.Judging.{end_none, words_count}
use Rattle.card_reader.proofs.FormLaws.{Bytes, none, next, changes_of_bytes, bytes_even, read_is_form}
use Rattle.card_reader.proofs.MinuteLaws.{no_words, record_minutes}

-- ---- a written change
change_minute_law : (a m : ℕ) → m < day_minutes → change_minute (change_of a m) ≡ m
unfolding change_of
change_minute_law a m h = omega arith

change_activity_law : (a m : ℕ) → m < day_minutes → a < activities → change_activity (change_of a m) ≡ a
unfolding change_of
change_activity_law a m h l = omega arith

change_fits : (a m : ℕ) → m < day_minutes → a < activities → change_of a m < byte_values * byte_values
unfolding change_of
change_fits a m h l = omega arith

change_known : (a m : ℕ) → m < day_minutes → a < activities → is_unknown (change_of a m) ≡ false
unfolding change_of is_unknown ◌and◌
change_known a m h l = let e : (activity_place * a + m) / out_place % 2 ≡ 0 = omega arith in rw e

-- At each minute a change is written, or none: then it is past minute 0 and the activity is the one before.
data Step (m b a : ℕ) (ms : List ℕ) : Type 0 where
  there : is_written m b a ≡ true → changes_from m b (a ∷ ms) ≡ change_of a m ∷ changes_from (next_minute m) a ms → Step m b a ms
  same : is_written m b a ≡ false → 0 < m → a ≡ b → changes_from m b (a ∷ ms) ≡ changes_from (next_minute m) a ms → Step m b a ms

not_written : (m b a : ℕ) → is_written m b a ≡ false → (0 < m) × (a ≡ b)
unfolding is_written ◌or◌
not_written m b a e = go (eqb m 0) refl e
  where
    go : (t : Bool) → eqb m 0 ≡ t → t or not (eqb a b) ≡ false → (0 < m) × (a ≡ b)
    go true p q = absurd (true≢false q)
    go false p q = let n : m ≡ 0 → ⊥ = eqb-false m 0 p in (omega arith, eqb-true a b (not-false (eqb a b) q))

step : (m b a : ℕ) (ms : List ℕ) → Step m b a ms
unfolding changes_from change_if
step m b a ms = go (is_written m b a) refl
  where
    go : (t : Bool) → is_written m b a ≡ t → Step m b a ms
    go true e = there e (rw e)
    go false e = let k = not_written m b a e in same e k.0 k.1 (rw e)

-- the minute after one is minute 0, or the next of the day
next_within : (m : ℕ) → next_minute m < day_minutes
next_within m = omega arith

next_after : (p m : ℕ) → m < day_minutes → p ≤ m → (next_minute m ≡ 0) ⊎ (p < next_minute m)
next_after p m h l = go (less_or_not (suc m) day_minutes)
  where
    go : (suc m < day_minutes) ⊎ (day_minutes ≤ suc m) → (next_minute m ≡ 0) ⊎ (p < next_minute m)
    go (inl k) = inr (omega arith)
    go (inr k) = inl (omega arith)

-- ---- what is written is in order, known, and of bytes
may_follow : (p m : ℕ) → m < day_minutes → (m ≡ 0) ⊎ (p < m) → follows p m ≡ true
unfolding follows
may_follow p m h (inl e) = or_left _ _ (eq-eqb m 0 e)
may_follow p m h (inr l) = or_right _ _ (and_both _ _ (lt-ltb m day_minutes h) (lt-ltb p m l))

follow_none : (p m b : ℕ) → all_follow p (changes_from m b []) ≡ true
unfolding all_follow changes_from
follow_none p m b = refl

follow_one : (p m a : ℕ) (cs : List ℕ) → m < day_minutes → (m ≡ 0) ⊎ (p < m) → all_follow m cs ≡ true → all_follow p (change_of a m ∷ cs) ≡ true
unfolding all_follow
follow_one p m a cs h l e = rw (change_minute_law a m h) (and_both _ _ (may_follow p m h l) e)

written_follow : (p m b : ℕ) (ms : List ℕ) → m < day_minutes → (m ≡ 0) ⊎ (p < m) → all_follow p (changes_from m b ms) ≡ true
written_follow p m b [] h l = follow_none p m b
written_follow p m b (a ∷ ms) h l = go (step m b a ms) l (λ q k. written_follow q (next_minute m) a ms (next_within m) k)
  where
    go : Step m b a ms → (m ≡ 0) ⊎ (p < m) → ((q : ℕ) → (next_minute m ≡ 0) ⊎ (q < next_minute m) → all_follow q (changes_from (next_minute m) a ms) ≡ true)
        → all_follow p (changes_from m b (a ∷ ms)) ≡ true
    go (there e q) l ih = rw q (follow_one p m a (changes_from (next_minute m) a ms) h l (ih m (next_after m m h (omega arith))))
    go (same e k s q) (inl z) ih = absurd (omega arith)
    go (same e k s q) (inr l) ih = rw q (ih p (next_after p m h (omega arith)))

first_change : (a : ℕ) (ms : List ℕ) → changes_of (a ∷ ms) ≡ change_of a 0 ∷ changes_from 1 a ms
unfolding changes_from change_if is_written ◌or◌
first_change a ms = refl

written_order : (ms : List ℕ) → in_order (changes_of ms) ≡ true
unfolding in_order changes_from
written_order [] = refl
written_order (a ∷ ms) = rw (first_change a ms, change_minute_law a 0 (omega arith)) (and_both _ _ refl (written_follow 0 1 a ms (omega arith) (inr (omega arith))))

pub written_is_record : (ms : List ℕ) → is_day_record (record_of_minutes ms) ≡ true
unfolding is_day_record
written_is_record ms = and_both _ _ (bytes_even (changes_of ms)) (rw changes_of_bytes (written_order ms))

none_known : (m b : ℕ) → any_of is_unknown (changes_from m b []) ≡ false
unfolding any_of changes_from
none_known m b = refl

one_known : (m a : ℕ) (cs : List ℕ) → m < day_minutes → a < activities → any_of is_unknown cs ≡ false → any_of is_unknown (change_of a m ∷ cs) ≡ false
unfolding any_of ◌or◌
one_known m a cs h k e = rw (change_known a m h k) e

known_from : (m b : ℕ) {ms : List ℕ} → Coded ms → m < day_minutes → any_of is_unknown (changes_from m b ms) ≡ false
known_from m b no_minute h = none_known m b
known_from m b (minute {a = a} {ms = ms} k c) h = go (step m b a ms) (known_from (next_minute m) a c (next_within m))
  where
    go : Step m b a ms → any_of is_unknown (changes_from (next_minute m) a ms) ≡ false → any_of is_unknown (changes_from m b (a ∷ ms)) ≡ false
    go (there e q) ih = rw q (one_known m a (changes_from (next_minute m) a ms) h k ih)
    go (same e l s q) ih = rw q ih

pub changes_known : {ms : List ℕ} → Coded ms → any_of is_unknown (changes_of ms) ≡ false
changes_known c = known_from 0 rest c (omega arith)

pub written_known : {ms : List ℕ} → Coded ms → any_of is_unknown (changes_in (record_of_minutes ms)) ≡ false
written_known c = rw changes_of_bytes (changes_known c)

no_bytes : (m b : ℕ) → Bytes (bytes_of (changes_from m b []))
unfolding bytes_of changes_from
no_bytes m b = none

two_bytes : (m a : ℕ) (cs : List ℕ) → m < day_minutes → a < activities → Bytes (bytes_of cs) → Bytes (bytes_of (change_of a m ∷ cs))
unfolding bytes_of
two_bytes m a cs h k b =
    let f : change_of a m < byte_values * byte_values = change_fits a m h k in
    next {b = change_of a m / byte_values} (omega arith) (next {b = change_of a m % byte_values} (omega arith) b)

bytes_from : (m b : ℕ) {ms : List ℕ} → Coded ms → m < day_minutes → Bytes (bytes_of (changes_from m b ms))
bytes_from m b no_minute h = no_bytes m b
bytes_from m b (minute {a = a} {ms = ms} k c) h = go (step m b a ms) (bytes_from (next_minute m) a c (next_within m))
  where
    go : Step m b a ms → Bytes (bytes_of (changes_from (next_minute m) a ms)) → Bytes (bytes_of (changes_from m b (a ∷ ms)))
    go (there e q) ih = rw q (two_bytes m a (changes_from (next_minute m) a ms) h k ih)
    go (same e l s q) ih = rw q ih

pub written_form : {ms : List ℕ} → Coded ms → OfTheForm (record_of_minutes ms)
written_form {ms} c = read_is_form (bytes_from 0 rest c (omega arith)) (written_is_record ms)

-- ---- the minutes of what is written
one_word : (m b e : ℕ) (cs : List ℕ) → m < day_minutes → b < activities → end_before cs ≡ e
    → minutes_of (words_of (change_of b m ∷ cs)) ≡ replicate (e - m) b ++ minutes_of (words_of cs)
unfolding minutes_of words_of
one_word m b e cs h l q = rw (q, change_minute_law b m h, change_activity_law b m h l, minutes_in_law (e - m) b l, activity_in_law (e - m) b l)

-- a change at minute 0 or later in the day ends what came before at the minute reached
end_reached : (r a : ℕ) (cs : List ℕ) → 0 < r → r ≤ day_minutes → end_before (change_of a (r % day_minutes) ∷ cs) ≡ r
unfolding end_before
end_reached r a cs h l = rw (change_minute_law a (r % day_minutes) (omega arith)) (go (less_or_not r day_minutes))
  where
    go : (r < day_minutes) ⊎ (day_minutes ≤ r) → pick (eqb (r % day_minutes) 0) day_minutes (r % day_minutes) ≡ r
    go (inl k) = let e : r % day_minutes ≡ r = omega arith in rw (e, ne_eqb r 0 (λ z. omega arith))
    go (inr k) = let e : r ≡ day_minutes = omega arith in rw e

longer : (n b : ℕ) (ms : List ℕ) → replicate (suc n) b ++ ms ≡ replicate n b ++ b ∷ ms
longer zero b ms = refl
longer (suc n) b ms = ap (λ (l : List ℕ). b ∷ l) (longer n b ms)

module _ (m r b : ℕ) (k : b < activities) (l : m < r) (u : r ≤ day_minutes) where
  minutes_none : (r + 0) % day_minutes ≡ 0 → minutes_of (words_of (change_of b m ∷ changes_from (r % day_minutes) b [])) ≡ replicate (r - m) b ++ []
  unfolding changes_from
  minutes_none e =
      let p : r ≡ day_minutes = omega arith in
      rw p (one_word m b day_minutes [] (omega arith) k end_none ∙ ap (λ (x : List ℕ). replicate (day_minutes - m) b ++ x) no_words)

-- a change at minute m with its activity up to minute r, after which ms come to the end of a day
pub minutes_from : (m r b : ℕ) {ms : List ℕ} → Coded ms → b < activities → m < r → r ≤ day_minutes → (r + length ms) % day_minutes ≡ 0
    → minutes_of (words_of (change_of b m ∷ changes_from (r % day_minutes) b ms)) ≡ replicate (r - m) b ++ ms
minutes_from m r b no_minute k l u e = minutes_none m r b k l u e
minutes_from m r b (minute {a = a} {ms = ms} h c) k l u e = go (step (r % day_minutes) b a ms) (λ i j d. minutes_from i j d c)
  where
    go : Step (r % day_minutes) b a ms
        → ((i j d : ℕ) → d < activities → i < j → j ≤ day_minutes → (j + length ms) % day_minutes ≡ 0
        → minutes_of (words_of (change_of d i ∷ changes_from (j % day_minutes) d ms)) ≡ replicate (j - i) d ++ ms)
        → minutes_of (words_of (change_of b m ∷ changes_from (r % day_minutes) b (a ∷ ms))) ≡ replicate (r - m) b ++ a ∷ ms
    go (there w q) ih =
        let cs = changes_from (next_minute (r % day_minutes)) a ms in
        let o : suc (r % day_minutes) - r % day_minutes ≡ 1 = omega arith in
        let i = ih (r % day_minutes) (suc (r % day_minutes)) a h (omega arith) (omega arith) (omega arith) in
        rw q
        (one_word m b r (change_of a (r % day_minutes) ∷ cs) (omega arith) k (end_reached r a cs (omega arith) u)
        ∙ ap (λ (x : List ℕ). replicate (r - m) b ++ x) (i ∙ ap (λ (n : ℕ). replicate n a ++ ms) o))
    go (same w p s q) ih =
        let n : next_minute (r % day_minutes) ≡ suc r % day_minutes = omega arith in
        let o : suc r - m ≡ suc (r - m) = omega arith in
        rw (q, s, n) (ih m (suc r) b k (omega arith) (omega arith) (omega arith) ∙ ap (λ (x : ℕ). replicate x b ++ ms) o ∙ longer (r - m) b ms)

no_minutes : minutes_of (words_of (changes_of [])) ≡ []
unfolding changes_from
no_minutes = no_words

pub changes_minutes : {ms : List ℕ} → Coded ms → is_whole_days ms ≡ true → minutes_of (words_of (changes_of ms)) ≡ ms
unfolding is_whole_days
changes_minutes no_minute e = no_minutes
changes_minutes (minute {a = a} {ms = ms} h c) e =
    let z : suc (length ms) % day_minutes ≡ 0 = eqb-true _ _ e in
    rw (first_change a ms) (minutes_from 0 1 a c h (omega arith) (omega arith) (omega arith))

pub written_minutes : {ms : List ℕ} → Coded ms → is_whole_days ms ≡ true → minutes_of (words_of (changes_in (record_of_minutes ms))) ≡ ms
written_minutes c e = rw changes_of_bytes (changes_minutes c e)

-- ---- a recording that is measured and has whole days
module _ (words : List ℕ) {m : Measure} (e : measured words ≡ answered m) where
  module _ (w : is_whole_days (minutes_of words) ≡ true) where
    -- What was written is never turned away by 11, 12 or 2: it reads as words of the same minutes, one a change, unless words are lacking.
    pub record ReadAgain (room : ℕ) : Type 0 where
      pub words' : List ℕ
      pub minutes : minutes_of words' ≡ minutes_of words
      pub answer : card_read (record_of_minutes (minutes_of words)) room ≡ refuse_if (ltb room (length (changes_of (minutes_of words)))) 9 (answered words')

    pub never_turned_away : (room : ℕ) → ReadAgain room
    unfolding card_read
    never_turned_away room =
        let ms = minutes_of words in
        let c : Coded ms = coded_minutes words in
        let i : minutes_of (words_of (changes_of ms)) ≡ ms = changes_minutes c w in
        record {
          words' = words_of (changes_of ms);
          minutes = i;
          answer = rw (changes_of_bytes, written_is_record ms, changes_known c, i, le-ltb total_at_most (length ms) (measured_is words e).within, words_count (changes_of ms));
        }

    pub record ReadBack (room : ℕ) : Type 0 where
      pub words' : List ℕ
      pub read : card_read (record_of_minutes (minutes_of words)) room ≡ answered words'
      pub minutes : minutes_of words' ≡ minutes_of words

    pub read_back : (room : ℕ) → length (changes_of (minutes_of words)) ≤ room → ReadBack room
    read_back room h =
        let a = never_turned_away room in
        record { words' = a.words'; read = a.answer ∙ rw (le-ltb room (length (changes_of (minutes_of words))) h); minutes = a.minutes }

  -- the record depends on the minutes alone
  pub minutes_alone : (others : List ℕ) {k : Measure} → measured others ≡ answered k → minutes_of words ≡ minutes_of others → (room : ℕ)
      → card_written words room ≡ card_written others room
  unfolding card_written
  minutes_alone others f p room = rw (e, f, p)

-- ---- changes only where the minutes change
-- the minutes, counted from the recording's start, at which changes stand, after one in the day that began at `start`: minute 0 begins the next day
unfoldable pub places_from : ℕ → List ℕ → List ℕ
places_from start [] = []
places_from start (c ∷ cs) = pick (begins_day c) ((start + day_minutes) ∷ places_from (start + day_minutes) cs) ((start + change_minute c) ∷ places_from start cs)

-- the first change's day begins at 0
unfoldable pub places_of : List ℕ → List ℕ
places_of [] = []
places_of (c ∷ cs) = change_minute c ∷ places_from 0 cs

-- where a day begins, or the activity is another than the minute before
unfoldable pub changing : List ℕ → ℕ → Bool
changing ms t = eqb (t % day_minutes) 0 or not (eqb (get_or ms t 0) (get_or ms (t - 1) 0))

unfoldable pub count_from : ℕ → ℕ → List ℕ
count_from t zero = []
count_from t (suc n) = t ∷ count_from (suc t) n

-- 0, 1, .. up to n, without n
abbrev pub up_to : ℕ → List ℕ
up_to n = count_from 0 n

-- minute t is in the day that began at `start`, or begins the next one
record Within (start t : ℕ) : Type 0 where
  whole : start % day_minutes ≡ 0
  after : start < t
  until : t ≤ start + day_minutes

-- one change: where it stands, and the day after it
record Placed (start t : ℕ) (c : ℕ) (cs : List ℕ) : Type 0 where
  start' : ℕ
  within : Within start' (suc t)
  places : places_from start (c ∷ cs) ≡ t ∷ places_from start' cs

placed : (start t a : ℕ) (cs : List ℕ) → Within start t → Placed start t (change_of a (t % day_minutes)) cs
unfolding places_from
placed start t a cs w = go (less_or_not t (start + day_minutes))
  where
    go : (t < start + day_minutes) ⊎ (start + day_minutes ≤ t) → Placed start t (change_of a (t % day_minutes)) cs
    go (inl l) =
        let z : start % day_minutes ≡ 0 = w.whole in
        let k : start < t = w.after in
        let n : t % day_minutes ≡ t - start = omega arith in
        let s : start + (t - start) ≡ t = omega arith in
        record {
          start' = start;
          within = record { whole = z; after = omega arith; until = omega arith };
          places = rw (change_minute_law a (t % day_minutes) (omega arith), n, ne_eqb (t - start) 0 (λ q. omega arith), s);
        }
    go (inr l) =
        let z : start % day_minutes ≡ 0 = w.whole in
        let k : t ≤ start + day_minutes = w.until in
        let s : start + day_minutes ≡ t = omega arith in
        let n : t % day_minutes ≡ 0 = omega arith in
        record {
          start' = t;
          within = record { whole = n; after = omega arith; until = omega arith };
          places = rw (change_minute_law a (t % day_minutes) (omega arith), n, s);
        }

module _ (all : List ℕ) where
  -- the minutes kept from t on, one at a time
  kept_none : (start t b r : ℕ) → places_from start (changes_from r b []) ≡ keep (changing all) (count_from t 0)
  unfolding places_from changes_from keep count_from
  kept_none start t b r = refl

  kept_one : (t n : ℕ) → changing all t ≡ true → keep (changing all) (count_from t (suc n)) ≡ t ∷ keep (changing all) (count_from (suc t) n)
  unfolding keep count_from
  kept_one t n e = rw e

  kept_less : (t n : ℕ) → changing all t ≡ false → keep (changing all) (count_from t (suc n)) ≡ keep (changing all) (count_from (suc t) n)
  unfolding keep count_from
  kept_less t n e = rw e

  changing_is : (t b a : ℕ) → get_or all t 0 ≡ a → get_or all (t - 1) 0 ≡ b → changing all t ≡ is_written (t % day_minutes) b a
  unfolding changing is_written
  changing_is t b a e f = rw (e, f)

  places_from_law : (start t b : ℕ) (ms : List ℕ) → Within start t → get_or all (t - 1) 0 ≡ b → ((i : ℕ) → get_or all (t + i) 0 ≡ get_or ms i 0)
      → places_from start (changes_from (t % day_minutes) b ms) ≡ keep (changing all) (count_from t (length ms))
  places_from_law start t b [] w e h = kept_none start t b (t % day_minutes)
  places_from_law start t b (a ∷ ms) w e h =
      let z : t + 0 ≡ t = omega arith in
      let g : get_or all t 0 ≡ a = ap (λ (k : ℕ). get_or all k 0) (sym z) ∙ h 0 in
      let y : suc t - 1 ≡ t = omega arith in
      let f : get_or all (suc t - 1) 0 ≡ a = ap (λ (k : ℕ). get_or all k 0) y ∙ g in
      let n : next_minute (t % day_minutes) ≡ suc t % day_minutes = omega arith in
      go (step (t % day_minutes) b a ms) (changing_is t b a g e) (λ s v. rw n (places_from_law s (suc t) a ms v f (λ i. later i ∙ h (suc i))))
    where
      later : (i : ℕ) → get_or all (suc t + i) 0 ≡ get_or all (t + suc i) 0
      later i = let z : suc t + i ≡ t + suc i = omega arith in ap (λ (k : ℕ). get_or all k 0) z

      go : Step (t % day_minutes) b a ms → changing all t ≡ is_written (t % day_minutes) b a
          → ((s : ℕ) → Within s (suc t) → places_from s (changes_from (next_minute (t % day_minutes)) a ms) ≡ keep (changing all) (count_from (suc t) (length ms)))
          → places_from start (changes_from (t % day_minutes) b (a ∷ ms)) ≡ keep (changing all) (count_from t (suc (length ms)))
      go (there p q) c ih =
          let o = placed start t a (changes_from (next_minute (t % day_minutes)) a ms) w in
          rw q (o.places ∙ ap (λ (l : List ℕ). t ∷ l) (ih o.start' o.within) ∙ sym (kept_one t (length ms) (c ∙ p)))
      go (same p l s q) c ih =
          let x : start % day_minutes ≡ 0 = w.whole in
          let y : start < t = w.after in
          let k : t ≤ start + day_minutes = w.until in
          rw q (ih start (record { whole = x; after = omega arith; until = omega arith }) ∙ sym (kept_less t (length ms) (c ∙ p)))

nothing_written : places_of (changes_of []) ≡ keep (changing []) (up_to 0)
unfolding places_of changes_from keep count_from
nothing_written = refl

begins : (ms : List ℕ) → changing ms 0 ≡ true
unfolding changing
begins ms = or_left _ _ refl

pub written_where : (ms : List ℕ) → places_of (changes_of ms) ≡ keep (changing ms) (up_to (length ms))
unfolding places_of
written_where [] = nothing_written
written_where (a ∷ ms) =
    rw (first_change a ms, change_minute_law a 0 (omega arith))
    (ap (λ (l : List ℕ). 0 ∷ l)
    (places_from_law (a ∷ ms) 0 1 a ms (record { whole = refl; after = omega arith; until = omega arith }) refl (λ i. one_later i))
    ∙ sym (kept_one (a ∷ ms) 0 (length ms) (begins (a ∷ ms))))
  where
    one_later : (i : ℕ) → get_or (a ∷ ms) (1 + i) 0 ≡ get_or ms i 0
    one_later i = let z : 1 + i ≡ suc i = omega arith in ap (λ (k : ℕ). get_or (a ∷ ms) k 0) z

-- a record that is read and written again has a change only where its minutes change
pub read_and_written : {bytes : List ℕ} (f : OfTheForm bytes)
    → places_of (changes_of (minutes_of (words_of (changes_in bytes)))) ≡ keep (changing (minutes_of_days f.days)) (up_to (length (minutes_of_days f.days)))
read_and_written f = rw (record_minutes f) (written_where (minutes_of_days f.days))
