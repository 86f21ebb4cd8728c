-- The words that reading gives have the minutes that the record says, minute by minute. Assumes nothing.
use mathlib.Core.Path.{◌≡◌, refl, sym, ap, ap₂, ◌∙◌}
use mathlib.Core.List.{List, [], ◌∷◌, ◌++◌, append_assoc}
use Prim.Native.Nat.{ℕ, zero, suc, ◌+◌, ◌-◌, ◌*◌, ◌≤◌, ◌<◌}
use native.Mathlib.Omega.{arith}
use lib.ListN.{length, get_or, replicate, length-append, get_or-append}
use lib.Seq.{get_or-append-add}
use borrow.Author.Tests.{le-leb, lt-leb, ne_eqb}
use Rattle.recording.specs.Words.{activities, word_of, minutes_of}
use Rattle.recording.proofs.WordLaws.{minutes_in_law, activity_in_law}
use Rattle.card_reader.specs.Form.{Change, number_of, day_minutes, Rising, day, Days, numbers_then, numbers_of_days, bytes_of_days, OfTheForm, latest, activities_from, minutes_of_day, minutes_of_days}
use Rattle.card_reader.specs.Form as form
use Rattle.card_reader.specs.Reading.{changes_in, end_before, words_of}
use Rattle.card_reader.proofs.FormLaws.{changes_of_bytes, minute_read, activity_read}

-- ---- the latest change
-- from a change on, the activity before it is not looked at
activities_after : (x t n : ℕ) (c : Change) (cs : List Change) → c.minute ≤ t → activities_from x t n (c ∷ cs) ≡ activities_from c.activity t n cs
unfolding activities_from latest
activities_after x t zero c cs h = refl
activities_after x t (suc n) c cs h = rw (le-leb _ _ h) (ap (λ (l : List ℕ). latest c.activity t cs ∷ l) (activities_after x (suc t) n c cs (omega arith)))

-- changes that come later do not count yet
latest_before : (a t : ℕ) {m : ℕ} {cs : List Change} → Rising m cs → t ≤ m → latest a t cs ≡ a
unfolding latest
latest_before a t form.none h = refl
latest_before a t (form.next {c = c} l k e r) h = rw (lt-leb c.minute t (omega arith)) (latest_before a t r (omega arith))

-- with no change to come, and up to the next change
activities_last : (a t n : ℕ) → activities_from a t n [] ≡ replicate n a
unfolding activities_from latest
activities_last a t zero = refl
activities_last a t (suc n) = ap (λ (l : List ℕ). a ∷ l) (activities_last a (suc t) n)

module _ (a : ℕ) (c : Change) {cs : List Change} (r : Rising c.minute cs) where
  latest_still : (t : ℕ) → t < c.minute → latest a t (c ∷ cs) ≡ a
  unfolding latest
  latest_still t h = rw (lt-leb c.minute t h) (latest_before a t r (omega arith))

  activities_until : (k t n j : ℕ) → j ≡ k + n → t + k ≡ c.minute → activities_from a t j (c ∷ cs) ≡ replicate k a ++ activities_from a c.minute n (c ∷ cs)
  unfolding activities_from
  activities_until zero t n j e f = let p : j ≡ n = omega arith in let q : t ≡ c.minute = omega arith in rw (p, q)
  activities_until (suc k) t n zero e f = absurd (omega arith)
  activities_until (suc k) t n (suc j) e f =
      ap₂ (λ (x : ℕ) (l : List ℕ). x ∷ l) (latest_still t (omega arith)) (activities_until k (suc t) n j (omega arith) (omega arith))

-- ---- the words of a day
-- what comes after a day begins another or is nothing
abbrev pub Later : List ℕ → Type 0
Later later = end_before later ≡ day_minutes

first_word : (n a : ℕ) (ws : List ℕ) → a < activities → minutes_of (word_of n a ∷ ws) ≡ replicate n a ++ minutes_of ws
unfolding minutes_of
first_word n a ws h = rw (minutes_in_law n a h, activity_in_law n a h)

end_before_change : (c : Change) (later : List ℕ) → c.minute < day_minutes → 0 < c.minute → end_before (number_of c ∷ later) ≡ c.minute
unfolding end_before
end_before_change c later h l = rw (minute_read c (omega arith), ne_eqb c.minute 0 (λ e. omega arith))

rising_minutes : (x : ℕ) (c : Change) {cs : List Change} (later : List ℕ) → c.minute < day_minutes → c.activity < activities → Rising c.minute cs → Later later
    → minutes_of (words_of (number_of c ∷ numbers_then cs later)) ≡ activities_from x c.minute (day_minutes - c.minute) (c ∷ cs) ++ minutes_of (words_of later)
unfolding words_of numbers_then
rising_minutes x c later l h form.none e =
    rw (minute_read c (omega arith), activity_read c (omega arith) h, e)
    (first_word (day_minutes - c.minute) c.activity (words_of later) h
    ∙ ap (λ (k : List ℕ). k ++ minutes_of (words_of later))
    (sym (activities_after x c.minute (day_minutes - c.minute) c [] (omega arith) ∙ activities_last c.activity c.minute (day_minutes - c.minute))))
rising_minutes x c later l h (form.next {c = d} {cs = cs} u v w r) e =
    rw (minute_read c (omega arith), activity_read c (omega arith) h, end_before_change d (numbers_then cs later) v (omega arith))
    (first_word (d.minute - c.minute) c.activity (words_of (number_of d ∷ numbers_then cs later)) h
    ∙ ap (λ (k : List ℕ). replicate (d.minute - c.minute) c.activity ++ k) (rising_minutes c.activity d later v w r e)
    ∙ sym (append_assoc (replicate (d.minute - c.minute) c.activity) (activities_from c.activity d.minute (day_minutes - d.minute) (d ∷ cs)) (minutes_of (words_of later)))
    ∙ ap (λ (k : List ℕ). k ++ minutes_of (words_of later))
    (sym (activities_after x c.minute (day_minutes - c.minute) c (d ∷ cs) (omega arith)
    ∙ activities_until c.activity d r (d.minute - c.minute) c.minute (day_minutes - d.minute) (day_minutes - c.minute) (omega arith) (omega arith))))

-- ---- the words of the days
days_later : {ds : List (List Change)} → Days ds → Later (numbers_of_days ds)
unfolding end_before numbers_of_days numbers_then
days_later form.none = refl
days_later (form.next (day {c = c} z h r) l) = rw (minute_read c (omega arith), z)

pub no_words : minutes_of (words_of []) ≡ []
unfolding minutes_of words_of
no_words = refl

numbers_minutes : {ds : List (List Change)} → Days ds → minutes_of (words_of (numbers_of_days ds)) ≡ minutes_of_days ds
unfolding numbers_of_days numbers_then minutes_of_days
numbers_minutes form.none = no_words
numbers_minutes (form.next {ds = ds} (day {c = c} {cs = cs} z h r) l) =
    rising_minutes 0 c (numbers_of_days ds) (omega arith) h (rw z r) (days_later l)
    ∙ ap₂ (λ (x y : List ℕ). x ++ y) (ap₂ (λ (t n : ℕ). activities_from 0 t n (c ∷ cs)) z (ap (λ (t : ℕ). day_minutes - t) z)) (numbers_minutes l)

pub minutes_read : {ds : List (List Change)} → Days ds → minutes_of (words_of (changes_in (bytes_of_days ds))) ≡ minutes_of_days ds
minutes_read {ds} l = ap (λ (cs : List ℕ). minutes_of (words_of cs)) (changes_of_bytes (numbers_of_days ds)) ∙ numbers_minutes l

pub record_minutes : {bytes : List ℕ} (f : OfTheForm bytes) → minutes_of (words_of (changes_in bytes)) ≡ minutes_of_days f.days
record_minutes f = ap (λ (bytes : List ℕ). minutes_of (words_of (changes_in bytes))) f.bytes_are ∙ minutes_read f.allowed

-- ---- minute by minute
activities_length : (a t n : ℕ) (cs : List Change) → length (activities_from a t n cs) ≡ n
unfolding activities_from
activities_length a t zero cs = refl
activities_length a t (suc n) cs = ap suc (activities_length a (suc t) n cs)

activities_at : (a t n i : ℕ) (cs : List Change) → i < n → get_or (activities_from a t n cs) i 0 ≡ latest a (t + i) cs
unfolding activities_from
activities_at a t zero i cs h = absurd (omega arith)
activities_at a t (suc n) zero cs h = ap (λ (k : ℕ). latest a k cs) (omega arith)
activities_at a t (suc n) (suc i) cs h =
    let e : suc t + i ≡ t + suc i = omega arith in
    activities_at a (suc t) n i cs (omega arith) ∙ ap (λ (k : ℕ). latest a k cs) e

-- a day has its minutes
pub days_length : (ds : List (List Change)) → length (minutes_of_days ds) ≡ day_minutes * length ds
unfolding minutes_of_days
days_length [] = refl
days_length (d ∷ ds) =
    let h : length (minutes_of_day d) ≡ day_minutes = activities_length 0 0 day_minutes d in
    let i : length (minutes_of_days ds) ≡ day_minutes * length ds = days_length ds in
    rw length-append (omega arith)

-- minute t of day d is the latest change at or before it
pub day_minute : (ds : List (List Change)) (d t : ℕ) → d < length ds → t < day_minutes → get_or (minutes_of_days ds) (day_minutes * d + t) 0 ≡ latest 0 t (get_or ds d [])
unfolding minutes_of_days
day_minute [] d t h l = absurd (omega arith)
day_minute (c ∷ ds) zero t h l =
    let n : length (minutes_of_day c) ≡ day_minutes = activities_length 0 0 day_minutes c in
    let e : day_minutes * 0 + t ≡ t = omega arith in
    let f : 0 + t ≡ t = omega arith in
    rw (e, get_or-append (minutes_of_day c) (minutes_of_days ds) 0 t (omega arith), activities_at 0 0 day_minutes t c l, f)
day_minute (c ∷ ds) (suc d) t h l =
    let n : length (minutes_of_day c) ≡ day_minutes = activities_length 0 0 day_minutes c in
    let e : day_minutes * suc d + t ≡ length (minutes_of_day c) + (day_minutes * d + t) = omega arith in
    rw (e, get_or-append-add (minutes_of_day c) (minutes_of_days ds) (day_minutes * d + t) 0) (day_minute ds d t (omega arith) l)
