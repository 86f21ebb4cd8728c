-- Writing: runs and parts of runs, what the first pass counts, and what the second one puts. Assumes nothing.
use mathlib.Core.Path.{◌≡◌, refl, sym, ap, ◌∙◌}
use mathlib.Core.Logic.{◌⊎◌, inl, inr}
use mathlib.Core.Bool.{Bool, true, false, not}
use mathlib.Core.List.{List, [], ◌∷◌, ◌++◌, append_assoc}
use Prim.Native.Nat.{ℕ, zero, suc, ◌+◌, ◌-◌, ◌*◌, ◌/◌, ◌%◌, ◌≤◌, ◌<◌, min}
use native.Mathlib.Numerals.{add-one}
use native.Mathlib.Omega.{arith}
use lib.Dec.{eqb, leb, ltb}
use lib.ListN.{length, drop, get_or, set, replicate, length-append, length-set, length-replicate, replicate-append-replicate}
use lib.Seq.{drop-cons, drop-length, sets, length-sets}
use borrow.Author.Tests.{eq-eqb, ne_eqb, lt-ltb, le-ltb, leb-true, leb-false}
use Rattle.recording.specs.Tests.{◌or◌, pick, one}
use Rattle.recording.specs.Answers.{Answer, refused, answered, and_then, refuse_if, counted, filled}
use Rattle.recording.specs.Words.{code_of, IsRunOf, minutes_in, activity_in, minutes_of}
use Rattle.recording.specs.Operations.{total_at_most, fault_of, unless_fault, total_from, measure_of, measured}
use Rattle.recording.proofs.TestLaws.{less_or_not, one_most}
use Rattle.recording.proofs.WordLaws.{NoFault, no_fault, total_after_on, total_after_fault, total_done}
use Rattle.recording.specs.declared.Measure.{Measure}
use Rattle.recording.specs.declared.Run.{Run}
use Rattle.recording.proofs.Listing.{measured_is}
use Rattle.recording.proofs.Slices.{sets_append, put_in_front}
use Rattle.card_reader.specs.Form.{byte_values, day_minutes, bytes_of}
use Rattle.card.specs.Writing.{change_of, is_written, change_if, changes_from, changes_of, record_of_minutes, is_whole_days, card_written}
use Rattle.card.specs.Sizes.{changes_in_run, changes_counted}
use Rattle.card_reader.proofs.FormLaws.{bytes_length}

-- ---- a part of a run that its day can take has one change or none
no_turn : (m a : ℕ) → (m ≡ 0 → ⊥) → is_written m a a ≡ false
unfolding is_written ◌or◌
no_turn m a n = rw (ne_eqb m 0 n, eq-eqb a a refl)

no_change : (m a : ℕ) → (m ≡ 0 → ⊥) → change_if m a a ≡ []
unfolding change_if
no_change m a n = rw (no_turn m a n)

pub part_changes : (m before a k : ℕ) (ms : List ℕ) → 1 ≤ k → m + k ≤ day_minutes
    → changes_from m before (replicate k a ++ ms) ≡ change_if m before a ++ changes_from ((m + k) % day_minutes) a ms
unfolding changes_from
part_changes m before a zero ms h l = absurd (omega arith)
part_changes m before a (suc zero) ms h l = ap (λ (n : ℕ). change_if m before a ++ changes_from (n % day_minutes) a ms) (omega arith)
part_changes m before a (suc (suc k)) ms h l =
    let p : suc m % day_minutes ≡ suc m = omega arith in
    let q : suc m + suc k ≡ m + suc (suc k) = omega arith in
    ap (λ (l : List ℕ). change_if m before a ++ l)
    (ap (λ (n : ℕ). changes_from n a (replicate (suc k) a ++ ms)) p
    ∙ part_changes (suc m) a a (suc k) ms (omega arith) (omega arith)
    ∙ ap (λ (l : List ℕ). l ++ changes_from ((suc m + suc k) % day_minutes) a ms) (no_change (suc m) a (omega arith))
    ∙ ap (λ (n : ℕ). changes_from (n % day_minutes) a ms) q)

-- ---- the changes of a run, counted
length_if : (m before a : ℕ) → length (change_if m before a) ≡ one (is_written m before a)
unfolding change_if
length_if m before a = go (is_written m before a)
  where
    go : (b : Bool) → length (pick b (change_of a m ∷ []) []) ≡ one b
    go true = refl
    go false = refl

-- after a minute of the same activity only a midnight is written
same_turn : (m a : ℕ) → one (is_written m a a) ≡ one (eqb m 0)
unfolding is_written ◌or◌
same_turn m a = rw (eq-eqb a a refl) (go (eqb m 0))
  where
    go : (b : Bool) → one (b or false) ≡ one b
    go true = refl
    go false = refl

-- the midnights after minute m, one minute on
midnights : (m k : ℕ) → m < day_minutes → one (eqb (suc m % day_minutes) 0) + (suc m % day_minutes + k) / day_minutes ≡ (m + suc k) / day_minutes
midnights m k h = go (less_or_not (suc m) day_minutes)
  where
    go : (suc m < day_minutes) ⊎ (day_minutes ≤ suc m) → one (eqb (suc m % day_minutes) 0) + (suc m % day_minutes + k) / day_minutes ≡ (m + suc k) / day_minutes
    go (inl l) = let e : suc m % day_minutes ≡ suc m = omega arith in rw (e, ne_eqb (suc m) 0 (omega arith)) (omega arith)
    go (inr l) = let e : suc m % day_minutes ≡ 0 = omega arith in rw e (omega arith)

in_run : (m before a n : ℕ) → changes_in_run m before a (suc n) ≡ one (is_written m before a) + (m + n) / day_minutes
unfolding changes_in_run
in_run m before a n = omega arith

run_changes : (m before a n : ℕ) (ms : List ℕ) → m < day_minutes
    → length (changes_from m before (replicate (suc n) a ++ ms)) ≡ changes_in_run m before a (suc n) + length (changes_from ((m + suc n) % day_minutes) a ms)
unfolding changes_from
run_changes m before a zero ms l =
    let e : suc m % day_minutes ≡ (m + 1) % day_minutes = omega arith in
    let k : length (changes_from (suc m % day_minutes) a ms) ≡ length (changes_from ((m + 1) % day_minutes) a ms) = ap (λ (n : ℕ). length (changes_from n a ms)) e in
    length-append (change_if m before a) (changes_from (suc m % day_minutes) a ms) ∙ omega (arith, length_if m before a, in_run m before a 0, k)
run_changes m before a (suc n) ms l =
    let q : (suc m % day_minutes + suc n) % day_minutes ≡ (m + suc (suc n)) % day_minutes = omega arith in
    let k : length (changes_from ((suc m % day_minutes + suc n) % day_minutes) a ms) ≡ length (changes_from ((m + suc (suc n)) % day_minutes) a ms) =
    ap (λ (n : ℕ). length (changes_from n a ms)) q in
    length-append (change_if m before a) (changes_from (suc m % day_minutes) a (replicate (suc n) a ++ ms))
    ∙ omega (
      arith,
      length_if m before a,
      in_run m before a (suc n),
      in_run (suc m % day_minutes) a a n,
      same_turn (suc m % day_minutes) a,
      midnights m n l,
      run_changes (suc m % day_minutes) a a n ms (omega arith),
      k,
    )

run_counted : (m before a n : ℕ) (ms : List ℕ) → m < day_minutes → 1 ≤ n
    → length (changes_from m before (replicate n a ++ ms)) ≡ changes_in_run m before a n + length (changes_from ((m + n) % day_minutes) a ms)
run_counted m before a zero ms l h = absurd (omega arith)
run_counted m before a (suc n) ms l h = run_changes m before a n ms l

-- the words from a place on: none, or one more
none_left : (words : List ℕ) (i : ℕ) → i ≡ length words → drop i words ≡ []
none_left words i e = rw (e, drop-length)

module _ (words : List ℕ) (i : ℕ) (h : i < length words) where
  next_word : minutes_of (drop i words) ≡ replicate (minutes_in (get_or words i 0)) (activity_in (get_or words i 0)) ++ minutes_of (drop (i + 1) words)
  unfolding minutes_of
  next_word = rw (drop-cons words i 0 h, add-one)

  pub next_length : length (minutes_of (drop i words)) ≡ minutes_in (get_or words i 0) + length (minutes_of (drop (i + 1) words))
  next_length = ap length next_word ∙ rw (length-append, length-replicate)

-- ---- the first pass over the words
pub record Counting (words : List ℕ) (sum before changes i : ℕ) : Type 0 where
  pub place : i ≤ length words
  pub within : sum ≤ total_at_most
  pub same_total : total_from 0 words ≡ total_from sum (drop i words)
  pub minutes : sum + length (minutes_of (drop i words)) ≡ length (minutes_of words)
  pub same_changes : changes + length (changes_from (sum % day_minutes) before (minutes_of (drop i words))) ≡ length (changes_of (minutes_of words))
  pub few : changes ≤ sum

pub start_counting : (words : List ℕ) → Counting words 0 0 0 0
start_counting words = record {
  place = omega arith;
  within = omega arith;
  same_total = refl;
  minutes = omega arith;
  same_changes = let z : 0 % day_minutes ≡ 0 = omega arith in ap (λ (n : ℕ). 0 + length (changes_from n 0 (minutes_of words))) z ∙ omega arith;
  few = omega arith;
}

-- no more changes than minutes
few_in_run : (m before a n : ℕ) → m < day_minutes → 1 ≤ n → changes_in_run m before a n ≤ n
unfolding changes_in_run
few_in_run m before a n h l = omega (arith, one_most (is_written m before a))

module _ {words : List ℕ} {sum before changes i : ℕ} (k : Counting words sum before changes i) where
  module _ (h : i < length words) where
    abbrev word_there : ℕ
    word_there = get_or words i 0

    abbrev minutes_there : ℕ
    minutes_there = minutes_in word_there

    abbrev activity_there : ℕ
    activity_there = activity_in word_there

    pub count_fault : {n : ℕ} → refused n ≡ unless_fault (fault_of sum word_there) (answered (sum + minutes_there)) → refused n ≡ changes_counted words
    unfolding changes_counted measured
    count_fault q = rw (k.same_total ∙ total_after_fault words sum i h (sym q)) refl

    module _ {total : ℕ} {run : Run} (e : answered total ≡ unless_fault (fault_of sum word_there) (answered (sum + minutes_there))) (there : IsRunOf word_there run) where
      none : NoFault sum word_there
      none = (no_fault sum word_there total _ (sym e)).0

      total_is : total ≡ sum + minutes_there
      total_is = sym (ap value (no_fault sum word_there total _ (sym e)).1)
        where
          value : Answer ℕ → ℕ
          value (answered a) = a
          value (refused n) = 0

      pub record Fitting : Type 0 where
        pub some : 1 ≤ run.minutes
        pub most : run.minutes ≤ total_at_most

      pub run_within : Fitting
      run_within = record { some = omega (arith, there.minutes, none.some); most = omega (arith, there.minutes, none.within) }

      module _ {r : ℕ} (q : r ≡ changes_in_run (sum % day_minutes) before (code_of run.activity) run.minutes) where
        changes_there : r ≡ changes_in_run (sum % day_minutes) before activity_there minutes_there
        changes_there = q ∙ rw (there.activity, there.minutes) refl

        pub record Within : Type 0 where
          pub changes_few : changes + r ≤ total
          pub total_few : total ≤ total_at_most

        pub count_within : Within
        count_within = record {
          changes_few = omega (arith, k.few, changes_there, total_is, few_in_run (sum % day_minutes) before activity_there minutes_there (omega arith) none.some);
          total_few = omega (arith, total_is, none.within);
        }

        counted_word : length (changes_from (sum % day_minutes) before (minutes_of (drop i words)))
            ≡ changes_in_run (sum % day_minutes) before activity_there minutes_there
            + length (changes_from (total % day_minutes) activity_there (minutes_of (drop (i + 1) words)))
        counted_word =
            let p : (sum % day_minutes + minutes_there) % day_minutes ≡ total % day_minutes = omega (arith, total_is) in
            ap (λ (l : List ℕ). length (changes_from (sum % day_minutes) before l)) (next_word words i h)
            ∙ run_counted (sum % day_minutes) before activity_there minutes_there (minutes_of (drop (i + 1) words)) (omega arith) none.some
            ∙ ap (λ (n : ℕ). changes_in_run (sum % day_minutes) before activity_there minutes_there + length (changes_from n activity_there (minutes_of (drop (i + 1) words)))) p

        pub count_on : Counting words total (code_of run.activity) (changes + r) (i + 1)
        count_on = record {
          place = omega arith;
          within = count_within.total_few;
          same_total = k.same_total ∙ (total_after_on words sum i h (sym e)).1;
          minutes = omega (arith, k.minutes, next_length words i h, total_is);
          same_changes = rw there.activity (omega (arith, k.same_changes, changes_there, counted_word));
          few = count_within.changes_few;
        }

  module _ (d : i ≡ length words) where
    all_weighed : measured words ≡ answered (measure_of (minutes_of words))
    unfolding measured
    all_weighed = rw (k.same_total, total_done words sum i d)

    sum_is : sum ≡ length (minutes_of words)
    unfolding minutes_of
    sum_is = omega (arith, k.minutes, ap (λ (l : List ℕ). length (minutes_of l)) (none_left words i d))

    changes_are : changes ≡ length (changes_of (minutes_of words))
    unfolding minutes_of changes_from
    changes_are =
        omega (arith, k.same_changes, ap (λ (l : List ℕ). length (changes_from (sum % day_minutes) before (minutes_of l))) (none_left words i d))

    pub count_part : (sum % day_minutes ≡ 0 → ⊥) → refused 11 ≡ changes_counted words
    unfolding changes_counted is_whole_days
    count_part n = rw (all_weighed, sym sum_is, ne_eqb (sum % day_minutes) 0 n)

    pub count_done : sum % day_minutes ≡ 0 → answered changes ≡ changes_counted words
    unfolding changes_counted is_whole_days
    count_done z = rw (all_weighed, sym sum_is, eq-eqb (sum % day_minutes) 0 z) (ap answered changes_are)

-- ---- the second pass over the words
bytes_append : (xs ys : List ℕ) → bytes_of (xs ++ ys) ≡ bytes_of xs ++ bytes_of ys
unfolding bytes_of
bytes_append [] ys = refl
bytes_append (x ∷ xs) ys = ap (λ (l : List ℕ). x / byte_values ∷ x % byte_values ∷ l) (bytes_append xs ys)

-- the change of a part, where it has one
pub record PutPart (bytes : List ℕ) (at : ℕ) (cs : List ℕ) (next : ℕ) (bytes' : List ℕ) : Type 0 where
  pub next_is : next ≡ at + length (bytes_of cs)
  pub few : length cs ≤ 1
  pub bytes_are : bytes' ≡ sets bytes at (bytes_of cs)

module _ (minute before activity : ℕ) {bytes : List ℕ} {at : ℕ} where
  pub put_two : {bytes' bytes'' : List ℕ} {c : ℕ} → true ≡ is_written minute before activity → c ≡ change_of activity minute
      → bytes' ≡ set bytes at (c / byte_values) → bytes'' ≡ set bytes' (at + 1) (c % byte_values) → PutPart bytes at (change_if minute before activity) (at + 2) bytes''
  unfolding change_if bytes_of
  put_two t v p q = rw (sym t, sym v) (record { next_is = omega arith; few = omega arith; bytes_are = q ∙ rw (p, add-one) refl })

  pub put_none : false ≡ is_written minute before activity → PutPart bytes at (change_if minute before activity) at bytes
  unfolding change_if bytes_of
  put_none t = rw (sym t) (record { next_is = omega arith; few = omega arith; bytes_are = refl })

-- what is left, put from here on, makes what the whole makes
pub record Putting (bytes₀ : List ℕ) (at₀ : ℕ) (whole bytes : List ℕ) (at minute before activity n : ℕ) (later : List ℕ) : Type 0 where
  pub day : minute < day_minutes
  pub room : at + 2 * (n + length later) ≤ 2 * total_at_most
  pub same : sets bytes₀ at₀ whole ≡ sets bytes at (bytes_of (changes_from minute before (replicate n activity ++ later)))

pub start_putting : (words bytes : List ℕ) → length (minutes_of words) ≤ total_at_most
    → Putting bytes 0 (record_of_minutes (minutes_of words)) bytes 0 0 0 0 0 (minutes_of words)
start_putting words bytes h = record { day = omega arith; room = omega arith; same = refl }

module _ {bytes₀ whole bytes later : List ℕ} {at₀ at minute before activity n : ℕ} (p : Putting bytes₀ at₀ whole bytes at minute before activity n later) where
  -- from here on
  pub from_here : Putting bytes at (bytes_of (changes_from minute before (replicate n activity ++ later))) bytes at minute before activity n later
  from_here = record { day = p.day; room = p.room; same = refl }

  pub further : {bytes' later' : List ℕ} {at' minute' before' activity' n' : ℕ}
      → Putting bytes at (bytes_of (changes_from minute before (replicate n activity ++ later))) bytes' at' minute' before' activity' n' later'
      → Putting bytes₀ at₀ whole bytes' at' minute' before' activity' n' later'
  further q = record { day = q.day; room = q.room; same = p.same ∙ q.same }

  pub run_done : n ≡ 0 → Putting bytes₀ at₀ whole bytes at minute before 0 0 later
  run_done z = record { day = p.day; room = omega (arith, p.room); same = p.same ∙ rw z refl }

  pub put_done : n ≡ 0 → later ≡ [] → bytes ≡ sets bytes₀ at₀ whole
  unfolding changes_from bytes_of
  put_done z d = sym (p.same ∙ rw (z, d) refl)

  pub part_on : {part next : ℕ} {bytes' : List ℕ} → (n ≡ 0 → ⊥) → part ≡ min n (day_minutes - minute)
      → PutPart bytes at (change_if minute before activity) next bytes'
      → Putting bytes₀ at₀ whole bytes' next ((minute + part) % day_minutes) activity activity (n - part) later
  part_on {part} {next} {bytes'} z q put = record {
    day = omega arith;
    room = omega (arith, p.room, q, p.day, put.next_is, put.few, bytes_length (change_if minute before activity));
    same = p.same ∙ cut;
  }
    where
      left : List ℕ
      left = replicate (n - part) activity ++ later

      parted : replicate n activity ++ later ≡ replicate part activity ++ left
      parted =
          let s : n ≡ part + (n - part) = omega (arith, q) in
          ap (λ (l : List ℕ). l ++ later) (ap (λ (j : ℕ). replicate j activity) s ∙ sym (replicate-append-replicate part (n - part) activity))
          ∙ append_assoc (replicate part activity) (replicate (n - part) activity) later

      after : List ℕ
      after = changes_from ((minute + part) % day_minutes) activity left

      changes : changes_from minute before (replicate n activity ++ later) ≡ change_if minute before activity ++ after
      changes = ap (changes_from minute before) parted ∙ part_changes minute before activity part left (omega (arith, q, p.day)) (omega (arith, q, p.day))

      cut : sets bytes at (bytes_of (changes_from minute before (replicate n activity ++ later))) ≡ sets bytes' next (bytes_of after)
      cut =
          ap (λ (l : List ℕ). sets bytes at (bytes_of l)) changes
          ∙ ap (sets bytes at) (bytes_append (change_if minute before activity) after)
          ∙ sets_append bytes at (bytes_of (change_if minute before activity)) (bytes_of after)
          ∙ rw (put.bytes_are, put.next_is) refl

-- the next word
pub fetch_on : (words : List ℕ) {bytes₀ whole bytes : List ℕ} {at₀ at minute before i : ℕ} {run : Run} → Putting bytes₀ at₀ whole bytes at minute before 0 0 (minutes_of (drop i words))
    → i < length words → IsRunOf (get_or words i 0) run
    → Putting bytes₀ at₀ whole bytes at minute before (code_of run.activity) run.minutes (minutes_of (drop (i + 1) words))
fetch_on words {bytes = bytes} {at = at} {minute = minute} {before = before} {i = i} p h r = record {
  day = p.day;
  room = omega (arith, p.room, next_length words i h, r.minutes);
  same = p.same ∙ ap (λ (l : List ℕ). sets bytes at (bytes_of (changes_from minute before l))) (next_word words i h) ∙ rw (r.activity, r.minutes) refl;
}

pub none_to_put : (words : List ℕ) (i : ℕ) → i ≡ length words → minutes_of (drop i words) ≡ []
unfolding minutes_of
none_to_put words i e = ap minutes_of (none_left words i e)

-- ---- what stands at each return of writing
pub counted_words : (words : List ℕ) (room : ℕ) → card_written words room
    ≡ and_then (changes_counted words) (λ n. refuse_if (ltb room (2 * n)) 10 (answered (record_of_minutes (minutes_of words))))
unfolding card_written changes_counted
counted_words words room = go (measured words) (is_whole_days (minutes_of words))
  where
    go : (m : Answer Measure) (b : Bool)
        → and_then m (λ _. refuse_if (not b) 11 (refuse_if (ltb room (length (record_of_minutes (minutes_of words)))) 10 (answered (record_of_minutes (minutes_of words)))))
        ≡ and_then (and_then m (λ _. refuse_if (not b) 11 (answered (length (changes_of (minutes_of words))))))
        (λ n. refuse_if (ltb room (2 * n)) 10 (answered (record_of_minutes (minutes_of words))))
    go (refused n) b = refl
    go (answered m) false = refl
    go (answered m) true = rw (bytes_length (changes_of (minutes_of words)))

-- no more changes than minutes
few_changes : (m before : ℕ) (ms : List ℕ) → length (changes_from m before ms) ≤ length ms
unfolding changes_from
few_changes m before [] = omega arith
few_changes m before (a ∷ ms) =
    let k = few_changes (suc m % day_minutes) a ms in
    rw length-append (omega (arith, length_if m before a, one_most (is_written m before a), k))

pub record Counted (words : List ℕ) (n : ℕ) : Type 0 where
  pub within : length (minutes_of words) ≤ total_at_most
  pub changes : n ≡ length (changes_of (minutes_of words))

pub counted_is : (words : List ℕ) {n : ℕ} → changes_counted words ≡ answered n → Counted words n
unfolding changes_counted
counted_is words {n} e = go (measured words) (is_whole_days (minutes_of words)) refl e
  where
    go : (m : Answer Measure) (b : Bool) → measured words ≡ m → and_then m (λ _. refuse_if (not b) 11 (answered (length (changes_of (minutes_of words))))) ≡ answered n → Counted words n
    go (refused k) b p q = let z : ◌≡◌ {A = ℕ} 0 1 = cc in absurd (omega arith)
    go (answered m) false p q = let z : ◌≡◌ {A = ℕ} 0 1 = cc in absurd (omega arith)
    go (answered m) true p q = record { within = (measured_is words p).within; changes = cc }

module _ (words bytes : List ℕ) where
  pub record WriteCard (r : Answer ℕ) (bytes' : List ℕ) : Type 0 where
    pub answer : r ≡ counted (card_written words (length bytes))
    pub content : bytes' ≡ filled (card_written words (length bytes)) bytes

  -- what is written once the changes are counted
  abbrev if_room : ℕ → Answer (List ℕ)
  if_room n = refuse_if (ltb (length bytes) (2 * n)) 10 (answered (record_of_minutes (minutes_of words)))

  by_count : {a : Answer ℕ} → changes_counted words ≡ a → card_written words (length bytes) ≡ and_then a if_room
  by_count e = counted_words words (length bytes) ∙ ap (λ (a : Answer ℕ). and_then a if_room) e

  pub not_counted : {f : ℕ} → changes_counted words ≡ refused f → WriteCard (refused f) bytes
  not_counted e = let g = by_count e in record { answer = rw g refl; content = rw g refl }

  module _ {n : ℕ} (e : changes_counted words ≡ answered n) where
    counted_there : Counted words n
    counted_there = counted_is words e

    pub total_few : length (minutes_of words) ≤ total_at_most
    total_few = counted_there.within

    pub count_few : n ≤ total_at_most
    count_few = omega (arith, counted_there.changes, few_changes 0 0 (minutes_of words), total_few)

    pub few_bytes : length bytes < 2 * n → WriteCard (refused 10) bytes
    few_bytes h =
        let g : card_written words (length bytes) ≡ refused 10 = by_count e ∙ rw (lt-ltb (length bytes) (2 * n) h) refl in
        record { answer = rw g refl; content = rw g refl }

    pub all_written : {bytes' : List ℕ} → 2 * n ≤ length bytes → bytes' ≡ sets bytes 0 (record_of_minutes (minutes_of words)) → WriteCard (answered (2 * n)) bytes'
    all_written l put =
        let g : card_written words (length bytes) ≡ answered (record_of_minutes (minutes_of words)) = by_count e ∙ rw (le-ltb (length bytes) (2 * n) l) refl in
        let s : length (record_of_minutes (minutes_of words)) ≡ 2 * n =
        bytes_length (changes_of (minutes_of words)) ∙ ap (λ (k : ℕ). 2 * k) (sym counted_there.changes) in
        record {
          answer = rw g (ap answered (sym s));
          content = put ∙ rw g (put_in_front (record_of_minutes (minutes_of words)) bytes (omega (arith, s)));
        }
