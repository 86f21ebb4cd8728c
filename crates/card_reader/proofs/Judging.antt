-- Reading: change after change, and what the first pass comes to. Assumes nothing.
use mathlib.Core.Path.{◌≡◌, refl, sym, ap, ◌∙◌}
use mathlib.Core.Logic.{◌⊎◌, inl, inr}
use mathlib.Core.Bool.{Bool, true, false, not}
use mathlib.Core.List.{List, [], ◌∷◌}
use Prim.Native.Nat.{ℕ, suc, ◌+◌, ◌-◌, ◌*◌, ◌/◌, ◌%◌, ◌≤◌, ◌<◌}
use native.Mathlib.Numerals.{add-one}
use native.Mathlib.Omega.{arith}
use lib.Dec.{eqb, ltb}
use lib.ListN.{length, take, drop, get_or, set, length-drop, length-append, length-replicate}
use lib.Seq.{drop-cons, sets, length-sets}
use borrow.Author.Tests.{not-true, not-false, eqb-true, eq-eqb, ne_eqb, ltb-true, ltb-false, lt-ltb, le-ltb}
use Rattle.recording.specs.Tests.{◌and◌, ◌or◌, pick, any_of, count_of}
use Rattle.recording.specs.Answers.{Answer, refused, answered, refuse_if, counted, filled}
use Rattle.recording.specs.Words.{word_of, minutes_of}
use Rattle.recording.specs.Operations.{total_at_most, unless_fault}
use Rattle.recording.proofs.TestLaws.{and_left, and_right, or_cases, same_test, one_most}
use Rattle.recording.proofs.WordLaws.{minutes_in_law, unless_some}
use Rattle.recording.proofs.Slices.{part_rest, put_in_front}
use Rattle.card_reader.specs.declared.Judgement.{Judgement}
use Rattle.card_reader.specs.Form.{byte_values, day_minutes}
use Rattle.card_reader.specs.Reading.{changes_in, change_minute, change_activity, begins_day, is_unknown, follows, all_follow, in_order, is_even, is_day_record, end_before, words_of, card_read}
use Rattle.card_reader.specs.Passes.{begun, after_change, judged_from, refusal_for}

-- ---- the changes of bytes
pub no_change : (bytes : List ℕ) → length bytes < 2 → changes_in bytes ≡ []
unfolding changes_in
no_change [] h = refl
no_change (a ∷ []) h = refl
no_change (a ∷ b ∷ l) h = absurd (omega arith)

pub first_change : {high low : ℕ} (bytes : List ℕ) → 2 ≤ length bytes → high ≡ get_or bytes 0 0 → low ≡ get_or bytes 1 0
    → changes_in bytes ≡ (byte_values * high + low) ∷ changes_in (take (length bytes - 2) (drop 2 bytes))
unfolding changes_in
first_change [] h p q = absurd (omega arith)
first_change (a ∷ []) h p q = absurd (omega arith)
first_change (a ∷ b ∷ l) h p q = rw (part_rest (a ∷ b ∷ l) 2, p, q) refl

pub changes_count : (bytes : List ℕ) → length (changes_in bytes) ≡ length bytes / 2
unfolding changes_in
changes_count [] = refl
changes_count (a ∷ []) = refl
changes_count (a ∷ b ∷ bytes) = let k = changes_count bytes in omega (arith, k)

-- ---- the first pass, change by change: those of the whole, and those that are left
pub record Judging (whole : List ℕ) (j : Judgement) (left : List ℕ) : Type 0 where
  pub few : j.days + length left ≤ length whole
  pub same : judged_from begun whole ≡ judged_from j left

pub start_judging : (whole : List ℕ) → Judging whole begun whole
start_judging whole = record { few = omega arith; same = refl }

days_after : (j : Judgement) (c : ℕ) → (after_change j c).days ≤ j.days + 1
unfolding after_change
days_after j c = omega (arith, one_most (begins_day c))

pub judge_on : {whole left later : List ℕ} {j r : Judgement} {c : ℕ} → Judging whole j left → left ≡ c ∷ later → r ≡ after_change j c → Judging whole r later
unfolding judged_from
judge_on {j = j} {c = c} w k e = rw e (record {
  few = omega (arith, days_after j c, w.few, ap length k);
  same = w.same ∙ ap (judged_from j) k;
})

pub judge_done : {whole left : List ℕ} {j : Judgement} → Judging whole j left → left ≡ [] → j ≡ judged_from begun whole
unfolding judged_from
judge_done {j = j} w e = sym (w.same ∙ ap (judged_from j) e)

-- ---- what it comes to: the order
and_assoc : (a b c : Bool) → (a and b) and c ≡ a and (b and c)
unfolding ◌and◌
and_assoc true b c = refl
and_assoc false b c = refl

and-true : (a : Bool) → a ≡ a and true
unfolding ◌and◌
and-true true = refl
and-true false = refl

ordered_from : (j : Judgement) (cs : List ℕ) → (judged_from j cs).ordered ≡ j.ordered and all_follow j.minute cs
unfolding judged_from after_change all_follow
ordered_from j [] = and-true j.ordered
ordered_from j (c ∷ cs) = ordered_from (after_change j c) cs ∙ and_assoc j.ordered (follows j.minute (change_minute c)) (all_follow (change_minute c) cs)

-- after the last minute of a day only minute 0 follows
only_midnight : (m : ℕ) → follows (day_minutes - 1) m ≡ eqb m 0
unfolding follows ◌or◌ ◌and◌
only_midnight m = go (eqb m 0) (ltb m day_minutes) refl
  where
    go : (a b : Bool) → ltb m day_minutes ≡ b → a or (b and ltb (day_minutes - 1) m) ≡ a
    go true b e = refl
    go false true e = le-ltb (day_minutes - 1) m (let l = ltb-true m day_minutes e in omega arith)
    go false false e = refl

first_order : (cs : List ℕ) → true and all_follow (day_minutes - 1) cs ≡ in_order cs
unfolding ◌and◌ all_follow in_order
first_order [] = refl
first_order (c ∷ cs) = ap (λ (b : Bool). b and all_follow (change_minute c) cs) (only_midnight (change_minute c))

pub ordered_is : (cs : List ℕ) → (judged_from begun cs).ordered ≡ in_order cs
ordered_is cs = ordered_from begun cs ∙ first_order cs

-- known activities
neither : (a b d : Bool) → (a and not b) and not d ≡ a and not (b or d)
unfolding ◌and◌ ◌or◌
neither true true d = refl
neither true false d = refl
neither false b d = refl

known_from : (j : Judgement) (cs : List ℕ) → (judged_from j cs).known ≡ j.known and not (any_of is_unknown cs)
unfolding judged_from after_change any_of
known_from j [] = and-true j.known
known_from j (c ∷ cs) = known_from (after_change j c) cs ∙ neither j.known (is_unknown c) (any_of is_unknown cs)

pub known_is : (cs : List ℕ) → (judged_from begun cs).known ≡ not (any_of is_unknown cs)
unfolding ◌and◌
known_is cs = known_from begun cs

-- days
days_from : (j : Judgement) (cs : List ℕ) → (judged_from j cs).days ≡ j.days + count_of begins_day cs
unfolding judged_from after_change count_of
days_from j [] = omega arith
days_from j (c ∷ cs) = let k = days_from (after_change j c) cs in k ∙ omega arith

-- ---- the words of changes in order: a day's have its minutes, and each has one
pub words_count : (cs : List ℕ) → length (words_of cs) ≡ length cs
unfolding words_of
words_count [] = refl
words_count (c ∷ cs) = ap suc (words_count cs)

pub words_are : (bytes : List ℕ) → length (words_of (changes_in bytes)) ≡ length bytes / 2
words_are bytes = words_count (changes_in bytes) ∙ changes_count bytes

word_minutes : (c : ℕ) (cs : List ℕ) → length (minutes_of (words_of (c ∷ cs))) ≡ (end_before cs - change_minute c) + length (minutes_of (words_of cs))
unfolding words_of minutes_of
word_minutes c cs = rw (length-append, length-replicate) (ap (λ (n : ℕ). n + length (minutes_of (words_of cs))) (minutes_in_law (end_before cs - change_minute c) (change_activity c) (omega arith)))

-- a change that follows begins a day, or is later in its day
data Following (m q : ℕ) : Type 0 where
  begins : q ≡ 0 → Following m q
  later : m < q → q < day_minutes → Following m q

following : (m q : ℕ) → follows m q ≡ true → Following m q
unfolding follows
following m q t = go (or_cases (eqb q 0) (ltb q day_minutes and ltb m q) t)
  where
    go : (eqb q 0 ≡ true) ⊎ (ltb q day_minutes and ltb m q ≡ true) → Following m q
    go (inl e) = begins (eqb-true q 0 e)
    go (inr e) = later (ltb-true m q (and_right (ltb q day_minutes) (ltb m q) e)) (ltb-true q day_minutes (and_left (ltb q day_minutes) (ltb m q) e))

-- the minutes and the count of the words after a change at minute m, with that change's own
record Summed (m : ℕ) (cs : List ℕ) : Type 0 where
  total : (end_before cs - m) + length (minutes_of (words_of cs)) ≡ (day_minutes - m) + day_minutes * count_of begins_day cs
  count : suc (length cs) ≤ (end_before cs - m) + length (minutes_of (words_of cs))

summed_none : (m : ℕ) → m < day_minutes → Summed m []
unfolding end_before words_of minutes_of count_of
summed_none m h = record { total = omega arith; count = omega arith }

pub end_none : end_before [] ≡ day_minutes
unfolding end_before
end_none = refl

module _ (c : ℕ) (cs : List ℕ) where
  pub end_midnight : change_minute c ≡ 0 → end_before (c ∷ cs) ≡ day_minutes
  unfolding end_before
  end_midnight e = rw (eq-eqb (change_minute c) 0 e)

  pub end_later : (change_minute c ≡ 0 → ⊥) → end_before (c ∷ cs) ≡ change_minute c
  unfolding end_before
  end_later n = rw (ne_eqb (change_minute c) 0 n)

  days_midnight : change_minute c ≡ 0 → count_of begins_day (c ∷ cs) ≡ suc (count_of begins_day cs)
  unfolding count_of
  days_midnight e = rw (eq-eqb (change_minute c) 0 e) (omega arith)

  days_later : (change_minute c ≡ 0 → ⊥) → count_of begins_day (c ∷ cs) ≡ count_of begins_day cs
  unfolding count_of
  days_later n = rw (ne_eqb (change_minute c) 0 n) (omega arith)

summed_next : (m c : ℕ) (cs : List ℕ) → m < day_minutes → Following m (change_minute c) → Summed (change_minute c) cs → Summed m (c ∷ cs)
summed_next m c cs h (begins e) s = record {
  total = omega (arith, e, word_minutes c cs, s.total, end_midnight c cs e, days_midnight c cs e);
  count = omega (arith, word_minutes c cs, s.count, end_midnight c cs e);
}
summed_next m c cs h (later l b) s =
    let n : change_minute c ≡ 0 → ⊥ = λ e. absurd (omega arith) in
    record {
      total = omega (arith, word_minutes c cs, s.total, end_later c cs n, days_later c cs n);
      count = omega (arith, word_minutes c cs, s.count, end_later c cs n);
    }

follow_within : {m q : ℕ} → Following m q → q < day_minutes
follow_within (begins e) = omega arith
follow_within (later l b) = b

summed : (m : ℕ) (cs : List ℕ) → m < day_minutes → all_follow m cs ≡ true → Summed m cs
unfolding all_follow
summed m [] h t = summed_none m h
summed m (c ∷ cs) h t =
    let f = following m (change_minute c) (and_left (follows m (change_minute c)) (all_follow (change_minute c) cs) t) in
    summed_next m c cs h f (summed (change_minute c) cs (follow_within f) (and_right (follows m (change_minute c)) (all_follow (change_minute c) cs) t))

-- in a whole record: every day has its minutes, and there are no more changes than minutes
pub record WholeDays (cs : List ℕ) : Type 0 where
  pub total : length (minutes_of (words_of cs)) ≡ day_minutes * (judged_from begun cs).days
  pub count : length cs ≤ length (minutes_of (words_of cs))

no_days : WholeDays []
unfolding judged_from words_of minutes_of
no_days = record { total = refl; count = omega arith }

pub whole_days : (cs : List ℕ) → in_order cs ≡ true → WholeDays cs
unfolding in_order
whole_days [] t = no_days
whole_days (c ∷ cs) t =
    let e : change_minute c ≡ 0 = eqb-true (change_minute c) 0 (and_left (begins_day c) (all_follow (change_minute c) cs) t) in
    let s = summed (change_minute c) cs (omega arith) (and_right (begins_day c) (all_follow (change_minute c) cs) t) in
    record {
      total = omega (arith, e, word_minutes c cs, s.total, days_from begun (c ∷ cs), days_midnight c cs e);
      count = omega (arith, word_minutes c cs, s.count);
    }

-- ---- the second pass, change by change
pub record PuttingWords (whole words₀ words left : List ℕ) (i : ℕ) : Type 0 where
  pub few : i + length left ≤ length whole
  pub same : sets words₀ 0 (words_of whole) ≡ sets words i (words_of left)

pub put_on : {whole words₀ words words' left later : List ℕ} {i c end n w : ℕ} → PuttingWords whole words₀ words left i → left ≡ c ∷ later
    → end ≡ end_before later → n ≡ end - change_minute c → w ≡ word_of n (change_activity c) → words' ≡ set words i w
    → PuttingWords whole words₀ words' later (i + 1)
unfolding words_of
put_on {words = words} {i = i} p k e m v s = record {
  few = omega (arith, p.few, ap length k);
  same = p.same ∙ ap (λ (cs : List ℕ). sets words i (words_of cs)) k ∙ rw (s, v, m, e, add-one);
}

pub put_done : {whole words₀ words left : List ℕ} {i : ℕ} → PuttingWords whole words₀ words left i → left ≡ [] → words ≡ sets words₀ 0 (words_of whole)
unfolding words_of
put_done {words = words} {i = i} p e = sym (p.same ∙ ap (λ (cs : List ℕ). sets words i (words_of cs)) e)

-- ---- the refusal
past_limit : (d n : ℕ) → n ≡ day_minutes * d → ltb (total_at_most / day_minutes) d ≡ ltb total_at_most n
past_limit d n e = same_test _ _
    (λ t. lt-ltb total_at_most n (let l = ltb-true (total_at_most / day_minutes) d t in omega arith))
    (λ t. lt-ltb (total_at_most / day_minutes) d (let l = ltb-true total_at_most n t in omega arith))

by_tests : {A : Type 0} (a b c d c' d' : Bool) (w : Answer A) → (a ≡ true → c' ≡ c) → d' ≡ d
    → refuse_if (not a) 11 (refuse_if b 12 (refuse_if c 2 (refuse_if d 9 w))) ≡ unless_fault (pick a (pick (not b) (pick c' 2 (pick d' 9 0)) 12) 11) w
by_tests false b c d c' d' w p q = refl
by_tests true true c d c' d' w p q = refl
by_tests true false c d c' d' w p q = rw (p refl, q) (last c d)
  where
    last : (c d : Bool) → refuse_if c 2 (refuse_if d 9 w) ≡ unless_fault (pick c 2 (pick d 9 0)) w
    last true d = refl
    last false true = refl
    last false false = refl

module _ (bytes : List ℕ) (room : ℕ) where
  abbrev pub found : Judgement
  found = judged_from begun (changes_in bytes)

  in_order_law : is_day_record bytes ≡ true → in_order (changes_in bytes) ≡ true
  unfolding is_day_record
  in_order_law t = and_right (is_even (length bytes)) (in_order (changes_in bytes)) t

  pub refusal_is : card_read bytes room ≡ unless_fault (refusal_for found (length bytes) room) (answered (words_of (changes_in bytes)))
  unfolding card_read refusal_for is_day_record
  refusal_is = rw (ordered_is (changes_in bytes), known_is (changes_in bytes))
      (by_tests (is_day_record bytes) (any_of is_unknown (changes_in bytes)) _ _ _ _ (answered (words_of (changes_in bytes)))
      (λ t. past_limit found.days (length (minutes_of (words_of (changes_in bytes)))) (whole_days (changes_in bytes) (in_order_law t)).total)
      (ap (ltb room) (sym (words_are bytes))))

  -- where there is none, the words are few, and there is room for them
  pub record Taken : Type 0 where
    pub few : length bytes / 2 ≤ total_at_most
    pub room_for : length bytes / 2 ≤ room

  pub taken : refusal_for found (length bytes) room ≡ 0 → Taken
  unfolding refusal_for is_day_record
  taken e = go (is_day_record bytes) found.known (ltb (total_at_most / day_minutes) found.days) (ltb room (length bytes / 2)) refl refl refl
      (rw (ordered_is (changes_in bytes)) at e)
    where
      go : (a b c d : Bool) → is_day_record bytes ≡ a → ltb (total_at_most / day_minutes) found.days ≡ c → ltb room (length bytes / 2) ≡ d
          → ◌≡◌ {A = ℕ} (pick a (pick b (pick c 2 (pick d 9 0)) 12) 11) 0 → Taken
      go false b c d p q r z = absurd (omega arith)
      go true false c d p q r z = absurd (omega arith)
      go true true true d p q r z = absurd (omega arith)
      go true true false true p q r z = absurd (omega arith)
      go true true false false p q r z =
          let w = whole_days (changes_in bytes) (in_order_law p) in
          record {
            few = omega (arith, w.total, w.count, changes_count bytes, ltb-false (total_at_most / day_minutes) found.days q);
            room_for = ltb-false room (length bytes / 2) r;
          }

-- which refusal it is
module _ (j : Judgement) (size room : ℕ) where
  pub odd_count : (size % 2 ≡ 0 → ⊥) → refusal_for j size room ≡ 11
  unfolding refusal_for is_even ◌and◌
  odd_count z = rw (ne_eqb _ _ z)

  module _ (e : size % 2 ≡ 0) where
    pub out_of_order : not j.ordered ≡ true → refusal_for j size room ≡ 11
    unfolding refusal_for is_even ◌and◌
    out_of_order o = rw (eq-eqb _ _ e, not-true j.ordered o)

    module _ (o : not j.ordered ≡ false) where
      pub some_unknown : not j.known ≡ true → refusal_for j size room ≡ 12
      unfolding refusal_for is_even ◌and◌
      some_unknown k = rw (eq-eqb _ _ e, not-false j.ordered o, not-true j.known k)

      module _ (k : not j.known ≡ false) where
        pub too_long : total_at_most / day_minutes < j.days → refusal_for j size room ≡ 2
        unfolding refusal_for is_even ◌and◌
        too_long l = rw (eq-eqb _ _ e, not-false j.ordered o, not-false j.known k, lt-ltb _ _ l)

        module _ (l : j.days ≤ total_at_most / day_minutes) where
          pub few_words : room < size / 2 → refusal_for j size room ≡ 9
          unfolding refusal_for is_even ◌and◌
          few_words r = rw (eq-eqb _ _ e, not-false j.ordered o, not-false j.known k, le-ltb (total_at_most / day_minutes) j.days l, lt-ltb _ _ r)

          pub no_refusal : size / 2 ≤ room → refusal_for j size room ≡ 0
          unfolding refusal_for is_even ◌and◌
          no_refusal r = rw (eq-eqb _ _ e, not-false j.ordered o, not-false j.known k, le-ltb (total_at_most / day_minutes) j.days l, le-ltb room (size / 2) r)

-- ---- what stands at each return of reading
module _ (bytes words : List ℕ) where
  pub record ReadCard (r : Answer ℕ) (words' : List ℕ) : Type 0 where
    pub answer : r ≡ counted (card_read bytes (length words))
    pub content : words' ≡ filled (card_read bytes (length words)) words

  module _ {j : Judgement} (p : j ≡ judged_from begun (changes_in bytes)) where
    by_number : card_read bytes (length words) ≡ unless_fault (refusal_for j (length bytes) (length words)) (answered (words_of (changes_in bytes)))
    by_number = refusal_is bytes (length words) ∙ rw p refl

    pub turned_away : (n : ℕ) → refusal_for j (length bytes) (length words) ≡ n → (n ≡ 0 → ⊥) → ReadCard (refused n) words
    turned_away n q h =
        let g : card_read bytes (length words) ≡ refused n = by_number ∙ rw q (unless_some n _ h) in
        record { answer = rw g; content = rw g }

    module _ (z : refusal_for j (length bytes) (length words) ≡ 0) where
      pub taken_there : Taken bytes (length words)
      taken_there = taken bytes (length words) (rw p at z)

      pub all_read : {words' : List ℕ} → words' ≡ sets words 0 (words_of (changes_in bytes)) → ReadCard (answered (length bytes / 2)) words'
      all_read e =
          let g : card_read bytes (length words) ≡ answered (words_of (changes_in bytes)) = by_number ∙ rw z refl in
          let l = words_are bytes in
          record {
            answer = rw g (ap answered (sym l));
            content = e ∙ rw g (put_in_front (words_of (changes_in bytes)) words (omega (arith, l, taken_there.room_for)));
          }
