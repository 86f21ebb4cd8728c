-- What is promised besides of an entry's P, of the size of a first lawful reading, and of the entry of a reading.
-- Assumes nothing.
use mathlib.Core.Path.{◌≡◌, refl}
use mathlib.Core.Logic.{◌⊎◌, inl, inr}
use mathlib.Core.Bool.{Bool, true, false, not}
use mathlib.Core.List.Memᴰ
use mathlib.Core.List.{List, [], ◌∷◌, Memᴰ as In}
use mathlib.Core.Option.{some}
use Prim.Native.Nat.{ℕ, suc, ◌-◌, ◌*◌, ◌/◌, ◌%◌, ◌≤◌, ◌<◌}
use native.Mathlib.Omega.{arith}
use lib.Dec.{leb, ltb, eqb}
use lib.ListN.{length, take, drop, length-take, length-drop}
use borrow.Author.Tests.{le-leb, lt-leb, ltb-false, eqb-true, eq-eqb, not-false}
use Rattle.recording.specs.Tests.{pick, ◌or◌}
use Rattle.recording.specs.Answers.{answered, refuse_if}
use Rattle.recording.specs.Rests.{long_rests}
use Rattle.recording.specs.Days.{latest_end_from, latest_end}
use Rattle.recording.specs.declared.Span.{Span}
use Rattle.recording.proofs.TestLaws.{clash, is_false, or_left, or_right}
use Rattle.recording.proofs.LongRests.{Ordered, none, next, rests_ordered}
use Rattle.rules.specs.Reading.{Entry, entry_fields, entry_bytes, reading_size, entry_of, entries_from, entries}
use Rattle.rules.specs.Verdict.{first_lawful}
use Rattle.rules.specs.Operations.{entry_at, entry_part, entry_refusal}
use Rattle.rules.proofs.FirstLaws.{bytes_length}
use Rattle.rules.proofs.Breach.{first_sound}

-- ---- P at a rest's start
-- an entry of rests in order: the first of them, or one past it
module _ (n p : ℕ) (earlier : List Entry) (r : Span) (rs : List Span) (fields : List ℕ) (e : Entry) where
  abbrev this : Entry
  this = entry_of n p earlier r fields

  abbrev Past : Type 0
  Past = In e (entries_from (suc n) r.end (entry_of n p earlier r fields ∷ earlier) rs (drop entry_fields fields))

  starts_on : {from : ℕ} → from ≤ r.start → r.start ≤ r.end → (e ≡ this) ⊎ Past → (Past → suc r.end ≤ e.span.start) → from ≤ e.span.start
  starts_on l m (inl q) later = rw q l
  starts_on l m (inr j) later = omega (arith, later j)

  before_is : r.start < r.end → (e ≡ this) ⊎ Past → (Past → suc r.end ≤ e.span.start) → (Past → e.before ≡ latest_end_from r.end rs e.span.start)
      → e.before ≡ pick (leb r.end e.span.start) (latest_end_from r.end rs e.span.start) p
  before_is m (inl q) later ih = rw (q, lt-leb r.end r.start m) refl
  before_is m (inr j) later ih = rw (le-leb r.end e.span.start (omega (arith, later j))) (ih j)

starts_after : {to : ℕ} (n p : ℕ) (earlier : List Entry) (fields : List ℕ) {from : ℕ} {rs : List Span} → Ordered to from rs
    → (e : Entry) → In e (entries_from n p earlier rs fields) → from ≤ e.span.start
unfolding entries_from
starts_after n p earlier fields none e i = absurd (Memᴰ.not-nil i)
starts_after n p earlier fields (next {r = r} {rs = rs} l m d o) e i =
    starts_on n p earlier r rs fields e l (omega arith) (Memᴰ.cases_cons i)
    (λ j. starts_after (suc n) r.end (entry_of n p earlier r fields ∷ earlier) (drop entry_fields fields) o e j)

before-from : {to : ℕ} (n p : ℕ) (earlier : List Entry) (fields : List ℕ) {from : ℕ} {rs : List Span} → Ordered to from rs
    → (e : Entry) → In e (entries_from n p earlier rs fields) → e.before ≡ latest_end_from p rs e.span.start
unfolding entries_from latest_end_from
before-from n p earlier fields none e i = absurd (Memᴰ.not-nil i)
before-from n p earlier fields (next {r = r} {rs = rs} l m d o) e i =
    before_is n p earlier r rs fields e (omega arith) (Memᴰ.cases_cons i)
    (λ j. starts_after (suc n) r.end (entry_of n p earlier r fields ∷ earlier) (drop entry_fields fields) o e j)
    (λ j. before-from (suc n) r.end (entry_of n p earlier r fields ∷ earlier) (drop entry_fields fields) o e j)

pub entry_at-P : (ms fields : List ℕ) (e : Entry) → In e (entries (long_rests ms) fields) → e.before ≡ latest_end ms e.span.start
unfolding entries latest_end
entry_at-P ms fields e i = before-from 1 0 [] fields (rests_ordered ms) e i

-- ---- into the first 4 × k bytes: what a pass writes
pub first_size : (ms r : List ℕ) → first_lawful ms ≡ some r → length r ≡ reading_size ms
first_size ms r e = bytes_length (reading_size ms) r (first_sound ms e).bytes

-- ---- "The part is empty if there is a refusal, and only then"
module _ (reading : List ℕ) (number : ℕ) where
  abbrev part : List ℕ
  part = take entry_bytes (drop (entry_bytes * (number - 1)) reading)

  refusal_empty : (a b : Bool) → (entry_refusal (refuse_if a 6 (refuse_if b 7 (answered part))) ≡ 0 → ⊥) → entry_part (refuse_if a 6 (refuse_if b 7 (answered part))) ≡ []
  refusal_empty true b h = refl
  refusal_empty false true h = refl
  refusal_empty false false h = absurd (h refl)

  part_whole : length reading % entry_bytes ≡ 0 → (number ≡ 0 → ⊥) → number ≤ length reading / entry_bytes → length part ≡ entry_bytes
  part_whole e z h = rw (length-take, length-drop) (omega arith)

  shown_whole : (a b : Bool) → not (eqb (length reading % entry_bytes) 0) ≡ a → eqb number 0 or ltb (length reading / entry_bytes) number ≡ b
      → entry_refusal (refuse_if a 6 (refuse_if b 7 (answered part))) ≡ 0 → length (entry_part (refuse_if a 6 (refuse_if b 7 (answered part)))) ≡ entry_bytes
  shown_whole true b p q e = absurd (omega arith)
  shown_whole false true p q e = absurd (omega arith)
  shown_whole false false p q e =
      part_whole (eqb-true _ 0 (not-false _ p)) (λ z. clash _ (or_left _ _ (eq-eqb number 0 z)) q)
      (ltb-false _ number (is_false _ (λ t. clash _ (or_right _ _ t) q)))

  pub entry_empty : (entry_refusal (entry_at reading number) ≡ 0 → ⊥) → entry_part (entry_at reading number) ≡ []
  unfolding entry_at
  entry_empty h = refusal_empty (not (eqb (length reading % entry_bytes) 0)) (eqb number 0 or ltb (length reading / entry_bytes) number) h

  pub entry_whole : entry_refusal (entry_at reading number) ≡ 0 → length (entry_part (entry_at reading number)) ≡ entry_bytes
  unfolding entry_at
  entry_whole e = shown_whole _ _ refl refl e
