-- `rules_entries::entry` meets its contract. Assumes nothing.
use mathlib.Core.Path.{◌≡◌, refl, sym, ◌∙◌}
use mathlib.Core.Bool.{Bool, true, false, not}
use mathlib.Core.List.{List, []}
use native.Mathlib.Omega.{arith}
use Prim.Native.Nat.{ℕ, ◌+◌, ◌-◌, ◌*◌, ◌/◌, ◌%◌, ◌≤◌, ◌<◌}
use lib.Dec.{eqb, ltb}
use lib.ListN.{length, take, drop}
use borrow.Author.Tests.{eqb-false, ltb-false}
use Rattle.std.proofs.Common.{Option, None, Some}
use Rattle.std.specs.Option.{is_some}
use Rattle.recording.specs.Tests.{◌or◌}
use Rattle.recording.specs.Answers.{Answer, refused, answered, refuse_if, number_of}
use Rattle.recording.specs.declared.Refusal.{Refusal}
use Rattle.rules.specs.Operations.{entry_at, EntryInReading, entry_part, entry_refusal}
use Rattle.rules.specs.Reading.{entry_bytes}
use Rattle.rules_entries.specs.Refusals.{refusal_or_none}
use Rattle.rules_entries.proofs.entry.Goals as goal

-- there is an entry of this number
record There (number entries : ℕ) (bytes : List ℕ) (answer : Answer (List ℕ)) : Type 0 where
  some : 0 < number
  within : number ≤ entries
  is : answer ≡ answered bytes

positive : (r : Refusal) → 0 < number_of r
positive r = grind arith

there : (reading : List ℕ) (number : ℕ) → entry_refusal (entry_at reading number) ≡ 0
    → There number (length reading / entry_bytes) (take entry_bytes (drop (entry_bytes * (number - 1)) reading)) (entry_at reading number)
unfolding entry_at ◌or◌
there reading number e = at (eqb (length reading % entry_bytes) 0) (eqb number 0) (ltb (length reading / entry_bytes) number) refl refl e
  where
    bytes : List ℕ
    bytes = take entry_bytes (drop (entry_bytes * (number - 1)) reading)

    at : (a b c : Bool) → eqb number 0 ≡ b → ltb (length reading / entry_bytes) number ≡ c
        → entry_refusal (refuse_if (not a) 6 (refuse_if (b or c) 7 (answered bytes))) ≡ 0
        → There number (length reading / entry_bytes) bytes (refuse_if (not a) 6 (refuse_if (b or c) 7 (answered bytes)))
    at false b c p q e = absurd (omega arith)
    at true true c p q e = absurd (omega arith)
    at true false true p q e = absurd (omega arith)
    at true false false p q e = record { some = omega (arith, eqb-false number 0 p); within = ltb-false _ _ q; is = refl }

-- the companion's answer is no refusal, or one
none : (r : Option Refusal) {n : ℕ} → refusal_or_none r ≡ n → false ≡ is_some r → n ≡ 0
none None e f = sym e
none (Some r) e f = cc

some : (r : Option Refusal) {n : ℕ} → refusal_or_none r ≡ n → true ≡ is_some r → n ≡ 0 → ⊥
some None e f z = cc
some (Some r) e f z = omega (arith, positive r)

-- then the part is empty
empty : (answer : Answer (List ℕ)) → (entry_refusal answer ≡ 0 → ⊥) → (number : ℕ) (reading part : ℕ × ℕ)
    → EntryInReading answer number reading part × ([] ≡ entry_part answer)
empty (refused n) h number reading part = (tt, refl)
empty (answered bytes) h number reading part = absurd (h refl)

pub returns-then-is_some : goal.returns-then-is_some
returns-then-is_some c =
    let k = empty (entry_at c.args.reading.now c.args.number)
    (some c.entry_refusal.result c.entry_refusal.ensures (sym c.if-is_some.true ∙ c.is_some.ensures)) c.args.number c.args.reading.ref_ptr c.args.reading.ref_ptr in
    record { entry_in_reading = k.0; answer = k.1 }

-- or it is the entry's
found : (reading : List ℕ) (number : ℕ) (r : Option Refusal) {b : Bool} → refusal_or_none r ≡ entry_refusal (entry_at reading number) → b ≡ is_some r → b ≡ false
    → There number (length reading / entry_bytes) (take entry_bytes (drop (entry_bytes * (number - 1)) reading)) (entry_at reading number)
found reading number r e f z = there reading number (none r e (sym z ∙ f))

pub overflow_sub-at : goal.overflow_sub-at
overflow_sub-at c = (found c.args.reading.now c.args.number _ c.entry_refusal.ensures c.is_some.ensures c.if-is_some.false).some

pub overflow_mul-at : goal.overflow_mul-at
overflow_mul-at c =
    let k = found c.args.reading.now c.args.number _ c.entry_refusal.ensures c.is_some.ensures c.if-is_some.false in
    omega (arith, k.some, k.within)

pub overflow_add-end : goal.overflow_add-end
overflow_add-end c =
    let k = found c.args.reading.now c.args.number _ c.entry_refusal.ensures c.is_some.ensures c.if-is_some.false in
    omega (arith, k.some, k.within)

pub slice_bounds-result-end-2 : goal.slice_bounds-result-end-2
slice_bounds-result-end-2 c =
    let k = found c.args.reading.now c.args.number _ c.entry_refusal.ensures c.is_some.ensures c.if-is_some.false in
    omega (arith, k.some, k.within)

pub returns : goal.returns
returns c =
    let at = entry_bytes * (c.args.number - 1) in
    let z : at + entry_bytes - at ≡ entry_bytes = omega arith in
    let k = found c.args.reading.now c.args.number _ c.entry_refusal.ensures c.is_some.ensures c.if-is_some.false in
    rw (k.is, z) (record { entry_in_reading = (refl, omega arith); answer = refl })
