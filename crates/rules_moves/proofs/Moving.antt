-- The moves in code: entry after entry, and what stands at each return. Assumes nothing.
use mathlib.Core.Path.{◌≡◌, refl, sym, ap, ◌∙◌}
use mathlib.Core.Bool.{Bool, true, false, not}
use mathlib.Core.List.{List, [], ◌∷◌, ◌++◌}
use Prim.Native.Nat.{ℕ, suc, ◌+◌, ◌*◌, ◌/◌, ◌%◌, ◌≤◌, ◌<◌}
use native.Mathlib.Omega.{arith}
use lib.Dec.{eqb, ltb}
use lib.ListN.{length, take, get_or}
use lib.Seq.{sets, length-sets}
use borrow.Author.Tests.{eq-eqb, eqb-true, ltb-true, ltb-false, lt-ltb, le-ltb, not-false}
use Rattle.recording.specs.Tests.{◌or◌}
use Rattle.recording.specs.Answers.{Answer, refused, answered, refuse_if, counted, filled}
use Rattle.recording.proofs.Slices.{sets_append, put_in_front}
use Rattle.rules.specs.Reading.{entry_bytes, byte_values, carrier_of, fields_in, bytes_of}
use Rattle.rules.proofs.FieldLaws.{bytes_size, fields_size}
use Rattle.rules_moves.specs.Moves.{stored_bytes, stored_week_at_most, stored_carrier_at_most, too_large, reading_widened, reading_narrowed}
use Rattle.rules_moves.specs.Passes.{entries_counted, low_bytes}

-- ---- an entry, and what is left
wide_entry : (x rest : List ℕ) → length x ≡ stored_bytes → get_or x 2 0 < byte_values
    → bytes_of (x ++ rest) ≡ get_or x 0 0 ∷ get_or x 1 0 ∷ get_or x 2 0 ∷ 0 ∷ bytes_of rest
unfolding bytes_of
wide_entry [] rest h byte = absurd (omega arith)
wide_entry (a ∷ []) rest h byte = absurd (omega arith)
wide_entry (a ∷ b ∷ []) rest h byte = absurd (omega arith)
wide_entry (a ∷ b ∷ c ∷ []) rest h byte =
    let low : c % byte_values ≡ c = omega arith in
    let high : c / byte_values ≡ 0 = omega arith in
    rw (low, high)
wide_entry (a ∷ b ∷ c ∷ d ∷ x) rest h byte = absurd (omega arith)

pub wide_step : {left : List ℕ} (x rest : List ℕ) → left ≡ x ++ rest → length x ≡ stored_bytes → get_or x 2 0 < byte_values
    → bytes_of left ≡ (get_or x 0 0 ∷ get_or x 1 0 ∷ get_or x 2 0 ∷ 0 ∷ []) ++ bytes_of rest
wide_step x rest e h byte = ap bytes_of e ∙ wide_entry x rest h byte

bytes_entry : (x rest : List ℕ) → length x ≡ stored_bytes → ((i : ℕ) → get_or (x ++ rest) i 0 < byte_values)
    → (get_or x 2 0 < byte_values) × ((i : ℕ) → get_or rest i 0 < byte_values)
bytes_entry [] rest h f = absurd (omega arith)
bytes_entry (a ∷ []) rest h f = absurd (omega arith)
bytes_entry (a ∷ b ∷ []) rest h f = absurd (omega arith)
bytes_entry (a ∷ b ∷ c ∷ []) rest h f = (f 2, λ i. f (suc (suc (suc i))))
bytes_entry (a ∷ b ∷ c ∷ d ∷ x) rest h f = absurd (omega arith)

-- each is a byte
abbrev pub AllBytes : List ℕ → Type 0
AllBytes l = (i : ℕ) → get_or l i 0 < byte_values

pub bytes_step : {left : List ℕ} (x rest : List ℕ) → left ≡ x ++ rest → length x ≡ stored_bytes → AllBytes left → (get_or x 2 0 < byte_values) × AllBytes rest
bytes_step x rest e h f = bytes_entry x rest h (λ i. rw e at (f i))

low_entry : (x rest : List ℕ) → length x ≡ entry_bytes → low_bytes (x ++ rest) ≡ get_or x 0 0 ∷ get_or x 1 0 ∷ get_or x 2 0 ∷ low_bytes rest
unfolding low_bytes
low_entry [] rest h = absurd (omega arith)
low_entry (a ∷ []) rest h = absurd (omega arith)
low_entry (a ∷ b ∷ []) rest h = absurd (omega arith)
low_entry (a ∷ b ∷ c ∷ []) rest h = absurd (omega arith)
low_entry (a ∷ b ∷ c ∷ d ∷ []) rest h = refl
low_entry (a ∷ b ∷ c ∷ d ∷ e ∷ x) rest h = absurd (omega arith)

pub low_step : {left : List ℕ} (x rest : List ℕ) → left ≡ x ++ rest → length x ≡ entry_bytes
    → low_bytes left ≡ (get_or x 0 0 ∷ get_or x 1 0 ∷ get_or x 2 0 ∷ []) ++ low_bytes rest
low_step x rest e h = ap low_bytes e ∙ low_entry x rest h

pub low_part : (x : List ℕ) → length x ≡ entry_bytes → take stored_bytes x ≡ get_or x 0 0 ∷ get_or x 1 0 ∷ get_or x 2 0 ∷ []
low_part [] h = absurd (omega arith)
low_part (a ∷ []) h = absurd (omega arith)
low_part (a ∷ b ∷ []) h = absurd (omega arith)
low_part (a ∷ b ∷ c ∷ []) h = absurd (omega arith)
low_part (a ∷ b ∷ c ∷ d ∷ x) h = refl

large_entry : (x rest : List ℕ) → length x ≡ entry_bytes → too_large (fields_in (x ++ rest))
    ≡ ltb stored_week_at_most (get_or x 1 0) or ltb stored_carrier_at_most (carrier_of (get_or x 2 0) (get_or x 3 0)) or too_large (fields_in rest)
unfolding too_large fields_in
large_entry [] rest h = absurd (omega arith)
large_entry (a ∷ []) rest h = absurd (omega arith)
large_entry (a ∷ b ∷ []) rest h = absurd (omega arith)
large_entry (a ∷ b ∷ c ∷ []) rest h = absurd (omega arith)
large_entry (a ∷ b ∷ c ∷ d ∷ []) rest h = refl
large_entry (a ∷ b ∷ c ∷ d ∷ e ∷ x) rest h = absurd (omega arith)

-- a field is too large in the first entry, or later
module _ {left : List ℕ} (x rest : List ℕ) (e : left ≡ x ++ rest) (h : length x ≡ entry_bytes) {b : Bool}
    (q : b ≡ ltb stored_week_at_most (get_or x 1 0) or ltb stored_carrier_at_most (carrier_of (get_or x 2 0) (get_or x 3 0))) where
  large_step : too_large (fields_in left) ≡ b or too_large (fields_in rest)
  large_step = ap (λ (l : List ℕ). too_large (fields_in l)) e ∙ large_entry x rest h ∙ ap (λ (t : Bool). t or too_large (fields_in rest)) (sym q)

  pub large_here : b ≡ true → too_large (fields_in left) ≡ true
  unfolding ◌or◌
  large_here t = large_step ∙ rw t

  pub large_later : b ≡ false → too_large (fields_in left) ≡ too_large (fields_in rest)
  unfolding ◌or◌
  large_later f = large_step ∙ rw f

pub no_bytes : (l : List ℕ) → length l < 3 → bytes_of l ≡ []
unfolding bytes_of
no_bytes [] h = refl
no_bytes (a ∷ []) h = refl
no_bytes (a ∷ b ∷ []) h = refl
no_bytes (a ∷ b ∷ c ∷ l) h = absurd (omega arith)

no_fields : (l : List ℕ) → length l < 4 → fields_in l ≡ []
unfolding fields_in
no_fields [] h = refl
no_fields (a ∷ []) h = refl
no_fields (a ∷ b ∷ []) h = refl
no_fields (a ∷ b ∷ c ∷ []) h = refl
no_fields (a ∷ b ∷ c ∷ d ∷ l) h = absurd (omega arith)

pub no_lows : (l : List ℕ) → length l < 4 → low_bytes l ≡ []
unfolding low_bytes
no_lows [] h = refl
no_lows (a ∷ []) h = refl
no_lows (a ∷ b ∷ []) h = refl
no_lows (a ∷ b ∷ c ∷ []) h = refl
no_lows (a ∷ b ∷ c ∷ d ∷ l) h = absurd (omega arith)

pub no_large : (l : List ℕ) → length l < 4 → false ≡ too_large (fields_in l)
unfolding too_large
no_large l h = rw (no_fields l h)

-- ---- the low bytes say the fields, where no field is too large
or_neither : (a b : Bool) → a or b ≡ false → (a ≡ false) × (b ≡ false)
unfolding ◌or◌
or_neither true b e = let z : ◌≡◌ {A = ℕ} 0 1 = cc in absurd (omega arith)
or_neither false b e = (refl, e)

pub lows_are : (wide : List ℕ) → too_large (fields_in wide) ≡ false → low_bytes wide ≡ fields_in wide
unfolding low_bytes fields_in too_large
lows_are [] h = refl
lows_are (kind ∷ []) h = refl
lows_are (kind ∷ week ∷ []) h = refl
lows_are (kind ∷ week ∷ low ∷ []) h = refl
lows_are (kind ∷ week ∷ low ∷ high ∷ wide) h =
    let p = or_neither _ _ h in
    let q = or_neither _ _ p.0 in
    let most = ltb-false stored_carrier_at_most (carrier_of low high) q.1 in
    let carrier : low ≡ carrier_of low high = omega arith in
    let later = lows_are wide p.1 in
    λ i. kind ∷ week ∷ carrier i ∷ later i

-- ---- bytes put one after the other: what is left of the new ones is still to be put, from a place on
pub record Putting (new out₀ left out : List ℕ) (to : ℕ) : Type 0 where
  pub same : sets out₀ 0 new ≡ sets out to left
  pub size : length out ≡ length out₀

pub start_putting : (new out : List ℕ) → Putting new out new out 0
start_putting new out = record { same = refl; size = refl }

module _ {new out₀ left out : List ℕ} {to : ℕ} (k : Putting new out₀ left out to) where
  pub put_on : {out' : List ℕ} (some left' : List ℕ) → left ≡ some ++ left' → out' ≡ sets out to some → Putting new out₀ left' out' (to + length some)
  put_on some left' e q = rw q (record {
    same = k.same ∙ ap (sets out to) e ∙ sets_append out to some left';
    size = length-sets out to some ∙ k.size;
  })

  pub put_done : left ≡ [] → out ≡ sets out₀ 0 new
  put_done e = sym (k.same ∙ ap (sets out to) e)

-- ---- what stands at each return of a move
pub record Told (answer : Answer (List ℕ)) (out₀ : List ℕ) (r : Answer ℕ) (out : List ℕ) : Type 0 where
  pub count : r ≡ counted answer
  pub content : out ≡ filled answer out₀

pub turned_away : {answer : Answer (List ℕ)} {n : ℕ} (out : List ℕ) → answer ≡ refused n → Told answer out (refused n) out
turned_away out g = record { count = rw g; content = rw g }

carried : {answer : Answer (List ℕ)} {size : ℕ} {new put out : List ℕ} (out₀ : List ℕ) → answer ≡ answered new → put ≡ new → length new ≡ size → length new ≤ length out₀
    → out ≡ sets out₀ 0 put → Told answer out₀ (answered size) out
carried {new = new} out₀ g p s l e = record { count = rw g (ap answered (sym s)); content = e ∙ rw (g, p) (put_in_front new out₀ l) }

-- the tests are those of the bytes that are written
record Passed (a b : Bool) (n entries : ℕ) : Type 0 where
  part : a ≡ false
  short : b ≡ false
  count : n ≡ entries

passed : (part short : Bool) {n entries : ℕ} → answered n ≡ refuse_if part 6 (refuse_if short 4 (answered entries)) → Passed part short n entries
passed true short e = let z : ◌≡◌ {A = ℕ} 0 1 = cc in absurd (omega arith)
passed false true e = let z : ◌≡◌ {A = ℕ} 0 1 = cc in absurd (omega arith)
passed false false e = record { part = refl; short = refl; count = cc }

failed : (part short : Bool) (entries : ℕ) (later : Answer (List ℕ)) {n : ℕ} → refused n ≡ refuse_if part 6 (refuse_if short 4 (answered entries))
    → refuse_if part 6 (refuse_if short 4 later) ≡ refused n
failed true short entries later {n} e = let z : n ≡ 6 = cc in ap refused (sym z)
failed false true entries later {n} e = let z : n ≡ 4 = cc in ap refused (sym z)
failed false false entries later e = let z : ◌≡◌ {A = ℕ} 0 1 = cc in absurd (omega arith)

module _ (bytes size room space long : ℕ) (same : bytes % size ≡ 0 → ltb space long ≡ ltb room (bytes / size)) where
  first_fails : (later : Answer (List ℕ)) {n : ℕ} → refused n ≡ entries_counted bytes size room → refuse_if (not (eqb (bytes % size) 0)) 6 (refuse_if (ltb space long) 4 later) ≡ refused n
  first_fails later {n} q = at (eqb (bytes % size) 0) refl q
    where
      at : (b : Bool) → eqb (bytes % size) 0 ≡ b → refused n ≡ refuse_if (not b) 6 (refuse_if (ltb room (bytes / size)) 4 (answered (bytes / size)))
          → refuse_if (not b) 6 (refuse_if (ltb space long) 4 later) ≡ refused n
      at true e q = rw (same (eqb-true (bytes % size) 0 e)) (failed false (ltb room (bytes / size)) _ later q)
      at false e q = failed true (ltb space long) 0 later q

  record Fits (n : ℕ) : Type 0 where
    whole : bytes % size ≡ 0
    count : n ≡ bytes / size
    enough : ltb space long ≡ false

  fits : {n : ℕ} → answered n ≡ entries_counted bytes size room → Fits n
  fits q =
      let k = passed (not (eqb (bytes % size) 0)) (ltb room (bytes / size)) q in
      let whole = eqb-true (bytes % size) 0 (not-false _ k.part) in
      record { whole = whole; count = k.count; enough = same whole ∙ k.short }

entries_room : (room n long : ℕ) (size : ℕ) → long ≡ size * n → (room < size * n → room / size < n) → (size * n ≤ room → n ≤ room / size) → ltb room long ≡ ltb (room / size) n
entries_room room n long size e less more = at (ltb room long) refl
  where
    at : (b : Bool) → ltb room long ≡ b → b ≡ ltb (room / size) n
    at true t = sym (lt-ltb (room / size) n (less (omega (arith, ltb-true room long t, e))))
    at false t = sym (le-ltb (room / size) n (more (omega (arith, ltb-false room long t, e))))

-- ---- over
module _ (old wide : List ℕ) where
  over_same : length old % stored_bytes ≡ 0 → ltb (length wide) (length (bytes_of old)) ≡ ltb (length wide / entry_bytes) (length old / stored_bytes)
  over_same e = entries_room (length wide) (length old / stored_bytes) _ entry_bytes (bytes_size (length old / stored_bytes) old (omega arith)) (λ h. omega arith) (λ h. omega arith)

  pub over_refused : {n : ℕ} → refused n ≡ entries_counted (length old) stored_bytes (length wide / entry_bytes) → Told (reading_widened old (length wide)) wide (refused n) wide
  unfolding reading_widened
  over_refused q = turned_away wide (first_fails (length old) stored_bytes (length wide / entry_bytes) (length wide) (length (bytes_of old)) over_same _ q)

  module _ {n : ℕ} (q : answered n ≡ entries_counted (length old) stored_bytes (length wide / entry_bytes)) where
    over_fits : Fits (length old) stored_bytes (length wide / entry_bytes) (length wide) (length (bytes_of old)) over_same n
    over_fits = fits (length old) stored_bytes (length wide / entry_bytes) (length wide) (length (bytes_of old)) over_same q

    pub over_room : length (bytes_of old) ≤ length wide
    over_room = ltb-false _ _ over_fits.enough

    pub over_told : {out : List ℕ} → out ≡ sets wide 0 (bytes_of old) → Told (reading_widened old (length wide)) wide (answered (entry_bytes * n)) out
    unfolding reading_widened
    over_told e =
        let k = over_fits in
        let size = bytes_size (length old / stored_bytes) old (omega (arith, k.whole)) in
        carried wide (rw (eq-eqb _ 0 k.whole, k.enough)) refl (size ∙ ap (λ (x : ℕ). entry_bytes * x) (sym k.count)) over_room e

-- ---- back
module _ (wide old : List ℕ) where
  back_same : length wide % entry_bytes ≡ 0 → ltb (length old) (length (fields_in wide)) ≡ ltb (length old / stored_bytes) (length wide / entry_bytes)
  back_same e = entries_room (length old) (length wide / entry_bytes) _ stored_bytes (fields_size (length wide / entry_bytes) wide (omega arith)) (λ h. omega arith) (λ h. omega arith)

  pub back_refused : {n : ℕ} → refused n ≡ entries_counted (length wide) entry_bytes (length old / stored_bytes) → Told (reading_narrowed wide (length old)) old (refused n) old
  unfolding reading_narrowed
  back_refused q = turned_away old (first_fails (length wide) entry_bytes (length old / stored_bytes) (length old) (length (fields_in wide)) back_same _ q)

  module _ {n : ℕ} (q : answered n ≡ entries_counted (length wide) entry_bytes (length old / stored_bytes)) where
    back_fits : Fits (length wide) entry_bytes (length old / stored_bytes) (length old) (length (fields_in wide)) back_same n
    back_fits = fits (length wide) entry_bytes (length old / stored_bytes) (length old) (length (fields_in wide)) back_same q

    pub back_large : true ≡ too_large (fields_in wide) → Told (reading_narrowed wide (length old)) old (refused 15) old
    unfolding reading_narrowed
    back_large t = let k = back_fits in turned_away old (rw (eq-eqb _ 0 k.whole, k.enough, ← t))

    module _ (small : false ≡ too_large (fields_in wide)) where
      same_bytes : low_bytes wide ≡ fields_in wide
      same_bytes = lows_are wide (sym small)

      pub back_room : length (low_bytes wide) ≤ length old
      back_room = rw same_bytes (ltb-false _ _ back_fits.enough)

      pub back_told : {out : List ℕ} → out ≡ sets old 0 (low_bytes wide) → Told (reading_narrowed wide (length old)) old (answered (stored_bytes * n)) out
      unfolding reading_narrowed
      back_told e =
          let k = back_fits in
          let size = fields_size (length wide / entry_bytes) wide (omega (arith, k.whole)) in
          carried old (rw (eq-eqb _ 0 k.whole, k.enough, ← small)) same_bytes (size ∙ ap (λ (x : ℕ). stored_bytes * x) (sym k.count)) (ltb-false _ _ k.enough) e
