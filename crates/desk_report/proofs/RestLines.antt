-- The lines of the rests, put one after another. Assumes nothing.
use mathlib.Core.Path.{◌≡◌, refl, sym, ap, ◌∙◌}
use mathlib.Core.List.{List, [], ◌∷◌, ◌++◌, map}
use Prim.Native.Nat.{ℕ, ◌+◌, ◌-◌, ◌*◌, ◌≤◌, ◌<◌}
use native.Mathlib.Numerals.{add-one}
use native.Mathlib.Omega.{arith}
use lib.ListN.{length, drop, get_or, length-append}
use lib.Seq.{sets, drop-cons, drop-length, drop-drop, get_or-drop}
use Rattle.recording.specs.declared.Span.{Span}
use Rattle.rules.specs.Reading.{entry_bytes, carrier_of}
use Rattle.text.specs.declared.page.Page.{Page}
use Rattle.text.specs.Page.{Puts}
use Rattle.text.specs.Passes.{roomy}
use Rattle.recording.proofs.Slices.{sets_append}
use Rattle.desk_lines.specs.Lines.{rest_text}
use Rattle.desk_report.specs.Printed.{rests_text}
use Rattle.desk_report.specs.Composing.{line_at_most, rests_of, Readable}
use Rattle.desk_report.proofs.Sizes.{rest_short}

-- the lines over starts and ends are those over the rests
pub rests_lines : (rs : List Span) (reading : List ℕ) → rests_of (map (λ (s : Span). s.start) rs) (map (λ (s : Span). s.end) rs) reading ≡ rests_text rs reading
unfolding rests_of rests_text
rests_lines [] reading = refl
rests_lines (r ∷ rs) reading =
    ap (λ (l : List ℕ). rest_text r.start r.end (get_or reading 0 0) (get_or reading 1 0) (carrier_of (get_or reading 2 0) (get_or reading 3 0)) ++ l) (rests_lines rs (drop entry_bytes reading))

-- the lines from the rest i on
abbrev pub lines_on : List ℕ → List ℕ → List ℕ → ℕ → List ℕ
lines_on starts ends reading i = rests_of (drop i starts) (drop i ends) (drop (entry_bytes * i) reading)

abbrev line_at : List ℕ → List ℕ → List ℕ → ℕ → List ℕ
line_at starts ends reading i =
    rest_text (get_or starts i 0) (get_or ends i 0) (get_or reading (entry_bytes * i) 0) (get_or reading (entry_bytes * i + 1) 0)
    (carrier_of (get_or reading (entry_bytes * i + 2) 0) (get_or reading (entry_bytes * i + 3) 0))

lines_next : (starts ends reading : List ℕ) (i : ℕ) → i < length starts → lines_on starts ends reading i ≡ line_at starts ends reading i ++ lines_on starts ends reading (i + 1)
unfolding rests_of
lines_next starts ends reading i h =
    let a : i + 0 ≡ i = omega arith in
    let b : entry_bytes * i + 0 ≡ entry_bytes * i = omega arith in
    let c : entry_bytes * i + entry_bytes ≡ entry_bytes * (i + 1) = omega arith in
    let e : get_or (drop i ends) 0 0 ≡ get_or ends i 0 = get_or-drop i ends 0 0 ∙ ap (λ (n : ℕ). get_or ends n 0) a in
    let k : get_or (drop (entry_bytes * i) reading) 0 0 ≡ get_or reading (entry_bytes * i) 0 = get_or-drop (entry_bytes * i) reading 0 0 ∙ ap (λ (n : ℕ). get_or reading n 0) b in
    let w : get_or (drop (entry_bytes * i) reading) 1 0 ≡ get_or reading (entry_bytes * i + 1) 0 = get_or-drop (entry_bytes * i) reading 1 0 in
    let v : get_or (drop (entry_bytes * i) reading) 2 0 ≡ get_or reading (entry_bytes * i + 2) 0 = get_or-drop (entry_bytes * i) reading 2 0 in
    let x : get_or (drop (entry_bytes * i) reading) 3 0 ≡ get_or reading (entry_bytes * i + 3) 0 = get_or-drop (entry_bytes * i) reading 3 0 in
    let f : drop 1 (drop i ends) ≡ drop (i + 1) ends = drop-drop 1 i ends in
    let g : drop entry_bytes (drop (entry_bytes * i) reading) ≡ drop (entry_bytes * (i + 1)) reading = drop-drop entry_bytes (entry_bytes * i) reading ∙ ap (λ (n : ℕ). drop n reading) c in
    let d : drop i starts ≡ get_or starts i 0 ∷ drop (i + 1) starts = drop-cons starts i 0 h ∙ ap (λ (n : ℕ). get_or starts i 0 ∷ drop n starts) (sym (add-one i)) in
    rw (d, e, k, w, v, x, f, g)

-- where the rest i comes next: what is left, put from here on, makes what the whole makes
pub record Going (old : Page) (starts ends reading : List ℕ) (page : Page) (i : ℕ) : Type 0 where
  pub room : page.len + line_at_most * (length starts - i) ≤ roomy
  pub bytes : sets old.bytes.now old.len (rests_of starts ends reading) ≡ sets page.bytes.now page.len (lines_on starts ends reading i)
  pub place : old.len + length (rests_of starts ends reading) ≡ page.len + length (lines_on starts ends reading i)
  pub same : page.bytes.ghost_name ≡ old.bytes.ghost_name

pub going_first : {old : Page} {starts ends reading : List ℕ} → Readable old starts ends reading → Going old starts ends reading old 0
going_first r = record { room = omega (arith, r.room); bytes = refl; place = refl; same = refl }

module _ {old : Page} {starts ends reading : List ℕ} {page : Page} {i : ℕ} (g : Going old starts ends reading page i) where
  pub going_on : {page' : Page} {kind week carrier : ℕ} → i < length starts
      → kind ≡ get_or reading (entry_bytes * i) 0 → week ≡ get_or reading (entry_bytes * i + 1) 0
      → carrier ≡ carrier_of (get_or reading (entry_bytes * i + 2) 0) (get_or reading (entry_bytes * i + 3) 0)
      → Puts page (rest_text (get_or starts i 0) (get_or ends i 0) kind week carrier) page' → Going old starts ends reading page' (i + 1)
  going_on {page'} {kind} {week} {carrier} h a b c p =
      let l : List ℕ = rest_text (get_or starts i 0) (get_or ends i 0) kind week carrier in
      let e : lines_on starts ends reading i ≡ l ++ lines_on starts ends reading (i + 1) = rw (a, b, c) (lines_next starts ends reading i h) in
      let s = rest_short (get_or starts i 0) (get_or ends i 0) kind week carrier in
      record {
        room = omega (arith, g.room, p.put.next_is, s);
        bytes = g.bytes ∙ ap (sets page.bytes.now page.len) e ∙ sets_append page.bytes.now page.len l (lines_on starts ends reading (i + 1)) ∙ rw (p.put.next_is, p.put.text_is) refl;
        place = g.place ∙ ap (λ (x : List ℕ). page.len + length x) e ∙ rw (length-append) (omega (arith, p.put.next_is));
        same = p.same ∙ g.same;
      }

  pub going_done : i ≡ length starts → Puts old (rests_of starts ends reading) page
  unfolding rests_of
  going_done e =
      let none : lines_on starts ends reading i ≡ [] = rw (e, drop-length) refl in
      record {
        put = record { next_is = omega (arith, g.place, ap length none); text_is = sym (g.bytes ∙ ap (sets page.bytes.now page.len) none) };
        same = g.same;
      }
