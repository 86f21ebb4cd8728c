-- The lines of the spans of weeks, put one after another, their page and its length. Assumes nothing.
use mathlib.Core.Path.{◌≡◌, refl, sym, ap, ◌∙◌}
use mathlib.Core.List.{List, [], ◌∷◌, ◌++◌, append-nil, append_assoc}
use Prim.Native.Nat.{ℕ, zero, suc, ◌+◌, ◌*◌, ◌≤◌, ◌<◌}
use native.Mathlib.Numerals.{add-one}
use native.Mathlib.Omega.{arith}
use lib.ListN.{length, take, drop, get_or, length-append, length-take}
use lib.Seq.{take_all, take_at}
use borrow.Author.Tests.{le-ltb}
use Rattle.recording.specs.Answers.{Answer, refused, answered, counted, filled}
use Rattle.recording.specs.Words.{minutes_of}
use Rattle.recording.specs.Operations.{measured}
use Rattle.recording.specs.declared.Measure.{Measure}
use Rattle.recording.proofs.Listing.{measured_is}
use Rattle.rules.specs.Spans.{breach_spans, spans_given}
use Rattle.rules.specs.declared.Weeks.{Weeks}
use Rattle.text.specs.declared.page.Page.{Page}
use Rattle.text.specs.Page.{Puts}
use Rattle.text.specs.Passes.{roomy}
use Rattle.text.proofs.Puts.{puts_then, puts_none}
use Rattle.verdict_spans.specs.Mondays.{weeks_at_most}
use Rattle.verdict_spans.proofs.Putting.{spans_few}
use Rattle.desk_lines.specs.Lines.{weeks_name, weeks_text}
use Rattle.desk_report.specs.Printed.{weeks_lines, spans_page, spans_text}
use Rattle.desk_report.specs.Composing.{line_at_most, around_at_most, refusal_page}
use Rattle.desk_report.proofs.Sizes.{span_short}
use Rattle.desk_report.proofs.Pages.{refusal_size}

-- ---- how long they are
weeks_short : (a b : ℕ) → length (weeks_text a b) ≤ line_at_most
unfolding weeks_text
weeks_short a b = rw length-append (omega (arith, span_short weeks_name a b))

pub lines_short : (ss : List Weeks) → length (weeks_lines ss) ≤ line_at_most * length ss
unfolding weeks_lines
lines_short [] = omega arith
lines_short (s ∷ ss) = rw length-append (omega (arith, weeks_short s.first s.last, lines_short ss))

-- ---- one line more
lines_append : (ss : List Weeks) (s : Weeks) → weeks_lines (ss ++ s ∷ []) ≡ weeks_lines ss ++ weeks_text s.first s.last
unfolding weeks_lines
lines_append [] s = append-nil (weeks_text s.first s.last)
lines_append (x ∷ ss) s =
    ap (λ (l : List ℕ). weeks_text x.first x.last ++ l) (lines_append ss s) ∙ sym (append_assoc (weeks_text x.first x.last) (weeks_lines ss) (weeks_text s.first s.last))

pub take_more : (ss : List Weeks) (i : ℕ) (d : Weeks) → i < length ss → take (i + 1) ss ≡ take i ss ++ get_or ss i d ∷ []
take_more [] i d h = absurd (omega arith)
take_more (s ∷ ss) zero d h = refl
take_more (s ∷ ss) (suc i) d h =
    let k : take (suc i) ss ≡ take i ss ++ get_or ss i d ∷ [] = rw (add-one i) at (take_more ss i d (omega arith)) in
    rw (add-one (suc i)) (ap (λ (l : List Weeks). s ∷ l) k)

-- the lines of the first spans are put
pub record Lining (old : Page) (ss : List Weeks) (page : Page) (i : ℕ) : Type 0 where
  pub lines : Puts old (weeks_lines (take i ss)) page

pub start_lining : (old : Page) (ss : List Weeks) → Lining old ss old 0
unfolding weeks_lines
start_lining old ss = record { lines = puts_none old }

module _ {old : Page} {ss : List Weeks} {page : Page} {i : ℕ} (k : Lining old ss page i) where
  pub line_room : i < length ss → length ss ≤ weeks_at_most → old.len + line_at_most * weeks_at_most ≤ roomy → page.len ≤ roomy
  line_room h l r = omega (arith, k.lines.put.next_is, lines_short (take i ss), length-take i ss)

  pub line_on : (s : Weeks) {page' : Page} → take (i + 1) ss ≡ take i ss ++ s ∷ [] → Puts page (weeks_text s.first s.last) page' → Lining old ss page' (i + 1)
  line_on s e p =
      let q : weeks_lines (take i ss) ++ weeks_text s.first s.last ≡ weeks_lines (take (i + 1) ss) = sym (ap weeks_lines e ∙ lines_append (take i ss) s) in
      record { lines = rw q at (puts_then k.lines p) }

  pub lines_done : length ss ≤ i → Puts old (weeks_lines ss) page
  lines_done h = rw (take_all i ss h) at k.lines

-- ---- the page of what was found
same_number : {m n : ℕ} → ◌≡◌ {A = Answer ℕ} (refused n) (refused m) → m ≡ n
same_number e = cc

same_count : {m n : ℕ} → ◌≡◌ {A = Answer ℕ} (answered n) (answered m) → n ≡ m
same_count e = cc

no_answer : {m n : ℕ} → ◌≡◌ {A = Answer ℕ} (refused n) (answered m) → ⊥
no_answer e = let z : ◌≡◌ {A = ℕ} 0 1 = cc in omega arith

module _ (ws : List ℕ) where
  pub spans_refused : {n : ℕ} → measured ws ≡ refused n → spans_text ws ≡ refusal_page n
  unfolding spans_text
  spans_refused q = rw q refl

  pub spans_is : {k : Measure} → measured ws ≡ answered k → spans_text ws ≡ spans_page (breach_spans (minutes_of ws))
  unfolding spans_text
  spans_is q = rw q refl

  -- the list is long enough for all
  given_all : {k : Measure} → measured ws ≡ answered k → spans_given ws weeks_at_most ≡ answered (breach_spans (minutes_of ws))
  unfolding spans_given
  given_all q = rw (q, le-ltb weeks_at_most (length (breach_spans (minutes_of ws))) (spans_few (minutes_of ws) (measured_is ws q).within)) refl

  given_none : {n : ℕ} → measured ws ≡ refused n → spans_given ws weeks_at_most ≡ refused n
  unfolding spans_given
  given_none q = rw q refl

  module _ (n : ℕ) where
    pub page_refused : refused n ≡ counted (spans_given ws weeks_at_most) → spans_text ws ≡ refusal_page n
    page_refused told = at (measured ws) refl
      where
        at : (a : Answer Measure) → measured ws ≡ a → spans_text ws ≡ refusal_page n
        at (refused m) q = spans_refused q ∙ ap refusal_page (same_number (told ∙ ap counted (given_none q)))
        at (answered m) q = absurd (no_answer (told ∙ ap counted (given_all q)))

    -- the spans stand in front of the list that was lent
    pub record Listed (new : List Weeks) : Type 0 where
      pub few : n ≤ length new
      pub size : n ≡ length (take n new)
      pub most : length (take n new) ≤ weeks_at_most
      pub text : spans_text ws ≡ spans_page (take n new)

    pub page_listed : (old : List Weeks) {new : List Weeks} → length old ≡ weeks_at_most → answered n ≡ counted (spans_given ws weeks_at_most)
        → new ≡ filled (spans_given ws weeks_at_most) old → Listed new
    page_listed old {new} l told left = at (measured ws) refl
      where
        at : (a : Answer Measure) → measured ws ≡ a → Listed new
        at (refused m) q = absurd (no_answer (sym (told ∙ ap counted (given_none q))))
        at (answered m) q =
            let ss : List Weeks = breach_spans (minutes_of ws) in
            let z : n ≡ length ss = same_count (told ∙ ap counted (given_all q)) in
            let b : new ≡ ss ++ drop (length ss) old = left ∙ ap (λ (g : Answer (List Weeks)). filled g old) (given_all q) in
            let t : take n new ≡ ss = ap (take n) b ∙ take_at ss (drop (length ss) old) n (sym z) in
            record {
              few = omega (arith, ap length b, length-append ss (drop (length ss) old));
              size = z ∙ ap length (sym t);
              most = rw t (spans_few (minutes_of ws) (measured_is ws q).within);
              text = spans_is q ∙ ap spans_page (sym t);
            }

pub spans_size : (ws : List ℕ) → length (spans_text ws) ≤ line_at_most * weeks_at_most + around_at_most
spans_size ws = at (measured ws) refl
  where
    at : (a : Answer Measure) → measured ws ≡ a → length (spans_text ws) ≤ line_at_most * weeks_at_most + around_at_most
    at (refused n) q = omega (arith, ap length (spans_refused ws q), refusal_size n)
    at (answered k) q =
        let ss : List Weeks = breach_spans (minutes_of ws) in
        omega (arith, ap length (spans_is ws q), page_short ss, spans_few (minutes_of ws) (measured_is ws q).within)
      where
        page_short : (ss : List Weeks) → length (spans_page ss) ≤ 9 + line_at_most * length ss
        page_short ss = simp length-append (omega (arith, lines_short ss))
