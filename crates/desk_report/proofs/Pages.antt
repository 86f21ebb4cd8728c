-- Whole pages: what stands at the end of each, and how long it is. Assumes nothing.
use mathlib.Core.Path.{◌≡◌, refl, sym, ap, ◌∙◌}
use mathlib.Core.List.{List, [], ◌∷◌, ◌++◌, map, append_assoc}
use Prim.Native.Nat.{ℕ, zero, ◌+◌, ◌*◌, ◌≤◌}
use native.Mathlib.Omega.{arith}
use lib.ListN.{length, take, drop, get_or, replicate, length-append, length-take, length-map, length-replicate}
use lib.Seq.{sets-eq, take_at}
use Rattle.recording.specs.Words.{minutes_of}
use Rattle.recording.specs.Rests.{judged_end, long_rests, long_rests_at_most}
use Rattle.recording.specs.Operations.{total_at_most}
use Rattle.recording.specs.Scan.{place_of, origin, written_from, Scanned, words_in}
use Rattle.recording.specs.declared.recorded.Recording.{Recording}
use Rattle.recording.specs.declared.Span.{Span}
use Rattle.recording.specs.declared.Place.{Place}
use Rattle.recording.proofs.LongRests.{few_rests}
use Rattle.recording.proofs.Scanning.{scan_total, scan_end, scan_count, scan_written}
use Rattle.rules.specs.Reading.{entry_bytes, reading_size, carrier_of}
use Rattle.rules.specs.Verdict.{Verdict, pass, breach}
use Rattle.text.specs.declared.page.Page.{Page}
use Rattle.text.specs.Page.{places, Puts}
use Rattle.text.proofs.Puts.{puts_then}
use Rattle.desk_lines.specs.Lines.{as_line, closed, verdict_name, minutes_name, judged_name, reading_name, refused_name, numbered, breach_text}
use Rattle.desk_report.specs.Printed.{rests_text}
use Rattle.desk_report.specs.Composing.{line_at_most, around_at_most, rests_of, Readable, refusal_page, page_of, pass_head, Read, Roomy}
use Rattle.desk_report.proofs.Sizes.{numbered_short, rest_short, breach_short}
use Rattle.desk_report.proofs.RestLines.{rests_lines}

-- ---- a breach
pub breach_whole : (ws : List ℕ) (m a : ℕ) {p : Place} {t u : Page} → p ≡ place_of origin ws
    → Puts t (as_line verdict_name ++ numbered minutes_name p.now ++ breach_text m a ++ closed) u → Puts t (page_of (minutes_of ws) (breach m a)) u
breach_whole ws m a {p} e put =
    let n : p.now ≡ length (minutes_of ws) = ap (λ (x : Place). x.now) e ∙ scan_total ws in
    rw n at put

-- ---- a pass
pub head_short : (n s : ℕ) → length (pass_head n s) ≤ 51
head_short n s =
    rw (length-append, length-append) (omega (arith, numbered_short minutes_name n, numbered_short judged_name s))

pub rests_short : (starts ends reading : List ℕ) → length (rests_of starts ends reading) ≤ line_at_most * length starts
unfolding rests_of
rests_short [] ends reading = omega arith
rests_short (s ∷ starts) ends reading =
    rw length-append
    (omega (
      arith,
      rest_short s (get_or ends 0 0) (get_or reading 0 0) (get_or reading 1 0) (carrier_of (get_or reading 2 0) (get_or reading 3 0)),
      rests_short starts (drop 1 ends) (drop entry_bytes reading),
    ))

regroup : (v m j r l c : List ℕ) → v ++ m ++ j ++ r ++ l ++ (c ++ c) ≡ v ++ (m ++ (j ++ r ++ l ++ c)) ++ c
regroup v m j r l c = simp append_assoc

pass_bytes : (n s : ℕ) (lines : List ℕ) → pass_head n s ++ lines ++ (closed ++ closed)
    ≡ as_line verdict_name ++ (numbered minutes_name n ++ (numbered judged_name s ++ as_line reading_name ++ lines ++ closed)) ++ closed
pass_bytes n s lines = regroup (as_line verdict_name) (numbered minutes_name n) (numbered judged_name s) (as_line reading_name) lines closed

-- a word of no minutes in front changes nothing
no_minutes : (ws : List ℕ) → minutes_of (0 ∷ ws) ≡ minutes_of ws
unfolding minutes_of
no_minutes ws = refl

-- a number of each long rest, in front of a slice that has room
module _ (ws : List ℕ) (within : length (minutes_of ws) ≤ total_at_most) where
  front_is : (f : Span → ℕ) (out : List ℕ) → length (long_rests (minutes_of ws)) ≤ length out → take (place_of origin ws).count (written_from f origin ws out) ≡ map f (long_rests (minutes_of ws))
  front_is f out room =
      let l : length (map f (long_rests (minutes_of ws))) ≡ (place_of origin ws).count = length-map (long_rests (minutes_of ws)) f ∙ sym (scan_count ws) in
      let k : 0 + length (map f (long_rests (minutes_of ws))) ≤ length out = omega (arith, length-map (long_rests (minutes_of ws)) f) in
      ap (take (place_of origin ws).count) (scan_written f ws out ∙ sets-eq (map f (long_rests (minutes_of ws))) out 0 k)
      ∙ take_at (map f (long_rests (minutes_of ws))) _ (place_of origin ws).count l

  module _ {p : Place} {s e s' e' : List ℕ} (scanned : Scanned ws s e p s' e') (begun : length (long_rests (minutes_of ws)) ≤ length s)
      (ended : length (long_rests (minutes_of ws)) ≤ length e) where
    count_is : p.count ≡ length (long_rests (minutes_of ws))
    count_is = ap (λ (x : Place). x.count) scanned.place ∙ scan_count ws

    count_few : p.count ≤ long_rests_at_most
    count_few = omega (arith, count_is, few_rests (minutes_of ws) within)

    starts_are : take p.count s' ≡ map (λ (x : Span). x.start) (long_rests (minutes_of ws))
    starts_are = rw (scanned.place, scanned.begun) (front_is (λ x. x.start) s begun)

    ends_are : take p.count e' ≡ map (λ (x : Span). x.end) (long_rests (minutes_of ws))
    ends_are = rw (scanned.place, scanned.ended) (front_is (λ x. x.end) e ended)

    pub starts_size : p.count ≡ length (take p.count s')
    starts_size = sym (ap length starts_are ∙ length-map (long_rests (minutes_of ws)) (λ (x : Span). x.start) ∙ sym count_is)

    pub ends_size : p.count ≡ length (take p.count e')
    ends_size = sym (ap length ends_are ∙ length-map (long_rests (minutes_of ws)) (λ (x : Span). x.end) ∙ sym count_is)

    pub starts_fit : p.count ≤ length s'
    starts_fit = omega (arith, starts_size, length-take p.count s')

    pub ends_fit : p.count ≤ length e'
    ends_fit = omega (arith, ends_size, length-take p.count e')

    module _ (reading : List ℕ) (size : length reading ≡ reading_size (minutes_of ws)) {t u : Page} (new : t.len ≡ 0)
        (head : Puts t (pass_head p.now p.from) u) where
      pub readable : Readable u (take p.count s') (take p.count e') reading
      unfolding reading_size
      readable = record {
        room = omega (arith, starts_size, count_few, head.put.next_is, head_short p.now p.from);
        ended = omega (arith, starts_size, ends_size);
        read = omega (arith, starts_size, count_is, size);
      }

      module _ {v : Page} (lines : Puts u (rests_of (take p.count s') (take p.count e') reading) v) where
        pub closing_room : v.len + 4 ≤ places
        closing_room =
            omega (
              arith,
              starts_size,
              count_few,
              head.put.next_is,
              lines.put.next_is,
              head_short p.now p.from,
              rests_short (take p.count s') (take p.count e') reading,
            )

        pub pass_whole : {x : Page} → Puts v (closed ++ closed) x → Puts t (page_of (minutes_of ws) (pass reading)) x
        pass_whole {x} put =
            let n : p.now ≡ length (minutes_of ws) = ap (λ (y : Place). y.now) scanned.place ∙ scan_total ws in
            let j : p.from ≡ judged_end (minutes_of ws) = ap (λ (y : Place). y.from) scanned.place ∙ scan_end ws in
            let l : rests_of (take p.count s') (take p.count e') reading ≡ rests_text (long_rests (minutes_of ws)) reading =
            rw (starts_are, ends_are) (rests_lines (long_rests (minutes_of ws)) reading) in
            let b : pass_head p.now p.from ++ rests_of (take p.count s') (take p.count e') reading ++ (closed ++ closed) ≡ page_of (minutes_of ws) (pass reading) =
            rw (l, n, j) (pass_bytes (length (minutes_of ws)) (judged_end (minutes_of ws)) (rests_text (long_rests (minutes_of ws)) reading)) in
            rw b at (puts_then (puts_then head lines) put)

-- .. over arrays that are long enough, and a recording whose first word has no minutes
module _ (ws : List ℕ) {reading : List ℕ} {rests : ℕ} (read : Read ws reading) (roomy : Roomy ws rests) (r : Recording) {p : Place} {s e : List ℕ}
    (h : r.head ≡ 0) (w : r.words.now ≡ ws) (scanned : Scanned (words_in r) (replicate rests 0) (replicate rests 0) p s e) where
  whole : Scanned (0 ∷ ws) (replicate rests 0) (replicate rests 0) p s e
  whole = rw (h, w) at scanned

  within : length (minutes_of (0 ∷ ws)) ≤ total_at_most
  within = rw (no_minutes ws) read.within

  enough : length (long_rests (minutes_of (0 ∷ ws))) ≤ length (replicate {A = ℕ} rests 0)
  enough = rw (no_minutes ws, length-replicate) roomy.enough

  size : length reading ≡ reading_size (minutes_of (0 ∷ ws))
  size = read.size ∙ ap reading_size (sym (no_minutes ws))

  pub count_fits : p.count ≤ rests
  count_fits = omega (arith, starts_size (0 ∷ ws) within whole enough enough, length-take p.count s, counted, enough, length-replicate rests zero)
    where
      counted : p.count ≡ length (long_rests (minutes_of (0 ∷ ws)))
      counted = count_is (0 ∷ ws) within whole enough enough

  module _ {t u : Page} (new : t.len ≡ 0) (head : Puts t (pass_head p.now p.from) u) where
    pub lines_readable : Readable u (take p.count s) (take p.count e) reading
    lines_readable = readable (0 ∷ ws) within whole enough enough reading size new head

    module _ {v : Page} (lines : Puts u (rests_of (take p.count s) (take p.count e) reading) v) where
      pub room_left : v.len + 4 ≤ places
      room_left = closing_room (0 ∷ ws) within whole enough enough reading size new head lines

      pub pass_there : {x : Page} → Puts v (closed ++ closed) x → Puts t (page_of (minutes_of ws) (pass reading)) x
      pass_there put = rw (no_minutes ws) at (pass_whole (0 ∷ ws) within whole enough enough reading size new head lines put)

-- ---- how long a page is
pub rests_text_short : (rs : List Span) (reading : List ℕ) → length (rests_text rs reading) ≤ line_at_most * length rs
rests_text_short rs reading =
    omega (
      arith,
      ap length (rests_lines rs reading),
      rests_short (map (λ (s : Span). s.start) rs) (map (λ (s : Span). s.end) rs) reading,
      length-map rs (λ (s : Span). s.start),
    )

pub refusal_size : (n : ℕ) → length (refusal_page n) ≤ around_at_most
refusal_size n = rw length-append (omega (arith, numbered_short refused_name n))

pub page_size : (ms : List ℕ) (v : Verdict) → length (page_of ms v) ≤ line_at_most * length (long_rests ms) + around_at_most
page_size ms (pass reading) =
    simp length-append
    (omega (arith, numbered_short minutes_name (length ms), numbered_short judged_name (judged_end ms), rests_text_short (long_rests ms) reading))
page_size ms (breach m a) = simp length-append (omega (arith, numbered_short minutes_name (length ms), breach_short m a))
