-- What writing keeps: from the place that is reached, the minutes that are left make what the whole recording makes. Assumes nothing.
use mathlib.Core.Path.{◌≡◌, refl, sym, ap, ◌∙◌}
use mathlib.Core.Logic.{◌⊎◌, inl, inr}
use mathlib.Core.Bool.{Bool, true, false, not}
use mathlib.Core.List.{List, [], ◌∷◌, ◌++◌, append-nil, append_assoc}
use Prim.Native.Nat.{ℕ, zero, suc, ◌+◌, ◌-◌, ◌*◌, ◌≤◌, ◌<◌, min}
use native.Mathlib.Omega.{arith}
use lib.Dec.{eqb}
use lib.ListN.{length, take, drop, replicate, length-append, length-drop, length-replicate, replicate-append-replicate}
use lib.Seq.{take-append-add, drop-append-add, take_at, drop_at, take-nil, drop-nil, sets}
use borrow.Author.Tests.{eq-eqb, ne_eqb, eqb-true, eqb-false}
use Rattle.recording.specs.Tests.{pick}
use Rattle.recording.specs.Words.{activities, code_of, word_of, minutes_in, activity_in, minutes_of}
use Rattle.recording.specs.Weeks.{week_minutes}
use Rattle.recording.specs.Operations.{total_at_most}
use Rattle.recording.proofs.TestLaws.{less_or_not}
use Rattle.text_lines.specs.Form.{line_end, recording_line, week_line, closing_line, line_text, text_of_lines, runs_then, weeks_then_end}
use Rattle.text.specs.Writing.{joined, weeks_within, weeks_joined, text_of_minutes}
use Rattle.text.specs.Page.{Put, Puts}
use Rattle.text.specs.Passes.{roomy, FirstRun, same_words, same_minutes, EachSome, none, next, in_week, lines_left, part_lines, left_after}
use Rattle.text_lines.specs.declared.Line.{Line}
use Rattle.text_lines.specs.declared.Line.TheVariants as line
use Rattle.recording.specs.declared.Run.{Run}
use Rattle.text.specs.declared.page.Page.{Page}
use Rattle.recording.proofs.Slices.{sets_append}
use Rattle.text.proofs.Puts.{ended, puts_then, part_text, pick_short, name_short, number_short, code_small}
use Rattle.recording.proofs.WordLaws.{Coded, no_minute, coded_take, coded_minutes}
use Rattle.text.proofs.Joining.{starts_with, joined_run, weeks_next}

-- ---- a part of a run
week_begins : (ms : List ℕ) → 1 ≤ length ms → weeks_then_end (weeks_joined ms) ≡ line.Week ∷ in_week week_minutes ms
unfolding in_week weeks_then_end
week_begins ms h = rw (weeks_next ms h)

whole_run : (a : ℕ) → a < activities → (n : ℕ) → 1 ≤ n → joined (replicate n a) ≡ word_of n a ∷ []
unfolding joined starts_with
whole_run a code n h = ap joined (sym (append-nil (replicate n a))) ∙ joined_run n a h code no_minute refl

lines_begun : (left : ℕ) (ms : List ℕ) → 1 ≤ length ms → lines_left left ms ≡ pick (eqb left week_minutes) (line.Week ∷ []) [] ++ in_week left ms
unfolding lines_left
lines_begun left ms h = go (eqb left week_minutes) refl
  where
    go : (b : Bool) → eqb left week_minutes ≡ b → pick b (weeks_then_end (weeks_joined ms)) (in_week left ms) ≡ pick b (line.Week ∷ []) [] ++ in_week left ms
    go true e = week_begins ms h ∙ ap (λ (n : ℕ). line.Week ∷ in_week n ms) (sym (eqb-true left week_minutes e))
    go false e = refl

starts_take : (a k : ℕ) (ms : List ℕ) → starts_with a ms ≡ false → starts_with a (take k ms) ≡ false
unfolding starts_with
starts_take a zero ms s = refl
starts_take a (suc k) [] s = refl
starts_take a (suc k) (b ∷ ms) s = s

module _ (a : ℕ) (code : a < activities) {ms : List ℕ} (c : Coded ms) (s : starts_with a ms ≡ false) where
  -- the run ends before the week
  short_part : (left n : ℕ) → 1 ≤ n → n < left → in_week left (replicate n a ++ ms) ≡ line.Run (word_of n a) ∷ in_week (left - n) ms
  unfolding in_week runs_then
  short_part left n h l =
      let e : length (replicate n a) + (left - n) ≡ left = omega (arith, length-replicate n a) in
      let t : take left (replicate n a ++ ms) ≡ replicate n a ++ take (left - n) ms = ap (λ (k : ℕ). take k (replicate n a ++ ms)) (sym e) ∙ take-append-add (replicate n a) ms (left - n) in
      let d : drop left (replicate n a ++ ms) ≡ drop (left - n) ms = ap (λ (k : ℕ). drop k (replicate n a ++ ms)) (sym e) ∙ drop-append-add (replicate n a) ms (left - n) in
      rw (t, d, joined_run n a h code (coded_take (left - n) c) (starts_take a (left - n) ms s))

  -- the week ends before the run, or with it
  full_part : (left n : ℕ) → 1 ≤ left → left ≤ n
      → in_week left (replicate n a ++ ms) ≡ line.Run (word_of left a) ∷ line.Closing ∷ weeks_then_end (weeks_joined (replicate (n - left) a ++ ms))
  unfolding in_week runs_then
  full_part left n h l =
      let z : left + (n - left) ≡ n = omega arith in
      let e : replicate n a ++ ms ≡ replicate left a ++ (replicate (n - left) a ++ ms) =
      ap (λ (k : ℕ). replicate k a ++ ms) (sym z) ∙ ap (λ (xs : List ℕ). xs ++ ms) (sym (replicate-append-replicate left (n - left) a))
      ∙ append_assoc (replicate left a) (replicate (n - left) a) ms in
      let t : take left (replicate n a ++ ms) ≡ replicate left a = ap (take left) e ∙ take_at (replicate left a) _ left (length-replicate left a) in
      let d : drop left (replicate n a ++ ms) ≡ replicate (n - left) a ++ ms = ap (drop left) e ∙ drop_at (replicate left a) _ left (length-replicate left a) in
      let j : joined (replicate left a) ≡ word_of left a ∷ [] = whole_run a code left h in
      rw (t, d, j)

  part_there : (left n : ℕ) → 1 ≤ n → 1 ≤ left → left ≤ week_minutes → (n < left) ⊎ (left ≤ n)
      → in_week left (replicate n a ++ ms)
      ≡ line.Run (word_of (min n left) a) ∷ (pick (eqb left (min n left)) (line.Closing ∷ []) [] ++ lines_left (left_after left (min n left)) (replicate (n - min n left) a ++ ms))
  unfolding lines_left left_after
  part_there left n h k u (inl l) =
      let m : min n left ≡ n = omega arith in
      let z : n - n ≡ 0 = omega arith in
      rw (m, z, ne_eqb left n (λ e. omega arith)) (rw (ne_eqb (left - n) week_minutes (λ e. omega arith)) (short_part left n h l))
  part_there left n h k u (inr l) =
      let m : min n left ≡ left = omega arith in
      rw (m, eq-eqb left left refl) (full_part left n k l)

  pub part_lines_law : (left n : ℕ) → 1 ≤ n → 1 ≤ left → left ≤ week_minutes
      → lines_left left (replicate n a ++ ms)
      ≡ part_lines left (min n left) (word_of (min n left) a) ++ lines_left (left_after left (min n left)) (replicate (n - min n left) a ++ ms)
  unfolding part_lines
  part_lines_law left n h k u =
      lines_begun left (replicate n a ++ ms) (rw (length-append, length-replicate) (omega arith))
      ∙ ap (λ (ls : List Line). pick (eqb left week_minutes) (line.Week ∷ []) [] ++ ls) (part_there left n h k u (less_or_not n left))
      ∙ sym (append_assoc (pick (eqb left week_minutes) (line.Week ∷ []) []) _ _)

-- ---- the words in front
same_minutes_law : (a : ℕ) (ws : List ℕ) → minutes_of ws ≡ replicate (same_minutes a ws) a ++ minutes_of (drop (same_words a ws) ws)
unfolding minutes_of same_minutes same_words
same_minutes_law a [] = refl
same_minutes_law a (w ∷ ws) = go (eqb (activity_in w) a) refl (same_minutes_law a ws)
  where
    go : (b : Bool) → eqb (activity_in w) a ≡ b → minutes_of ws ≡ replicate (same_minutes a ws) a ++ minutes_of (drop (same_words a ws) ws)
        → replicate (minutes_in w) (activity_in w) ++ minutes_of ws
        ≡ replicate (pick b (minutes_in w + same_minutes a ws) 0) a ++ minutes_of (drop (pick b (suc (same_words a ws)) 0) (w ∷ ws))
    go true e ih =
        let x : activity_in w ≡ a = eqb-true (activity_in w) a e in
        ap (λ (b : ℕ). replicate (minutes_in w) b ++ minutes_of ws) x
        ∙ ap (λ (l : List ℕ). replicate (minutes_in w) a ++ l) ih
        ∙ sym (append_assoc (replicate (minutes_in w) a) (replicate (same_minutes a ws) a) (minutes_of (drop (same_words a ws) ws)))
        ∙ ap (λ (l : List ℕ). l ++ minutes_of (drop (same_words a ws) ws)) (replicate-append-replicate (minutes_in w) (same_minutes a ws) a)
    go false e ih = refl

starts_run : (a b n : ℕ) (ms : List ℕ) → 1 ≤ n → (b ≡ a → ⊥) → starts_with a (replicate n b ++ ms) ≡ false
unfolding starts_with
starts_run a b zero ms h z = absurd (omega arith)
starts_run a b (suc n) ms h z = ne_eqb a b (λ e. z (sym e))

same_apart : (a : ℕ) {ws : List ℕ} → EachSome ws → starts_with a (minutes_of (drop (same_words a ws) ws)) ≡ false
unfolding minutes_of same_words starts_with
same_apart a none = refl
same_apart a (next {w = w} {ws = ws} h e) = go (eqb (activity_in w) a) refl (same_apart a e)
  where
    go : (b : Bool) → eqb (activity_in w) a ≡ b → starts_with a (minutes_of (drop (same_words a ws) ws)) ≡ false
        → starts_with a (minutes_of (drop (pick b (suc (same_words a ws)) 0) (w ∷ ws))) ≡ false
    go true e ih = ih
    go false e ih = starts_run a (activity_in w) (minutes_in w) (minutes_of ws) h (eqb-false (activity_in w) a e)

each_drop : (i : ℕ) {ws : List ℕ} → EachSome ws → EachSome (drop i ws)
each_drop zero e = e
each_drop (suc i) none = none
each_drop (suc i) (next h e) = each_drop i e

-- ---- what is left to write, from the place that is reached
abbrev pub left_text : ℕ → ℕ → ℕ → List ℕ → List ℕ
left_text left a n ws = text_of_lines (lines_left left (replicate n a ++ minutes_of ws))

-- the lines after the first
abbrev pub body_text : List ℕ → List ℕ
body_text words = text_of_lines (lines_left week_minutes (minutes_of words))

-- what is left, after the page so far, makes what the whole, of so many minutes, makes after the page at the start
pub record Writing (start : Page) (whole : List ℕ) (total : ℕ) (page : Page) (left a n : ℕ) (rest : List ℕ) : Type 0 where
  pub each : EachSome rest
  pub some : 1 ≤ left
  pub most : left ≤ week_minutes
  pub code : a < activities
  pub apart : 1 ≤ n → starts_with a (minutes_of rest) ≡ false
  pub text_is : sets start.bytes.now start.len whole ≡ sets page.bytes.now page.len (left_text left a n rest)
  pub place : start.len + length whole ≡ page.len + length (left_text left a n rest)
  pub less : n + length (minutes_of rest) ≤ total
  pub room : page.len + 64 * (n + length (minutes_of rest)) ≤ start.len + 64 * total
  pub same : page.bytes.ghost_name ≡ start.bytes.ghost_name

lines_text : (xs ys : List Line) → text_of_lines (xs ++ ys) ≡ text_of_lines xs ++ text_of_lines ys
unfolding text_of_lines
lines_text [] ys = refl
lines_text (x ∷ xs) ys = ap (λ (l : List ℕ). line_text x ++ line_end ∷ l) (lines_text xs ys) ∙ sym (append_assoc (line_text x) (line_end ∷ text_of_lines xs) (text_of_lines ys))

module _ {t u xs : List ℕ} {at next : ℕ} (p : Put t at xs next u) (whole later : List ℕ) (e : whole ≡ xs ++ later) where
  carried : sets t at whole ≡ sets u next later
  carried = ap (sets t at) e ∙ sets_append t at xs later ∙ rw (p.text_is, p.next_is) refl

  placed : at + length whole ≡ next + length later
  placed = rw (e, length-append, p.next_is) (omega arith)

first_text : (ms : List ℕ) → text_of_minutes ms ≡ ended recording_line ++ text_of_lines (lines_left week_minutes ms)
unfolding text_of_lines line_text lines_left
first_text ms = refl

end_text : (left : ℕ) → text_of_lines (lines_left left (minutes_of [])) ≡ pick (not (eqb left week_minutes)) (ended closing_line) [] ++ ended closing_line
unfolding text_of_lines line_text lines_left in_week weeks_joined weeks_within weeks_then_end runs_then joined minutes_of
end_text left = rw (take-nil left, drop-nil left) (go (eqb left week_minutes))
  where
    go : (b : Bool) → text_of_lines (pick b (line.Closing ∷ []) (line.Closing ∷ line.Closing ∷ [])) ≡ pick (not b) (ended closing_line) [] ++ ended closing_line
    go true = refl
    go false = refl

-- before the first run, and before the first part of one
pub start_writing : (words : List ℕ) (start : Page) → EachSome words → Writing start (body_text words) (length (minutes_of words)) start week_minutes 0 0 words
start_writing words start e = record {
  each = e;
  some = omega arith;
  most = omega arith;
  code = omega arith;
  apart = λ h. absurd (omega arith);
  text_is = refl;
  place = refl;
  less = omega arith;
  room = omega arith;
  same = refl;
}

part_length : (left n a : ℕ) → a < activities → length (text_of_lines (part_lines left n (word_of n a))) ≤ 64
part_length left n a h =
    rw (part_text left n a h, length-append, length-append, length-append, length-append)
    (omega (arith, pick_short (eqb left week_minutes) (ended week_line), name_short a, number_short n, pick_short (eqb left n) (ended closing_line)))

left_some : (left n : ℕ) → 1 ≤ left → left ≤ week_minutes → n ≤ left → (1 ≤ left_after left n) × (left_after left n ≤ week_minutes)
unfolding left_after
left_some left n h k l = go (eqb left n) refl
  where
    go : (b : Bool) → eqb left n ≡ b → (1 ≤ pick b week_minutes (left - n)) × (pick b week_minutes (left - n) ≤ week_minutes)
    go true e = (omega arith, omega arith)
    go false e = let z : left ≡ n → ⊥ = eqb-false left n e in (omega arith, omega arith)

module _ {start page : Page} {whole rest : List ℕ} {total left a n : ℕ} (w : Writing start whole total page left a n rest) where
  pub at-roomy : total ≤ total_at_most → start.len ≤ 64 → page.len ≤ roomy
  at-roomy h l = omega (arith, w.room)

  -- from here on
  pub from_here : Writing page (left_text left a n rest) (n + length (minutes_of rest)) page left a n rest
  from_here = record {
    each = w.each;
    some = w.some;
    most = w.most;
    code = w.code;
    apart = w.apart;
    text_is = refl;
    place = refl;
    less = omega arith;
    room = omega arith;
    same = refl;
  }

  pub further : {page' : Page} {left' a' n' : ℕ} {rest' : List ℕ} → Writing page (left_text left a n rest) (n + length (minutes_of rest)) page' left' a' n' rest'
      → Writing start whole total page' left' a' n' rest'
  further v = record {
    each = v.each;
    some = v.some;
    most = v.most;
    code = v.code;
    apart = v.apart;
    text_is = w.text_is ∙ v.text_is;
    place = w.place ∙ v.place;
    less = omega (arith, w.less, v.less);
    room = omega (arith, w.room, v.room);
    same = v.same ∙ w.same;
  }

  pub part_on : {part left' : ℕ} {page' : Page} → 1 ≤ n → part ≡ min n left → Puts page (text_of_lines (part_lines left part (word_of part a))) page'
      → left' ≡ left_after left part → Writing start whole total page' left' a (n - part) rest
  part_on {part} {left'} {page'} h m p q =
      let r : part ≤ left = omega arith in
      let ls = left_some left part w.some w.most r in
      let e : left_text left a n rest ≡ text_of_lines (part_lines left part (word_of part a)) ++ left_text left' a (n - part) rest =
      ap text_of_lines (part_lines_law a w.code (coded_minutes rest) (w.apart h) left n h w.some w.most ∙ rw (q, m) refl)
      ∙ lines_text (part_lines left part (word_of part a)) _ in
      let k = placed p.put (left_text left a n rest) (left_text left' a (n - part) rest) e in
      let b = part_length left part a w.code in
      record {
        each = w.each;
        some = rw q ls.0;
        most = rw q ls.1;
        code = w.code;
        apart = λ _. w.apart h;
        text_is = w.text_is ∙ carried p.put (left_text left a n rest) (left_text left' a (n - part) rest) e;
        place = w.place ∙ k;
        less = omega (arith, w.less);
        room = omega (arith, w.room, w.some, p.put.next_is);
        same = p.same ∙ w.same;
      }

  -- the next run
  module _ (z : n ≡ 0) {run : Run} {after : List ℕ} (f : FirstRun rest run after) where
    abbrev next_code : ℕ
    next_code = code_of run.activity

    fetched : replicate n a ++ minutes_of rest ≡ replicate run.minutes next_code ++ minutes_of after
    fetched =
        ap (λ (k : ℕ). replicate k a ++ minutes_of rest) z
        ∙ same_minutes_law next_code rest
        ∙ rw (← f.minutes, ← f.after_is) refl

    fetched_length : n + length (minutes_of rest) ≡ run.minutes + length (minutes_of after)
    fetched_length = rw (length-append, length-append, length-replicate, length-replicate) at (ap length fetched)

    pub fetch_on : Writing start whole total page left next_code run.minutes after
    fetch_on =
        let t : left_text left a n rest ≡ left_text left next_code run.minutes after = ap (λ (ms : List ℕ). text_of_lines (lines_left left ms)) fetched in
        record {
          each = rw f.after_is (each_drop (same_words next_code rest) w.each);
          some = w.some;
          most = w.most;
          code = code_small run.activity;
          apart = λ _. rw f.after_is (same_apart next_code w.each);
          text_is = w.text_is ∙ ap (sets page.bytes.now page.len) t;
          place = w.place ∙ ap (λ (l : List ℕ). page.len + length l) t;
          less = omega (arith, w.less, fetched_length);
          room = omega (arith, w.room, fetched_length);
          same = w.same;
        }

  pub run_done : n ≡ 0 → Writing start whole total page left 0 0 rest
  run_done z = record {
    each = w.each;
    some = w.some;
    most = w.most;
    code = omega arith;
    apart = λ h. absurd (omega arith);
    text_is = w.text_is ∙ rw z refl;
    place = w.place ∙ rw z refl;
    less = omega (arith, w.less);
    room = omega (arith, w.room);
    same = w.same;
  }

  -- at the end
  pub write_end : (words : List ℕ) {first mid last : Page} → whole ≡ body_text words → n ≡ 0 → rest ≡ [] → first.len ≡ 0 → Puts first (ended recording_line) start
      → Puts page (pick (not (eqb left week_minutes)) (ended closing_line) []) mid → Puts mid (ended closing_line) last
      → Puts first (text_of_minutes (minutes_of words)) last
  write_end words {first} {mid} {last} g z e o f p q =
      let k = puts_then p q in
      let t : left_text left a n rest ≡ pick (not (eqb left week_minutes)) (ended closing_line) [] ++ ended closing_line =
      ap (λ (m : ℕ). left_text left a m rest) z ∙ ap (λ (l : List ℕ). text_of_lines (lines_left left (minutes_of l))) e ∙ end_text left in
      let b : Puts start (body_text words) last = record {
        put = record {
          next_is = k.put.next_is ∙ ap (λ (l : List ℕ). page.len + length l) (sym t) ∙ sym w.place ∙ ap (λ (l : List ℕ). start.len + length l) g;
          text_is = k.put.text_is ∙ ap (sets page.bytes.now page.len) (sym t) ∙ sym w.text_is ∙ ap (sets start.bytes.now start.len) g;
        };
        same = k.same ∙ w.same;
      } in
      rw (first_text (minutes_of words)) (puts_then f b)

pub run_shorter : {rest after : List ℕ} {run : Run} → FirstRun rest run after → length after < length rest
unfolding same_words
run_shorter {rest} {after} {run} f = go rest f.moved (ap length f.after_is ∙ length-drop _ _)
  where
    go : (ws : List ℕ) → 1 ≤ same_words (code_of run.activity) ws → length after ≡ length ws - same_words (code_of run.activity) ws → length after < length ws
    go [] h e = absurd (omega arith)
    go (w ∷ ws) h e = omega arith
