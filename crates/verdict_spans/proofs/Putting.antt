-- What the walk over the Mondays keeps, and what the arrays hold at its end. Assumes nothing.
use mathlib.Core.Path.{◌≡◌, refl, sym, ap, subst, ◌∙◌}
use mathlib.Core.Bool.{Bool, true, false}
use mathlib.Core.List.{List, [], ◌∷◌}
use Prim.Native.Nat.{ℕ, zero, suc, ◌+◌, ◌-◌, ◌*◌, ◌≤◌, ◌<◌}
use native.Mathlib.Omega.{arith}
use lib.Dec.{ltb}
use lib.ListN.{length, set, drop, length-set, length-drop}
use lib.Seq.{drop-length}
use borrow.Author.Tests.{lt-ltb, le-ltb, ltb-false}
use Rattle.recording.specs.Tests.{pick}
use Rattle.recording.specs.Words.{minutes_of}
use Rattle.recording.specs.Weeks.{week_minutes, week_start}
use Rattle.recording.specs.Answers.{Answer, refused, answered, and_then, refuse_if}
use Rattle.recording.specs.Operations.{total_at_most, measured}
use Rattle.recording.specs.declared.Measure.{Measure}
use Rattle.rules.specs.Verdict.{verdict}
use Rattle.rules.specs.Operations.{Finding, finding_of}
use Rattle.rules.specs.Spans.{weeks_begun, breach_spans, spans_given}
use Rattle.rules.specs.declared.Weeks.{Weeks}
use Rattle.verdict_spans.specs.Mondays.{weeks_at_most, last_by, Sound, last_from, nearest, with_span, spans_back, Seated, Reaches}
use Rattle.verdict_spans.specs.declared.Seat.{Seat}
use Rattle.rules.proofs.Spans.{span}
use Rattle.verdict_spans.proofs.FromMondays.{sound_from, spans_back_law}
use Rattle.verdict_spans.proofs.Seats.{seat_end, seat_before}

-- ---- the walk goes no further than the weeks
back_length : (weeks : ℕ) (last_of : ℕ → ℕ) (first n : ℕ) → length (spans_back weeks last_of first n) ≤ n
unfolding spans_back with_span
back_length weeks last_of first zero = omega arith
back_length weeks last_of first (suc n) = at (ltb (last_of first) (nearest weeks (spans_back weeks last_of (suc first) n))) (back_length weeks last_of (suc first) n)
  where
    at : (t : Bool) → length (spans_back weeks last_of (suc first) n) ≤ n
        → length (pick t (span first (last_of first) ∷ spans_back weeks last_of (suc first) n) (spans_back weeks last_of (suc first) n)) ≤ suc n
    at true k = omega arith
    at false k = omega arith

-- there are at most as many spans as weeks
pub spans_few : (ms : List ℕ) → length ms ≤ total_at_most → length (breach_spans ms) ≤ weeks_at_most
spans_few ms h =
    let all : ℕ = weeks_begun (length ms) in
    omega (arith, ap length (spans_back_law ms), back_length all (last_from ms) 0 all)

weeks_few : (total : ℕ) → total ≤ total_at_most → weeks_begun total ≤ weeks_at_most
weeks_few total h = omega arith

-- an item put in front of what a list holds from the next place on
drop-set : {A : Type 0} (l : List A) (i : ℕ) (v : A) → i < length l → drop i (set l i v) ≡ v ∷ drop (suc i) l
drop-set [] i v h = absurd (omega arith)
drop-set (x ∷ l) zero v h = refl
drop-set (x ∷ l) (suc i) v h = drop-set l i v (omega arith)

-- ---- before the Monday of the week `first`, after the n that come later
pub record Putting (words : List ℕ) (spans : List Weeks) (seat : Seat) (first near at : ℕ) : Type 0 where
  pub left : ℕ
  pub weeks : first + left ≡ weeks_begun (length (minutes_of words))
  pub seated : (m : ℕ) → m < week_start first → m < length (minutes_of words) → Reaches words m seat
  pub spans_there : length spans ≡ weeks_at_most
  pub nearby : near ≡ nearest (weeks_begun (length (minutes_of words))) (spans_back (weeks_begun (length (minutes_of words))) (last_from (minutes_of words)) first left)
  pub count : at + length (spans_back (weeks_begun (length (minutes_of words))) (last_from (minutes_of words)) first left) ≡ weeks_at_most
  pub listed : drop at spans ≡ spans_back (weeks_begun (length (minutes_of words))) (last_from (minutes_of words)) first left

pub start_putting : (words : List ℕ) (spans : List Weeks) {total weeks : ℕ} → total ≡ length (minutes_of words) → weeks ≡ weeks_begun total → length spans ≡ weeks_at_most
    → Putting words spans (record { index = length words; start = total }) weeks weeks weeks_at_most
unfolding spans_back
start_putting words spans t w f = record {
  left = 0;
  weeks = omega (arith, ap weeks_begun t, w);
  seated = λ m h g. seat_end words t m g;
  spans_there = f;
  nearby = w ∙ ap weeks_begun t;
  count = omega arith;
  listed = ap (λ (n : ℕ). drop n spans) (sym f) ∙ drop-length spans;
}

module _ {words : List ℕ} {spans : List Weeks} {seat : Seat} {first near at : ℕ} (k : Putting words spans seat first near at) (h : 0 < first) where
  abbrev monday : ℕ
  monday = week_minutes * (first - 1)

  pub monday_there : monday < length (minutes_of words)
  monday_there = omega (arith, k.weeks)

  pub monday_reached : Reaches words monday seat
  monday_reached = k.seated monday (omega arith) monday_there

  pub week_low : length (minutes_of words) ≤ total_at_most → first ≤ weeks_at_most
  week_low l = omega (arith, k.weeks)

  -- the Monday's verdict
  module _ {f : Answer Finding} (is : f ≡ answered (finding_of (verdict (drop monday (minutes_of words))))) where
    pub verdict_sound : length (minutes_of words) ≤ total_at_most → Sound f
    verdict_sound l = subst Sound (sym is) (sound_from (drop monday (minutes_of words)) (omega (arith, length-drop monday (minutes_of words))))

    pub last_is : {weeks last : ℕ} → weeks ≡ weeks_begun (length (minutes_of words)) → last ≡ last_by weeks (first - 1) f → last ≡ last_from (minutes_of words) (first - 1)
    last_is {weeks} w e = e ∙ ap (last_by weeks (first - 1)) is ∙ ap (λ (n : ℕ). last_by n (first - 1) (answered (finding_of (verdict (drop monday (minutes_of words)))))) w

  module _ {seat' : Seat} (s : Seated words monday seat') {last : ℕ} (is : last ≡ last_from (minutes_of words) (first - 1)) where
    abbrev all : ℕ
    all = weeks_begun (length (minutes_of words))

    abbrev later : List Weeks
    later = spans_back all (last_from (minutes_of words)) first k.left

    -- one Monday more
    one_more : (t : Bool) → ltb last near ≡ t → spans_back all (last_from (minutes_of words)) (first - 1) (suc k.left) ≡ pick t (span (first - 1) last ∷ later) later
    unfolding spans_back with_span
    one_more t e =
        let z : suc (first - 1) ≡ first = omega arith in
        ap (λ (n : ℕ). with_span all (first - 1) (last_from (minutes_of words) (first - 1)) (spans_back all (last_from (minutes_of words)) n k.left)) z
        ∙ ap (λ (n : ℕ). with_span all (first - 1) n later) (sym is)
        ∙ ap (λ (b : Bool). pick b (span (first - 1) last ∷ later) later) (ap (ltb last) (sym k.nearby) ∙ e)

    pub put_none : near ≤ last → Putting words spans seat' (first - 1) near at
    put_none l =
        let e = one_more false (le-ltb last near l) in
        record {
          left = suc k.left;
          weeks = omega (arith, k.weeks);
          seated = λ m g i. seat_before s m (omega arith);
          spans_there = k.spans_there;
          nearby = k.nearby ∙ ap (nearest all) (sym e);
          count = omega (arith, k.count, ap length e);
          listed = k.listed ∙ sym e;
        }

    module _ (room : length (minutes_of words) ≤ total_at_most) where
      pub place_there : 0 < at
      place_there = omega (arith, k.count, k.weeks, back_length all (last_from (minutes_of words)) first k.left, weeks_few (length (minutes_of words)) room)

      pub place_low : at ≤ weeks_at_most
      place_low = omega (arith, k.count)

      pub put_one : last < near → Putting words (set spans (at - 1) (span (first - 1) last)) seat' (first - 1) last (at - 1)
      put_one l =
          let e = one_more true (lt-ltb last near l) in
          let z : suc (at - 1) ≡ at = omega (arith, place_there) in
          record {
            left = suc k.left;
            weeks = omega (arith, k.weeks);
            seated = λ m g i. seat_before s m (omega arith);
            spans_there = length-set spans (at - 1) (span (first - 1) last) ∙ k.spans_there;
            nearby = ap (nearest all) (sym e);
            count = omega (arith, k.count, ap length e, place_there);
            listed =
                drop-set spans (at - 1) (span (first - 1) last) (omega (arith, place_there, place_low, k.spans_there))
                ∙ ap (λ (l : List Weeks). span (first - 1) last ∷ l) (ap (λ (n : ℕ). drop n spans) z ∙ k.listed) ∙ sym e;
          }

pub put_done : {words : List ℕ} {spans : List Weeks} {seat : Seat} {first near at : ℕ} → Putting words spans seat first near at → first ≡ 0
    → drop at spans ≡ breach_spans (minutes_of words)
put_done {words} {spans} {at = at} k e =
    let all : ℕ = weeks_begun (length (minutes_of words)) in
    let z : k.left ≡ all = omega (arith, k.weeks) in
    k.listed ∙ (λ i. spans_back all (last_from (minutes_of words)) (e i) (z i)) ∙ sym (spans_back_law (minutes_of words))

-- ---- what is answered for a list
module _ (ws : List ℕ) (room : ℕ) where
  pub spans_refused : {n : ℕ} → measured ws ≡ refused n → refused n ≡ spans_given ws room
  unfolding spans_given
  spans_refused q = rw q refl

  module _ {m : Measure} (q : measured ws ≡ answered m) {spans : List Weeks} (e : spans ≡ breach_spans (minutes_of ws)) where
    pub spans_short : room < length spans → refused 14 ≡ spans_given ws room
    unfolding spans_given
    spans_short h = rw (q, lt-ltb room (length (breach_spans (minutes_of ws))) (omega (arith, ap length e))) refl

    pub spans_done : length spans ≤ room → answered spans ≡ spans_given ws room
    unfolding spans_given
    spans_done h = rw (q, le-ltb room (length (breach_spans (minutes_of ws))) (omega (arith, ap length e))) (ap answered e)

  pub spans_fit : {spans : List Weeks} → answered spans ≡ spans_given ws room → length spans ≤ room
  unfolding spans_given
  spans_fit {spans} e = at (measured ws) e
    where
      all : List Weeks
      all = breach_spans (minutes_of ws)

      short : (b : Bool) → ltb room (length all) ≡ b → answered spans ≡ refuse_if b 14 (answered all) → length spans ≤ room
      short true t e = cc
      short false t e =
          let same : spans ≡ all = cc in
          omega (arith, ltb-false room (length all) t, ap length same)

      at : (m : Answer Measure) → answered spans ≡ and_then m (λ _. refuse_if (ltb room (length all)) 14 (answered all)) → length spans ≤ room
      at (refused n) e = cc
      at (answered m) e = short (ltb room (length all)) refl e
