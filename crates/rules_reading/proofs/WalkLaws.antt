-- The walks over the long rests: what they keep. Assumes nothing.
use mathlib.Core.Path.{◌≡◌, refl, sym, ap, ap₂, ◌∙◌}
use mathlib.Core.Bool.{Bool, true, false}
use mathlib.Core.List.{List, [], ◌∷◌}
use Prim.Native.Nat.{ℕ, zero, suc, ◌+◌, ◌-◌, ◌*◌, ◌≤◌, ◌<◌}
use native.Mathlib.Nat.{le_refl, le_trans, le_of_eq}
use native.Mathlib.Numerals.{add-one}
use native.Mathlib.Omega.{arith}
use lib.Dec.{leb, ltb, eqb}
use lib.ListN.{length, drop, get_or}
use lib.Seq.{drop-drop, get_or-drop}
use Rattle.recording.specs.Tests.{◌and◌, pick, one, all_of, count_of}
use Rattle.recording.specs.Operations.{total_at_most}
use Rattle.recording.specs.declared.Span.{Span}
use Rattle.recording.proofs.TestLaws.{one_most}
use Rattle.rules.specs.Reading.{
  Entry,
  minutes,
  regular_minutes,
  as_read,
  is_weekly,
  is_regular,
  reduction_of,
  compensation_of,
  entry_fields,
  entry_bytes,
  carrier_of,
  fields_in,
  entry_of,
  entries_from,
  entries,
}
use Rattle.rules.specs.ReadingRules.{formed, formed_daily, formed_weekly, rule6, least_net, long_enough, rule7, end_of}
use Rattle.rules.specs.ReadingRules.{of_kind}
use Rattle.rules.specs.declared.Kind.{Kind}
use Rattle.rules.proofs.FieldLaws.{entry_fields_law}
use Rattle.rules_nets.specs.Nets.{counts_by}
use Rattle.rules_items.specs.declared.LongRest.{LongRest}
use Rattle.rules_items.specs.declared.WeekCounts.{WeekCounts}
use Rattle.rules_items.specs.declared.rests.Rests.{Rests}
use Rattle.rules_items.proofs.TallyLaws.{test_next, end_of_spans, added_to-at, added_to-length, added_to-below, incremented_at, incremented-length, incremented_below, is_outstanding-little}
use Rattle.rules_items.specs.Items.{entry_by, end_before, item_at, compensation_at_most, Sane, rest_by, enough_by, end_at, Below, short_by, short_after}
use Rattle.rules_items.specs.Items.{Tallied, tally_by, added_to, incremented, span_at}
use Rattle.rules_items.specs.Items.{spans_from, spans_in, Laid, Zeros, test_from, fresh_tally, Few, Fresh, Through}

-- ---- the entries that are left at index i, after those before them
module _ (starts ends reading : List ℕ) (k : ℕ) where
  abbrev fields_left : ℕ → List ℕ
  fields_left i = drop (entry_fields * i) (fields_in reading)

  abbrev pub left : ℕ → List Entry → List Entry
  left i earlier = entries_from (suc i) (end_before ends i) earlier (spans_from starts ends i (k - i)) (drop (entry_fields * i) (fields_in reading))

  abbrev pub this_entry : ℕ → List Entry → Entry
  this_entry i earlier = entry_of (suc i) (end_before ends i) earlier (span_at starts ends i) (drop (entry_fields * i) (fields_in reading))

  spans_next : (i : ℕ) → i < k → spans_from starts ends i (k - i) ≡ span_at starts ends i ∷ spans_from starts ends (suc i) (k - suc i)
  unfolding spans_from
  spans_next i h = let e : k - i ≡ suc (k - suc i) = omega arith in ap (spans_from starts ends i) e

  pub left_next : (i : ℕ) (earlier : List Entry) → i < k → left i earlier ≡ this_entry i earlier ∷ left (i + 1) (this_entry i earlier ∷ earlier)
  unfolding entries_from
  left_next i earlier h =
      let e : entry_fields * i + entry_fields ≡ entry_fields * suc i = omega arith in
      ap (λ (l : List Span). entries_from (suc i) (end_before ends i) earlier l (fields_left i)) (spans_next i h)
      ∙ ap (λ (l : List ℕ). this_entry i earlier ∷ entries_from (suc (suc i)) (get_or ends i 0) (this_entry i earlier ∷ earlier) (spans_from starts ends (suc i) (k - suc i)) l)
      (drop-drop entry_fields (entry_fields * i) (fields_in reading) ∙ ap (λ (n : ℕ). drop n (fields_in reading)) e)
      ∙ ap (λ (n : ℕ). this_entry i earlier ∷ left n (this_entry i earlier ∷ earlier)) (sym (add-one i))

  pub left_none : (earlier : List Entry) (i : ℕ) → k ≤ i → left i earlier ≡ []
  unfolding entries_from spans_from
  left_none earlier i h = let e : k - i ≡ 0 = omega arith in rw e refl

  pub left_all : entries (spans_in starts ends k) (fields_in reading) ≡ left 0 []
  unfolding entries
  left_all = let e : k ≡ k - 0 = omega arith in ap (λ (n : ℕ). entries_from 1 0 [] (spans_from starts ends 0 n) (fields_in reading)) e

  -- the fields of the entry of index i, from its bytes
  record Read (i : ℕ) : Type 0 where
    kind : get_or reading (entry_bytes * i) 0 ≡ get_or (fields_left i) 0 0
    week : get_or reading (entry_bytes * i + 1) 0 ≡ get_or (fields_left i) 1 0
    carrier : carrier_of (get_or reading (entry_bytes * i + 2) 0) (get_or reading (entry_bytes * i + 3) 0) ≡ get_or (fields_left i) 2 0

  read_at : (i : ℕ) → entry_bytes * i + 3 < length reading → Read i
  read_at i h =
      let e = entry_fields_law i reading h in
      let z : entry_fields * i ≡ entry_fields * i + 0 = omega arith in
      record {
        kind = sym e.kind ∙ ap (λ (n : ℕ). get_or (fields_in reading) n 0) z ∙ sym (get_or-drop (entry_fields * i) (fields_in reading) 0 0);
        week = sym e.week ∙ sym (get_or-drop (entry_fields * i) (fields_in reading) 1 0);
        carrier = sym e.carrier ∙ sym (get_or-drop (entry_fields * i) (fields_in reading) 2 0);
      }

  -- the item is that entry, where its compensation is the entry's
  pub item_entry : (i : ℕ) (earlier : List Entry) (nets compensations : List ℕ) → entry_bytes * i + 3 < length reading → get_or compensations i 0 ≡ compensation_of (suc i) earlier
      → entry_by (item_at starts ends nets reading compensations i) ≡ this_entry i earlier
  item_entry i earlier nets compensations h e =
      let f = read_at i h in
      λ t. record {
        number = add-one i t;
        before = end_before ends i;
        span = span_at starts ends i;
        kind = f.kind t;
        week = f.week t;
        compensated_by = f.carrier t;
        compensation = e t;
      }

  -- whatever its compensation, it has the same form
  pub item_formed : (i : ℕ) (earlier : List Entry) (nets compensations : List ℕ) → entry_bytes * i + 3 < length reading
      → formed k (entry_by (item_at starts ends nets reading compensations i)) ≡ formed k (this_entry i earlier)
  unfolding formed formed_daily formed_weekly
  item_formed i earlier nets compensations h =
      let f = read_at i h in
      λ t. formed k (record {
        number = add-one i t;
        before = end_before ends i;
        span = span_at starts ends i;
        kind = f.kind t;
        week = f.week t;
        compensated_by = f.carrier t;
        compensation = 0;
      })

  -- ---- rule 6
  pub record Forming (i : ℕ) : Type 0 where
    pub earlier : List Entry
    pub same : rule6 k (entries (spans_in starts ends k) (fields_in reading)) ≡ all_of (formed k) (left i earlier)

  pub form_start : Forming 0
  unfolding rule6
  form_start = record { earlier = []; same = ap (all_of (formed k)) left_all }

  pub form_on : {i : ℕ} (f : Forming i) (nets compensations : List ℕ) → entry_bytes * i + 3 < length reading → i < k
      → formed k (entry_by (item_at starts ends nets reading compensations i)) ≡ true → Forming (i + 1)
  unfolding all_of ◌and◌
  form_on {i} f nets compensations g h t =
      record {
        earlier = this_entry i f.earlier ∷ f.earlier;
        same = f.same ∙ ap (all_of (formed k)) (left_next i f.earlier h) ∙ rw (sym (item_formed i f.earlier nets compensations g) ∙ t) refl;
      }

  pub form_broken : {i : ℕ} (f : Forming i) (nets compensations : List ℕ) → entry_bytes * i + 3 < length reading → i < k
      → formed k (entry_by (item_at starts ends nets reading compensations i)) ≡ false
      → false ≡ rule6 k (entries (spans_in starts ends k) (fields_in reading))
  unfolding all_of ◌and◌
  form_broken {i} f nets compensations g h t =
      sym (f.same ∙ ap (all_of (formed k)) (left_next i f.earlier h) ∙ rw (sym (item_formed i f.earlier nets compensations g) ∙ t) refl)

  pub form_done : {i : ℕ} → Forming i → k ≤ i → true ≡ rule6 k (entries (spans_in starts ends k) (fields_in reading))
  unfolding all_of
  form_done {i} f h = sym (f.same ∙ ap (all_of (formed k)) (left_none f.earlier i h))

-- ---- the long rests of a struct lie in its slices
pub laid_in : (r : Rests) (reading compensations : List ℕ) → length reading ≡ entry_bytes * length r.starts.now → length r.starts.now ≤ length compensations
    → Laid r.starts.now r.ends.now r.nets.now reading compensations (length r.starts.now)
laid_in r reading compensations e h = record {
  few = r.few;
  starts_in = le_refl _;
  ends_in = omega (arith, r.ends_too);
  nets_in = omega (arith, r.nets_too);
  compensations_in = h;
  reading_in = e;
  ordered = r.ordered;
  limited = r.limited;
  numbered = r.numbered;
}

-- ---- an item's numbers are in bounds
end_before_most : (ends : List ℕ) (k : ℕ) → ((i : ℕ) → i < k → get_or ends i 0 ≤ total_at_most) → (i : ℕ) → i < k → end_before ends i ≤ total_at_most
end_before_most ends k f zero h = omega arith
end_before_most ends k f (suc i) h = f i (omega arith)

pub sane_item : (starts ends nets reading compensations : List ℕ) (k i : ℕ) → Laid starts ends nets reading compensations k → ((j : ℕ) → get_or reading j 0 < 256) → i < k
    → get_or compensations i 0 ≤ compensation_at_most
    → Sane (item_at starts ends nets reading compensations i)
sane_item starts ends nets reading compensations k i l b h g = record {
  before = end_before_most ends k l.limited i h;
  ordered = l.ordered i h;
  end = l.limited i h;
  week = omega (arith, b (entry_bytes * i + 1));
  compensation = g;
  net = l.numbered i h;
}

-- ---- an item counts under rule 9 by its number
item_counts : (starts ends nets reading compensations : List ℕ) (i : ℕ)
    → counts_by nets (entry_by (item_at starts ends nets reading compensations i)) ≡ short_by (item_at starts ends nets reading compensations i)
unfolding counts_by
item_counts starts ends nets reading compensations i =
    let z : i + 1 - 1 ≡ i = omega arith in
    ap (λ (j : ℕ). ltb (get_or ends i 0 - get_or starts i 0) (get_or nets j 0 + get_or compensations i 0)) z

-- ---- bounds of a tally
short_on : (short : Bool) (s end : ℕ) (t : Tallied) (e : Entry) → (tally_by short s end t e).short ≤ t.short + 1
unfolding tally_by short_after
short_on short s end t e = at (is_weekly (as_read e))
  where
    at : (b : Bool) → pick b 0 (t.short + one short) ≤ t.short + 1
    at true = omega arith
    at false = omega (arith, one_most short)

last_on : (short : Bool) (s end : ℕ) (t : Tallied) (e : Entry) → e.span.end ≤ total_at_most → t.last ≤ total_at_most → (tally_by short s end t e).last ≤ total_at_most
unfolding tally_by
last_on short s end t e h l = at (is_weekly (as_read e))
  where
    at : (b : Bool) → pick b e.span.end t.last ≤ total_at_most
    at true = h
    at false = l

is_outstanding-here : (e : Entry) {d : ℕ} → long_enough e ≡ true → d ≡ reduction_of (as_read e) → d ≤ regular_minutes
unfolding long_enough
is_outstanding-here e t q = rw q (is_outstanding-little e t)

-- ---- rules 7 to 10 and the counts: what the walk keeps at index i
module _ (starts ends nets reading : List ℕ) (k s : ℕ) where
  abbrev rests : List Span
  rests = spans_in starts ends k

  abbrev all : List Entry
  all = entries (spans_in starts ends k) (fields_in reading)

  pub record Walking (i : ℕ) (t : Tallied) (compensations : List ℕ) (counts : WeekCounts) : Type 0 where
    pub earlier : List Entry
    pub laid : Laid starts ends nets reading compensations k
    pub outstanding : (j : ℕ) → i ≤ j → j < k → get_or compensations j 0 ≡ compensation_of (suc j) earlier
    pub below : Below (regular_minutes * i) compensations
    pub seven : rule7 (entries (spans_in starts ends k) (fields_in reading)) ≡ all_of long_enough (left starts ends reading k i earlier)
    pub tally : test_from (counts_by nets) s (spans_in starts ends k) fresh_tally (entries (spans_in starts ends k) (fields_in reading))
        ≡ test_from (counts_by nets) s (spans_in starts ends k) t (left starts ends reading k i earlier)
    pub short : t.short ≤ i
    pub last : t.last ≤ total_at_most
    pub weeklies : (w : ℕ) → w < 256
        → get_or counts.weekly w 0 + count_of (of_kind is_weekly w) (left starts ends reading k i earlier) ≡ count_of (of_kind is_weekly w) (entries (spans_in starts ends k) (fields_in reading))
    pub regulars : (w : ℕ) → w < 256
        → get_or counts.regular w 0 + count_of (of_kind is_regular w) (left starts ends reading k i earlier) ≡ count_of (of_kind is_regular w) (entries (spans_in starts ends k) (fields_in reading))
    pub few : Few i counts
    pub weekly_size : length counts.weekly ≡ 256
    pub regular_size : length counts.regular ≡ 256

  pub walk_start : (compensations : List ℕ) (counts : WeekCounts) → Laid starts ends nets reading compensations k → Zeros compensations → Fresh counts → Walking 0 fresh_tally compensations counts
  unfolding rule7 compensation_of
  walk_start compensations counts l z f = record {
    earlier = [];
    laid = l;
    outstanding = λ j h g. z j;
    below = λ j. omega (arith, z j);
    seven = ap (all_of long_enough) (left_all starts ends reading k);
    tally = ap (test_from (counts_by nets) s (spans_in starts ends k) fresh_tally) (left_all starts ends reading k);
    short = omega arith;
    last = omega arith;
    weeklies = λ w h. omega (arith, f.weekly w, ap (count_of (of_kind is_weekly w)) (left_all starts ends reading k));
    regulars = λ w h. omega (arith, f.regular w, ap (count_of (of_kind is_regular w)) (left_all starts ends reading k));
    few = (λ j. omega (arith, f.weekly j), λ j. omega (arith, f.regular j));
    weekly_size = f.weekly_size;
    regular_size = f.regular_size;
  }

  module _ {i : ℕ} {t : Tallied} {compensations : List ℕ} {counts : WeekCounts} (w : Walking i t compensations counts) (h : i < k) where
    abbrev this : Entry
    this = this_entry starts ends reading k i w.earlier

    -- the item is the entry
    pub here_item : entry_by (item_at starts ends nets reading compensations i) ≡ this_entry starts ends reading k i w.earlier
    here_item = item_entry starts ends reading k i w.earlier nets compensations (omega (arith, w.laid.reading_in)) (w.outstanding i (le_refl _) h)

    pub item_sane : ((j : ℕ) → get_or reading j 0 < 256) → Sane (item_at starts ends nets reading compensations i)
    item_sane b = sane_item starts ends nets reading compensations k i w.laid b h (omega (arith, w.below i, w.laid.few))

    next : left starts ends reading k i w.earlier ≡ this ∷ left starts ends reading k (i + 1) (this ∷ w.earlier)
    next = left_next starts ends reading k i w.earlier h

    enough_here : (b : Bool) → b ≡ enough_by (rest_by (item_at starts ends nets reading compensations i)) (get_or compensations i 0) → b ≡ long_enough this
    unfolding long_enough
    enough_here b e = e ∙ ap (λ (x : Entry). leb (least_net (as_read x) + x.compensation) (minutes x)) here_item

    pub too_short : {r : LongRest} {b : Bool} → r ≡ rest_by (item_at starts ends nets reading compensations i) → b ≡ enough_by r (get_or compensations i 0) → b ≡ false
        → rule7 (entries (spans_in starts ends k) (fields_in reading)) ≡ false
    unfolding all_of ◌and◌
    too_short {r} {b} q e z =
        let f : long_enough this ≡ false = sym (enough_here b (e ∙ ap (λ (x : LongRest). enough_by x (get_or compensations i 0)) q)) ∙ z in
        w.seven ∙ ap (all_of long_enough) next ∙ rw f refl

    -- a rest that is counted in its week
    count_on : (f : Kind → Bool) (v : ℕ) → count_of (of_kind f v) (left starts ends reading k i w.earlier)
        ≡ one (f (as_read this) and eqb this.week v) + count_of (of_kind f v) (left starts ends reading k (i + 1) (this ∷ w.earlier))
    unfolding count_of of_kind
    count_on f v = ap (count_of (of_kind f v)) next

    increment_on : (f : Kind → Bool) (counts counts' : List ℕ) (m : Kind) (wk v : ℕ) → m ≡ as_read this → wk ≡ this.week → length counts ≡ 256 → v < 256
        → counts' ≡ incremented (f m) counts wk
        → get_or counts v 0 + count_of (of_kind f v) (left starts ends reading k i w.earlier) ≡ count_of (of_kind f v) (entries (spans_in starts ends k) (fields_in reading))
        → get_or counts' v 0 + count_of (of_kind f v) (left starts ends reading k (i + 1) (this ∷ w.earlier)) ≡ count_of (of_kind f v) (entries (spans_in starts ends k) (fields_in reading))
    increment_on f counts counts' m wk v p q n l e o =
        omega (
          arith,
          ap (λ (x : List ℕ). get_or x v 0) e,
          incremented_at (f m) counts wk v (omega arith),
          count_on f v,
          ap₂ (λ (x : Kind) (y : ℕ). one (f x and eqb y v)) p q,
        )

    pub walk_on : {r : LongRest} {b : Bool} {end : ℕ} {t' : Tallied} {compensations' : List ℕ} {counts' : WeekCounts} {d : ℕ}
        → r ≡ rest_by (item_at starts ends nets reading compensations i) → b ≡ enough_by r (get_or compensations i 0) → b ≡ true
        → end ≡ end_at ends k (item_at starts ends nets reading compensations i).carrier
        → t' ≡ tally_by (short_by (item_at starts ends nets reading compensations i)) s end t (entry_by (item_at starts ends nets reading compensations i))
        → counts'.weekly ≡ incremented (is_weekly r.kind) counts.weekly (item_at starts ends nets reading compensations i).week
        → counts'.regular ≡ incremented (is_regular r.kind) counts.regular (item_at starts ends nets reading compensations i).week
        → d ≡ reduction_of r.kind
        → compensations' ≡ added_to compensations (item_at starts ends nets reading compensations i).carrier d
        → Walking (i + 1) t' compensations' counts'
    unfolding all_of ◌and◌ compensation_of
    walk_on {r} {b} {end} {t'} {compensations'} {counts'} {d} qr qb eb qe qt qw qg qd ql =
        let x = item_at starts ends nets reading compensations i in
        let kind : r.kind ≡ as_read this = ap (λ (y : LongRest). y.kind) qr ∙ ap as_read here_item in
        let wk : x.week ≡ this.week = ap (λ (y : Entry). y.week) here_item in
        let carried : x.carrier ≡ this.compensated_by = ap (λ (y : Entry). y.compensated_by) here_item in
        let long : long_enough this ≡ true = sym (enough_here b (qb ∙ ap (λ (y : LongRest). enough_by y (get_or compensations i 0)) qr)) ∙ eb in
        let is_outstanding : d ≡ reduction_of (as_read this) = qd ∙ ap reduction_of kind in
        let little : d ≤ regular_minutes = is_outstanding-here this long is_outstanding in
        let size : length compensations' ≡ length compensations = ap length ql ∙ added_to-length compensations x.carrier d in
        record {
          earlier = this ∷ w.earlier;
          laid = record {
            few = w.laid.few;
            starts_in = w.laid.starts_in;
            ends_in = w.laid.ends_in;
            nets_in = w.laid.nets_in;
            compensations_in = omega (arith, w.laid.compensations_in);
            reading_in = w.laid.reading_in;
            ordered = w.laid.ordered;
            limited = w.laid.limited;
            numbered = w.laid.numbered;
          };
          outstanding = λ j g l.
              ap (λ (y : List ℕ). get_or y j 0) ql ∙ added_to-at compensations x.carrier d j (omega (arith, w.laid.compensations_in))
              ∙ ap₂ ◌+◌ (ap₂ (λ (c e : ℕ). pick (eqb c (suc j)) e 0) carried is_outstanding) (w.outstanding j (omega arith) l);
          below = λ j. let z = added_to-below compensations x.carrier d (regular_minutes * i) regular_minutes w.below little j in omega (arith, ap (λ (y : List ℕ). get_or y j 0) ql);
          seven = w.seven ∙ ap (all_of long_enough) next ∙ rw long refl;
          tally =
              w.tally ∙ ap (test_from (counts_by nets) s (spans_in starts ends k) t) next
              ∙ test_next (counts_by nets) s (spans_in starts ends k) t this (left starts ends reading k (i + 1) (this ∷ w.earlier))
              ∙ ap (λ (y : Tallied). test_from (counts_by nets) s (spans_in starts ends k) y (left starts ends reading k (i + 1) (this ∷ w.earlier)))
              (sym (qt ∙ ap (λ (y : Bool). tally_by y s end t (entry_by x)) (sym (item_counts starts ends nets reading compensations i))
              ∙ ap₂ (λ (e : ℕ) (y : Entry). tally_by (counts_by nets y) s e t y) (qe ∙ end_of_spans starts ends k x.carrier ∙ ap (end_of (spans_in starts ends k)) carried) here_item));
          short = omega (arith, ap (λ (y : Tallied). y.short) qt, short_on (short_by x) s end t (entry_by x), w.short);
          last = le_trans (le_of_eq (ap (λ (y : Tallied). y.last) qt)) (last_on (short_by x) s end t (entry_by x) (w.laid.limited i h) w.last);
          weeklies = λ v l. increment_on is_weekly counts.weekly counts'.weekly r.kind x.week v kind wk w.weekly_size l qw (w.weeklies v l);
          regulars = λ v l. increment_on is_regular counts.regular counts'.regular r.kind x.week v kind wk w.regular_size l qg (w.regulars v l);
          few = (
            λ j. omega (arith, ap (λ (y : List ℕ). get_or y j 0) qw, incremented_below (is_weekly r.kind) counts.weekly x.week i w.few.0 j),
            λ j. omega (arith, ap (λ (y : List ℕ). get_or y j 0) qg, incremented_below (is_regular r.kind) counts.regular x.week i w.few.1 j),
          );
          weekly_size = ap length qw ∙ incremented-length (is_weekly r.kind) counts.weekly x.week ∙ w.weekly_size;
          regular_size = ap length qg ∙ incremented-length (is_regular r.kind) counts.regular x.week ∙ w.regular_size;
        }

    pub compensate_room : {r : LongRest} {b : Bool} {d : ℕ} → r ≡ rest_by (item_at starts ends nets reading compensations i) → b ≡ enough_by r (get_or compensations i 0) → b ≡ true
        → d ≡ reduction_of r.kind → (d ≤ compensation_at_most) × Below compensation_at_most compensations
    compensate_room {r} {b} qr qb eb qd =
        let kind : r.kind ≡ as_read this = ap (λ (y : LongRest). y.kind) qr ∙ ap as_read here_item in
        let long : long_enough this ≡ true = sym (enough_here b (qb ∙ ap (λ (y : LongRest). enough_by y (get_or compensations i 0)) qr)) ∙ eb in
        (le_trans (is_outstanding-here this long (qd ∙ ap reduction_of kind)) (omega arith), λ j. omega (arith, w.below j, w.laid.few))

  -- no week has more rests than there are before index i, which are few
  pub walk_few : {i : ℕ} {t : Tallied} {compensations : List ℕ} {counts : WeekCounts} → Walking i t compensations counts → i ≤ k → Few compensation_at_most counts
  walk_few w g = (λ j. omega (arith, w.few.0 j, w.laid.few, g), λ j. omega (arith, w.few.1 j, w.laid.few, g))

  pub walk_through : {i : ℕ} {t : Tallied} {compensations : List ℕ} {counts : WeekCounts} → Walking i t compensations counts → k ≤ i → i ≤ k
      → Through (counts_by nets) s (spans_in starts ends k) (entries (spans_in starts ends k) (fields_in reading)) t counts
  unfolding all_of count_of
  walk_through {i} w h g =
      let none = left_none starts ends reading k w.earlier i h in
      record {
        seven = w.seven ∙ ap (all_of long_enough) none;
        tally = w.tally ∙ ap (test_from (counts_by nets) s (spans_in starts ends k) _) none;
        last = w.last;
        weeklies = λ v l. omega (arith, w.weeklies v l, ap (count_of (of_kind is_weekly v)) none);
        regulars = λ v l. omega (arith, w.regulars v l, ap (count_of (of_kind is_regular v)) none);
        few = walk_few w g;
      }
