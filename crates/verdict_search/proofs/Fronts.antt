-- Laws of a front: what an entry can do, and what a put changes. Assumes nothing.
use mathlib.Core.Path.{◌≡◌, refl, sym, ap, subst, ◌∙◌}
use mathlib.Core.Logic.{◌⊎◌, inl, inr}
use mathlib.Core.Bool.{Bool, true, false, false≢true}
use mathlib.Core.List.{List}
use Prim.Native.Nat.{ℕ, zero, suc, ◌+◌, ◌≤◌, ◌<◌}
use native.Mathlib.Omega.{arith}
use lib.Dec.{ltb}
use lib.ListN.{length, take}
use lib.Seq.{length-take-le}
use Rattle.std.proofs.Common.{min}
use borrow.Author.Tests.{lt-ltb, le-ltb}
use Rattle.recording.specs.Tests.{one}
use Rattle.recording.specs.Weeks.{week_of}
use Rattle.recording.proofs.TestLaws.{less_or_not}
use Rattle.verdict_completion.specs.declared.State.{State}
use Rattle.verdict_completion.specs.Completable.{Course, at, count, Tries, Lies}
use Rattle.verdict_completion.specs.Better.{Within, Matched, Better, AtRest}
use Rattle.verdict_completion.proofs.Matching.{within_self}
use Rattle.verdict_completion.proofs.Monotone.{matched_last, tries_by}
use Rattle.verdict_nogoods.specs.Table.{reductions_at_most, reductions_of, reduction_in, reductions_at, outstanding_count, Holds}
use Rattle.verdict_nogoods.proofs.TableLaws.{slot_low, outstanding_count-more, count_same, holds_of_all, reductions_each, reductions_low, reductions_in_use}
use Rattle.verdict_fronts.specs.Front.{entry_at, state_in, slot_in, outstanding_in, Dominates, Same, Comes, old, fresh, Remains, there, dominated, Stands, itself, other, Placed, Inserted}
use Rattle.verdict_fronts.proofs.FrontLaws.{same_state, same_reduction, same_back, no_slot, a_slot, words_length, words_at, words_out, words_same}
use Rattle.verdict_search.specs.Search.{Later, InSlots}
use Rattle.verdict_search.proofs.Memory.{later_matched}
use Rattle.verdict_search.specs.Leading.{Can, Any, Well, Front, Led}
use Rattle.verdict_search.proofs.Leading.{Equal}

-- ---- what is outstanding in an entry
pub outstanding_length : (t : List ℕ) (p k : ℕ) → length (outstanding_in t p k) ≡ k
outstanding_length t p k = words_length (slot_in t p) 0 k

pub outstanding_at : (t : List ℕ) (p k d : ℕ) → reductions_of t p ≤ k → at (outstanding_in t p k) d ≡ slot_in t p d
outstanding_at t p k d few = go (less_or_not d k)
  where
    go : (d < k) ⊎ (k ≤ d) → at (outstanding_in t p k) d ≡ slot_in t p d
    go (inl l) = let e : 0 + d ≡ d = omega arith in words_at (slot_in t p) 0 k d l ∙ ap (slot_in t p) e
    go (inr l) = words_out (slot_in t p) 0 k d l ∙ sym (no_slot t p d (omega arith))

-- a slot that is not 0 has one of the reductions
pub is_outstanding-below : (t : List ℕ) (p k d : ℕ) → reductions_of t p ≤ k → 0 < at (outstanding_in t p k) d → d < reductions_of t p
is_outstanding-below t p k d few h = go (less_or_not d (reductions_of t p))
  where
    go : (d < reductions_of t p) ⊎ (reductions_of t p ≤ d) → d < reductions_of t p
    go (inl l) = l
    go (inr l) = absurd (omega (arith, h, outstanding_at t p k d few, no_slot t p d l))

pub outstanding_is : (t : List ℕ) (p k d : ℕ) → reductions_of t p ≤ k → d < reductions_of t p → at (outstanding_in t p k) d ≡ reduction_in t p d
outstanding_is t p k d few l = outstanding_at t p k d few ∙ a_slot t p d l

pub outstanding_none : (t : List ℕ) (p k d : ℕ) → reductions_of t p ≤ k → reductions_of t p ≤ d → at (outstanding_in t p k) d ≡ 0
outstanding_none t p k d few l = outstanding_at t p k d few ∙ no_slot t p d l

-- ---- the same words
module _ {a b : List ℕ} {p q : ℕ} (s : Same a p b q) where
  slot_same : reductions_of a p ≤ reductions_at_most → (d : ℕ) → slot_in a p d ≡ slot_in b q d
  slot_same few d = go (less_or_not d (reductions_of a p))
    where
      n : reductions_of a p ≡ reductions_of b q
      n = s.word 6 (omega arith)

      go : (d < reductions_of a p) ⊎ (reductions_of a p ≤ d) → slot_in a p d ≡ slot_in b q d
      go (inl l) = a_slot a p d l ∙ same_reduction s d (omega arith) ∙ sym (a_slot b q d (omega (arith, n)))
      go (inr l) = no_slot a p d l ∙ sym (no_slot b q d (omega (arith, n)))

  outstanding_same : reductions_of a p ≤ reductions_at_most → (k : ℕ) → outstanding_in a p k ≡ outstanding_in b q k
  outstanding_same few k = words_same (slot_in a p) (slot_in b q) 0 k (slot_same few)

module _ (c : Course) (j : ℕ) where
  pub can_same : {a b : List ℕ} {p q : ℕ} → Same a p b q → reductions_of a p ≤ reductions_at_most → Can c j a p → Can c j b q
  can_same {a} {b} {p} {q} s few h =
      let w = week_of (at c.starts j) in
      subst (λ (o : List ℕ). Tries c (Later c j) j (state_in b q w) o) (outstanding_same s few (count c))
      (subst (λ (x : State). Tries c (Later c j) j x (outstanding_in a p (count c))) (same_state s w) h)

  pub well_same : {a b : List ℕ} {p q : ℕ} → Same a p b q → Well c j a p → Well c j b q
  well_same {a} {b} {p} {q} s h = record {
    few = omega (arith, h.few, s.word 6 (omega arith));
    below = omega (arith, h.below, s.word 6 (omega arith));
    rest = subst (λ (x : State). AtRest c j x) (same_state s (week_of (at c.starts j))) h.rest;
  }

-- ---- entries compared
module _ (c : Course) (lies : Lies c) (j : ℕ) where
  module _ {a b : List ℕ} {p q : ℕ} (x : Well c j a p) (y : Well c j b q) (h : Dominates a p b q) where
    low_a : reductions_of a p ≤ count c
    low_a = omega (arith, x.below, x.rest.within)

    low_b : reductions_of b q ≤ count c
    low_b = omega (arith, y.below, y.rest.within)

    better : Better (state_in a p (week_of (at c.starts j))) (state_in b q (week_of (at c.starts j)))
    better = record {
      week = refl;
      ended = h.as_good.better.ended;
      short = h.as_good.better.short;
      weekly_before = h.as_good.better.weekly_before;
      regular_before = h.as_good.better.regular_before;
      weekly = h.as_good.better.weekly;
      regular = h.as_good.better.regular;
    }

    -- where a slot has a reduction, its entry has one of that index, and the entry that it is compared with one within which it lies
    in_use : (d : ℕ) → 0 < at (outstanding_in a p (count c)) d → d < length (reductions_at a p)
    in_use d l =
        let m = is_outstanding-below a p (count c) d low_a l in
        reductions_in_use a p d (omega (arith, x.few, m)) (omega (arith, l, outstanding_is a p (count c) d low_a m))

    to_use : (d : ℕ) → d < length (reductions_at a p) → h.as_good.reductions.to d < min (reductions_of b q) reductions_at_most
    to_use d l = omega (arith, slot_low (reductions_at b q) (h.as_good.reductions.to d) (h.as_good.reductions.within d l).is_outstanding, reductions_low b q)

    matched : Matched (count c) j (outstanding_in a p (count c)) (outstanding_in b q (count c))
    matched = record {
      long = outstanding_length b q (count c);
      to = h.as_good.reductions.to;
      below = λ d l. omega (arith, is_outstanding-below a p (count c) d low_a l, x.below);
      to_below = λ d l. omega (arith, to_use d (in_use d l), y.below);
      within = λ d l. within d (in_use d l);
      apart = λ d e l m. apart d e (in_use d l) (in_use e m) (less_or_not d e) (less_or_not e d);
    }
      where
        within : (d : ℕ) → d < length (reductions_at a p) → Within (at (outstanding_in a p (count c)) d) (at (outstanding_in b q (count c)) (h.as_good.reductions.to d))
        within d l =
            let n : d < min (reductions_of a p) reductions_at_most = omega (arith, l, reductions_low a p) in
            let m = to_use d l in
            subst (λ (v : ℕ). Within v (at (outstanding_in b q (count c)) (h.as_good.reductions.to d))) (reductions_each a p d n ∙ sym (outstanding_is a p (count c) d low_a (omega arith)))
            (subst (λ (v : ℕ). Within (at (reductions_at a p) d) v)
            (reductions_each b q (h.as_good.reductions.to d) m ∙ sym (outstanding_is b q (count c) (h.as_good.reductions.to d) low_b (omega (arith, m)))) (h.as_good.reductions.within d l))

        apart : (d e : ℕ) → d < length (reductions_at a p) → e < length (reductions_at a p) → (d < e) ⊎ (e ≤ d) → (e < d) ⊎ (d ≤ e) → h.as_good.reductions.to d ≡ h.as_good.reductions.to e → d ≡ e
        apart d e l m (inl f) g q = absurd (omega (arith, h.as_good.reductions.rises d e f m))
        apart d e l m (inr f) (inl g) q = absurd (omega (arith, h.as_good.reductions.rises e d g l))
        apart d e l m (inr f) (inr g) q = omega arith

    -- an entry that is at least as good can do what the other can
    pub can_by : Can c j b q → Can c j a p
    can_by k =
        tries_by c (matched_last c) (Later c j) j x.rest.within (later_matched c lies j x.rest.within) better (outstanding_in a p (count c)) (outstanding_in b q (count c)) matched k

  -- ---- a put
  module _ {t t' new : List ℕ} {n n' : ℕ} (h : Placed t t' new n n') (front : Front c j t n) (well : Well c j new 0) where
    pub front_on : Front c j t' n'
    front_on = record { room = h.room; each = λ e l. go e (h.from e l) }
      where
        go : (e : ℕ) → Comes t t' new n e → Well c j t' (entry_at e)
        go e (old f) = well_same c j (same_back f.same) (front.each f.entry f.below)
        go e (fresh s) = well_same c j (same_back s) well

    pub new_in : Can c j new 0 → Any c j t' n'
    new_in k = go h.found
      where
        go : Stands t' new n' → Any c j t' n'
        go (itself x l s) = record { entry = x; below = l; can = can_same c j (same_back s) well.few k }
        go (other b) = record { entry = b.entry; below = b.below; can = can_by (front_on.each b.entry b.below) well b.dominates k }

    -- the entry x of t' can do what another can that it is at least as good as, or that has the same words
    pub all_in : Any c j t n → Any c j t' n'
    all_in a = go (h.to a.entry a.below)
      where
        go : Remains t t' new n' a.entry → Any c j t' n'
        go (there x l s) = record { entry = x; below = l; can = can_same c j (same_back s) (front.each a.entry a.below).few a.can }
        go (dominated s) = new_in (can_by well (front.each a.entry a.below) s a.can)

    pub all_out : Any c j t' n' → Any c j t n ⊎ Can c j new 0
    all_out a = go (h.from a.entry a.below)
      where
        go : Comes t t' new n a.entry → Any c j t n ⊎ Can c j new 0
        go (old f) = inl (record { entry = f.entry; below = f.below; can = can_same c j f.same (front_on.each a.entry a.below).few a.can })
        go (fresh s) = inr (can_same c j s (front_on.each a.entry a.below).few a.can)

-- ---- a state held by an entry
-- under which slot the reduction of index d stands
record Slot (outstanding : List ℕ) (n d : ℕ) : Type 0 where
  slot : ℕ
  below : slot < n
  is_outstanding : 0 < at outstanding slot
  index : outstanding_count outstanding slot ≡ d

slot_of : (outstanding : List ℕ) (n d : ℕ) → d < outstanding_count outstanding n → Slot outstanding n d
unfolding outstanding_count
slot_of outstanding zero d l = absurd (omega arith)
slot_of outstanding (suc n) d l = go (less_or_not d (outstanding_count outstanding n)) (less_or_not 0 (at outstanding n)) (slot_of outstanding n d)
  where
    go : (d < outstanding_count outstanding n) ⊎ (outstanding_count outstanding n ≤ d) → (0 < at outstanding n) ⊎ (at outstanding n ≤ 0) →
        (d < outstanding_count outstanding n → Slot outstanding n d) → Slot outstanding (suc n) d
    go (inl m) f h = let s = h m in record { slot = s.slot; below = omega (arith, s.below); is_outstanding = s.is_outstanding; index = s.index }
    go (inr m) (inl f) h = record { slot = n; below = omega arith; is_outstanding = f; index = omega (arith, ap one (lt-ltb 0 (at outstanding n) f)) }
    go (inr m) (inr f) h = absurd (omega (arith, ap one (le-ltb 0 (at outstanding n) f)))

module _ (c : Course) (lies : Lies c) (j m : ℕ) (outstanding new : List ℕ) (st : State) (slots : InSlots c j m outstanding) (rest : AtRest c j st) (h : Holds new 0 st (take m outstanding)) where
  held_count : reductions_of new 0 ≡ outstanding_count outstanding m
  held_count = h.count ∙ count_same outstanding m slots.unused (length (take m outstanding))
      ∙ ap (outstanding_count outstanding) (length-take-le m outstanding (omega (arith, slots.below, rest.within, slots.one_each)))

  held_reduction : (i : ℕ) → 0 < at outstanding i → reduction_in new 0 (outstanding_count outstanding i) ≡ at outstanding i
  held_reduction = (holds_of_all outstanding m slots.unused h).reduction

  in_first : (x : ℕ) → 0 < at outstanding x → x < m
  in_first x is_outstanding = go (less_or_not x m)
    where
      go : (x < m) ⊎ (m ≤ x) → x < m
      go (inl l) = l
      go (inr l) = absurd (omega (arith, is_outstanding, slots.unused x l))

  outstanding_count-most : (n : ℕ) → outstanding_count outstanding n ≤ n
  unfolding outstanding_count
  outstanding_count-most zero = omega arith
  outstanding_count-most (suc n) = omega (arith, outstanding_count-most n, one_low (ltb 0 (at outstanding n)))
    where
      one_low : (b : Bool) → one b ≤ 1
      one_low true = omega arith
      one_low false = omega arith

  low : reductions_of new 0 ≤ j
  low = omega (arith, held_count, outstanding_count-most m, slots.below)

  few : reductions_of new 0 ≤ count c
  few = omega (arith, low, rest.within)

  find : (d : ℕ) → (d < outstanding_count outstanding m) ⊎ (outstanding_count outstanding m ≤ d) → ℕ
  find d (inl l) = (slot_of outstanding m d l).slot
  find d (inr l) = 0

  slot_from : ℕ → ℕ
  slot_from d = find d (less_or_not d (outstanding_count outstanding m))

  is_slot : (d : ℕ) → d < outstanding_count outstanding m → (y : (d < outstanding_count outstanding m) ⊎ (outstanding_count outstanding m ≤ d)) → (find d y < m) ×
      (0 < at outstanding (find d y)) × (outstanding_count outstanding (find d y) ≡ d)
  unfolding find
  is_slot d l (inl q) = let s = slot_of outstanding m d q in (s.below, s.is_outstanding, s.index)
  is_slot d l (inr q) = absurd (omega arith)

  the_slot : (d : ℕ) → d < reductions_of new 0 → (slot_from d < m) × (0 < at outstanding (slot_from d)) × (outstanding_count outstanding (slot_from d) ≡ d)
  unfolding slot_from
  the_slot d l = is_slot d (omega (arith, held_count)) (less_or_not d (outstanding_count outstanding m))

  same_slot : (d : ℕ) → d < reductions_of new 0 → at (outstanding_in new 0 (count c)) d ≡ at outstanding (slot_from d)
  same_slot d l =
      let s = the_slot d l in
      outstanding_is new 0 (count c) d few l ∙ ap (reduction_in new 0) (sym s.2) ∙ held_reduction (slot_from d) s.1

  one_slot : (x y : ℕ) → 0 < at outstanding x → 0 < at outstanding y → outstanding_count outstanding x ≡ outstanding_count outstanding y → (x < y) ⊎ (y ≤ x) → (y < x) ⊎ (x ≤ y) → x ≡ y
  one_slot x y p q e (inl l) _ = absurd (omega (arith, outstanding_count-more outstanding x y l p))
  one_slot x y p q e (inr l) (inl f) = absurd (omega (arith, outstanding_count-more outstanding y x f q))
  one_slot x y p q e (inr l) (inr f) = omega arith

  index_low : (x : ℕ) → 0 < at outstanding x → outstanding_count outstanding x < reductions_of new 0
  index_low x l = omega (arith, held_count, outstanding_count-more outstanding x m (in_first x l) l)

  -- the reductions of the entry lie within those of the slots, and the other way round
  entry_matched : Matched (count c) j (outstanding_in new 0 (count c)) outstanding
  entry_matched = record {
    long = slots.one_each;
    to = slot_from;
    below = λ d l. omega (arith, is_outstanding-below new 0 (count c) d few l, low);
    to_below = λ d l. omega (arith, (the_slot d (is_outstanding-below new 0 (count c) d few l)).0, slots.below);
    within = λ d l. subst (Within (at (outstanding_in new 0 (count c)) d)) (same_slot d (is_outstanding-below new 0 (count c) d few l)) (within_self l);
    apart = λ d e l k q. one_reduction d e (is_outstanding-below new 0 (count c) d few l) (is_outstanding-below new 0 (count c) e few k) q;
  }
    where
      one_reduction : (d e : ℕ) → d < reductions_of new 0 → e < reductions_of new 0 → slot_from d ≡ slot_from e → d ≡ e
      one_reduction d e l k q = sym (the_slot d l).2 ∙ ap (outstanding_count outstanding) q ∙ (the_slot e k).2

  slots_matched : Matched (count c) j outstanding (outstanding_in new 0 (count c))
  slots_matched = record {
    long = outstanding_length new 0 (count c);
    to = outstanding_count outstanding;
    below = λ x l. omega (arith, in_first x l, slots.below);
    to_below = λ x l. omega (arith, index_low x l, low);
    within = λ x l. subst (Within (at outstanding x)) (sym (moved x l)) (within_self l);
    apart = λ x y l k q. one_slot x y l k q (less_or_not x y) (less_or_not y x);
  }
    where
      moved : (x : ℕ) → 0 < at outstanding x → at (outstanding_in new 0 (count c)) (outstanding_count outstanding x) ≡ at outstanding x
      moved x l = outstanding_is new 0 (count c) (outstanding_count outstanding x) few (index_low x l) ∙ held_reduction x l

  pub held_well : Well c j new 0
  held_well = record {
    few = h.few;
    below = low;
    rest = record {
      within = rest.within;
      small = record {
        short = omega (arith, rest.small.short, h.short);
        weekly_before = omega (arith, rest.small.weekly_before, h.weekly_before);
        regular_before = omega (arith, rest.small.regular_before, h.regular_before);
        weekly = omega (arith, rest.small.weekly, h.weekly);
        regular = omega (arith, rest.small.regular, h.regular);
      };
      week = refl;
      ended = omega (arith, rest.ended, h.ended);
    };
  }

  -- the entry can do exactly what the state can
  pub held_can : Equal (Tries c (Later c j) j st outstanding) (Can c j new 0)
  held_can = record {
    to = tries_by c (matched_last c) (Later c j) j rest.within (later_matched c lies j rest.within)
        (record {
          week = sym rest.week;
          ended = omega (arith, h.ended);
          short = omega (arith, h.short);
          weekly_before = omega (arith, h.weekly_before);
          regular_before = omega (arith, h.regular_before);
          weekly = omega (arith, h.weekly);
          regular = omega (arith, h.regular);
        })
        (outstanding_in new 0 (count c)) outstanding entry_matched;
    from = tries_by c (matched_last c) (Later c j) j rest.within (later_matched c lies j rest.within)
        (record {
          week = rest.week;
          ended = omega (arith, h.ended);
          short = omega (arith, h.short);
          weekly_before = omega (arith, h.weekly_before);
          regular_before = omega (arith, h.regular_before);
          weekly = omega (arith, h.weekly);
          regular = omega (arith, h.regular);
        })
        outstanding (outstanding_in new 0 (count c)) slots_matched;
  }

-- ---- a state put into a front
module _ (c : Course) (lies : Lies c) (j m : ℕ) {outstanding t t' : List ℕ} {st : State} {n n' : ℕ} (slots : InSlots c j m outstanding) (rest : AtRest c j st)
    (front : Front c j t n) (h : Inserted t t' (take m outstanding) st n n') where
  new_well : Well c j h.new 0
  new_well = held_well c lies j m outstanding h.new st slots rest h.held

  new_can : Equal (Tries c (Later c j) j st outstanding) (Can c j h.new 0)
  new_can = held_can c lies j m outstanding h.new st slots rest h.held

  pub inserted_front : Front c j t' n'
  inserted_front = front_on c lies j h.placed front new_well

  pub inserted_led : {S : Type 0} → S → Led (Tries c (Later c j) j st outstanding) (Any c j t n) (Any c j t' n') false outstanding outstanding S (Front c j t' n')
  inserted_led s = record {
    yes = λ e. absurd (false≢true e);
    keeps = λ _. all_in c lies j h.placed front new_well;
    leads = λ _ p. new_in c lies j h.placed front new_well (new_can.to p);
    from = λ _ a. go (all_out c lies j h.placed front new_well a);
    same = refl;
    sound = s;
    well = inserted_front;
  }
    where
      go : Any c j t n ⊎ Can c j h.new 0 → Any c j t n ⊎ Tries c (Later c j) j st outstanding
      go (inl a) = inl a
      go (inr q) = inr (new_can.from q)

-- a front with no room has no entry
pub no_room : (c : Course) (j : ℕ) {t : List ℕ} {n : ℕ} → length t ≡ 0 → Front c j t n → Any c j t n → ⊥
no_room c j e h a = omega (arith, e, h.room, a.below)
