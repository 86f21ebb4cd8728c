-- Laws of a front: entries compared, copied, removed and put. Assumes nothing.
use mathlib.Core.Path.{◌≡◌, refl, sym, ap, subst, ◌∙◌}
use mathlib.Core.Logic.{◌⊎◌, inl, inr}
use mathlib.Core.Bool.{Bool}
use mathlib.Core.List.{List, [], ◌∷◌}
use Prim.Native.Nat.{ℕ, zero, suc, ◌+◌, ◌-◌, ◌≤◌, ◌<◌}
use native.Mathlib.Nat.{le_refl}
use native.Mathlib.Omega.{arith}
use lib.ListN.{length, length-append, length-drop, take, drop, replicate, get_or-append, get_or-eq_default}
use lib.Seq.{get_or-append_right, drop-drop, length-take-le}
use borrow.Author.Count.{below_more}
use Rattle.std.proofs.lemmas.List.{get_or-replicate, get_or-take, get_or-drop, length-replicate}
use Rattle.std.proofs.Common.{min, ◌++◌}
use borrow.Author.Tests.{lt-ltb, le-ltb}
use Rattle.recording.specs.Tests.{pick}
use Rattle.recording.proofs.TestLaws.{less_or_not}
use Rattle.verdict_completion.specs.Completable.{at}
use Rattle.verdict_completion.specs.Better.{Within, Better}
use Rattle.verdict_nogoods.specs.Table.{state_words, reductions_at_most, entry_words, reductions_of, reduction_place, reduction_in, reductions_at, Paired, OneDominates}
use Rattle.verdict_nogoods.proofs.TableLaws.{reductions_each, reductions_low, reductions_length, spliced, spliced_in, spliced_out}
use Rattle.verdict_fronts.specs.Front.{entry_at, state_in, slot_in, words_by, outstanding_in, Same, Copied, Dominates, Dominated}
use Rattle.verdict_fronts.specs.Front.{Stays, stays, goes, From, Removed, Comes, old, fresh, Remains, there, dominated, itself, other, Placed}

-- ---- the same words
pub same_self : (t : List ℕ) (p : ℕ) → Same t p t p
same_self t p = record { word = λ d _. refl }

pub same_then : {a b c : List ℕ} {p q r : ℕ} → Same a p b q → Same b q c r → Same a p c r
same_then f g = record { word = λ d l. f.word d l ∙ g.word d l }

pub same_back : {a b : List ℕ} {p q : ℕ} → Same a p b q → Same b q a p
same_back f = record { word = λ d l. sym (f.word d l) }

-- words that are as they were
pub same_kept : {t t' : List ℕ} (p : ℕ) → ((x : ℕ) → p ≤ x → x < p + entry_words → at t' x ≡ at t x) → Same t' p t p
same_kept p h = record { word = λ d l. h (p + d) (omega arith) (omega arith) }

pub same_first : {a b : List ℕ} {p q : ℕ} → Same a p b q → at a p ≡ at b q
same_first {a} {b} {p} {q} f =
    let e : p + 0 ≡ p = omega arith in
    let g : q + 0 ≡ q = omega arith in
    ap (at a) (sym e) ∙ f.word 0 (omega arith) ∙ ap (at b) g

pub same_reduction : {a b : List ℕ} {p q : ℕ} → Same a p b q → (d : ℕ) → d < reductions_at_most → reduction_in a p d ≡ reduction_in b q d
same_reduction {a} {b} {p} {q} f d l =
    let e : reduction_place p d ≡ p + (state_words + d) = omega arith in
    let g : q + (state_words + d) ≡ reduction_place q d = omega arith in
    ap (at a) e ∙ f.word (state_words + d) (omega arith) ∙ ap (at b) g

-- what an entry says depends on its words alone
pub same_state : {a b : List ℕ} {p q : ℕ} → Same a p b q → (w : ℕ) → state_in a p w ≡ state_in b q w
same_state s w = rw (same_first s, s.word 1 (omega arith), s.word 2 (omega arith), s.word 3 (omega arith), s.word 4 (omega arith), s.word 5 (omega arith)) refl

pub same_reductions : {a b : List ℕ} {p q : ℕ} → Same a p b q → (d : ℕ) → at (reductions_at a p) d ≡ at (reductions_at b q) d
same_reductions {a} {b} {p} {q} s d = go (less_or_not d (min (reductions_of a p) reductions_at_most))
  where
    n : reductions_of a p ≡ reductions_of b q
    n = s.word 6 (omega arith)

    go : (d < min (reductions_of a p) reductions_at_most) ⊎ (min (reductions_of a p) reductions_at_most ≤ d) → at (reductions_at a p) d ≡ at (reductions_at b q) d
    go (inl l) = reductions_each a p d l ∙ same_reduction s d (omega arith) ∙ sym (reductions_each b q d (omega (arith, n)))
    go (inr l) = get_or-eq_default (reductions_at a p) 0 (omega (arith, reductions_low a p)) ∙ sym (get_or-eq_default (reductions_at b q) 0 (omega (arith, reductions_low b q, n)))

-- entries in terms of one another: beaten, after words that are the same
paired_back : (stored present present' : List ℕ) → ((d : ℕ) → at present d ≡ at present' d) → Paired stored present → Paired stored present'
paired_back stored present present' e h = record { to = h.to; within = λ d l. subst (Within (at stored d)) (e (h.to d)) (h.within d l); rises = h.rises }

pub dominates_back : {a b t : List ℕ} {r p q : ℕ} → Same b q t p → Dominates a r b q → Dominates a r t p
dominates_back {a} {b} {t} {r} {p} {q} s h = record {
  few = omega (arith, h.few, s.word 6 (omega arith));
  as_good = record {
    few = h.as_good.few;
    better = subst (Better (state_in a r 0)) (same_state s 0) h.as_good.better;
    reductions = paired_back _ _ _ (same_reductions s) h.as_good.reductions;
  };
}

-- the entry e of n
pub one_dominated : {t b : List ℕ} {n q : ℕ} → reductions_of b q ≤ reductions_at_most → OneDominates t n (state_in b q 0) (reductions_at b q) → Dominated t n b q
one_dominated few h = record { entry = h.0; below = h.1; dominates = record { few = few; as_good = h.2 } }

-- ---- fronts compared: the first e entries
pub dominated_on : {a b : List ℕ} {m e : ℕ} → Dominated b m a (entry_at e) → ((i : ℕ) → i < e → Dominated b m a (entry_at i)) → (i : ℕ) → i < e + 1 → Dominated b m a (entry_at i)
dominated_on {a} {b} {m} {e} this before = below_more (λ (i : ℕ). Dominated b m a (entry_at i)) e before this

-- ---- an entry moved and put in its place
pub copied_self : (t : List ℕ) (p q : ℕ) → p ≡ q → Copied t t t p q
copied_self t p q e = subst (λ (x : ℕ). Copied t t t p x) e (record { there = same_self t p; other = λ x _. refl })

pub copied_in : (t new : List ℕ) (q k : ℕ) → k ≡ entry_words → q + entry_words ≤ length t → length new ≡ entry_words → Copied t (take q t ++ (new ++ drop k (drop q t))) new 0 q
copied_in t new q k same room size = subst (λ (l : List ℕ). Copied t (take q t ++ (new ++ l)) new 0 q)
    (ap (λ (x : ℕ). drop (q + x) t) (size ∙ sym same) ∙ sym (drop-drop k q t)) (record {
      there = record { word = λ d l. spliced_in t new q (omega arith) (q + d) (omega arith) (omega arith) ∙ ap (at new) (let e : q + d - q ≡ 0 + d = omega arith in e) };
      other = λ x h. go x h;
    })
  where
    go : (x : ℕ) → (x < q) ⊎ (q + entry_words ≤ x) → at (spliced t new q (let k : q + length new ≤ length t = omega arith in k)) x ≡ at t x
    go x (inl l) = spliced_out t new q (omega arith) x (inl l)
    go x (inr l) = spliced_out t new q (omega arith) x (inr (omega arith))

pub moved_in : (t new : List ℕ) (p q n k : ℕ) → n ≡ entry_words → k ≡ entry_words → p + entry_words ≤ length t → q + entry_words ≤ length t → new ≡ take n (drop p t)
    → Copied t (take q t ++ (new ++ drop k (drop q t))) t p q
moved_in t new p q n k same' same from room e = record {
  there = record {
    word = λ d l. c.there.word d l ∙ ap (λ (xs : List ℕ). at xs (0 + d)) e ∙ get_or-take n (drop p t) (0 + d) 0 (omega arith) ∙ get_or-drop p t (0 + d) 0
        ∙ ap (at t) (let z : p + (0 + d) ≡ p + d = omega arith in z);
  };
  other = c.other;
}
  where
    long : n ≤ length (drop p t)
    long = rw length-drop (omega arith)

    size : length new ≡ entry_words
    size = ap length e ∙ length-take-le n (drop p t) long ∙ same'

    c : Copied t (take q t ++ (new ++ drop k (drop q t))) new 0 q
    c = copied_in t new q k same room size

pub put_length : (t new : List ℕ) (q k : ℕ) → k ≡ entry_words → q + entry_words ≤ length t → length new ≡ entry_words → length (take q t ++ (new ++ drop k (drop q t))) ≡ length t
put_length t new q k same room size = let l : q ≤ length t = omega arith in simp (length-append, length-drop) (omega (arith, length-take-le q t l))

-- ---- entries removed
pub removed_start : (t new : List ℕ) → Removed t t new 0 0
removed_start t new = record { fewer = le_refl _; same = λ _. refl; rest = λ x _. refl; from = λ e l. absurd (omega arith); to = λ e l. absurd (omega arith) }

module _ {t t' new : List ℕ} {i r : ℕ} (before : Removed t t' new i r) where
  here : Same t' (entry_at i) t (entry_at i)
  here = same_kept (entry_at i) (λ x l _. before.rest x l)

  -- the new one is at least as good as the next entry
  pub removed_out : Dominates new 0 t' (entry_at i) → Removed t t' new (i + 1) r
  removed_out b = record {
    fewer = omega (arith, before.fewer);
    same = λ e. absurd (omega (arith, before.fewer, e));
    rest = λ x l. before.rest x (omega arith);
    from = λ e l. let f = before.from e l in record { entry = f.entry; below = omega (arith, f.below); same = f.same };
    to = λ e l. go e l (less_or_not e i);
  }
    where
      wider : (e : ℕ) → Stays t t' new i r e → Stays t t' new (i + 1) r e
      wider e (stays x l s) = stays x l s
      wider e (goes l s) = goes (omega arith) s

      go : (e : ℕ) → e < i + 1 → (e < i) ⊎ (i ≤ e) → Stays t t' new (i + 1) r e
      go e l (inl m) = wider e (before.to e m)
      go e l (inr m) =
          let q : i ≡ e = omega arith in
          subst (λ (x : ℕ). Stays t t' new (i + 1) r x) q (goes (omega (arith, before.fewer)) (dominates_back here b))

  -- the next entry moves up
  pub removed_on : {t'' : List ℕ} → Copied t' t'' t' (entry_at i) (entry_at r) → (i ≤ r → t'' ≡ t') → Removed t t'' new (i + 1) (r + 1)
  removed_on {t''} c kept_there = record {
    fewer = omega (arith, before.fewer);
    same = λ e. kept_there (omega (arith, e)) ∙ before.same (omega (arith, e));
    rest = λ x l. c.other x (inr (omega (arith, before.fewer))) ∙ before.rest x (omega arith);
    from = λ e l. come e l (less_or_not e r);
    to = λ e l. go e l (less_or_not e i);
  }
    where
      kept : (e : ℕ) → e < r → Same t'' (entry_at e) t' (entry_at e)
      kept e l = same_kept (entry_at e) (λ x f g. c.other x (inl (omega arith)))

      come : (e : ℕ) → e < r + 1 → (e < r) ⊎ (r ≤ e) → From t t'' (i + 1) e
      come e l (inl m) = let f = before.from e m in record { entry = f.entry; below = omega (arith, f.below); same = same_then (kept e m) f.same }
      come e l (inr m) =
          let q : r ≡ e = omega arith in
          subst (λ (x : ℕ). From t t'' (i + 1) x) q (record { entry = i; below = omega arith; same = same_then c.there here })

      wider : (e : ℕ) → Stays t t' new i r e → Stays t t'' new (i + 1) (r + 1) e
      wider e (stays x l s) = stays x (omega arith) (same_then (kept x l) s)
      wider e (goes l s) = goes (omega arith) s

      go : (e : ℕ) → e < i + 1 → (e < i) ⊎ (i ≤ e) → Stays t t'' new (i + 1) (r + 1) e
      go e l (inl m) = wider e (before.to e m)
      go e l (inr m) =
          let q : i ≡ e = omega arith in
          subst (λ (x : ℕ). Stays t t'' new (i + 1) (r + 1) x) q (stays r (omega arith) (same_then c.there here))

  -- it stands there already
  pub removed_stays : i ≤ r → Removed t t' new (i + 1) (r + 1)
  removed_stays l = removed_on (copied_self t' (entry_at i) (entry_at r) (let e : i ≡ r = omega (arith, before.fewer) in ap entry_at e)) (λ _. refl)

-- ---- an entry put
pub dropped : {t new : List ℕ} {n : ℕ} → entry_at n ≤ length t → Dominated t n new 0 → Placed t t new n n
dropped {t} room b = record {
  room = room;
  from = λ e l. old (record { entry = e; below = l; same = same_self t (entry_at e) });
  to = λ e l. there e l (same_self t (entry_at e));
  found = other b;
}

module _ {t t' new : List ℕ} {n r : ℕ} (w : Removed t t' new n r) where
  pub appended : {t'' : List ℕ} → entry_at (r + 1) ≤ length t'' → Copied t' t'' new 0 (entry_at r) → Placed t t'' new n (r + 1)
  appended {t''} room c = record {
    room = room;
    from = λ e l. come e l (less_or_not e r);
    to = λ e m. go e (w.to e m);
    found = itself r (omega arith) c.there;
  }
    where
      kept : (e : ℕ) → e < r → Same t'' (entry_at e) t' (entry_at e)
      kept e l = same_kept (entry_at e) (λ x f g. c.other x (inl (omega arith)))

      come : (e : ℕ) → e < r + 1 → (e < r) ⊎ (r ≤ e) → Comes t t'' new n e
      come e l (inl m) = let f = w.from e m in old (record { entry = f.entry; below = f.below; same = same_then (kept e m) f.same })
      come e l (inr m) = let q : r ≡ e = omega arith in subst (λ (x : ℕ). Comes t t'' new n x) q (fresh c.there)

      go : (e : ℕ) → Stays t t' new n r e → Remains t t'' new (r + 1) e
      go e (stays x m s) = there x (omega arith) (same_then (kept x m) s)
      go e (goes m s) = dominated s

pub no_slot : (t : List ℕ) (p d : ℕ) → reductions_of t p ≤ d → slot_in t p d ≡ 0
no_slot t p d l = ap (λ (b : Bool). pick b (reduction_in t p d) 0) (le-ltb d (reductions_of t p) l)

pub a_slot : (t : List ℕ) (p d : ℕ) → d < reductions_of t p → slot_in t p d ≡ reduction_in t p d
a_slot t p d l = ap (λ (b : Bool). pick b (reduction_in t p d) 0) (lt-ltb d (reductions_of t p) l)

pub words_length : (f : ℕ → ℕ) (i k : ℕ) → length (words_by f i k) ≡ k
unfolding words_by
words_length f i zero = refl
words_length f i (suc k) = ap suc (words_length f (suc i) k)

pub words_at : (f : ℕ → ℕ) (i k d : ℕ) → d < k → at (words_by f i k) d ≡ f (i + d)
unfolding words_by
words_at f i zero d l = absurd (omega arith)
words_at f i (suc k) zero l = let e : i ≡ i + 0 = omega arith in ap f e
words_at f i (suc k) (suc d) l = let e : suc i + d ≡ i + suc d = omega arith in words_at f (suc i) k d (omega arith) ∙ ap f e

pub words_out : (f : ℕ → ℕ) (i k d : ℕ) → k ≤ d → at (words_by f i k) d ≡ 0
unfolding words_by
words_out f i zero d l = refl
words_out f i (suc k) zero l = absurd (omega arith)
words_out f i (suc k) (suc d) l = words_out f (suc i) k d (omega arith)

-- words that are told one by one
pub words_are : (f : ℕ → ℕ) (i : ℕ) (l : List ℕ) → ((d : ℕ) → d < length l → at l d ≡ f (i + d)) → l ≡ words_by f i (length l)
unfolding words_by
words_are f i [] h = refl
words_are f i (x ∷ l) h =
    let e : i + 0 ≡ i = omega arith in
    ap (λ (y : ℕ). y ∷ l) (h 0 (omega arith) ∙ ap f e)
    ∙ ap (λ (q : List ℕ). f i ∷ q) (words_are f (suc i) l (λ d m. h (suc d) (omega arith) ∙ ap f (let g : i + suc d ≡ suc i + d = omega arith in g)))

pub words_same : (f g : ℕ → ℕ) (i k : ℕ) → ((d : ℕ) → f d ≡ g d) → words_by f i k ≡ words_by g i k
unfolding words_by
words_same f g i zero h = refl
words_same f g i (suc k) h = ap (λ (y : ℕ). y ∷ words_by f (suc i) k) (h i) ∙ ap (λ (q : List ℕ). g i ∷ q) (words_same f g (suc i) k h)

-- the reductions of an entry, and 0 in the other slots
pub slots_are : (t zeros : List ℕ) (p : ℕ) → p + entry_words ≤ length t → reductions_of t p ≤ reductions_at_most → ((d : ℕ) → at zeros d ≡ 0)
    → reductions_at t p ++ zeros ≡ outstanding_in t p (length (reductions_at t p ++ zeros))
slots_are t zeros p room few none = words_are (slot_in t p) 0 (reductions_at t p ++ zeros) (λ d l. go d (less_or_not d (reductions_of t p)) ∙ ap (slot_in t p) (let e : d ≡ 0 + d = omega arith in e))
  where
    size : length (reductions_at t p) ≡ reductions_of t p
    size = omega (arith, reductions_length t p room)

    go : (d : ℕ) → (d < reductions_of t p) ⊎ (reductions_of t p ≤ d) → at (reductions_at t p ++ zeros) d ≡ slot_in t p d
    go d (inl l) = get_or-append (reductions_at t p) zeros 0 d (omega (arith, size)) ∙ reductions_each t p d (omega arith) ∙ sym (a_slot t p d l)
    go d (inr l) = get_or-append_right (reductions_at t p) zeros d 0 (omega (arith, size)) ∙ none (d - length (reductions_at t p)) ∙ sym (no_slot t p d l)

pub zeros_only : {l : List ℕ} (n : ℕ) → l ≡ replicate n 0 → (d : ℕ) → at l d ≡ 0
zeros_only n e d = rw e (go (less_or_not d n))
  where
    go : (d < n) ⊎ (n ≤ d) → at (replicate n 0) d ≡ 0
    go (inl l) = get_or-replicate n d 0 0 l
    go (inr l) = get_or-eq_default (replicate n 0) 0 (omega (arith, length-replicate {A = ℕ} n 0))
