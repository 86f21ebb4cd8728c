-- Laws of a question that ends by merging: two courses with the same compensations from a rest on, and fronts side by side. Assumes nothing.
use mathlib.Core.Path.{◌≡◌, refl, sym, ap, subst, ◌∙◌}
use mathlib.Core.Logic.{◌⊎◌, inl, inr}
use mathlib.Core.Bool.{Bool, true, false, false≢true, true≢false}
use mathlib.Core.List.{List}
use Prim.Native.Nat.{ℕ, zero, suc, ◌+◌, ◌-◌, ◌≤◌, ◌<◌}
use native.Mathlib.Nat.{eq-zero-or-pos}
use native.Mathlib.Omega.{arith}
use lib.Dec.{leb}
use lib.ListN.{set, length-replicate}
use lib.Seq.{get_or-set_other}
use Rattle.std.specs.Prelude.{Option, None, Some}
use Rattle.std.proofs.lemmas.List.{ext_get_or, get_or-replicate}
use Rattle.recording.specs.Weeks.{week_of}
use Rattle.rules.specs.Reading.{regular_minutes}
use Rattle.rules_items.specs.Items.{added_to}
use Rattle.verdict_completion.specs.declared.State.{State}
use Rattle.verdict_completion.specs.States.{advance, After, after_daily, after_weekly}
use Rattle.verdict_completion.specs.Completable.{Course, at, count, rest_week, length_at, outstanding_of, shortens, Compensates, Reads, Tries, Completable, Lies}
use Rattle.verdict_completion.specs.Better.{AtRest}
use Rattle.verdict_nogoods.specs.Table.{Empty}
use Rattle.verdict_fronts.specs.Front.{entry_at, state_in, outstanding_in, AllDominated}
use Rattle.verdict_search.specs.Search.{with_compensations, Later, Sound, Free}
use Rattle.verdict_search.specs.Leading.{Any, Front}
use Rattle.verdict_search.proofs.Fronts.{can_by}
use Rattle.verdict_search.proofs.Memory.{empty_sound}
use Rattle.verdict_sweep.specs.Sweep.{Passed}
use Rattle.verdict_sweep.proofs.Sweeps.{fronts_self, fronts_on}
use Rattle.verdict_merging.specs.declared.Room.{Room}
use Rattle.verdict_merging.specs.Merging.{nothing, SameRoom, StaysEmpty, Beside, Trial, Renewed}

-- ---- two courses with the same compensations from the rest of index x on
compensates_map : (F G : ℕ → List ℕ → Type 0) (minutes : ℕ) → ((compensation : ℕ) (o : List ℕ) → F compensation o → G compensation o)
    → (m i compensation : ℕ) (o : List ℕ) → Compensates F minutes m i compensation o → Compensates G minutes m i compensation o
unfolding Compensates
compensates_map F G minutes f zero i compensation o h = f compensation o h
compensates_map F G minutes f (suc m) i compensation o (inl h) = inl (h.0, h.1, compensates_map F G minutes f m (i + 1) _ _ h.2)
compensates_map F G minutes f (suc m) i compensation o (inr h) = inr (compensates_map F G minutes f m (i + 1) compensation o h)

after_map : (P Q : State → Type 0) (b : Option State) → ((st : State) → P st → Q st) → After b P → After b Q
after_map P Q None f h = h
after_map P Q (Some st) f h = f st h

module _ (c : Course) (compensations : List ℕ) where
  module _ (K K' : State → List ℕ → Type 0) (f : (st : State) (o : List ℕ) → K st o → K' st o) where
    reads_map : (j : ℕ) (here : State) (compensation : ℕ) (o : List ℕ) → Reads c K j here compensation o → Reads (with_compensations c compensations) K' j here compensation o
    reads_map j here compensation o (inl h) = inl (record { net = h.net; few = h.few; then = f (after_daily (shortens c j compensation) here) o h.then })
    reads_map j here compensation o (inr h) =
        let w = h.week in
        let left = set o j (outstanding_of (length_at c j) compensation w) in
        inr
        (record {
          net = h.net;
          week = w;
          from = h.from;
          upto = h.upto;
          then = after_map (λ there. K (after_weekly (rest_week c w) (leb (regular_minutes + compensation) (length_at c j)) (at c.ends j) there) left)
              (λ there. K' (after_weekly (rest_week c w) (leb (regular_minutes + compensation) (length_at c j)) (at c.ends j) there) left) (advance (rest_week c) (w - here.week) here)
              (λ there k. f (after_weekly (rest_week c w) (leb (regular_minutes + compensation) (length_at c j)) (at c.ends j) there) left k) h.then;
        })

  module _ (x : ℕ) (agree : (i : ℕ) → x ≤ i → at compensations i ≡ at c.compensations i) where
    tries_map : (K K' : State → List ℕ → Type 0) → ((st : State) (o : List ℕ) → K st o → K' st o)
        → (j : ℕ) (here : State) (o : List ℕ) → x ≤ j → Tries c K j here o → Tries (with_compensations c compensations) K' j here o
    tries_map K K' f j here o l h =
        subst (λ (v : ℕ). Compensates (Reads (with_compensations c compensations) K' j here) (length_at c j) j 0 v o) (sym (agree j l))
        (compensates_map (Reads c K j here) (Reads (with_compensations c compensations) K' j here) (length_at c j) (reads_map K K' f j here) j 0 (at c.compensations j) o h)

    completable_map : (n j : ℕ) (st : State) (o : List ℕ) → x ≤ j → Completable c n j st o → Completable (with_compensations c compensations) n j st o
    unfolding Completable
    completable_map zero j st o l h = h
    completable_map (suc n) j st o l h = (
      h.0,
      h.1,
      after_map (λ here. Tries c (Completable c n (suc j)) j here o) (λ here. Tries (with_compensations c compensations) (Completable (with_compensations c compensations) n (suc j)) j here o)
          (advance (rest_week c) (week_of (at c.starts j) - st.week) st)
          (λ here k. tries_map (Completable c n (suc j)) (Completable (with_compensations c compensations) n (suc j)) (λ y p q. completable_map n (suc j) y p (omega arith) q) j here o l k) h.2,
    )

    any_map : {i n : ℕ} {t : List ℕ} → x ≤ i → Any c i t n → Any (with_compensations c compensations) i t n
    any_map {i} {n} {t} l a = record {
      entry = a.entry;
      below = a.below;
      can = tries_map (Later c i) (Later (with_compensations c compensations) i) (λ st o h. completable_map (count c - (i + 1)) (i + 1) st o (omega arith) h) i
          (state_in t (entry_at a.entry) (week_of (at c.starts i))) (outstanding_in t (entry_at a.entry) (count c)) l a.can;
    }

  rest_map : {j : ℕ} {here : State} → AtRest c j here → AtRest (with_compensations c compensations) j here
  rest_map h = record { within = h.within; small = h.small; week = h.week; ended = h.ended }

  pub front_map : {i n : ℕ} {t : List ℕ} → Front c i t n → Front (with_compensations c compensations) i t n
  front_map {i} {n} {t} h = record {
    room = h.room;
    each = λ e l. let w = h.each e l in record { few = w.few; below = w.below; rest = rest_map w.rest };
  }

-- ---- a trial of a course
module _ {c d : Course} {x : ℕ} (t : Trial c d x) where
  pub as_many : count d ≡ count c
  as_many = ap (λ (k : Course). count k) t.same_rests

  pub front_in : {i n : ℕ} {f : List ℕ} → Front c i f n → Front d i f n
  front_in {i} {n} {f} h = subst (λ (k : Course). Front k i f n) (sym t.same_rests) (front_map c d.compensations h)

  pub trusted_in : {i n : ℕ} {f : List ℕ} → x ≤ i → (0 < n → Any c i f n) → 0 < n → Any d i f n
  trusted_in {i} {n} {f} l h p = subst (λ (k : Course). Any k i f n) (sym t.same_rests) (any_map c d.compensations x t.later l (h p))

-- the nogoods of one course become those of another
pub sound_renewed : {c d : Course} {k x : ℕ} {n n' : List ℕ} → Lies d → k ≡ count d → (x ≡ 0 → d ≡ c) → Sound c n → Renewed k x n n' → Sound d n'
sound_renewed {c} {d} {k} {x} {n} {n'} lies e same sound r = go (eq-zero-or-pos x)
  where
    go : (x ≡ 0) ⊎ (0 < x) → Sound d n'
    go (inl z) = subst (λ (a : Course). Sound a n') (sym (same z)) (subst (Sound c) (sym (r.kept z)) sound)
    go (inr l) = empty_sound d lies (subst (λ (m : ℕ). Empty n' m) e (r.empty (λ z. omega arith)))

-- ---- what is lent
pub room_self : {a : Room} → SameRoom a a
room_self = record { slots = refl; nogoods = refl; many = refl; table = refl; asked = fronts_self; known = fronts_self }

pub room_on : {a b d : Room} → SameRoom a b → SameRoom b d → SameRoom a d
room_on f g = record {
  slots = g.slots ∙ f.slots;
  nogoods = g.nogoods ∙ f.nogoods;
  many = g.many ∙ f.many;
  table = g.table ∙ f.table;
  asked = fronts_on f.asked g.asked;
  known = fronts_on f.known g.known;
}

-- where nothing is outstanding, the slots are as they were
free_nothing : (c : Course) {o : List ℕ} → Free c o → o ≡ nothing c
free_nothing c {o} h =
    ext_get_or 0 o (nothing c) (h.one_each ∙ sym (length-replicate _ _))
    (λ i l. h.unused i (omega arith) ∙ sym (get_or-replicate (count c) i 0 0 (omega (arith, l, h.one_each))))

pub slots_same : (c : Course) (a b : Room) → Free c a.slots.now → StaysEmpty c a b → b.slots.now ≡ a.slots.now
slots_same c a b h f = let e = free_nothing c h in f e ∙ sym e

-- ---- a compensation tried
pub added_to-none : (p : List ℕ) (x d : ℕ) → x ≡ 0 → added_to p x d ≡ p
added_to-none p x d e = ap (λ (y : ℕ). added_to p y d) e

pub added_to-some : (p : List ℕ) (x d : ℕ) → (x ≡ 0 → ⊥) → added_to p x d ≡ set p (x - 1) (at p (x - 1) + d)
added_to-some p zero d n = absurd (n refl)
added_to-some p (suc i) d n = let e : i ≡ suc i - 1 = omega arith in ap (λ (y : ℕ). set p y (at p y + d)) e

-- the compensations of the rests from that of index x on are as they were
pub added_to-later : (p : List ℕ) (x d i : ℕ) → x ≤ i → at (added_to p x d) i ≡ at p i
added_to-later p zero d i l = refl
added_to-later p (suc x) d i l = get_or-set_other p x i (at p x + d) 0 (λ e. omega arith)

-- ---- fronts side by side
-- each known state is matched: what one of them can do one of the question's can
pub merged : (c : Course) (lies : Lies c) (i : ℕ) {known front : List ℕ} {g n : ℕ}
    → Front c i known g → Front c i front n → AllDominated known g front n → Any c i known g → Any c i front n
merged c lies i k f h a =
    let b = h.each a.entry a.below in
    record { entry = b.entry; below = b.below; can = can_by c lies i (f.each b.entry b.below) (k.each a.entry a.below) b.dominates a.can }

pub beside_yes : {P H A H' S W : Type 0} → P → S → W → Beside P H A H' true S W
beside_yes p s w = record {
  yes = λ _ _. p;
  leads = λ e. absurd (true≢false e);
  from = λ e. absurd (true≢false e);
  trusts = λ e. absurd (true≢false e);
  ready = s;
  abreast = w;
}

-- nothing is known any more
pub beside_alone : {P H A X N S V W : Type 0} {r : Bool} → r ≡ false → Passed P A r N V → S → W → Beside P H A (0 < 0 → X) false S W
beside_alone e h s w = record {
  yes = λ y. absurd (false≢true y);
  leads = λ _. h.leads e;
  from = λ _. h.from e;
  trusts = λ _ _ l. absurd (omega arith);
  ready = s;
  abreast = w;
}

-- both fronts go on, and may merge
pub beside_both : {P K A B N N' S V V' W : Type 0} {r r' b : Bool} {g m : ℕ} → r ≡ false → Passed P A r N V → r' ≡ false → Passed K B r' N' V' → 0 < g
    → (b ≡ true → B → A) → S → W → Beside P (0 < g → K) A (0 < m → B) b S W
beside_both e h e' h' l merge s w = record {
  yes = λ y k. h.from e (merge y (h'.leads e' (k l)));
  leads = λ _. h.leads e;
  from = λ _. h.from e;
  trusts = λ _ k _. h'.leads e' (k l);
  ready = s;
  abreast = w;
}
