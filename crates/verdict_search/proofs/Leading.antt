-- Laws of a question that is led on to the next front. Assumes nothing.
use mathlib.Core.Path.{◌≡◌, refl, sym, ap, subst, ◌∙◌}
use mathlib.Core.Logic.{◌⊎◌, inl, inr}
use mathlib.Core.Bool.{Bool, true, false, false≢true, true≢false}
use mathlib.Core.List.{List}
use Prim.Native.Nat.{ℕ}
use lib.ListN.{set}
use lib.Seq.{set-set, set-get_or}
use Rattle.verdict_completion.specs.Completable.{at}
use Rattle.verdict_steps.specs.Steps.{Says}
use Rattle.verdict_search.specs.Search.{Found}
use Rattle.verdict_search.specs.Leading.{Led}

-- each of two questions answers the other
pub record Equal (P Q : Type 0) : Type 0 where
  pub to : P → Q
  pub from : Q → P

pub equal : {P Q : Type 0} → (P → Q) → (Q → P) → Equal P Q
equal f g = record { to = f; from = g }

pub equal_then : {P Q R : Type 0} → Equal P Q → Equal Q R → Equal P R
equal_then f g = record { to = λ p. g.to (f.to p); from = λ r. f.from (g.from r) }

pub equal_self : {A : Type 0} → Equal A A
equal_self = record { to = λ a. a; from = λ a. a }

pub carry : {P Q A A' S W : Type 0} {r : Bool} {o o' : List ℕ} → Equal P Q → Led P A A' r o o' S W → Led Q A A' r o o' S W
carry {P} {Q} {A} i h = record {
  yes = λ e. i.to (h.yes e);
  keeps = h.keeps;
  leads = λ e q. h.leads e (i.from q);
  from = λ e a. go (h.from e a);
  same = h.same;
  sound = h.sound;
  well = h.well;
}
  where
    go : A ⊎ P → A ⊎ Q
    go (inl a) = inl a
    go (inr p) = inr (i.to p)

-- the question does not hold, and the front is as it was
pub refuse : {P A S W : Type 0} {o o' : List ℕ} → (P → ⊥) → o' ≡ o → S → W → Led P A A false o o' S W
refuse n e s w = record { yes = λ h. absurd (false≢true h); keeps = λ _ a. a; leads = λ _ p. absurd (n p); from = λ _ a. inl a; same = e; sound = s; well = w }

pub accept : {P A A' S W : Type 0} {o o' : List ℕ} → P → o' ≡ o → S → W → Led P A A' true o o' S W
accept p e s w = record {
  yes = λ _. p;
  keeps = λ h. absurd (true≢false h);
  leads = λ h. absurd (true≢false h);
  from = λ h. absurd (true≢false h);
  same = e;
  sound = s;
  well = w;
}

-- it was asked of the search, and the front stays or changes to one that says the same
pub asked : {P A A' S W : Type 0} {r : Bool} {o o' : List ℕ} → Equal A A' → Found P r o o' S → W → Led P A A' r o o' S W
asked i h w = record {
  yes = h.yes;
  keeps = λ _ a. i.to a;
  leads = λ e p. absurd (h.no e p);
  from = λ _ a. inl (i.from a);
  same = h.same;
  sound = h.sound;
  well = w;
}

-- answers of the search
pub said : {P Q S : Type 0} {r : Bool} {o o' : List ℕ} → Equal Q P → Says Q r → o' ≡ o → S → Found P r o o' S
said i h e s = record { yes = λ y. i.to (h.yes y); no = λ n p. h.no n (i.from p); same = e; sound = s }

pub found_yes : {P S : Type 0} {o o' : List ℕ} → P → o' ≡ o → S → Found P true o o' S
found_yes p e s = record { yes = λ _. p; no = λ h. absurd (true≢false h); same = e; sound = s }

pub found_no : {P S : Type 0} {o o' : List ℕ} → (P → ⊥) → o' ≡ o → S → Found P false o o' S
found_no n e s = record { yes = λ h. absurd (false≢true h); no = λ _ p. n p; same = e; sound = s }

-- two questions, one after the other
pub both : {P Q A B C S S' W W' : Type 0} {r : Bool} {o o₁ o₂ : List ℕ} → Led P A B false o o₁ S W → Led Q B C r o₁ o₂ S' W' → Led (P ⊎ Q) A C r o o₂ S' W'
both {P} {Q} {A} {B} {C} {S} {S'} {W} {W'} {r} f g = record {
  yes = λ e. inr (g.yes e);
  keeps = λ e a. g.keeps e (f.keeps refl a);
  leads = λ e p. lead e p;
  from = λ e x. go (g.from e x);
  same = g.same ∙ f.same;
  sound = g.sound;
  well = g.well;
}
  where
    lead : r ≡ false → P ⊎ Q → C
    lead e (inl p) = g.keeps e (f.leads refl p)
    lead e (inr q) = g.leads e q

    back : A ⊎ P → A ⊎ (P ⊎ Q)
    back (inl a) = inl a
    back (inr p) = inr (inl p)

    go : B ⊎ Q → A ⊎ (P ⊎ Q)
    go (inl b) = back (f.from refl b)
    go (inr q) = inr (inr q)

-- the first of two questions was answered yes
pub first : {P Q A B S W : Type 0} {o o' : List ℕ} {r : Bool} → r ≡ true → Led P A B r o o' S W → Led (P ⊎ Q) A B r o o' S W
first {P} {Q} {A} {B} {S} {W} {o} {o'} {r} e h = subst (λ (b : Bool). Led (P ⊎ Q) A B b o o' S W) (sym e) (accept (inl (h.yes e)) h.same h.sound h.well)

-- an answer that is known
pub known : {P A B S W : Type 0} {o o' : List ℕ} {r b : Bool} → r ≡ b → Led P A B r o o' S W → Led P A B b o o' S W
known {P} {A} {B} {S} {W} {o} {o'} e h = subst (λ (x : Bool). Led P A B x o o' S W) e h

-- asked of reductions that are as they were
pub again : (P : List ℕ → Type 0) {A A' S W : Type 0} {r : Bool} {o o₁ o₂ : List ℕ} → o₁ ≡ o → Led (P o₁) A A' r o₁ o₂ S W → Led (P o) A A' r o₁ o₂ S W
again P {A} {A'} {S} {W} {r} {o} {o₁} {o₂} e h = subst (λ (x : List ℕ). Led (P x) A A' r o₁ o₂ S W) e h

-- the word at d is put back
pub back : {P A A' S W : Type 0} {r : Bool} (o last : List ℕ) (d a : ℕ) → Led P A A' r (set o d a) last S W → Led P A A' r o (set last d (at o d)) S W
back o last d a h = record {
  yes = h.yes;
  keeps = h.keeps;
  leads = h.leads;
  from = h.from;
  same = ap (λ (l : List ℕ). set l d (at o d)) h.same ∙ set-set o d a (at o d) ∙ set-get_or o d 0;
  sound = h.sound;
  well = h.well;
}

-- an answer that is yes
pub accepted : {P A A' S W : Type 0} {r : Bool} {o o' : List ℕ} → r ≡ true → P → o' ≡ o → S → W → Led P A A' r o o' S W
accepted {P} {A} {A'} {S} {W} {r} {o} {o'} e p q s w = subst (λ (b : Bool). Led P A A' b o o' S W) (sym e) (accept p q s w)

-- the same, where what is outstanding is not told
pub relist : {P A A' S W : Type 0} {r : Bool} {o o' : List ℕ} (q : List ℕ) → Led P A A' r o o' S W → Led P A A' r q q S W
relist q h = record { yes = h.yes; keeps = h.keeps; leads = h.leads; from = h.from; same = refl; sound = h.sound; well = h.well }
