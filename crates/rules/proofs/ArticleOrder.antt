-- The two orders of the fixed rules: what the number of the fixed test and the place of the article test say of the five. Assumes nothing.
use mathlib.Core.Path.{◌≡◌, refl, ap, subst, ◌∙◌}
use mathlib.Core.Bool.{Bool, true, false}
use mathlib.Core.List.Memᴰ.{head as here}
use mathlib.Core.List.Memᴰ.{tail as there}
use mathlib.Core.List.{List, [], ◌∷◌, Memᴰ as In}
use Prim.Native.Nat.{ℕ, zero, suc, ◌+◌, ◌≤◌, ◌<◌}
use native.Mathlib.Omega.{arith}
use lib.Dec.{ltb}
use lib.ListN.{length, get_or}
use Rattle.recording.specs.Answers.{Answer, refused, answered, and_then, refuse_if}
use Rattle.recording.specs.Words.{minutes_of}
use Rattle.recording.specs.Operations.{measured}
use Rattle.recording.specs.declared.Measure.{Measure}
use Rattle.rules.specs.Broken.{first_from, first_place}
use Rattle.rules.specs.declared.Breaches.{Breaches}
use Rattle.rules.specs.Fixed.{unbroken, breaches, by_number, smallest_rule, by_article, first_article}
use Rattle.rules.specs.Verdict.{prefix}
use Rattle.rules.specs.Operations.{breaches_tested, fixed_tested, article_tested}

-- ---- what a place says of a list: 0, that none is broken; a place, that the one there is broken and none before it
pub data Names (broken : List Bool) : ℕ → Type 0 where
  none : ((i : ℕ) → get_or broken i false ≡ false) → Names broken 0
  first : (n : ℕ) → get_or broken n false ≡ true → ((i : ℕ) → i < n → get_or broken i false ≡ false) → Names broken (suc n)

-- read from the place n on
data NamesFrom (broken : List Bool) (n : ℕ) : ℕ → Type 0 where
  none : ((i : ℕ) → get_or broken i false ≡ false) → NamesFrom broken n 0
  first : (k : ℕ) → get_or broken k false ≡ true → ((i : ℕ) → i < k → get_or broken i false ≡ false) → NamesFrom broken n (n + k)

past : {broken : List Bool} {n p : ℕ} → NamesFrom broken (suc n) p → NamesFrom (false ∷ broken) n p
past {broken} (none f) = none at
  where
    at : (i : ℕ) → get_or (false ∷ broken) i false ≡ false
    at zero = refl
    at (suc i) = f i
past {broken} {n} (first k t f) = subst (NamesFrom (false ∷ broken) n) (omega arith) (first (suc k) t at)
  where
    at : (i : ℕ) → i < suc k → get_or (false ∷ broken) i false ≡ false
    at zero h = refl
    at (suc i) h = f i (omega arith)

names_from : (n : ℕ) (broken : List Bool) → NamesFrom broken n (first_from n broken)
names_from n [] = none (λ i. refl)
names_from n (true ∷ later) = subst (NamesFrom (true ∷ later) n) (omega arith) (first 0 refl (λ i h. absurd (omega arith)))
names_from n (false ∷ later) = past (names_from (suc n) later)

pub place_names : (broken : List Bool) → Names broken (first_place broken)
place_names broken = at (names_from 1 broken)
  where
    at : {p : ℕ} → NamesFrom broken 1 p → Names broken p
    at (none f) = none f
    at (first k t f) = subst (Names broken) (omega arith) (first k t f)

place_most : (n : ℕ) (broken : List Bool) → first_from (suc n) broken ≤ n + length broken
place_most n [] = omega arith
place_most n (true ∷ later) = omega arith
place_most n (false ∷ later) = omega (arith, place_most (suc n) later)

pub rule_most : (b : Breaches) → smallest_rule b ≤ 5
unfolding smallest_rule
rule_most b = place_most 0 (by_number b)

-- ---- in either order 0 says that none of the five is broken
none_in : (n : ℕ) (broken : List Bool) → first_from (suc n) broken ≡ 0 → (x : Bool) → In x broken → x ≡ false
none_in n [] e x i = elim i [ ]
none_in n (true ∷ later) e x i = absurd (omega arith)
none_in n (false ∷ later) e x (here q) = q
none_in n (false ∷ later) e x (there i) = none_in (suc n) later e x i

-- whatever the order, if each of the five stands in it
none_of : (b : Breaches) (order : List Bool) → first_place order ≡ 0 → In b.daily order → In b.weekly order → In b.fortnightly order → In b.breaks order
    → In b.rests order → b ≡ unbroken
none_of b order e d w f k r = λ i. record {
  daily = none_in 0 order e b.daily d i;
  weekly = none_in 0 order e b.weekly w i;
  fortnightly = none_in 0 order e b.fortnightly f i;
  breaks = none_in 0 order e b.breaks k i;
  rests = none_in 0 order e b.rests r i;
}

pub rule_none : (b : Breaches) → smallest_rule b ≡ 0 → b ≡ unbroken
unfolding smallest_rule
rule_none b e = none_of b (by_number b) e (search (here, there)) (search (here, there)) (search (here, there)) (search (here, there)) (search (here, there))

pub article_none : (b : Breaches) → first_article b ≡ 0 → b ≡ unbroken
unfolding first_article
article_none b e = none_of b (by_article b) e (search (here, there)) (search (here, there)) (search (here, there)) (search (here, there)) (search (here, there))

pub none_rule : (b : Breaches) → b ≡ unbroken → smallest_rule b ≡ 0
unfolding smallest_rule
none_rule b e = ap smallest_rule e

pub none_article : (b : Breaches) → b ≡ unbroken → first_article b ≡ 0
unfolding first_article
none_article b e = ap first_article e

-- ---- an operation that picks from what a stretch breaks
abbrev picked : (Breaches → ℕ) → Answer Breaches → Answer ℕ
picked pick x = and_then x (λ b. answered (pick b))

-- it answers with what is picked from some b
record Picks (pick : Breaches → ℕ) (x : Answer Breaches) (p : ℕ) : Type 0 where
  b : Breaches
  from : x ≡ answered b
  is : pick b ≡ p

picks : {pick : Breaches → ℕ} (x : Answer Breaches) {p : ℕ} → picked pick x ≡ answered p → Picks pick x p
picks (refused n) e = let z : ◌≡◌ {A = ℕ} 0 1 = cc in absurd (omega arith)
picks (answered b) e = record { b = b; from = refl; is = cc }

alike : {f g : Breaches → ℕ} {p : ℕ} → ((b : Breaches) → f b ≡ p → g b ≡ p) → (x : Answer Breaches) → picked f x ≡ answered p → picked g x ≡ answered p
alike {f} {g} h x e = let k = picks x e in ap (picked g) k.from ∙ ap answered (h k.b k.is)

refused_alike : (f g : Breaches → ℕ) (x : Answer Breaches) {n : ℕ} → picked f x ≡ refused n → picked g x ≡ refused n
refused_alike f g (refused k) e = cc
refused_alike f g (answered b) e = let z : ◌≡◌ {A = ℕ} 0 1 = cc in absurd (omega arith)

-- what it picks from is what the stretch breaks
broken_there : (ws : List ℕ) (m : ℕ) {b : Breaches} → breaches_tested ws m ≡ answered b → b ≡ breaches (prefix m (minutes_of ws))
unfolding breaches_tested
broken_there ws m = at (measured ws)
  where
    by : (t : Bool) {b : Breaches} → refuse_if t 5 (answered (breaches (prefix m (minutes_of ws)))) ≡ answered b → b ≡ breaches (prefix m (minutes_of ws))
    by true e = let z : ◌≡◌ {A = ℕ} 0 1 = cc in absurd (omega arith)
    by false e = cc

    at : (k : Answer Measure) {b : Breaches} → and_then k (λ k. refuse_if (ltb k.total m) 5 (answered (breaches (prefix m (minutes_of ws))))) ≡ answered b
        → b ≡ breaches (prefix m (minutes_of ws))
    at (refused n) e = let z : ◌≡◌ {A = ℕ} 0 1 = cc in absurd (omega arith)
    at (answered k) e = by (ltb k.total m) e

module _ (ws : List ℕ) (m : ℕ) where
  -- THE LAWS. The two tests answer 0 for the same inputs, and turn away the same with the same numbers.
  pub fixed_then_article : fixed_tested ws m ≡ answered 0 → article_tested ws m ≡ answered 0
  unfolding fixed_tested article_tested
  fixed_then_article e = alike (λ b z. none_article b (rule_none b z)) (breaches_tested ws m) e

  pub article_then_fixed : article_tested ws m ≡ answered 0 → fixed_tested ws m ≡ answered 0
  unfolding fixed_tested article_tested
  article_then_fixed e = alike (λ b z. none_rule b (article_none b z)) (breaches_tested ws m) e

  pub fixed_then_article_refuses : {n : ℕ} → fixed_tested ws m ≡ refused n → article_tested ws m ≡ refused n
  unfolding fixed_tested article_tested
  fixed_then_article_refuses e = refused_alike smallest_rule first_article (breaches_tested ws m) e

  pub article_then_fixed_refuses : {n : ℕ} → article_tested ws m ≡ refused n → fixed_tested ws m ≡ refused n
  unfolding fixed_tested article_tested
  article_then_fixed_refuses e = refused_alike first_article smallest_rule (breaches_tested ws m) e

  -- The place names a rule that is broken, and no article before it is; likewise the fixed test and its number.
  named : (order : Breaches → List Bool) {p : ℕ} → picked (λ b. first_place (order b)) (breaches_tested ws m) ≡ answered p → Names (order (breaches (prefix m (minutes_of ws)))) p
  named order {p} e =
      let k = picks (breaches_tested ws m) e in
      subst (λ (b : Breaches). Names (order b) p) (broken_there ws m k.from) (subst (Names (order k.b)) k.is (place_names (order k.b)))

  pub article_names : {p : ℕ} → article_tested ws m ≡ answered p → Names (by_article (breaches (prefix m (minutes_of ws)))) p
  unfolding article_tested first_article
  article_names e = named by_article e

  pub fixed_names : {p : ℕ} → fixed_tested ws m ≡ answered p → Names (by_number (breaches (prefix m (minutes_of ws)))) p
  unfolding fixed_tested smallest_rule
  fixed_names e = named by_number e
