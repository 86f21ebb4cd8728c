-- One word of the walk over the words in front. Assumes nothing.
use mathlib.Core.Path.{◌≡◌, refl, sym, ◌∙◌}
use mathlib.Core.Bool.{Bool, true, false, not}
use mathlib.Core.List.{List, [], ◌∷◌}
use Prim.Native.Nat.{ℕ, suc, ◌+◌, ◌≤◌}
use native.Mathlib.Omega.{arith}
use lib.Dec.{eqb}
use lib.ListN.{length, drop, length-append, length-replicate}
use borrow.Author.Tests.{eq-eqb, ne_eqb, eqb-true, eqb-false, not-true, not-false}
use Rattle.recording.specs.Tests.{pick}
use denote.Enum.Bare.{sameb}
use Rattle.recording.specs.contracts.Activity.{the_type}
use Rattle.recording.specs.declared.Activity.{Activity}
use Rattle.recording.proofs.Activities.{same_codes}
use Rattle.recording.specs.declared.Run.{Run}
use Rattle.recording.specs.Words.{code_of, IsRunOf, minutes_in, activity_in, minutes_of}
use Rattle.text.specs.Passes.{same_words, same_minutes}

module _ {word : ℕ} {run : Run} (r : IsRunOf word run) (a : Activity) where
  pub same_activity : false ≡ not (sameb the_type run.activity a) → activity_in word ≡ code_of a
  same_activity e = sym r.activity ∙ eqb-true _ _ (sym (same_codes run.activity a) ∙ not-false _ (sym e))

  pub other_activity : true ≡ not (sameb the_type run.activity a) → activity_in word ≡ code_of a → ⊥
  other_activity e f = eqb-false _ _ (sym (same_codes run.activity a) ∙ not-true _ (sym e)) (r.activity ∙ f)

module _ (a w : ℕ) (ws : List ℕ) where
  pub words_other : (activity_in w ≡ a → ⊥) → same_words a (w ∷ ws) ≡ 0
  unfolding same_words
  words_other z = rw (ne_eqb _ _ z)

  pub minutes_other : (activity_in w ≡ a → ⊥) → same_minutes a (w ∷ ws) ≡ 0
  unfolding same_minutes
  minutes_other z = rw (ne_eqb _ _ z)

  pub words_on : activity_in w ≡ a → same_words a (w ∷ ws) ≡ suc (same_words a ws)
  unfolding same_words
  words_on z = rw (eq-eqb _ _ z)

  pub minutes_on : activity_in w ≡ a → same_minutes a (w ∷ ws) ≡ minutes_in w + same_minutes a ws
  unfolding same_minutes
  minutes_on z = rw (eq-eqb _ _ z)

pub minutes_within : (a : ℕ) (ws : List ℕ) → same_minutes a ws ≤ length (minutes_of ws)
unfolding same_minutes minutes_of
minutes_within a [] = omega arith
minutes_within a (w ∷ ws) = rw (length-append, length-replicate) (go (eqb (activity_in w) a) (minutes_within a ws))
  where
    go : (b : Bool) → same_minutes a ws ≤ length (minutes_of ws) → pick b (minutes_in w + same_minutes a ws) 0 ≤ minutes_in w + length (minutes_of ws)
    go true ih = omega arith
    go false ih = omega arith

-- the words that are left, the first of which belongs to the run, or does not
module _ (a : Activity) {left after : List ℕ} {word : ℕ} (e : left ≡ word ∷ after) {run : Run} (r : IsRunOf word run) where
  pub minutes_more : false ≡ not (sameb the_type run.activity a) → same_minutes (code_of a) left ≡ run.minutes + same_minutes (code_of a) after
  minutes_more f = rw (e, minutes_on (code_of a) word after (same_activity r a f), r.minutes) refl

  pub words_more : false ≡ not (sameb the_type run.activity a) → drop (same_words (code_of a) left) left ≡ drop (same_words (code_of a) after) after
  words_more f = rw (e, words_on (code_of a) word after (same_activity r a f)) refl

  pub some_words : false ≡ not (sameb the_type run.activity a) → 1 ≤ same_words (code_of a) left
  some_words f = rw (e, words_on (code_of a) word after (same_activity r a f)) (omega arith)

  pub no_minutes_more : true ≡ not (sameb the_type run.activity a) → same_minutes (code_of a) left ≡ 0
  no_minutes_more f = rw (e, minutes_other (code_of a) word after (other_activity r a f)) refl

  pub no_words_more : true ≡ not (sameb the_type run.activity a) → drop (same_words (code_of a) left) left ≡ left
  no_words_more f = rw (e, words_other (code_of a) word after (other_activity r a f)) refl

pub first_words : {words after : List ℕ} {word : ℕ} {run : Run} → words ≡ word ∷ after → IsRunOf word run → 1 ≤ same_words (code_of run.activity) words
first_words {after = after} {word = word} {run = run} e r = rw (e, words_on (code_of run.activity) word after (sym r.activity)) (omega arith)

-- no words are left
pub none_more : (a : ℕ) (left : List ℕ) → length left ≡ 0 → (same_minutes a left ≡ 0) × (drop (same_words a left) left ≡ left)
unfolding same_minutes same_words
none_more a [] e = (refl, refl)
none_more a (w ∷ ws) e = absurd (omega arith)
