-- One line of the walk over the lines of a text. Assumes nothing.
use mathlib.Core.Path.{◌≡◌, refl, sym, ap, ◌∙◌}
use mathlib.Core.Bool.{Bool, true, false}
use mathlib.Core.List.{List, [], ◌∷◌, ◌++◌}
use Prim.Native.Nat.{ℕ, suc, ◌+◌, ◌≤◌}
use native.Mathlib.Omega.{arith}
use lib.Dec.{eqb}
use lib.ListN.{length, length-append}
use Rattle.recording.specs.Tests.{pick}
use Rattle.text_lines.specs.declared.Line.{Line}
use Rattle.text_lines.specs.declared.Line.TheVariants as line
use Rattle.text_lines.specs.declared.Stage.{Stage}
use Rattle.text_lines.specs.declared.Stage.TheVariants as stage
use Rattle.text_lines.specs.Form.{line_end}
use Rattle.text_lines.specs.Reading.{line_of, lines_from, lines_in, stage_after, stage_from, is_over, is_text, words_in, words_of}

-- the lines that are left are l and then ls
module _ {left ls : List Line} {l : Line} (e : left ≡ l ∷ ls) where
  pub stage_on : (s : Stage) → stage_from s left ≡ stage_from (stage_after s l) ls
  unfolding stage_from
  stage_on s = ap (stage_from s) e

  pub words_on : words_of left ≡ words_in l ++ words_of ls
  unfolding words_of
  words_on = ap words_of e

  pub word_on : {w : ℕ} → l ≡ line.Run w → words_of left ≡ w ∷ words_of ls
  unfolding words_of
  word_on q = rw (e, q) refl

  pub no_word_on : ((w : ℕ) → l ≡ line.Run w → ⊥) → words_of left ≡ words_of ls
  unfolding words_of
  no_word_on z = ap words_of e ∙ go l z
    where
      go : (k : Line) → ((w : ℕ) → k ≡ line.Run w → ⊥) → words_in k ++ words_of ls ≡ words_of ls
      go line.Recording z = refl
      go line.Week z = refl
      go line.Closing z = refl
      go (line.Run w) z = absurd (z w refl)
      go line.Other z = refl

pub none_left : {left : List Line} → left ≡ [] → words_of left ≡ []
unfolding words_of
none_left e = ap words_of e

pub stage_done : {left : List Line} → left ≡ [] → (s : Stage) → stage_from s left ≡ s
unfolding stage_from
stage_done e s = ap (stage_from s) e

-- nothing mends a wrong line
pub wrong_stays : (ls : List Line) → stage_from stage.Wrong ls ≡ stage.Wrong
unfolding stage_from stage_after
wrong_stays [] = refl
wrong_stays (l ∷ ls) = ap (λ (s : Stage). stage_from s ls) (after_wrong l) ∙ wrong_stays ls
  where
    after_wrong : (l : Line) → stage_after stage.Wrong l ≡ stage.Wrong
    after_wrong line.Recording = refl
    after_wrong line.Week = refl
    after_wrong line.Closing = refl
    after_wrong (line.Run w) = refl
    after_wrong line.Other = refl

-- the text is over, or not
pub over_told : (text : List ℕ) {s : Stage} → stage_from stage.Before (lines_in text) ≡ s → is_over s ≡ is_text text
unfolding is_text
over_told text e = sym (ap is_over e)

-- after a wrong line the text is none of the form
pub wrong_told : (text : List ℕ) {s : Stage} (ls : List Line) → stage_from stage.Before (lines_in text) ≡ stage_from s ls → s ≡ stage.Wrong → false ≡ is_text text
wrong_told text {s} ls e w = over_told text (e ∙ ap (λ (t : Stage). stage_from t ls) w ∙ wrong_stays ls)

pub not_over : (s : Stage) → (s ≡ stage.Over → ⊥) → is_over s ≡ false
not_over stage.Before z = refl
not_over (stage.Between left more) z = refl
not_over (stage.Within left more) z = refl
not_over stage.Over z = absurd (z refl)
not_over stage.Wrong z = refl

-- a text has no more run lines than bytes
lines_few : (l t : List ℕ) → length (lines_from l t) ≤ length l + length t
unfolding lines_from
lines_few [] [] = omega arith
lines_few (x ∷ l) [] = omega arith
lines_few l (b ∷ bs) = go (eqb b line_end) (lines_few [] bs) (lines_few (l ++ b ∷ []) bs)
  where
    go : (e : Bool) → length (lines_from [] bs) ≤ 0 + length bs → length (lines_from (l ++ b ∷ []) bs) ≤ length (l ++ b ∷ []) + length bs
        → length (pick e (line_of l ∷ lines_from [] bs) (lines_from (l ++ b ∷ []) bs)) ≤ length l + suc (length bs)
    go true h k = omega arith
    go false h k = omega (arith, length-append l (b ∷ []))

word_few : (l : Line) → length (words_in l) ≤ 1
word_few line.Recording = omega arith
word_few line.Week = omega arith
word_few line.Closing = omega arith
word_few (line.Run w) = omega arith
word_few line.Other = omega arith

words_few : (ls : List Line) → length (words_of ls) ≤ length ls
unfolding words_of
words_few [] = omega arith
words_few (l ∷ ls) = omega (arith, length-append (words_in l) (words_of ls), word_few l, words_few ls)

pub text_few : (t : List ℕ) → length (words_of (lines_in t)) ≤ length t
text_few t = omega (arith, words_few (lines_in t), lines_few [] t)
