-- Items put into a list one by one from its start, and what an operation that fills a lent list comes to. Assumes nothing.
use Rattle.recording.specs.Answers.{Answer, refused, answered, counted, filled, number_of, answer_of}
use Rattle.recording.specs.declared.Refusal.{Refusal}
use Rattle.std.specs.Prelude.{Result, Ok, Err}
use Rattle.std.specs.Iterator.{Drains, YieldsFirst}
use Rattle.std.proofs.Common.{◌≡◌, refl, ap, ◌∙◌, List, [], ◌∷◌, ◌++◌, ℕ, ◌<◌, length, drop, set, arith}

pub one_more : {A : Type 0} (xs : List A) (x : A) (old : List A) → length xs < length old → set (xs ++ drop (length xs) old) (length xs) x ≡ (xs ++ x ∷ []) ++ drop (length (xs ++ x ∷ [])) old
one_more [] x [] h = absurd (omega arith)
one_more [] x (o ∷ old) h = refl
one_more (y ∷ xs) x [] h = absurd (omega arith)
one_more (y ∷ xs) x (o ∷ old) h = ap (λ (l : List _). y ∷ l) (one_more xs x old (omega (arith, h)))

-- what an iterator gave that shows what is left
pub drained : {S A : Type 0} (rest : S → List A) (s : S) (xs : List A) → Drains (YieldsFirst rest) s xs → rest s ≡ xs
drained rest s [] d = ap rest d.1.1 ∙ d.1.2.0
drained rest s (x ∷ xs) d = let y = d.1.1 in y.1 ∙ ap (λ (l : List _). x ∷ l) (drained rest y.0 xs (d.0, (d.1.0, y.2, d.1.2)))

-- What an operation does that fills a lent list, by its answer. Where it is refused, that refusal is due, and the list is as it was. Where it answers with a
-- count, so many records are due, and the list holds them from its start and what it held beyond.
abbrev pub Fills : {A : Type 0} (due : Answer (List A)) → Result ℕ Refusal → (old new : List A) → Type 0
Fills due (Err r) old new = (due ≡ refused (number_of r)) × (new ≡ old)
Fills {A} due (Ok n) old new = (xs : List A) × (due ≡ answered xs) × (n ≡ length xs) × (new ≡ xs ++ drop (length xs) old)

-- The answer and the content are those that are due.
pub record FilledAsDue {A : Type 0} (due : Answer (List A)) (result : Result ℕ Refusal) (old new : List A) : Type 0 where
  pub answer : answer_of result ≡ counted due
  pub content : new ≡ filled due old

-- THE LAW of a filled list, whatever the records are, and on a refusal too
pub filled_or_refused : {A : Type 0} {due : Answer (List A)} (result : Result ℕ Refusal) {old new : List A} → Fills due result old new → FilledAsDue due result old new
filled_or_refused (Err r) f = record { answer = rw f.0; content = rw f.0 f.1 }
filled_or_refused (Ok n) f = record { answer = rw (f.1, f.2); content = rw f.1 f.3 }

-- the same of a list that is filled from an iterator that has left what is due
pub filled_as_due : {S A : Type 0} (rest : S → List A) {items : S} (xs : List A) {old new : List A} {n : ℕ} {due : Answer (List A)}
    → due ≡ answered (rest items) → Drains (YieldsFirst rest) items xs → n ≡ length xs → new ≡ xs ++ drop (length xs) old → FilledAsDue due (Ok n) old new
filled_as_due rest {items} xs {n = n} e d c f = filled_or_refused (Ok n) (xs, e ∙ ap answered (drained rest items xs d), c, f)
