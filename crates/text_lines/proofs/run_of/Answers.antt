-- `text_lines::run_of` meets its contract. Assumes nothing.
use mathlib.Core.Path.{sym, ◌∙◌}
use Rattle.recording.specs.Words.{rest, availability, other_work, driving}
use Rattle.text_lines.proofs.Bytes.{run_is, run_not}
use Rattle.text_lines.proofs.run_of.Goals as goal

pub returns-in-Some : goal.returns-in-Some
returns-in-Some c = sym (run_is rest _ _ c.in-Some.ensures)

pub returns-in-Some-word_in : goal.returns-in-Some-word_in
returns-in-Some-word_in c = sym (run_not rest _ _ c.in_default.ensures ∙ run_is availability _ _ c.in-Some-word_in.ensures)

pub returns-in-Some-word_in-2 : goal.returns-in-Some-word_in-2
returns-in-Some-word_in-2 c = sym (run_not rest _ _ c.in_default.ensures ∙ run_not availability _ _ c.in_default-word_in.ensures ∙ run_is other_work _ _ c.in-Some-word_in-2.ensures)

pub returns-in-Some-word_in-3 : goal.returns-in-Some-word_in-3
returns-in-Some-word_in-3 c = sym (run_not rest _ _ c.in_default.ensures ∙ run_not availability _ _ c.in_default-word_in.ensures
    ∙ run_not other_work _ _ c.in_default-word_in-2.ensures ∙ run_is driving _ _ c.in-Some-word_in-3.ensures)

pub returns : goal.returns
returns c = sym (run_not rest _ _ c.in_default.ensures ∙ run_not availability _ _ c.in_default-word_in.ensures
    ∙ run_not other_work _ _ c.in_default-word_in-2.ensures ∙ run_not driving _ _ c.in_default-word_in-3.ensures)
