-- `text_lines::line_of` meets its contract. Assumes nothing.
use mathlib.Core.Path.{sym, ◌∙◌}
use Rattle.text_lines.proofs.Bytes.{told, line_recording, line_week, line_closing, line_run}
use Rattle.text_lines.proofs.line_of.Goals as goal

pub returns-then-eq : goal.returns-then-eq
returns-then-eq c = sym (line_recording _ (told _ _ c.eq.ensures c.if-eq.true))

pub returns-then-eq-2 : goal.returns-then-eq-2
returns-then-eq-2 c = sym (line_week _ (told _ _ c.eq.ensures c.if-eq.false) (told _ _ c.eq-2.ensures c.if-eq-2.true))

pub returns-then-eq-3 : goal.returns-then-eq-3
returns-then-eq-3 c = sym (line_closing _ (told _ _ c.eq.ensures c.if-eq.false) (told _ _ c.eq-2.ensures c.if-eq-2.false) (told _ _ c.eq-3.ensures c.if-eq-3.true))

pub returns : goal.returns
returns c = c.run_of.ensures ∙ sym (line_run _ (told _ _ c.eq.ensures c.if-eq.false) (told _ _ c.eq-2.ensures c.if-eq-2.false) (told _ _ c.eq-3.ensures c.if-eq-3.false))
