-- `text_lines::number_after` meets its contract. Assumes nothing.
use mathlib.Core.Path.{sym, ap, ◌∙◌}
use Rattle.std.proofs.lemmas.Bool.Decides.{Decides-eqb}
use Rattle.std.proofs.lemmas.Slice.Eq.{strip_prefix_is}
use Rattle.std.specs.Prelude.{None, Some}
use Rattle.text_lines.specs.Reading.{number_after}
use Rattle.text_lines.specs.LineByLine.{unless_0}
use Rattle.text_lines.proofs.Bytes.{after_name, after_other}
use Rattle.text_lines.proofs.number_after.Goals as goal

pub returns-in_err-strip_prefix : goal.returns-in_err-strip_prefix
returns-in_err-strip_prefix c =
    let other = strip_prefix_is Decides-eqb c.args.line.now c.args.name.now None c.in_err-strip_prefix.ensures.cases in
    c.from_residual.ensures ∙ sym (ap unless_0 (after_other c.args.name.now c.args.line.now other))

pub returns : goal.returns
returns c =
    let named = strip_prefix_is Decides-eqb c.args.line.now c.args.name.now (Some c.in_ok-strip_prefix.field-0) c.in_ok-strip_prefix.ensures.cases in
    c.number_in.ensures ∙ sym (ap unless_0 (ap (number_after c.args.name.now) named ∙ after_name c.args.name.now c.in_ok-strip_prefix.field-0.now))
