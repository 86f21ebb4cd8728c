-- `text_lines::number_in` meets its contract. Assumes nothing.
use mathlib.Core.Path.{sym, ap, ◌∙◌}
use native.Mathlib.Omega.{arith}
use Rattle.std.proofs.lemmas.Bool.Decides.{Decides-eqb}
use Rattle.std.proofs.lemmas.Slice.Eq.{strip_suffix_is}
use Rattle.std.specs.Prelude.{None, Some}
use Rattle.text_lines.specs.Form.{closing_line}
use Rattle.text_lines.specs.Reading.{number_from}
use Rattle.text_lines.specs.LineByLine.{unless_0}
use Rattle.text_lines.proofs.Bytes.{number_open, number_other, number_none, number_past, number_on, number_done, then_unless}
use Rattle.text_lines.proofs.number_in.Goals as goal
use Rattle.text_lines.proofs.number_in.Goals.{then-value-eq0-via-then-value-eq0, then-value-eq0-via-else-value-eq0+then-value-gt-RUN_AT_MOST}

pub returns-in_err-digits : goal.returns-in_err-digits
returns-in_err-digits c =
    let unclosed = strip_suffix_is Decides-eqb c.args.bytes.now closing_line None c.in_err-digits.ensures.cases in
    c.from_residual.ensures ∙ sym (ap unless_0 (number_open 0 c.args.bytes.now unclosed))

pub loop-digit-init : goal.loop-digit-init
loop-digit-init c = (omega arith, ap (number_from 0) (strip_suffix_is Decides-eqb c.args.bytes.now closing_line (Some c.in_ok-digits.digits) c.in_ok-digits.ensures.cases))

pub returns-then-not-is_ascii_digit : goal.returns-then-not-is_ascii_digit
returns-then-not-is_ascii_digit c =
    sym (ap unless_0 (c.loop-digit.invariant.1 ∙ number_other _ _ _ c.loop-digit-test.true c.if-not-is_ascii_digit.ensures.cases))

pub returns-then-value-eq0 : goal.returns-then-value-eq0
returns-then-value-eq0 c =
    let digit = c.if-not-is_ascii_digit.ensures.cases in
    sym (ap unless_0 (c.loop-digit.invariant.1 ∙ elim c.then-value-eq0.branch [
      | then-value-eq0-via-then-value-eq0 w ↦ number_none _ _ _ c.loop-digit-test.true digit.0 (omega (arith, digit.1)) (omega (arith, w.if-value-eq0.true, c.from.ensures))
      | then-value-eq0-via-else-value-eq0+then-value-gt-RUN_AT_MOST w ↦
          number_past _ _ _ c.loop-digit-test.true digit.0 (omega (arith, digit.1)) (omega (arith, w.if-value-gt-RUN_AT_MOST.true, c.from.ensures))
    ]))

pub loop-digit-preserved : goal.loop-digit-preserved
loop-digit-preserved c =
    let digit = c.if-not-is_ascii_digit.ensures.cases in (
      omega arith,
      c.loop-digit.invariant.1
          ∙ rw c.from.ensures (number_on _ _ _ c.loop-digit-test.true digit.0 (omega (arith, digit.1)) (λ z. c.if-value-eq0.false (rw c.from.ensures z)) (omega (arith, c.from.ensures))),
    )

pub returns : goal.returns
returns c =
    c.then_some.ensures ∙ then_unless c.loop-digit.value
    ∙ sym (ap unless_0 (c.loop-digit.invariant.1 ∙ number_done c.in_ok-digits.digits.now c.loop-digit.digit-index c.loop-digit.value (omega arith)))
