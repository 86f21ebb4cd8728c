-- `desk_report::print` meets its contract. Assumes nothing.
use native.Mathlib.Omega.{arith}
use mathlib.Core.Path.{refl}
use Rattle.desk_report.specs.Printed.{is_card, shows_spans}
use Rattle.desk_report.proofs.Answered.{input_size, in_place}
use Rattle.desk_report.proofs.print.Goals as goal

pub overflow_cast-result : goal.overflow_cast-result
overflow_cast-result c = omega (arith, c.compose.ensures.next_is, input_size (is_card c.args.format) (shows_spans c.args.shown) c.args.input.now)

pub returns : goal.returns
returns c =
    let fits = c.page_room-enough.ensures c.args.input.now refl in
    let k = in_place _ c.args.out.now c.compose.ensures (omega (arith, fits)) in
    record { answer = k.answer; out_after = k.content }
