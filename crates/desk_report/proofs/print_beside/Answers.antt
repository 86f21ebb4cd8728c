-- `desk_report::print_beside` meets its contract. Assumes nothing.
use native.Mathlib.Omega.{arith}
use mathlib.Core.Path.{refl}
use lib.ListN.{length-take}
use Rattle.desk_report.specs.Printed.{is_card, shows_spans}
use Rattle.desk_report.proofs.Answered.{input_size, front_page, front_size, front_fits, length_is, too_few, all_there}
use Rattle.desk_report.proofs.print_beside.Goals as goal

pub returns-then-out-length : goal.returns-then-out-length
returns-then-out-length c =
    let short = input_size (is_card c.args.format) (shows_spans c.args.shown) c.args.input.now in
    let k = too_few _ c.args.out.now (omega (arith, length_is short c.compose-length.ensures, c.if-out-length.true)) in
    record { answer = k.answer; out_after = k.content }

pub slice_bounds-bytes-end : goal.slice_bounds-bytes-end
slice_bounds-bytes-end c =
    let short = input_size (is_card c.args.format) (shows_spans c.args.shown) c.args.input.now in
    front_fits short c.compose-length.ensures

pub slice_bounds-copy_from_slice-end-3 : goal.slice_bounds-copy_from_slice-end-3
slice_bounds-copy_from_slice-end-3 c =
    let short = input_size (is_card c.args.format) (shows_spans c.args.shown) c.args.input.now in
    front_size short c.compose-length.ensures

pub copy_from_slice-requires : goal.copy_from_slice-requires
copy_from_slice-requires c =
    let short = input_size (is_card c.args.format) (shows_spans c.args.shown) c.args.input.now in
    omega (arith, front_size short c.compose-length.ensures, length-take c.compose-length.result c.args.out.now, c.if-out-length.false)

pub overflow_cast-result : goal.overflow_cast-result
overflow_cast-result c =
    let short = input_size (is_card c.args.format) (shows_spans c.args.shown) c.args.input.now in
    omega (arith, length_is short c.compose-length.ensures, short)

pub returns : goal.returns
returns c =
    let short = input_size (is_card c.args.format) (shows_spans c.args.shown) c.args.input.now in
    let n = length_is short c.compose-length.ensures in
    let copied = c.copy_from_slice.ensures in
    let k = all_there _ c.args.out.now (omega (arith, n, c.if-out-length.false)) n (rw (copied.after, front_page short c.compose-length.ensures) refl) in
    record { answer = k.answer; out_after = k.content }
