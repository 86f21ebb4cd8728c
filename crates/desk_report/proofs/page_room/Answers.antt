-- `desk_report::page_room` meets its contract. Assumes nothing.
use native.Mathlib.Omega.{arith}
use Prim.Native.Nat.{◌+◌, ◌*◌, ◌≤◌}
use lib.ListN.{length}
use Rattle.desk_report.specs.Printed.{is_card, shows_spans, input_text}
use Rattle.desk_report.specs.Composing.{line_at_most, around_at_most}
use Rattle.desk_report.proofs.Answered.{input_size, verdict_room, spans_room}
use Rattle.desk_report.proofs.page_room.Goals as goal

pub returns-in-Spans : goal.returns-in-Spans
returns-in-Spans c = λ input h. rw c.in-Spans.is (spans_room (is_card c.args.format) input)

pub returns-in-Verdict : goal.returns-in-Verdict
returns-in-Verdict c =
    λ input h.
    let all = input_size (is_card c.args.format) (shows_spans c.args.shown) input in
    let few : length (input_text (is_card c.args.format) (shows_spans c.args.shown) input) ≤ line_at_most * c.rests_in.result + around_at_most =
    rw c.in-Verdict.is (verdict_room (is_card c.args.format) input c.rests_in.result (λ n k. c.rests_in.ensures n (rw h at k))) in
    omega (arith, c.min.ensures, all, few)
