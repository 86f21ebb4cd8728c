-- `verdict_spans::spans_of` meets its contract. Assumes nothing.
use mathlib.Core.Path.{ap}
use native.Mathlib.Omega.{arith}
use lib.ListN.{length}
use Rattle.recording.specs.declared.Measure.{Measure}
use Rattle.recording.proofs.Listing.{refused_there, measured_there, measured_is}
use Rattle.verdict_spans.proofs.Putting.{spans_refused, spans_short, spans_done}
use Rattle.verdict_spans.proofs.spans_of.Goals as goal

pub returns-in_default : goal.returns-in_default
returns-in_default c = spans_refused _ _ (refused_there _ c.weigh-weighing.ensures c.unwrap_err.ensures)

pub spans_in_room-spans-requires : goal.spans_in_room-spans-requires
spans_in_room-spans-requires c = let m = measured_is _ (measured_there _ c.weigh-weighing.ensures c.in-Ok.is) in
    (m.within, ap (λ (x : Measure). x.total) m.is)

pub returns-then-room-count : goal.returns-then-room-count
returns-then-room-count c =
    spans_short _ _ (measured_there _ c.weigh-weighing.ensures c.in-Ok.is) c.spans_in_room-spans.ensures (omega (arith, c.if-room-count.true, ap length c.list-count.ensures))

pub returns : goal.returns
returns c =
    spans_done _ _ (measured_there _ c.weigh-weighing.ensures c.in-Ok.is) c.spans_in_room-spans.ensures (omega (arith, c.if-room-count.false, ap length c.list-count.ensures))
