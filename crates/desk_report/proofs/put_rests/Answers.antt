-- `desk_report::put_rests` meets its contract. Assumes nothing.
use native.Mathlib.Omega.{arith}
use Rattle.desk_report.proofs.RestLines.{going_first, going_on, going_done}
use Rattle.desk_report.proofs.put_rests.Goals as goal

pub loop-i-init : goal.loop-i-init
loop-i-init c = going_first c.requires

pub put_rest-requires : goal.put_rest-requires
put_rest-requires c = omega (arith, c.loop-i.invariant.room)

pub loop-i-preserved : goal.loop-i-preserved
loop-i-preserved c = going_on c.loop-i.invariant (omega arith) c.from-kind.ensures c.from-week.ensures c.carrier_of-carrier.ensures c.put_rest.ensures

pub returns : goal.returns
returns c = going_done c.loop-i.invariant (omega arith)
