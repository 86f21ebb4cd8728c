-- `recording_list::list_long_rests` meets its contract. Assumes nothing.
use mathlib.Core.Path.{refl, sym, ap}
use native.Mathlib.Omega.{arith}
use lib.ListN.{length}
use Rattle.std.specs.Prelude.{Err}
use Rattle.recording.specs.declared.Refusal.TheVariants.{ShortList}
use Rattle.recording.proofs.Listing.{refused_there, measured_is}
use Rattle.recording.proofs.LongRests.{few_rests}
use Rattle.recording_list.specs.Records.{rests_left}
use Rattle.recording_list.proofs.Filling.{drained, filled_or_refused, filled_as_due}
use Rattle.recording_list.proofs.Listed.{listed_refused, listed_short, listed_there, count_is}
use Rattle.recording_list.proofs.list_long_rests.Goals as goal

pub returns-in_default : goal.returns-in_default
returns-in_default c =
    let due = listed_refused c.args.words.now _ (refused_there _ c.weigh-weighing.ensures c.unwrap_err.ensures) in
    let f = filled_or_refused (Err c.unwrap_err.result) (due, refl) in
    record { answer = f.answer; list_after = f.content }

pub returns-then-list-measure : goal.returns-then-list-measure
returns-then-list-measure c =
    let due = listed_short c.args.words.now _ (sym c.in-Ok.ensures) c.if-list-measure.true in
    let f = filled_or_refused (Err ShortList) (due, refl) in
    record { answer = f.answer; list_after = f.content }

pub new-requires : goal.new-requires
new-requires c = (measured_is c.args.words.now (sym c.in-Ok.ensures)).within

pub fill-count-requires-clause-room : goal.fill-count-requires-clause-room
fill-count-requires-clause-room c = (tt, rw c.new.ensures (omega (arith, count_is c.args.words.now 0 (sym c.in-Ok.ensures), c.if-list-measure.false)))

pub overflow_cast-result : goal.overflow_cast-result
overflow_cast-result c =
    let k = c.fill-count.ensures.filled in
    let all = drained rests_left c.new.result k.0 k.1 in
    omega (arith, few_rests _ (measured_is c.args.words.now (sym c.in-Ok.ensures)).within, ap length c.new.ensures, ap length all, k.2)

pub returns : goal.returns
returns c =
    let due = listed_there c.args.words.now _ (sym c.in-Ok.ensures) c.if-list-measure.false in
    let k = c.fill-count.ensures.filled in
    let f = filled_as_due rests_left k.0 (rw c.new.ensures due) k.1 k.2 k.3 in
    record { answer = f.answer; list_after = f.content }
