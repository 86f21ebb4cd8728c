-- `recording::weigh` meets its contract. Assumes nothing.
use Rattle.std.proofs.lemmas.Result.{err_from_is_err_and}
use mathlib.Core.Path.{sym}
use Rattle.recording.proofs.Listing.{total_room, weigh_refused, weigh_done}
use Rattle.recording.proofs.weigh.Goals as goal

pub returns-in_err-total : goal.returns-in_err-total
returns-in_err-total c = let p = err_from_is_err_and c.from_residual.result c.from_residual.ensures.1 in rw (p.1, p.2) (weigh_refused _ (sym c.in_err-total.ensures))

pub place_of-place-requires : goal.place_of-place-requires
place_of-place-requires c = total_room _ (sym c.in_ok-total.ensures)

pub returns : goal.returns
returns c = weigh_done _ (sym c.in_ok-total.ensures) c.place_of-place.ensures
