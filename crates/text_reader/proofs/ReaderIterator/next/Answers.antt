-- `text_reader::Reader` yields the lines of its text. Assumes nothing.
use mathlib.Core.Path.{◌≡◌, ap}
use mathlib.Core.List.{List, []}
use Prim.Native.Nat.{ℕ, ◌≤◌}
use native.Mathlib.Omega.{arith}
use lib.ListN.{length, drop}
use Rattle.std.proofs.Math.ListN.{drop_of_length-le}
use Rattle.text_lines.specs.Reading.{lines_from, lines_in}
use Rattle.text_reader.proofs.ReaderIterator.next.Goals as goal

nothing_left : (text : List ℕ) (at : ℕ) → length text ≤ at → lines_in (drop at text) ≡ []
unfolding lines_from
nothing_left text at h = ap lines_in (drop_of_length-le text h)

pub returns-in_err-rest-clause-steps : goal.returns-in_err-rest-clause-steps
returns-in_err-rest-clause-steps c =
    let none = nothing_left c.args.self.now.text.now c.args.self.now.at (omega (arith, c.in_err-rest.ensures.lookup)) in
    rw c.from_residual.ensures (none, none)

pub returns-in_err-line-clause-steps : goal.returns-in_err-line-clause-steps
returns-in_err-line-clause-steps c =
    let told = c.in_ok-rest.ensures.lookup in
    let none = nothing_left c.args.self.now.text.now c.args.self.now.at (omega (arith, told, ap length c.in_err-line.ensures)) in
    rw c.from_residual-in_err-line.ensures (none, none)
