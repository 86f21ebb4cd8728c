-- `verdict_choosing::put_all` meets its contract. Assumes nothing.
use Rattle.std.proofs.Common.{◌≡◌, ◌∙◌, ◌++◌, List, [], ℕ, length, arith, ap}
use lib.ListN.{drop}
use Rattle.std.proofs.lemmas.List.{drop_all, append-nil}
use Rattle.std.proofs.iter.Yields.{Copied-Drains}
use Rattle.std.specs.Iterator.Adapters.{copied_source}
use Rattle.std.specs.Slice.Iter.{iter_rest}
use Rattle.verdict_choosing.proofs.put_all.Goals as goal

pub returns : goal.returns
returns c =
    let held : iter_rest (copied_source c.copied.result) ≡ c.args.numbers.now = cc in
    let k = c.fill.ensures.filled in
    let all : k.0 ≡ c.args.numbers.now = Copied-Drains c.copied.result k.0 k.1 ∙ held in
    let none : drop (length k.0) c.args.list.now ≡ [] = drop_all (length k.0) c.args.list.now (omega (arith, c.requires, ap length all)) in
    record { after = k.3 ∙ ap (λ (xs : List ℕ). k.0 ++ xs) none ∙ append-nil k.0 ∙ all }
