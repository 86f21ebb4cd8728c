-- `verdict_fronts::outstanding_in` meets its contract. Assumes nothing.
use Rattle.std.proofs.Common.{◌≡◌, ◌∙◌, ◌++◌, List, ℕ, ◌+◌, length, ap, sym}
use lib.ListN.{drop}
use Rattle.std.proofs.lemmas.List.{get_or-drop}
use Rattle.std.proofs.iter.Yields.{Copied-Drains}
use Rattle.std.specs.Iterator.Adapters.{copied_source}
use Rattle.std.specs.Slice.Iter.{iter_rest}
use Rattle.verdict_completion.specs.Completable.{at}
use Rattle.verdict_nogoods.specs.Table.{reductions_at}
use Rattle.verdict_fronts.specs.Front.{outstanding_in}
use Rattle.verdict_fronts.proofs.FrontLaws.{zeros_only, slots_are}
use Rattle.verdict_fronts.proofs.outstanding_in.Goals as goal

pub returns : goal.returns
returns c =
    let held : iter_rest (copied_source c.copied.result) ≡ c.reductions_at.result.now = cc in
    let k = c.fill-2.ensures.filled in
    let free = drop (length k.0) c.fill.new.self in
    let all : k.0 ≡ reductions_at c.args.front.now c.args.p = Copied-Drains c.copied.result k.0 k.1 ∙ held ∙ c.reductions_at.ensures in
    let none : (d : ℕ) → at free d ≡ 0 = λ d. get_or-drop (length k.0) c.fill.new.self d 0 ∙ zeros_only _ (c.fill.ensures.after (λ y e. e)) (length k.0 + d) in
    let now : c.fill-2.new.list ≡ reductions_at c.args.front.now c.args.p ++ free = k.3 ∙ ap (λ (xs : List ℕ). xs ++ free) all in
    let long : length (reductions_at c.args.front.now c.args.p ++ free) ≡ length c.args.outstanding.now = sym (ap length now) ∙ c.fill-2.auto.list ∙ c.fill.auto.self in
    now ∙ slots_are c.args.front.now free c.args.p c.requires.0 c.requires.1 none ∙ ap (outstanding_in c.args.front.now c.args.p) long
