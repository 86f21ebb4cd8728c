-- `text::Page::put` meets its contract. Assumes nothing.
use mathlib.Core.Path.{refl, sym, ◌∙◌}
use native.Mathlib.Omega.{arith}
use Rattle.text.proofs.Puts.{put_on, put_done, sets_past}
use Rattle.text.proofs.page.Page.put.Goals as goal

pub returns-then-self : goal.returns-then-self
returns-then-self c = record { put = record { next_is = refl; text_is = sym (sets_past _ _ c.args.text.now c.if-self.true) }; same = refl }

pub loop-byte-preserved : goal.loop-byte-preserved
loop-byte-preserved c =
    let k = c.loop-byte.invariant in
    record { at = omega arith; bytes = k.bytes ∙ put_on _ _ _ _ c.loop-byte-test.true c.put.ensures; same = k.same }

pub returns : goal.returns
returns c =
    let k = c.loop-byte.invariant in
    let done = put_done c.loop-byte.self.bytes.now c.args.text.now c.loop-byte.at c.loop-byte.byte-index (omega arith) in
    record { put = record { next_is = omega (arith, k.at); text_is = sym (k.bytes ∙ done) }; same = k.same }
