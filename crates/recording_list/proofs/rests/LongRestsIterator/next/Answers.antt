-- `next` of the long rests meets its contract. Assumes nothing.
use Rattle.std.proofs.Common.{arith, refl, sym, ap, ◌∙◌, length}
use Rattle.recording_list.proofs.Walking.{can_go, goes_on, rest_ends, no_rest_ends, none_left}
use Rattle.recording_list.proofs.rests.LongRestsIterator.next.Goals as goal

pub loop-word-init : goal.loop-word-init
loop-word-init c = (record { from = c.args.self.now.from; count = c.args.self.now.count; room = c.args.self.now.room }, refl)

pub after-next-requires : goal.after-next-requires
after-next-requires c = can_go c.loop-word.invariant.0 c.in-Some.ensures.cases.0 c.from-run.ensures

pub invariant_of-self : goal.invariant_of-self
invariant_of-self c = let k = goes_on c.loop-word.invariant.0 c.in-Some.ensures.cases.0 c.from-run.ensures c.after-next.ensures in
    record { from = k.from; count = k.count; room = k.room }

pub invariant_of-self-2 : goal.invariant_of-self-2
invariant_of-self-2 c = let k = c.loop-word.invariant.0 in record { from = k.from; count = k.count; room = k.room }

pub returns-then-ended-clause-steps : goal.returns-then-ended-clause-steps
returns-then-ended-clause-steps c =
    c.loop-word.invariant.1 ∙ rest_ends c.loop-word.invariant.0 c.in-Some.ensures.cases.0 c.from-run.ensures c.after-next.ensures (sym c.ends_rest-ended.ensures ∙ c.if-ended.true)

pub returns-then-ended-clause-goes : goal.returns-then-ended-clause-goes
returns-then-ended-clause-goes c =
    let e = c.loop-word.invariant.1 ∙ rest_ends c.loop-word.invariant.0 c.in-Some.ensures.cases.0 c.from-run.ensures c.after-next.ensures (sym c.ends_rest-ended.ensures ∙ c.if-ended.true) in
    record { on = λ _. (tt, tt, omega (arith, ap length e)); keeps = tt; rests = λ _. tt }

pub loop-word-preserved : goal.loop-word-preserved
loop-word-preserved c = (
  goes_on c.loop-word.invariant.0 c.in-Some.ensures.cases.0 c.from-run.ensures c.after-next.ensures,
  c.loop-word.invariant.1 ∙ no_rest_ends c.loop-word.invariant.0 c.in-Some.ensures.cases.0 c.from-run.ensures c.after-next.ensures (sym c.ends_rest-ended.ensures ∙ c.if-ended.false),
)

pub returns-clause-steps : goal.returns-clause-steps
returns-clause-steps c = let n = none_left c.loop-word.place c.loop-word.words.now c.in_default.ensures.cases in (c.loop-word.invariant.1 ∙ n, n)
