-- `verdict_fronts::remove_dominated` meets its contract. Assumes nothing.
use Rattle.std.proofs.Common.{◌≡◌, ℕ, arith, subst}
use Rattle.verdict_fronts.specs.Front.{Removed}
use Rattle.verdict_fronts.proofs.FrontLaws.{removed_out, removed_on, removed_stays}
use Rattle.verdict_fronts.proofs.remove_dominated.Goals as goal
use Rattle.verdict_fronts.proofs.remove_dominated.Goals.{then-r-i, else-r-i}

pub loop-i-preserved-then-dominates : goal.loop-i-preserved-then-dominates
loop-i-preserved-then-dominates c = removed_out c.loop-i.invariant (c.dominates.ensures c.if-dominates.true)

pub loop-i-preserved : goal.loop-i-preserved
loop-i-preserved c = elim c.if-r-i.branch [
  | then-r-i w ↦ rw w.front-is (removed_on c.loop-i.invariant w.move_entry.ensures (λ l. absurd (omega arith)))
  | else-r-i w ↦ rw w.front-is (removed_stays c.loop-i.invariant w.if-r-i.false)
]

pub returns : goal.returns
returns c = let e : c.loop-i.i ≡ c.args.n = omega arith in subst (λ (x : ℕ). Removed c.args.front.now c.loop-i.front c.args.new.now x c.loop-i.r) e c.loop-i.invariant
