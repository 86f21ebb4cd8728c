-- `State::keeps_pair` meets its contract. Assumes nothing.
use borrow.Author.Tests.{eq-eqb, ne_eqb, le-leb, lt-leb}
use Rattle.recording.specs.Tests.{◌and◌, ◌or◌}
use Rattle.verdict_completion.specs.States.{pair_kept}
use Rattle.verdict_completion.proofs.State.keeps_pair.Goals as goal

pub returns-then-self-eq0 : goal.returns-then-self-eq0
unfolding pair_kept ◌and◌ ◌or◌
returns-then-self-eq0 c = simp (eq-eqb _ _ c.if-self-eq0.true)

pub returns-then-self-ge-WEEKLY_AT_LEAST : goal.returns-then-self-ge-WEEKLY_AT_LEAST
unfolding pair_kept ◌and◌ ◌or◌
returns-then-self-ge-WEEKLY_AT_LEAST c = simp (ne_eqb _ _ c.if-self-eq0.false, le-leb _ _ c.if-self-ge-WEEKLY_AT_LEAST.true)

pub returns-else-self-ge-WEEKLY_AT_LEAST : goal.returns-else-self-ge-WEEKLY_AT_LEAST
unfolding pair_kept ◌and◌ ◌or◌
returns-else-self-ge-WEEKLY_AT_LEAST c = simp (ne_eqb _ _ c.if-self-eq0.false, lt-leb _ _ c.if-self-ge-WEEKLY_AT_LEAST.false)
