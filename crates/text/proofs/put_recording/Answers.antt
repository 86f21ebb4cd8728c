-- `text::put_recording` meets its contract. Assumes nothing.
use mathlib.Core.Path.{refl}
use mathlib.Core.Bool.{not}
use mathlib.Core.List.{[]}
use lib.Dec.{eqb}
use borrow.Author.Tests.{eq-eqb, ne_eqb}
use Rattle.recording.specs.Tests.{pick}
use Rattle.recording.specs.Weeks.{week_minutes}
use Rattle.text_lines.specs.Form.{closing_line}
use Rattle.text.specs.Page.{Puts}
use Rattle.text.proofs.Puts.{ended, puts_none}
use native.Mathlib.Omega.{arith}
use Rattle.text.proofs.Parts.{from_here, further, at-roomy, part_on, fetch_on, run_done, run_shorter, write_end}
use Rattle.text.proofs.put_recording.Goals as goal
use Rattle.text.proofs.put_recording.Goals.{then-left-ne-WEEK_MINUTES, else-left-ne-WEEK_MINUTES}

-- a run
pub loop-minutes-init : goal.loop-minutes-init
loop-minutes-init c = from_here (fetch_on c.loop-run.invariant refl c.in-Some.ensures)

pub loop-run-smaller : goal.loop-run-smaller
loop-run-smaller c = run_shorter c.in-Some.ensures

pub loop-run-preserved : goal.loop-run-preserved
loop-run-preserved c = run_done (further (fetch_on c.loop-run.invariant refl c.in-Some.ensures) c.loop-minutes.invariant) c.loop-minutes-test.false

-- a part of it
pub put_part-requires : goal.put_part-requires
put_part-requires c =
    at-roomy (further (fetch_on c.loop-run.invariant refl c.in-Some.ensures) c.loop-minutes.invariant) c.requires.0.within (omega (arith, c.put.ensures.put.next_is, c.requires.1))

pub loop-minutes-preserved : goal.loop-minutes-preserved
loop-minutes-preserved c = part_on c.loop-minutes.invariant (omega arith) c.min.ensures c.put_part.ensures c.left_after-left.ensures

-- the end
pub returns-clause-text : goal.returns-clause-text
returns-clause-text c =
    let left = c.loop-run.left in
    let last : Puts c.loop-run.page (pick (not (eqb left week_minutes)) (ended closing_line) []) c.if-left-ne-WEEK_MINUTES.page = elim c.if-left-ne-WEEK_MINUTES.branch [
      | then-left-ne-WEEK_MINUTES w ↦ rw (ne_eqb left week_minutes w.if-left-ne-WEEK_MINUTES.true, w.page-is) w.put-then-left-ne-WEEK_MINUTES.ensures
      | else-left-ne-WEEK_MINUTES w ↦ rw (eq-eqb left week_minutes w.if-left-ne-WEEK_MINUTES.false, w.page-is) (puts_none c.loop-run.page)
    ] in
    write_end c.loop-run.invariant c.args.words.now refl refl c.in_default.ensures c.requires.1 c.put.ensures last c.put-2.ensures
