-- `recording::scan` meets its contract. Assumes nothing.
use mathlib.Core.Path.{sym, ◌∙◌}
use native.Mathlib.Omega.{arith}
use Rattle.recording.proofs.Scanning.{walk_done, write_done, origin_fits, first_run, first_run_written, next_fits, next_run, next_run_written}
use Rattle.recording.proofs.scan.Goals as goal
use Rattle.recording.proofs.scan.Goals.{then-ends_rest, else-ends_rest}

pub after-place-requires : goal.after-place-requires
after-place-requires c = origin_fits _ c.args.recording.words.now c.args.recording.within c.from.ensures c.origin.ensures

pub loop-word-init : goal.loop-word-init
loop-word-init c =
    let e = c.after-place.ensures in (
      first_run _ _ c.args.recording.within c.from.ensures c.origin.ensures e,
      first_run_written _ _ (λ s. s.start) c.from.ensures c.origin.ensures _ e,
      first_run_written _ _ (λ s. s.end) c.from.ensures c.origin.ensures _ e,
    )

pub after-place-requires-in-loop-word : goal.after-place-requires-in-loop-word
after-place-requires-in-loop-word c = next_fits c.loop-word.invariant.0 c.loop-word-test.true c.from-run.ensures

pub loop-word-preserved : goal.loop-word-preserved
loop-word-preserved c = let k = c.loop-word.invariant in let r = c.from-run.ensures in let q = c.after-place-in-loop-word.ensures in let e = c.ends_rest.ensures in (
  next_run k.0 c.loop-word-test.true r q,
  k.1 ∙ next_run_written k.0 c.loop-word-test.true r (λ s. s.start) _ q e
      (elim c.if-ends_rest.branch [ then-ends_rest w ↦ rw (w.if-ends_rest.true, w.starts-is) w.put.ensures | else-ends_rest w ↦ rw (w.if-ends_rest.false, w.starts-is) ]),
  k.2 ∙ next_run_written k.0 c.loop-word-test.true r (λ s. s.end) _ q e
      (elim c.if-ends_rest.branch [ then-ends_rest w ↦ rw (w.if-ends_rest.true, w.ends-is) w.put-then-ends_rest.ensures | else-ends_rest w ↦ rw (w.if-ends_rest.false, w.ends-is) ]),
)

pub returns : goal.returns
returns c = let done = c.loop-word.invariant in
    record {
      place = walk_done done.0 (omega arith);
      begun = sym (done.1 ∙ write_done done.0 (omega arith) (λ s. s.start) _);
      ended = sym (done.2 ∙ write_done done.0 (omega arith) (λ s. s.end) _);
    }
