-- `verdict_spans::breach_spans` meets its contract. Assumes nothing.
use mathlib.Core.Path.{◌≡◌, refl, sym, ap, ◌∙◌}
use native.Mathlib.Omega.{arith}
use lib.ListN.{length, length-drop}
use Rattle.rules.specs.declared.Weeks.{Weeks}
use Rattle.std.specs.Prelude.{Err, Ok}
use Rattle.std.proofs.Common.{rules}
use Rattle.std.proofs.iter.Yields.{Copied-Drains}
use Rattle.std.specs.Iterator.Adapters.{copied_source}
use Rattle.std.specs.Slice.Iter.{iter_rest}
use Rattle.recording.specs.Answers.{answered}
use Rattle.recording_list.proofs.Filling.{filled_or_refused}
use Rattle.verdict_spans.specs.Listing.{spans_in}
use Rattle.verdict_spans.proofs.Putting.{spans_fit}
use Rattle.verdict_spans.proofs.breach_spans.Goals as goal

pub fill-count-requires-clause-room : goal.fill-count-requires-clause-room
fill-count-requires-clause-room c =
    let held : iter_rest (copied_source c.copied.result) ≡ spans_in c.in_ok-spans.spans = cc in
    (tt, omega (arith, spans_fit _ _ c.in_ok-spans.ensures, ap length held))

pub overflow_cast-result : goal.overflow_cast-result
overflow_cast-result c =
    let held : iter_rest (copied_source c.copied.result) ≡ spans_in c.in_ok-spans.spans = cc in
    let k = c.fill-count.ensures.filled in
    let all = Copied-Drains c.copied.result k.0 k.1 ∙ held in
    omega (arith, k.2, ap length all, length-drop {A = Weeks})

pub returns-in_err-spans : goal.returns-in_err-spans
returns-in_err-spans c =
    let told : c.from_residual.result ≡ Err c.in_err-spans.field-0.0 = search rules in
    let f = filled_or_refused (Err c.in_err-spans.field-0.0) (sym c.in_err-spans.ensures, refl) in
    rw told (record { answer = f.answer; list_after = f.content })

pub returns : goal.returns
returns c =
    let held : iter_rest (copied_source c.copied.result) ≡ spans_in c.in_ok-spans.spans = cc in
    let k = c.fill-count.ensures.filled in
    let due = sym c.in_ok-spans.ensures ∙ ap answered (sym (Copied-Drains c.copied.result k.0 k.1 ∙ held)) in
    let f = filled_or_refused (Ok c.fill-count.result) (k.0, due, k.2, k.3) in
    record { answer = f.answer; list_after = f.content }
