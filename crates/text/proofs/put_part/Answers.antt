-- `text::put_part` meets its contract. Assumes nothing.
use mathlib.Core.Path.{ap}
use native.Mathlib.Omega.{arith}
use lib.Dec.{eqb}
use lib.ListN.{length}
use borrow.Author.Tests.{eq-eqb, ne_eqb}
use mathlib.Core.List.{[]}
use Rattle.recording.specs.Tests.{pick}
use Rattle.recording.specs.Weeks.{week_minutes}
use Rattle.recording.specs.Words.{code_of}
use Rattle.text_lines.specs.Form.{week_line}
use Rattle.text.specs.Page.{Puts}
use Rattle.text.proofs.Puts.{ended, name_short, puts_none, puts_then, part_text, code_small}
use Rattle.text.proofs.put_part.Goals as goal
use Rattle.text.proofs.put_part.Goals.{then-left-eq-WEEK_MINUTES, else-left-eq-WEEK_MINUTES}

pub put-requires-2 : goal.put-requires-2
put-requires-2 c =
    let name = ap length c.run_name.ensures in
    let short = name_short (code_of c.args.run.activity) in
    elim c.if-left-eq-WEEK_MINUTES.branch [
      | then-left-eq-WEEK_MINUTES w ↦ omega (arith, name, short, ap (λ p. p.len) w.page-is, w.put.ensures.put.next_is)
      | else-left-eq-WEEK_MINUTES w ↦ omega (arith, name, short, ap (λ p. p.len) w.page-is)
    ]

pub put_number-requires : goal.put_number-requires
put_number-requires c =
    let name = ap length c.run_name.ensures in
    let short = name_short (code_of c.args.run.activity) in
    let named = c.put-2.ensures.put.next_is in
    elim c.if-left-eq-WEEK_MINUTES.branch [
      | then-left-eq-WEEK_MINUTES w ↦ omega (arith, name, short, named, ap (λ p. p.len) w.page-is, w.put.ensures.put.next_is)
      | else-left-eq-WEEK_MINUTES w ↦ omega (arith, name, short, named, ap (λ p. p.len) w.page-is)
    ]

pub put-requires-3 : goal.put-requires-3
put-requires-3 c =
    let name = ap length c.run_name.ensures in
    let short = name_short (code_of c.args.run.activity) in
    let named = c.put-2.ensures.put.next_is in
    let timed = c.put_number.ensures.short in
    elim c.if-left-eq-WEEK_MINUTES.branch [
      | then-left-eq-WEEK_MINUTES w ↦ omega (arith, name, short, named, timed, ap (λ p. p.len) w.page-is, w.put.ensures.put.next_is)
      | else-left-eq-WEEK_MINUTES w ↦ omega (arith, name, short, named, timed, ap (λ p. p.len) w.page-is)
    ]

pub put-requires-then-left-run : goal.put-requires-then-left-run
put-requires-then-left-run c =
    let name = ap length c.run_name.ensures in
    let short = name_short (code_of c.args.run.activity) in
    let named = c.put-2.ensures.put.next_is in
    let timed = c.put_number.ensures.short in
    let closed = c.put-3.ensures.put.next_is in
    elim c.if-left-eq-WEEK_MINUTES.branch [
      | then-left-eq-WEEK_MINUTES w ↦ omega (arith, name, short, named, timed, closed, ap (λ p. p.len) w.page-is, w.put.ensures.put.next_is)
      | else-left-eq-WEEK_MINUTES w ↦ omega (arith, name, short, named, timed, closed, ap (λ p. p.len) w.page-is)
    ]

pub returns-then-left-run : goal.returns-then-left-run
returns-then-left-run c =
    let begun : Puts c.args.page.now (pick (eqb c.args.left week_minutes) (ended week_line) []) c.if-left-eq-WEEK_MINUTES.page = elim c.if-left-eq-WEEK_MINUTES.branch [
      | then-left-eq-WEEK_MINUTES w ↦ rw (eq-eqb c.args.left week_minutes w.if-left-eq-WEEK_MINUTES.true, w.page-is) w.put.ensures
      | else-left-eq-WEEK_MINUTES w ↦ rw (ne_eqb c.args.left week_minutes w.if-left-eq-WEEK_MINUTES.false, w.page-is) (puts_none c.args.page.now)
    ] in
    let named = puts_then begun (rw (← c.run_name.ensures) c.put-2.ensures) in
    let all = puts_then (puts_then (puts_then named c.put_number.ensures.number) c.put-3.ensures) c.put-then-left-run.ensures in
    rw (part_text c.args.left c.args.run.minutes (code_of c.args.run.activity) (code_small c.args.run.activity), eq-eqb c.args.left c.args.run.minutes c.if-left-run.true) all

pub returns-else-left-run : goal.returns-else-left-run
returns-else-left-run c =
    let begun : Puts c.args.page.now (pick (eqb c.args.left week_minutes) (ended week_line) []) c.if-left-eq-WEEK_MINUTES.page = elim c.if-left-eq-WEEK_MINUTES.branch [
      | then-left-eq-WEEK_MINUTES w ↦ rw (eq-eqb c.args.left week_minutes w.if-left-eq-WEEK_MINUTES.true, w.page-is) w.put.ensures
      | else-left-eq-WEEK_MINUTES w ↦ rw (ne_eqb c.args.left week_minutes w.if-left-eq-WEEK_MINUTES.false, w.page-is) (puts_none c.args.page.now)
    ] in
    let named = puts_then begun (rw (← c.run_name.ensures) c.put-2.ensures) in
    let all = puts_then (puts_then (puts_then named c.put_number.ensures.number) c.put-3.ensures) (puts_none _) in
    rw (part_text c.args.left c.args.run.minutes (code_of c.args.run.activity) (code_small c.args.run.activity), ne_eqb c.args.left c.args.run.minutes c.if-left-run.false) all
