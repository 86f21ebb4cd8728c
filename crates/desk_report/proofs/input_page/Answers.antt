-- `desk_report::input_page` meets its contract. Assumes nothing.
use native.Mathlib.Omega.{arith}
use Rattle.desk_report.specs.Printed.{is_card, shows_spans}
use Rattle.desk_report.proofs.Answered.{input_over}
use Rattle.desk_report.proofs.input_page.Goals as goal

pub returns-then-input-gt-INPUT_BYTES : goal.returns-then-input-gt-INPUT_BYTES
returns-then-input-gt-INPUT_BYTES c = rw (input_over (is_card c.args.format) (shows_spans c.args.shown) c.args.input.now (omega arith)) c.refusal_page.ensures
