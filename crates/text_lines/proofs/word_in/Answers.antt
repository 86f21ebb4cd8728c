-- `text_lines::word_in` meets its contract. Assumes nothing.
use native.Mathlib.Omega.{arith}
use Rattle.text_lines.proofs.Bytes.{after_within, some_number}
use Rattle.text_lines.proofs.word_in.Goals as goal

pub word_of-requires : goal.word_of-requires
word_of-requires c = omega (arith, some_number _ c.in_ok-minutes.ensures, after_within c.run_name.result.now c.args.line.now)
