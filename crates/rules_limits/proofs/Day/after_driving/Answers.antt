-- `rules_limits::Day::after_driving` meets its contract. Assumes nothing.
use mathlib.Core.Path.{◌≡◌, ap, ◌∙◌}
use mir.Val.{bool_byte}
use native.Mathlib.Omega.{arith}
use Prim.Native.Nat.{◌+◌, ◌-◌}
use lib.Dec.{ltb}
use borrow.Author.Tests.{lt-leb, lt-ltb, le-ltb}
use Rattle.recording.specs.Tests.{one}
use Rattle.recording.proofs.Activities.{byte_is_one}
use Rattle.rules.specs.Fixed.{ordinary_day}
use Rattle.rules_limits.specs.Parts.{day_more}
use Rattle.rules_limits.proofs.Day.after_driving.Goals as goal
use Rattle.rules_limits.proofs.Day.after_driving.Goals.{then-self-le-ORDINARY_DAY, else-self-le-ORDINARY_DAY}

pub returns : goal.returns
unfolding day_more
returns c =
    let d = c.args.self in
    let extended : d.extended + c.from.result ≡ d.extended + (one (ltb ordinary_day (d.driving + c.args.driven)) - one (ltb ordinary_day d.driving)) =
    elim c.if-self-le-ORDINARY_DAY.branch [
      | then-self-le-ORDINARY_DAY w ↦
          omega (arith, c.from.ensures ∙ ap bool_byte w.passes-is ∙ byte_is_one _, ap one (le-ltb ordinary_day d.driving w.if-self-le-ORDINARY_DAY.true))
      | else-self-le-ORDINARY_DAY w ↦
          omega (
            arith,
            c.from.ensures ∙ ap bool_byte (w.passes-is ∙ lt-leb d.driving ordinary_day w.if-self-le-ORDINARY_DAY.false),
            ap one (lt-ltb ordinary_day d.driving w.if-self-le-ORDINARY_DAY.false),
            ap one (lt-ltb ordinary_day (d.driving + c.args.driven) (omega (arith, w.if-self-le-ORDINARY_DAY.false))),
          )
    ] in
    λ i. record { start = d.start; driving = d.driving + c.args.driven; extended = extended i }
