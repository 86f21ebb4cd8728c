-- `rules_nets::OpenDay::after_rest` meets its contract. Assumes nothing.
use mathlib.Core.Path.{refl, ◌∙◌}
use native.Mathlib.Omega.{arith}
use Prim.Native.Nat.{◌-◌}
use borrow.Author.Tests.{le-leb, lt-leb}
use Rattle.recording.specs.Tests.{◌and◌}
use Rattle.recording.specs.Rests.{long_rest_minutes}
use Rattle.recording.proofs.TestLaws.{or-false, or-true}
use Rattle.rules.specs.ReadingRules.{first_period_at_least, first_period_at_most}
use Rattle.rules_nets.specs.Nets.{day_on, with_net}
use Rattle.rules_nets.proofs.OpenDay.after_rest.Goals as goal

pub returns-then-minutes-lt-FIRST_PERIOD-clause-day : goal.returns-then-minutes-lt-FIRST_PERIOD-clause-day
unfolding day_on ◌and◌
returns-then-minutes-lt-FIRST_PERIOD-clause-day c = let args = c.args.rest in
    let short = lt-leb long_rest_minutes (args.end - args.start) (omega (arith, c.if-minutes-lt-FIRST_PERIOD.true)) in
    let little = lt-leb first_period_at_least (args.end - args.start) (omega (arith, c.if-minutes-lt-FIRST_PERIOD.true)) in
    rw (short, little, or-false) refl

pub returns-then-minutes-lt-FIRST_PERIOD-clause-nets : goal.returns-then-minutes-lt-FIRST_PERIOD-clause-nets
unfolding with_net
returns-then-minutes-lt-FIRST_PERIOD-clause-nets c = let args = c.args.rest in
    rw (lt-leb long_rest_minutes (args.end - args.start) (omega (arith, c.if-minutes-lt-FIRST_PERIOD.true))) refl

pub returns-then-minutes-lt-LONG_REST-clause-day : goal.returns-then-minutes-lt-LONG_REST-clause-day
unfolding day_on ◌and◌
returns-then-minutes-lt-LONG_REST-clause-day c = let args = c.args.rest in
    let short = lt-leb long_rest_minutes (args.end - args.start) (omega (arith, c.if-minutes-lt-LONG_REST.true)) in
    let least = le-leb first_period_at_least (args.end - args.start) (omega (arith, c.if-minutes-lt-FIRST_PERIOD.false)) in
    let most = le-leb (args.end - args.start) first_period_at_most (omega (arith, c.if-minutes-lt-LONG_REST.true)) in
    rw (short, least, most, or-true) refl

pub returns-then-minutes-lt-LONG_REST-clause-nets : goal.returns-then-minutes-lt-LONG_REST-clause-nets
unfolding with_net
returns-then-minutes-lt-LONG_REST-clause-nets c = let args = c.args.rest in
    rw (lt-leb long_rest_minutes (args.end - args.start) (omega (arith, c.if-minutes-lt-LONG_REST.true))) refl

pub returns-clause-day : goal.returns-clause-day
unfolding day_on
returns-clause-day c = let args = c.args.rest in
    c.beginning.ensures ∙ rw (le-leb long_rest_minutes (args.end - args.start) (omega (arith, c.if-minutes-lt-LONG_REST.false))) refl

pub returns-clause-nets : goal.returns-clause-nets
unfolding with_net
returns-clause-nets c = let args = c.args.rest in
    let long = le-leb long_rest_minutes (args.end - args.start) (omega (arith, c.if-minutes-lt-LONG_REST.false)) in
    c.put.ensures ∙ rw (long, c.regular_net-net.ensures) refl
