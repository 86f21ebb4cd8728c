-- `rules_nets::regular_net` meets its contract. Assumes nothing.
use mathlib.Core.Path.{refl}
use native.Mathlib.Omega.{arith}
use Prim.Native.Nat.{◌+◌}
use borrow.Author.Tests.{le-leb, lt-leb}
use Rattle.rules.specs.ReadingRules.{daily_window, full_portion, second_period}
use Rattle.rules_nets.specs.Nets.{regular_net}
use Rattle.rules_nets.proofs.regular_net.Goals as goal

pub returns-then-start-day : goal.returns-then-start-day
unfolding regular_net
returns-then-start-day c = let args = c.args in
    rw (c.if-split.true, le-leb (args.start + second_period) (args.day + daily_window) (omega (arith, c.if-start-day.true))) refl

pub returns-then-split : goal.returns-then-split
unfolding regular_net
returns-then-split c = let args = c.args in
    rw (c.if-split.true, lt-leb (args.start + second_period) (args.day + daily_window) (omega (arith, c.if-start-day.false))) refl

pub returns-then-start-day-2 : goal.returns-then-start-day-2
unfolding regular_net
returns-then-start-day-2 c = let args = c.args in
    rw (c.if-split.false, le-leb (args.start + full_portion) (args.day + daily_window) (omega (arith, c.if-start-day-2.true))) refl

pub returns : goal.returns
unfolding regular_net
returns c = let args = c.args in
    rw (c.if-split.false, lt-leb (args.start + full_portion) (args.day + daily_window) (omega (arith, c.if-start-day-2.false))) refl
