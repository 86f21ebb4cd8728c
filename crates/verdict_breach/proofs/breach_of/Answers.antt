-- `verdict_breach::breach_of` meets its contract. Assumes nothing.
use mathlib.Core.Path.{sym, ap, ◌∙◌}
use Rattle.recording.specs.Words.{minutes_of}
use Rattle.recording.specs.Scan.{words_in}
use Rattle.rules.specs.Numbers.{number_of_article}
use Rattle.rules.specs.Operations.{breached}
use Rattle.verdict_breach.proofs.Halving.{least_in_whole, least_in_fixed, breach_whole, breach_under, breach_here}
use Rattle.verdict_breach.proofs.breach_of.Goals as goal

pub least_without-minute-requires : goal.least_without-minute-requires
least_without-minute-requires c =
    (c.requires.0, least_in_whole (minutes_of (words_in c.args.recording)) c.requires.3 c.requires.1 (sym c.requires.2 ∙ c.in_default.is))

pub returns-in_default : goal.returns-in_default
returns-in_default c = record {
  breach = breach_whole (minutes_of (words_in c.args.recording)) c.requires.3 (sym c.requires.2 ∙ c.in_default.is) c.least_without-minute.ensures.least;
  lent = c.least_without-minute.ensures.lent;
}

pub least_without-minute-requires-2 : goal.least_without-minute-requires-2
least_without-minute-requires-2 c =
    (c.requires.0, least_in_fixed (minutes_of (words_in c.args.recording)) c.requires.3 (sym c.requires.2 ∙ c.in-Some.is))

pub returns-then-minute-broken : goal.returns-then-minute-broken
returns-then-minute-broken c = let least = c.least_without-minute-2.ensures in record {
  breach = breach_under (minutes_of (words_in c.args.recording)) c.requires.3 (sym c.requires.2 ∙ c.in-Some.is) least.least c.if-minute-broken.true;
  lent = least.lent;
}

pub returns : goal.returns
returns c = let least = c.least_without-minute-2.ensures in record {
  breach = ap (λ a. breached c.least_without-minute-2.result (number_of_article a)) c.from.ensures
      ∙ breach_here (minutes_of (words_in c.args.recording)) c.requires.3 (sym c.requires.2 ∙ c.in-Some.is) least.least c.if-minute-broken.false;
  lent = least.lent;
}
