-- `rules_reading::tested_in_room` meets its contract. Assumes nothing.
use Rattle.std.proofs.Common.{arith, sym, ◌∙◌}
use Rattle.recording.proofs.Listing.{measured_is}
use Rattle.rules_reading.proofs.LaterLaws.{surveyed_alone, judged_most, count_few, starts_count, ends_count, nets_count, rest_ordered, rest_limited, rest_numbered}
use Rattle.rules_reading.proofs.LaterLaws.{test_fixed, test_later, one_broken, none_broken}
use Rattle.rules_reading.proofs.tested_in_room.Goals as goal

pub new-requires : goal.new-requires
new-requires g c = (measured_is _ c.requires.weighed).within

pub returns-then-is_some : goal.returns-then-is_some
returns-then-is_some g c = let v = surveyed_alone c.args.words.now (c.new.ensures.head, c.new.ensures.words) c.survey_of-found.ensures in
    test_fixed _ _ c.requires.weighed c.requires.room v c.smallest_rule-rule.ensures c.requires.entries (one_broken _ (sym c.is_some.ensures ∙ c.if-is_some.true))

pub invariant_of-rests : goal.invariant_of-rests
invariant_of-rests g c =
    let v = surveyed_alone c.args.words.now (c.new.ensures.head, c.new.ensures.words) c.survey_of-found.ensures in
    let q = c.requires.weighed in
    let reading = c.args.reading.now in
    let starts = starts_count _ reading q c.requires.room v in
    record {
      few = omega (arith, starts, count_few _ reading q c.requires.room v);
      ends_too = ends_count _ reading q c.requires.room v ∙ sym starts;
      nets_too = nets_count _ reading q c.requires.room v ∙ sym starts;
      ordered = rest_ordered _ reading q c.requires.room v;
      limited = rest_limited _ reading q c.requires.room v;
      numbered = rest_numbered _ reading q c.requires.room v;
    }

pub later_test-requires-clause-judged : goal.later_test-requires-clause-judged
later_test-requires-clause-judged g c = let v = surveyed_alone c.args.words.now (c.new.ensures.head, c.new.ensures.words) c.survey_of-found.ensures in
    judged_most _ c.args.reading.now c.requires.weighed c.requires.room v

pub returns : goal.returns
returns g c = let v = surveyed_alone c.args.words.now (c.new.ensures.head, c.new.ensures.words) c.survey_of-found.ensures in
    test_later _ _ c.requires.weighed c.requires.room v c.smallest_rule-rule.ensures c.requires.entries (none_broken _ (sym c.is_some.ensures ∙ c.if-is_some.false)) c.later_test.ensures
