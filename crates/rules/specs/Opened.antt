-- Inner: `unfolding opened` opens the definitions of the rules at once, with those of the recording, so that a test of a recording that is written out
-- is computed.
-- Assumes nothing.
use Rattle.recording.specs.Opened.{opened as recording_opened}
use Rattle.rules.specs.Fixed.{extended, rule2, rule3, rule4, rested, drove, keeps_accumulated, rule1, rule5, breaches_by, breaches, smallest_rule, fixed_test, first_article}
use Rattle.rules.specs.Reading.{as_read, compensation_of, reading_size, fields_in, bytes_of, entries_from, entries}
use Rattle.rules.specs.ReadingRules.{formed_daily, formed_weekly, formed, rule6, long_enough, rule7, end_of, compensated, rule8, portion_under, split_day, shortened, rule9_from, rule9, rule10_from}
use Rattle.rules.specs.ReadingRules.{rule10, of_kind, counted_in, enough_in, rule11, later_test, fields_test, reading_test}
use Rattle.rules.specs.Verdict.{lawful, lawful_fields, article}

unfoldable pub opened : Unit {0}
unfolding recording_opened extended rule2 rule3 rule4 rested drove keeps_accumulated rule1 rule5 breaches_by breaches smallest_rule fixed_test first_article as_read compensation_of reading_size
    fields_in bytes_of entries_from entries formed_daily formed_weekly formed rule6 long_enough rule7 end_of compensated rule8 portion_under split_day shortened rule9_from rule9
    rule10_from rule10 of_kind
    counted_in enough_in rule11 later_test fields_test reading_test lawful lawful_fields article
opened = tt
