-- `rules_reading::reading_test` meets its contract. Assumes nothing.
use Rattle.recording.proofs.Listing.{refused_there, measured_there}
use Rattle.rules_reading.proofs.LaterLaws.{test_refused, test_sized, room_short, room_long}
use Rattle.rules_reading.proofs.reading_test.Goals as goal

pub returns-in_default : goal.returns-in_default
returns-in_default c = test_refused _ _ (refused_there _ c.weigh-weighing.ensures c.unwrap_err.ensures)

pub returns-then-reading-measure : goal.returns-then-reading-measure
returns-then-reading-measure c = test_sized _ _ (measured_there _ c.weigh-weighing.ensures c.in-Ok.is) c.if-reading-measure.true

pub tested_in_room-rule-requires-clause-room : goal.tested_in_room-rule-requires-clause-room
tested_in_room-rule-requires-clause-room c = room_short c.args.words.now (measured_there _ c.weigh-weighing.ensures c.in-Ok.is) c.if-measure-le-SHORT_TOTAL.true

pub tested_in_room-rule-requires-else-measure-le-SHORT_TOTAL-clause-room : goal.tested_in_room-rule-requires-else-measure-le-SHORT_TOTAL-clause-room
tested_in_room-rule-requires-else-measure-le-SHORT_TOTAL-clause-room c = room_long c.args.words.now (measured_there _ c.weigh-weighing.ensures c.in-Ok.is)
