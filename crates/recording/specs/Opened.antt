-- Inner: `unfolding opened` opens the definitions of this layer at once, so that what they say of a recording that is written out is computed.
-- Assumes nothing.
use Rattle.recording.specs.Tests.{◌and◌, ◌or◌, all_of, any_of, all_below, count_of, keep}
use Rattle.recording.specs.Words.{minutes_of, driving_time}
use Rattle.recording.specs.Rests.{closed_from, closed_rests, end_from, judged_end, open_rest, rests, long_rests}
use Rattle.recording.specs.Days.{latest_end_from, latest_end, days_from, days, driving_in}
use Rattle.recording.specs.Weeks.{touches, rest_only, inside}
use Rattle.recording.specs.Operations.{fault_of, total_from, measured, listed}

unfoldable pub opened : Unit {0}
unfolding ◌and◌ ◌or◌ all_of any_of all_below count_of keep minutes_of driving_time closed_from closed_rests end_from judged_end open_rest rests long_rests latest_end_from
    latest_end days_from days driving_in
    touches rest_only inside fault_of total_from measured listed
opened = tt
