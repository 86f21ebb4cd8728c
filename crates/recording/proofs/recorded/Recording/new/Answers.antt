-- `recording::Recording::new` meets its contract: a first word of no minutes adds none. Assumes nothing.
use Rattle.recording.specs.Words.{minutes_of}
use Rattle.recording.proofs.recorded.Recording.new.Goals as goal

pub invariant_of-result : goal.invariant_of-result
unfolding minutes_of
invariant_of-result c = record { within = c.requires }
