-- `recording_list::LongRests::new` meets its contract. Assumes nothing.
use Rattle.recording_list.proofs.Walking.{all_rests}
use Rattle.recording_list.proofs.rests.LongRests.new.Goals as goal

pub returns : goal.returns
returns c = rw c.origin.ensures (all_rests c.args.words.now)
