-- `card_reader::Judgement::after` meets its contract. Assumes nothing.
use mathlib.Core.Path.{◌≡◌, refl}
use mathlib.Core.Bool.{not}
use Rattle.recording.specs.Tests.{◌and◌}
use Rattle.recording.proofs.Activities.{byte_is_one}
use Rattle.card_reader.specs.Reading.{follows, change_minute, is_unknown}
use Rattle.card_reader.specs.Passes.{after_change}
use Rattle.card_reader.proofs.Judgement.after.Goals as goal
use Rattle.card_reader.proofs.Judgement.after.Goals.{then-self, else-self, then-self-2, else-self-2}

pub returns : goal.returns
unfolding after_change ◌and◌
returns c =
    let ordered : c.if-self.result ≡ c.args.self.ordered and follows c.args.self.minute (change_minute c.args.change) = elim c.if-self.branch [
      | then-self w ↦ rw (w.result-is, w.may_follow.ensures, w.if-self.true) refl
      | else-self w ↦ rw (w.result-is, w.if-self.false) refl
    ] in
    let known : c.if-self-2.result ≡ c.args.self.known and not (is_unknown c.args.change) = elim c.if-self-2.branch [
      | then-self-2 w ↦ rw (w.result-is, w.is_unknown.ensures, w.if-self-2.true) refl
      | else-self-2 w ↦ rw (w.result-is, w.if-self-2.false) refl
    ] in
    rw (ordered, known, c.from.ensures, byte_is_one) refl
