-- Inner: the first reading of long rests, which verdict_completion says. Assumes nothing.
pub use Rattle.verdict_completion.specs.First.{KeptBy, Least}
pub use Rattle.verdict_completion.specs.Completable.{rests_only}
