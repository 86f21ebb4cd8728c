-- Public: document 01, "The recording", rests, the judged end S, long rests. All over the list of minutes.
-- Assumes nothing.
use Rattle.std.specs.Prelude.{Bool, List, [], ◌∷◌, ◌++◌, ℕ, zero, suc, ◌-◌, leb, ltb, length}
use Rattle.recording.specs.Tests.{pick, keep}
use Rattle.recording.specs.declared.Span.{Span}

abbrev pub length_of : Span → ℕ
length_of r = r.end - r.start

-- The walks below go through the minutes from the minute `now`; the rest that is under way, or could begin here, starts at `from`.

-- the rest from `from` to `now`, if it has a minute, before other rests
abbrev pub with_rest : ℕ → ℕ → List Span → List Span
with_rest from now rs = pick (ltb from now) (record { start = from; end = now } ∷ rs) rs

-- "A rest is a longest unbroken run of rest minutes." Here those that are not open: another activity ends them.
unfoldable pub closed_from : ℕ → ℕ → List ℕ → List Span
closed_from from now [] = []
closed_from from now (zero ∷ ms) = closed_from from (suc now) ms
closed_from from now (suc a ∷ ms) = with_rest from now (closed_from (suc now) (suc now) ms)

unfoldable pub closed_rests : List ℕ → List Span
closed_rests ms = closed_from 0 0 ms

-- "The judged end S is the open rest's start, or N if there is none."
unfoldable pub end_from : ℕ → ℕ → List ℕ → ℕ
end_from from now [] = from
end_from from now (zero ∷ ms) = end_from from (suc now) ms
end_from from now (suc a ∷ ms) = end_from (suc now) (suc now) ms

unfoldable pub judged_end : List ℕ → ℕ
judged_end ms = end_from 0 0 ms

-- "If the last minute is rest, that rest is open."
unfoldable pub open_rest : List ℕ → List Span
open_rest ms = with_rest (judged_end ms) (length ms) []

-- all rests: "Open rests are ignored in every rule", so the rules go by `closed_rests` and S
unfoldable pub rests : List ℕ → List Span
rests ms = closed_rests ms ++ open_rest ms

-- "A long rest is a rest that is not open and has 540 minutes or more."
abbrev pub long_rest_minutes : ℕ
long_rest_minutes = 540

abbrev pub is_long : Span → Bool
is_long r = leb long_rest_minutes (length_of r)

abbrev pub long_from : ℕ → ℕ → List ℕ → List Span
long_from from now ms = keep is_long (closed_from from now ms)

unfoldable pub long_rests : List ℕ → List Span
long_rests ms = long_from 0 0 ms

-- "There are k, numbered from 1"; document 02, request 7: "The total rises to 534,240 minutes, long rests to 987". That k is at most so many is a law
-- (proofs/LongRests.antt).
abbrev pub long_rests_at_most : ℕ
long_rests_at_most = 987
