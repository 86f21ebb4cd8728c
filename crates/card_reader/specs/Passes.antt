-- Inner: what the functions that read a record answer. Nobody has to believe it: no public contract cites it.
-- Assumes nothing.
use Rattle.std.specs.Prelude.{true, not, List, [], ◌∷◌, ℕ, ◌+◌, ◌-◌, ◌/◌, ltb}
use Rattle.recording.specs.Tests.{◌and◌, pick, one}
use Rattle.recording.specs.Operations.{total_at_most}
use Rattle.card_reader.specs.declared.Judgement.{Judgement}
use Rattle.card_reader.specs.Form.{day_minutes}
use Rattle.card_reader.specs.Reading.{change_minute, begins_day, is_unknown, follows, is_even}

-- no slice has so many places
abbrev pub slice_places : ℕ
slice_places = 9223372036854775808

-- change after change. Before the first one nothing but minute 0 follows.
abbrev pub begun : Judgement
begun = record { ordered = true; known = true; days = 0; minute = day_minutes - 1 }

unfoldable pub after_change : Judgement → ℕ → Judgement
after_change j c = record {
  ordered = j.ordered and follows j.minute (change_minute c);
  known = j.known and not (is_unknown c);
  days = j.days + one (begins_day c);
  minute = change_minute c;
}

unfoldable pub judged_from : Judgement → List ℕ → Judgement
judged_from j [] = j
judged_from j (c ∷ cs) = judged_from (after_change j c) cs

-- the refusal of a record of so many bytes for so many words, or 0
unfoldable pub refusal_for : Judgement → ℕ → ℕ → ℕ
refusal_for j size room =
    pick (is_even size and j.ordered)
    (pick j.known (pick (ltb (total_at_most / day_minutes) j.days) 2 (pick (ltb room (size / 2)) 9 0)) 12)
    11
