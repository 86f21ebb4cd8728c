-- Inner: what the long rests before a point leave to the later ones, and how it changes from rest to rest and from week to week.
-- Nobody has to believe it: proofs/ shows that rules 6 to 11 come to this.
-- Assumes nothing.
use Rattle.std.specs.Prelude.{Bool, true, false, ℕ, zero, suc, ◌+◌, min, leb, eqb, Option, None, Some}
use Rattle.recording.specs.Tests.{◌and◌, ◌or◌, pick, one}
use Rattle.rules.specs.ReadingRules.{weekly_at_least, regular_at_least}
use Rattle.verdict_completion.specs.declared.Counts.{Counts}
use Rattle.verdict_completion.specs.declared.State.{State}

-- a week before any rest is counted in it: one of rest minutes only holds exactly one regular weekly rest
abbrev pub fresh_counts : Bool → Counts
fresh_counts rest_week = record { weekly = one rest_week; regular = one rest_week }

-- a weekly rest more, regular or not, up to what rule 11 asks for; it changes nothing in a week of rest minutes only
abbrev pub counted_more : Bool → Bool → Counts → Counts
counted_more true regular c = c
counted_more false regular c = record { weekly = min weekly_at_least (c.weekly + 1); regular = min regular_at_least (c.regular + one regular) }

-- before the first rest
abbrev pub start_state : Bool → State
start_state rest_week = record {
  ended = 0;
  short = 0;
  week = 0;
  before = record { weekly = 0; regular = 0 };
  current = fresh_counts rest_week;
}

-- rule 11 for the week before and the week reached
unfoldable pub pair_kept : State → Bool
pair_kept st =
    eqb st.week 0 or
    (leb weekly_at_least (st.before.weekly + st.current.weekly) and leb regular_at_least (st.before.regular + st.current.regular))

abbrev pub next_week : Bool → State → State
next_week rest_week st =
    record { ended = st.ended; short = st.short; week = st.week + 1; before = st.current; current = fresh_counts rest_week }

-- n weeks on, by which weeks are of rest minutes only
unfoldable pub advance : (ℕ → Bool) → ℕ → State → Option State
advance rest_week zero st = Some st
advance rest_week (suc n) st = pick (pair_kept st) (advance rest_week n (next_week (rest_week (st.week + 1)) st)) None

abbrev pub After : Option State → (State → Type 0) → Type 0
After None P = ⊥
After (Some st) P = P st

-- after a daily rest, and after a weekly rest that ends at `end` and is counted in the week reached
abbrev pub after_daily : Bool → State → State
after_daily short st =
    record { ended = st.ended; short = st.short + one short; week = st.week; before = st.before; current = st.current }

abbrev pub after_weekly : Bool → Bool → ℕ → State → State
after_weekly rest_week regular end st =
    record { ended = end; short = 0; week = st.week; before = st.before; current = counted_more rest_week regular st.current }
