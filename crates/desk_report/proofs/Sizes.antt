-- How many bytes each line takes at most. Assumes nothing.
use mathlib.Core.List.{List}
use Prim.Native.Nat.{ℕ, ◌+◌, ◌≤◌}
use native.Mathlib.Omega.{arith}
use lib.Dec.{eqb}
use lib.ListN.{length, length-append}
use Rattle.rules.specs.Reading.{weekly_kind}
use Rattle.text.proofs.Puts.{pick_at_most, number_short}
use Rattle.desk_lines.specs.Lines.{daily_name, weekly_name, numbered, span_text, daily_text, weekly_text, rest_text, article_text, breach_text}
use Rattle.desk_report.specs.Composing.{line_at_most}

pub numbered_short : (name : List ℕ) (n : ℕ) → length (numbered name n) ≤ length name + 9
unfolding numbered
numbered_short name n = rw (length-append, length-append) (omega (arith, number_short n))

pub span_short : (name : List ℕ) (s e : ℕ) → length (span_text name s e) ≤ length name + 14
unfolding span_text
span_short name s e = rw (length-append, length-append) (omega (arith, number_short s, number_short e))

daily_short : (s e : ℕ) → length (daily_text s e) ≤ line_at_most
unfolding daily_text
daily_short s e = rw length-append (omega (arith, span_short daily_name s e))

weekly_short : (s e w c : ℕ) → length (weekly_text s e w c) ≤ line_at_most
unfolding weekly_text
weekly_short s e w c = rw (length-append, length-append, length-append) (omega (arith, span_short weekly_name s e, number_short w, number_short c))

pub rest_short : (s e k w c : ℕ) → length (rest_text s e k w c) ≤ line_at_most
unfolding rest_text
rest_short s e k w c = pick_at_most (eqb k weekly_kind) (weekly_text s e w c) (daily_text s e) line_at_most (weekly_short s e w c) (daily_short s e)

article_short : (a : ℕ) → length (article_text a) ≤ 3
unfolding article_text
article_short a =
    pick_at_most (eqb a 1) _ _ 3 (omega arith)
    (pick_at_most (eqb a 2) _ _ 3 (omega arith)
    (pick_at_most (eqb a 3) _ _ 3 (omega arith)
    (pick_at_most (eqb a 4) _ _ 3 (omega arith)
    (pick_at_most (eqb a 5) _ _ 3 (omega arith) (omega arith)))))

pub breach_short : (m a : ℕ) → length (breach_text m a) ≤ 20
unfolding breach_text
breach_short m a =
    rw (length-append, length-append, length-append, length-append)
    (omega (arith, number_short m, article_short a))
