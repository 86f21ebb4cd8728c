-- The stretch theorem: a lawful reading of the whole, restricted to the long rests of a shorter stretch, is lawful there.
-- Assumes nothing.
use mathlib.Core.Path.{◌≡◌, refl, ap, ◌∙◌}
use mathlib.Core.Bool.{Bool, true, false}
use mathlib.Core.List.{List, [], ◌∷◌, ◌++◌, map, Memᴰ as In}
use Prim.Native.Nat.{ℕ, zero, suc, ◌*◌, ◌≤◌, ◌<◌}
use native.Mathlib.Nat.{le_trans}
use native.Mathlib.Omega.{arith}
use lib.Dec.{leb}
use lib.ListN.{length, take, drop, take-append-drop}
use Rattle.recording.specs.Tests.{pick, all_of}
use Rattle.recording.specs.Rests.{judged_end, long_rests}
use Rattle.recording.proofs.Walks.{judged_within, judged_mono}
use Rattle.recording.proofs.LongRests.{rests_ordered, rests_past, rests_split, past_ordered}
use Rattle.rules.specs.Reading.{Entry, entries, entry_fields, fields_in, restrict_from, restricted, restricted_reading}
use Rattle.rules.specs.ReadingRules.{formed, rule6, rule7, rule8, rule9, rule10, reading_test}
use Rattle.rules.specs.Order.{carrier_values, Fields}
use Rattle.rules.specs.Verdict.{lawful, lawful_fields, prefix}
use Rattle.rules.proofs.RuleLaws.{AllRules, lawful_rules, rules_lawful}
use Rattle.rules.proofs.FieldLaws.{fields_back}
use Rattle.rules.proofs.FixedPrefix.{fixed_prefix}
use Rattle.rules.proofs.EntryPlaces.{entry_at}
use Rattle.rules.proofs.ReadingPrefix.{cut, entries_cut, Parts, parts, all_cut, formed-cut, long_cut, compensated-cut, counts_cut, prefix9, prefix10, rest_only_prefix, prefix11}

module _ (xs ys fields : List ℕ) (a : AllRules (xs ++ ys) fields) where
  -- the entries of the stretch, and those past it
  split : Parts (judged_end xs) 1 0 [] (long_rests xs) (rests_past xs ys) fields
  split = parts (judged_end xs) 1 0 [] (long_rests xs) fields (past_ordered xs ys)

  whole : entries (long_rests (xs ++ ys)) fields ≡ entries (long_rests xs) fields ++ split.later
  unfolding entries
  whole = rw (rests_split xs ys) split.joined

  shorter : entries (long_rests xs) (restricted (length (long_rests xs)) fields) ≡ map (cut (length (long_rests xs))) (entries (long_rests xs) fields)
  unfolding entries restricted
  shorter = entries_cut (length (long_rests xs)) 1 0 [] (long_rests xs) fields (omega arith) (omega arith)

  started : (e : Entry) → In e (entries (long_rests xs) fields) → e.span.start ≤ judged_end xs
  unfolding entries
  started e i = let a = (entry_at 1 0 [] fields (rests_ordered xs) e i).1 in omega (arith, a.ordered, a.over)

  six_whole : all_of (formed (length (long_rests xs ++ rests_past xs ys))) (entries (long_rests xs) fields ++ split.later) ≡ true
  unfolding rule6
  six_whole = rw (whole, rests_split xs ys) at a.six

  prefix_rules : AllRules xs (restricted (length (long_rests xs)) fields)
  unfolding rule6 rule7 rule8 rule9 rule10
  prefix_rules =
      let k = length (long_rests xs) in
      let es = entries (long_rests xs) fields in
      let fs = split.later in
      let less = judged_mono xs ys in
      let seven-whole = rw whole at a.seven in
      let eight-whole = rw (whole, rests_split xs ys) at a.eight in
      record {
        fixed = fixed_prefix xs ys a.fixed;
        six = rw shorter (all_cut k _ _ _ (λ e u v. formed-cut k _ e u) es fs six_whole six_whole);
        seven = rw shorter (all_cut k _ _ _ (λ e u v. long_cut k e u) es fs seven-whole seven-whole);
        eight = rw shorter (all_cut k _ _ _ (compensated-cut _ _ (long_rests xs) (rests_past xs ys) less (past_ordered xs ys)) es fs six_whole eight-whole);
        nine = rw shorter (prefix9 _ _ k 0 es fs (λ e i. counts_cut k xs ys e (started e i)) (rw whole at a.nine));
        ten = rw shorter (prefix10 k 0 _ _ es less split.starting (rw whole at a.ten));
        eleven = rw shorter (prefix11 _ k _ _ _ _ (λ w h. rest_only_prefix xs ys w (le_trans h (judged_within xs))) es less split.starting six_whole (rw whole at a.eleven));
      }

-- THE STRETCH THEOREM
pub lawful_prefix : (m : ℕ) (ms fields : List ℕ) → lawful_fields ms fields ≡ true → lawful_fields (prefix m ms) (restricted (length (long_rests (prefix m ms))) fields) ≡ true
lawful_prefix m ms fields t =
    let u : lawful_fields (take m ms ++ drop m ms) fields ≡ true = rw (take-append-drop m ms) t in
    rules_lawful _ _ (prefix_rules (take m ms) (drop m ms) fields (lawful_rules _ fields u))

restrict_length : (k n : ℕ) (fields : List ℕ) → length (restrict_from k n fields) ≡ entry_fields * n
unfolding restrict_from
restrict_length k zero fields = refl
restrict_length k (suc n) fields = let later = restrict_length k n (drop entry_fields fields) in omega arith

-- the same of the reading itself
pub reading-prefix : (m : ℕ) (ms reading : List ℕ) → lawful ms reading ≡ true → lawful (prefix m ms) (restricted_reading (length (long_rests (prefix m ms))) reading) ≡ true
unfolding lawful reading_test lawful_fields restricted
reading-prefix m ms reading t =
    let k = length (long_rests (prefix m ms)) in
    ap (λ (fields : List ℕ). lawful_fields (prefix m ms) fields) (fields_back k (restricted k (fields_in reading)) (restrict_length k k (fields_in reading)))
    ∙ lawful_prefix m ms (fields_in reading) t

-- ---- restricted fields are within their bounds
up_to_bound : (b : Bool) (c : ℕ) → c < carrier_values → pick b c 0 < carrier_values
up_to_bound true c h = h
up_to_bound false c h = omega arith

restrict_bounded : (k m n : ℕ) (fields : List ℕ) → Fields n fields → Fields m (restrict_from k m fields)
unfolding restrict_from
restrict_bounded k zero n fields h = tt
restrict_bounded k (suc m) zero [] h = (omega arith, (omega arith, (up_to_bound (leb 0 k) 0 (omega arith), restrict_bounded k m zero [] h)))
restrict_bounded k (suc m) zero (a ∷ fields) h = absurd h
restrict_bounded k (suc m) (suc n) [] h = absurd h
restrict_bounded k (suc m) (suc n) (a ∷ []) h = absurd h.1
restrict_bounded k (suc m) (suc n) (a ∷ b ∷ []) h = absurd h.1.1
restrict_bounded k (suc m) (suc n) (a ∷ b ∷ c ∷ fields) h =
    (h.0, (h.1.0, (up_to_bound (leb c k) c h.1.1.0, restrict_bounded k m n fields h.1.1.1)))

pub restricted_bounded : (k n : ℕ) (fields : List ℕ) → Fields n fields → Fields k (restricted k fields)
unfolding restricted
restricted_bounded k n fields h = restrict_bounded k k n fields h
