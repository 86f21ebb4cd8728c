-- A test that finds no broken rule says that each rule holds, and the converse. Assumes nothing.
use mathlib.Core.Path.{◌≡◌, refl, ap, ◌∙◌}
use mathlib.Core.Bool.{Bool, true, false, not}
use mathlib.Core.List.Memᴰ.{head as here}
use mathlib.Core.List.Memᴰ.{tail as there}
use mathlib.Core.List.{List, [], ◌∷◌, Memᴰ as In}
use Prim.Native.Nat.{ℕ, zero, suc, ◌+◌}
use native.Mathlib.Omega.{arith}
use lib.Dec.{leb}
use lib.ListN.{length}
use borrow.Author.Tests.{eqb-true, eq-eqb, not-false}
use Rattle.recording.specs.Tests.{◌and◌, pick, one}
use Rattle.recording.specs.Rests.{closed_rests, judged_end, long_rests}
use Rattle.recording.specs.Days.{days, driving_in}
use Rattle.recording.specs.Weeks.{weeks_of, rest_only}
use Rattle.rules.specs.Broken.{unless, if_none}
use Rattle.rules.specs.declared.Breaches.{Breaches}
use Rattle.rules.specs.Fixed.{rule1, rule2, rule3, rule4, rule5, breaches_by, breaches, fixed_test}
use Rattle.rules.proofs.ArticleOrder.{rule_none, none_rule}
use Rattle.recording.specs.declared.Span.{Span}
use Rattle.rules.specs.Reading.{Entry, as_read, is_weekly, entries}
use Rattle.rules.specs.ReadingRules.{rule6, rule7, rule8, shortened, shortened_at_most, rule9_from, rule9, rule10, rule11, later_test, fields_test}
use Rattle.rules.specs.Verdict.{lawful_fields}

holds : (b : Bool) (n later : ℕ) → unless b (suc n) later ≡ 0 → (b ≡ true) × (later ≡ 0)
holds true n later e = (refl, e)
holds false n later e = absurd (omega arith)

none_broken : (n later : ℕ) → if_none n later ≡ 0 → (n ≡ 0) × (later ≡ 0)
none_broken zero later e = (refl, e)
none_broken (suc n) later e = absurd (omega arith)

pub record FixedRules (ms : List ℕ) : Type 0 where
  pub two : rule2 (driving_in ms) (weeks_of ms) (days ms) ≡ true
  pub three : rule3 (driving_in ms) (weeks_of ms) ≡ true
  pub four : rule4 (driving_in ms) (weeks_of ms) ≡ true
  pub one : rule1 ms ≡ true
  pub five : rule5 (days ms) ≡ true

pub fixed_rules : (ms : List ℕ) → fixed_test ms ≡ 0 → FixedRules ms
unfolding fixed_test breaches breaches_by
fixed_rules ms t =
    let e = rule_none (breaches ms) t in
    record {
      two = not-false _ (ap (λ (b : Breaches). b.daily) e);
      three = not-false _ (ap (λ (b : Breaches). b.weekly) e);
      four = not-false _ (ap (λ (b : Breaches). b.fortnightly) e);
      one = not-false _ (ap (λ (b : Breaches). b.breaks) e);
      five = not-false _ (ap (λ (b : Breaches). b.rests) e);
    }

pub rules_fixed : (ms : List ℕ) → FixedRules ms → fixed_test ms ≡ 0
unfolding fixed_test breaches breaches_by
rules_fixed ms a =
    none_rule (breaches ms) (λ i. record {
      daily = not (a.two i);
      weekly = not (a.three i);
      fortnightly = not (a.four i);
      breaks = not (a.one i);
      rests = not (a.five i);
    })

-- where S is s and the long rests are rs
pub record LaterRules (rest_week : ℕ → Bool) (counts : Entry → Bool) (s : ℕ) (rs : List Span) (es : List Entry) : Type 0 where
  pub six : rule6 (length rs) es ≡ true
  pub seven : rule7 es ≡ true
  pub eight : rule8 s rs es ≡ true
  pub nine : rule9 counts es ≡ true
  pub ten : rule10 s es ≡ true
  pub eleven : rule11 rest_week s es ≡ true

pub later_rules : (rest_week : ℕ → Bool) (counts : Entry → Bool) (s : ℕ) (rs : List Span) (es : List Entry) → later_test rest_week counts s rs es ≡ 0 → LaterRules rest_week counts s rs es
unfolding later_test
later_rules rest_week counts s rs es t =
    let r6 = holds _ 5 _ t in
    let r7 = holds _ 6 _ r6.1 in
    let r8 = holds _ 7 _ r7.1 in
    let r9 = holds _ 8 _ r8.1 in
    let r10 = holds _ 9 _ r9.1 in
    let r11 = holds _ 10 _ r10.1 in
    record { six = r6.0; seven = r7.0; eight = r8.0; nine = r9.0; ten = r10.0; eleven = r11.0 }

pub rules_later : (rest_week : ℕ → Bool) (counts : Entry → Bool) (s : ℕ) (rs : List Span) (es : List Entry) → LaterRules rest_week counts s rs es → later_test rest_week counts s rs es ≡ 0
unfolding later_test
rules_later rest_week counts s rs es a = simp (a.six, a.seven, a.eight, a.nine, a.ten, a.eleven)

-- by which daily rests count: those that are read as weekly are not asked
pub rule9_same : (f g : Entry → Bool) (n : ℕ) (es : List Entry) → ((e : Entry) → In e es → is_weekly (as_read e) ≡ false → f e ≡ g e) → rule9_from f n es ≡ rule9_from g n es
unfolding rule9_from
rule9_same f g n [] same = refl
rule9_same f g n (e ∷ es) same = at (λ m. rule9_same f g m es (λ x i. same x (there i))) (is_weekly (as_read e)) refl
  where
    at : ((m : ℕ) → rule9_from f m es ≡ rule9_from g m es) → (weekly : Bool) → is_weekly (as_read e) ≡ weekly
        → leb (pick weekly 0 (n + one (f e))) shortened_at_most and rule9_from f (pick weekly 0 (n + one (f e))) es
        ≡ leb (pick weekly 0 (n + one (g e))) shortened_at_most and rule9_from g (pick weekly 0 (n + one (g e))) es
    at on true w = ap (λ (b : Bool). leb 0 shortened_at_most and b) (on 0)
    at on false w =
        ap (λ (b : Bool). leb (n + one b) shortened_at_most and rule9_from f (n + one b) es) (same e (here refl) w)
        ∙ ap (λ (b : Bool). leb (n + one (g e)) shortened_at_most and b) (on (n + one (g e)))

pub later_counts : (rest_week : ℕ → Bool) (f g : Entry → Bool) (s : ℕ) (rs : List Span) (es : List Entry)
    → ((e : Entry) → In e es → is_weekly (as_read e) ≡ false → f e ≡ g e) → later_test rest_week f s rs es ≡ later_test rest_week g s rs es
unfolding later_test rule9
later_counts rest_week f g s rs es same = rw (rule9_same f g 0 es same)

pub record AllRules (ms fields : List ℕ) : Type 0 where
  pub fixed : fixed_test ms ≡ 0
  pub six : rule6 (length (long_rests ms)) (entries (long_rests ms) fields) ≡ true
  pub seven : rule7 (entries (long_rests ms) fields) ≡ true
  pub eight : rule8 (judged_end ms) (long_rests ms) (entries (long_rests ms) fields) ≡ true
  pub nine : rule9 (shortened (closed_rests ms)) (entries (long_rests ms) fields) ≡ true
  pub ten : rule10 (judged_end ms) (entries (long_rests ms) fields) ≡ true
  pub eleven : rule11 (rest_only ms) (judged_end ms) (entries (long_rests ms) fields) ≡ true

pub all_rules : (ms fields : List ℕ) → fields_test ms fields ≡ 0 → AllRules ms fields
unfolding fields_test
all_rules ms fields t =
    let f = none_broken _ _ t in
    let l = later_rules (rest_only ms) (shortened (closed_rests ms)) (judged_end ms) (long_rests ms) (entries (long_rests ms) fields) f.1 in
    record { fixed = f.0; six = l.six; seven = l.seven; eight = l.eight; nine = l.nine; ten = l.ten; eleven = l.eleven }

pub rules_all : (ms fields : List ℕ) → AllRules ms fields → fields_test ms fields ≡ 0
unfolding fields_test later_test
rules_all ms fields a = simp (a.fixed, a.six, a.seven, a.eight, a.nine, a.ten, a.eleven)

-- "A reading is lawful when all eleven hold."
pub lawful_rules : (ms fields : List ℕ) → lawful_fields ms fields ≡ true → AllRules ms fields
unfolding lawful_fields
lawful_rules ms fields t = all_rules ms fields (eqb-true (fields_test ms fields) 0 t)

pub rules_lawful : (ms fields : List ℕ) → AllRules ms fields → lawful_fields ms fields ≡ true
unfolding lawful_fields
rules_lawful ms fields a = eq-eqb (fields_test ms fields) 0 (rules_all ms fields a)
