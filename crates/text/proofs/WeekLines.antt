-- The lines of a list of weeks: reading accepts them just where the list is allowed. Assumes nothing.
use mathlib.Core.Path.{◌≡◌, refl, ap, ◌∙◌}
use mathlib.Core.Bool.{Bool, true, false}
use mathlib.Core.List.{List, [], ◌∷◌, ◌++◌}
use Prim.Native.Nat.{ℕ, ◌+◌, ◌-◌, ◌*◌, ◌≤◌, ◌<◌}
use native.Mathlib.Omega.{arith}
use lib.Dec.{eqb, leb, ltb}
use lib.ListN.{length, length-append}
use borrow.Author.Tests.{ne_eqb, le-leb, lt-ltb, eqb-true, eqb-false, leb-true, ltb-true}
use Rattle.recording.specs.Tests.{pick}
use Rattle.recording.specs.Words.{minutes_in}
use Rattle.recording.specs.Weeks.{week_minutes}
use Rattle.text_lines.specs.Form.{runs_then, weeks_then_end, lines_of, weeks_at_most, sum_of, Run, Runs, Week, Weeks, Allowed}
use Rattle.text_lines.specs.Form as form
use Rattle.text_lines.specs.Reading.{stage_after, stage_from, words_of}
use Rattle.text_lines.specs.declared.Line.{Line}
use Rattle.text_lines.specs.declared.Line.TheVariants as line
use Rattle.text_lines.specs.declared.Stage.{Stage}
use Rattle.text_lines.specs.declared.Stage.TheVariants as stage
use Rattle.text.proofs.LineText.{Known, Good, Each, none, next}

-- a run has a minute, so runs are no more than their minutes
pub runs_few : {ws : List ℕ} → Runs ws → length ws ≤ sum_of ws
unfolding sum_of
runs_few form.none = omega arith
runs_few (form.next r rs) = omega (arith, runs_few rs, r.some)

-- ---- the lines of an allowed list are accepted
runs_accepted : (ws : List ℕ) (left more : ℕ) (later : List Line) → sum_of ws ≤ left → left - sum_of ws < week_minutes
    → stage_from (stage.Within left more) (runs_then ws later) ≡ stage_from (stage.Between (left - sum_of ws) more) later
unfolding stage_from stage_after runs_then sum_of
runs_accepted [] left more later h l =
    let z : left ≡ left - 0 = omega arith in
    let e : stage_after (stage.Within left more) line.Closing ≡ stage.Between left more = rw (lt-ltb left week_minutes (omega arith)) in
    ap (λ (s : Stage). stage_from s later) e ∙ ap (λ (n : ℕ). stage_from (stage.Between n more) later) z
runs_accepted (w ∷ ws) left more later h l =
    let z : left - minutes_in w - sum_of ws ≡ left - (minutes_in w + sum_of ws) = omega arith in
    let e : stage_after (stage.Within left more) (line.Run w) ≡ stage.Within (left - minutes_in w) more = rw (le-leb (minutes_in w) left (omega arith)) in
    ap (λ (s : Stage). stage_from s (runs_then ws later)) e
    ∙ runs_accepted ws (left - minutes_in w) more later (omega arith) (omega arith)
    ∙ ap (λ (n : ℕ). stage_from (stage.Between n more) later) z

week_accepted : (ws : List ℕ) (more : ℕ) (later : List Line) → Week ws → 1 ≤ more
    → stage_from (stage.Between 0 more) (line.Week ∷ runs_then ws later) ≡ stage_from (stage.Between (week_minutes - sum_of ws) (more - 1)) later
unfolding stage_from stage_after
week_accepted ws more later k h =
    let e : stage_after (stage.Between 0 more) line.Week ≡ stage.Within week_minutes (more - 1) = rw (ne_eqb more 0 (λ z. omega arith)) in
    ap (λ (s : Stage). stage_from s (runs_then ws later)) e
    ∙ runs_accepted ws week_minutes (more - 1) later k.within (omega (arith, runs_few k.runs, k.some))

weeks_accepted : {weeks : List (List ℕ)} (more : ℕ) → Weeks weeks → length weeks ≤ more → stage_from (stage.Between 0 more) (weeks_then_end weeks) ≡ stage.Over
unfolding weeks_then_end stage_from stage_after
weeks_accepted more form.none h = refl
weeks_accepted more (form.last {ws} k) h = week_accepted ws more (line.Closing ∷ []) k h
weeks_accepted more (form.next {ws} {vs} {weeks} k e r) h =
    let z : week_minutes - sum_of ws ≡ 0 = omega arith in
    week_accepted ws more (weeks_then_end (vs ∷ weeks)) k (omega arith)
    ∙ ap (λ (n : ℕ). stage_from (stage.Between n (more - 1)) (weeks_then_end (vs ∷ weeks))) z
    ∙ weeks_accepted (more - 1) r (omega arith)

pub lines_accepted : {weeks : List (List ℕ)} → Allowed weeks → stage_from stage.Before (lines_of weeks) ≡ stage.Over
unfolding stage_from stage_after
lines_accepted a = weeks_accepted weeks_at_most a.each a.few

-- ---- lines that are accepted are those of an allowed list
pub record Begun (ls : List Line) : Type 0 where
  pub weeks : List (List ℕ)
  pub lines : ls ≡ lines_of weeks
  pub allowed : Allowed weeks

record BetweenWeeks (left more : ℕ) (ls : List Line) : Type 0 where
  weeks : List (List ℕ)
  lines : ls ≡ weeks_then_end weeks
  few : length weeks ≤ more
  each : Weeks weeks
  full : 1 ≤ length weeks → left ≡ 0

record WithinWeek (left more : ℕ) (ls : List Line) : Type 0 where
  runs : List ℕ
  later : List Line
  lines : ls ≡ runs_then runs later
  each : Runs runs
  within : sum_of runs ≤ left
  short : left - sum_of runs < week_minutes
  rest : BetweenWeeks (left - sum_of runs) more later

ReadFrom : Stage → List Line → Type 0
ReadFrom stage.Before ls = Begun ls
ReadFrom (stage.Between left more) ls = BetweenWeeks left more ls
ReadFrom (stage.Within left more) ls = WithinWeek left more ls
ReadFrom stage.Over ls = ls ≡ []
ReadFrom stage.Wrong ls = ⊥

pub one_week : {ws : List ℕ} (weeks : List (List ℕ)) → Week ws → Weeks weeks → (1 ≤ length weeks → week_minutes - sum_of ws ≡ 0) → Weeks (ws ∷ weeks)
one_week [] k r f = form.last k
one_week (vs ∷ weeks) k r f = form.next k (omega (arith, f (omega arith), k.within)) r

some_runs : (ws : List ℕ) → week_minutes - sum_of ws < week_minutes → 1 ≤ length ws
unfolding sum_of
some_runs [] h = absurd (omega arith)
some_runs (w ∷ ws) h = omega arith

week_step : (left more : ℕ) (ls : List Line) (a b : Bool) → eqb left 0 ≡ a → eqb more 0 ≡ b
    → ReadFrom (pick a (pick b stage.Wrong (stage.Within week_minutes (more - 1))) stage.Wrong) ls → BetweenWeeks left more (line.Week ∷ ls)
unfolding ReadFrom weeks_then_end
week_step left more ls false b p q r = absurd r
week_step left more ls true true p q r = absurd r
week_step left more ls true false p q r =
    let z : more ≡ 0 → ⊥ = eqb-false more 0 q in
    record {
      weeks = r.runs ∷ r.rest.weeks;
      lines = ap (λ (l : List Line). line.Week ∷ l) (r.lines ∙ ap (runs_then r.runs) r.rest.lines);
      few = omega (arith, r.rest.few);
      each = one_week r.rest.weeks (record { some = some_runs r.runs r.short; runs = r.each; within = r.within }) r.rest.each r.rest.full;
      full = λ _. eqb-true left 0 p;
    }

run_step : (w left more : ℕ) (ls : List Line) (b : Bool) → leb (minutes_in w) left ≡ b → Run w
    → ReadFrom (pick b (stage.Within (left - minutes_in w) more) stage.Wrong) ls → WithinWeek left more (line.Run w ∷ ls)
unfolding ReadFrom runs_then sum_of
run_step w left more ls false p g r = absurd r
run_step w left more ls true p g r =
    let h : minutes_in w ≤ left = leb-true (minutes_in w) left p in
    let z : left - minutes_in w - sum_of r.runs ≡ left - (minutes_in w + sum_of r.runs) = omega arith in
    record {
      runs = w ∷ r.runs;
      later = r.later;
      lines = ap (λ (l : List Line). line.Run w ∷ l) r.lines;
      each = form.next g r.each;
      within = omega (arith, r.within);
      short = omega (arith, r.short);
      rest = rw z at r.rest;
    }

closing_step : (left more : ℕ) (ls : List Line) (b : Bool) → ltb left week_minutes ≡ b
    → ReadFrom (pick b (stage.Between left more) stage.Wrong) ls → WithinWeek left more (line.Closing ∷ ls)
unfolding ReadFrom runs_then sum_of
closing_step left more ls false p r = absurd r
closing_step left more ls true p r =
    let z : left - 0 ≡ left = omega arith in
    record {
      runs = [];
      later = ls;
      lines = refl;
      each = form.none;
      within = omega arith;
      short = omega (arith, ltb-true left week_minutes p);
      rest = rw z r;
    }

line_step : (s : Stage) (l : Line) (ls : List Line) → Good l → ReadFrom (stage_after s l) ls → ReadFrom s (l ∷ ls)
unfolding ReadFrom stage_after weeks_then_end
line_step stage.Before line.Recording ls g r =
    record { weeks = r.weeks; lines = ap (λ (l : List Line). line.Recording ∷ l) r.lines; allowed = record { few = r.few; each = r.each } }
line_step stage.Before line.Week ls g r = absurd r
line_step stage.Before line.Closing ls g r = absurd r
line_step stage.Before (line.Run w) ls g r = absurd r
line_step stage.Before line.Other ls g r = absurd r
line_step (stage.Between left more) line.Recording ls g r = absurd r
line_step (stage.Between left more) line.Week ls g r = week_step left more ls (eqb left 0) (eqb more 0) refl refl r
line_step (stage.Between left more) line.Closing ls g r =
    record { weeks = []; lines = ap (λ (l : List Line). line.Closing ∷ l) r; few = omega arith; each = form.none; full = λ h. absurd (omega arith) }
line_step (stage.Between left more) (line.Run w) ls g r = absurd r
line_step (stage.Between left more) line.Other ls g r = absurd r
line_step (stage.Within left more) line.Recording ls g r = absurd r
line_step (stage.Within left more) line.Week ls g r = absurd r
line_step (stage.Within left more) line.Closing ls g r = closing_step left more ls (ltb left week_minutes) refl r
line_step (stage.Within left more) (line.Run w) ls g r = run_step w left more ls (leb (minutes_in w) left) refl g r
line_step (stage.Within left more) line.Other ls g r = absurd r
line_step stage.Over line.Recording ls g r = absurd r
line_step stage.Over line.Week ls g r = absurd r
line_step stage.Over line.Closing ls g r = absurd r
line_step stage.Over (line.Run w) ls g r = absurd r
line_step stage.Over line.Other ls g r = absurd r
line_step stage.Wrong line.Recording ls g r = absurd r
line_step stage.Wrong line.Week ls g r = absurd r
line_step stage.Wrong line.Closing ls g r = absurd r
line_step stage.Wrong (line.Run w) ls g r = absurd r
line_step stage.Wrong line.Other ls g r = absurd r

no_lines : (s : Stage) → s ≡ stage.Over → ReadFrom s []
unfolding ReadFrom
no_lines stage.Before e = let z : ◌≡◌ {A = ℕ} 0 1 = cc in absurd (omega arith)
no_lines (stage.Between left more) e = let z : ◌≡◌ {A = ℕ} 0 1 = cc in absurd (omega arith)
no_lines (stage.Within left more) e = let z : ◌≡◌ {A = ℕ} 0 1 = cc in absurd (omega arith)
no_lines stage.Over e = refl
no_lines stage.Wrong e = let z : ◌≡◌ {A = ℕ} 0 1 = cc in absurd (omega arith)

read_from : (s : Stage) (ls : List Line) → Each Good ls → stage_from s ls ≡ stage.Over → ReadFrom s ls
unfolding stage_from
read_from s [] none e = no_lines s e
read_from s (l ∷ ls) (next g gs) e = line_step s l ls g (read_from (stage_after s l) ls gs e)

pub accepted_lines : (ls : List Line) → Each Good ls → stage_from stage.Before ls ≡ stage.Over → Begun ls
unfolding ReadFrom
accepted_lines ls g e = read_from stage.Before ls g e

-- ---- such lines are known and good
runs_known : (ws : List ℕ) {later : List Line} → Each Known later → Each Known (runs_then ws later)
unfolding runs_then
runs_known [] k = next tt k
runs_known (w ∷ ws) k = next tt (runs_known ws k)

weeks_known : (weeks : List (List ℕ)) → Each Known (weeks_then_end weeks)
unfolding weeks_then_end
weeks_known [] = next tt none
weeks_known (ws ∷ weeks) = next tt (runs_known ws (weeks_known weeks))

pub lines_known : (weeks : List (List ℕ)) → Each Known (lines_of weeks)
lines_known weeks = next tt (weeks_known weeks)

runs_good : {ws : List ℕ} {later : List Line} → Runs ws → Each Good later → Each Good (runs_then ws later)
unfolding runs_then
runs_good form.none k = next tt k
runs_good (form.next r rs) k = next r (runs_good rs k)

weeks_good : {weeks : List (List ℕ)} → Weeks weeks → Each Good (weeks_then_end weeks)
unfolding weeks_then_end
weeks_good form.none = next tt none
weeks_good (form.last k) = next tt (runs_good k.runs (next tt none))
weeks_good (form.next k e r) = next tt (runs_good k.runs (weeks_good r))

pub lines_good_of : {weeks : List (List ℕ)} → Weeks weeks → Each Good (lines_of weeks)
lines_good_of r = next tt (weeks_good r)

-- ---- a list is known by its lines
record Parted (vs ws : List ℕ) (later after : List Line) : Type 0 where
  runs : vs ≡ ws
  rest : later ≡ after

runs_parted : (vs ws : List ℕ) (later after : List Line) → runs_then vs later ≡ runs_then ws after → Parted vs ws later after
unfolding runs_then
runs_parted [] [] later after e = record { runs = refl; rest = cc }
runs_parted [] (w ∷ ws) later after e = let z : ◌≡◌ {A = ℕ} 0 1 = cc in absurd (omega arith)
runs_parted (v ∷ vs) [] later after e = let z : ◌≡◌ {A = ℕ} 0 1 = cc in absurd (omega arith)
runs_parted (v ∷ vs) (w ∷ ws) later after e =
    let p = runs_parted vs ws later after (cc) in
    let q : v ≡ w = cc in
    let r : vs ≡ ws = p.runs in
    record { runs = cc; rest = p.rest }

weeks_parted : (us vs : List (List ℕ)) → weeks_then_end us ≡ weeks_then_end vs → us ≡ vs
unfolding weeks_then_end
weeks_parted [] [] e = refl
weeks_parted [] (v ∷ vs) e = let z : ◌≡◌ {A = ℕ} 0 1 = cc in absurd (omega arith)
weeks_parted (u ∷ us) [] e = let z : ◌≡◌ {A = ℕ} 0 1 = cc in absurd (omega arith)
weeks_parted (u ∷ us) (v ∷ vs) e =
    let p = runs_parted u v (weeks_then_end us) (weeks_then_end vs) (cc) in
    let q : u ≡ v = p.runs in
    let r : us ≡ vs = weeks_parted us vs p.rest in
    cc

pub lines_parted : (us vs : List (List ℕ)) → lines_of us ≡ lines_of vs → us ≡ vs
lines_parted us vs e = weeks_parted us vs (cc)

-- ---- the words of the lines
unfoldable pub all_runs : List (List ℕ) → List ℕ
all_runs [] = []
all_runs (ws ∷ weeks) = ws ++ all_runs weeks

runs_words : (ws : List ℕ) (later : List Line) → words_of (runs_then ws later) ≡ ws ++ words_of later
unfolding words_of runs_then
runs_words [] later = refl
runs_words (w ∷ ws) later = ap (λ (l : List ℕ). w ∷ l) (runs_words ws later)

weeks_words : (weeks : List (List ℕ)) → words_of (weeks_then_end weeks) ≡ all_runs weeks
unfolding words_of weeks_then_end all_runs
weeks_words [] = refl
weeks_words (ws ∷ weeks) = runs_words ws (weeks_then_end weeks) ∙ ap (λ (l : List ℕ). ws ++ l) (weeks_words weeks)

pub lines_words : (weeks : List (List ℕ)) → words_of (lines_of weeks) ≡ all_runs weeks
unfolding words_of
lines_words weeks = weeks_words weeks

weeks_few : {weeks : List (List ℕ)} → Weeks weeks → length (all_runs weeks) ≤ week_minutes * length weeks
unfolding all_runs
weeks_few form.none = omega arith
weeks_few (form.last {ws} k) = rw (length-append ws []) (omega (arith, runs_few k.runs, k.within))
weeks_few (form.next {ws} {vs} {weeks} k e r) = rw (length-append ws (all_runs (vs ∷ weeks))) (omega (arith, runs_few k.runs, k.within, weeks_few r))

-- a text has no more run lines than its weeks have minutes
pub allowed_few : {weeks : List (List ℕ)} → Allowed weeks → length (all_runs weeks) ≤ week_minutes * weeks_at_most
allowed_few a = omega (arith, weeks_few a.each, a.few)
