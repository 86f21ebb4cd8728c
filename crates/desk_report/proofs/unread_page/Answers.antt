-- `desk_report::unread_page` meets its contract. Assumes nothing.
use native.Mathlib.Omega.{arith}
use mathlib.Core.Path.{sym, ap, ◌∙◌}
use Rattle.std.specs.Prelude.{Ok}
use Rattle.verdict_judging.specs.Judgements.{finding_by}
use Rattle.desk_report.specs.Composing.{reading_room}
use Rattle.desk_report.proofs.Answered.{breached_text, refused_text}
use Rattle.desk_report.proofs.unread_page.Goals as goal

pub breach_page-requires : goal.breach_page-requires
breach_page-requires c =
    let told = sym (ap (λ v. finding_by (Ok v)) c.in-Ok-Breach.field-0-is) ∙ c.in-Ok-Breach.ensures in
    (c.requires.0, (breached_text c.args.words.now told).within)

pub returns-in-Ok-Breach : goal.returns-in-Ok-Breach
returns-in-Ok-Breach c =
    let told = sym (ap (λ v. finding_by (Ok v)) c.in-Ok-Breach.field-0-is) ∙ c.in-Ok-Breach.ensures in
    rw (breached_text c.args.words.now told).text c.breach_page.ensures

pub returns-in-Ok-Pass : goal.returns-in-Ok-Pass
returns-in-Ok-Pass c =
    let told = sym (ap (λ v. finding_by (Ok v)) c.in-Ok-Pass.field-0-is) ∙ c.in-Ok-Pass.ensures in
    rw (refused_text c.args.words.now reading_room (omega arith) c.requires.1 told tt) c.refusal_page.ensures

pub returns-in-Err : goal.returns-in-Err
returns-in-Err c = rw (refused_text c.args.words.now reading_room (omega arith) c.requires.1 c.in-Err.ensures tt) c.refusal_page-in-Err.ensures
