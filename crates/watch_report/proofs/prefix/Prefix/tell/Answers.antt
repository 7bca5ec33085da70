use Rattle.std.proofs.Common.{◌≡◌, ◌∙◌, ◌++◌, ℕ, List, ap, refl, subst, sym}
use Rattle.watch_report.specs.declared.prefix.Found.{Found}
use Rattle.watch_report.specs.Explaining.{asked_of}
use Rattle.watch_report.specs.Past.{ArePast}
use Rattle.watch_report.specs.Prefix.{FindsAt}
use Rattle.watch_report.specs.StoryTexts.{story_text}
use Rattle.watch_report.specs.TraceText.{Noted}
use Rattle.watch_report.specs.VerdictLines.{noted_by}
use Rattle.watch_report.proofs.PrefixLemmas.{story_is_told}
use Rattle.watch_report.proofs.prefix.Prefix.tell.Goals as goal

pub returns-in_default-clause-ok : goal.returns-in_default-clause-ok
returns-in_default-clause-ok c = λ records are.
    let newest : Noted = noted_by c.args.newest.now in
    subst (FindsAt c.args.filter c.args.header.scheme newest records) c.in_default.is (c.in_ok-found.ensures.ok newest records refl are)

pub returns-clause-ok : goal.returns-clause-ok
returns-clause-ok c = λ records are.
    let newest : Noted = noted_by c.args.newest.now in
    let found : Found = c.in-Some.found in
    let finds = subst (FindsAt c.args.filter c.args.header.scheme newest records) c.in-Some.is (c.in_ok-found.ensures.ok newest records refl are) in
    let past = subst (ArePast records) (sym c.in_ok-found.ensures.past) are.past in
    let text : List ℕ = story_text c.args.file.now c.args.header found.trigger newest records found.first found.parts.items in
    let told : c.write.new.told.text.items ≡ text = c.in_ok-write.ensures.text records past ∙ ap (λ (t : List ℕ). t ++ text) c.requires.empty in
    story_is_told (asked_of c.args.file.now c.args.newest.now.line c.args.filter) c.args.header newest records found.trigger found.first found.parts.items _ finds.acts finds.first finds.story told

pub returns-clause-whole : goal.returns-clause-whole
returns-clause-whole c = λ records are blank some.
    c.in_ok-write.ensures.whole records (subst (ArePast records) (sym c.in_ok-found.ensures.past) are.past) blank
