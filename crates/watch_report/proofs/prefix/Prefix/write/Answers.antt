use Rattle.std.proofs.Common.{◌≡◌, ◌∙◌, ◌∷◌, ◌++◌, [], ℕ, List, Result, Ok, Err, OnOk, ap, append_assoc, refl}
use Rattle.std.specs.Prelude.{Vec}
use Rattle.std.specs.declared.alloc.Global.{Global}
use Rattle.std.proofs.lemmas.Result.{on_ok_weaker}
use Rattle.watch_causes.specs.declared.stories.Part.{Part}
use Rattle.watch_report.specs.declared.story.StoryRow.{StoryRow}
use Rattle.watch_report.specs.StoryTexts.{head_text, parts_text}
use Rattle.watch_report.specs.ToldStories.{rows_text}
use Rattle.watch_report.specs.TraceText.{Noted, note_at}
use Rattle.watch_report.specs.VerdictLines.{noted_by, printed_of}
use Rattle.watch_report.specs.Warnings.{warning_line}
use Rattle.watch_report.proofs.StoryLemmas.{whole_is}
use Rattle.watch_report.proofs.prefix.Prefix.write.Goals as goal

-- what holds anyway
sure : {E P : Type 0} (r : Result (Unit {0}) E) → P → OnOk r P
sure (Ok _) p = p
sure (Err e) p = tt

pub returns-clause-text : goal.returns-clause-text
returns-clause-text c = λ records are.
    let newest : Noted = noted_by c.args.newest.now in
    let file : List ℕ = c.args.file.now in
    let found = c.args.found.now in
    let old : List ℕ = c.args.told.now.text.items in
    let head : List ℕ = head_text file c.args.header found.trigger newest records found.first in
    let parts : List ℕ = parts_text file c.args.header.scheme (newest ∷ records) found.first found.parts.items in
    let past = c.in_ok-add.ensures records newest are refl refl in
    let begun : c.add_verdict.new.self.text.items ≡ old ++ head =
    ap (λ (v : Vec ℕ Global). v.items) c.in_ok-add_verdict.ensures.text ∙ c.in_ok-push_head.ensures.ok records are in
    let told : c.push_parts.new.text.items ≡ (old ++ head) ++ parts =
    c.in_ok-push_parts.ensures.ok (newest ∷ records) past
    ∙ ap (λ (t : List ℕ). t ++ parts_text file c.args.header.scheme (newest ∷ records) found.first c.as_slice-parts.result.now) begun
    ∙ ap (λ (ps : List Part). (old ++ head) ++ parts_text file c.args.header.scheme (newest ∷ records) found.first ps) c.as_slice-parts.ensures.value in
    sure c.add_rows.result (ap (λ (v : Vec ℕ Global). v.items) c.add_rows.ensures.text ∙ told ∙ append_assoc old head parts)

pub returns-clause-whole : goal.returns-clause-whole
returns-clause-whole c = λ records are blank.
    let newest : Noted = noted_by c.args.newest.now in
    let file : List ℕ = c.args.file.now in
    let found = c.args.found.now in
    let head : List ℕ = head_text file c.args.header found.trigger newest records found.first in
    let parts : List ℕ = parts_text file c.args.header.scheme (newest ∷ records) found.first found.parts.items in
    let past = c.in_ok-add.ensures records newest are refl refl in
    let old : List ℕ = c.args.told.now.text.items in
    let begun : c.add_verdict.new.self.text.items ≡ old ++ head =
    ap (λ (v : Vec ℕ Global). v.items) c.in_ok-add_verdict.ensures.text ∙ c.in_ok-push_head.ensures.ok records are in
    let told : c.push_parts.new.text.items ≡ (old ++ head) ++ parts =
    c.in_ok-push_parts.ensures.ok (newest ∷ records) past
    ∙ ap (λ (t : List ℕ). t ++ parts_text file c.args.header.scheme (newest ∷ records) found.first c.as_slice-parts.result.now) begun
    ∙ ap (λ (ps : List Part). (old ++ head) ++ parts_text file c.args.header.scheme (newest ∷ records) found.first ps) c.as_slice-parts.ensures.value in
    let text = ap (λ (v : Vec ℕ Global). v.items) c.add_rows.ensures.text ∙ told ∙ append_assoc old head parts in
    let line : List ℕ = warning_line [] (printed_of found.trigger newest records found.first) (note_at records found.first.stale_since) newest.by in
    let said = ap (λ (v : Vec ℕ Global). v.items) c.add_rows.ensures.verdict ∙ c.in_ok-add_verdict.ensures.verdict records are blank.wanted ∙ ap (λ (v : List ℕ). v ++ line) blank.verdict in
    let none : c.add_verdict.new.self.rows.items ≡ [] = ap (λ (v : Vec StoryRow Global). v.items) c.in_ok-add_verdict.ensures.rows ∙ blank.rows in
    on_ok_weaker c.add_rows.result
    (λ r. (
      c.args.header,
      whole_is file c.args.header found.trigger newest records found.first old _ _ parts _ blank.text text said
          (r
          ∙ ap (λ (rows : List StoryRow). rows_text file rows ++ parts_text file c.args.header.scheme (newest ∷ records) found.first c.as_slice-parts.result.now) none
          ∙ ap (λ (ps : List Part). parts_text file c.args.header.scheme (newest ∷ records) found.first ps) c.as_slice-parts.ensures.value),
    ))
    (c.add_rows.ensures.rows file (newest ∷ records) past (c.in_ok-add_verdict.ensures.wanted ∙ blank.wanted))
