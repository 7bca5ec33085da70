use Rattle.std.proofs.Common.{◌≡◌, ◌∙◌, [], List, ℕ, inl, inr, subst, sym}
use Rattle.std.specs.Option.{unwrap_or}
use Rattle.std.proofs.lemmas.Result.{err_from_is_err_and}
use Rattle.watch_causes.specs.KnownReaches.{reach_in}
use Rattle.watch_report.specs.Ending.{Ends}
use Rattle.watch_report.specs.KnownLists.{KnownIn, known_in}
use Rattle.watch_report.specs.Reports.{told_of}
use Rattle.watch_report.specs.TraceReaches.{AreReaches, resolved}
use Rattle.watch_report.specs.declared.reading_fault.ReadingFault.TheVariants as Reading
use Rattle.watch_report.proofs.ReadLemmas.{all_text}
use Rattle.watch_report.proofs.ResolvedLists.{is_resolved, unread}
use Rattle.watch_report.proofs.report.report_whole.Goals as goal

pub returns-in_err-text : goal.returns-in_err-text
returns-in_err-text g c =
    let p = err_from_is_err_and c.from_residual.result c.from_residual.ensures.1 in
    rw (p.1, p.2) (unwrap_or (g.R.Read.remaining c.args.input) [], all_text _, inl (unread c.in_err-text.field-0.0 (g.W.Write.contents c.args.out.now) c.in_err-text.ensures.err))

pub returns-in_err-reaches : goal.returns-in_err-reaches
returns-in_err-reaches g c =
    let p = err_from_is_err_and c.from_residual-in_err-reaches.result c.from_residual-in_err-reaches.ensures.1 in
    rw (p.1, p.2, c.in_err-reaches.ensures.err) (unwrap_or (g.R.Read.remaining c.args.input) [], all_text _, inl (unread Reading.NoMemory (g.W.Write.contents c.args.out.now) tt))

pub returns : goal.returns
returns g c =
    let old = g.W.Write.contents c.args.out.now in
    let new = g.W.Write.contents c.report_source.new.out in
    let text : List ℕ = c.in_ok-text.text.items in
    let reach = reach_in c.in_ok-reaches.reaches in
    let r = c.report_source.ensures in
    let told = told_of c.args.options (resolved reach (known_in c.args.known)) c.args.file.now in
    let are : AreReaches c.args.options.filter text reach = subst (λ (t : List ℕ). AreReaches c.args.options.filter t reach) c.as_slice.ensures.value c.in_ok-reaches.ensures.ok in
    let ends : Ends told r.0 c.report_source.result old new = subst (λ (known : KnownIn). Ends (told_of c.args.options known c.args.file.now) r.0 c.report_source.result old new) (is_resolved reach c.args.known) r.2 in
    let whole : Ends told text c.report_source.result old new = subst (λ (t : List ℕ). Ends told t c.report_source.result old new) (r.1 ∙ c.as_slice-2.ensures.value) ends in
    (text, c.in_ok-text.ensures.ok, inr (reach, are, whole))
