use Rattle.std.proofs.Common.{◌≡◌, [], List, ℕ, None, Some, Ok, ap, subst, sym, ◌∙◌, true, false, rules}
use Rattle.std.proofs.lemmas.Result.{err_from_is_err_and}
use Rattle.watch_report.specs.Ending.{IsAtLine}
use Rattle.watch_report.specs.Explaining.{asked_of}
use Rattle.watch_report.specs.Fields.{fields_of}
use Rattle.watch_report.specs.LineFaults.{header_fault}
use Rattle.watch_report.specs.Reading.{ReadsLine}
use Rattle.watch_report.specs.TraceLines.{header_in}
use Rattle.watch_report.specs.TraceText.{lines_of, or_line}
use Rattle.watch_report.proofs.ReadLemmas.{first_text, last_text, line_text, none_read, torn_text}
use Rattle.watch_report.proofs.ExplainLemmas.{found_header, found_no_header, found_unbegun, found_with}
use Rattle.watch_report.proofs.explain.explain_all.Goals as goal

pub returns-in_err-more-clause-found : goal.returns-in_err-more-clause-found
returns-in_err-more-clause-found g c =
    let p = err_from_is_err_and c.from_residual.result c.from_residual.ensures.1 in
    let torn = c.in_err-more.ensures.err in
    let whole = torn_text _ _ (g.R.Read.remaining c.read_line.new.input) [] torn.0 (none_read _) torn.1 in
    rw (p.1, p.2) (found_unbegun (asked_of c.args.file.now c.args.asked c.args.filter) c.in_err-more.field-0.0 _ _ c.args.told.now.text.items whole c.in_err-more.ensures.fault)

pub returns-in_default-clause-found : goal.returns-in_default-clause-found
returns-in_default-clause-found g c =
    let first : List ℕ = c.read_line.new.line.items in
    let whole = line_text _ _ _ _ [] first (none_read _) c.in_ok-more.ensures.ok in
    let none : header_in (fields_of first) ≡ None =
    ap (λ (l : List ℕ). header_in (fields_of l)) (sym c.as_slice-first.ensures.value) ∙ sym c.read_header.ensures ∙ c.in_default.is in
    let told : IsAtLine 1 (header_fault first) (Ok false) c.first_line_fault.result =
    subst (λ (l : List ℕ). IsAtLine 1 (header_fault l) (Ok false) c.first_line_fault.result) c.as_slice-first.ensures.value c.first_line_fault.ensures in
    found_no_header (asked_of c.args.file.now c.args.asked c.args.filter) _ first whole.0 c.first_line_fault.result c.args.told.now.text.items whole.1 (ap (or_line first) none) told

pub first_line_fault-requires : goal.first_line_fault-requires
first_line_fault-requires g c = sym c.read_header.ensures ∙ c.in_default.is

pub returns-then-not-more-clause-found : goal.returns-then-not-more-clause-found
returns-then-not-more-clause-found g c =
    let first : List ℕ = c.read_line.new.line.items in
    let e : c.in_ok-more.more ≡ false = search rules in
    let read = subst (ReadsLine _ _ first) e c.in_ok-more.ensures.ok in
    let whole = last_text _ _ _ [] first (none_read _) read in
    let some : header_in (fields_of first) ≡ Some c.in-Some.header =
    ap (λ (l : List ℕ). header_in (fields_of l)) (sym c.as_slice-first.ensures.value) ∙ sym c.read_header.ensures ∙ c.in-Some.is in
    found_header (asked_of c.args.file.now c.args.asked c.args.filter) _ first c.in-Some.header c.args.told.now.text.items whole (ap (or_line first) some)

pub returns-clause-found : goal.returns-clause-found
returns-clause-found g c =
    let first : List ℕ = c.read_line.new.line.items in
    let e : c.in_ok-more.more ≡ true = search rules in
    let read = subst (ReadsLine _ _ first) e c.in_ok-more.ensures.ok in
    let rest = c.explain_lines.ensures.found in
    let whole = first_text _ _ first rest.0 read rest.1 in
    let some : header_in (fields_of first) ≡ Some c.in-Some.header =
    ap (λ (l : List ℕ). header_in (fields_of l)) (sym c.as_slice-first.ensures.value) ∙ sym c.read_header.ensures ∙ c.in-Some.is in
    found_with (asked_of c.args.file.now c.args.asked c.args.filter) _ first (lines_of rest.0) (Ok c.in-Some.header) c.explain_lines.result c.explain_lines.new.told.text.items whole (ap (or_line first) some) rest.2
