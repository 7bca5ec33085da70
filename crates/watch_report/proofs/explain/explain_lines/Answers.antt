use Rattle.std.proofs.Common.{◌≡◌, ◌<◌, ◌+◌, ◌∷◌, ◌++◌, [], ℕ, List, Ok, Err, length, length-append, subst, ap, ◌∙◌, arith, not, refl, true, false, rules}
use Rattle.std.proofs.lemmas.Result.{err_from_is_err_and}
use Rattle.watch_report.specs.Ending.{IsAtLine}
use Rattle.watch_report.specs.Explaining.{asked_of}
use Rattle.watch_report.specs.LineFaults.{fault_of}
use Rattle.watch_report.specs.Prefix.{ExplainsLine, IsPrefix}
use Rattle.watch_report.specs.Reading.{ReadsLine, report_fault_of}
use Rattle.watch_report.specs.declared.reading_fault.ReadingFault.TheVariants.{NoMemory}
use Rattle.watch_report.specs.TraceLines.{line_in}
use Rattle.watch_report.specs.TraceText.{has_no_form, with_record}
use Rattle.watch_report.proofs.ReadLemmas.{last_text, line_text, more_read, more_taken, none_read, none_taken, torn_text}
use Rattle.watch_report.proofs.ExplainLemmas.{before_more, finds_at, finds_fault, finds_none, found_early, found_in, found_unread, up_to_all, up_to_later, up_to_line}
use Rattle.watch_report.proofs.explain.explain_lines.Goals as goal

pub returns-then-asked-lt2-clause-found : goal.returns-then-asked-lt2-clause-found
returns-then-asked-lt2-clause-found g c =
    found_early (asked_of c.args.file.now c.args.asked c.args.filter) (g.R.Read.remaining c.args.input.now) c.args.header c.args.told.now.text.items (search rules)

pub loop-number-init : goal.loop-number-init
loop-number-init g c =
    ([], [], none_read _, none_taken c.args.header, c.new-prefix.ensures, tt, refl, omega arith)

pub returns-in_err-more-clause-found : goal.returns-in_err-more-clause-found
returns-in_err-more-clause-found g c =
    let i = c.loop-number.invariant in
    let asked = asked_of c.args.file.now c.args.asked c.args.filter in
    let p = err_from_is_err_and c.from_residual.result c.from_residual.ensures.1 in
    let torn = c.in_err-more.ensures.err in
    let whole = torn_text _ _ _ i.0 torn.0 i.2 torn.1 in
    rw (p.1, p.2) (found_unread asked c.in_err-more.field-0.0 _ _ c.args.header c.args.told.now.text.items whole c.in_err-more.ensures.fault)

pub returns-in_err-taken-clause-found : goal.returns-in_err-taken-clause-found
returns-in_err-taken-clause-found g c =
    let i = c.loop-number.invariant in
    let asked = asked_of c.args.file.now c.args.asked c.args.filter in
    let p = err_from_is_err_and c.from_residual-in_err-taken.result c.from_residual-in_err-taken.ensures.1 in
    let whole = line_text _ _ _ _ i.0 _ i.2 c.in_ok-more.ensures.ok in
    rw (p.1, p.2, c.in_err-taken.ensures.err) (found_in asked _ _ _ c.args.header (Err (report_fault_of NoMemory)) c.args.told.now.text.items whole.1 refl tt)

-- the line has no form
pub returns-then-not-taken-clause-found : goal.returns-then-not-taken-clause-found
returns-then-not-taken-clause-found g c =
    let i = c.loop-number.invariant in
    let asked = asked_of c.args.file.now c.args.asked c.args.filter in
    let line : List ℕ = c.read_line.new.line.items in
    let number : ℕ = c.loop-number.number in
    let e : c.in_ok-taken.taken ≡ false = search rules in
    let whole = line_text _ _ _ _ i.0 line i.2 c.in_ok-more.ensures.ok in
    let none : has_no_form c.args.header line ≡ true =
    subst (λ (l : List ℕ). has_no_form c.args.header l ≡ true) c.as_slice-shown.ensures.value (c.in_ok-taken.ensures.form ∙ ap not e) in
    let told : IsAtLine number (fault_of c.args.header line) (Ok false) c.fault_of_line.result =
    subst (λ (l : List ℕ). IsAtLine number (fault_of c.args.header l) (Ok false) c.fault_of_line.result) c.as_slice-shown.ensures.value c.fault_of_line.ensures in
    found_in asked _ _ _ c.args.header (Err c.fault_of_line.result) c.args.told.now.text.items whole.1 (up_to_later c.args.asked number i.0 whole.0 line i.6 (search rules))
    (finds_fault asked c.fault_of_line.result c.args.header number i.0 _ line i.1 c.args.told.now.text.items i.6 i.3 none told)

-- the last line was taken, and is none that is asked for
pub returns-then-not-more-clause-found : goal.returns-then-not-more-clause-found
returns-then-not-more-clause-found g c =
    let i = c.loop-number.invariant in
    let asked = asked_of c.args.file.now c.args.asked c.args.filter in
    let line : List ℕ = c.read_line.new.line.items in
    let number : ℕ = c.loop-number.number in
    let e : c.in_ok-more.more ≡ false = search rules in
    let t : c.in_ok-taken.taken ≡ true = search rules in
    let less : number < c.args.asked = search rules in
    let read = subst (ReadsLine _ _ line) e c.in_ok-more.ensures.ok in
    let whole = last_text _ _ _ i.0 line i.2 read in
    let formed : has_no_form c.args.header line ≡ false =
    subst (λ (l : List ℕ). has_no_form c.args.header l ≡ false) c.as_slice-shown.ensures.value (c.in_ok-taken.ensures.form ∙ ap not t) in
    let taken = more_taken c.args.header i.0 number line i.1 i.6 i.3 formed in
    let before = before_more (line_in c.args.header line) number c.args.asked i.1 less i.5 in
    let short : length (i.0 ++ line ∷ []) < c.args.asked = omega (arith, length-append i.0 (line ∷ []), i.6, less) in
    found_in asked _ _ _ c.args.header (Ok false) c.args.told.now.text.items whole (up_to_all c.args.asked _ short) (finds_none asked c.args.header _ _ c.args.told.now.text.items taken before)

pub loop-number-preserved : goal.loop-number-preserved
loop-number-preserved g c =
    let i = c.loop-number.invariant in
    let line : List ℕ = c.read_line.new.line.items in
    let number : ℕ = c.loop-number.number in
    let e : c.in_ok-more.more ≡ true = search rules in
    let t : c.in_ok-taken.taken ≡ true = search rules in
    let read = subst (ReadsLine _ _ line) e c.in_ok-more.ensures.ok in
    let formed : has_no_form c.args.header line ≡ false =
    subst (λ (l : List ℕ). has_no_form c.args.header l ≡ false) c.as_slice-shown.ensures.value (c.in_ok-taken.ensures.form ∙ ap not t) in
    let took : IsPrefix (with_record (line_in c.args.header line) number i.1) c.take_line.new.self =
    subst (λ (l : List ℕ). IsPrefix (with_record (line_in c.args.header l) number i.1) c.take_line.new.self) c.as_slice-shown.ensures.value (c.in_ok-taken.ensures.ok i.1 i.4) in (
      i.0 ++ line ∷ [],
      _,
      more_read _ _ _ i.0 line i.2 read,
      more_taken c.args.header i.0 number line i.1 i.6 i.3 formed,
      took,
      before_more (line_in c.args.header line) number c.args.asked i.1 (search rules) i.5,
      omega (arith, i.6, length-append i.0 (line ∷ [])),
      omega arith,
    )

pub returns-in_err-_more-clause-found : goal.returns-in_err-_more-clause-found
returns-in_err-_more-clause-found g c =
    let i = c.loop-number.invariant in
    let asked = asked_of c.args.file.now c.args.asked c.args.filter in
    let p = err_from_is_err_and c.from_residual-in_err-_more.result c.from_residual-in_err-_more.ensures.1 in
    let torn = c.in_err-_more.ensures.err in
    let whole = torn_text _ _ _ i.0 torn.0 i.2 torn.1 in
    rw (p.1, p.2) (found_unread asked c.in_err-_more.field-0.0 _ _ c.args.header c.args.told.now.text.items whole c.in_err-_more.ensures.fault)

pub returns-clause-found : goal.returns-clause-found
returns-clause-found g c =
    let i = c.loop-number.invariant in
    let asked = asked_of c.args.file.now c.args.asked c.args.filter in
    let line : List ℕ = c.read_line-2.new.line.items in
    let at : c.args.asked ≡ length i.0 + 2 = omega (arith, i.6, i.7) in
    let whole = line_text _ _ _ _ i.0 line i.2 c.in_ok-_more.ensures.ok in
    let says : ExplainsLine asked c.args.header i.1 line c.explain_line.result c.explain_line.new.told.text.items =
    subst (λ (l : List ℕ). ExplainsLine asked c.args.header i.1 l c.explain_line.result c.explain_line.new.told.text.items) c.as_slice-shown-2.ensures.value (c.explain_line.ensures.line i.1 i.4 i.5) in
    found_in asked _ _ _ c.args.header c.explain_line.result _ whole.1 (up_to_line c.args.asked i.0 whole.0 line at) (finds_at asked c.explain_line.result c.args.header i.0 line i.1 _ at i.3 says)

pub returns-clause-whole : goal.returns-clause-whole
returns-clause-whole g c = λ blank. c.explain_line.ensures.whole c.loop-number.invariant.1 c.loop-number.invariant.4 blank
