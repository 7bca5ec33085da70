use Rattle.std.proofs.Common.{rules, ◌≡◌, ◌∙◌, ◌+◌, ◌∷◌, ◌++◌, [], ℕ, List, Option, Some, None, Bool, true, false, not, length, refl, ap, sym, subst, append_assoc}
use denote.Ref.{Bor}
use Rattle.std.proofs.lemmas.Result.{IfOk-weaker}
use Rattle.watch_causes.specs.KnownReaches.{reach_in}
use Rattle.watch_report.specs.declared.header.Header.{Header}
use Rattle.watch_report.specs.Fields.{fields_of}
use Rattle.watch_report.specs.KnownTexts.{lines_left}
use Rattle.watch_report.specs.TraceLines.{header_in, line_in}
use Rattle.watch_report.specs.TraceReaches.{HasJudged, reach_on}
use Rattle.watch_report.specs.TraceText.{Noted, has_no_form, lines_of, trace_of, with_record}
use Rattle.watch_report.specs.VerdictLines.{AreTakenBy}
use Rattle.watch_report.proofs.ReadLemmas.{AreTaken, more_taken, none_taken, records_of_front, stops}
use Rattle.watch_report.proofs.ResolvedLists.{no_record, reached}
use Rattle.watch_report.proofs.judging.reaches_of.Goals as goal

pub lines-init : goal.lines-init
lines-init c =
    let first = c.first_line.result.0.now in
    let some : header_in (fields_of first) ≡ Some c.new-judging.result.header = sym c.read_header.ensures ∙ c.in-Some.is ∙ ap Some (sym c.new-judging.ensures.header) in
    (first, [], [], [], none_taken c.new-judging.result.header, c.new-judging.ensures.judged, some, c.first_line.ensures.lines)

-- the line has no form, and nothing of it was taken
pub returns-then-not-taken-clause-ok : goal.returns-then-not-taken-clause-ok
returns-then-not-taken-clause-ok c =
    let i = c.lines.invariant in
    let header : Header = c.lines.judging.header in
    let line = c.first_line-in-Some-left.result.0.now in
    let rest = lines_left c.first_line-in-Some-left.result.1 in
    let t : c.in_ok-taken.taken ≡ false = search rules in
    let none : has_no_form header line ≡ true = c.in_ok-taken.ensures.form ∙ ap not t in
    let lines : lines_of c.args.text.now ≡ i.0 ∷ (i.1 ++ line ∷ rest) =
    i.7 ∙ ap (λ (l : Option (Bor (List ℕ))). i.0 ∷ (i.1 ++ lines_left l)) c.in-Some-left.is ∙ ap (λ (ls : List (List ℕ)). i.0 ∷ (i.1 ++ ls)) c.first_line-in-Some-left.ensures.lines in
    let more = c.in_ok-taken.ensures.ok c.args.filter i.2 i.3 0 i.5 in
    let has = subst (λ (records : List Noted). HasJudged c.args.filter records more.0 c.take_line.new.self) (no_record (line_in header line) 0 i.2 none) more.1 in
    let are = subst (λ (h : Header). AreTakenBy c.args.filter h.scheme i.2 more.0) c.take_line.ensures.header has.are in
    IfOk-weaker c.reaches.result _ _
    (λ all is. reached c.args.filter c.args.text.now i.0 (i.1 ++ line ∷ rest) header i.2 more.0 (reach_in all) lines i.6
    (records_of_front header i.1 (line ∷ rest) i.2 i.4 (stops (has_no_form header) line rest none)) are
    (λ f. is f ∙ ap (λ (h : Header). reach_on h.scheme (trace_of i.2) more.0 f) c.take_line.ensures.header))
    (c.reaches.ensures.ok c.args.filter i.2 more.0 has)

pub lines-preserved : goal.lines-preserved
lines-preserved c =
    let i = c.lines.invariant in
    let header : Header = c.lines.judging.header in
    let line = c.first_line-in-Some-left.result.0.now in
    let rest = lines_left c.first_line-in-Some-left.result.1 in
    let number : ℕ = length i.1 + 2 in
    let t : c.in_ok-taken.taken ≡ true = search rules in
    let formed : has_no_form header line ≡ false = c.in_ok-taken.ensures.form ∙ ap not t in
    let more = c.in_ok-taken.ensures.ok c.args.filter i.2 i.3 number i.5 in
    let records : List Noted = with_record (line_in header line) number i.2 in
    let taken = more_taken header i.1 number line i.2 refl i.4 formed in
    let lines : lines_of c.args.text.now ≡ i.0 ∷ ((i.1 ++ line ∷ []) ++ rest) =
    i.7 ∙ ap (λ (l : Option (Bor (List ℕ))). i.0 ∷ (i.1 ++ lines_left l)) c.in-Some-left.is ∙ ap (λ (ls : List (List ℕ)). i.0 ∷ (i.1 ++ ls)) c.first_line-in-Some-left.ensures.lines
    ∙ ap (λ (ls : List (List ℕ)). i.0 ∷ ls) (sym (append_assoc i.1 (line ∷ []) rest)) in (
      i.0,
      i.1 ++ line ∷ [],
      records,
      more.0,
      subst (λ (h : Header). AreTaken h (i.1 ++ line ∷ []) records) (sym c.take_line.ensures.header) taken,
      more.1,
      i.6 ∙ ap Some (sym c.take_line.ensures.header),
      lines,
    )

-- all lines were taken
pub returns-clause-ok : goal.returns-clause-ok
returns-clause-ok c =
    let i = c.lines.invariant in
    let header : Header = c.lines.judging.header in
    let lines : lines_of c.args.text.now ≡ i.0 ∷ (i.1 ++ []) = i.7 ∙ ap (λ (l : Option (Bor (List ℕ))). i.0 ∷ (i.1 ++ lines_left l)) c.in_default-left.is in
    IfOk-weaker c.reaches-2.result _ _
    (λ all is. reached c.args.filter c.args.text.now i.0 (i.1 ++ []) header i.2 i.3 (reach_in all) lines i.6 (records_of_front header i.1 [] i.2 i.4 refl) i.5.are is)
    (c.reaches-2.ensures.ok c.args.filter i.2 i.3 i.5)
