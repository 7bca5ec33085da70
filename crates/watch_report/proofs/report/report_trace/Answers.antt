use Rattle.std.proofs.Common.{rules, IfSome, ◌≡◌, ◌∙◌, [], Bool, List, ℕ, Option, true, false, map, refl, ap, subst, sym}
use Rattle.std.specs.Option.{is_some, unwrap_or}
use Rattle.std.specs.List.{list_any}
use Rattle.std.specs.Prelude.{Result, Err}
use Rattle.watch_causes.specs.KnownFindings.{known_entry}
use Rattle.watch_causes.specs.KnownReaches.{reach_in}
use Rattle.watch_causes.specs.declared.known.Known.{Known}
use Rattle.watch_report.specs.declared.fault.ReportFault.{ReportFault}
use Rattle.watch_report.specs.declared.known_list.KnownList.{KnownList}
use Rattle.watch_report.specs.declared.options.Options.{Options}
use Rattle.watch_report.specs.declared.reading_fault.ReadingFault.TheVariants.{NoMemory}
use Rattle.watch_report.specs.Ending.{Ends}
use Rattle.watch_report.specs.KnownLists.{KnownIn, known_in}
use Rattle.watch_report.specs.Reports.{told_of}
use Rattle.watch_report.specs.TraceReaches.{EndsAs, EndsJudged, asks_for_reach}
use Rattle.watch_report.proofs.ReadLemmas.{all_text}
use Rattle.watch_report.proofs.EndingLemmas.{without_a_line}
use Rattle.watch_report.proofs.ResolvedLists.{asks_of, unasked}
use Rattle.watch_report.proofs.report.report_trace.Goals as goal

-- whether an entry of the list asks for a reach, by what the program found
asked_by : (items shown : List Known) (asks is : Bool) → shown ≡ items → asks ≡ list_any (λ (k : Known). is_some k.reach) shown → asks ≡ is → asks_for_reach (map known_entry items) ≡ is
asked_by items shown asks is same found answer =
    sym (asks_of items) ∙ ap (λ (ks : List Known). list_any (λ (k : Known). is_some k.reach) ks) (sym same) ∙ sym found ∙ answer

module _ (options : Options) (known : KnownList) (text : List ℕ) (result : Result Bool ReportFault) (old new : Option (List ℕ)) where
  judged_by : (asks : Bool) (bytes file : List ℕ) → asks_for_reach (map known_entry known.entries.items) ≡ asks → bytes ≡ file
      → EndsAs asks (told_of options (known_in known) bytes) text result old new → EndsJudged (told_of options (known_in known) file) text result old new
  judged_by asks bytes file are same ends =
      subst (λ (b : Bool). EndsAs b (told_of options (known_in known) file) text result old new) (sym are)
      (subst (λ (f : List ℕ). EndsAs asks (told_of options (known_in known) f) text result old new) same ends)

pub returns-then-asks_for_reach : goal.returns-then-asks_for_reach
returns-then-asks_for_reach g c =
    let asks = asked_by c.args.known.entries.items c.as_slice.result.now c.asks_for_reach.result true c.as_slice.ensures.value c.asks_for_reach.ensures c.if-asks_for_reach.true in
    let r = c.report_whole.ensures in
    (r.0, r.1, judged_by c.args.options c.args.known r.0 c.report_whole.result (g.W.Write.contents c.args.out.now) (g.W.Write.contents c.report_whole.new.out) true c.as_bytes.result.now c.args.file.now asks c.as_bytes.ensures.value r.2)

pub returns : goal.returns
returns g c =
    let none = asked_by c.args.known.entries.items c.as_slice.result.now c.asks_for_reach.result false c.as_slice.ensures.value c.asks_for_reach.ensures c.if-asks_for_reach.false in
    let old = g.W.Write.contents c.args.out.now in
    let new = g.W.Write.contents c.report_source.new.out in
    let r = c.report_source.ensures in
    let bytes : List ℕ = c.as_bytes-2.result.now in
    let ends : Ends (told_of c.args.options (known_in c.args.known) bytes) r.0 c.report_source.result old new =
    subst (λ (known : KnownIn). Ends (told_of c.args.options known bytes) r.0 c.report_source.result old new) (unasked (reach_in c.none-reaches.result) c.args.known none) r.2 in
    let shown = r.1 in
    let left : IfSome (g.R.Read.remaining c.args.input) (λ left. r.0 ≡ left) = search rules in
    (r.0, left, judged_by c.args.options c.args.known r.0 c.report_source.result old new false bytes c.args.file.now none c.as_bytes-2.ensures.value ends)
