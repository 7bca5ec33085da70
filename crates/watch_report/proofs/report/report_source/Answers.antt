use Rattle.std.proofs.Common.{◌≡◌, [], List, ℕ}
use Rattle.std.specs.Option.{unwrap_or}
use Rattle.watch_causes.specs.KnownReaches.{reach_in}
use Rattle.watch_report.specs.Reports.{told_of}
use Rattle.watch_report.specs.Sources.{left_of}
use Rattle.watch_report.specs.TraceReaches.{known_by}
use Rattle.watch_report.specs.declared.reading_fault.ReadingFault.TheVariants.{NoMemory}
use Rattle.watch_report.proofs.ReadLemmas.{all_text}
use Rattle.watch_report.proofs.EndingLemmas.{without_a_line}
use Rattle.watch_report.proofs.report.report_source.Goals as goal

pub returns-in_default : goal.returns-in_default
returns-in_default g c =
    let about = told_of c.args.options (known_by (reach_in c.args.reaches) c.args.known) c.args.file.now in
    let text : List ℕ = unwrap_or (left_of (λ reader. g.R.Read.remaining reader) c.args.source.text.now c.args.source.reader) [] in
    without_a_line about _ text NoMemory (g.W.Write.contents c.args.out.now) (all_text _) tt
