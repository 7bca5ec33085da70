use Rattle.std.proofs.Common.{◌∙◌, List, Option, ap, sym}
use Rattle.std.specs.Option.{is_some, unwrap_or}
use Rattle.pte.specs.declared.scheme.Scheme.{Scheme}
use Rattle.std.proofs.lemmas.Result.{IfOk-weaker}
use Rattle.watch_causes.specs.declared.reason.Reason.{Reason}
use Rattle.watch_causes.specs.KnownFindings.{KnownEntry, Sourced, entry_of, finding, first_of, known_entry, resolved_by, sourced, unnumbered}
use Rattle.watch_causes.specs.KnownReaches.{reach_in}
use Rattle.watch_causes.specs.KnownSoFar.{entries_by}
use Rattle.watch_causes.specs.Reasons.{reason_of}
use Rattle.watch_causes.specs.declared.known.Known.{Known}
use Rattle.watch_causes.specs.declared.known_reaches.KnownReaches.{KnownReaches}
use Rattle.watch_causes.proofs.FirstVerdicts.{is-begun, not-begun, same-known}
use Rattle.watch_causes.proofs.KnownCounts.{same-counts, some-entry}
use Rattle.watch_causes.proofs.known_findings.KnownFindings.take.Goals as goal

abbrev by_reaches : KnownReaches → Known → KnownEntry
by_reaches reaches k = resolved_by (reach_in reaches) (known_entry k)

pub returns-in-Some-clause-taken : goal.returns-in-Some-clause-taken
returns-in-Some-clause-taken c = λ known scheme trace verdicts has.
    let v : Sourced = sourced scheme c.args.newest.now trace c.args.warning.now c.args.by.now in
    let some = some-entry (by_reaches c.args.self.now.reaches) c.args.self.now.known.len c.args.self.now.known.items known c.args.self.now.known.ok.0 has.entries (sym c.is_empty.ensures ∙ c.if-is_empty.false) in
    let begun = sym (c.in-Some.ensures known scheme trace verdicts has some) in
    record {
      entries = has.entries;
      under = has.under;
      log = has.log;
      findings = λ some f. has.findings some f ∙ same-known known verdicts v c.in-Some.is_known begun f;
      counts = has.counts ∙ same-counts known verdicts v (is-begun (λ (w : Sourced). is_some (entry_of known w)) (first_of verdicts (finding v)) c.in-Some.is_known begun);
    }

pub returns-clause-known : goal.returns-clause-known
returns-clause-known c = λ known scheme trace verdicts has.
    let w = c.args.warning.now in
    let by = c.args.by.now in
    let v : Sourced = sourced scheme c.args.newest.now trace w by in
    let some = some-entry (by_reaches c.args.self.now.reaches) c.args.self.now.known.len c.args.self.now.known.items known c.args.self.now.known.ok.0 has.entries (sym c.is_empty.ensures ∙ c.if-is_empty.false) in
    let none = not-begun (λ (w : Sourced). is_some (entry_of known w)) (first_of verdicts (finding v)) (sym (c.in_default.ensures known scheme trace verdicts has some)) in
    let reason = c.reason-reason.ensures trace (has.log some) ∙ ap (λ (s : Scheme). reason_of s c.args.newest.now trace w) has.under in
    IfOk-weaker c.begin.result _ _
    (λ answer is.
    is
    ∙ (ap (λ (r : Reason). is_some (entry_of (entries_by (reach_in c.args.self.now.reaches) c.args.self.now.known.items) (unnumbered w r by))) reason
    ∙ (ap (λ (entries : List KnownEntry). is_some (entry_of entries v)) has.entries
    ∙ sym (ap (λ (o : Option Sourced). is_some (entry_of known (unwrap_or o v))) none))))
    c.begin.ensures.known
