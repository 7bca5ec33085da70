use Rattle.std.proofs.Common.{◌≡◌, ◌∙◌, Bool, List, Option, Some, ap}
use Rattle.std.specs.BTreeMap.{get}
use Rattle.std.specs.Option.{is_none, is_some}
use Rattle.std.specs.Ordering.{is_eq}
use Rattle.std.specs.Prelude.{ℕ, cond, position}
use Rattle.watch_causes.specs.declared.finding.Finding.{Finding}
use Rattle.watch_causes.specs.declared.known.Known.{Known}
use Rattle.watch_causes.specs.Findings.{finding_cmp, finding_of}
use Rattle.watch_causes.specs.KnownFindings.{KnownEntry, Sourced, counted_at, entry_of, known_entry, matches, resolved_by, unnumbered}
use Rattle.watch_causes.specs.KnownReaches.{reach_in}
use Rattle.watch_causes.specs.declared.reach.Reach.{Reach}
use Rattle.watch_causes.proofs.FirstVerdicts.{one-more-known}
use Rattle.watch_causes.proofs.Knowing.{if-fine}
use Rattle.watch_causes.proofs.KnownCounts.{entry-of-entries, more-counts}
use Rattle.watch_causes.proofs.known_findings.KnownFindings.begin.Goals as goal

pub returns-clause-taken : goal.returns-clause-taken
returns-clause-taken c = λ known scheme trace verdicts number has none.
    let old = c.args.self.now in
    let own : Finding = finding_of c.args.warning.now in
    let v : Sourced = record { judged = record { number = number; warning = c.args.warning.now; reason = c.args.reason }; by = c.args.by.now } in
    let reaches : Finding → Option Reach = reach_in old.reaches in
    let place : c.entry_of-place.result ≡ entry_of known v =
    c.entry_of-place.ensures
    ∙ (ap (λ (ks : List Known). position (λ (k : Known). matches (resolved_by (λ f. c.reach-reach.result) (known_entry k)) v) ks) c.as_slice.ensures.value
    ∙ (ap (λ (r : Option Reach). position (λ (k : Known). matches (resolved_by (λ f. r) (known_entry k)) v) old.known.items) (c.reach-reach.ensures ∙ ap reaches c.finding_of-finding.ensures)
    ∙ (entry-of-entries (λ k. resolved_by reaches (known_entry k)) v old.known.items ∙ ap (λ (entries : List KnownEntry). entry_of entries v) has.entries))) in
    let updates = (if-fine c.insert.result c.is_err.result c.is_err.ensures.value c.if-is_err.false c.insert.ensures.updates).0 in
    record {
      entries = has.entries;
      under = has.under;
      log = has.log;
      findings = λ some f.
          updates f
          ∙ (ap (λ (k : Finding). cond (is_eq (finding_cmp k f)) (Some c.is_some.result) (get finding_cmp old.findings f)) c.finding_of-finding.ensures
          ∙ (ap (λ (is : Bool). cond (is_eq (finding_cmp own f)) (Some is) (get finding_cmp old.findings f)) (c.is_some.ensures ∙ ap is_some place)
          ∙ (ap (λ (o : Option Bool). cond (is_eq (finding_cmp own f)) (Some (is_some (entry_of known v))) o) (has.findings some f)
          ∙ one-more-known known verdicts v none f)));
      counts =
          c.in_ok-count_at.ensures
          ∙ (ap (λ (p : Option ℕ). counted_at p old.counts.items) place
          ∙ (ap (counted_at (entry_of known v)) has.counts ∙ more-counts known verdicts v (ap is_none none)));
    }

pub returns-clause-known : goal.returns-clause-known
returns-clause-known c =
    let v : Sourced = unnumbered c.args.warning.now c.args.reason c.args.by.now in
    let reaches : Finding → Option Reach = reach_in c.args.self.now.reaches in
    c.is_some-2.ensures
    ∙ ap is_some (c.entry_of-place.ensures
    ∙ (ap (λ (ks : List Known). position (λ (k : Known). matches (resolved_by (λ f. c.reach-reach.result) (known_entry k)) v) ks) c.as_slice.ensures.value
    ∙ (ap (λ (r : Option Reach). position (λ (k : Known). matches (resolved_by (λ f. r) (known_entry k)) v) c.args.self.now.known.items) (c.reach-reach.ensures ∙ ap reaches c.finding_of-finding.ensures)
    ∙ entry-of-entries (λ k. resolved_by reaches (known_entry k)) v c.args.self.now.known.items)))
