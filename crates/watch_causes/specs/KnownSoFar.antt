-- What is kept to tell which findings are known.
use Rattle.std.specs.Prelude.{◌≡◌, ◌<◌, List, Option, length, map}
use Rattle.std.specs.BTreeMap.{get}
use Rattle.pte.specs.declared.scheme.Scheme.{Scheme}
use Rattle.watch.specs.Trace.{Trace}
use Rattle.watch_causes.specs.declared.finding.Finding.{Finding}
use Rattle.watch_causes.specs.declared.known_findings.KnownFindings.{KnownFindings}
use Rattle.watch_causes.specs.Findings.{finding_cmp}
use Rattle.watch_causes.specs.declared.known.Known.{Known}
use Rattle.watch_causes.specs.declared.reach.Reach.{Reach}
use Rattle.watch_causes.specs.KnownFindings.{KnownEntry, Sourced, counts_of, known_entry, known_of, resolved_by}
use Rattle.watch_causes.specs.KnownReaches.{reach_in}
use Rattle.watch_causes.specs.Logs.{Follows}

-- the entries of a list for a trace whose findings have these reaches
abbrev pub entries_by : (Finding → Option Reach) → List Known → List KnownEntry
entries_by reach known = map (λ k. resolved_by reach (known_entry k)) known

-- the records of the trace and the verdicts were taken; without entries neither is kept
pub record HasKnown (known : List KnownEntry) (scheme : Scheme) (trace : Trace) (verdicts : List Sourced) (k : KnownFindings) : Type 0 where
  pub entries : entries_by (reach_in k.reaches) k.known.items ≡ known
  pub under : k.scheme ≡ scheme
  pub log : 0 < length known → Follows trace k.log
  pub findings : 0 < length known → (f : Finding) → get finding_cmp k.findings f ≡ known_of known verdicts f
  pub counts : k.counts.items ≡ counts_of known verdicts
