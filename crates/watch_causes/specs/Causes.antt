-- The causes of the verdicts on a trace.
use Rattle.std.specs.Prelude.{◌≡◌, List}
use Rattle.std.specs.BTreeMap.{get}
use Rattle.watch.specs.Trace.{Trace}
use Rattle.watch_engine.specs.declared.warning.Warning.{Warning}
use Rattle.watch_causes.specs.declared.causes.Causes.{Causes}
use Rattle.watch_causes.specs.declared.finding.Finding.{Finding}
use Rattle.watch_causes.specs.declared.findings.Findings.{Findings}
use Rattle.watch_causes.specs.Begins.{begun_of}
use Rattle.watch_causes.specs.Findings.{Judged, cause_of, finding_cmp}
use Rattle.watch_causes.specs.Judging.{verdicts_of}
use Rattle.watch_causes.specs.Logs.{Follows}
use Rattle.watch_causes.specs.Reaching.{HasReached}
use Rattle.watch_causes.specs.Tallies.{tallies_of}

-- these are the findings of the verdicts, and the tallies of their causes
pub record AreOf (verdicts : List Judged) (findings : Findings) : Type 0 where
  pub causes : (f : Finding) → get finding_cmp findings.causes f ≡ cause_of verdicts f
  pub tallies : findings.tallies.items ≡ tallies_of verdicts

-- the records of the trace, and the warnings at each of them, were taken: their findings have begun
pub record HasSeen (trace : Trace) (given : List (List Warning)) (c : Causes) : Type 0 where
  pub log : Follows trace c.log
  pub findings : AreOf (verdicts_of c.scheme trace given) c.findings
  pub reaches : HasReached c.scheme trace (verdicts_of c.scheme trace given) (begun_of c.scheme trace given) c.reaches
