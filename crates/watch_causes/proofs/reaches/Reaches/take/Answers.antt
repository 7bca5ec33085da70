use Rattle.std.proofs.Common.{◌≡◌, ◌∙◌, Some, ap, false, sym, true}
use Rattle.std.specs.BTreeMap.{get}
use Rattle.std.specs.Prelude.{cond, is_some}
use Rattle.std.specs.Ordering.{is_eq}
use Rattle.watch_engine.specs.declared.warning.Warning.{Warning}
use Rattle.watch.specs.declared.trace.Verdict.TheVariants.{Used}
use Rattle.watch_causes.specs.declared.finding.Finding.{Finding}
use Rattle.watch_causes.specs.Findings.{finding_cmp, finding_of, is_same_verdict}
use Rattle.watch_causes.proofs.Knowing.{if-fine}
use Rattle.watch_causes.proofs.Reaching.{no-use, one-use}
use Rattle.watch_causes.proofs.reaches.Reaches.take.Goals as goal

pub returns : goal.returns
returns c = λ scheme trace verdicts v begun has same.
    let old = c.args.self.now.used in
    let updates = (if-fine c.insert.result c.is_err.result c.is_err.ensures.value c.if-is_err.false c.insert.ensures.updates).0 in
    let uses : is_same_verdict v.warning.verdict Used ≡ true =
    ap (λ (w : Warning). is_same_verdict w.verdict Used) same ∙ (sym c.is_same_verdict.ensures ∙ c.if-not-is_same_verdict.false) in
    let own : c.finding_of.result ≡ finding_of v.warning = c.finding_of.ensures ∙ ap finding_of (sym same) in
    record {
      moves = has.moves;
      findings = has.findings;
      within = has.within;
      used = λ f.
          ap is_some (updates f ∙ ap (λ (k : Finding). cond (is_eq (finding_cmp k f)) (Some tt) (get finding_cmp old f)) own)
          ∙ one-use verdicts v f tt (get finding_cmp old f) (has.used f) uses;
      long = has.long;
      starts = has.starts;
      keeps = has.keeps;
    }

pub returns-then-not-is_same_verdict : goal.returns-then-not-is_same_verdict
returns-then-not-is_same_verdict c = λ scheme trace verdicts v begun has same.
    let other : is_same_verdict v.warning.verdict Used ≡ false =
    ap (λ (w : Warning). is_same_verdict w.verdict Used) same ∙ (sym c.is_same_verdict.ensures ∙ c.if-not-is_same_verdict.true) in
    record {
      moves = has.moves;
      findings = has.findings;
      within = has.within;
      used = λ f. no-use verdicts v f (is_some (get finding_cmp c.args.self.now.used f)) (has.used f) other;
      long = has.long;
      starts = has.starts;
      keeps = has.keeps;
    }
