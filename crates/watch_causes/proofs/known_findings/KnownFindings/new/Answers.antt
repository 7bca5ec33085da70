use Rattle.std.proofs.Common.{◌∙◌, ℕ, ap, refl, rules}
use Rattle.std.specs.Prelude.{replicate}
use Rattle.watch_causes.specs.KnownFindings.{known_entry, resolved_by}
use Rattle.watch_causes.specs.KnownReaches.{reach_in}
use Rattle.watch_causes.proofs.KnownCounts.{no-counts-of}
use Rattle.watch_causes.proofs.known_findings.KnownFindings.new.Goals as goal

pub returns : goal.returns
returns c =
    record {
      entries = refl;
      under = refl;
      log = λ some. c.new.ensures;
      findings = λ some f. search rules;
      counts =
          c.in_ok-counts.ensures.items_if_clones_equal (λ y is. is)
          ∙ (ap (λ n. replicate {A = ℕ} n 0) (c.len.ensures ∙ c.args.known.ok.0) ∙ no-counts-of (λ k. resolved_by (reach_in c.args.reaches) (known_entry k)) c.args.known.items);
    }
