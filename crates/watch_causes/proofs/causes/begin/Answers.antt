use Rattle.std.proofs.Common.{◌≡◌, ◌∙◌, ◌+◌, ◌++◌, ◌∷◌, [], ap, arith, length, subst, ℕ}
use Rattle.std.proofs.lemmas.Result.{on_ok_weaker}
use Rattle.watch_causes.specs.declared.begun.Begun.{Begun}
use Rattle.watch_causes.specs.declared.finding.Cause.{Cause}
use Rattle.watch_causes.specs.declared.reason.Reason.{Reason}
use Rattle.watch_causes.specs.Begins.{begun_by}
use Rattle.watch_causes.specs.Findings.{cause_by}
use Rattle.watch_causes.specs.Judging.{judged}
use Rattle.watch_causes.specs.Reaching.{HasReached}
use Rattle.watch_causes.proofs.causes.begin.Goals as goal

pub returns : goal.returns
returns c = λ scheme trace verdicts begun follows has reason.
    let newest = c.args.newest.now in
    let w = c.args.warning.now in
    let count : c.args.log.now.count + 1 ≡ length (newest ∷ trace) = omega (arith, follows.count) in
    let own : Begun = record { number = c.args.log.now.count + 1; warning = w; cause = c.cause_by.result; fenced = c.fenced.result } in
    let by : Begun = begun_by newest trace (judged scheme newest trace w) in
    let same : own ≡ by =
    ap (λ (n : ℕ). record own { number = n }) count
    ∙ (ap (λ (cause : Cause). record by { cause = cause; fenced = c.fenced.result }) (c.cause_by.ensures 0)
    ∙ (ap (λ (r : Reason). record by { cause = cause_by (record { number = 0; warning = w; reason = r }); fenced = c.fenced.result }) reason
    ∙ ap (λ (n : ℕ). record by { fenced = n }) (c.fenced.ensures trace follows))) in
    on_ok_weaker c.begin.result
    (λ done. subst (λ (b : Begun). HasReached scheme (newest ∷ trace) verdicts (begun ++ b ∷ []) c.begin.new.self) same done)
    (c.begin.ensures scheme newest trace verdicts begun has count)
