use Rattle.std.proofs.Common.{◌≡◌, ◌+◌, ◌++◌, ◌∷◌, List, None, Option, Some, [], ap, arith, length, refl, subst, sym}
use Rattle.std.specs.Option.{is_none}
use Rattle.std.specs.Prelude.{cond, ℕ}
use Rattle.watch_causes.specs.declared.begun.Begun.{Begun}
use Rattle.watch_causes.specs.declared.finding.Cause.{Cause}
use Rattle.watch_causes.specs.Begins.{begun_by, begun_with}
use Rattle.watch_causes.specs.Causes.{AreOf}
use Rattle.watch_causes.specs.Findings.{Judged, cause_of, finding_of}
use Rattle.watch_causes.specs.Judging.{judged}
use Rattle.watch_causes.specs.Reaching.{HasReached}
use Rattle.watch_causes.proofs.findings.Findings.take.Goals as goal

pub returns-in-Some-clause-findings : goal.returns-in-Some-clause-findings
returns-in-Some-clause-findings c = λ trace verdicts follows are.
    let v : Judged = judged c.args.scheme c.args.newest.now trace c.args.warning.now in
    let count : c.args.log.now.count + 1 ≡ length (c.args.newest.now ∷ trace) = omega (arith, follows.count) in
    subst (λ (n : ℕ). AreOf (record v { number = n } ∷ verdicts) c.go_on.new.self) count
    (c.in_ok-go_on.ensures verdicts v.reason are (sym (c.in-Some.ensures verdicts are)))

pub returns-in-Some-clause-reached : goal.returns-in-Some-clause-reached
returns-in-Some-clause-reached c = λ trace verdicts begun follows are has.
    let newest = c.args.newest.now in
    let v : Judged = judged c.args.scheme newest trace c.args.warning.now in
    let cause : cause_of verdicts (finding_of v.warning) ≡ Some c.in-Some.cause = sym (c.in-Some.ensures verdicts are) in
    let same : begun_with newest trace verdicts begun v ≡ begun =
    ap (λ (o : Option Cause). cond (is_none o) (begun ++ begun_by newest trace v ∷ []) begun) cause in
    subst (λ (bs : List Begun). HasReached c.args.scheme (newest ∷ trace) (v ∷ verdicts) bs c.take.new.self) (sym same)
    (c.in_ok-take.ensures c.args.scheme (newest ∷ trace) verdicts v begun has refl)

pub returns-clause-reached : goal.returns-clause-reached
returns-clause-reached c = λ trace verdicts begun follows are has.
    let newest = c.args.newest.now in
    let v : Judged = judged c.args.scheme newest trace c.args.warning.now in
    let none : cause_of verdicts (finding_of v.warning) ≡ None = sym (c.in_default.ensures verdicts are) in
    let more : List Begun = begun ++ begun_by newest trace v ∷ [] in
    let same : begun_with newest trace verdicts begun v ≡ more = ap (λ (o : Option Cause). cond (is_none o) more begun) none in
    subst (λ (bs : List Begun). HasReached c.args.scheme (newest ∷ trace) (v ∷ verdicts) bs c.take-2.new.self) (sym same)
    (c.in_ok-take-2.ensures c.args.scheme (newest ∷ trace) verdicts v more
    (c.in_ok-begin.ensures c.args.scheme trace verdicts begun follows has (c.reason-reason.ensures trace follows)) refl)
