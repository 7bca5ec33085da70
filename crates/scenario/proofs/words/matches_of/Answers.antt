use Rattle.std.proofs.Common.{◌≡◌, map, string_bytes, true, refl, subst}
use Rattle.std.proofs.lemmas.Result.{IfOk-weaker}
use Rattle.clap.specs.Words.{App, FailsBy, HasMatchesOf, fault_of, is_simple_and_free}
use Rattle.scenario.proofs.words.matches_of.Goals as goal

pub returns-clause-matches : goal.returns-clause-matches
returns-clause-matches c =
    IfOk-weaker c.try_get_matches_from.result _ _ (λ matches has.
    (subst (λ (app : App). HasMatchesOf app (map string_bytes c.args.words.now) matches) c.in_ok-svsim.ensures has refl).0) c.try_get_matches_from.ensures.matches

pub returns-clause-kinds : goal.returns-clause-kinds
returns-clause-kinds c =
    subst (λ (app : App). is_simple_and_free app ≡ true → FailsBy (fault_of app (map string_bytes c.args.words.now)) c.try_get_matches_from.result) c.in_ok-svsim.ensures c.try_get_matches_from.ensures.kinds refl
