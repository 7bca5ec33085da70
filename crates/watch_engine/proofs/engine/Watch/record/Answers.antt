use Rattle.std.proofs.Common.{◌∷◌, sym, subst}
use Rattle.watch.specs.declared.trace.Record.{Record}
use Rattle.watch_engine.specs.Watching.{Follows}
use Rattle.watch_engine.specs.Warnings.{AreWarnings}
use Rattle.watch_engine.proofs.engine.Watch.record.Goals as goal

pub returns-in-Store-clause-ok : goal.returns-in-Store-clause-ok
returns-in-Store-clause-ok g c = λ trace at. subst (λ (r : Record). Follows g.T.Tables.words g.T.Tables.since (r ∷ trace) c.store.new.self) (sym c.in-Store.is) (c.in_ok-store-in-Store.ensures.ok c.in-Store.hart trace at)

pub returns-in-RemoteBegin-clause-ok : goal.returns-in-RemoteBegin-clause-ok
returns-in-RemoteBegin-clause-ok g c = λ trace at. subst (λ (r : Record). Follows g.T.Tables.words g.T.Tables.since (r ∷ trace) c.begin_fence.new.self) (sym c.in-RemoteBegin.is) (c.in_ok-begin_fence-in-RemoteBegin.ensures.ok c.in-RemoteBegin.hart trace at)

pub returns-in-RemoteEnd-clause-ok : goal.returns-in-RemoteEnd-clause-ok
returns-in-RemoteEnd-clause-ok g c = λ trace at. subst (λ (r : Record). Follows g.T.Tables.words g.T.Tables.since (r ∷ trace) c.end_fence.new.self) (sym c.in-RemoteEnd.is) (c.in_ok-end_fence-in-RemoteEnd.ensures.ok c.in-RemoteEnd.hart trace at)

pub returns-in-ClaimBegin-clause-ok : goal.returns-in-ClaimBegin-clause-ok
returns-in-ClaimBegin-clause-ok g c = λ trace at. subst (λ (r : Record). Follows g.T.Tables.words g.T.Tables.since (r ∷ trace) c.begin_claim.new.self) (sym c.in-ClaimBegin.is) (c.in_ok-begin_claim-in-ClaimBegin.ensures.ok c.in-ClaimBegin.hart trace at)

pub returns-in-GiveOut-clause-warnings : goal.returns-in-GiveOut-clause-warnings
returns-in-GiveOut-clause-warnings g c = λ trace at. subst (λ (r : Record). AreWarnings c.args.self.now.scheme r trace c.in_ok-give_out-in-GiveOut.field-0.items) (sym c.in-GiveOut.is) (c.in_ok-give_out-in-GiveOut.ensures.warnings c.in-GiveOut.hart trace at)

pub returns-in-GiveOut-clause-ok : goal.returns-in-GiveOut-clause-ok
returns-in-GiveOut-clause-ok g c = λ trace at. subst (λ (r : Record). Follows g.T.Tables.words g.T.Tables.since (r ∷ trace) c.give_out.new.self) (sym c.in-GiveOut.is) (c.in_ok-give_out-in-GiveOut.ensures.ok c.in-GiveOut.hart trace at)

pub returns-in-GiveBack-clause-warnings : goal.returns-in-GiveBack-clause-warnings
returns-in-GiveBack-clause-warnings g c = λ trace at. subst (λ (r : Record). AreWarnings c.args.self.now.scheme r trace c.in_ok-give_back-in-GiveBack.field-0.items) (sym c.in-GiveBack.is) (c.in_ok-give_back-in-GiveBack.ensures.warnings c.in-GiveBack.hart trace at)

pub returns-in-GiveBack-clause-ok : goal.returns-in-GiveBack-clause-ok
returns-in-GiveBack-clause-ok g c = λ trace at. subst (λ (r : Record). Follows g.T.Tables.words g.T.Tables.since (r ∷ trace) c.give_back.new.self) (sym c.in-GiveBack.is) (c.in_ok-give_back-in-GiveBack.ensures.ok c.in-GiveBack.hart trace at)

pub returns-in-ClaimEnd-clause-warnings : goal.returns-in-ClaimEnd-clause-warnings
returns-in-ClaimEnd-clause-warnings g c = λ trace at. subst (λ (r : Record). AreWarnings c.args.self.now.scheme r trace c.in_ok-end_claim-in-ClaimEnd.field-0.items) (sym c.in-ClaimEnd.is) (c.in_ok-end_claim-in-ClaimEnd.ensures.warnings c.in-ClaimEnd.hart trace at)

pub returns-in-ClaimEnd-clause-ok : goal.returns-in-ClaimEnd-clause-ok
returns-in-ClaimEnd-clause-ok g c = λ trace at. subst (λ (r : Record). Follows g.T.Tables.words g.T.Tables.since (r ∷ trace) c.end_claim.new.self) (sym c.in-ClaimEnd.is) (c.in_ok-end_claim-in-ClaimEnd.ensures.ok c.in-ClaimEnd.hart trace at)
