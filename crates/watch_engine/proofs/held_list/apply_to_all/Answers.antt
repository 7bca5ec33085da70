use Rattle.std.proofs.Common.{◌∙◌, List, ap, map, sym}
use Rattle.std.specs.Prelude.{Option}
use Rattle.watch_engine.specs.declared.held.Held.{Held}
use Rattle.watch_engine.specs.declared.state.State.{State}
use Rattle.watch_engine.specs.Effects.{Does, changed}
use Rattle.watch_engine.proofs.Changing.{none_changed}
use Rattle.watch_engine.proofs.held_list.apply_to_all.Goals as goal

pub returns-in_default-clause-places : goal.returns-in_default-clause-places
returns-in_default-clause-places g c =
    let walked : List Held = c.apply_by_keys-walked.new.places in
    c.apply_each.ensures.places ∙ (ap (λ (e : Does). map (changed e.change) walked) c.apply_by_keys-walked.ensures.same ∙ c.apply_by_keys-walked.ensures.partly.all)

pub returns-clause-places : goal.returns-clause-places
returns-clause-places g c =
    let change : Held → Option State = (g.E.Effect.does c.args.effect.now).change in
    let walked : List Held = c.apply_by_keys-walked.new.places in
    sym (none_changed change walked (c.apply_by_keys-walked.ensures.none c.in-Some.empty c.in-Some.is)) ∙ c.apply_by_keys-walked.ensures.partly.all
