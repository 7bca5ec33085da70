use Rattle.std.proofs.Common.{◌∙◌, sym, subst, List}
use Rattle.watch.specs.declared.trace.Record.TheVariants as records
use Rattle.watch_engine.specs.declared.cause.Cause.TheVariants.{Back}
use Rattle.watch_engine.specs.declared.held.Held.{Held}
use Rattle.watch_engine.specs.Warnings.{AreWarnings}
use Rattle.watch_engine.proofs.Judging.{are_warnings, back_causes}
use Rattle.watch_engine.proofs.Marking.{still_same}
use Rattle.watch_engine.proofs.PlainChanges.{back_stands}
use Rattle.watch_engine.proofs.engine.Watch.give_back.Goals as goal

pub returns-clause-warnings : goal.returns-clause-warnings
returns-clause-warnings g c = λ hart trace at.
    let scheme = c.args.self.now.scheme in
    let frames = c.args.frames in
    let held : List Held = c.args.self.now.held in
    subst (AreWarnings scheme (records.GiveBack hart frames) trace) (sym (c.in_ok-given.ensures))
    (are_warnings scheme (records.GiveBack hart frames) trace (Back frames) _ (back_causes scheme hart frames trace) held at.are)

pub returns-clause-ok : goal.returns-clause-ok
returns-clause-ok g c = λ hart trace at. back_stands at hart c.args.frames _ c.mark_given.ensures

pub mark_given-requires : goal.mark_given-requires
mark_given-requires g c = λ none.
    let held : List Held = c.args.self.now.held in
    still_same (Back c.args.frames) held (sym (c.in_ok-given.ensures) ∙ (sym c.as_slice.ensures.value ∙ none))
