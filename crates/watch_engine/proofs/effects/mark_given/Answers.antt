use Rattle.std.proofs.Common.{◌∙◌, None}
use Rattle.std.specs.Prelude.{cond}
use Rattle.watch.specs.declared.trace.Verdict.{Verdict}
use Rattle.watch_engine.specs.declared.cause.Cause.{Cause}
use Rattle.watch_engine.specs.Causes.{applies, verdict_of}
use Rattle.watch_engine.specs.Held.{marked_if}
use Rattle.watch_engine.specs.State.{given_of}
use Rattle.watch_engine.proofs.Changing.{each_changed}
use Rattle.watch_engine.proofs.Effected.{given_state, given_stays}
use Rattle.watch_engine.proofs.effects.mark_given.Goals as goal

pub returns-then-not-is_empty : goal.returns-then-not-is_empty
returns-then-not-is_empty c =
    let cause : Cause = c.args.cause.now in
    let verdict : Verdict = verdict_of cause in
    c.apply.ensures.left
    ∙ each_changed (λ i. cond (applies cause i) (given_of verdict i.state) None) (λ i. (marked_if verdict (applies cause) i).state) (λ i. given_state verdict (applies cause i) i.state) (λ i. given_stays verdict (applies cause i) i.state) c.args.held.now c.apply.ensures.there
