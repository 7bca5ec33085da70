use Rattle.std.proofs.Common.{◌≡◌, ◌∙◌, ◌<◌, ℕ, Ok, [], get_or, sym}
use Rattle.std.proofs.lemmas.List.Elements.{All-append, All-cons, All-nil}
use Rattle.history.specs.declared.live_step.LiveStep.{LiveStep}
use Rattle.steps.specs.LiveSteps.{setup_step_in}
use Rattle.files.proofs.EachLemmas.{no_text}
use Rattle.files.proofs.TextLemmas.{hart_there, setup_more}
use Rattle.files.proofs.live_file.setup_steps.Goals as goal

pub loop-index-preserved : goal.loop-index-preserved
loop-index-preserved c =
    let read : setup_step_in c.args.scheme c.args.harts (get_or c.args.texts.now c.loop-index.index no_text).now ≡ Ok c.in-Ok.step = sym c.setup_step_among.ensures ∙ c.in-Ok.is in
    let there = hart_there c.args.scheme c.args.harts (get_or c.args.texts.now c.loop-index.index no_text).now c.in-Ok.step read in
    rw c.in_ok-push-in-Ok.ensures.items
    record {
      read = setup_more c.args.scheme c.args.harts c.args.texts.now c.loop-index.index c.loop-index.steps.items no_text c.in-Ok.step c.loop-index-test.true read c.loop-index.invariant.read;
      there =
          All-append (λ (step : ℕ × LiveStep). step.0 < c.args.harts) c.loop-index.steps.items _ c.loop-index.invariant.there
          (All-cons (λ (step : ℕ × LiveStep). step.0 < c.args.harts) c.in-Ok.step [] there (All-nil (λ (step : ℕ × LiveStep). step.0 < c.args.harts)));
    }
