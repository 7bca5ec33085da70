use Rattle.std.proofs.Common.{◌≡◌, ◌∙◌, sym, Bool, true}
use Rattle.watch.specs.Holding.{Translation}
use Rattle.watch_engine.specs.LastAnswer.{IsAnswered}
use Rattle.watch_engine.specs.Held.{is_same_entry}
use Rattle.watch_engine.proofs.Lists.{same_entry}
use Rattle.watch_engine.specs.View.{is_current_in, view_of}
use Rattle.watch_engine.proofs.touched.is_current_again.Goals as goal

pub returns-then-is_same_entry-clause-value : goal.returns-then-is_same_entry-clause-value
returns-then-is_same_entry-clause-value g c =
    let test : Translation → Bool = is_current_in (view_of c.args.view.now) in
    let right : IsAnswered test c.args.last.now = c.requires in
    let of : c.in-Some.answer.current ≡ test (record { root = c.in-Some.answer.root; entry = c.in-Some.answer.entry }) = right c.in-Some.answer c.in-Some.is in
    let same : is_same_entry c.in-Some.answer.entry c.args.entry.now ≡ true = sym c.is_same_entry.ensures ∙ c.if-is_same_entry.true in
    let entry : c.in-Some.answer.entry ≡ c.args.entry.now = same_entry _ _ same in
    of ∙ (λ j. test (record { root = c.if-answer-root.true j; entry = entry j }))
