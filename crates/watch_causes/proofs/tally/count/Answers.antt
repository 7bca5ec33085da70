use Rattle.std.proofs.Common.{◌∙◌, ◌++◌, ◌∷◌, [], List, ap, set, sym}
use Rattle.std.specs.Prelude.{position}
use Rattle.std.proofs.lemmas.Result.{on_ok_weaker}
use Rattle.watch_causes.specs.declared.tally.Tally.{Tally}
use Rattle.watch_causes.specs.Findings.{Judged}
use Rattle.watch_causes.specs.Tallies.{is_of, tallied}
use Rattle.watch_causes.proofs.Tallying.{with-none, with-some}
use Rattle.watch_causes.proofs.tally.count.Goals as goal

pub returns-in-Some : goal.returns-in-Some
returns-in-Some c = λ reason.
    let old : List Tally = c.args.tallies.now.items in
    let v : Judged = record { number = c.args.number; warning = c.args.warning.now; reason = reason } in
    let found = sym (c.in-Some.ensures ∙ ap (position (is_of c.args.cause.now)) c.as_slice.ensures.value) in
    on_ok_weaker c.count.result
    (λ done.
    ap (set old c.in-Some.place) done
    ∙ (ap (λ t. set old c.in-Some.place (tallied c.args.begins c.args.warning.now.verdict t)) c.index_mut.ensures.value
    ∙ with-some c.args.cause.now c.args.begins v old c.in-Some.place c.index_mut.result.now found))
    c.count.ensures

pub returns-in_ok-push-in-None : goal.returns-in_ok-push-in-None
returns-in_ok-push-in-None c = λ reason.
    let old : List Tally = c.args.tallies.now.items in
    let v : Judged = record { number = c.args.number; warning = c.args.warning.now; reason = reason } in
    let none = sym (c.in-None.ensures ∙ ap (position (is_of c.args.cause.now)) c.as_slice.ensures.value) in
    c.in_ok-push-in-None.ensures.items
    ∙ (ap (λ t. old ++ t ∷ []) (c.in_ok-tally-in-None.ensures reason) ∙ with-none c.args.cause.now c.args.begins v old none)
