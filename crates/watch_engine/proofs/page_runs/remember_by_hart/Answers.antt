use Rattle.std.proofs.Common.{◌<◌, ◌∙◌, List, length, subst, sym, true, false, rules}
use Rattle.std.proofs.lemmas.List.{get_or_default}
use Rattle.std.proofs.lemmas.Result.{on_ok_weaker}
use Rattle.watch_engine.specs.declared.held.Held.{Held}
use Rattle.watch_engine.specs.PageRuns.{AreHartsOf}
use Rattle.watch_engine.proofs.PageHarts.{not_there, still_harts}
use Rattle.watch_engine.proofs.page_runs.remember_by_hart.Goals as goal

pub returns-then-harts-live-clause-harts : goal.returns-then-harts-live-clause-harts
returns-then-harts-live-clause-harts c =
    let within : c.args.live.now.hart < length c.args.harts.now = search rules in
    on_ok_weaker c.remember.result (λ is. subst (λ (held : List Held). AreHartsOf c.args.live.now.entry.page held c.args.harts.now) (sym is)
    (still_harts c.args.live.now.entry.page c.args.live.now c.args.held.now c.args.harts.now c.requires (get_or_default c.args.harts.now c.args.live.now.hart true false within ∙ c.if-harts-live.true)))
    c.remember.ensures.ok

pub returns-clause-ok : goal.returns-clause-ok
returns-clause-ok c =
    let within : c.args.live.now.hart < length c.args.harts.now = search rules in
    let held : List Held = c.args.held.now in
    c.in_ok-push.ensures.ok
    ∙ sym (not_there c.args.live.now held (c.requires c.args.live.now.hart (get_or_default c.args.harts.now c.args.live.now.hart true false within ∙ c.if-harts-live.false)))
