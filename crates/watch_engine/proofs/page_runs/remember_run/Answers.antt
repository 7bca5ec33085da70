use Rattle.std.proofs.Common.{◌≡◌, ◌∙◌, ap, List, ℕ, ◌+◌, ◌<◌, get_or, length, arith, rules, subst, sym, true}
use Rattle.std.proofs.lemmas.List.{get_or_default}
use Rattle.pte.specs.Address.{Span}
use Rattle.watch_engine.specs.declared.held.LastLive.{LastLive}
use Rattle.watch_engine.specs.PageRuns.{AreHartsOf, is_that_page}
use Rattle.watch_engine.proofs.PageHarts.{one_more, same_page}
use Rattle.watch_engine.proofs.page_runs.remember_run.Goals as goal

pub returns-then-at-live-clause-ok : goal.returns-then-at-live-clause-ok
returns-then-at-live-clause-ok c =
    one_more c.args.live.now c.args.start c.loop-at.at c.index-live-at.result c.args.held.now c.loop-at.held _
    c.loop-at.invariant.1 c.index-live-at.is c.loop-at.invariant.4 c.in_ok-remember_by_hart.ensures.ok

pub loop-at-preserved : goal.loop-at-preserved
loop-at-preserved c =
    let live : List LastLive = c.args.live.now in
    let at : ℕ = c.loop-at.at in
    let next : LastLive = c.index-live-at-else-at-live.result in
    let page : Span = (get_or live c.args.start c.index-live-start.result).entry.page in
    let same : is_that_page next.entry.page page ≡ true = search rules in
    let within : at + 1 < length live = omega arith in (
      omega arith,
      within,
      λ d. ap (λ (l : LastLive). l.entry.page) (get_or_default live (at + 1) d next within ∙ sym c.index-live-at-else-at-live.is) ∙ same_page next.entry.page page same,
      subst (λ (page : Span). AreHartsOf page c.remember_by_hart.new.held c.remember_by_hart.new.harts)
          (ap (λ (l : LastLive). l.entry.page) c.index-live-at.is ∙ c.loop-at.invariant.2 c.index-live-at.result) c.in_ok-remember_by_hart.ensures.harts,
      one_more live c.args.start at c.index-live-at.result c.args.held.now c.loop-at.held _
          c.loop-at.invariant.1 c.index-live-at.is c.loop-at.invariant.4 c.in_ok-remember_by_hart.ensures.ok,
    )
