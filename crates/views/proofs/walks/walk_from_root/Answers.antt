use Rattle.std.proofs.Common.{sym, ◌∙◌}
use Rattle.spaces.specs.Layout.{layout_of}
use Rattle.views.proofs.Goings.{begun, gone, answer-at, flow-more, lower}
use Rattle.views.proofs.walks.walk_from_root.Goals as goal

pub loop-next-init : goal.loop-next-init
loop-next-init c = record {
  fit = c.load_first-word.ensures.fit;
  tlb = c.load_first-word.ensures.tlb;
  going =
      begun (layout_of c.args.config.now) c.args.seat.now.view c.requires.fit.local c.args.root c.args.va c.args.access c.args.ctx c.from_root-walk.result c.load_first-word.result c.load_first-word.new.seat.view
      c.requires.canonical c.from_root-walk.ensures c.load_first-word.ensures.view c.load_first-word.ensures.tells;
}

pub loop-next-preserved : goal.loop-next-preserved
loop-next-preserved c = record {
  fit = c.load_next-word.ensures.fit;
  tlb = c.load_next-word.ensures.tlb ∙ c.loop-next.invariant.tlb;
  going =
      gone (layout_of c.args.config.now) c.args.seat.now.view c.requires.fit.local c.args.root c.args.va c.args.access c.args.ctx c.loop-next.walk c.loop-next.word c.loop-next.seat.view c.loop-next.invariant.going
      c.in-Continue.next c.load_next-word.result c.load_next-word.new.seat.view (flow-more c.load.result c.in-Continue.next (sym c.flow.ensures ∙ c.in-Continue.is) ∙ c.load.ensures) c.load_next-word.ensures.view
      c.load_next-word.ensures.tells;
}

pub returns-in-Break-clause-loads : goal.returns-in-Break-clause-loads
returns-in-Break-clause-loads c =
    answer-at (layout_of c.args.config.now) c.args.seat.now.view c.requires.fit.local c.args.root c.args.va c.args.access c.args.ctx c.loop-next.walk c.loop-next.word c.loop-next.seat.view c.loop-next.invariant.going
    c.load.result c.in-Break.answer c.load.ensures (sym c.flow.ensures ∙ c.in-Break.is)

pub loop-next-smaller : goal.loop-next-smaller
loop-next-smaller c =
    lower (layout_of c.args.config.now) c.args.seat.now.view c.requires.fit.local c.args.root c.args.va c.args.access c.args.ctx c.loop-next.walk c.loop-next.word c.loop-next.seat.view c.loop-next.invariant.going
    c.in-Continue.next (flow-more c.load.result c.in-Continue.next (sym c.flow.ensures ∙ c.in-Continue.is) ∙ c.load.ensures)
