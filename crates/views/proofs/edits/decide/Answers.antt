use Rattle.std.proofs.Common.{sym, ◌∙◌, refl, Ok, Err}
use Rattle.spaces.specs.Layout.{layout_of}
use Rattle.views.proofs.Homeward.{begins-ok, begins-err, ends-fault, ends-store, read-of-view, reads-on, spare-of-view, start-of-view}
use Rattle.views.proofs.edits.decide.Goals as goal

pub returns-in-Err-clause-answer : goal.returns-in-Err-clause-answer
returns-in-Err-clause-answer c =
    begins-err (layout_of c.args.config.now) c.args.seat.now.view c.requires.fit.local c.args.wish.now c.spare-spare.result
    (spare-of-view (layout_of c.args.config.now) c.args.seat.now.view c.requires.fit.local c.args.hart c.args.used c.spare-spare.result c.requires.hart c.requires.used c.spare-spare.ensures.value) c.in-Err.fault
    (start-of-view (layout_of c.args.config.now) c.args.seat.now.view c.args.hart c.args.wish.now (Err c.in-Err.fault) c.requires.hart c.in-Err.ensures)

pub loop-next-init : goal.loop-next-init
loop-next-init c = record {
  fit = c.requires.fit;
  view = refl;
  tlb = refl;
  reading =
      begins-ok (layout_of c.args.config.now) c.args.seat.now.view c.requires.fit.local c.args.wish.now c.spare-spare.result
      (spare-of-view (layout_of c.args.config.now) c.args.seat.now.view c.requires.fit.local c.args.hart c.args.used c.spare-spare.result c.requires.hart c.requires.used c.spare-spare.ensures.value) c.in-Ok.walk
      c.requires.place (start-of-view (layout_of c.args.config.now) c.args.seat.now.view c.args.hart c.args.wish.now (Ok c.in-Ok.walk) c.requires.hart c.in-Ok.ensures);
}

pub read_home-word-requires-clause-home : goal.read_home-word-requires-clause-home
read_home-word-requires-clause-home c = let waits = c.loop-next.invariant.reading.waits in rw (c.loop-next.invariant.view, c.wants-table.ensures.table) waits.home

pub loop-next-smaller : goal.loop-next-smaller
loop-next-smaller c =
    let on = reads-on (layout_of c.args.config.now) c.args.seat.now.view c.requires.fit.local c.args.wish.now c.spare-spare.result c.loop-next.walk
    c.loop-next.invariant.reading c.wants-table.ensures.stage c.wants-table.result.0 c.wants-table.result.1 c.read_home-word.result c.wants-table.ensures.table c.wants-table.ensures.index
    (read-of-view (layout_of c.args.config.now) c.args.seat.now.view c.loop-next.seat.view c.loop-next.invariant.view c.wants-table.result.0 c.wants-table.result.1 c.read_home-word.result c.read_home-word.ensures.word)
    c.in-More.next c.in-More.ensures in
    on.1

pub loop-next-preserved : goal.loop-next-preserved
loop-next-preserved c =
    let on = reads-on (layout_of c.args.config.now) c.args.seat.now.view c.requires.fit.local c.args.wish.now c.spare-spare.result c.loop-next.walk
    c.loop-next.invariant.reading c.wants-table.ensures.stage c.wants-table.result.0 c.wants-table.result.1 c.read_home-word.result c.wants-table.ensures.table c.wants-table.ensures.index
    (read-of-view (layout_of c.args.config.now) c.args.seat.now.view c.loop-next.seat.view c.loop-next.invariant.view c.wants-table.result.0 c.wants-table.result.1 c.read_home-word.result c.read_home-word.ensures.word)
    c.in-More.next c.in-More.ensures in
    record { fit = c.read_home-word.ensures.fit; view = c.read_home-word.ensures.view ∙ c.loop-next.invariant.view; tlb = c.read_home-word.ensures.tlb ∙ c.loop-next.invariant.tlb; reading = on.0 }

pub returns-in-Edit-clause-answer : goal.returns-in-Edit-clause-answer
returns-in-Edit-clause-answer c =
    sym (ends-store (layout_of c.args.config.now) c.args.seat.now.view c.requires.fit.local c.args.wish.now c.spare-spare.result c.loop-next.walk
    c.loop-next.invariant.reading c.wants-table.ensures.stage c.wants-table.result.0 c.wants-table.result.1 c.read_home-word.result c.wants-table.ensures.table c.wants-table.ensures.index
    (read-of-view (layout_of c.args.config.now) c.args.seat.now.view c.loop-next.seat.view c.loop-next.invariant.view c.wants-table.result.0 c.wants-table.result.1 c.read_home-word.result c.read_home-word.ensures.word)
    c.in-Edit.edit c.in-Edit.ensures)

pub returns-in-Refused-clause-answer : goal.returns-in-Refused-clause-answer
returns-in-Refused-clause-answer c =
    sym (ends-fault (layout_of c.args.config.now) c.args.seat.now.view c.requires.fit.local c.args.wish.now c.spare-spare.result c.loop-next.walk
    c.loop-next.invariant.reading c.wants-table.ensures.stage c.wants-table.result.0 c.wants-table.result.1 c.read_home-word.result c.wants-table.ensures.table c.wants-table.ensures.index
    (read-of-view (layout_of c.args.config.now) c.args.seat.now.view c.loop-next.seat.view c.loop-next.invariant.view c.wants-table.result.0 c.wants-table.result.1 c.read_home-word.result c.read_home-word.ensures.word)
    c.in-Refused.fault c.in-Refused.ensures)
