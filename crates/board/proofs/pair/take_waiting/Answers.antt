use Rattle.std.proofs.Common.{◌∙◌, sym, ap, ◌++◌, List, [], ◌∷◌, arith, append_assoc}
use Rattle.shoot.specs.Request.{Request}
use Rattle.board.specs.Ends.{InboxState}
use Rattle.board.proofs.Taking.{after_take}
use Rattle.board.proofs.pair.take_waiting.Goals as goal

pub loop-preserved : goal.loop-preserved
loop-preserved c =
    let i = c.loop.invariant in
    let lt = c.loop-test.true in
    let request = c.in-Some.request in
    let first = c.settle-count.new.inbox in
    let next = after_take c.loop.inbox.taken i.0 c.settle-count.new.outbox.accepted c.loop.inbox.known c.take.new.self.known request i.1 i.2 (omega (arith, i.3)) c.in-Some.ensures.oldest in
    let now = c.in-Some.ensures.some in
    let list = c.push_reserved.ensures.items in (
      next.0,
      ap (λ (inbox : InboxState). inbox.taken ++ next.0) now ∙ next.1,
      next.2,
      omega (arith, i.3, next.3),
      now ∙ (ap (λ (before : InboxState). record before { taken = before.taken ++ request ∷ []; known = c.take.new.self.known }) i.4 ∙ ap (λ (taken : List Request). record first { taken = taken; known = c.take.new.self.known }) (append_assoc first.taken c.loop.list.items (request ∷ []) ∙ ap (λ (zs : List Request). first.taken ++ zs) (sym list))),
      omega (arith, c.push_reserved.ensures.len, i.5),
      rw c.push_reserved.ensures.capacity i.6,
    )
