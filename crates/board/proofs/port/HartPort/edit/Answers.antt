use Rattle.std.proofs.Common.{◌+◌, rules, sym, ap, ◌≡◌, ◌∙◌, []}
use Rattle.std.specs.Arc.{arc_value}
use Rattle.pte.specs.declared.address.What.TheVariants.{PageOf}
use Rattle.shoot.specs.Tickets.{answer_for}
use Rattle.spaces.specs.Edits.{page_of, place_of}
use Rattle.history.specs.Setup.{setup_of}
use Rattle.history.specs.Spaces.{asid_in}
use Rattle.board.proofs.Ties.{counted_opened, tied_edited}
use Rattle.board.proofs.port.HartPort.edit.Goals as goal

pub invariant_of-self-2 : goal.invariant_of-self-2
invariant_of-self-2 c =
    let i = c.self.invariant in
    let config = arc_value c.self.inside.config in
    let wish = c.args.wish.now in
    let named = c.in-Some.ensures.some.1 in
    let opened = sym (c.open_for.ensures.answer ∙ ap (answer_for c.self.inside.tickets) named) ∙ c.in-Ok-open_for.is in
    let asked : c.page_request-what.result ≡ PageOf (page_of wish) (asid_in (setup_of config) [] (place_of wish)) =
    c.page_request-what.ensures ∙ (ap (λ p. PageOf c.page.result (asid_in p.setup [] c.place-place.result)) (sym c.self.view_is)
    ∙ (ap (λ page. PageOf page (asid_in (setup_of config) [] c.place-place.result)) c.page.ensures ∙ ap (λ place. PageOf (page_of wish) (asid_in (setup_of config) [] place)) c.place-place.ensures)) in (
      i.0,
      search rules,
      i.2,
      search rules,
      rw (c.open_for.ensures.after, named, c.store.ensures.view, c.deref-2.ensures, asked)
          (tied_edited config c.self.inside.seat.view.orders c.self.inside.tickets wish c.in-Ok-open_for.ticket c.args.named c.in-Ok.edit (c.self.inside.seat.view.stores + 1) c.requires.no_map opened i.4),
      rw (c.open_for.ensures.after, named) (counted_opened c.self.inside.tickets c.self.inside.outboxes.items _ c.args.named c.in-Ok-open_for.ticket opened i.5),
    )
