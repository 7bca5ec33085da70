use Rattle.std.proofs.Common.{rules, ap, sym, subst, ◌≡◌, ◌∙◌, Ok}
use Rattle.std.specs.Arc.{arc_value}
use Rattle.spaces.specs.Layout.{layout_of, root_ppn}
use Rattle.views.specs.Turns.{asid_at}
use Rattle.views.specs.Walks.{with_found}
use Rattle.board.specs.Ports.{PortState}
use Rattle.board.specs.Tables.{own_asid}
use Rattle.board.proofs.Within.{holds_found}
use Rattle.board.proofs.port.HartPort.walk_and_fill.Goals as goal

pub fill-requires : goal.fill-requires
fill-requires c =
    let i = c.self.invariant in
    let config = arc_value c.self.inside.config in
    let space = c.self.inside.space in
    let v = c.self.inside.seat.view in
    let e = c.walk_words.ensures in
    let root : c.root-root.result ≡ root_ppn (layout_of config) space = c.root-root.ensures.value ∙ ap (λ k. root_ppn (layout_of k) space) c.deref.ensures in
    let held : c.walk_words.new.seat.view.entries ≡ with_found (asid_at v.config (root_ppn (layout_of config) space)) v.entries (Ok c.in-Ok.found) =
    e.entries ∙ (ap (λ r. with_found (asid_at v.config r) v.entries c.walk_words.result) root ∙ ap (λ a. with_found (asid_at v.config (root_ppn (layout_of config) space)) v.entries a) c.in-Ok.is) in
    rw c.found.ensures (holds_found config space c.args.asid v c.walk_words.new.seat.view c.in-Ok.found i.3.fit.config
    (subst (λ (p : PortState). c.args.asid ≡ own_asid p) (sym c.self.view_is) c.requires.asid) held)

pub invariant_of-self-2 : goal.invariant_of-self-2
invariant_of-self-2 c = let i = c.self.invariant in (i.0, i.1, i.2, search rules, rw (c.fill.ensures, c.walk_words.ensures.orders) i.4, i.5)
