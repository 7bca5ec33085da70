use Rattle.std.proofs.Common.{◌∙◌, ap}
use Rattle.std.specs.Prelude.{filter, not}
use Rattle.pte.specs.declared.address.What.TheVariants.{PageOf}
use Rattle.tlb.specs.Entries.{TlbState}
use Rattle.tlb.specs.Service.{is_dropped}
use Rattle.tlb.proofs.Serving.{served_is_meant}
use Rattle.tlb.proofs.store.Tlb.serve_page.Goals as goal

pub returns-clause-meaning : goal.returns-clause-meaning
returns-clause-meaning c =
    λ asked. served_is_meant _ _ _ (PageOf c.args.page.now c.args.asid) asked
    (c.drop_served.ensures.entries ∙ ap (λ (t : TlbState). filter (λ e. not (is_dropped (PageOf c.args.page.now c.args.asid) e)) t.entries) c.self.view_is)
