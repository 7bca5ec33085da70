use Rattle.std.proofs.Common.{◌≡◌, ◌∙◌, ◌∷◌, ◌++◌, ap, ap₂, ℕ, List, []}
use Rattle.watch_report.specs.TextEnds.{text_in}
use Rattle.watch_report.proofs.TextLemmas.{text_in-append}
use Rattle.watch_report.proofs.texts.Texts.add.Goals as goal

pub returns-clause-others : goal.returns-clause-others
returns-clause-others c = λ p within.
    let old = c.args.self.now in
    let ends : c.push_reserved.new.self.items ≡ old.ends.items ++ c.len.result ∷ [] =
    c.push_reserved.ensures.items ∙ ap (λ (ends : List ℕ). ends ++ c.len.result ∷ []) c.reserve.ensures.items in
    ap₂ (λ (bytes ends : List ℕ). text_in bytes ends p)
    (c.in_ok-extend_from_slice.ensures.items ∙ ap (λ (bytes : List ℕ). bytes ++ c.args.text.now) c.make_room.ensures.items) ends
    ∙ text_in-append old.bytes.items old.ends.items c.args.text.now c.len.result p old.in_order within
