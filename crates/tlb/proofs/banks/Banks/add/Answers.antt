use Rattle.std.proofs.Common.{◌≡◌, ◌++◌, ◌∷◌, [], ◌∙◌, ap, sym, List, arith}
use Rattle.tlb.specs.declared.store.Entry.{Entry}
use Rattle.tlb.specs.declared.banks.Banks.{Banks}
use Rattle.tlb.specs.Banks.{entries_of}
use Rattle.tlb.proofs.Dropping.{entries_after_drop, filled_full, filled_room}
use Rattle.tlb.proofs.banks.Banks.add.Goals.{then-from-eq-TLB_SIZE, else-from-eq-TLB_SIZE}
use Rattle.tlb.proofs.banks.Banks.add.Goals as goal

pub returns-clause-entries : goal.returns-clause-entries
returns-clause-entries c =
    let b = c.args.self.now in
    let e = c.args.entry in
    let counted : c.from.result ≡ b.count = c.from.ensures in
    elim c.if-from-eq-TLB_SIZE.branch [
      | then-from-eq-TLB_SIZE w ↦
          let now = w.drop_oldest.ensures in
          let count : w.drop_oldest.new.self.count ≡ 15 = omega (arith, now.count, counted, w.if-from-eq-TLB_SIZE.true) in
          c.add_youngest.ensures.entries ∙ ap (λ (s : Banks). entries_of s ++ e ∷ []) w.self-is
          ∙ ap (λ (es : List Entry). es ++ e ∷ []) (entries_after_drop b w.drop_oldest.new.self 0 15 now.held now.ages count) ∙ sym (filled_full b c.requires.kept e (sym counted ∙ w.if-from-eq-TLB_SIZE.true))
      | else-from-eq-TLB_SIZE w ↦
          c.add_youngest.ensures.entries ∙ ap (λ (s : Banks). entries_of s ++ e ∷ []) w.self-is ∙ sym (filled_room b c.requires.kept e (omega (arith, c.requires.kept.count, counted, w.if-from-eq-TLB_SIZE.false)))
    ]
