use Rattle.std.proofs.Common.{◌≡◌, length, rules}
use Rattle.pte.specs.declared.address.PageSize.TheVariants.{Kib4}
use Rattle.tlb.specs.Banks.{mask_of, tag_of}
use Rattle.tlb.proofs.Dropping.{youngest_added}
use Rattle.tlb.proofs.Kept.{kept_by_fill}
use Rattle.tlb.proofs.banks.Banks.add_youngest.Goals as goal

pub returns-clause-kept : goal.returns-clause-kept
returns-clause-kept c =
    let b = c.args.self.now in
    let e = c.args.entry in
    let tags : length b.tags ≡ 16 = search rules in
    let masks : length b.masks ≡ 16 = search rules in
    let tag : c.tag_of.result ≡ tag_of e.page.base Kib4 = search rules in
    let mask : c.mask_of.result ≡ mask_of e.page.size = search rules in
    rw (c.slot_of-slot.ensures, tag, mask) (kept_by_fill b c.requires.kept e c.requires.room c.requires.page tags masks)

pub returns-clause-entries : goal.returns-clause-entries
returns-clause-entries c =
    rw c.slot_of-slot.ensures (youngest_added c.args.self.now.held c.args.self.now.ages c.requires.kept.ages c.requires.kept.held c.args.self.now.count c.args.entry c.requires.room)
