use Rattle.std.proofs.Common.{◌≡◌, ◌∙◌, sym, rules}
use Rattle.tlb.proofs.Dropping.{length-entries_of}
use Rattle.tlb.proofs.banks.Banks.len.Goals as goal

pub returns : goal.returns
returns c =
    let counted : c.from.result ≡ c.args.self.now.count = search rules in
    counted ∙ sym (length-entries_of c.args.self.now c.requires)
