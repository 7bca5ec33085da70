use Rattle.std.proofs.Common.{◌≡◌, rules}
use Rattle.tlb.specs.Entries.{IsTlb, first_match}
use Rattle.tlb.proofs.Dropping.{IsTlb-entries_of}
use Rattle.tlb.proofs.Translating.{first_match_translates}
use Rattle.tlb.proofs.store.Tlb.lookup.Goals as goal

pub returns-clause-kept : goal.returns-clause-kept
returns-clause-kept c = rw (← c.self.view_is) (IsTlb-entries_of c.self.inside.banks c.self.invariant)

pub returns-clause-translates : goal.returns-clause-translates
returns-clause-translates c =
    let kept : IsTlb c.args.self.now.entries = rw (← c.self.view_is) (IsTlb-entries_of c.self.inside.banks c.self.invariant) in
    let is : c.oldest_match.result ≡ first_match c.args.self.now.entries c.args.asid c.args.va = search rules in
    rw is (first_match_translates c.args.self.now.entries c.args.asid c.args.va kept.pages)
