use Rattle.std.proofs.Common.{arith}
use Rattle.std.proofs.lemmas.Option.{slice_get_within}
use Rattle.tlb.proofs.Tagged.{has_tag}
use Rattle.tlb.proofs.banks.Banks.near_address.Goals as goal

pub returns : goal.returns
returns c =
    λ slot e at used on.
    let b = c.args.self.now in
    c.near.ensures slot (omega (arith, slice_get_within b.held slot e at, c.requires.held)) (has_tag b c.requires slot e at used c.args.va on)
