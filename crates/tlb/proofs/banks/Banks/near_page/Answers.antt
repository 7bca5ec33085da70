use Rattle.std.proofs.Common.{arith}
use Rattle.std.proofs.lemmas.Option.{slice_get_within}
use Rattle.tlb.proofs.Tagged.{overlap_has_tag}
use Rattle.tlb.proofs.banks.Banks.near_page.Goals as goal

pub returns : goal.returns
returns c =
    λ slot e at used on.
    let b = c.args.self.now in
    let page = c.args.page.now in
    c.near.ensures slot (omega (arith, slice_get_within b.held slot e at, c.requires.kept.held))
    (rw (c.size.ensures, c.base.ensures.value) (overlap_has_tag b c.requires.kept slot e at used page c.requires.page on))
