use Rattle.std.proofs.Common.{◌≡◌, ◌∙◌, ap, length, eqb, w8, arith, rules}
use Rattle.std.specs.Int.Count.{count_trailing_zeros}
use Rattle.std.proofs.lemmas.Simd.{bitmask_splat}
use Rattle.tlb.proofs.Lanes.{lowest_in_mask}
use Rattle.tlb.proofs.slots.slot_of.Goals as goal

pub returns : goal.returns
returns c =
    let long : length c.args.ages.now ≡ 16 = search rules in
    ap (count_trailing_zeros 64) (bitmask_splat w8 eqb c.args.ages.now 16 c.args.age long (omega arith)) ∙ lowest_in_mask c.args.ages.now c.args.age long c.requires
