use Rattle.std.proofs.Common.{◌≡◌, ℕ, ◌-◌, map, subst, slice_index, arith}
use Rattle.tlb.specs.declared.banks.Banks.{Banks}
use Rattle.tlb.specs.Banks.{IsBanks}
use Rattle.tlb.specs.Slots.{closed_up, slot_of}
use Rattle.tlb.proofs.Kept.{kept_by_drop}
use Rattle.tlb.proofs.Ranking.{age_at}
use Rattle.tlb.proofs.banks.Banks.drop_oldest.Goals as goal

pub returns-clause-kept : goal.returns-clause-kept
returns-clause-kept c =
    let b = c.args.self.now in
    let is = c.requires.kept in
    let slot = slot_of b.ages 0 in
    let age : slice_index b.ages slot ≡ 0 = age_at b.ages 0 is.ages (omega arith) in
    let closed : ℕ → Banks = λ g. record { tags = b.tags; masks = b.masks; ages = map (closed_up g) b.ages; held = b.held; count = b.count - 1 } in
    rw c.close_up.ensures (subst (λ g. IsBanks (closed g)) age (kept_by_drop b is slot (is.ages.each 0 (omega arith)) (omega (arith, age, c.requires.some))))
