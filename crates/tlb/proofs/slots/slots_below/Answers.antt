use Rattle.std.proofs.Common.{◌≡◌, ℕ, subst, sym, length, ltb, w8, w16, Fits, arith, rules}
use Rattle.std.proofs.lemmas.Bool.{lt-ltb}
use Rattle.std.proofs.lemmas.Simd.{bitmask_splat}
use Rattle.tlb.specs.Slots.{IsIn}
use Rattle.tlb.proofs.Lanes.{is_in_mask, mask_fits}
use Rattle.tlb.proofs.slots.slots_below.Goals as goal

pub overflow_cast-result : goal.overflow_cast-result
overflow_cast-result c =
    let long : length c.args.ages.now ≡ 16 = search rules in
    let mask = bitmask_splat w8 ltb c.args.ages.now 16 c.args.count long (omega arith) in
    subst (Fits w16) (sym mask) (record { fits = mask_fits (λ a. ltb a c.args.count) c.args.ages.now long })

pub returns : goal.returns
returns c =
    λ slot within below.
    let long : length c.args.ages.now ≡ 16 = search rules in
    let mask = bitmask_splat w8 ltb c.args.ages.now 16 c.args.count long (omega arith) in
    let P : ℕ → Type 0 = λ n. IsIn n slot in
    subst P (sym mask) (is_in_mask (λ a. ltb a c.args.count) c.args.ages.now slot long within (lt-ltb _ _ below))
