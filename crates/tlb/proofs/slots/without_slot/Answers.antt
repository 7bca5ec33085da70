use Rattle.std.proofs.Common.{◌≡◌, ℕ, ◌-◌, ◌*◌, ◌%◌, ◌^◌, ap, sym, ◌∙◌, w16, arith}
use Rattle.std.specs.Prelude.{bit_and}
use Rattle.std.specs.Int.{bit_at}
use Rattle.std.proofs.lemmas.Nat.{and_le_l}
use Rattle.std.proofs.lemmas.Nat.Bits.{bit_at_clear_same, bit_at_clear_other}
use Rattle.tlb.proofs.slots.without_slot.Goals as goal

pub returns-clause-gone : goal.returns-clause-gone
returns-clause-gone c = bit_at_clear_same w16 c.args.set c.args.slot c.requires

pub returns-clause-others : goal.returns-clause-others
returns-clause-others c = bit_at_clear_other w16 c.args.set c.args.slot c.requires

pub returns-clause-less : goal.returns-clause-less
returns-clause-less c =
    λ there.
    let left : ℕ = bit_and c.args.set (65535 - 1 * 2 ^ c.args.slot % 65536) in
    let gone : bit_at left c.args.slot ≡ 0 = bit_at_clear_same w16 c.args.set c.args.slot c.requires in
    let apart : left ≡ c.args.set → ⊥ = λ same. let zero_one : ◌≡◌ {A = ℕ} 0 1 = sym gone ∙ ap (λ n. bit_at n c.args.slot) same ∙ there in omega arith in
    omega (arith, and_le_l c.args.set (65535 - 1 * 2 ^ c.args.slot % 65536), apart)
