-- The VPNs of an address, and the one address that has them.
use Rattle.std.proofs.Common.{◌≡◌, ℕ, ◌+◌, ◌-◌, ◌*◌, ◌/◌, ◌%◌, ◌^◌, ◌<◌, ◌≤◌, ap, sym, ◌∙◌, inl, inr, refl, arith}
use Rattle.std.proofs.lemmas.Nat.{field_of, mod-pow-add, mul-add-lt, pow-add, shl-shr, shr-shr}
use Rattle.pte.specs.declared.scheme.Scheme.{Scheme}
use Rattle.pte.specs.declared.scheme.Scheme.TheVariants.{Sv39, Sv48}
use Rattle.pte.specs.declared.address.PageSize.{PageSize}
use Rattle.pte.specs.declared.address.PageSize.TheVariants.{Kib4, Mib2, Gib1, Gib512}
use Rattle.pte.specs.Address.{IsCanonical, IsPageOf, Span, address_bits, level_bytes, level_of, top_level, vpn_of}
use Rattle.pte.proofs.Schemes.{bits_levels}
use Rattle.watch_tables.specs.Ways.{vpn_from}

-- the VPNs from a level up are those above it, and its own
pub vpn-split : (scheme : Scheme) (i va : ℕ) → i ≤ top_level scheme → vpn_from scheme i va ≡ vpn_from scheme (i + 1) va * 512 + vpn_of va i
vpn-split scheme i va le =
    let here : ℕ = va / 2 ^ (12 + 9 * i) in
    let above : ℕ = 9 * (top_level scheme + 1 - (i + 1)) in
    let whole : 9 * (top_level scheme + 1 - i) ≡ above + 9 = omega arith in
    let up : 12 + 9 * i + 9 ≡ 12 + 9 * (i + 1) = omega arith in
    ap (λ k. here % 2 ^ k) whole ∙ mod-pow-add here above 9 ∙ ap (λ q. q % 2 ^ above * 512 + here % 512) (shr-shr va (12 + 9 * i) 9 ∙ ap (λ k. va / 2 ^ k) up)

bits-split : (scheme : Scheme) (i : ℕ) → i ≤ top_level scheme → address_bits scheme ≡ 9 * (top_level scheme + 1 - i) + (12 + 9 * i)
bits-split scheme i le = let bits = bits_levels scheme in omega arith

-- the page around an address whose bits are these VPNs has them
pub vpn-around : (scheme : Scheme) (i vpn va base : ℕ) → i ≤ top_level scheme → base ≡ va / level_bytes i * level_bytes i → va % 2 ^ address_bits scheme ≡ vpn * level_bytes i → vpn_from scheme i base ≡ vpn
vpn-around scheme i vpn va base le around bits =
    let rows : ℕ = 9 * (top_level scheme + 1 - i) in
    let k : ℕ = 12 + 9 * i in
    ap (λ b. b / 2 ^ k % 2 ^ rows) around ∙ ap (λ q. q % 2 ^ rows) (shl-shr (va / 2 ^ k) k) ∙ sym (field_of va rows k) ∙ ap (λ n. va % 2 ^ n / 2 ^ k) (sym (bits-split scheme i le)) ∙ ap (λ b. b / 2 ^ k) bits ∙ shl-shr vpn k

-- canonical addresses with the same bits are one
same-canonical : (scheme : Scheme) (a b : ℕ) → IsCanonical scheme a → IsCanonical scheme b → a % 2 ^ address_bits scheme ≡ b % 2 ^ address_bits scheme → a ≡ b
same-canonical Sv39 a b (inl p) (inl q) e = omega arith
same-canonical Sv39 a b (inl p) (inr q) e = let from = q.0 in let below = q.1 in omega arith
same-canonical Sv39 a b (inr p) (inl q) e = let from = p.0 in let below = p.1 in omega arith
same-canonical Sv39 a b (inr p) (inr q) e = let from = q.0 in let below = q.1 in let from' = p.0 in let below' = p.1 in omega arith
same-canonical Sv48 a b (inl p) (inl q) e = omega arith
same-canonical Sv48 a b (inl p) (inr q) e = let from = q.0 in let below = q.1 in omega arith
same-canonical Sv48 a b (inr p) (inl q) e = let from = p.0 in let below = p.1 in omega arith
same-canonical Sv48 a b (inr p) (inr q) e = let from = q.0 in let below = q.1 in let from' = p.0 in let below' = p.1 in omega arith

-- the bits of a base are its VPNs
base-bits : (scheme : Scheme) (i a : ℕ) → i ≤ top_level scheme → a % level_bytes i ≡ 0 → a % 2 ^ address_bits scheme ≡ vpn_from scheme i a * level_bytes i + 0
base-bits scheme i a le aligned =
    ap (λ n. a % 2 ^ n) (bits-split scheme i le) ∙ mod-pow-add a (9 * (top_level scheme + 1 - i)) (12 + 9 * i) ∙ ap (λ r. vpn_from scheme i a * level_bytes i + r) aligned

pub same-base : (scheme : Scheme) (i a b : ℕ) → i ≤ top_level scheme → IsCanonical scheme a → IsCanonical scheme b → a % level_bytes i ≡ 0 → b % level_bytes i ≡ 0 → vpn_from scheme i a ≡ vpn_from scheme i b → a ≡ b
same-base scheme i a b le canonical_a canonical_b aligned_a aligned_b same =
    same-canonical scheme a b canonical_a canonical_b (base-bits scheme i a le aligned_a ∙ ap (λ v. v * level_bytes i + 0) same ∙ sym (base-bits scheme i b le aligned_b))

-- a level has one size
pub same-size : (a b : PageSize) → level_of a ≡ level_of b → a ≡ b
same-size Kib4 Kib4 e = refl
same-size Kib4 Mib2 e = absurd (omega arith)
same-size Kib4 Gib1 e = absurd (omega arith)
same-size Kib4 Gib512 e = absurd (omega arith)
same-size Mib2 Kib4 e = absurd (omega arith)
same-size Mib2 Mib2 e = refl
same-size Mib2 Gib1 e = absurd (omega arith)
same-size Mib2 Gib512 e = absurd (omega arith)
same-size Gib1 Kib4 e = absurd (omega arith)
same-size Gib1 Mib2 e = absurd (omega arith)
same-size Gib1 Gib1 e = refl
same-size Gib1 Gib512 e = absurd (omega arith)
same-size Gib512 Kib4 e = absurd (omega arith)
same-size Gib512 Mib2 e = absurd (omega arith)
same-size Gib512 Gib1 e = absurd (omega arith)
same-size Gib512 Gib512 e = refl

-- so a page is known by its level and its VPNs
pub same-page : (scheme : Scheme) (i : ℕ) (p q : Span) → IsPageOf scheme p → IsPageOf scheme q → level_of p.size ≡ i → level_of q.size ≡ i → vpn_from scheme i p.base ≡ vpn_from scheme i q.base → p ≡ q
same-page scheme i p q is_p is_q at_p at_q same =
    let bases : p.base ≡ q.base = same-base scheme i p.base q.base (omega (arith, is_p.level)) is_p.canonical is_q.canonical (ap (λ k. p.base % level_bytes k) (sym at_p) ∙ is_p.aligned) (ap (λ k. q.base % level_bytes k) (sym at_q) ∙ is_q.aligned) same in
    ap (λ b. record { base = b; size = p.size }) bases ∙ ap (λ s. record { base = q.base; size = s }) (same-size p.size q.size (at_p ∙ sym at_q))

-- one more VPN stays in its bits
pub vpn-next : (scheme : Scheme) (i vpn index : ℕ) → 0 < i → i ≤ top_level scheme → vpn < 2 ^ (9 * (top_level scheme - i)) → index < 512 → vpn * 512 + index < 2 ^ (9 * (top_level scheme - (i - 1)))
vpn-next scheme i vpn index above le small at =
    let less = mul-add-lt vpn 512 index (2 ^ (9 * (top_level scheme - i))) small at in
    let exponent : 9 * (top_level scheme - (i - 1)) ≡ 9 + 9 * (top_level scheme - i) = omega arith in
    let whole : 2 ^ (9 * (top_level scheme - (i - 1))) ≡ 512 * 2 ^ (9 * (top_level scheme - i)) = ap (λ k. 2 ^ k) exponent ∙ pow-add 2 9 (9 * (top_level scheme - i)) in
    omega arith
