-- Addresses, their indices, and the pages that they lie in.
use Rattle.pte.specs.declared.scheme.Scheme.{Scheme}
use Rattle.std.proofs.lemmas.Nat.{shr-shr}
use Rattle.pte.specs.declared.scheme.Scheme.TheVariants.{Sv39, Sv48}
use Rattle.walk.proofs.Pages.{same_canonical}
use Rattle.std.proofs.Common.{◌≡◌, ℕ, zero, suc, ap, sym, ◌∙◌, subst, ◌+◌, ◌-◌, ◌*◌, ◌/◌, ◌%◌, ◌^◌, ◌≤◌, inl, inr, arith}
use Rattle.pte.specs.declared.address.PageSize.{PageSize}
use Rattle.pte.specs.declared.address.PageSize.TheVariants.{Kib4, Mib2, Gib1, Gib512}
use Rattle.pte.specs.Address.{IsCanonical, top_level, level_bytes, level_pages, level_of, bytes_of, vpn_of}
use Rattle.walk.specs.Maps.{page_number, LiesIn}

-- the indices of a canonical address determine it: at the top level, as no two addresses differ
-- above it alone
top-same : (scheme : Scheme) (a b : ℕ) → IsCanonical scheme a → IsCanonical scheme b → vpn_of a (top_level scheme) ≡ vpn_of b (top_level scheme) → a / level_bytes (top_level scheme) ≡ b / level_bytes (top_level scheme)
top-same Sv39 a b (inl low) (inl low') e = omega arith
top-same Sv39 a b (inl low) (inr high) e = absurd (omega (arith, high.0, high.1))
top-same Sv39 a b (inr high) (inl low) e = absurd (omega (arith, high.0, high.1))
top-same Sv39 a b (inr high) (inr high') e = omega (arith, high.0, high.1, high'.0, high'.1)
top-same Sv48 a b (inl low) (inl low') e = omega arith
top-same Sv48 a b (inl low) (inr high) e = absurd (omega (arith, high.0, high.1))
top-same Sv48 a b (inr high) (inl low) e = absurd (omega (arith, high.0, high.1))
top-same Sv48 a b (inr high) (inr high') e = omega (arith, high.0, high.1, high'.0, high'.1)

-- and at a level, where they are alike at the one above
row-same : (x y : ℕ) → x / 512 ≡ y / 512 → x % 512 ≡ y % 512 → x ≡ y
row-same x y e f = omega arith

down-same : (a b i : ℕ) → a / level_bytes (i + 1) ≡ b / level_bytes (i + 1) → vpn_of a i ≡ vpn_of b i → a / level_bytes i ≡ b / level_bytes i
down-same a b i e f =
    let bits : 12 + 9 * i + 9 ≡ 12 + 9 * (i + 1) = omega arith in
    let above : (n : ℕ) → n / level_bytes i / 2 ^ 9 ≡ n / level_bytes (i + 1) = λ n. shr-shr n (12 + 9 * i) 9 ∙ ap (λ k. n / 2 ^ k) bits in
    row-same (a / level_bytes i) (b / level_bytes i) (above a ∙ e ∙ sym (above b)) f

same-from : (scheme : Scheme) (a b n i : ℕ) → i + n ≡ top_level scheme → IsCanonical scheme a → IsCanonical scheme b → ((j : ℕ) → i ≤ j → j ≤ top_level scheme → vpn_of a j ≡ vpn_of b j) → a / level_bytes i ≡ b / level_bytes i
same-from scheme a b zero i at ca cb same =
    let top : top_level scheme ≡ i = omega arith in
    subst (λ k. a / level_bytes k ≡ b / level_bytes k) top (top-same scheme a b ca cb (same (top_level scheme) (omega arith) (omega arith)))
same-from scheme a b (suc n) i at ca cb same =
    down-same a b i (same-from scheme a b n (i + 1) (omega arith) ca cb (λ j from to. same j (omega arith) to)) (same i (omega arith) (omega arith))

pub same-page : (scheme : Scheme) (a b : ℕ) (size : PageSize) → level_of size ≤ top_level scheme → IsCanonical scheme a → IsCanonical scheme b
    → ((j : ℕ) → level_of size ≤ j → j ≤ top_level scheme → vpn_of a j ≡ vpn_of b j)
    → a / bytes_of size ≡ b / bytes_of size
same-page scheme a b size low ca cb same = same-from scheme a b (top_level scheme - level_of size) (level_of size) (omega arith) ca cb same

-- a part of a page, and the addresses in it
pub part-of : (base : ℕ) (size : PageSize) (va number : ℕ) → base % bytes_of size ≡ 0 → page_number va ≡ number → va / bytes_of size ≡ base / bytes_of size → LiesIn (record { base = base; size = size }) number
part-of base Kib4 va number aligned is e = record { from = omega arith; to = omega arith }
part-of base Mib2 va number aligned is e = record { from = omega arith; to = omega arith }
part-of base Gib1 va number aligned is e = record { from = omega arith; to = omega arith }
part-of base Gib512 va number aligned is e = record { from = omega arith; to = omega arith }

pub of-part : (base : ℕ) (size : PageSize) (va number : ℕ) → base % bytes_of size ≡ 0 → page_number va ≡ number → LiesIn (record { base = base; size = size }) number → va / bytes_of size ≡ base / bytes_of size
of-part base Kib4 va number aligned is part = omega (arith, part.from, part.to)
of-part base Mib2 va number aligned is part = omega (arith, part.from, part.to)
of-part base Gib1 va number aligned is part = omega (arith, part.from, part.to)
of-part base Gib512 va number aligned is part = omega (arith, part.from, part.to)

-- its place in the page
pub place-of-part : (base : ℕ) (size : PageSize) (number : ℕ) → base % bytes_of size ≡ 0 → LiesIn (record { base = base; size = size }) number → number % level_pages (level_of size) ≡ number - page_number base
place-of-part base Kib4 number aligned part = omega (arith, part.from, part.to)
place-of-part base Mib2 number aligned part = omega (arith, part.from, part.to)
place-of-part base Gib1 number aligned part = omega (arith, part.from, part.to)
place-of-part base Gib512 number aligned part = omega (arith, part.from, part.to)

pub number-part : (number : ℕ) → page_number (number * 4096) ≡ number
number-part number = omega arith

-- the first address of a part is canonical
pub canonical-part : (scheme : Scheme) (base : ℕ) (size : PageSize) (number : ℕ) → level_of size ≤ top_level scheme → IsCanonical scheme base → base % bytes_of size ≡ 0
    → LiesIn (record { base = base; size = size }) number → IsCanonical scheme (number * 4096)
canonical-part scheme base size number low canonical aligned part =
    same_canonical scheme base (number * 4096) (level_of size) low (sym (of-part base size (number * 4096) number aligned (number-part number) part)) canonical
