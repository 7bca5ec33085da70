-- The addresses of one page: they have one path down to the page's level, and are canonical alike.
use Rattle.std.proofs.Common.{◌≡◌, ℕ, ◌+◌, ◌-◌, ◌*◌, ◌/◌, ◌%◌, ◌^◌, ◌<◌, ◌≤◌, Option, Some, ap, sym, ◌∙◌, subst, inl, inr, refl, arith}
use Rattle.std.proofs.lemmas.Nat.{shr-shr, div-mul-add, field_of}
use Rattle.pte.specs.declared.scheme.Scheme.{Scheme}
use Rattle.pte.specs.declared.scheme.Scheme.TheVariants.{Sv39, Sv48}
use Rattle.pte.proofs.Schemes.{bits_levels}
use Rattle.pte.specs.declared.address.PageSize.{PageSize}
use Rattle.pte.specs.declared.address.PageSize.TheVariants.{Kib4}
use Rattle.pte.specs.Address.{IsCanonical, address_bits, bytes_of, level_bytes, level_pages, page_around, top_level, vpn_of, Holds}
use Rattle.pte.specs.declared.address.TheConstants.{TABLE_LENGTH}
use Rattle.walk.specs.Leads.{Tables, PointsTo, Leads, IsGlobalAt}
use Rattle.walk.specs.Maps.{page_number}

same_high : (a b j k : ℕ) → j ≤ k → a / 2 ^ j ≡ b / 2 ^ j → a / 2 ^ k ≡ b / 2 ^ k
same_high a b j k le e =
    let whole : j + (k - j) ≡ k = omega arith in
    ap (λ x. a / 2 ^ x) (sym whole) ∙ sym (shr-shr a j (k - j)) ∙ ap (λ n. n / 2 ^ (k - j)) e ∙ shr-shr b j (k - j) ∙ ap (λ x. b / 2 ^ x) whole

-- addresses of one page of level i have one index at each level from i up
pub same_vpn : (a b i j : ℕ) → i ≤ j → a / level_bytes i ≡ b / level_bytes i → vpn_of a j ≡ vpn_of b j
same_vpn a b i j le e = ap (λ n. n % TABLE_LENGTH) (same_high a b (12 + 9 * i) (12 + 9 * j) (omega arith) e)

canonical-high : (scheme : Scheme) (a b : ℕ) → a / 2 ^ (address_bits scheme - 1) ≡ b / 2 ^ (address_bits scheme - 1) → IsCanonical scheme a → IsCanonical scheme b
canonical-high Sv39 a b e (inl low) = inl (omega arith)
canonical-high Sv39 a b e (inr high) = let from = high.0 in let below = high.1 in inr (omega arith, omega arith)
canonical-high Sv48 a b e (inl low) = inl (omega arith)
canonical-high Sv48 a b e (inr high) = let from = high.0 in let below = high.1 in inr (omega arith, omega arith)

-- and they are canonical together
pub same_canonical : (scheme : Scheme) (a b i : ℕ) → i ≤ top_level scheme → a / level_bytes i ≡ b / level_bytes i → IsCanonical scheme a → IsCanonical scheme b
same_canonical scheme a b i le e = canonical-high scheme a b (same_high a b (12 + 9 * i) (address_bits scheme - 1) (let bits = bits_levels scheme in omega arith) e)

module _ (scheme : Scheme) (words : Tables) (root a b i : ℕ) (same : a / level_bytes i ≡ b / level_bytes i) where
  -- what leads for one of them, at the page's level or above, leads for the others
  pub leads_page : (j t : ℕ) (w : Option ℕ) → i ≤ j → Leads scheme words root a j t w → Leads scheme words root b j t w
  leads_page j t w le p = record {
    tables = p.tables;
    level = p.level;
    first = p.first;
    last = p.last;
    pointers = λ k above below. subst (λ n. PointsTo (words (p.tables k) n) (p.tables (k - 1))) (same_vpn a b i k (omega arith) same) (p.pointers k above below);
    here = p.here ∙ ap (words t) (same_vpn a b i j le same);
  }

  pub global_page : (j : ℕ) → i ≤ j → IsGlobalAt scheme words root a j → IsGlobalAt scheme words root b j
  global_page j le g = record {
    level = g.level;
    table = g.table;
    entry = g.entry;
    from = g.from;
    leads = leads_page g.level g.table (Some g.entry) (omega (arith, g.from)) g.leads;
    global = g.global;
  }

-- an address, and the number of its page of 4 KiB, lie in one page of level i together
pub page-high : (a i : ℕ) → page_number a / level_pages i ≡ a / level_bytes i
page-high a i = shr-shr a 12 (9 * i)

pub same_page-number : (a b i : ℕ) → page_number a ≡ page_number b → a / level_bytes i ≡ b / level_bytes i
same_page-number a b i e = sym (page-high a i) ∙ ap (λ n. n / level_pages i) e ∙ page-high b i

-- the place in a leaf's page, in pages of 4 KiB
pub page-number_in : (ppn va i : ℕ) → page_number (ppn * bytes_of Kib4 + va % level_bytes i) ≡ ppn + page_number va % level_pages i
page-number_in ppn va i =
    let field : va % 2 ^ (9 * i + 12) / bytes_of Kib4 ≡ page_number va % level_pages i = field_of va (9 * i) 12 in
    let exponents : 12 + 9 * i ≡ 9 * i + 12 = omega arith in
    let split : (r : ℕ) → (ppn * bytes_of Kib4 + r) / bytes_of Kib4 ≡ ppn + r / bytes_of Kib4 = λ r. omega arith in
    split (va % level_bytes i) ∙ ap (λ k. ppn + va % 2 ^ k / bytes_of Kib4) exponents ∙ ap (λ n. ppn + n) field

-- what the page around an address holds
between : (q r w n : ℕ) → q * w ≤ n → n < q * w + w → r ≡ n - q * w → n / w ≡ q
between q r w n from below is =
    let whole : q * w + r ≡ n = omega arith in
    ap (λ m. m / w) (sym whole) ∙ div-mul-add q w r (omega arith)

pub holds_around : (va at : ℕ) (size : PageSize) → Holds (page_around va size) at → at / bytes_of size ≡ va / bytes_of size
holds_around va at size h = between (va / bytes_of size) (at - va / bytes_of size * bytes_of size) (bytes_of size) at h.from h.below refl
