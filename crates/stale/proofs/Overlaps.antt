-- What an entry and a leaf hold in common: the mappings in the smaller page, or none.
use Rattle.std.proofs.Common.{◌≡◌, ℕ, ◌+◌, ◌-◌, ◌%◌, ◌<◌, ◌≤◌, false, nat_le, inl, inr, arith}
use Rattle.std.proofs.lemmas.Bool.{cases_Bool, leb-false, leb-true}
use Rattle.pte.specs.Address.{Span, IsPage, Overlap, bytes_of, level_of, pages_of}
use Rattle.pte.specs.declared.address.PageSize.{PageSize}
use Rattle.pte.specs.declared.address.PageSize.TheVariants.{Kib4, Mib2, Gib1, Gib512}
use Rattle.walk.specs.Maps.{page_number, LiesIn}
use Rattle.spaces.proofs.Numbers.{place-of-part}
use Rattle.stale.specs.Leaves.{smaller}

-- of two pages that overlap the smaller lies in the other
pub record IsWithin (a b : Span) : Type 0 where
  pub from : b.base ≤ a.base
  pub to : a.base + bytes_of a.size ≤ b.base + bytes_of b.size

nested : (a b : ℕ) (s t : PageSize) (va : ℕ) → level_of s ≤ level_of t → a % bytes_of s ≡ 0 → b % bytes_of t ≡ 0 → a ≤ va → va < a + bytes_of s → b ≤ va → va < b + bytes_of t
    → (b ≤ a) × (a + bytes_of s ≤ b + bytes_of t)
nested a b Kib4 Kib4 va lv x y p q r s = (omega arith, omega arith)
nested a b Kib4 Mib2 va lv x y p q r s = (omega arith, omega arith)
nested a b Kib4 Gib1 va lv x y p q r s = (omega arith, omega arith)
nested a b Kib4 Gib512 va lv x y p q r s = (omega arith, omega arith)
nested a b Mib2 Kib4 va lv x y p q r s = absurd (omega arith)
nested a b Mib2 Mib2 va lv x y p q r s = (omega arith, omega arith)
nested a b Mib2 Gib1 va lv x y p q r s = (omega arith, omega arith)
nested a b Mib2 Gib512 va lv x y p q r s = (omega arith, omega arith)
nested a b Gib1 Kib4 va lv x y p q r s = absurd (omega arith)
nested a b Gib1 Mib2 va lv x y p q r s = absurd (omega arith)
nested a b Gib1 Gib1 va lv x y p q r s = (omega arith, omega arith)
nested a b Gib1 Gib512 va lv x y p q r s = (omega arith, omega arith)
nested a b Gib512 Kib4 va lv x y p q r s = absurd (omega arith)
nested a b Gib512 Mib2 va lv x y p q r s = absurd (omega arith)
nested a b Gib512 Gib1 va lv x y p q r s = absurd (omega arith)
nested a b Gib512 Gib512 va lv x y p q r s = (omega arith, omega arith)

within : (a b : Span) → IsPage a → IsPage b → Overlap a b → level_of a.size ≤ level_of b.size → IsWithin a b
within a b is_a is_b over lv =
    let p = over.1 in
    let q = over.2 in
    let n = nested a.base b.base a.size b.size over.0 lv is_a.aligned is_b.aligned p.from p.below q.from q.below in
    record { from = n.0; to = n.1 }

-- the smaller page lies in both
pub smaller_within : (a b : Span) → IsPage a → IsPage b → Overlap a b → IsWithin (smaller a b) a × IsWithin (smaller a b) b
smaller_within a b is_a is_b over =
    elim (cases_Bool (nat_le (level_of a.size) (level_of b.size))) [
      | inl t ↦ rw t (record { from = omega arith; to = omega arith }, within a b is_a is_b over (leb-true (level_of a.size) (level_of b.size) t))
      | inr f ↦ rw f (within b a is_b is_a (over.0, over.2, over.1) (level_after f), record { from = omega arith; to = omega arith })
    ]
  where
    level_after : nat_le (level_of a.size) (level_of b.size) ≡ false → level_of b.size ≤ level_of a.size
    level_after f = let less = leb-false (level_of a.size) (level_of b.size) f in omega (arith, less)

pub lies_within : (a b : Span) (n : ℕ) → IsWithin a b → LiesIn a n → LiesIn b n
lies_within a b n w at = let from = at.from in let to = at.to in record { from = omega (arith, w.from, from); to = omega (arith, w.to, to) }

pub first_lies : (a : Span) → IsPage a → LiesIn a (page_number a.base)
first_lies a is = first a.base a.size is.aligned
  where
    first : (base : ℕ) (size : PageSize) → base % bytes_of size ≡ 0 → LiesIn (record { base = base; size = size }) (page_number base)
    first base Kib4 e = record { from = omega arith; to = omega arith }
    first base Mib2 e = record { from = omega arith; to = omega arith }
    first base Gib1 e = record { from = omega arith; to = omega arith }
    first base Gib512 e = record { from = omega arith; to = omega arith }

-- the place of a page of 4 KiB in a page, counted from that of another one that does not come later
place_from : (b : Span) (k n : ℕ) → IsPage b → LiesIn b k → LiesIn b n → k ≤ n → n % pages_of b.size ≡ k % pages_of b.size + (n - k)
place_from b k n is at_k at_n order =
    let first = place-of-part b.base b.size k is.aligned at_k in
    let then_ = place-of-part b.base b.size n is.aligned at_n in
    let from = at_k.from in let low : page_number b.base ≤ k = omega (arith, from) in
    omega (arith, first, then_, low, order)

-- frames that agree at the first page of 4 KiB of the smaller page agree at each one, and so the
-- other way round
module _ (a b : Span) (is_a : IsPage a) (is_b : IsPage b) (over : Overlap a b) (p q : ℕ) where
  pub is_small : IsPage (smaller a b)
  is_small = elim (cases_Bool (nat_le (level_of a.size) (level_of b.size))) [ inl t ↦ rw t is_a | inr f ↦ rw f is_b ]

  module _ (n : ℕ) (at : LiesIn (smaller a b) n) where
    order : page_number (smaller a b).base ≤ n
    order = let from = at.from in omega (arith, from)

    in_a : n % pages_of a.size ≡ page_number (smaller a b).base % pages_of a.size + (n - page_number (smaller a b).base)
    in_a =
        let w = (smaller_within a b is_a is_b over).0 in
        place_from a (page_number (smaller a b).base) n is_a (lies_within (smaller a b) a (page_number (smaller a b).base) w (first_lies (smaller a b) is_small)) (lies_within (smaller a b) a n w at) order

    in_b : n % pages_of b.size ≡ page_number (smaller a b).base % pages_of b.size + (n - page_number (smaller a b).base)
    in_b =
        let w = (smaller_within a b is_a is_b over).1 in
        place_from b (page_number (smaller a b).base) n is_b (lies_within (smaller a b) b (page_number (smaller a b).base) w (first_lies (smaller a b) is_small)) (lies_within (smaller a b) b n w at) order

    pub frames_agree : q + page_number (smaller a b).base % pages_of b.size ≡ p + page_number (smaller a b).base % pages_of a.size → q + n % pages_of b.size ≡ p + n % pages_of a.size
    frames_agree e = let x = in_a in let y = in_b in omega (arith, x, y, e)

    pub frames_first : q + n % pages_of b.size ≡ p + n % pages_of a.size → q + page_number (smaller a b).base % pages_of b.size ≡ p + page_number (smaller a b).base % pages_of a.size
    frames_first e = let x = in_a in let y = in_b in omega (arith, x, y, e)
