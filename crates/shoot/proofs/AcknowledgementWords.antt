-- Two requests with one acknowledgement word are the same.
use Rattle.std.proofs.Common.{◌≡◌, ◌≢◌, ℕ, ◌/◌, ◌%◌, ◌^◌, ◌<◌, Option, Some, None, sym, refl, ap, ◌∙◌, inl, inr, arith}
use Rattle.pte.specs.declared.address.PageSize.{PageSize}
use Rattle.pte.specs.declared.address.PageSize.TheVariants.{Kib4, Mib2, Gib1, Gib512}
use Rattle.pte.specs.declared.address.What.{What}
use Rattle.pte.specs.declared.address.What.TheVariants.{PageOf, SpaceOf, All}
use Rattle.pte.specs.Address.{Span, IsPage, IsCanonical, bytes_of, level_of, widest}
use Rattle.shoot.specs.Acknowledgement.{IsAskable, acknowledgement, number_in, word_with}

level-below : (size : PageSize) → level_of size < 4
level-below Kib4 = omega arith
level-below Mib2 = omega arith
level-below Gib1 = omega arith
level-below Gib512 = omega arith

same-size : (a b : PageSize) → level_of a ≡ level_of b → a ≡ b
same-size Kib4 Kib4 e = refl
same-size Mib2 Mib2 e = refl
same-size Gib1 Gib1 e = refl
same-size Gib512 Gib512 e = refl
same-size Kib4 Mib2 e = absurd (omega arith)
same-size Kib4 Gib1 e = absurd (omega arith)
same-size Kib4 Gib512 e = absurd (omega arith)
same-size Mib2 Kib4 e = absurd (omega arith)
same-size Mib2 Gib1 e = absurd (omega arith)
same-size Mib2 Gib512 e = absurd (omega arith)
same-size Gib1 Kib4 e = absurd (omega arith)
same-size Gib1 Mib2 e = absurd (omega arith)
same-size Gib1 Gib512 e = absurd (omega arith)
same-size Gib512 Kib4 e = absurd (omega arith)
same-size Gib512 Mib2 e = absurd (omega arith)
same-size Gib512 Gib1 e = absurd (omega arith)

aligned-small : (size : PageSize) (base : ℕ) → base % bytes_of size ≡ 0 → base % 4096 ≡ 0
aligned-small Kib4 base e = omega (arith, e)
aligned-small Mib2 base e = omega (arith, e)
aligned-small Gib1 base e = omega (arith, e)
aligned-small Gib512 base e = omega (arith, e)

same-base : (a b : ℕ) → IsCanonical widest a → IsCanonical widest b → a % 4096 ≡ 0 → b % 4096 ≡ 0 → a / 4096 % 2 ^ 36 ≡ b / 4096 % 2 ^ 36 → a ≡ b
same-base a b (inl x) (inl y) p q e = omega (arith, x, y, p, q, e)
same-base a b (inl x) (inr y) p q e = absurd (omega (arith, x, y.0, y.1, p, q, e))
same-base a b (inr x) (inl y) p q e = absurd (omega (arith, x.0, x.1, y, p, q, e))
same-base a b (inr x) (inr y) p q e = omega (arith, x.0, x.1, y.0, y.1, p, q, e)

-- the fields of a word
record Fields (kind size asid number kind' size' asid' number' : ℕ) : Type 0 where
  kinds : kind ≡ kind'
  sizes : size ≡ size'
  asids : asid ≡ asid'
  numbers : number ≡ number'

fields : (kind size asid number kind' size' asid' number' : ℕ) → size < 4 → size' < 4 → asid < 2 ^ 16 → asid' < 2 ^ 16 → number < 2 ^ 36 → number' < 2 ^ 36
    → word_with kind size asid number ≡ word_with kind' size' asid' number' → Fields kind size asid number kind' size' asid' number'
fields kind size asid number kind' size' asid' number' l l' a a' n n' e = record { kinds = omega arith; sizes = omega arith; asids = omega arith; numbers = omega arith }

same-page : (p q : Span) → IsPage p → IsPage q → level_of p.size ≡ level_of q.size → number_in p ≡ number_in q → p ≡ q
same-page p q a b sizes numbers =
    let size = same-size p.size q.size sizes in
    let base = same-base p.base q.base a.canonical b.canonical (aligned-small p.size p.base a.aligned) (aligned-small q.size q.base b.aligned) numbers in
    ap (λ (x : ℕ). record { base = x; size = p.size }) base ∙ ap (λ (x : PageSize). record { base = q.base; size = x }) size

number-below : (page : Span) → number_in page < 2 ^ 36
number-below page = omega arith

pages : (kind kind' asid asid' : ℕ) (p q : Span) → IsPage p → IsPage q → asid < 2 ^ 16 → asid' < 2 ^ 16
    → word_with kind (level_of p.size) asid (number_in p) ≡ word_with kind' (level_of q.size) asid' (number_in q) → (kind ≡ kind') × (asid ≡ asid') × (p ≡ q)
pages kind kind' asid asid' p q a b x y e =
    let t = fields kind (level_of p.size) asid (number_in p) kind' (level_of q.size) asid' (number_in q) (level-below p.size) (level-below q.size) x y (number-below p) (number-below q) e in
    (t.kinds, t.asids, same-page p q a b t.sizes t.numbers)

-- a page's word is that of no other request
pub same-request : (page : Span) (space : Option ℕ) (what : What) → IsAskable (PageOf page space) → IsAskable what → acknowledgement (PageOf page space) ≡ acknowledgement what
    → PageOf page space ≡ what
same-request p (Some a) (PageOf q (Some b)) f g e = let t = pages 0 0 a b p q f.0 g.0 f.1 g.1 e in ap (λ x. PageOf x (Some a)) t.2 ∙ ap (λ x. PageOf q (Some x)) t.1
same-request p (Some a) (PageOf q None) f g e = let t = pages 0 1 a 0 p q f.0 g f.1 (omega arith) e in absurd (let bad = t.0 in omega arith)
same-request p None (PageOf q (Some b)) f g e = let t = pages 1 0 0 b p q f g.0 (omega arith) g.1 e in absurd (let bad = t.0 in omega arith)
same-request p None (PageOf q None) f g e = let t = pages 1 1 0 0 p q f g (omega arith) (omega arith) e in ap (λ x. PageOf x None) t.2
same-request p (Some a) (SpaceOf b) f g e = let h = level-below p.size in let n = number-below p in let x = f.1 in absurd (omega arith)
same-request p None (SpaceOf b) f g e = let h = level-below p.size in let n = number-below p in absurd (omega arith)
same-request p (Some a) All f g e = let h = level-below p.size in let n = number-below p in let x = f.1 in absurd (omega arith)
same-request p None All f g e = let h = level-below p.size in let n = number-below p in absurd (omega arith)

pub same_what : (a b : What) → IsAskable a → IsAskable b → acknowledgement a ≡ acknowledgement b → a ≡ b
same_what (PageOf p s) b f g e = same-request p s b f g e
same_what (SpaceOf a) (PageOf q s) f g e = sym (same-request q s (SpaceOf a) g f (sym e))
same_what (SpaceOf a) (SpaceOf b) f g e = ap SpaceOf (let same : a ≡ b = omega (arith, e) in same)
same_what (SpaceOf a) All f g e = absurd (let x : a < 2 ^ 16 = f in omega (arith, e, x))
same_what All (PageOf q s) f g e = sym (same-request q s All g f (sym e))
same_what All (SpaceOf b) f g e = absurd (let x : b < 2 ^ 16 = g in omega (arith, e, x))
same_what All All f g e = refl

pub not_zero : (a : What) → acknowledgement a ≢ 0
not_zero (PageOf p (Some a)) e = omega (arith, e)
not_zero (PageOf p None) e = omega (arith, e)
not_zero (SpaceOf a) e = omega (arith, e)
not_zero All e = omega (arith, e)
