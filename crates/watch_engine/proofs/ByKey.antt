-- Fences that may drop an entry are found by four keys.
use Rattle.std.proofs.Common.{◌*◌, ◌/◌, ◌^◌, ◌≡◌, ℕ, ◌<◌, ◌≤◌, ◌+◌, ◌-◌, ◌%◌, Bool, true, false, not, List, [], ◌∷◌, length, take, drop, map, get_or, Option, Some, None, IsTrue, ap, sym, subst, ◌∙◌, refl, arith, zero, suc, inl, inr, add-one}
use Rattle.std.specs.Prelude.{◌==◌, ◌⊎◌, ◌&&◌, ◌||◌, nat_le, nat_lt, if◌then◌else◌}
use Rattle.std.specs.List.{list_any}
use Rattle.std.proofs.lemmas.Bool.{and_parts, and_from, cases_Bool, cases_lt, eq-eqb, eqb-true, eqb-false, false_from_ne_true, not-true, true≢false}
use Rattle.std.proofs.lemmas.Bool.Decides.{nat_tests}
use Rattle.std.proofs.lemmas.List.{length-take-le, length-map, get_or_default, drop_all, drop-append-le, get_or-map}
use Rattle.std.proofs.lemmas.List.Folds.{list_any-append}
use Rattle.std.proofs.Math.Bool.{or-false}
use Rattle.std.proofs.Math.Seq.{take-length, take-suc}
use Rattle.pte.specs.declared.scheme.Scheme.{Scheme}
use Rattle.pte.specs.declared.address.PageSize.{PageSize}
use Rattle.pte.specs.declared.address.PageSize.TheVariants.{Kib4, Mib2, Gib1, Gib512}
use Rattle.pte.specs.Address.{bytes_of, holds, is_canonical}
use Rattle.tlb.specs.declared.store.Entry.{Entry}
use Rattle.tlb.specs.Fence.{is_fenced, is_of_address, is_of_space}
use Rattle.watch.specs.declared.trace.AddressRange.{AddressRange}
use Rattle.watch.specs.Holding.{is_covered, names, reaches}
use Rattle.watch_engine.specs.declared.left.Left.{Left}
use Rattle.watch_engine.specs.declared.left.PastFence.{PastFence}
use Rattle.watch_engine.specs.declared.left.PastFence.TheVariants.{Own, Remote}
use Rattle.watch_engine.specs.Chains.{IsFirst, IsNext, bucket_of, last_place}
use Rattle.watch_engine.specs.Left.{is_taken_since, takes}
use Rattle.watch_engine.specs.PastFences.{NoneBefore, address_key, asid_key, fence_key, is_in_page, is_taken_by, is_taken_by_asid, range_key, takes_by, wide_key}
use Rattle.watch_engine.proofs.LastPlaces.{last_no, last_of_all, last_yes}

-- the entry's page begins at a multiple of its size
abbrev pub IsAligned : Entry → Type 0
IsAligned e = e.page.base % bytes_of e.page.size ≡ 0

-- the key is one of the four of the entry
abbrev pub Concerns : Entry → ℕ → Type 0
Concerns e key =
    (key ≡ address_key e.page.size e.page.base None)
    ⊎ (((e.global ≡ false) × ((key ≡ address_key e.page.size e.page.base (Some e.asid)) ⊎ (key ≡ wide_key (Some e.asid))))
    ⊎ (key ≡ wide_key None))

-- an address of a page has its number
in_page : (size : PageSize) (base address : ℕ) → base % bytes_of size ≡ 0 → base ≤ address
    → address < base + bytes_of size → address / bytes_of size ≡ base / bytes_of size
in_page Kib4 base address aligned low high = omega arith
in_page Mib2 base address aligned low high = omega arith
in_page Gib1 base address aligned low high = omega arith
in_page Gib512 base address aligned low high = omega arith

-- so has the start of a range within one page that reaches that page
across : (size : PageSize) (base start count : ℕ) → base % bytes_of size ≡ 0 → start < base + bytes_of size
    → base < start + count → count ≤ bytes_of size - start % bytes_of size
    → start / bytes_of size ≡ base / bytes_of size
across Kib4 base start count aligned before after within = omega arith
across Mib2 base start count aligned before after within = omega arith
across Gib1 base start count aligned before after within = omega arith
across Gib512 base start count aligned before after within = omega arith

of_address : (scheme : Scheme) (address : ℕ) (e : Entry) → IsAligned e → IsTrue (is_of_address scheme address e)
    → address / bytes_of e.page.size ≡ e.page.base / bytes_of e.page.size
of_address scheme address e aligned is =
    let parts = and_parts (is_canonical scheme address) (holds e.page address) is in
    let both = and_parts (nat_le e.page.base address) _ parts.1 in
    let low : e.page.base ≤ address = grind (arith, nat_tests) in
    let high : address < e.page.base + bytes_of e.page.size = grind (arith, nat_tests) in
    in_page e.page.size e.page.base address aligned low high

of_range : (range : AddressRange) (e : Entry) → IsAligned e → IsTrue (is_in_page e.page.size range) → IsTrue (reaches (Some range) e.page)
    → range.start / bytes_of e.page.size ≡ e.page.base / bytes_of e.page.size
of_range range e aligned fits is =
    let all = and_parts (nat_lt 0 range.size) _ is in
    let parts = and_parts (nat_lt range.start (e.page.base + bytes_of e.page.size)) (nat_lt e.page.base (range.start + range.size)) all.1 in
    let some : 0 < range.size = grind (arith, nat_tests) in
    let start : range.start < e.page.base + bytes_of e.page.size = grind (arith, nat_tests) in
    let end : e.page.base < range.start + range.size = grind (arith, nat_tests) in
    let within : range.size ≤ bytes_of e.page.size - range.start % bytes_of e.page.size = grind (arith, nat_tests) in
    across e.page.size e.page.base range.start range.size aligned start end within

-- the fence has no ASID, or that of the entry, which is not global
of_asid : (scheme : Scheme) (asid : Option ℕ) (e : Entry) → IsTrue (is_fenced scheme None asid e)
    → (asid_key asid ≡ asid_key None) ⊎ ((e.global ≡ false) × (asid_key asid ≡ asid_key (Some e.asid)))
of_asid scheme None e is = inl refl
of_asid scheme (Some asid) e is =
    let parts = and_parts (not e.global) _ is in
    let same : e.asid ≡ asid % 65536 = eqb-true _ _ parts.1 in
    inr (not-true _ parts.0, omega arith)

of_wide : (scheme : Scheme) (asid : Option ℕ) (e : Entry) → IsTrue (is_fenced scheme None asid e) → Concerns e (wide_key asid)
of_wide scheme asid e is =
    elim (of_asid scheme asid e is) [
      | inl all ↦ inr (inr (ap (λ (n : ℕ). 2 ^ 53 + n) all))
      | inr one ↦ inr (inl (one.0, inr (ap (λ (n : ℕ). 2 ^ 53 + n) one.1)))
    ]

of_page : (scheme : Scheme) (address : ℕ) (asid : Option ℕ) (e : Entry) → address / bytes_of e.page.size ≡ e.page.base / bytes_of e.page.size
    → IsTrue (is_fenced scheme None asid e) → Concerns e (address_key e.page.size address asid)
of_page scheme address asid e same is =
    elim (of_asid scheme asid e is) [
      | inl all ↦ inl (λ i. same i % 2 ^ 36 * 2 ^ 17 + all i)
      | inr one ↦ inr (inl (one.0, inl (λ i. same i % 2 ^ 36 * 2 ^ 17 + one.1 i)))
    ]

of_fence : (scheme : Scheme) (range : Option AddressRange) (asid : Option ℕ) (e : Entry) → IsAligned e
    → IsTrue (reaches range e.page) → IsTrue (is_fenced scheme None asid e) → Concerns e (range_key e.page.size range asid)
of_fence scheme None asid e aligned reach is = of_wide scheme asid e is
of_fence scheme (Some range) asid e aligned reach is =
    elim (cases_Bool (is_in_page e.page.size range)) [
      | inl narrow ↦
          subst (Concerns e) (sym (ap (λ b. if b then address_key e.page.size range.start asid else wide_key asid) narrow))
          (of_page scheme range.start asid e (of_range range e aligned narrow reach) is)
      | inr wide ↦
          subst (Concerns e) (sym (ap (λ b. if b then address_key e.page.size range.start asid else wide_key asid) wide)) (of_wide scheme asid e is)
    ]

of_own : (scheme : Scheme) (rs1 rs2 : Option ℕ) (of : ℕ) (e : Entry) → IsAligned e → IsTrue (is_fenced scheme rs1 rs2 e)
    → Concerns e (fence_key e.page.size (Own of rs1 rs2))
of_own scheme None rs2 of e aligned is = of_wide scheme rs2 e is
of_own scheme (Some rs1) None of e aligned is = of_page scheme rs1 None e (of_address scheme rs1 e aligned is) refl
of_own scheme (Some rs1) (Some rs2) of e aligned is =
    let parts = and_parts (is_of_address scheme rs1 e) (is_of_space rs2 e) is in
    of_page scheme rs1 (Some rs2) e (of_address scheme rs1 e aligned parts.0) parts.1

-- a fence that drops an entry has one of the keys of its page, whatever the page's size
concerns : (scheme : Scheme) (l : Left) (e : Entry) (fence : PastFence) → IsAligned e
    → takes scheme l e fence ≡ true → Concerns e (fence_key e.page.size fence)
concerns scheme l e (Own of rs1 rs2) aligned is =
    of_own scheme rs1 rs2 of e aligned (and_parts (of == l.hart) _ is).1
concerns scheme l e (Remote fence begun) aligned is =
    let parts = and_parts (names fence l.hart) _ is in
    let more = and_parts (is_covered scheme fence e) _ parts.1 in
    let covered = and_parts (reaches fence.range e.page) (is_fenced scheme None fence.asid e) more.0 in
    of_fence scheme fence.range fence.asid e aligned covered.0 covered.1

by_key : (key : ℕ) (scheme : Scheme) (l : Left) (e : Entry) (fence : PastFence)
    → takes scheme l e fence ≡ true → fence_key e.page.size fence ≡ key → takes_by key scheme l e fence ≡ true
by_key key scheme l e fence is of = and_from _ _ is (eq-eqb _ _ of)

with_left : (a b c : Bool) → a ≡ true → ((a || b) || c) ≡ true
with_left a b c is = ap (λ t. (t || b) || c) is

with_middle : (a b c : Bool) → b ≡ true → ((a || b) || c) ≡ true
with_middle true b c is = refl
with_middle false b c is = ap (λ t. t || c) is

with_right : (a b c : Bool) → c ≡ true → ((a || b) || c) ≡ true
with_right true b c is = refl
with_right false true c is = refl
with_right false false c is = is

pub one_of : (a b c : Bool) → (a ≡ true) ⊎ ((b ≡ true) ⊎ (c ≡ true)) → ((a || b) || c) ≡ true
one_of a b c (inl is) = with_left a b c is
one_of a b c (inr (inl is)) = with_middle a b c is
one_of a b c (inr (inr is)) = with_right a b c is

pub third : (a b c : Bool) → a ≡ false → b ≡ false → ((a || b) || c) ≡ c
third a b c p q = λ i. (p i || q i) || c

none_of : (t a b c : Bool) → (a ≡ true → t ≡ true) → (b ≡ true → t ≡ true) → (c ≡ true → t ≡ true)
    → (t ≡ true → ((a || b) || c) ≡ true) → t ≡ ((a || b) || c)
none_of true a b c x y z w = sym (w refl)
none_of false a b c x y z w =
    let p : a ≡ false = false_from_ne_true a (λ h. true≢false (sym (x h))) in
    let q : b ≡ false = false_from_ne_true b (λ h. true≢false (sym (y h))) in
    let r : c ≡ false = false_from_ne_true c (λ h. true≢false (sym (z h))) in
    λ i. (sym p i || sym q i) || sym r i

or_left : (a b : Bool) → a ≡ true → (a || b) ≡ true
or_left a b is = ap (λ t. t || b) is

or_right : (a b : Bool) → b ≡ true → (a || b) ≡ true
or_right true b is = refl
or_right false b is = is

either_of : (a b t : Bool) → (a ≡ true → t ≡ true) → (b ≡ true → t ≡ true) → (a || b) ≡ true → t ≡ true
either_of true b t x y is = x refl
either_of false b t x y is = y is

-- a fence drops an entry if it has one of the four keys of its page and drops it
one_fence : (scheme : Scheme) (l : Left) (e : Entry) (fence : PastFence) → IsAligned e
    → takes scheme l e fence
    ≡ ((takes_by (address_key e.page.size e.page.base None) scheme l e fence
    || (not e.global && (takes_by (address_key e.page.size e.page.base (Some e.asid)) scheme l e fence || takes_by (wide_key (Some e.asid)) scheme l e fence)))
    || takes_by (wide_key None) scheme l e fence)
one_fence scheme l e fence aligned =
    let t : Bool = takes scheme l e fence in
    let page : Bool = takes_by (address_key e.page.size e.page.base None) scheme l e fence in
    let own_page : Bool = takes_by (address_key e.page.size e.page.base (Some e.asid)) scheme l e fence in
    let own : Bool = takes_by (wide_key (Some e.asid)) scheme l e fence in
    let all : Bool = takes_by (wide_key None) scheme l e fence in
    none_of t page (not e.global && (own_page || own)) all
    (λ h. (and_parts t (fence_key e.page.size fence == address_key e.page.size e.page.base None) h).0)
    (λ h. either_of own_page own t
    (λ k. (and_parts t (fence_key e.page.size fence == address_key e.page.size e.page.base (Some e.asid)) k).0)
    (λ k. (and_parts t (fence_key e.page.size fence == wide_key (Some e.asid)) k).0)
    (and_parts (not e.global) (own_page || own) h).1)
    (λ h. (and_parts t (fence_key e.page.size fence == wide_key None) h).0)
    (λ h. one_of page (not e.global && (own_page || own)) all (elim (concerns scheme l e fence aligned h) [
      | inl of ↦ inl (by_key _ scheme l e fence h of)
      | inr (inl (g, inl of)) ↦
          inr (inl (and_from (not e.global) (own_page || own) (ap not g) (or_left own_page own (by_key _ scheme l e fence h of))))
      | inr (inl (g, inr of)) ↦
          inr (inl (and_from (not e.global) (own_page || own) (ap not g) (or_right own_page own (by_key _ scheme l e fence h of))))
      | inr (inr of) ↦ inr (inr (by_key _ scheme l e fence h of))
    ]))

swapped : (p q r s : Bool) → ((p || q) || (r || s)) ≡ ((p || r) || (q || s))
swapped true q r s = refl
swapped false true true s = refl
swapped false true false s = refl
swapped false false r s = refl

any_either : (P Q : PastFence → Bool) (fences : List PastFence)
    → list_any (λ f. P f || Q f) fences ≡ (list_any P fences || list_any Q fences)
any_either P Q [] = refl
any_either P Q (f ∷ fences) =
    ap (λ t. (P f || Q f) || t) (any_either P Q fences) ∙ swapped (P f) (Q f) (list_any P fences) (list_any Q fences)

any_never : (fences : List PastFence) → list_any (λ f. false) fences ≡ false
any_never [] = refl
any_never (f ∷ fences) = any_never fences

any_under : (g : Bool) (P : PastFence → Bool) (fences : List PastFence)
    → list_any (λ f. g && P f) fences ≡ (g && list_any P fences)
any_under true P fences = refl
any_under false P fences = any_never fences

any_same : (P Q : PastFence → Bool) → ((f : PastFence) → P f ≡ Q f) → (fences : List PastFence)
    → list_any P fences ≡ list_any Q fences
any_same P Q same [] = refl
any_same P Q same (f ∷ fences) = λ i. same f i || any_same P Q same fences i

-- so do fences
pub by_four_keys : (scheme : Scheme) (l : Left) (e : Entry) (fences : List PastFence) → IsAligned e
    → is_taken_since scheme fences l e
    ≡ ((is_taken_by (address_key e.page.size e.page.base None) scheme fences l e || is_taken_by_asid scheme fences l e)
    || is_taken_by (wide_key None) scheme fences l e)
by_four_keys scheme l e fences aligned =
    let since : List PastFence = drop l.fences fences in
    let P : PastFence → Bool = takes_by (address_key e.page.size e.page.base None) scheme l e in
    let Q : PastFence → Bool = takes_by (address_key e.page.size e.page.base (Some e.asid)) scheme l e in
    let S : PastFence → Bool = takes_by (wide_key (Some e.asid)) scheme l e in
    let R : PastFence → Bool = takes_by (wide_key None) scheme l e in
    any_same (takes scheme l e) (λ f. (P f || (not e.global && (Q f || S f))) || R f) (λ f. one_fence scheme l e f aligned) since
    ∙ any_either (λ f. P f || (not e.global && (Q f || S f))) R since
    ∙ ap (λ t. t || list_any R since) (any_either P (λ f. not e.global && (Q f || S f)) since)
    ∙ ap (λ t. (list_any P since || t) || list_any R since)
    (any_under (not e.global) (λ f. Q f || S f) since ∙ ap (λ t. not e.global && t) (any_either Q S since))

-- the fence at a place is not asked for
none : PastFence
none = Own 0 None None

any_no : (P : PastFence → Bool) (fences : List PastFence) (since n : ℕ) → n < length fences
    → P (get_or fences n none) ≡ false
    → list_any P (drop since (take (suc n) fences)) ≡ list_any P (drop since (take n fences))
any_no P fences since n h is =
    let size : length (take n fences) ≡ n = length-take-le n fences (omega arith) in
    let more = take-suc fences n none h in
    elim (cases_lt n since) [
      | inl before ↦
          (let less : length (take (suc n) fences) ≡ suc n = length-take-le (suc n) fences (omega arith) in
          ap (list_any P) (drop_all since (take (suc n) fences) (omega arith) ∙ sym (drop_all since (take n fences) (omega arith))))
      | inr after ↦
          (ap (λ (xs : List PastFence). list_any P (drop since xs)) more
          ∙ ap (list_any P) (drop-append-le since (take n fences) (get_or fences n none ∷ []) (omega arith))
          ∙ list_any-append P (drop since (take n fences)) (get_or fences n none ∷ [])
          ∙ ap (λ t. list_any P (drop since (take n fences)) || (t || false)) is
          ∙ or-false _)
    ]

-- only fences with the key count, so those after the last one with it do not
any_last : (size : PageSize) (P : PastFence → Bool) (key : ℕ) → ((f : PastFence) → P f ≡ true → fence_key size f ≡ key)
    → (fences : List PastFence) (since n : ℕ) → n ≤ length fences
    → list_any P (drop since (take n fences))
    ≡ list_any P (drop since (take (last_place key (take n (map (fence_key size) fences))) fences))
any_last size P key has fences since zero h = refl
any_last size P key has fences since (suc n) h =
    let keys : List ℕ = map (fence_key size) fences in
    let many : length keys ≡ length fences = length-map fences (fence_key size) in
    let at : get_or keys n 0 ≡ fence_key size (get_or fences n none) = get_or-map (fence_key size) fences n none 0 (omega arith) in
    elim (cases_Bool (get_or keys n 0 == key)) [
      | inl here ↦ ap (λ (m : ℕ). list_any P (drop since (take m fences))) (sym (last_yes (λ k. k == key) keys n (omega arith) here))
      | inr other ↦
          (let not_taken : P (get_or fences n none) ≡ false =
          false_from_ne_true _ (λ taken. eqb-false _ _ other (at ∙ has _ taken)) in
          any_no P fences since n (omega arith) not_taken
          ∙ any_last size P key has fences since n (omega arith)
          ∙ ap (λ (m : ℕ). list_any P (drop since (take m fences))) (sym (last_no (λ k. k == key) keys n (omega arith) other)))
    ]

has_key : (key : ℕ) (scheme : Scheme) (l : Left) (e : Entry) (fence : PastFence)
    → takes_by key scheme l e fence ≡ true → fence_key e.page.size fence ≡ key
has_key key scheme l e fence is = eqb-true _ _ (and_parts (takes scheme l e fence) _ is).1

-- up to here there are as many fences with the key that drop the entry as up to there, if its last place is the same
same_last : (key : ℕ) (scheme : Scheme) (l : Left) (e : Entry) (fences : List PastFence) (n m : ℕ) → n ≤ length fences → m ≤ length fences
    → last_place key (take n (map (fence_key e.page.size) fences)) ≡ last_place key (take m (map (fence_key e.page.size) fences))
    → is_taken_by key scheme (take n fences) l e ≡ is_taken_by key scheme (take m fences) l e
same_last key scheme l e fences n m h k same =
    any_last e.page.size (takes_by key scheme l e) key (has_key key scheme l e) fences l.fences n h
    ∙ ap (λ (last : ℕ). is_taken_by key scheme (take last fences) l e) same
    ∙ sym (any_last e.page.size (takes_by key scheme l e) key (has_key key scheme l e) fences l.fences m k)

-- a fence at a place since then has dropped the entry
taken_at : (P : PastFence → Bool) (fences : List PastFence) (since n : ℕ) → since ≤ n → n < length fences
    → P (get_or fences n none) ≡ true → list_any P (drop since fences) ≡ true
taken_at P [] since n old h is = absurd (omega arith)
taken_at P (f ∷ fences) zero zero old h is = or_left (P f) (list_any P fences) is
taken_at P (f ∷ fences) zero (suc n) old h is = or_right (P f) (list_any P fences) (taken_at P fences zero n (omega arith) (omega arith) is)
taken_at P (f ∷ fences) (suc since) zero old h is = absurd (omega arith)
taken_at P (f ∷ fences) (suc since) (suc n) old h is = taken_at P fences since n (omega arith) (omega arith) is

pub taken : (scheme : Scheme) (l : Left) (e : Entry) (fences : List PastFence) (n : ℕ) (fence : PastFence) → l.fences ≤ n → n < length fences
    → fence ≡ get_or fences n fence → takes scheme l e fence ≡ true → is_taken_since scheme fences l e ≡ true
taken scheme l e fences n fence since h there is =
    taken_at (takes scheme l e) fences l.fences n since h
    (ap (takes scheme l e) (get_or_default fences n none fence h ∙ sym there) ∙ is)

any_of_none : (P : PastFence → Bool) (since : ℕ) → list_any P (drop since []) ≡ false
any_of_none P since = ap (list_any P) (drop_all since [] (omega arith))

or_false : (a b : Bool) → (a || b) ≡ false → (a ≡ false) × (b ≡ false)
or_false true b is = absurd (true≢false is)
or_false false b is = (refl, is)

-- nor is there a narrower one among fewer fences
fewer_narrower : (P Q : PastFence → Bool) → ((f : PastFence) → Q f ≡ true → P f ≡ true) → (fences : List PastFence) (since n m : ℕ) → n ≤ m
    → list_any P (drop since (take m fences)) ≡ false → list_any Q (drop since (take n fences)) ≡ false
fewer_narrower P Q goes fences since zero m h is = any_of_none Q since
fewer_narrower P Q goes [] since (suc n) m h is = any_of_none Q since
fewer_narrower P Q goes (f ∷ fences) since (suc n) zero h is = absurd (omega arith)
fewer_narrower P Q goes (f ∷ fences) zero (suc n) (suc m) h is =
    let parts = or_false (P f) _ is in
    let no : Q f ≡ false = false_from_ne_true (Q f) (λ q. true≢false (sym (goes f q) ∙ parts.0)) in
    ap (λ t. t || list_any Q (take n fences)) no ∙ fewer_narrower P Q goes fences zero n m (omega arith) parts.1
fewer_narrower P Q goes (f ∷ fences) (suc since) (suc n) (suc m) h is = fewer_narrower P Q goes fences since n m (omega arith) is

-- none has, with one more that has not
pub none_more : (scheme : Scheme) (fences : List PastFence) (l : Left) (e : Entry) (n : ℕ) (fence : PastFence) → NoneBefore scheme fences l e n
    → n < length fences → fence ≡ get_or fences n fence → takes scheme l e fence ≡ false → NoneBefore scheme fences l e (n + 1)
none_more scheme fences l e n fence before h there is =
    record {
      since = omega (arith, before.since);
      none =
          ap (λ (m : ℕ). list_any (takes scheme l e) (drop l.fences (take m fences))) (add-one n)
          ∙ any_no (takes scheme l e) fences l.fences n h (ap (takes scheme l e) (get_or_default fences n none fence h ∙ sym there) ∙ is)
          ∙ before.none;
    }

-- the walk along a chain of the key's bucket is at the place before this: the fences up to there that have the
-- key tell what all of them do
pub record IsAt (buckets key : ℕ) (scheme : Scheme) (l : Left) (e : Entry) (fences : List PastFence) (at : ℕ) : Type 0 where
  pub within : at ≤ length fences
  pub bucket : 0 < at → bucket_of buckets (get_or (map (fence_key e.page.size) fences) (at - 1) 0) ≡ bucket_of buckets key
  pub same : is_taken_by key scheme (take at fences) l e ≡ is_taken_by key scheme fences l e

pub at_first : (buckets key : ℕ) (scheme : Scheme) (l : Left) (e : Entry) (fences : List PastFence) (keys : List ℕ) (at : ℕ)
    → keys ≡ map (fence_key e.page.size) fences → IsFirst buckets keys key at → IsAt buckets key scheme l e fences at
at_first buckets key scheme l e fences keys at are first =
    let all : List ℕ = map (fence_key e.page.size) fences in
    let size : length all ≡ length fences = length-map fences (fence_key e.page.size) in
    let of : IsFirst buckets all key at = subst (λ (ks : List ℕ). IsFirst buckets ks key at) are first in
    let last : last_place key (take (length fences) all) ≡ last_place key all =
    ap (λ (n : ℕ). last_place key (take n all)) (sym size) ∙ last_of_all key all in
    record {
      within = omega (arith, of.within);
      bucket = of.bucket;
      same =
          same_last key scheme l e fences at (length fences) (omega (arith, of.within)) (omega arith) (of.same ∙ sym last)
          ∙ ap (λ (xs : List PastFence). is_taken_by key scheme xs l e) (take-length fences);
    }

pub at_next : (buckets key : ℕ) (scheme : Scheme) (l : Left) (e : Entry) (fences : List PastFence) (keys : List ℕ) (at older : ℕ) (fence : PastFence)
    → keys ≡ map (fence_key e.page.size) fences → 0 < at → IsAt buckets key scheme l e fences at
    → fence ≡ get_or fences (at - 1) fence → takes scheme l e fence ≡ false
    → IsNext buckets keys at older → IsAt buckets key scheme l e fences older
at_next buckets key scheme l e fences keys zero older fence are some was there no_drop next = absurd (omega arith)
at_next buckets key scheme l e fences keys (suc n) older fence are some was there no_drop next =
    let all : List ℕ = map (fence_key e.page.size) fences in
    let size : length all ≡ length fences = length-map fences (fence_key e.page.size) in
    let at : suc n - 1 ≡ n = omega arith in
    let room : n < length fences = omega (arith, was.within) in
    let on : IsNext buckets all (suc n) older = subst (λ (ks : List ℕ). IsNext buckets ks (suc n) older) are next in
    let here : get_or fences n none ≡ fence =
    get_or_default fences n none fence room ∙ ap (λ (m : ℕ). get_or fences m fence) (sym at) ∙ sym there in
    let not_taken : takes_by key scheme l e (get_or fences n none) ≡ false =
    ap (takes_by key scheme l e) here ∙ ap (λ t. t && (fence_key e.page.size fence == key)) no_drop in
    let last : last_place key (take n all) ≡ last_place key (take older all) =
    ap (λ (m : ℕ). last_place key (take m all)) (sym at) ∙ on.same key (sym (was.bucket some)) in
    record {
      within = omega (arith, on.within);
      bucket = λ more. on.bucket more ∙ was.bucket some;
      same =
          sym (same_last key scheme l e fences n older (omega arith) (omega (arith, on.within)) last)
          ∙ sym (any_no (takes_by key scheme l e) fences l.fences n room not_taken) ∙ was.same;
    }

-- where the walk meets the fences that were looked at, none has the key and has dropped the entry
pub at_none : (buckets key : ℕ) (scheme : Scheme) (l : Left) (e : Entry) (fences : List PastFence) (at n : ℕ) → at ≤ n
    → IsAt buckets key scheme l e fences at → NoneBefore scheme fences l e n → is_taken_by key scheme fences l e ≡ false
at_none buckets key scheme l e fences at n h was before =
    sym was.same
    ∙ fewer_narrower (takes scheme l e) (takes_by key scheme l e)
    (λ f is. (and_parts (takes scheme l e f) (fence_key e.page.size f == key) is).0) fences l.fences at n h before.none
