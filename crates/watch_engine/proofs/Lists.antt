-- Lists of what harts may hold.
use Rattle.std.proofs.Common.{◌≡◌, ℕ, zero, suc, length, take, get_or, ◌<◌, ◌≤◌, Bool, true, false, List, [], ◌∷◌, IsTrue, ap, sym, ◌∙◌, refl, inl, inr, arith}
use Rattle.std.specs.Prelude.{◌↔◌, ◌==◌, ◌&&◌, ◌||◌, nat_le, nat_lt, cond, map, filter}
use Rattle.std.proofs.lemmas.Bool.{and_parts, and_from, eq-eqb, eqb-true, or_cases, or_left, or_right, not-true, true≢false}
use Rattle.std.proofs.lemmas.Bool.Decides.{nat_tests}
use Rattle.pte.specs.declared.address.PageSize.{PageSize}
use Rattle.pte.specs.declared.address.PageSize.TheVariants.{Kib4, Mib2, Gib1, Gib512}
use Rattle.pte.specs.Address.{level_of}
use Rattle.tlb.specs.declared.store.Entry.{Entry}
use Rattle.watch.specs.Holding.{Translation}
use Rattle.watch_engine.specs.declared.held.Held.{Held}
use Rattle.watch.specs.Computed.{is_same}
use Rattle.watch_engine.specs.declared.state.State.{State}
use Rattle.watch_engine.specs.Held.{Each, is_of, is_same_entry, knows, translation_of, with_state}

-- equal by the test
pub same_bool : (a b : Bool) → is_same a b ≡ true → a ≡ b
same_bool true b h = sym h
same_bool false b h = sym (not-true b h)

pub bool_same : (a : Bool) → is_same a a ≡ true
bool_same true = refl
bool_same false = refl

pub same_size : (a b : PageSize) → level_of a ≡ level_of b → a ≡ b
same_size Kib4 Kib4 e = refl
same_size Kib4 Mib2 e = absurd (omega arith)
same_size Kib4 Gib1 e = absurd (omega arith)
same_size Kib4 Gib512 e = absurd (omega arith)
same_size Mib2 Kib4 e = absurd (omega arith)
same_size Mib2 Mib2 e = refl
same_size Mib2 Gib1 e = absurd (omega arith)
same_size Mib2 Gib512 e = absurd (omega arith)
same_size Gib1 Kib4 e = absurd (omega arith)
same_size Gib1 Mib2 e = absurd (omega arith)
same_size Gib1 Gib1 e = refl
same_size Gib1 Gib512 e = absurd (omega arith)
same_size Gib512 Kib4 e = absurd (omega arith)
same_size Gib512 Mib2 e = absurd (omega arith)
same_size Gib512 Gib1 e = absurd (omega arith)
same_size Gib512 Gib512 e = refl

pub same_entry : (a b : Entry) → is_same_entry a b ≡ true → a ≡ b
same_entry a b h =
    let p = and_parts (a.asid == b.asid) _ h in
    let q = and_parts (is_same a.global b.global) _ p.1 in
    let r = and_parts (a.page.base == b.page.base) _ q.1 in
    let s = and_parts (level_of a.page.size == level_of b.page.size) _ r.1 in
    let t = and_parts (a.ppn == b.ppn) (a.flags.0 == b.flags.0) s.1 in
    let asid : a.asid ≡ b.asid = eqb-true _ _ p.0 in
    let global : a.global ≡ b.global = same_bool _ _ q.0 in
    let base : a.page.base ≡ b.page.base = eqb-true _ _ r.0 in
    let size : a.page.size ≡ b.page.size = same_size _ _ (eqb-true _ _ s.0) in
    let ppn : a.ppn ≡ b.ppn = eqb-true _ _ t.0 in
    let bits : a.flags.0 ≡ b.flags.0 = eqb-true _ _ t.1 in
    λ i. record { asid = asid i; global = global i; page = record { base = base i; size = size i }; ppn = ppn i; flags = record { 0 = bits i } }

pub entry_same : (a : Entry) → is_same_entry a a ≡ true
entry_same a =
    and_from _ _ (eq-eqb a.asid a.asid refl) (and_from _ _ (bool_same a.global) (and_from _ _ (eq-eqb a.page.base a.page.base refl)
    (and_from _ _ (eq-eqb (level_of a.page.size) (level_of a.page.size) refl) (and_from _ _ (eq-eqb a.ppn a.ppn refl) (eq-eqb a.flags.0 a.flags.0 refl)))))

pub record Same (h : ℕ) (x : Translation) (i : Held) : Type 0 where
  pub hart : i.hart ≡ h
  pub translation : translation_of i ≡ x

pub of_same : (hart : ℕ) (x : Translation) (i : Held) → is_of hart x i ≡ true → Same hart x i
of_same hart x i h =
    let p = and_parts (i.hart == hart) _ h in
    let q = and_parts (i.root == x.root) _ p.1 in
    let root : i.root ≡ x.root = eqb-true _ _ q.0 in
    let entry : i.entry ≡ x.entry = same_entry _ _ q.1 in
    record { hart = eqb-true _ _ p.0; translation = λ k. record { root = root k; entry = entry k } }

pub is_itself : (i : Held) → is_of i.hart (translation_of i) i ≡ true
is_itself i = and_from _ _ (eq-eqb i.hart i.hart refl) (and_from _ _ (eq-eqb i.root i.root refl) (entry_same i.entry))

pub at_most : (a b : ℕ) → nat_le a b ≡ true → a ≤ b
at_most a b h = grind (arith, nat_tests)

pub from_at_most : (a b : ℕ) → a ≤ b → nat_le a b ≡ true
from_at_most a b h = grind (arith, nat_tests)

pub within : (a b : ℕ) → nat_lt a b ≡ true → a < b
within a b h = grind (arith, nat_tests)

pub from_within : (a b : ℕ) → a < b → nat_lt a b ≡ true
from_within a b h = grind (arith, nat_tests)

-- Each
pub each_weaker : (P Q : Held → Type 0) → ((i : Held) → P i → Q i) → (held : List Held) → Each P held → Each Q held
each_weaker P Q f [] e = tt
each_weaker P Q f (i ∷ held) e = (f i e.0, each_weaker P Q f held e.1)

pub each_of : (P : Held → Type 0) → ((i : Held) → P i) → (held : List Held) → Each P held
each_of P f [] = tt
each_of P f (i ∷ held) = (f i, each_of P f held)

-- of one more of them
pub each_more : (P : Held → Type 0) (held : List Held) (n : ℕ) (d : Held) → n < length held → Each P (take n held) → P (get_or held n d) → Each P (take (suc n) held)
each_more P [] n d h e p = absurd (omega arith)
each_more P (i ∷ held) zero d h e p = (p, tt)
each_more P (i ∷ held) (suc n) d h e p = (e.0, each_more P held n d (omega arith) e.1 p)

pub each_both : (P Q : Held → Type 0) → (held : List Held) → Each P held → Each Q held → Each (λ i. P i × Q i) held
each_both P Q [] e f = tt
each_both P Q (i ∷ held) e f = ((e.0, f.0), each_both P Q held e.1 f.1)

pub each_map : (P Q : Held → Type 0) (f : Held → Held) → ((i : Held) → P i → Q (f i)) → (held : List Held) → Each P held → Each Q (map f held)
each_map P Q f g [] e = tt
each_map P Q f g (i ∷ held) e = (g i e.0, each_map P Q f g held e.1)

pub each_filter : (P Q : Held → Type 0) (p : Held → Bool) → ((i : Held) → P i → p i ≡ true → Q i) → (held : List Held) → Each P held → Each Q (filter p held)
each_filter P Q p g [] e = tt
each_filter P Q p g (i ∷ held) e =
    let go : (b : Bool) → p i ≡ b → Each Q (cond b (i ∷ filter p held) (filter p held)) =
    λ b. elim b as (λ b. p i ≡ b → Each Q (cond b (i ∷ filter p held) (filter p held))) [
      | true ↦ λ t. (g i e.0 t, each_filter P Q p g held e.1)
      | false ↦ λ t. each_filter P Q p g held e.1
    ] in
    go (p i) refl

-- an item that is known
pub record Knowing (P : Held → Type 0) (hart : ℕ) (x : Translation) (n : ℕ) : Type 0 where
  pub item : Held
  pub of : is_of hart x item ≡ true
  pub last : n ≤ item.last_live
  pub has : P item

pub each_knows : (P : Held → Type 0) (hart : ℕ) (x : Translation) (n : ℕ) (held : List Held) → Each P held → knows hart x n held ≡ true → Knowing P hart x n
each_knows P hart x n [] e h = cc
each_knows P hart x n (i ∷ held) e h =
    elim (or_cases (is_of hart x i && nat_le n i.last_live) (knows hart x n held) h) [
      | inl here ↦ let p = and_parts (is_of hart x i) (nat_le n i.last_live) here in record { item = i; of = p.0; last = at_most n i.last_live p.1; has = e.0 }
      | inr there ↦ each_knows P hart x n held e.1 there
    ]

-- the items that a test leaves
pub knows_filter : (P : Held → Type 0) (p : Held → Bool) (hart : ℕ) (x : Translation) (n : ℕ) → ((i : Held) → P i → is_of hart x i ≡ true → n ≤ i.last_live → p i ≡ true)
    → (held : List Held) → Each P held → knows hart x n held ≡ true → knows hart x n (filter p held) ≡ true
knows_filter P p hart x n keep [] e h = h
knows_filter P p hart x n keep (i ∷ held) e h =
    let go : (b : Bool) → p i ≡ b → knows hart x n (cond b (i ∷ filter p held) (filter p held)) ≡ true =
    λ b. elim b as (λ b. p i ≡ b → knows hart x n (cond b (i ∷ filter p held) (filter p held)) ≡ true) [
      | true ↦ λ t. elim (or_cases (is_of hart x i && nat_le n i.last_live) (knows hart x n held) h) [
        | inl here ↦ or_left _ _ here
        | inr there ↦ or_right (is_of hart x i && nat_le n i.last_live) _ (knows_filter P p hart x n keep held e.1 there)
      ]
      | false ↦ λ t. elim (or_cases (is_of hart x i && nat_le n i.last_live) (knows hart x n held) h) [
        | inl here ↦ let q = and_parts (is_of hart x i) (nat_le n i.last_live) here in absurd (true≢false (sym (keep i e.0 q.0 (at_most n i.last_live q.1)) ∙ t))
        | inr there ↦ knows_filter P p hart x n keep held e.1 there
      ]
    ] in
    go (p i) refl

-- a change that leaves the hart, the translation and when it was live
pub record KeepsKey (f : Held → Held) : Type 0 where
  pub hart : (i : Held) → (f i).hart ≡ i.hart
  pub root : (i : Held) → (f i).root ≡ i.root
  pub entry : (i : Held) → (f i).entry ≡ i.entry
  pub last : (i : Held) → (f i).last_live ≡ i.last_live

-- what changes no more than the state
pub state_keeps : (g : Held → State) → KeepsKey (λ i. with_state (g i) i)
state_keeps g = record { hart = λ i. refl; root = λ i. refl; entry = λ i. refl; last = λ i. refl }

pub knows_map : (f : Held → Held) → KeepsKey f → (hart : ℕ) (x : Translation) (n : ℕ) (held : List Held) → knows hart x n (map f held) ≡ knows hart x n held
knows_map f k hart x n [] = refl
knows_map f k hart x n (i ∷ held) =
    λ j. (((k.hart i j == hart) && ((k.root i j == x.root) && is_same_entry (k.entry i j) x.entry)) && nat_le n (k.last i j)) || knows_map f k hart x n held j

pub map_same : (held : List Held) → map (λ (i : Held). i) held ≡ held
map_same [] = refl
map_same (i ∷ held) = ap (λ is. i ∷ is) (map_same held)

pub filter_same : (held : List Held) → filter (λ (i : Held). true) held ≡ held
filter_same [] = refl
filter_same (i ∷ held) = ap (λ is. i ∷ is) (filter_same held)

-- tests of one fact are one
pub same_truth : (a b : Bool) (P : Type 0) → (IsTrue a ↔ P) → (IsTrue b ↔ P) → a ≡ b
same_truth true true P p q = refl
same_truth true false P p q = sym (q.1 (p.0 refl))
same_truth false true P p q = p.1 (q.0 refl)
same_truth false false P p q = refl
