-- The places of a TLB: the first that matches, what a fill and a compaction make of them.
use Rattle.std.proofs.Common.{◌≡◌, ◌∙◌, ap, sym, refl, ℕ, zero, suc, ◌*◌, ◌+◌, ◌-◌, ◌<◌, ◌≤◌, Bool, true, false, Option, Some, None, List, [], ◌∷◌, ◌++◌, length, drop, take, set, arith, length-append, inl, inr}
use Rattle.std.specs.Prelude.{find, ◌==◌, ◌&&◌, nat_le}
use lib.Count.{ones}
use Rattle.std.specs.List.{cons_option, slice_range}
use Rattle.std.proofs.lemmas.Bool.{cases_Bool, true≢false, and_parts, eqb-true, leb-true}
use Rattle.std.proofs.lemmas.List.{take_more_set, drop-set-add, drop-drop, drop-take, length-drop, length-take-le}
use Rattle.std.proofs.lemmas.Option.{none-some}
use Rattle.tlb.specs.declared.store.Entry.{Entry}
use Rattle.melissaledge_c.specs.declared.requests.EntryGiven.{EntryGiven}
use Rattle.melissaledge_c.specs.declared.sized_tlb.TlbHead.{TlbHead}
use Rattle.melissaledge_c.specs.SizedTlbs.{entries_in, entry_in, filled_to, is_capacity, is_tlb, passes}

abbrev test_in : (Entry → Bool) → EntryGiven → Bool
test_in test given = passes test (entry_in given)

first_of : (test : Entry → Bool) (o : Option Entry) (rest : List Entry) → passes test o ≡ true → find test (cons_option o rest) ≡ o
first_of test None rest on = absurd (true≢false (sym on))
first_of test (Some e) rest on = rw on refl

later : (test : Entry → Bool) (o : Option Entry) (rest : List Entry) → passes test o ≡ false → find test (cons_option o rest) ≡ find test rest
later test None rest off = refl
later test (Some e) rest off = rw off refl

pub found_in : (test : Entry → Bool) (xs : List EntryGiven) (given : EntryGiven) → find (test_in test) xs ≡ Some given → find test (entries_in xs) ≡ entry_in given
found_in test [] given e = absurd (none-some given e)
found_in test (x ∷ xs) given e =
    elim (cases_Bool (test_in test x)) [
      | inl on ↦ let found : Some x ≡ Some given = rw on at e in let same : x ≡ given = cc in first_of test (entry_in x) (entries_in xs) on ∙ ap entry_in same
      | inr off ↦ later test (entry_in x) (entries_in xs) off ∙ found_in test xs given (rw off at e)
    ]

pub none_in : (test : Entry → Bool) (xs : List EntryGiven) → find (test_in test) xs ≡ None → find test (entries_in xs) ≡ None
none_in test [] e = refl
none_in test (x ∷ xs) e =
    elim (cases_Bool (test_in test x)) [
      | inl on ↦ let found : Some x ≡ None = rw on at e in cc
      | inr off ↦ later test (entry_in x) (entries_in xs) off ∙ none_in test xs (rw off at e)
    ]

-- one more behind the places
pub pushed : {A : Type 0} (slots : List A) (first count : ℕ) (x : A) → first + count < length slots → slice_range (set slots (first + count) x) first (first + (count + 1)) ≡ slice_range slots first (first + count) ++ x ∷ []
pushed slots first count x within =
    let more : first + (count + 1) - first ≡ count + 1 = omega arith in
    let same : first + count - first ≡ count = omega arith in
    let room : count < length (drop first slots) = omega (arith, length-drop first slots) in
    ap (λ n. take n (drop first (set slots (first + count) x))) more
    ∙ ap (take (count + 1)) (drop-set-add first slots count x)
    ∙ take_more_set (drop first slots) count x room
    ∙ ap (λ n. take n (drop first slots) ++ x ∷ []) (sym same)

pub length_of_places : {A : Type 0} (slots : List A) (first count : ℕ) → first + count ≤ length slots → length (slice_range slots first (first + count)) ≡ count
length_of_places slots first count within =
    let same : first + count - first ≡ count = omega arith in
    ap (λ n. length (take n (drop first slots))) same ∙ length-take-le count (drop first slots) (omega (arith, length-drop first slots))

-- a fill with room
pub filled_with_room : {A : Type 0} (most : ℕ) (xs : List A) (x : A) → length xs < most → filled_to most xs x ≡ xs ++ x ∷ []
filled_with_room most xs x room =
    let none : length (xs ++ x ∷ []) - most ≡ 0 = omega (arith, length-append xs (x ∷ [])) in
    ap (λ n. drop n (xs ++ x ∷ [])) none

drop_one_more : {A : Type 0} (xs : List A) (x : A) → 0 < length xs → drop 1 (xs ++ x ∷ []) ≡ drop 1 xs ++ x ∷ []
drop_one_more [] x h = absurd (omega arith)
drop_one_more (y ∷ ys) x h = refl

pub filled_when_full : {A : Type 0} (most : ℕ) (xs : List A) (x : A) → 0 < most → length xs ≡ most → filled_to most xs x ≡ drop 1 xs ++ x ∷ []
filled_when_full most xs x some full =
    let one : length (xs ++ x ∷ []) - most ≡ 1 = omega (arith, length-append xs (x ∷ [])) in
    ap (λ n. drop n (xs ++ x ∷ [])) one ∙ drop_one_more xs x (omega (arith, full))

-- the places without the oldest
pub without_oldest : {A : Type 0} (slots : List A) (first count : ℕ) → slice_range slots (first + 1) (first + 1 + count) ≡ drop 1 (slice_range slots first (first + (count + 1)))
without_oldest slots first count =
    let one : first + 1 + count - (first + 1) ≡ count = omega arith in
    let all : first + (count + 1) - first ≡ 1 + count = omega arith in
    ap (λ n. take n (drop (first + 1) slots)) one
    ∙ ap (take count) (sym (drop-drop 1 first slots))
    ∙ sym (drop-take 1 count (drop first slots))
    ∙ ap (λ n. drop 1 (take n (drop first slots))) (sym all)

-- what the test of the numbers says
pub is_positive : (entries : ℕ) → is_capacity entries ≡ true → 0 < entries
unfolding ones
is_positive zero on = absurd (true≢false (sym on))
is_positive (suc n) on = omega arith

pub record Numbers (head : TlbHead) (slots : ℕ) : Type 0 where
  pub capacity : is_capacity head.capacity ≡ true
  pub room : slots ≡ 2 * head.capacity
  pub count : head.count ≤ head.capacity
  pub within : head.first + head.count ≤ slots

four_parts : (a b c d : Bool) → (((a && b) && c) && d) ≡ true → (a ≡ true) × (b ≡ true) × (c ≡ true) × (d ≡ true)
four_parts a b c d on =
    let abc = and_parts ((a && b) && c) d on in let ab = and_parts (a && b) c abc.0 in let both = and_parts a b ab.0 in
    (both.0, both.1, ab.1, abc.1)

pub numbers_of : (head : TlbHead) (slots : ℕ) → is_tlb head slots ≡ true → Numbers head slots
numbers_of head slots on =
    let p = four_parts (is_capacity head.capacity) (slots == 2 * head.capacity) (nat_le head.count head.capacity) (nat_le (head.first + head.count) slots) on in
    record { capacity = p.0; room = eqb-true slots (2 * head.capacity) p.1; count = leb-true head.count head.capacity p.2; within = leb-true (head.first + head.count) slots p.3 }
