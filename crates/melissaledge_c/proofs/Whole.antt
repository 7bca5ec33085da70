-- The entries that places stand for, under a fill and under a compaction.
use Rattle.std.proofs.Common.{◌≡◌, ◌∙◌, ap, sym, refl, ℕ, ℤ, pos, zero, suc, ◌+◌, ◌-◌, Bool, true, false, Option, Some, None, List, [], ◌∷◌, ◌++◌, length, drop, filter, not, arith, Ok, ◌%◌, inl, inr}
use Rattle.std.specs.List.{cons_option}
use Rattle.std.specs.Option.{is_some}
use Rattle.std.proofs.lemmas.Bool.{and_parts, cases_Bool, true≢false}
use Rattle.std.proofs.lemmas.List.Elements.{filter_map-append}
use Rattle.pte.specs.declared.address.PageSize.{PageSize}
use Rattle.pte.specs.declared.address.PageSize.TheVariants.{Kib4, Mib2, Gib1, Gib512}
use Rattle.pte.specs.declared.scheme.Scheme.{Scheme}
use Rattle.tlb.specs.Fence.{is_fenced}
use Rattle.pte.specs.Address.{IsPage, bytes_of, holds, is_canonical, widest}
use Rattle.pte.proofs.Tests.{is_canonical-IsCanonical}
use Rattle.tlb.specs.declared.store.Entry.{Entry}
use Rattle.melissaledge_c.specs.declared.requests.EntryGiven.{EntryGiven}
use Rattle.melissaledge_c.specs.Codes.{is_set, number_of, page_of}
use Rattle.melissaledge_c.specs.Requests.{entry_given}
use Rattle.melissaledge_c.specs.SizedTlbs.{Memory, beside, entries_in, entries_of, entry_in, fails, filled_to, is_there, is_whole, passes, places_of}
use Rattle.melissaledge_c.specs.Tlbs.{Dropped, Filled, Replaced}
use Rattle.melissaledge_c.proofs.Places.{length_of_places, numbers_of}

-- the entry of an entry's numbers
page_back : (size : PageSize) (base : ℕ) → is_canonical widest base ≡ true → base % bytes_of size ≡ 0 → page_of base (bytes_of size) ≡ Ok (record { base = base; size = size })
page_back Kib4 base on aligned = rw (on, aligned) refl
page_back Mib2 base on aligned = rw (on, aligned) refl
page_back Gib1 base on aligned = rw (on, aligned) refl
page_back Gib512 base on aligned = rw (on, aligned) refl

flag_back : (flag : Bool) → is_set (number_of flag) ≡ flag
flag_back true = refl
flag_back false = refl

pub given_back : (e : Entry) → IsPage e.page → entry_in (entry_given e) ≡ Some e
given_back e is =
    rw (page_back e.page.size e.page.base ((is_canonical-IsCanonical widest e.page.base).1 is.canonical) is.aligned, flag_back e.global) refl

-- one test for an option
kept_option : (test : Entry → Bool) (o : Option Entry) (rest : List Entry) → passes test o ≡ false → filter (λ e. not (test e)) (cons_option o rest) ≡ cons_option o (filter (λ e. not (test e)) rest)
kept_option test None rest off = refl
kept_option test (Some e) rest off = rw off refl

gone_option : (test : Entry → Bool) (o : Option Entry) (rest : List Entry) → passes test o ≡ true → filter (λ e. not (test e)) (cons_option o rest) ≡ filter (λ e. not (test e)) rest
gone_option test None rest on = absurd (true≢false (sym on))
gone_option test (Some e) rest on = rw on refl

pub entries_filtered : (test : Entry → Bool) (xs : List EntryGiven) → entries_in (filter (fails test) xs) ≡ filter (λ e. not (test e)) (entries_in xs)
entries_filtered test [] = refl
entries_filtered test (x ∷ xs) =
    elim (cases_Bool (passes test (entry_in x))) [
      | inl on ↦ rw on (entries_filtered test xs ∙ sym (gone_option test (entry_in x) (entries_in xs) on))
      | inr off ↦ rw off (ap (cons_option (entry_in x)) (entries_filtered test xs) ∙ sym (kept_option test (entry_in x) (entries_in xs) off))
    ]

length_option : (o : Option Entry) (rest : List Entry) → length (cons_option o rest) ≡ length (cons_option o []) + length rest
length_option None rest = omega arith
length_option (Some e) rest = omega arith

one_at : (test : Entry → Bool) (o : Option Entry) → passes test o ≡ true → length (cons_option o []) ≡ 1
one_at test None on = absurd (true≢false (sym on))
one_at test (Some e) on = refl

-- as many places go as entries
pub as_many_go : (test : Entry → Bool) (xs : List EntryGiven) → length xs + length (filter (λ e. not (test e)) (entries_in xs)) ≡ length (filter (fails test) xs) + length (entries_in xs)
as_many_go test [] = refl
as_many_go test (x ∷ xs) =
    let more = as_many_go test xs in let o = entry_in x in let rest = entries_in xs in
    let left = filter (λ e. not (test e)) rest in
    elim (cases_Bool (passes test o)) [
      | inl on ↦ rw (on, gone_option test o rest on) (omega (arith, more, length_option o rest, one_at test o on))
      | inr off ↦ rw (off, kept_option test o rest off) (omega (arith, more, length_option o rest, length_option o left))
    ]

-- where each place stands for an entry
whole_drop : (k : ℕ) (xs : List EntryGiven) → is_whole xs ≡ true → is_whole (drop k xs) ≡ true
whole_drop zero xs on = on
whole_drop (suc k) [] on = refl
whole_drop (suc k) (x ∷ xs) on = whole_drop k xs (and_parts (is_some (entry_in x)) (is_whole xs) on).1

length_there : (o : Option Entry) (rest : List Entry) → is_some o ≡ true → length (cons_option o rest) ≡ suc (length rest)
length_there None rest on = absurd (true≢false (sym on))
length_there (Some e) rest on = refl

drop_there : (o : Option Entry) (k : ℕ) (rest : List Entry) → is_some o ≡ true → drop (suc k) (cons_option o rest) ≡ drop k rest
drop_there None k rest on = absurd (true≢false (sym on))
drop_there (Some e) k rest on = refl

length_whole : (xs : List EntryGiven) → is_whole xs ≡ true → length (entries_in xs) ≡ length xs
length_whole [] on = refl
length_whole (x ∷ xs) on =
    let both = and_parts (is_some (entry_in x)) (is_whole xs) on in
    length_there (entry_in x) (entries_in xs) both.0 ∙ ap suc (length_whole xs both.1)

entries_drop : (k : ℕ) (xs : List EntryGiven) → is_whole xs ≡ true → entries_in (drop k xs) ≡ drop k (entries_in xs)
entries_drop zero xs on = refl
entries_drop (suc k) [] on = refl
entries_drop (suc k) (x ∷ xs) on =
    let both = and_parts (is_some (entry_in x)) (is_whole xs) on in
    entries_drop k xs both.1 ∙ sym (drop_there (entry_in x) k (entries_in xs) both.0)

whole_append : (xs : List EntryGiven) (x : EntryGiven) → is_whole xs ≡ true → is_some (entry_in x) ≡ true → is_whole (xs ++ x ∷ []) ≡ true
whole_append [] x on is = rw is refl
whole_append (y ∷ ys) x on is =
    let both = and_parts (is_some (entry_in y)) (is_whole ys) on in rw both.0 (whole_append ys x both.1 is)

whole_filter : (test : Entry → Bool) (xs : List EntryGiven) → is_whole xs ≡ true → is_whole (filter (fails test) xs) ≡ true
whole_filter test [] on = refl
whole_filter test (x ∷ xs) on =
    let both = and_parts (is_some (entry_in x)) (is_whole xs) on in
    elim (cases_Bool (passes test (entry_in x))) [
      | inl gone ↦ rw gone (whole_filter test xs both.1)
      | inr stays ↦ rw (stays, both.0) (whole_filter test xs both.1)
    ]

pub whole_filled : (most : ℕ) (xs : List EntryGiven) (x : EntryGiven) → is_some (entry_in x) ≡ true → is_whole xs ≡ true → is_whole (filled_to most xs x) ≡ true
whole_filled most xs x is on = whole_drop (length (xs ++ x ∷ []) - most) (xs ++ x ∷ []) (whole_append xs x on is)

pub entries_filled : (most : ℕ) (xs : List EntryGiven) (x : EntryGiven) (e : Entry) → entry_in x ≡ Some e → is_whole xs ≡ true → entries_in (filled_to most xs x) ≡ filled_to most (entries_in xs) e
entries_filled most xs x e is on =
    let ys = xs ++ x ∷ [] in
    let whole : is_whole ys ≡ true = whole_append xs x on (ap is_some is) in
    let all : entries_in ys ≡ entries_in xs ++ e ∷ [] = filter_map-append entry_in xs (x ∷ []) ∙ ap (λ o. entries_in xs ++ cons_option o []) is in
    entries_drop (length ys - most) ys whole
    ∙ ap (λ n. drop (n - most) (entries_in ys)) (sym (length_whole ys whole))
    ∙ ap (λ es. drop (length es - most) es) all

-- what the calls leave
count_of : (m : Memory) → is_there m ≡ true → length (places_of m) ≡ m.head.count
count_of m on = length_of_places m.slots m.head.first m.head.count (numbers_of m.head (length m.slots) on).within

pub dropped_by : (test : Entry → Bool) (old new : Memory) (result : ℤ) → is_there old ≡ true → is_there new ≡ true → new.head.capacity ≡ old.head.capacity → places_of new ≡ filter (fails test) (places_of old) → result ≡ pos (old.head.count - new.head.count) → Dropped old (filter (λ e. not (test e)) (entries_of old)) result new
dropped_by test old new result is is' capacity left count =
    let left_count : length (filter (fails test) (places_of old)) ≡ new.head.count = ap length (sym left) ∙ count_of new is' in
    let same : old.head.count - new.head.count ≡ length (entries_of old) - length (filter (λ e. not (test e)) (entries_of old)) =
    omega (arith, as_many_go test (places_of old), count_of old is, left_count) in
    record {
      stands = record { there = is'; capacity = capacity; whole = λ on. ap is_whole left ∙ whole_filter test (places_of old) on };
      entries = ap entries_in left ∙ entries_filtered test (places_of old);
      count = count ∙ ap pos same;
    }

pub filled_with : (old new : Memory) (e : Entry) → IsPage e.page → is_there new ≡ true → new.head.capacity ≡ old.head.capacity → places_of new ≡ filled_to old.head.capacity (places_of old) (entry_given e) → Filled old e new
filled_with old new e page is capacity places =
    let back : entry_in (entry_given e) ≡ Some e = given_back e page in
    record {
      stands = record { there = is; capacity = capacity; whole = λ on. ap is_whole places ∙ whole_filled old.head.capacity (places_of old) (entry_given e) (ap is_some back) on };
      places = places;
      entries = λ on. ap entries_in places ∙ entries_filled old.head.capacity (places_of old) (entry_given e) e back on;
    }

pub replaced_with : (old between new : Memory) (e : Entry) (result : ℤ) → Dropped old (beside e (entries_of old)) result between → Filled between e new → Replaced old e result new
replaced_with old between new e result drops fills = record {
  stands = record {
    there = fills.stands.there;
    capacity = fills.stands.capacity ∙ drops.stands.capacity;
    whole = λ on. fills.stands.whole (drops.stands.whole on);
  };
  entries = λ on.
      fills.entries (drops.stands.whole on)
      ∙ ap (λ n. filled_to n (entries_of between) e) drops.stands.capacity
      ∙ ap (λ es. filled_to old.head.capacity es e) drops.entries;
  count = drops.count;
}

-- an entry whose page does not have the address of a fence stays
pub far_stays : (scheme : Scheme) (va : ℕ) (rs2 : Option ℕ) (o : Option Entry) → passes (λ e. holds e.page va) o ≡ false → not (passes (is_fenced scheme (Some va) rs2) o) ≡ true
far_stays scheme va rs2 None off = refl
far_stays scheme va None (Some e) off =
    elim (cases_Bool (is_canonical scheme va)) [ inl on ↦ rw (on, off) refl | inr out ↦ rw out refl ]
far_stays scheme va (Some asid) (Some e) off =
    elim (cases_Bool (is_canonical scheme va)) [ inl on ↦ rw (on, off) refl | inr out ↦ rw out refl ]
