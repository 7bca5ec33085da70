-- The words of table frames, by their places, are those that the texts name.
use Rattle.std.proofs.Common.{◌≡◌, ◌≢◌, ℕ, zero, suc, ◌+◌, ◌*◌, ◌<◌, ◌≤◌, ◌&&◌, ◌||◌, cond, Bool, true, false, nat_eq, nat_lt, nat_cmp, vec_len, List, [], ◌∷◌, ◌++◌, length, get_or, set, replicate, position, is_some, Option, Some, None, option_map, Result, Ok, Err, MatchResult, refl, sym, ap, ◌∙◌, inl, inr, arith}
use Rattle.std.specs.List.{list_any, position_or_len, dedup, dedup_from}
use Rattle.std.specs.List.Sorted.{IsBinarySearchResult, IsPermutation, IsStrictlyIncreasing}
use Rattle.std.specs.Result.{result_ok}
use Rattle.std.proofs.Math.Path.{fun_ext}
use Rattle.std.proofs.lemmas.Bool.{and_parts, cases_Bool, eqb-true}
use Rattle.std.proofs.lemmas.Bool.Decides.{nat_tests}
use Rattle.std.proofs.lemmas.List.{get_or-set_same, get_or-set_other}
use Rattle.std.proofs.lemmas.List.Quantifiers.{position-Some}
use Rattle.std.proofs.lemmas.Option.{same_Some}
use Rattle.std.proofs.lemmas.List.Sums.{fold-append, position_or_len_is}
use Rattle.std.proofs.lemmas.List.Sorted.{list_any-IsPermutation, searched}
use Rattle.std.proofs.lemmas.Map.Keys.{below_from_sorted, sorted_from_strictly_increasing}
use Rattle.pte.specs.declared.address.TheConstants.{TABLE_LENGTH}
use Rattle.files.specs.declared.frames.TableWord.{TableWord}
use Rattle.files.specs.declared.frames.Frames.{Frames}
use Rattle.files.specs.declared.frames.TableFrames.{TableFrames}
use Rattle.files.specs.Memory.{is_frame_of, is_listed, names, place_of, position_of, stored, word_at, word_in}

-- ---- places

found_place : (ppns : List ℕ) (ppn i : ℕ) → IsStrictlyIncreasing ppns → i < length ppns → get_or ppns i 0 ≡ ppn → Some i ≡ position (nat_eq ppn) ppns
found_place ppns ppn i rising lt is =
    let first : position_or_len (nat_eq ppn) ppns ≡ i =
    position_or_len_is (nat_eq ppn) ppns i 0 (omega arith)
    (λ k before. let below : get_or ppns k 0 < get_or ppns i 0 = below_from_sorted ppns k i 0 (sorted_from_strictly_increasing ppns rising) before lt in grind (arith, nat_tests))
    (λ _. grind (arith, nat_tests)) in
    let within : nat_lt i (length ppns) ≡ true = grind (arith, nat_tests) in
    rw (first, within) refl

no_place : (ppns : List ℕ) (ppn : ℕ) → ((k : ℕ) → k < length ppns → get_or ppns k 0 ≢ ppn) → None ≡ position (nat_eq ppn) ppns
no_place ppns ppn other =
    let none : position_or_len (nat_eq ppn) ppns ≡ length ppns =
    position_or_len_is (nat_eq ppn) ppns (length ppns) 0 (omega arith) (λ k lt. let apart = other k lt in grind (arith, nat_tests)) (λ lt. absurd (omega arith)) in
    let past : nat_lt (length ppns) (length ppns) ≡ false = grind (arith, nat_tests) in
    rw (none, past) refl

apart_around : (ppns : List ℕ) (ppn i : ℕ) → ((k : ℕ) → k < i → get_or ppns k 0 < ppn) → ((k : ℕ) → i ≤ k → k < length ppns → ppn < get_or ppns k 0)
    → (k : ℕ) → k < length ppns → get_or ppns k 0 ≢ ppn
apart_around ppns ppn i before after k lt same =
    elim (cases_Bool (nat_lt k i)) [
      | inl e ↦ (let less : k < i = grind (arith, nat_tests) in let bad = before k less in omega (arith, bad, same))
      | inr e ↦ (let more : i ≤ k = grind (arith, nat_tests) in let bad = after k more lt in omega (arith, bad, same))
    ]

place_by : (ppns : List ℕ) (ppn : ℕ) (r : Result ℕ ℕ) → IsStrictlyIncreasing ppns
    → MatchResult r (λ i. (i < length ppns) × (get_or ppns i 0 ≡ ppn)) (λ i. (i ≤ length ppns) × ((k : ℕ) → k < i → get_or ppns k 0 < ppn) × ((k : ℕ) → i ≤ k → k < length ppns → ppn < get_or ppns k 0))
    → result_ok r ≡ position (nat_eq ppn) ppns
place_by ppns ppn (Ok i) rising h = found_place ppns ppn i rising h.0 h.1
place_by ppns ppn (Err i) rising h = no_place ppns ppn (apart_around ppns ppn i h.1 h.2)

not_falling : (ppns : List ℕ) → IsStrictlyIncreasing ppns → (i j : ℕ) → i ≤ j → j < length ppns → get_or ppns i 0 ≤ get_or ppns j 0
not_falling ppns rising i j le lt =
    elim (cases_Bool (nat_lt i j)) [
      | inl e ↦ (let less : i < j = grind (arith, nat_tests) in let below = below_from_sorted ppns i j 0 (sorted_from_strictly_increasing ppns rising) less lt in omega (arith, below))
      | inr e ↦ (let same : i ≡ j = (let more : j ≤ i = grind (arith, nat_tests) in omega arith) in rw same (omega arith))
    ]

-- what bisection finds is the place
pub searched_place : (ppns : List ℕ) (ppn : ℕ) (r : Result ℕ ℕ) → IsStrictlyIncreasing ppns → IsBinarySearchResult (λ y. nat_cmp y ppn) ppns r → result_ok r ≡ position (nat_eq ppn) ppns
searched_place ppns ppn r rising h = place_by ppns ppn r rising (searched ppns ppn r h (not_falling ppns rising))

listed_step : (p : ℕ → Bool) (x : ℕ) (xs : List ℕ) (b : Bool) → p x ≡ b → list_any p xs ≡ nat_lt (position_or_len p xs) (length xs)
    → list_any p (x ∷ xs) ≡ nat_lt (position_or_len p (x ∷ xs)) (length (x ∷ xs))
listed_step p x xs true e h = rw e (let lt : nat_lt 0 (length (x ∷ xs)) ≡ true = grind (arith, nat_tests) in sym lt)
listed_step p x xs false e h = rw (e, h) (let same : nat_lt (position_or_len p xs) (length xs) ≡ nat_lt (1 + position_or_len p xs) (length (x ∷ xs)) = grind (arith, nat_tests) in same)

listed_below : (p : ℕ → Bool) (xs : List ℕ) → list_any p xs ≡ nat_lt (position_or_len p xs) (length xs)
listed_below p [] = refl
listed_below p (x ∷ xs) = listed_step p x xs (p x) refl (listed_below p xs)

some_if : (b : Bool) (n : ℕ) → is_some (cond b (Some n) None) ≡ b
some_if true n = refl
some_if false n = refl

-- a PPN is listed exactly if it has a place
pub placed_listed : (ppns : List ℕ) (ppn : ℕ) → is_some (position (nat_eq ppn) ppns) ≡ is_listed ppns ppn
placed_listed ppns ppn = some_if (nat_lt (position_or_len (nat_eq ppn) ppns) (length ppns)) (position_or_len (nat_eq ppn) ppns) ∙ sym (listed_below (nat_eq ppn) ppns)

-- ---- sorting

or_again : (a b : Bool) → (a || b) ≡ (a || (a || b))
or_again true b = refl
or_again false b = refl

dedup_step : (q : ℕ → Bool) (k x : ℕ) (xs : List ℕ) (b : Bool) → nat_eq x k ≡ b → ((j : ℕ) → list_any q (dedup_from nat_eq j xs) ≡ list_any q (j ∷ xs))
    → list_any q (dedup_from nat_eq k (x ∷ xs)) ≡ list_any q (k ∷ x ∷ xs)
dedup_step q k x xs true e rest =
    let same : x ≡ k = eqb-true x k e in
    rw e (rest k ∙ rw same (or_again (q k) (list_any q xs)))
dedup_step q k x xs false e rest = rw e (ap (λ b. q k || b) (rest x))

dedup_from_listed : (q : ℕ → Bool) (k : ℕ) (xs : List ℕ) → list_any q (dedup_from nat_eq k xs) ≡ list_any q (k ∷ xs)
dedup_from_listed q k [] = refl
dedup_from_listed q k (x ∷ xs) = dedup_step q k x xs (nat_eq x k) refl (λ j. dedup_from_listed q j xs)

dedup_listed : (q : ℕ → Bool) (xs : List ℕ) → list_any q (dedup nat_eq xs) ≡ list_any q xs
dedup_listed q [] = refl
dedup_listed q (x ∷ xs) = dedup_from_listed q x xs

-- sorting and dropping doubles keeps the set
pub sorted_listed : (ppns sorted : List ℕ) → IsPermutation ppns sorted → is_listed (dedup nat_eq sorted) ≡ is_listed ppns
sorted_listed ppns sorted moved =
    fun_ext (λ ppn. dedup_listed (nat_eq ppn) sorted ∙ sym (list_any-IsPermutation (nat_eq ppn) ppns sorted moved))

-- ---- words

-- one more word is stored over those before it
stored_cases : (is_frame : ℕ → Bool) (words : List TableWord) (word : TableWord) (ppn index : ℕ) (there named : Bool) → names word ppn index ≡ named
    → (is_frame ppn && nat_lt index TABLE_LENGTH) ≡ there
    → stored word ppn index (word_in is_frame words ppn index) ≡ word_in is_frame (words ++ word ∷ []) ppn index
stored_cases is_frame words word ppn index true true e f = rw (e, f, fold-append {B = ℕ} _ 0 words (word ∷ []), e)
stored_cases is_frame words word ppn index true false e f = rw (e, f, fold-append {B = ℕ} _ 0 words (word ∷ []), e)
stored_cases is_frame words word ppn index false true e f = rw (e, f)
stored_cases is_frame words word ppn index false false e f = rw (e, f)

pub word_in-more : (is_frame : ℕ → Bool) (words : List TableWord) (word : TableWord) (ppn index : ℕ)
    → stored word ppn index (word_in is_frame words ppn index) ≡ word_in is_frame (words ++ word ∷ []) ppn index
word_in-more is_frame words word ppn index = stored_cases is_frame words word ppn index _ _ refl refl

get_zero : (n i : ℕ) → let none : ℕ = 0 in get_or (replicate n none) i none ≡ none
get_zero zero i = refl
get_zero (suc n) zero = refl
get_zero (suc n) (suc i) = get_zero n i

zeros_by : (frames : Frames) (words : List ℕ) (n ppn index : ℕ) → words ≡ replicate n 0 → (place : Option ℕ) (within : Bool) → place_of frames ppn ≡ place → nat_lt index TABLE_LENGTH ≡ within
    → option_map (λ position. get_or words position 0) (position_of frames ppn index) ≡ word_in (is_frame_of frames) [] ppn index
zeros_by frames words n ppn index e None true p w = rw (w, p, sym (placed_listed frames.ppns.items ppn), p)
zeros_by frames words n ppn index e None false p w = rw (w, sym (placed_listed frames.ppns.items ppn), p)
zeros_by frames words n ppn index e (Some at) true p w = rw (w, p, sym (placed_listed frames.ppns.items ppn), p, e) (ap Some (get_zero n (TABLE_LENGTH * at + index)))
zeros_by frames words n ppn index e (Some at) false p w = rw (w, sym (placed_listed frames.ppns.items ppn), p)

-- frames whose words are all 0
pub zeros : (frames : Frames) (words : List ℕ) (n : ℕ) → words ≡ replicate n 0 → (ppn index : ℕ)
    → option_map (λ position. get_or words position 0) (position_of frames ppn index) ≡ word_in (is_frame_of frames) [] ppn index
zeros frames words n e ppn index = zeros_by frames words n ppn index e (place_of frames ppn) (nat_lt index TABLE_LENGTH) refl refl

-- ---- storing

pub record IsAt (frames : Frames) (ppn index at : ℕ) : Type 0 where
  pub place : ℕ
  pub within : index < TABLE_LENGTH
  pub frame : place_of frames ppn ≡ Some place
  pub is : at ≡ TABLE_LENGTH * place + index

at_by : (frames : Frames) (ppn index at : ℕ) (place : Option ℕ) (within : Bool) → place_of frames ppn ≡ place → nat_lt index TABLE_LENGTH ≡ within
    → cond within (option_map (λ place. TABLE_LENGTH * place + index) place) None ≡ Some at → IsAt frames ppn index at
at_by frames ppn index at None true p w h = cc
at_by frames ppn index at None false p w h = cc
at_by frames ppn index at (Some place) true p w h =
    record { place = place; within = grind (arith, nat_tests); frame = p; is = sym (same_Some _ _ h) }
at_by frames ppn index at (Some place) false p w h = cc

position_is_at : (frames : Frames) (ppn index at : ℕ) → position_of frames ppn index ≡ Some at → IsAt frames ppn index at
position_is_at frames ppn index at h = at_by frames ppn index at (place_of frames ppn) (nat_lt index TABLE_LENGTH) refl refl h

frame_at : (frames : Frames) (ppn place : ℕ) → place_of frames ppn ≡ Some place → ppn ≡ get_or frames.ppns.items place 0
frame_at frames ppn place h = eqb-true ppn (get_or frames.ppns.items place 0) (position-Some (nat_eq ppn) frames.ppns.items place 0 h).1

-- one word stands at a position
one_word_at : (frames : Frames) (p i q j at : ℕ) → position_of frames p i ≡ Some at → position_of frames q j ≡ Some at → (p ≡ q) × (i ≡ j)
one_word_at frames p i q j at e f =
    let a = position_is_at frames p i at e in
    let b = position_is_at frames q j at f in
    let sum : TABLE_LENGTH * a.place + i ≡ TABLE_LENGTH * b.place + j = sym a.is ∙ b.is in
    let i_within : i < TABLE_LENGTH = a.within in
    let j_within : j < TABLE_LENGTH = b.within in
    let places : a.place ≡ b.place = omega (arith, sum, i_within, j_within) in
    let indices : i ≡ j = omega (arith, sum, i_within, j_within) in
    (frame_at frames p a.place a.frame ∙ ap (λ place. get_or frames.ppns.items place 0) places ∙ sym (frame_at frames q b.place b.frame), indices)

names_it : (word : TableWord) (ppn index : ℕ) → names word ppn index ≡ true → (word.ppn ≡ ppn) × (word.index ≡ index)
names_it word ppn index e =
    let parts = and_parts _ _ e in
    (eqb-true word.ppn ppn parts.0, eqb-true word.index index parts.1)

is_named : (word : TableWord) (ppn index : ℕ) → (word.ppn ≡ ppn) × (word.index ≡ index) → names word ppn index ≡ true
is_named word ppn index h = let one = h.0 in let other = h.1 in grind (arith, nat_tests)

pub position_below : (tables : TableFrames) (ppn index at : ℕ) → position_of tables.frames ppn index ≡ Some at → at < length tables.words.items
position_below tables ppn index at h =
    let a = position_is_at tables.frames ppn index at h in
    let place : a.place < length tables.frames.ppns.items = (position-Some (nat_eq ppn) tables.frames.ppns.items a.place 0 a.frame).0 in
    let within : index < TABLE_LENGTH = a.within in
    let is : at ≡ TABLE_LENGTH * a.place + index = a.is in
    let room : vec_len tables.words ≡ TABLE_LENGTH * vec_len tables.frames.ppns = tables.room in
    let words : vec_len tables.words ≡ length tables.words.items = tables.words.ok.0 in
    let ppns : vec_len tables.frames.ppns ≡ length tables.frames.ppns.items = tables.frames.ppns.ok.0 in
    omega arith

-- frames after a word was written at a position
abbrev pub written : TableFrames → List ℕ → ℕ → ℕ → Option ℕ
written tables words ppn index = option_map (λ position. get_or words position 0) (position_of tables.frames ppn index)

stored_by : (tables : TableFrames) (word : TableWord) (at ppn index : ℕ) → position_of tables.frames word.ppn word.index ≡ Some at → at < length tables.words.items
    → (o : Option ℕ) (named : Bool) → position_of tables.frames ppn index ≡ o → names word ppn index ≡ named
    → written tables (set tables.words.items at word.word) ppn index ≡ stored word ppn index (word_at tables ppn index)
stored_by tables word at ppn index here lt None true e n = rw (e, n)
stored_by tables word at ppn index here lt None false e n = rw (e, n)
stored_by tables word at ppn index here lt (Some other) true e n =
    let same = names_it word ppn index n in
    let there : position_of tables.frames ppn index ≡ Some at = rw (← same.0, ← same.1) here in
    rw (there, n) (ap Some (get_or-set_same tables.words.items at word.word 0 lt))
stored_by tables word at ppn index here lt (Some other) false e n =
    rw (e, n) (ap Some (get_or-set_other tables.words.items at other word.word 0
    (λ same. let there : position_of tables.frames ppn index ≡ Some at = e ∙ ap Some same in
    let bad : names word ppn index ≡ true = is_named word ppn index (one_word_at tables.frames word.ppn word.index ppn index at here there) in cc)))

pub stored_word : (tables : TableFrames) (word : TableWord) (at : ℕ) → position_of tables.frames word.ppn word.index ≡ Some at → at < length tables.words.items
    → (ppn index : ℕ) → written tables (set tables.words.items at word.word) ppn index ≡ stored word ppn index (word_at tables ppn index)
stored_word tables word at here lt ppn index = stored_by tables word at ppn index here lt (position_of tables.frames ppn index) (names word ppn index) refl refl
