-- The words of the steps of `run`: what the readers find is what the grammar says.
use Rattle.std.proofs.Common.{◌≤◌, ◌≡◌, ◌⊎◌, ℕ, ◌<◌, ◌^◌, ◌%◌, ◌==◌, Bool, true, false, nat_lt, bit_and, bit_or, codes, List, [], ◌∷◌, ◌++◌, length, take, drop, Option, Some, None, option_and_then, option_map, Result, Ok, Err, refl, sym, ap, subst, ◌∙◌, inl, inr, arith, if◌then◌else◌, eqb}
use Rattle.std.specs.Option.{option_or}
use Rattle.std.specs.Str.{bytes_eq}
use Rattle.std.proofs.lemmas.Bool.{and_parts, eqb-true, and_from, cond-true, eq-eqb, le-leb, leb-true}
use Rattle.std.proofs.lemmas.Bool.Decides.{Decides-ltb}
use Rattle.std.proofs.lemmas.Slice.Eq.{bytes_eq-Decides}
use Rattle.std.proofs.lemmas.List.{take-append-drop}
use Rattle.std.proofs.lemmas.Option.{cond_some, same_Some}
use Rattle.pte.specs.Address.{bytes_of, IsCanonical, IsPageOf, level_of, Span, top_level}
use Rattle.pte.specs.declared.scheme.Scheme.{Scheme}
use Rattle.pte.proofs.Schemes.{is_canonical-IsCanonical}
use Rattle.pte.specs.declared.address.PageSize.{PageSize}
use Rattle.pte.specs.declared.address.PageSize.TheVariants.{Kib4, Mib2, Gib1, Gib512}
use Rattle.pte.specs.declared.flags.PteFlags.{PteFlags}
use Rattle.spaces.specs.declared.places.Place.{Place}
use Rattle.spaces.specs.declared.places.Place.TheVariants as places
use Rattle.history.specs.declared.event.Scope.{Scope}
use Rattle.history.specs.declared.event.Scope.TheVariants as scopes
use Rattle.steps.specs.declared.fault.StepFault.{StepFault}
use Rattle.steps.specs.declared.fault.StepFault.TheVariants.{NotPage}
use Rattle.steps.specs.declared.fields.PageWord.{PageWord}
use Rattle.steps.specs.Fields.{bits_of, flag_of, flags_of, has_size, is_page, sized_page_of, number_below, page_after, page_at, page_of, place_of, register_of, scope_of, space_of, with_letters}
use Rattle.steps.specs.Grammar.{WritesNumber}
use Rattle.steps.specs.Num.{num_of}
use Rattle.steps.specs.StepGrammar.{AddLetters, size_text, WritesBelow, WritesFlags, WritesPage, WritesPlace, WritesRegister, WritesScope}
use Rattle.steps.proofs.GrammarLemmas.{num_of-writes, writes-num_of}

-- ---- numbers below a limit

pub lt_test : (a b : ℕ) → a < b → nat_lt a b ≡ true
lt_test a b = (Decides-ltb a b).1

pub lt_from_test : (a b : ℕ) → nat_lt a b ≡ true → a < b
lt_from_test a b = (Decides-ltb a b).0

pub below-writes : (limit : ℕ) (word : List ℕ) (n : ℕ) → WritesBelow limit word n → number_below limit word ≡ Some n
below-writes limit word n h = rw (num_of-writes word n h.0, lt_test n limit h.1) refl

below_from : (limit : ℕ) (word : List ℕ) (n : ℕ) (o : Option ℕ) → num_of word ≡ o → option_and_then (λ m. if nat_lt m limit then Some m else None) o ≡ Some n → WritesBelow limit word n
below_from limit word n None e h = cc
below_from limit word n (Some m) e h =
    let kept = cond_some (nat_lt m limit) m n h in
    (writes-num_of word n (e ∙ ap Some kept.1), subst (λ x. x < limit) kept.1 (lt_from_test m limit kept.0))

pub writes-below : (limit : ℕ) (word : List ℕ) (n : ℕ) → number_below limit word ≡ Some n → WritesBelow limit word n
writes-below limit word n h = below_from limit word n (num_of word) refl h

-- ---- a number, or a name in its place

-- what is read as a number is not the name
not_named : {X : Type 0} (name word : List ℕ) (x : X) (read : List ℕ → Option ℕ) (f : ℕ → X) (n : ℕ) (b : Bool) → bytes_eq word name ≡ b → read name ≡ None → read word ≡ Some n
    → (if b then Some x else option_map f (read word)) ≡ Some (f n)
not_named name word x read f n true e none h = let same = (bytes_eq-Decides word name).0 e in cc
not_named name word x read f n false e none h = rw h refl

named_or : {X : Type 0} (name word : List ℕ) (x y : X) (read : List ℕ → Option ℕ) (f : ℕ → X) (b : Bool) → bytes_eq word name ≡ b
    → (if b then Some x else option_map f (read word)) ≡ Some y → ((word ≡ name) × (x ≡ y)) ⊎ ((n : ℕ) × (read word ≡ Some n) × (f n ≡ y))
named_or name word x y read f true e h = inl ((bytes_eq-Decides word name).0 e, same_Some _ _ h)
named_or {X} name word x y read f false e h = inr (by_option (read word) refl h)
  where
    by_option : (o : Option ℕ) → read word ≡ o → option_map f o ≡ Some y → (n : ℕ) × (read word ≡ Some n) × (f n ≡ y)
    by_option None e h = cc
    by_option (Some n) e h = (n, e, same_Some _ _ h)

pub place-writes : (word : List ℕ) (place : Place) → WritesPlace word place → place_of word ≡ Some place
place-writes word places.Kernel h = ap place_of h
place-writes word (places.Space space) h = not_named (codes "k") word places.Kernel space_of places.Space space (bytes_eq word (codes "k")) refl refl (below-writes (2 ^ 8) word space h)

pub writes-place : (word : List ℕ) (place : Place) → place_of word ≡ Some place → WritesPlace word place
writes-place word place h = elim (named_or (codes "k") word places.Kernel place space_of places.Space (bytes_eq word (codes "k")) refl h) [
  | inl k ↦ subst (WritesPlace word) k.1 k.0
  | inr s ↦ subst (WritesPlace word) s.2 (writes-below (2 ^ 8) word s.0 s.1)
]

pub scope-writes : (word : List ℕ) (scope : Scope) → WritesScope word scope → scope_of word ≡ Some scope
scope-writes word scopes.All h = ap scope_of h
scope-writes word (scopes.Space space) h = not_named (codes "all") word scopes.All space_of scopes.Space space (bytes_eq word (codes "all")) refl refl (below-writes (2 ^ 8) word space h)

pub writes-scope : (word : List ℕ) (scope : Scope) → scope_of word ≡ Some scope → WritesScope word scope
writes-scope word scope h = elim (named_or (codes "all") word scopes.All scope space_of scopes.Space (bytes_eq word (codes "all")) refl h) [
  | inl k ↦ subst (WritesScope word) k.1 k.0
  | inr s ↦ subst (WritesScope word) s.2 (writes-below (2 ^ 8) word s.0 s.1)
]

pub register-writes : (word : List ℕ) (register : Option ℕ) → WritesRegister word register → register_of word ≡ Some register
register-writes word None h = ap register_of h
register-writes word (Some n) h = not_named (codes "x0") word None num_of Some n (bytes_eq word (codes "x0")) refl refl (num_of-writes word n h)

pub writes-register : (word : List ℕ) (register : Option ℕ) → register_of word ≡ Some register → WritesRegister word register
writes-register word register h = elim (named_or (codes "x0") word None register num_of Some (bytes_eq word (codes "x0")) refl h) [
  | inl k ↦ subst (WritesRegister word) k.1 k.0
  | inr s ↦ subst (WritesRegister word) s.2 (writes-num_of word s.0 s.1)
]

-- ---- pages

page_read : (size : PageSize) (base : ℕ) (digits : List ℕ) → num_of digits ≡ Some base → sized_page_of (size_text size ++ digits) ≡ Some (record { base = base; size = size })
page_read Kib4 base digits h = rw h refl
page_read Mib2 base digits h = rw h refl
page_read Gib1 base digits h = rw h refl
page_read Gib512 base digits h = rw h refl

sized : Scheme → PageWord → Option PageWord
sized scheme page = if has_size scheme page then Some page else None

pub page-writes : (scheme : Scheme) (word : List ℕ) (page : Span) → WritesPage scheme word page → page_of scheme word ≡ Some (record { base = page.base; size = page.size })
unfolding sized
page-writes scheme word page h =
    ap (option_and_then (sized scheme)) (ap sized_page_of h.1 ∙ page_read page.size page.base h.0 (num_of-writes h.0 page.base h.2))
    ∙ cond-true (has_size scheme (record { base = page.base; size = page.size })) _ _ (le-leb (level_of page.size) (top_level scheme) h.3.level)

pub same_Ok : {X : Type 0} (r : Result X StepFault) (a b : X) → r ≡ Ok a → r ≡ Ok b → a ≡ b
same_Ok r a b e h = cc

pub not_Ok : {X : Type 0} (r : Result X StepFault) (e : StepFault) (a : X) → r ≡ Err e → r ≡ Ok a → ⊥
not_Ok r e a is h = cc

is_page_test : (scheme : Scheme) (base : ℕ) (size : PageSize) → IsCanonical scheme base → base % bytes_of size ≡ 0 → is_page scheme (record { base = base; size = size }) ≡ true
is_page_test scheme base size canonical aligned = and_from _ _ ((is_canonical-IsCanonical scheme base).1 canonical) (eq-eqb _ _ aligned)

is_page_from_test : (scheme : Scheme) (base : ℕ) (size : PageSize) → is_page scheme (record { base = base; size = size }) ≡ true → IsCanonical scheme base × (base % bytes_of size ≡ 0)
is_page_from_test scheme base size h = ((is_canonical-IsCanonical scheme base).0 (and_parts _ _ h).0, eqb-true _ _ (and_parts _ _ h).1)

pub page_is_there : (scheme : Scheme) (page : Span) → IsPageOf scheme page → page_at scheme (record { base = page.base; size = page.size }) ≡ Ok page
page_is_there scheme page h = rw (is_page_test scheme page.base page.size h.canonical h.aligned) refl

abbrev span_of : PageWord → Span
span_of word = record { base = word.base; size = word.size }

there_by : (scheme : Scheme) (word : PageWord) (r : Result Span StepFault) (page : Span) (b : Bool) → level_of word.size ≤ top_level scheme → is_page scheme word ≡ b
    → r ≡ (if b then Ok (span_of word) else Err NotPage) → r ≡ Ok page → IsPageOf scheme page × (page ≡ span_of word)
there_by scheme word r page true level e h is =
    let same : span_of word ≡ page = same_Ok r (span_of word) page h is in
    let parts = is_page_from_test scheme word.base word.size e in
    (subst (IsPageOf scheme) same (record { level = level; canonical = parts.0; aligned = parts.1 }), sym same)
there_by scheme word r page false level e h is = absurd (not_Ok r NotPage page h is)

pub there-is_page : (scheme : Scheme) (word : PageWord) (page : Span) → level_of word.size ≤ top_level scheme → page_at scheme word ≡ Ok page → IsPageOf scheme page × (page ≡ span_of word)
there-is_page scheme word page level h = there_by scheme word (page_at scheme word) page (is_page scheme word) level refl refl h

pub or_Some : {X : Type 0} (a b : Option X) (y : X) → option_or a b ≡ Some y → (a ≡ Some y) ⊎ (b ≡ Some y)
or_Some None b y h = inr h
or_Some (Some x) b y h = inl h

abbrev word_of : PageSize → ℕ → PageWord
word_of size base = record { base = base; size = size }

abbrev IsPageWord : PageSize → List ℕ → PageWord → Type 0
IsPageWord size word page = (digits : List ℕ) × (word ≡ size_text page.size ++ digits) × WritesNumber digits page.base

after_by : (size : PageSize) (word : List ℕ) (page : PageWord) (b : Bool) → bytes_eq (take (length (size_text size)) word) (size_text size) ≡ b
    → (if b then option_map (word_of size) (num_of (drop (length (size_text size)) word)) else None) ≡ Some page → IsPageWord size word page
after_by size word page true e h = by_option (num_of (drop (length (size_text size)) word)) refl h
  where
    by_option : (o : Option ℕ) → num_of (drop (length (size_text size)) word) ≡ o → option_map (word_of size) o ≡ Some page → IsPageWord size word page
    by_option None is h = cc
    by_option (Some base) is h =
        let same : word_of size base ≡ page = same_Some _ _ h in
        subst (IsPageWord size word) same (
          drop (length (size_text size)) word,
          sym (take-append-drop (length (size_text size)) word) ∙ ap (λ front. front ++ drop (length (size_text size)) word) ((bytes_eq-Decides (take (length (size_text size)) word) (size_text size)).0 e),
          writes-num_of _ base is,
        )
after_by size word page false e h = cc

after : (size : PageSize) (word : List ℕ) (page : PageWord) → page_after (size_text size) size word ≡ Some page → IsPageWord size word page
after size word page h = after_by size word page (bytes_eq (take (length (size_text size)) word) (size_text size)) refl h

writes-sized : (word : List ℕ) (page : PageWord) → sized_page_of word ≡ Some page → IsPageWord page.size word page
writes-sized word page h =
    elim (or_Some (option_or (option_or (page_after (codes "4K:") Kib4 word) (page_after (codes "2M:") Mib2 word)) (page_after (codes "1G:") Gib1 word)) (page_after (codes "512G:") Gib512 word) page h) [
      | inl most ↦ elim (or_Some (option_or (page_after (codes "4K:") Kib4 word) (page_after (codes "2M:") Mib2 word)) (page_after (codes "1G:") Gib1 word) page most) [
        | inl small ↦ elim (or_Some (page_after (codes "4K:") Kib4 word) (page_after (codes "2M:") Mib2 word) page small) [ inl k ↦ after Kib4 word page k | inr m ↦ after Mib2 word page m ]
        | inr g ↦ after Gib1 word page g
      ]
      | inr g ↦ after Gib512 word page g
    ]

-- a page that is read is of a size that the scheme has
pub writes-page_word : (scheme : Scheme) (word : List ℕ) (page : PageWord) → page_of scheme word ≡ Some page
    → (level_of page.size ≤ top_level scheme) × ((digits : List ℕ) × (word ≡ size_text page.size ++ digits) × WritesNumber digits page.base)
writes-page_word scheme word page h = by_option (sized_page_of word) refl h
  where
    by_test : (other : PageWord) (b : Bool) → sized_page_of word ≡ Some other → has_size scheme other ≡ b → (if b then Some other else None) ≡ Some page
        → (level_of page.size ≤ top_level scheme) × ((digits : List ℕ) × (word ≡ size_text page.size ++ digits) × WritesNumber digits page.base)
    by_test other true is e h =
        let same : other ≡ page = same_Some _ _ h in
        (subst (λ (p : PageWord). level_of p.size ≤ top_level scheme) same (leb-true _ _ e), writes-sized word page (is ∙ ap Some same))
    by_test other false is e h = cc

    by_option : (o : Option PageWord) → sized_page_of word ≡ o → option_and_then (λ (p : PageWord). if has_size scheme p then Some p else None) o ≡ Some page
        → (level_of page.size ≤ top_level scheme) × ((digits : List ℕ) × (word ≡ size_text page.size ++ digits) × WritesNumber digits page.base)
    by_option None is h = cc
    by_option (Some other) is h = by_test other (has_size scheme other) is refl h

-- ---- flags

letters-add : (bits : ℕ) (letters : List ℕ) (all : ℕ) → AddLetters bits letters all → with_letters bits letters ≡ Some all
letters-add bits [] all h = ap Some h
letters-add bits (letter ∷ letters) all (bit, is, unset, rest) = rw (is, unset) (letters-add (bit_or bits bit) letters all rest)

add-letters : (bits : ℕ) (letters : List ℕ) (all : ℕ) → with_letters bits letters ≡ Some all → AddLetters bits letters all
add-letters bits [] all h = same_Some _ _ h
add-letters bits (letter ∷ letters) all h = by_option (flag_of letter) refl (λ more m. add-letters more letters all m) h
  where
    by_test : (bit : ℕ) (b : Bool) → eqb (bit_and bits bit) 0 ≡ b → ((more : ℕ) → with_letters more letters ≡ Some all → AddLetters more letters all)
        → (if b then with_letters (bit_or bits bit) letters else None) ≡ Some all → (bit_and bits bit ≡ 0) × AddLetters (bit_or bits bit) letters all
    by_test bit true e ih h = (eqb-true _ _ e, ih (bit_or bits bit) h)
    by_test bit false e ih h = cc

    by_option : (o : Option ℕ) → flag_of letter ≡ o → ((more : ℕ) → with_letters more letters ≡ Some all → AddLetters more letters all)
        → option_and_then (λ bit. if bit_and bits bit == 0 then with_letters (bit_or bits bit) letters else None) o ≡ Some all → AddLetters bits (letter ∷ letters) all
    by_option None e ih h = cc
    by_option (Some bit) e ih h = let rest = by_test bit (eqb (bit_and bits bit) 0) refl ih h in (bit, e, rest.0, rest.1)

letters_dash : (all : ℕ) → with_letters 0 (codes "-") ≡ Some all → ⊥
letters_dash all h = cc

flags_by : (word : List ℕ) (all : ℕ) (b : Bool) → bytes_eq word (codes "-") ≡ b → with_letters 0 word ≡ Some all
    → (if b then Some 0 else with_letters 0 word) ≡ Some all
flags_by word all true e h = absurd (letters_dash all (ap (with_letters 0) (sym ((bytes_eq-Decides word (codes "-")).0 e)) ∙ h))
flags_by word all false e h = h

bits-letters : (word : List ℕ) (all : ℕ) → 0 < length word → with_letters 0 word ≡ Some all → bits_of word ≡ Some all
bits-letters [] all some h = absurd (omega arith)
bits-letters (letter ∷ letters) all some h = flags_by (letter ∷ letters) all (bytes_eq (letter ∷ letters) (codes "-")) refl h

abbrev flags_with : ℕ → PteFlags
flags_with bits = record { 0 = bits }

pub flags-writes : (word : List ℕ) (flags : PteFlags) → WritesFlags word flags → flags_of word ≡ Some flags
flags-writes word flags (inl h) = ap flags_of h.0 ∙ ap (λ bits. Some (flags_with bits)) (sym h.1)
flags-writes word flags (inr h) = ap (option_map flags_with) (bits-letters word flags.0 h.0 (letters-add 0 word flags.0 h.1))

bits_by : (word : List ℕ) (all : ℕ) (b : Bool) → 0 < length word → bytes_eq word (codes "-") ≡ b
    → (if b then Some 0 else with_letters 0 word) ≡ Some all → ((word ≡ codes "-") × (all ≡ 0)) ⊎ ((0 < length word) × AddLetters 0 word all)
bits_by word all true some e h = inl ((bytes_eq-Decides word (codes "-")).0 e, sym (same_Some _ _ h))
bits_by word all false some e h = inr (some, add-letters 0 word all h)

bits-write : (word : List ℕ) (all : ℕ) → bits_of word ≡ Some all → ((word ≡ codes "-") × (all ≡ 0)) ⊎ ((0 < length word) × AddLetters 0 word all)
bits-write [] all h = cc
bits-write (letter ∷ letters) all h = bits_by (letter ∷ letters) all (bytes_eq (letter ∷ letters) (codes "-")) (omega arith) refl h

pub writes-flags : (word : List ℕ) (flags : PteFlags) → flags_of word ≡ Some flags → WritesFlags word flags
writes-flags word flags h = by_bits (bits_of word) refl h
  where
    by_bits : (o : Option ℕ) → bits_of word ≡ o → option_map flags_with o ≡ Some flags → WritesFlags word flags
    by_bits None e h = cc
    by_bits (Some bits) e h = subst (WritesFlags word) (same_Some _ _ h) (bits-write word bits e)
