-- The words that a text has by its grammar are those that `words_of` finds.
use Rattle.std.proofs.Common.{◌≡◌, ℕ, ◌<◌, ◌==◌, Bool, true, false, not, List, [], ◌∷◌, ◌++◌, length, Some, None, Option, option_and_then, option_map, refl, sym, ap, subst, ◌∙◌, append-nil, arith}
use Rattle.std.specs.List.{filter, slice_split}
use Rattle.std.specs.Str.{bytes_eq}
use Rattle.std.proofs.lemmas.Bool.Decides.{nat_tests}
use Rattle.std.proofs.lemmas.Slice.Eq.{bytes_eq-Decides}
use Rattle.std.proofs.lemmas.List.Elements.{All-from_recursion}
use Rattle.std.proofs.lemmas.List.Splits.{slice_split_at, slice_split_none}
use Rattle.std.proofs.lemmas.Option.{same_Some}
use Rattle.pte.specs.declared.permission.Access.{Access}
use Rattle.pte.specs.declared.permission.Access.TheVariants.{Fetch, Load, Store}
use Rattle.pte.specs.declared.permission.Mode.{Mode}
use Rattle.pte.specs.declared.permission.Mode.TheVariants.{User, Super}
use Rattle.steps.specs.Accesses.{access_of, access_text, ctx_of, ctx_text, named}
use Rattle.steps.specs.Words.{is_blank, words_of}
use Rattle.steps.specs.Grammar.{Breaks, HasWords, IsBlanks, IsWord}

abbrev is_kept : List ℕ → Bool
is_kept word = not (length word == 0)

pub words_of-blank : (b : ℕ) (text : List ℕ) → is_blank b ≡ true → words_of (b ∷ text) ≡ words_of text
words_of-blank b text h = rw h

words_of-lead : (lead text : List ℕ) → IsBlanks lead → words_of (lead ++ text) ≡ words_of text
words_of-lead [] text h = refl
words_of-lead (b ∷ lead) text h = words_of-blank b (lead ++ text) h.0 ∙ words_of-lead lead text h.1

kept : (word : List ℕ) (parts : List (List ℕ)) → 0 < length word → filter is_kept (word ∷ parts) ≡ word ∷ filter is_kept parts
kept [] parts h = absurd (omega arith)
kept (b ∷ word) parts h = let some : (length (b ∷ word) == 0) ≡ false = grind (arith, nat_tests) in rw some

pub words_of-word : (word rest : List ℕ) → IsWord word → Breaks rest → words_of (word ++ rest) ≡ word ∷ words_of rest
words_of-word word [] h ends =
    rw (append-nil word, slice_split_none is_blank word (All-from_recursion _ word h.1)) (kept word [] h.0)
words_of-word word (b ∷ rest) h ends =
    rw (slice_split_at is_blank word b rest (All-from_recursion _ word h.1) ends, ends) (kept word (slice_split is_blank rest) h.0)

pub words_of-has : (words : List (List ℕ)) (text : List ℕ) → HasWords text words → words_of text ≡ words
words_of-has [] text h = ap words_of (sym (append-nil text)) ∙ words_of-lead text [] h
words_of-has (word ∷ words) text (lead, rest, is, blanks, good, breaks, more) =
    ap words_of is ∙ words_of-lead lead (word ++ rest) blanks ∙ words_of-word word rest good breaks ∙ ap (λ ws. word ∷ ws) (words_of-has words rest more)

pub ctx_of-text : (mode : Mode) (sum mxr : Bool) → ctx_of (ctx_text (record { mode = mode; sum = sum; mxr = mxr })) ≡ Some (record { mode = mode; sum = sum; mxr = mxr })
ctx_of-text User true true = refl
ctx_of-text User true false = refl
ctx_of-text User false true = refl
ctx_of-text User false false = refl
ctx_of-text Super true true = refl
ctx_of-text Super true false = refl
ctx_of-text Super false true = refl
ctx_of-text Super false false = refl

pub access_of-text : (access : Access) → access_of (access_text access) ≡ Some access
access_of-text Fetch = refl
access_of-text Load = refl
access_of-text Store = refl

-- ---- each text has words

-- a word of one byte, before what has no blank in front
one_letter : (b : ℕ) (text : List ℕ) (words : List (List ℕ)) → is_blank b ≡ false → Breaks text → HasWords text words → HasWords (b ∷ text) ((b ∷ []) ∷ words)
one_letter b text words e breaks h = ([], text, refl, tt, (omega arith, (e, tt)), breaks, h)

first_letter : (b : ℕ) (text : List ℕ) → is_blank b ≡ false → (words : List (List ℕ)) → HasWords text words → (all : List (List ℕ)) × HasWords (b ∷ text) all
first_letter b [] e [] h = ((b ∷ []) ∷ [], one_letter b [] [] e tt h)
first_letter b (a ∷ text) e [] h = ((b ∷ []) ∷ [], one_letter b (a ∷ text) [] e h.0 h)
first_letter b text e (word ∷ words) ([], rest, is, blanks, good, breaks, more) =
    ((b ∷ word) ∷ words, ([], rest, ap (λ t. b ∷ t) is, tt, (omega arith, (e, good.1)), breaks, more))
first_letter b text e (word ∷ words) (a ∷ lead, rest, is, blanks, good, breaks, more) =
    ((b ∷ []) ∷ word ∷ words, one_letter b text (word ∷ words) e (subst Breaks (sym is) blanks.0) (a ∷ lead, rest, is, blanks, good, breaks, more))

first_blank : (b : ℕ) (text : List ℕ) → is_blank b ≡ true → (words : List (List ℕ)) → HasWords text words → HasWords (b ∷ text) words
first_blank b text e [] h = (e, h)
first_blank b text e (word ∷ words) (lead, rest, is, blanks, good, breaks, more) =
    (b ∷ lead, rest, ap (λ t. b ∷ t) is, (e, blanks), good, breaks, more)

first_byte : (b : ℕ) (text : List ℕ) (v : Bool) → is_blank b ≡ v → (words : List (List ℕ)) × HasWords text words → (all : List (List ℕ)) × HasWords (b ∷ text) all
first_byte b text true e h = (h.0, first_blank b text e h.0 h.1)
first_byte b text false e h = first_letter b text e h.0 h.1

some_words : (text : List ℕ) → (words : List (List ℕ)) × HasWords text words
some_words [] = ([], tt)
some_words (b ∷ text) = first_byte b text (is_blank b) refl (some_words text)

pub has-words_of : (text : List ℕ) → HasWords text (words_of text)
has-words_of text = let h = some_words text in subst (HasWords text) (sym (words_of-has h.0 text h.1)) h.1

-- ---- what is found among names is written so

named_step : {X : Type 0} (text : X → List ℕ) (y x : X) (xs : List X) (word : List ℕ) (b : Bool) → bytes_eq word (text y) ≡ b
    → (named text xs word ≡ Some x → word ≡ text x) → named text (y ∷ xs) word ≡ Some x → word ≡ text x
named_step text y x xs word true e rest h =
    let same : y ≡ x = same_Some _ _ (rw e at h) in
    (bytes_eq-Decides word (text y)).0 e ∙ ap text same
named_step text y x xs word false e rest h = rest (rw e at h)

pub named-Some : {X : Type 0} (text : X → List ℕ) (xs : List X) (word : List ℕ) (x : X) → named text xs word ≡ Some x → word ≡ text x
named-Some text [] word x h = cc
named-Some text (y ∷ xs) word x h = named_step text y x xs word (bytes_eq word (text y)) refl (named-Some text xs word x) h

pub option_map-Some : {A B : Type 0} (f : A → B) (o : Option A) (y : B) → option_map f o ≡ Some y → (x : A) × ((o ≡ Some x) × (f x ≡ y))
option_map-Some f None y h = cc
option_map-Some f (Some x) y h = (x, (refl, same_Some _ _ h))

pub option_and_then-Some : {A B : Type 0} (f : A → Option B) (o : Option A) (y : B) → option_and_then f o ≡ Some y → (x : A) × ((o ≡ Some x) × (f x ≡ Some y))
option_and_then-Some f None y h = cc
option_and_then-Some f (Some x) y h = (x, (refl, h))
