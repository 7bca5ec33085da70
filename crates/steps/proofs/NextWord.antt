-- The first word of a text, and what stands after it.
use Rattle.std.proofs.Common.{◌≡◌, ℕ, ◌+◌, ◌<◌, ◌≤◌, suc, Bool, true, false, not, List, [], ◌∷◌, length, take, drop, get_or, nat_lt, Some, None, if◌then◌else◌, refl, sym, ap, subst, ◌∙◌, arith, length-drop}
use Rattle.std.specs.List.{AllByRecursion, position_or_len}
use Rattle.std.specs.Option.{unwrap_or}
use Rattle.std.proofs.lemmas.Bool.Decides.{nat_tests}
use Rattle.std.proofs.lemmas.List.{drop_all, get_or-drop, take_all, take-append-drop}
use Rattle.std.proofs.lemmas.List.Sums.{passes_at_first, position_or_len_is}
use Rattle.steps.specs.Grammar.{Breaks}
use Rattle.steps.specs.Words.{is_blank, words_of}
use Rattle.steps.proofs.WordLemmas.{words_of-blank, words_of-word}

-- how many bytes stand before the first that is not blank, and before the first that is
abbrev pub blank_len : List ℕ → ℕ
blank_len text = position_or_len (λ byte. not (is_blank byte)) text

abbrev pub word_len : List ℕ → ℕ
word_len text = position_or_len is_blank text

abbrev IsPlain : List ℕ → Type 0
IsPlain bytes = AllByRecursion (λ byte. is_blank byte ≡ false) bytes

one_more : (n : ℕ) → 1 + n ≡ suc n
one_more n = omega arith

blank_len-blank : (b : ℕ) (text : List ℕ) → is_blank b ≡ true → blank_len (b ∷ text) ≡ suc (blank_len text)
blank_len-blank b text e = rw e (one_more (blank_len text))

blank_len-plain : (b : ℕ) (text : List ℕ) → is_blank b ≡ false → blank_len (b ∷ text) ≡ 0
blank_len-plain b text e = rw e

word_len-plain : (b : ℕ) (text : List ℕ) → is_blank b ≡ false → word_len (b ∷ text) ≡ suc (word_len text)
word_len-plain b text e = rw e (one_more (word_len text))

word_len-blank : (b : ℕ) (text : List ℕ) → is_blank b ≡ true → word_len (b ∷ text) ≡ 0
word_len-blank b text e = rw e

pub words_of-past_blanks : (text : List ℕ) → words_of (drop (blank_len text) text) ≡ words_of text
words_of-past_blanks [] = refl
words_of-past_blanks (b ∷ text) = by_test (is_blank b) refl (words_of-past_blanks text)
  where
    by_test : (v : Bool) → is_blank b ≡ v → words_of (drop (blank_len text) text) ≡ words_of text → words_of (drop (blank_len (b ∷ text)) (b ∷ text)) ≡ words_of (b ∷ text)
    by_test true e h = ap (λ n. words_of (drop n (b ∷ text))) (blank_len-blank b text e) ∙ h ∙ sym (words_of-blank b text e)
    by_test false e h = ap (λ n. words_of (drop n (b ∷ text))) (blank_len-plain b text e)

-- the bytes before this place have no blank, and a blank stands there, or the end
abbrev EndsAt : List ℕ → ℕ → Type 0
EndsAt text n = IsPlain (take n text) × Breaks (drop n text)

word_ends : (text : List ℕ) → EndsAt text (word_len text)
word_ends [] = (tt, tt)
word_ends (b ∷ text) = by_test (is_blank b) refl (word_ends text)
  where
    by_test : (v : Bool) → is_blank b ≡ v → EndsAt text (word_len text) → EndsAt (b ∷ text) (word_len (b ∷ text))
    by_test true e h = subst (EndsAt (b ∷ text)) (sym (word_len-blank b text e)) (tt, e)
    by_test false e h = subst (EndsAt (b ∷ text)) (sym (word_len-plain b text e)) ((e, h.0), h.1)

-- the first word, and what stands after it
pub record Splits (text word rest : List ℕ) : Type 0 where
  pub words : words_of text ≡ word ∷ words_of rest
  pub shorter : length rest < length text

-- where no blank stands in front
plain_splits : (text : List ℕ) → 0 < length text → is_blank (get_or text 0 0) ≡ false → Splits text (take (word_len text) text) (drop (word_len text) text)
plain_splits [] some e = absurd (omega arith)
plain_splits (b ∷ text) some e =
    let ends = word_ends (b ∷ text) in
    let n = word_len-plain b text e in
    let word : 0 < length (take (word_len (b ∷ text)) (b ∷ text)) = subst (λ n. 0 < length (take n (b ∷ text))) (sym n) (omega arith) in
    record {
      words =
          ap words_of (sym (take-append-drop (word_len (b ∷ text)) (b ∷ text)))
          ∙ words_of-word (take (word_len (b ∷ text)) (b ∷ text)) (drop (word_len (b ∷ text)) (b ∷ text)) (word, ends.0) ends.1;
      shorter = subst (λ n. length (drop n (b ∷ text)) < length (b ∷ text)) (sym n) (omega (arith, length-drop (word_len text) text));
    }

not_false : (b : Bool) → not b ≡ true → b ≡ false
not_false b h = grind arith

-- by the answers of the two searches
pub no_word : (text : List ℕ) → length text ≤ blank_len text → words_of text ≡ []
no_word text h = sym (words_of-past_blanks text) ∙ ap words_of (drop_all (blank_len text) text h)

-- the word before the first blank, where none stands in front
pub word_before_blank : (text : List ℕ) (end : ℕ) → 0 < length text → is_blank (get_or text 0 0) ≡ false → end < length text
    → ((k : ℕ) → k < end → is_blank (get_or text k 0) ≡ false) → is_blank (get_or text end 0) ≡ true → words_of text ≡ take end text ∷ words_of (drop end text)
word_before_blank text end some plain less before blank =
    let is : word_len text ≡ end = position_or_len_is is_blank text end 0 (omega arith) before (λ _. blank) in
    subst (λ n. words_of text ≡ take n text ∷ words_of (drop n text)) is (plain_splits text some plain).words

-- the one word of a text without a blank
pub word_to_end : (text : List ℕ) → 0 < length text → is_blank (get_or text 0 0) ≡ false → ((k : ℕ) → k < length text → is_blank (get_or text k 0) ≡ false) → words_of text ≡ text ∷ []
word_to_end text some plain each =
    let is : word_len text ≡ length text = position_or_len_is is_blank text (length text) 0 (omega arith) each (λ less. absurd (omega (arith, less))) in
    let word : take (word_len text) text ≡ text = take_all (word_len text) text (omega (arith, is)) in
    let rest : drop (word_len text) text ≡ [] = drop_all (word_len text) text (omega (arith, is)) in
    (plain_splits text some plain).words ∙ rw (word, rest) refl

-- the byte that stands after all blanks in front is none
pub plain_front : (text : List ℕ) → blank_len text < length text → is_blank (get_or (drop (blank_len text) text) 0 0) ≡ false
plain_front text h =
    let front : get_or (drop (blank_len text) text) 0 0 ≡ get_or text (blank_len text) 0 = get_or-drop (blank_len text) text 0 0 ∙ ap (λ n. get_or text n 0) (omega arith) in
    ap is_blank front ∙ not_false (is_blank (get_or text (blank_len text) 0)) (passes_at_first (λ byte. not (is_blank byte)) text 0 h)

pub unwrap_position : (n m : ℕ) → n ≤ m → unwrap_or (if nat_lt n m then Some n else None) m ≡ n
unwrap_position n m h = grind (arith, nat_tests)
