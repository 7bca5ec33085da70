-- A page's size by the first digit of its word.
use Rattle.std.proofs.Common.{◌≡◌, ◌≢◌, ℕ, ◌==◌, false, codes, List, [], ◌∷◌, Option, Some, None, refl, arith}
use Rattle.std.specs.Option.{option_or}
use Rattle.std.proofs.lemmas.Bool.Decides.{nat_tests}
use Rattle.pte.specs.declared.address.PageSize.{PageSize}
use Rattle.pte.specs.declared.address.PageSize.TheVariants.{Kib4, Mib2, Gib1, Gib512}
use Rattle.steps.specs.declared.fields.PageWord.{PageWord}
use Rattle.steps.specs.Fields.{page_after, sized_page_of}
use Rattle.steps.specs.Likely.{letter}

-- a word with another first letter than the size
not_size : (head : ℕ) (tail : List ℕ) (size : PageSize) (word : List ℕ) → (letter word 0 == head) ≡ false → page_after (head ∷ tail) size word ≡ None
not_size head tail size [] e = refl
not_size head tail size (b ∷ word) e = rw e refl

is_not : (first head : ℕ) → first ≢ head → (first == head) ≡ false
is_not first head h = grind (arith, nat_tests)

only_first : (x : Option PageWord) → x ≡ option_or (option_or (option_or x None) None) None
only_first None = refl
only_first (Some page) = refl

only_second : (x : Option PageWord) → x ≡ option_or (option_or (option_or None x) None) None
only_second None = refl
only_second (Some page) = refl

only_third : (x : Option PageWord) → x ≡ option_or (option_or (option_or None None) x) None
only_third None = refl
only_third (Some page) = refl

only_fourth : (x : Option PageWord) → x ≡ option_or (option_or (option_or None None) None) x
only_fourth None = refl
only_fourth (Some page) = refl

pub page_by_4 : (word : List ℕ) → letter word 0 ≡ 52 → page_after (codes "4K:") Kib4 word ≡ sized_page_of word
page_by_4 word e =
    rw (not_size 50 (codes "M:") Mib2 word (rw e refl), not_size 49 (codes "G:") Gib1 word (rw e refl), not_size 53 (codes "12G:") Gib512 word (rw e refl)) (only_first (page_after (codes "4K:") Kib4 word))

pub page_by_2 : (word : List ℕ) → letter word 0 ≡ 50 → page_after (codes "2M:") Mib2 word ≡ sized_page_of word
page_by_2 word e =
    rw (not_size 52 (codes "K:") Kib4 word (rw e refl), not_size 49 (codes "G:") Gib1 word (rw e refl), not_size 53 (codes "12G:") Gib512 word (rw e refl)) (only_second (page_after (codes "2M:") Mib2 word))

pub page_by_1 : (word : List ℕ) → letter word 0 ≡ 49 → page_after (codes "1G:") Gib1 word ≡ sized_page_of word
page_by_1 word e =
    rw (not_size 52 (codes "K:") Kib4 word (rw e refl), not_size 50 (codes "M:") Mib2 word (rw e refl), not_size 53 (codes "12G:") Gib512 word (rw e refl)) (only_third (page_after (codes "1G:") Gib1 word))

pub page_by_others : (word : List ℕ) → letter word 0 ≢ 52 → letter word 0 ≢ 50 → letter word 0 ≢ 49 → page_after (codes "512G:") Gib512 word ≡ sized_page_of word
page_by_others word not_4 not_2 not_1 =
    rw (not_size 52 (codes "K:") Kib4 word (is_not _ _ not_4), not_size 50 (codes "M:") Mib2 word (is_not _ _ not_2), not_size 49 (codes "G:") Gib1 word (is_not _ _ not_1)) (only_fourth (page_after (codes "512G:") Gib512 word))
