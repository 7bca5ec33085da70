-- One hart more, one number more and one note more.
use Rattle.std.proofs.Common.{◌≡◌, ℕ, suc, ◌+◌, ◌<◌, ◌≤◌, Bool, false, List, [], ◌∷◌, ◌++◌, length, drop, get_or, ap, cond, sym, ◌∙◌, append_assoc, append-nil, refl, true, arith}
use Rattle.std.specs.Fmt.{decimal}
use Rattle.std.specs.Prelude.{◌==◌, codes, map}
use Rattle.std.proofs.lemmas.List.{drop_all, drop_more}
use Rattle.json.specs.Token.{Token}
use Rattle.watch_report.specs.JsonObjects.{number_value}
use Rattle.watch_report.specs.NoteLines.{fenced_part, harts_below, harts_in, harts_text, has_hart, joined, most_harts}
use Rattle.watch_report.specs.Warnings.{comma_text}

pub next_hart : (mask n : ℕ) → cond (has_hart mask n) (harts_below mask n ++ n ∷ []) (harts_below mask n) ≡ harts_below mask (n + 1)
next_hart mask n = let next : suc n ≡ n + 1 = omega arith in ap (harts_below mask) next

pub all_harts : (n : ℕ) → n ≡ 64 → n ≡ most_harts
unfolding most_harts
all_harts n all = all

-- ---- numbers

next_number : (numbers : List ℕ) (is_first : Bool) (n : ℕ) (rest : List ℕ) (front new all : List ℕ) → numbers ≡ n ∷ rest → new ≡ front ++ comma_text is_first ++ decimal n
    → front ++ joined is_first numbers ≡ all → new ++ joined false rest ≡ all
next_number numbers is_first n rest front new all is e h =
    ap (λ (t : List ℕ). t ++ joined false rest) (e ∙ append_assoc front (comma_text is_first) (decimal n))
    ∙ append_assoc front (comma_text is_first ++ decimal n) (joined false rest)
    ∙ ap (λ (ns : List ℕ). front ++ joined is_first ns) (sym is)
    ∙ h

pub one_more_number : (numbers : List ℕ) (i d : ℕ) (is_first : Bool) (front new all : List ℕ) → i < length numbers → new ≡ front ++ comma_text is_first ++ decimal (get_or numbers i d)
    → front ++ joined is_first (drop i numbers) ≡ all → new ++ joined false (drop (i + 1) numbers) ≡ all
one_more_number numbers i d is_first front new all less e h =
    next_number (drop i numbers) is_first (get_or numbers i d) (drop (i + 1) numbers) front new all (drop_more numbers i d less) e h

pub no_more_numbers : (numbers : List ℕ) (i : ℕ) (is_first : Bool) (front all : List ℕ) → length numbers ≤ i → front ++ joined is_first (drop i numbers) ≡ all → front ≡ all
no_more_numbers numbers i is_first front all most h =
    sym (append-nil front) ∙ ap (λ (ns : List ℕ). front ++ joined is_first ns) (sym (drop_all i numbers most)) ∙ h

pub one_more_item : (numbers : List ℕ) (i d : ℕ) (front new all : List Token) → i < length numbers → new ≡ front ++ number_value (get_or numbers i d) ∷ []
    → front ++ map number_value (drop i numbers) ≡ all → new ++ map number_value (drop (i + 1) numbers) ≡ all
one_more_item numbers i d front new all less e h =
    ap (λ (ts : List Token). ts ++ map number_value (drop (i + 1) numbers)) e
    ∙ append_assoc front (number_value (get_or numbers i d) ∷ []) (map number_value (drop (i + 1) numbers))
    ∙ ap (λ (ns : List ℕ). front ++ map number_value ns) (sym (drop_more numbers i d less))
    ∙ h

pub no_more_items : (numbers : List ℕ) (i : ℕ) (front all : List Token) → length numbers ≤ i → front ++ map number_value (drop i numbers) ≡ all → front ≡ all
no_more_items numbers i front all most h =
    sym (append-nil front) ∙ ap (λ (ns : List ℕ). front ++ map number_value ns) (sym (drop_all i numbers most)) ∙ h

-- ---- lines

pub one_more_line : {X : Type 0} (line : X → List ℕ) (lines : List X → List ℕ) → ((x : X) (xs : List X) → lines (x ∷ xs) ≡ line x ++ lines xs) → (xs : List X) (i : ℕ) (d : X) (front new all : List ℕ)
    → i < length xs → new ≡ front ++ line (get_or xs i d) → front ++ lines (drop i xs) ≡ all → new ++ lines (drop (i + 1) xs) ≡ all
one_more_line line lines next xs i d front new all less e h =
    let rest : List ℕ = lines (drop (i + 1) xs) in
    let back : lines (drop i xs) ≡ line (get_or xs i d) ++ rest = ap lines (drop_more xs i d less) ∙ next (get_or xs i d) (drop (i + 1) xs) in
    ap (λ (t : List ℕ). t ++ rest) e ∙ (append_assoc front (line (get_or xs i d)) rest ∙ (ap (λ (t : List ℕ). front ++ t) (sym back) ∙ h))

-- ---- fences

left_out : (b : Bool) (text : List ℕ) → b ≡ false → cond b [] text ≡ text
left_out true text is = absurd cc
left_out false text is = refl

pub some_fenced : (mask : ℕ) (front mid new : List ℕ) → (mask == 0) ≡ false → mid ≡ front ++ codes "; fences asked of " → new ≡ mid ++ harts_text (harts_in mask) → new ≡ front ++ fenced_part mask
some_fenced mask front mid new some word harts =
    let text : List ℕ = harts_text (harts_in mask) in
    harts
    ∙ (ap (λ (t : List ℕ). t ++ text) word
    ∙ (append_assoc front (codes "; fences asked of ") text
    ∙ ap (λ (t : List ℕ). front ++ t) (sym (left_out (mask == 0) (codes "; fences asked of " ++ text) some))))
