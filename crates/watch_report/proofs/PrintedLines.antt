-- The fields and the note of a line that is printed are found again.
use Rattle.std.proofs.Common.{◌≡◌, ℕ, suc, ◌+◌, ◌-◌, ◌<◌, false, List, [], ◌∷◌, ◌++◌, length, take, drop, Some, refl, ap, ◌∙◌, arith, length-append}
use Rattle.std.specs.Prelude.{◌==◌}
use Rattle.std.specs.List.{AllByRecursion, join_with_byte, position_or_len}
use Rattle.std.proofs.lemmas.Bool.{le-ltb, lt-ltb, ne_eqb}
use Rattle.std.proofs.lemmas.List.Elements.{All-from_recursion}
use Rattle.std.proofs.lemmas.List.Splits.{slice_split_at, slice_split_none}
use Rattle.watch_report.specs.Fields.{fields_of, is_separator}
use Rattle.watch_report.specs.TraceLines.{before_note, begins_note, note_of, without_space}
use Rattle.watch_report.proofs.PrintedNumbers.{IsPlain}

abbrev pub ArePlain : List (List ℕ) → Type 0
ArePlain fields = AllByRecursion IsPlain fields

no_spaces : (field : List ℕ) → IsPlain field → AllByRecursion (λ c. is_separator c ≡ false) field
no_spaces [] h = tt
no_spaces (c ∷ field) h = (h.0.0, no_spaces field h.1)

pub fields_of-joined : (field : List ℕ) (fields : List (List ℕ)) → ArePlain (field ∷ fields) → fields_of (join_with_byte 32 (field ∷ fields)) ≡ field ∷ fields
fields_of-joined field [] h = slice_split_none is_separator field (All-from_recursion (λ c. is_separator c ≡ false) field (no_spaces field h.0))
fields_of-joined field (next ∷ fields) h =
    slice_split_at is_separator field 32 (join_with_byte 32 (next ∷ fields)) (All-from_recursion (λ c. is_separator c ≡ false) field (no_spaces field h.0)) refl
    ∙ ap (λ (rest : List (List ℕ)). field ∷ rest) (fields_of-joined next fields h.1)

-- ---- notes

abbrev pub HasNoNote : List ℕ → Type 0
HasNoNote text = AllByRecursion (λ c. begins_note c ≡ false) text

plain_has_no_note : (field rest : List ℕ) → IsPlain field → HasNoNote rest → HasNoNote (field ++ rest)
plain_has_no_note [] rest h k = k
plain_has_no_note (c ∷ field) rest h k = (h.0.1, plain_has_no_note field rest h.1 k)

plain_alone : (field : List ℕ) → IsPlain field → HasNoNote field
plain_alone [] h = tt
plain_alone (c ∷ field) h = (h.0.1, plain_alone field h.1)

pub joined_has_no_note : (field : List ℕ) (fields : List (List ℕ)) → ArePlain (field ∷ fields) → HasNoNote (join_with_byte 32 (field ∷ fields))
joined_has_no_note field [] h = plain_alone field h.0
joined_has_no_note field (next ∷ fields) h =
    plain_has_no_note field (32 ∷ join_with_byte 32 (next ∷ fields)) h.0 (refl, joined_has_no_note next fields h.1)

-- the note begins after the text and a space
note_place : (body by : List ℕ) → HasNoNote body → position_or_len begins_note (body ++ (32 ∷ 64 ∷ by)) ≡ length body + 1
note_place [] by h = refl
note_place (c ∷ body) by h = rw h.0 (omega (arith, note_place body by h.1))

no_note_place : (body : List ℕ) → HasNoNote body → position_or_len begins_note body ≡ length body
no_note_place [] h = refl
no_note_place (c ∷ body) h = rw h.0 (omega (arith, no_note_place body h.1))

front : (body rest : List ℕ) → take (length body + 1) (body ++ (32 ∷ rest)) ≡ body ++ (32 ∷ [])
front [] rest = refl
front (c ∷ body) rest = let e : length (c ∷ body) + 1 ≡ suc (length body + 1) = omega arith in rw e (ap (λ (t : List ℕ). c ∷ t) (front body rest))

back : (body : List ℕ) (b c : ℕ) (rest : List ℕ) → drop (length body + 1 + 1) (body ++ (b ∷ c ∷ rest)) ≡ rest
back [] b c rest = refl
back (d ∷ body) b c rest = let e : length (d ∷ body) + 1 + 1 ≡ suc (length body + 1 + 1) = omega arith in rw e (back body b c rest)

take_front : (body rest : List ℕ) → take (length body) (body ++ rest) ≡ body
take_front [] rest = refl
take_front (c ∷ body) rest = ap (λ (t : List ℕ). c ∷ t) (take_front body rest)

drop_front : (body rest : List ℕ) → drop (length body) (body ++ rest) ≡ rest
drop_front [] rest = refl
drop_front (c ∷ body) rest = drop_front body rest

space_taken : (body : List ℕ) → without_space (body ++ (32 ∷ [])) ≡ Some body
space_taken body =
    let last : length (body ++ (32 ∷ [])) - 1 ≡ length body = omega (arith, length-append body (32 ∷ [])) in
    rw (last, drop_front body (32 ∷ []), take_front body (32 ∷ [])) refl

pub noted : (body by : List ℕ) → HasNoNote body → (before_note (body ++ (32 ∷ 64 ∷ by)) ≡ Some body) × (note_of (body ++ (32 ∷ 64 ∷ by)) ≡ by)
noted body by h =
    let place = note_place body by h in
    let less : length body + 1 < length (body ++ (32 ∷ 64 ∷ by)) = omega (arith, length-append body (32 ∷ 64 ∷ by)) in (
      rw (place, lt-ltb (length body + 1) (length (body ++ (32 ∷ 64 ∷ by))) less, front body (64 ∷ by)) (space_taken body),
      rw place (back body 32 64 by),
    )

pub not_noted : (body : List ℕ) → HasNoNote body → (before_note body ≡ Some body) × (note_of body ≡ [])
not_noted body h =
    let place = no_note_place body h in (
      rw (place, le-ltb (length body) (length body) (omega arith)) refl,
      rw place (drop_all_more body),
    )
  where
    drop_all_more : (xs : List ℕ) → drop (length xs + 1) xs ≡ []
    drop_all_more [] = refl
    drop_all_more (x ∷ xs) = let e : length (x ∷ xs) + 1 ≡ suc (length xs + 1) = omega arith in rw e (drop_all_more xs)

-- ---- a line that begins with a letter and a space is none of the other lines

pub some_bytes : (c : ℕ) (cs : List ℕ) → (length (c ∷ cs) == 0) ≡ false
some_bytes c cs = ne_eqb (length (c ∷ cs)) 0 (λ e. omega arith)
