-- The laws of a TLB of a chosen size.
use Rattle.std.proofs.Common.{◌≡◌, ◌∙◌, ap, sym, refl, ℕ, zero, suc, ◌+◌, ◌-◌, ◌<◌, ◌≤◌, Bool, true, false, Some, None, List, [], ◌∷◌, ◌++◌, length, drop, arith, length-append, append-nil, inl, inr}
use Rattle.std.specs.Prelude.{◌==◌, ◌||◌, find, if◌then◌else◌, nat_le, nat_lt}
use Rattle.std.specs.Option.{option_or}
use Rattle.std.proofs.lemmas.Bool.{and_parts, cases_Bool, eqb-true, false_from_ne_true, leb-true, lt-ltb, ltb-true, true≢false}
use Rattle.std.proofs.lemmas.List.{drop-append-le, drop-drop, length-drop, append_assoc}
use Rattle.std.proofs.lemmas.List.Folds.{find-append}
use Rattle.pte.specs.Address.{Span, bytes_of, holds, overlaps}
use Rattle.tlb.specs.declared.store.Entry.{Entry}
use Rattle.tlb.specs.Mappings.{maps_into}
use Rattle.tlb.specs.Entries.{first_match, is_match}
use Rattle.melissaledge_c.specs.SizedTlbs.{after_fills, beside, is_replaced, replaced_to}

length_of_one : (xs : List Entry) (e : Entry) → length (xs ++ e ∷ []) ≡ length xs + 1
length_of_one xs e = length-append xs (e ∷ [])

-- fills one after the other, from entries that the TLB holds
fills_from : (most : ℕ) (xs es : List Entry) → length xs ≤ most → after_fills most xs es ≡ drop (length (xs ++ es) - most) (xs ++ es)
fills_from most xs [] fits =
    let none : length (xs ++ []) - most ≡ 0 = omega (arith, length-append xs [], fits) in
    rw none (sym (append-nil xs))
fills_from most xs (e ∷ es) fits =
    let more = xs ++ e ∷ [] in
    let k = length more - most in
    let left = drop k more in
    let long : length more ≡ length xs + 1 = length_of_one xs e in
    let left_long : length left ≡ length more - k = length-drop k more in
    let within : k ≤ length more = omega arith in
    let joined : xs ++ e ∷ es ≡ more ++ es = sym (append_assoc xs (e ∷ []) es) in
    let front : left ++ es ≡ drop k (more ++ es) = sym (drop-append-le k more es within) in
    let total : length (left ++ es) ≡ length left + length es = length-append left es in
    let all : length (more ++ es) ≡ length more + length es = length-append more es in
    let same : k + (length (left ++ es) - most) ≡ length (more ++ es) - most = omega (arith, fits, long, left_long, total, all) in
    fills_from most left es (omega (arith, fits, long, left_long))
    ∙ ap (drop (length (left ++ es) - most)) front
    ∙ drop-drop (length (left ++ es) - most) k (more ++ es)
    ∙ ap (λ n. drop n (more ++ es)) same
    ∙ ap (λ zs. drop (length zs - most) zs) (sym joined)

pub last_stay : (most : ℕ) (fills : List Entry) → after_fills most [] fills ≡ drop (length fills - most) fills
last_stay most fills = fills_from most [] fills (omega arith)

-- what is left beside a new entry does not answer for its page
both_hold : (a b : Span) (va : ℕ) → holds a va ≡ true → holds b va ≡ true → overlaps a b ≡ true
both_hold a b va on on' =
    let p = and_parts (nat_le a.base va) (nat_lt va (a.base + bytes_of a.size)) on in
    let q = and_parts (nat_le b.base va) (nat_lt va (b.base + bytes_of b.size)) on' in
    let a_from : a.base ≤ va = leb-true a.base va p.0 in
    let a_below : va < a.base + bytes_of a.size = ltb-true va (a.base + bytes_of a.size) p.1 in
    let b_from : b.base ≤ va = leb-true b.base va q.0 in
    let b_below : va < b.base + bytes_of b.size = ltb-true va (b.base + bytes_of b.size) q.1 in
    rw (lt-ltb a.base (b.base + bytes_of b.size) (omega (arith, a_from, b_below)), lt-ltb b.base (a.base + bytes_of a.size) (omega (arith, b_from, a_below))) refl

replaced : (global : Bool) (page : Span) (own asid : ℕ) (x : Entry) → overlaps page x.page ≡ true → (global || (own == asid)) ≡ true → (x.global || (x.asid == asid)) ≡ true → maps_into page (if global then None else Some own) x ≡ true
replaced true page own asid x over is mine = over
replaced false page own asid x over is mine =
    let same : own ≡ asid = eqb-true own asid is in rw (same, over) mine

module _ (new : Entry) (asid va : ℕ) (held : holds new.page va ≡ true) (its : (new.global || (new.asid == asid)) ≡ true) where
  gone : (x : Entry) → is_match asid va x ≡ true → is_replaced new x ≡ true
  gone x on =
      let p = and_parts (holds x.page va) (x.global || (x.asid == asid)) on in
      replaced new.global new.page new.asid asid x (both_hold new.page x.page va held p.0) its p.1

  none_left : (xs : List Entry) → find (is_match asid va) (beside new xs) ≡ None
  none_left [] = refl
  none_left (x ∷ xs) =
      elim (cases_Bool (is_replaced new x)) [
        | inl on ↦ rw on (none_left xs)
        | inr off ↦
            let not_it : is_match asid va x ≡ false = false_from_ne_true (is_match asid va x) (λ on. true≢false (sym (gone x on) ∙ off)) in
            rw (off, not_it) (none_left xs)
      ]

  none_dropped : (k : ℕ) (xs : List Entry) → find (is_match asid va) xs ≡ None → find (is_match asid va) (drop k xs) ≡ None
  none_dropped zero xs e = e
  none_dropped (suc k) [] e = e
  none_dropped (suc k) (x ∷ xs) e =
      elim (cases_Bool (is_match asid va x)) [
        | inl on ↦ let found : Some x ≡ None = rw on at e in cc
        | inr off ↦ none_dropped k xs (rw off at e)
      ]

  it_matches : is_match asid va new ≡ true
  it_matches = rw (held, its) refl

  pub answers_alone : (most : ℕ) (entries : List Entry) → 0 < most → first_match (replaced_to most entries new) asid va ≡ Some new
  answers_alone most entries some =
      let xs = beside new entries in
      let k = length (xs ++ new ∷ []) - most in
      let within : k ≤ length xs = omega (arith, length_of_one xs new, some) in
      let last : find (is_match asid va) (new ∷ []) ≡ Some new = rw it_matches refl in
      ap (find (is_match asid va)) (drop-append-le k xs (new ∷ []) within)
      ∙ find-append (is_match asid va) (drop k xs) (new ∷ [])
      ∙ ap (λ o. option_or o (find (is_match asid va) (new ∷ []))) (none_dropped k xs (none_left entries))
      ∙ last
