-- No two spaces of a configuration within the limits have one ASID.
use Rattle.std.proofs.Common.{◌≡◌, ℕ, zero, suc, ◌<◌, true, not, ◌==◌, List, [], ◌∷◌, length, map, refl, ap, sym, ◌∙◌, arith, eqb}
use Rattle.std.specs.Prelude.{slice_index}
use Rattle.std.specs.List.{list_any}
use Rattle.std.proofs.lemmas.Bool.{and_parts, eq-eqb, false≢true, not-true, or_left, or_right}
use Rattle.spaces.specs.declared.configuration.Space.{Space}
use Rattle.spaces.specs.Limits.{asids_differ}

-- the ASID at an index
abbrev pub asid_at : List Space → ℕ → ℕ
asid_at ss i = slice_index (map (λ s. s.asid) ss) i

any_at : (ss : List Space) (i asid : ℕ) → i < length ss → asid_at ss i ≡ asid → list_any (λ other. other.asid == asid) ss ≡ true
any_at [] i asid less e = absurd (omega arith)
any_at (s ∷ ss) zero asid less e = or_left (eqb s.asid asid) (list_any (λ other. other.asid == asid) ss) (eq-eqb s.asid asid e)
any_at (s ∷ ss) (suc i) asid less e = or_right (eqb s.asid asid) (list_any (λ other. other.asid == asid) ss) (any_at ss i asid (omega arith) e)

pub differ : (ss : List Space) (i j : ℕ) → asids_differ ss ≡ true → i < length ss → j < length ss → asid_at ss i ≡ asid_at ss j → i ≡ j
differ [] i j d less less' e = absurd (omega arith)
differ (s ∷ ss) zero zero d less less' e = refl
differ (s ∷ ss) zero (suc j) d less less' e =
    let none = not-true (list_any (λ other. other.asid == s.asid) ss) (and_parts (not (list_any (λ other. other.asid == s.asid) ss)) (asids_differ ss) d).0 in
    absurd (false≢true (sym none ∙ any_at ss j s.asid (omega arith) (sym e)))
differ (s ∷ ss) (suc i) zero d less less' e =
    let none = not-true (list_any (λ other. other.asid == s.asid) ss) (and_parts (not (list_any (λ other. other.asid == s.asid) ss)) (asids_differ ss) d).0 in
    absurd (false≢true (sym none ∙ any_at ss i s.asid (omega arith) e))
differ (s ∷ ss) (suc i) (suc j) d less less' e =
    ap suc (differ ss i j (and_parts (not (list_any (λ other. other.asid == s.asid) ss)) (asids_differ ss) d).1 (omega arith) (omega arith) e)
