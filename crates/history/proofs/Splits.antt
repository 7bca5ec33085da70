-- Something happened at the newest turn, or at an earlier one.
use Rattle.std.proofs.Common.{◌≡◌, ◌⊎◌, inl, inr, [], ◌∷◌, ◌++◌, refl, ap, sym, subst}
use Rattle.std.specs.Prelude.{◌↔◌}
use Rattle.history.specs.Turns.{Turn, History}
use Rattle.history.specs.Occurrences.{Sometime, Since}

pub not_split : (newer : History) (turn : Turn) (earlier : History) → [] ≡ newer ++ turn ∷ earlier → ⊥
not_split [] turn earlier e = absurd cc
not_split (x ∷ newer) turn earlier e = absurd cc

module _ (P : Turn → History → Type 0) where
  pub sometime-here : (turn : Turn) (H : History) → P turn H → Sometime P (turn ∷ H)
  sometime-here turn H p = record { later = []; turn = turn; earlier = H; split = refl; so = p }

  pub sometime-later : (turn : Turn) (H : History) → Sometime P H → Sometime P (turn ∷ H)
  sometime-later turn H s = record { later = turn ∷ s.later; turn = s.turn; earlier = s.earlier; split = ap (λ xs. turn ∷ xs) s.split; so = s.so }

  pub not_sometime-empty : Sometime P [] → ⊥
  not_sometime-empty s = not_split s.later s.turn s.earlier s.split

  cases_at : (later : History) (turn other : Turn) (H earlier : History) → turn ∷ H ≡ later ++ other ∷ earlier → P other earlier → P turn H ⊎ Sometime P H
  cases_at [] turn other H earlier e p =
      let same : other ≡ turn = cc in
      let rest : earlier ≡ H = cc in
      inl (subst (λ t. P t H) same (subst (P other) rest p))
  cases_at (x ∷ later) turn other H earlier e p =
      let rest : H ≡ later ++ other ∷ earlier = cc in
      inr (record { later = later; turn = other; earlier = earlier; split = rest; so = p })

  pub sometime_cases : (turn : Turn) (H : History) → Sometime P (turn ∷ H) → P turn H ⊎ Sometime P H
  sometime_cases turn H s = cases_at s.later turn s.turn H s.earlier s.split s.so

-- what is so at a turn or was so before is so sometime
pub read_sometime : (P : Turn → History → Type 0) (R : History → Type 0) → (R [] → ⊥)
    → ((turn : Turn) (H : History) → R (turn ∷ H) ↔ (P turn H ⊎ R H)) → (H : History) → R H ↔ Sometime P H
read_sometime P R empty step [] = (λ r. absurd (empty r), λ s. absurd (not_sometime-empty P s))
read_sometime P R empty step (turn ∷ H) =
    let before = read_sometime P R empty step H in (
      λ r. elim ((step turn H).0 r) [ inl p ↦ sometime-here P turn H p | inr old ↦ sometime-later P turn H (before.0 old) ],
      λ s. (step turn H).1 (elim (sometime_cases P turn H s) [ inl p ↦ inl p | inr old ↦ inr (before.1 old) ]),
    )

module _ (P Q : Turn → History → Type 0) where
  abbrev pub since-here : (turn : Turn) (H : History) → P turn H → Since P Q (turn ∷ H)
  since-here turn H p = record { later = []; turn = turn; earlier = H; split = refl; so = p; none_since = λ newer next between e q. not_split newer next between e }

  pub none_later : (turn : Turn) (H : History) (s : Since P Q H) → (Q turn H → ⊥) → (newer : History) (next : Turn) (between : History)
      → turn ∷ s.later ≡ newer ++ next ∷ between → Q next (between ++ s.turn ∷ s.earlier) → ⊥
  none_later turn H s none [] next between e q =
      let same : next ≡ turn = cc in
      let rest : between ≡ s.later = cc in
      none (subst (λ t. Q t H) same (subst (Q next) (sym s.split) (subst (λ xs. Q next (xs ++ s.turn ∷ s.earlier)) rest q)))
  none_later turn H s none (x ∷ newer) next between e q = let rest : s.later ≡ newer ++ next ∷ between = cc in s.none_since newer next between rest q

  abbrev pub since-later : (turn : Turn) (H : History) → (Q turn H → ⊥) → Since P Q H → Since P Q (turn ∷ H)
  since-later turn H none s = record {
    later = turn ∷ s.later;
    turn = s.turn;
    earlier = s.earlier;
    split = ap (λ xs. turn ∷ xs) s.split;
    so = s.so;
    none_since = none_later turn H s none;
  }

  pub not_since-empty : Since P Q [] → ⊥
  not_since-empty s = not_split s.later s.turn s.earlier s.split

  since_at : (later : History) (turn other : Turn) (H earlier : History) → turn ∷ H ≡ later ++ other ∷ earlier → P other earlier
      → ((newer : History) (next : Turn) (between : History) → later ≡ newer ++ next ∷ between → Q next (between ++ other ∷ earlier) → ⊥)
      → P turn H ⊎ ((Q turn H → ⊥) × Since P Q H)
  since_at [] turn other H earlier e p none =
      let same : other ≡ turn = cc in
      let rest : earlier ≡ H = cc in
      inl (subst (λ t. P t H) same (subst (P other) rest p))
  since_at (x ∷ later) turn other H earlier e p none =
      let first : x ≡ turn = cc in
      let rest : H ≡ later ++ other ∷ earlier = cc in
      inr (
        λ q. none [] x later refl (subst (λ t. Q t (later ++ other ∷ earlier)) (sym first) (subst (Q turn) rest q)),
        record {
          later = later;
          turn = other;
          earlier = earlier;
          split = rest;
          so = p;
          none_since = λ newer next between e q. none (x ∷ newer) next between (ap (λ xs. x ∷ xs) e) q;
        },
      )

  pub since_cases : (turn : Turn) (H : History) → Since P Q (turn ∷ H) → P turn H ⊎ ((Q turn H → ⊥) × Since P Q H)
  since_cases turn H s = since_at s.later turn s.turn H s.earlier s.split s.so s.none_since

-- what is so at a turn, or was so before and nothing ended it, is so since
pub read_since : (P Q : Turn → History → Type 0) (R : History → Type 0) → (R [] → ⊥)
    → ((turn : Turn) (H : History) → R (turn ∷ H) ↔ (P turn H ⊎ ((Q turn H → ⊥) × R H))) → (H : History) → R H ↔ Since P Q H
read_since P Q R empty step [] = (λ r. absurd (empty r), λ s. absurd (not_since-empty P Q s))
read_since P Q R empty step (turn ∷ H) =
    let before = read_since P Q R empty step H in (
      λ r. elim ((step turn H).0 r) [ inl p ↦ since-here P Q turn H p | inr old ↦ since-later P Q turn H old.0 (before.0 old.1) ],
      λ s. (step turn H).1 (elim (since_cases P Q turn H s) [ inl p ↦ inl p | inr old ↦ inr (old.0, before.1 old.1) ]),
    )
