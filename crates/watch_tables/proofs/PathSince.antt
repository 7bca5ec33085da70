-- Since when the words on a path are what they are.
use Rattle.std.proofs.Common.{◌≡◌, ℕ, zero, suc, ◌+◌, ◌-◌, ◌≤◌, Bool, true, false, Option, cond, sym, subst, refl, inl, inr, arith}
use Rattle.std.specs.Prelude.{◌↔◌, nat_lt}
use Rattle.std.proofs.lemmas.Bool.{cases_lt, ltb-true, lt-ltb}
use Rattle.pte.specs.declared.scheme.Scheme.{Scheme}
use Rattle.pte.specs.Address.{top_level, vpn_of}
use Rattle.walk.specs.Leads.{Tables, word_at, Leads}
use Rattle.walk.proofs.Paths.{leads-above, same_table}
use Rattle.watch_tables.specs.Paths.{IsPathSince}
use Rattle.watch_tables.specs.Ways.{later}

later-cases : (a b n : ℕ) (test : Bool) → nat_lt a b ≡ test → (cond test b a ≤ n) ↔ ((a ≤ n) × (b ≤ n))
later-cases a b n true is = let less = ltb-true a b is in ((λ le. (omega arith, le)), (λ both. both.1))
later-cases a b n false is =
    elim (cases_lt a b) [
      | inl less ↦ absurd (let e = lt-ltb a b less in cc)
      | inr more ↦ ((λ le. (le, omega arith)), (λ both. both.0))
    ]

-- the later of two is no later than what both are no later than
pub later-le : (a b n : ℕ) → (later a b ≤ n) ↔ ((a ≤ n) × (b ≤ n))
later-le a b n = later-cases a b n (nat_lt a b) refl

module _ (scheme : Scheme) (words : Tables) (since : ℕ → ℕ → ℕ) (root va : ℕ) where
  -- above the root is no word
  pub since-top : (n : ℕ) → IsPathSince scheme words since root va (top_level scheme + 1) n
  since-top n = record { unchanged = λ at table above path. absurd (omega (arith, path.level)) }

  -- a path down to a level is one down to the level above, and the word there
  pub since-here : (i t : ℕ) → Leads scheme words root va i t (word_at words va i t) → (n : ℕ)
      → IsPathSince scheme words since root va i n ↔ ((since t (vpn_of va i) ≤ n) × IsPathSince scheme words since root va (i + 1) n)
  since-here i t here n = (
    (λ all. (all.unchanged i t (omega arith) here, record { unchanged = λ at table above path. all.unchanged at table (omega arith) path })),
    (λ both. record {
      unchanged = λ at table from path.
          elim (cases_lt i at) [
            | inl more ↦ (both.1).unchanged at table (omega arith) path
            | inr less ↦
                let level : at ≡ i = omega arith in
                let there : Leads scheme words root va i table (word_at words va i table) = subst (λ k. Leads scheme words root va k table (word_at words va k table)) level path in
                let same : t ≡ table = same_table scheme words root va i t table (word_at words va i t) (word_at words va i table) here there in
                subst (λ k. since table (vpn_of va k) ≤ n) (sym level) (subst (λ u. since u (vpn_of va i) ≤ n) same both.0)
          ];
    }),
  )

  -- so it is known
  known-from : (d i k t : ℕ) (w : Option ℕ) → k + d ≡ top_level scheme + 1 → i ≤ k → Leads scheme words root va i t w → (s : ℕ) × ((n : ℕ) → (s ≤ n) ↔ IsPathSince scheme words since root va k n)
  known-from zero i k t w at from path =
      let top : top_level scheme + 1 ≡ k = omega arith in
      (0, (λ n. ((λ le. subst (λ j. IsPathSince scheme words since root va j n) top (since-top n)), (λ all. omega arith))))
  known-from (suc d) i k t w at from path =
      let above = known-from d i (k + 1) t w (omega arith) (omega arith) path in
      let here = leads-above scheme words root va i k t w from (omega arith) path in
      let s : ℕ = later (since (path.tables k) (vpn_of va k)) above.0 in (
        s,
        (λ n.
            let split = since-here k (path.tables k) here n in
            let le = later-le (since (path.tables k) (vpn_of va k)) above.0 n in (
              (λ h. let both = le.0 h in split.1 (both.0, (above.1 n).0 both.1)),
              (λ h. let both = split.0 h in le.1 (both.0, (above.1 n).1 both.1)),
            )),
      )

  pub since-known : (i t : ℕ) (w : Option ℕ) → Leads scheme words root va i t w → (s : ℕ) × ((n : ℕ) → (s ≤ n) ↔ IsPathSince scheme words since root va i n)
  since-known i t w path = known-from (top_level scheme + 1 - i) i i t w (omega (arith, path.level)) (omega arith) path

-- two numbers that are no later than the same numbers are one
pub same-since : (a b : ℕ) (P : ℕ → Type 0) → ((n : ℕ) → (a ≤ n) ↔ P n) → ((n : ℕ) → (b ≤ n) ↔ P n) → a ≡ b
same-since a b P of_a of_b =
    let below : a ≤ b = (of_a b).1 ((of_b b).0 (omega arith)) in
    let above : b ≤ a = (of_b a).1 ((of_a a).0 (omega arith)) in
    omega arith
