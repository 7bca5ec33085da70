-- The end of a path, level by level.
use Rattle.std.proofs.Common.{◌≡◌, ℕ, suc, ◌+◌, ◌-◌, ◌<◌, Bool, Option, ap, sym, ◌∙◌, refl, arith}
use Rattle.pte.specs.declared.entry.Kind.{Kind}
use Rattle.pte.specs.declared.entry.Kind.TheVariants.{Table, Leaf, Invalid, Reserved}
use Rattle.std.specs.Prelude.{unwrap_or}
use Rattle.pte.specs.Address.{vpn_of}
use Rattle.pte.specs.Entry.{kind_of}
use Rattle.walk.specs.Leads.{Tables}
use Rattle.spaces.specs.declared.wishes.PathEnd.{PathEnd}
use Rattle.spaces.specs.Edits.{end_at, go_on, path_end}

module _ (words : Tables) (va lowest : ℕ) where
  step : (n level table : ℕ) → lowest + suc n ≡ level → path_end words va lowest (suc n) table ≡ go_on (kind_of (end_at words va level table).entry) (path_end words va lowest n) (end_at words va level table)
  unfolding path_end
  step n level table e = ap (λ k. go_on (kind_of (end_at words va k table).entry) (path_end words va lowest n) (end_at words va k table)) e

  -- a pointer above the lowest level is gone along
  pub path_end-below : (level table ppn : ℕ) (global : Bool) → lowest < level → kind_of (end_at words va level table).entry ≡ Table ppn global
      → path_end words va lowest (level - lowest) table ≡ path_end words va lowest (level - 1 - lowest) ppn
  path_end-below level table ppn global less kind =
      let n : level - lowest ≡ suc (level - 1 - lowest) = omega arith in
      ap (λ k. path_end words va lowest k table) n ∙ step (level - 1 - lowest) level table (omega arith)
      ∙ ap (λ k. go_on k (path_end words va lowest (level - 1 - lowest)) (end_at words va level table)) kind

  pub path_end-lowest : (level table : ℕ) → level ≡ lowest → path_end words va lowest (level - lowest) table ≡ end_at words va level table
  unfolding path_end
  path_end-lowest level table at =
      let n : level - lowest ≡ 0 = omega arith in
      ap (λ k. path_end words va lowest k table) n ∙ ap (λ k. end_at words va k table) (sym at)

  here : (kind : Kind) (below : ℕ → PathEnd) (e : PathEnd) → ((ppn : ℕ) (global : Bool) → kind ≡ Table ppn global → ⊥) → go_on kind below e ≡ e
  here Invalid below e not = refl
  here Reserved below e not = refl
  here (Leaf ppn flags) below e not = refl
  here (Table ppn global) below e not = absurd (not ppn global refl)

  -- anything else ends the path
  pub path_end-here : (level table : ℕ) → lowest < level → ((ppn : ℕ) (global : Bool) → kind_of (end_at words va level table).entry ≡ Table ppn global → ⊥)
      → path_end words va lowest (level - lowest) table ≡ end_at words va level table
  path_end-here level table less not =
      let n : level - lowest ≡ suc (level - 1 - lowest) = omega arith in
      ap (λ k. path_end words va lowest k table) n ∙ step (level - 1 - lowest) level table (omega arith)
      ∙ here (kind_of (end_at words va level table).entry) (path_end words va lowest (level - 1 - lowest)) (end_at words va level table) not

  -- what is read of a table is what stands there
  pub read : (level table index entry : ℕ) (word : Option ℕ) → entry ≡ unwrap_or word 0 → word ≡ words table index → index ≡ vpn_of va level
      → entry ≡ (end_at words va level table).entry
  read level table index entry word e w i = e ∙ ap (λ x. unwrap_or x 0) (w ∙ ap (words table) i)

  pub whole : (level table entry : ℕ) → entry ≡ (end_at words va level table).entry → (let e : PathEnd = record { level = level; table = table; entry = entry } in e) ≡ end_at words va level table
  whole level table entry e = ap (λ n. let x : PathEnd = record { level = level; table = table; entry = n } in x) e
