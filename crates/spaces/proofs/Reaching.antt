-- No path from a root passes a spare frame that is unused.
use Rattle.std.proofs.Common.{◌≡◌, ℕ, zero, suc, ◌+◌, ◌<◌, Some, None, length, ap, sym, ◌∙◌, refl, inl, inr, arith}
use Rattle.std.specs.Prelude.{slice_index}
use Rattle.std.proofs.lemmas.Bool.{cases_lt}
use Rattle.pte.specs.Address.{top_level, vpn_of}
use Rattle.walk.specs.Leads.{Tables, word_at}
use Rattle.walk.specs.Pointers.{pointed, table_below}
use Rattle.spaces.specs.declared.places.Place.{Place}
use Rattle.spaces.specs.declared.places.Place.TheVariants.{Space, Kernel}
use Rattle.spaces.specs.Layout.{Layout, HasPlace, home_of, root_ppn, spare_ppn, user_slots, first_window_slot}
use Rattle.spaces.specs.Held.{IsLayout}
use Rattle.spaces.specs.Holders.{Holders}
use Rattle.spaces.specs.Tree.{start_table, IsIn, table_on, IsTableOf, IsTree}
use Rattle.spaces.proofs.Paths.{on, of-place, some-same}
use Rattle.spaces.proofs.Trees.{pointed-zero}
use Rattle.spaces.proofs.EndPaths.{table_below-front}
use Rattle.spaces.proofs.Accepting.{home-there, window-points}
use Rattle.spaces.proofs.Leaves.{path-none, root-home}

module _ (l : Layout) (fits : IsLayout l) (words : Tables) (holders : Holders) (tree : IsTree l words holders) (h k t : ℕ) (below : k < slice_index l.spares h) (is : t ≡ spare_ppn l h + k)
    (unused : holders t ≡ None) where
  no-table : (place : Place) (g : ℕ) → HasPlace l place → IsTableOf l g holders place t → ⊥
  no-table (Space s) g has (inl top) = omega (arith, top, is)
  no-table Kernel g has (inl top) = omega (arith, top.1, top.2, is)
  no-table place g has (inr u) = let bad : None ≡ Some place = sym unused ∙ u.held in cc

  no-path : (place : Place) (va n : ℕ) → HasPlace l place → IsIn l place va → table_on l words place va n ≡ Some t → ⊥
  no-path place va n has within e =
      let home = tree (home_of l place) (home-there l fits words holders tree place has) in
      no-table place (home_of l place) has (of-place l fits words (home_of l place) holders home place va n t has within (on l fits words (home_of l place) holders home place va n t has refl within e))

  pub unreached : (s va n : ℕ) → s < length l.homes → table_below words va (top_level l.scheme) (root_ppn l s) n ≡ Some t → ⊥
  unreached s va zero has e = let root : root_ppn l s ≡ t = some-same _ _ e in omega (arith, root, is)
  unreached s va (suc n) has e = elim (cases_lt (vpn_of va (top_level l.scheme)) user_slots) [
    | inl user ↦ no-path (Space s) va (suc n) has user e
    | inr upper ↦ elim (cases_lt (vpn_of va (top_level l.scheme)) (first_window_slot l)) [
      | inl outside ↦
          let zero-word : word_at words va (top_level l.scheme) (root_ppn l s) ≡ Some 0 = (root-home l fits words holders tree s has).upper s (vpn_of va (top_level l.scheme)) has refl upper outside in
          let depth = path-none l.scheme words (root_ppn l s) va (suc n) t (ap pointed zero-word ∙ pointed-zero) e in
          absurd (omega (arith, depth))
      | inr inside ↦
          no-path Kernel va n tt inside
          (sym (table_below-front words va (top_level l.scheme) (root_ppn l s) (start_table l Kernel va) n (window-points l fits words holders tree s va has inside)) ∙ e)
    ]
  ]
