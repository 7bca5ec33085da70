-- What the shared words map below a place is what its home's view maps there.
use Rattle.std.proofs.Common.{◌≡◌, ℕ, ◌-◌, ◌<◌, Bool, length, sym, ◌∙◌, refl}
use Rattle.pte.specs.declared.flags.PteFlags.{PteFlags}
use Rattle.pte.specs.Address.{vpn_of}
use Rattle.walk.specs.Leads.{Tables}
use Rattle.walk.specs.Maps.{Maps}
use Rattle.spaces.specs.Layout.{Layout, home_of, root_ppn}
use Rattle.spaces.specs.Held.{IsLayout}
use Rattle.spaces.specs.Holders.{Holders}
use Rattle.spaces.specs.Tree.{start_level, IsAtHome, IsTree}
use Rattle.spaces.proofs.Paths.{on}
use Rattle.spaces.proofs.Trees.{back}
use Rattle.spaces.proofs.Leaves.{LeafOn, Member, member-of, maps-of, moved}

module _ (l : Layout) (fits : IsLayout l) (real view : Tables) (in-real in-view : Holders) (real-tree : IsTree l real in-real) (view-tree : IsTree l view in-view)
    (h : ℕ) (less : h < length l.spares) (own : (f i : ℕ) → IsAtHome l h f → real f i ≡ view f i)
    (s number ppn : ℕ) (flags : PteFlags) (global : Bool) (has : s < length l.homes) where
  leaf-in-view : (m : Member l real s number ppn flags global) → home_of l m.on.place ≡ h → LeafOn l view s m.va m.level m.table m.entry m.leaf flags
  leaf-in-view m home =
      let path = back l fits view real h in-view (view-tree h less) own m.on.place m.va (start_level l m.on.place - m.level) m.table m.on.has home m.on.within m.on.on in
      let there = on l fits view h in-view (view-tree h less) m.on.place m.va (start_level l m.on.place - m.level) m.table m.on.has home m.on.within path in
      record {
        place = m.on.place;
        hangs = m.on.hangs;
        has = m.on.has;
        within = m.on.within;
        low = m.on.low;
        on = path;
        word = sym (own m.table (vpn_of m.va m.level) there.home) ∙ m.on.word;
        kind = m.on.kind;
      }

  -- by the place in which the leaf hangs
  pub member-place : Maps l.scheme real (root_ppn l s) number ppn flags global → Member l real s number ppn flags global
  member-place m = member-of l fits real in-real real-tree s number ppn flags global has m

  pub mapped-in-view : (m : Maps l.scheme real (root_ppn l s) number ppn flags global) → (let e = member-place m in home_of l e.on.place) ≡ h → Maps l.scheme view (root_ppn l s) number ppn flags global
  unfolding member-place leaf-in-view
  mapped-in-view m home =
      let e = member-place m in
      maps-of l fits view in-view view-tree s number ppn flags global has (moved l real view s number ppn flags global e (leaf-in-view e home) refl)
