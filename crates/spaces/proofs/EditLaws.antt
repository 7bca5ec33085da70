-- The laws of accepted edits.
use Rattle.pte.specs.declared.scheme.Scheme.{Scheme}
use Rattle.std.proofs.Common.{◌≡◌, ℕ, ◌-◌, ◌<◌, ◌≤◌, ◌⊎◌, Bool, true, false, Option, Some, None, length, ap, sym, ◌∙◌, subst, refl, inl, inr, arith}
use Rattle.std.specs.Prelude.{unwrap_or, is_some}
use Rattle.std.proofs.Math.Path.{fun_ext}
use Rattle.std.proofs.lemmas.Bool.{cases_lt}
use Rattle.pte.specs.declared.flags.PteFlags.{PteFlags}
use Rattle.pte.specs.declared.entry.Kind.{Kind}
use Rattle.pte.specs.declared.entry.Kind.TheVariants as kinds
use Rattle.pte.specs.Address.{Span, top_level}
use Rattle.pte.specs.Entry.{kind_of}
use Rattle.walk.specs.Leads.{Tables, Leads, word_at}
use Rattle.spaces.specs.declared.wishes.Wish.{Wish}
use Rattle.spaces.specs.declared.wishes.Wish.TheVariants.{Map, Unmap, Protect}
use Rattle.spaces.specs.declared.places.Place.{Place}
use Rattle.spaces.specs.declared.places.Place.TheVariants.{Space, Kernel}
use Rattle.pte.specs.declared.address.PageSize.TheVariants.{Kib4}
use Rattle.pte.proofs.EntryKinds.{kind-table}
use Rattle.pte.specs.Address.{bytes_of, level_bytes, vpn_of}
use Rattle.spaces.specs.Layout.{first_window_slot, user_slots}
use Rattle.spaces.specs.Held.{IsLayout}
use Rattle.spaces.specs.Holders.{Holders, unused_spare}
use Rattle.spaces.specs.Tree.{start_table, IsIn}
use Rattle.spaces.proofs.Ends.{path_end-below}
use Rattle.spaces.proofs.Leaves.{member-of, window-word, window-fits}
use Rattle.walk.proofs.Pages.{same_vpn}
use Rattle.walk.proofs.FoundMembers.{leaf-ppn}
use Rattle.spaces.proofs.Numbers.{number-part}
use Rattle.std.proofs.Common.{◌*◌, ◌/◌, IsTrue, ◌↔◌}
use Rattle.walk.specs.Maps.{Maps}
use Rattle.spaces.specs.Layout.{Layout, home_of, root_ppn}
use Rattle.spaces.specs.Edits.{Store, place_of, is_kernel, path_end}
use Rattle.spaces.specs.Tree.{start_level, IsTree, IsAtHome}
use Rattle.walk.specs.Pointers.{pointed, pointed_kind}
use Rattle.spaces.specs.Accepted.{Accepted, Writes, adds_table, adds_leaf, removes_leaf, changes_leaf}
use Rattle.spaces.specs.Applied.{words_after_store, holders_after}
use Rattle.spaces.specs.Effects.{IsEdit, IsEnd, HasEffect, IsAbout, RemovesPage}
use Rattle.spaces.proofs.Trees.{kind-zero}
use Rattle.spaces.proofs.EntryWords.{kind-stored, pointed-table}
use Rattle.spaces.proofs.EndPaths.{ends-on, EndsOn}
use Rattle.spaces.proofs.Accepting.{accepted}
use Rattle.spaces.proofs.Keeping.{keeps-tree, there, leaf-or-pointer, fresh-of, fresh-range, IsLeafStore, IsPointerStore}
use Rattle.spaces.proofs.Leaves.{leads-path, path-leads}
use Rattle.spaces.proofs.Accepting.{edit-fits}
use Rattle.spaces.proofs.Effecting.{adds-page, removes-page, changes-flags, same-maps, ends}

module _ (l : Layout) (words : Tables) (holders : Holders) (hart : ℕ) (wish : Wish) (store : Store) (e : IsEdit l words holders hart wish store) where
  pub edit-accepted : Accepted l words (unused_spare l holders hart) hart wish store
  edit-accepted = accepted l e.layout words holders e.tree (unused_spare l holders hart) hart wish store e.has e.is

  pub at-home : Accepted l words (unused_spare l holders (home_of l (place_of wish))) (home_of l (place_of wish)) wish store
  at-home = subst (λ h. Accepted l words (unused_spare l holders h) h wish store) edit-accepted.home edit-accepted

  pub edit-tree : IsTree l (words_after_store words store) (holders_after holders (place_of wish) store)
  edit-tree = keeps-tree l e.layout words holders e.tree wish e.has store at-home

  pub edit-home : IsAtHome l (home_of l (place_of wish)) store.ppn
  edit-home = let here = there l e.layout words holders e.tree wish e.has store at-home in here.home

effect-by : (l : Layout) (words : Tables) (holders : Holders) (hart : ℕ) (wish : Wish) (store : Store) → (e : IsEdit l words holders hart wish store)
    → (acc : Accepted l words (unused_spare l holders (home_of l (place_of wish))) (home_of l (place_of wish)) wish store)
    → (new : ℕ) → new ≡ store.word → Writes (unused_spare l holders (home_of l (place_of wish))) (start_level l (place_of wish) - acc.depth) acc.old wish new
    → IsLeafStore acc.old store.word ⊎ IsPointerStore l (home_of l (place_of wish)) holders (start_level l (place_of wish) - acc.depth) acc.old store.word
    → HasEffect l wish store words (words_after_store words store)
effect-by l words holders hart wish store e acc new is (adds_table place page ppn flags frame above zero-word spare) (inr p) = (
  (λ some. same-maps l e.layout words holders e.tree (Map place page ppn flags) e.has (edit-fits l words (unused_spare l holders hart) hart _ store e.is e.page) store acc p),
  (λ none. absurd (let bad : true ≡ false = ap is_some (sym p.now) ∙ none in cc)),
)
effect-by l words holders hart wish store e acc new is (adds_table place page ppn flags frame above zero-word spare) (inl leaf) =
    let fit = fresh-range l e.layout _ _ frame (fresh-of l _ _ frame spare) in
    absurd (let bad : Some frame ≡ None = sym (pointed-table frame (is_kernel place) fit) ∙ ap (λ w. pointed (Some w)) is ∙ leaf.now in cc)
effect-by l words holders hart wish store e acc new is (adds_leaf place page ppn flags at zero-word ok fit aligned) (inl leaf) = (
  (λ some. absurd (let bad : false ≡ true = ap is_some (sym leaf.now) ∙ some in cc)),
  (λ none. adds-page l e.layout words holders e.tree (Map place page ppn flags) e.has (edit-fits l words (unused_spare l holders hart) hart _ store e.is e.page) store acc at leaf ppn flags zero-word
      (ap kind_of (sym is) ∙ kind-stored ppn flags fit ok.byte ok.leaf) aligned),
)
effect-by l words holders hart wish store e acc new is (adds_leaf place page ppn flags at zero-word ok fit aligned) (inr p) =
    absurd (let bad : None ≡ Some _ = ap pointed_kind (sym (kind-stored ppn flags fit ok.byte ok.leaf)) ∙ ap (λ w. pointed (Some w)) is ∙ p.now in cc)
effect-by l words holders hart wish store e acc new is (removes_leaf place page q f at kind) (inl leaf) =
    removes-page l e.layout words holders e.tree (Unmap place page) e.has (edit-fits l words (unused_spare l holders hart) hart _ store e.is e.page) store acc at leaf (sym is)
effect-by l words holders hart wish store e acc new is (removes_leaf place page q f at kind) (inr p) =
    absurd (let bad : kinds.Leaf q f ≡ kinds.Invalid = sym kind ∙ ap kind_of p.was ∙ kind-zero in cc)
effect-by l words holders hart wish store e acc new is (changes_leaf place page flags q f at kind ok) (inl leaf) =
    changes-flags l e.layout words holders e.tree (Protect place page flags) e.has (edit-fits l words (unused_spare l holders hart) hart _ store e.is e.page) store acc at leaf q f flags kind
    (ap kind_of (sym is) ∙ kind-stored q flags (leaf-ppn acc.old q f kind) ok.byte ok.leaf)
effect-by l words holders hart wish store e acc new is (changes_leaf place page flags q f at kind ok) (inr p) =
    absurd (let bad : kinds.Leaf q f ≡ kinds.Invalid = sym kind ∙ ap kind_of p.was ∙ kind-zero in cc)

pub edit-effect : (l : Layout) (words : Tables) (holders : Holders) (hart : ℕ) (wish : Wish) (store : Store) → IsEdit l words holders hart wish store → HasEffect l wish store words (words_after_store words store)
edit-effect l words holders hart wish store e =
    let acc = at-home l words holders hart wish store e in
    effect-by l words holders hart wish store e acc store.word refl acc.writes (leaf-or-pointer l e.layout _ _ _ acc.old wish store.word acc.writes)

-- and in any memory whose words are those after the store
pub effect-in : (l : Layout) (words : Tables) (holders : Holders) (hart : ℕ) (wish : Wish) (store : Store) (new : Tables) → ((ppn i : ℕ) → new ppn i ≡ words_after_store words store ppn i)
    → IsEdit l words holders hart wish store → HasEffect l wish store words new
effect-in l words holders hart wish store new same e =
    subst (HasEffect l wish store words) (sym (fun_ext (λ ppn. fun_ext (λ i. same ppn i)))) (edit-effect l words holders hart wish store e)

-- the end of a path, by what leads
pub end-leads : (scheme : Scheme) (words : Tables) (root va lowest : ℕ) → lowest ≤ top_level scheme → IsEnd scheme words root va lowest (path_end words va lowest (top_level scheme - lowest) root)
end-leads scheme words root va lowest low =
    let end : EndsOn words va lowest (top_level scheme) root (path_end words va lowest (top_level scheme - lowest) root) = ends-on words va lowest (top_level scheme - lowest) (top_level scheme) root (omega arith) in
    let back : top_level scheme - (top_level scheme - (path_end words va lowest (top_level scheme - lowest) root).level) ≡ (path_end words va lowest (top_level scheme - lowest) root).level = omega (arith, end.to) in
    let path = leads-path scheme words root va (top_level scheme - (path_end words va lowest (top_level scheme - lowest) root).level) (path_end words va lowest (top_level scheme - lowest) root).table (omega arith) end.on in
    record {
      from = end.from;
      leads =
          subst (λ k. Leads scheme words root va k (path_end words va lowest (top_level scheme - lowest) root).table (word_at words va k (path_end words va lowest (top_level scheme - lowest) root).table)) back path;
      entry = end.entry;
      is_lowest = λ j table word above-lowest leads.
          elim (cases_lt j (path_end words va lowest (top_level scheme - lowest) root).level) [
            | inr high ↦ high
            | inl lower ↦
                let deeper = path-leads scheme words root va j table word leads in
                let stops : pointed (word_at words va (top_level scheme - (top_level scheme - (path_end words va lowest (top_level scheme - lowest) root).level)) (path_end words va lowest (top_level scheme - lowest) root).table) ≡ None =
                ap (λ k. pointed (word_at words va k (path_end words va lowest (top_level scheme - lowest) root).table)) back
                ∙ pointed-none (word_at words va (path_end words va lowest (top_level scheme - lowest) root).level (path_end words va lowest (top_level scheme - lowest) root).table)
                (λ q g k. end.stops q g (omega arith) (ap kind_of end.entry ∙ k))
                in
                absurd (ends words va (top_level scheme) root (top_level scheme - j) (top_level scheme - (path_end words va lowest (top_level scheme - lowest) root).level)
                (path_end words va lowest (top_level scheme - lowest) root).table table (omega (arith, end.to)) end.on stops deeper)
          ];
    }
  where
    kind-none : (kind : Kind) → ((q : ℕ) (g : Bool) → kind ≡ kinds.Table q g → ⊥) → pointed_kind kind ≡ None
    kind-none kinds.Invalid not-table = refl
    kind-none kinds.Reserved not-table = refl
    kind-none (kinds.Table q g) not-table = absurd (not-table q g refl)
    kind-none (kinds.Leaf q f) not-table = refl

    pointed-none : (o : Option ℕ) → ((q : ℕ) (g : Bool) → kind_of (unwrap_or o 0) ≡ kinds.Table q g → ⊥) → pointed o ≡ None
    pointed-none None not-table = refl
    pointed-none (Some w) not-table = kind-none (kind_of w) not-table

pub unmapped-gone : (l : Layout) (words : Tables) (holders : Holders) (hart : ℕ) (place : Place) (page : Span) (store : Store) → IsEdit l words holders hart (Unmap place page) store
    → (s number ppn : ℕ) (flags : PteFlags) (global : Bool) → s < length l.homes → IsAbout place page s number → Maps l.scheme (words_after_store words store) (root_ppn l s) number ppn flags global → ⊥
unmapped-gone l words holders hart place page store e s number ppn flags global has is-about mapped =
    let gone : RemovesPage l place page words (words_after_store words store) = edit-effect l words holders hart (Unmap place page) store e in
    ((gone s number ppn flags global has).0 mapped).1 is-about

pub map-keeps : (l : Layout) (words : Tables) (holders : Holders) (hart : ℕ) (place : Place) (page : Span) (first : ℕ) (f : PteFlags) (store : Store) → IsEdit l words holders hart (Map place page first f) store
    → (s number ppn : ℕ) (flags : PteFlags) (global : Bool) → s < length l.homes → Maps l.scheme words (root_ppn l s) number ppn flags global → Maps l.scheme (words_after_store words store) (root_ppn l s) number ppn flags global
map-keeps l words holders hart place page first f store e s number ppn flags global has mapped = by_pointer (pointed (Some store.word)) refl
  where
    effect : HasEffect l (Map place page first f) store words (words_after_store words store)
    effect = edit-effect l words holders hart (Map place page first f) store e

    by_pointer : (o : Option ℕ) → pointed (Some store.word) ≡ o → Maps l.scheme (words_after_store words store) (root_ppn l s) number ppn flags global
    by_pointer (Some t) is = (effect.0 (ap is_some is) s number ppn flags global has).1 mapped
    by_pointer None is = (effect.1 (ap is_some is) s number ppn flags global has).1 (inl mapped)

-- the kernel's paths may be read from the window's table
pub kernel-path : (l : Layout) (words : Tables) (holders : Holders) → IsLayout l → IsTree l words holders → (s va lowest : ℕ) → s < length l.homes → IsIn l Kernel va → lowest < top_level l.scheme
    → path_end words va lowest (top_level l.scheme - lowest) (root_ppn l s) ≡ path_end words va lowest (top_level l.scheme - 1 - lowest) (start_table l Kernel va)
kernel-path l words holders fits tree s va lowest has inside low =
    let word = window-word l fits words holders tree s va has inside in
    let kind : kind_of (unwrap_or (word_at words va (top_level l.scheme) (root_ppn l s)) 0) ≡ kinds.Table (start_table l Kernel va) true =
    ap (λ o. kind_of (unwrap_or o 0)) word ∙ kind-table (start_table l Kernel va) true (window-fits l fits words holders tree va inside)
    in
    path_end-below words va lowest (top_level l.scheme) (root_ppn l s) (start_table l Kernel va) true low kind

abbrev InPart : Layout → Place → ℕ → Type 0
InPart l (Space s) v = v < user_slots
InPart l Kernel v = first_window_slot l ≤ v

-- mappings are global in the window and nowhere else
pub global-window : (l : Layout) (words : Tables) (holders : Holders) → IsLayout l → IsTree l words holders → (s number ppn : ℕ) (flags : PteFlags) (global : Bool) → s < length l.homes
    → Maps l.scheme words (root_ppn l s) number ppn flags global → IsTrue global ↔ (first_window_slot l ≤ vpn_of (number * bytes_of Kib4) (top_level l.scheme))
global-window l words holders fits tree s number ppn flags global has mapped =
    let m = member-of l fits words holders tree s number ppn flags global has mapped in
    let page : m.va / level_bytes 0 ≡ number * 4096 / level_bytes 0 = m.of_page ∙ sym (number-part number) in
    let slot : vpn_of m.va (top_level l.scheme) ≡ vpn_of (number * 4096) (top_level l.scheme) = same_vpn m.va (number * 4096) 0 (top_level l.scheme) (omega arith) page in
    by_place m.on.place (vpn_of m.va (top_level l.scheme)) (vpn_of (number * 4096) (top_level l.scheme)) slot m.reach (in-part m.on.place m.va m.on.within)
  where
    in-part : (place : Place) (va : ℕ) → IsIn l place va → InPart l place (vpn_of va (top_level l.scheme))
    in-part (Space s') va h = h
    in-part Kernel va h = h

    by_place : (place : Place) (v w : ℕ) → v ≡ w → global ≡ is_kernel place → InPart l place v → IsTrue global ↔ (first_window_slot l ≤ w)
    by_place (Space s') v w e is h = ((λ g. let bad : false ≡ true = sym is ∙ g in absurd cc), (λ from. absurd (omega (arith, fits.window))))
    by_place Kernel v w e is h = ((λ g. omega arith), (λ from. is))
