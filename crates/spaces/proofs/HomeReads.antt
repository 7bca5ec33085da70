-- An edit waits for words at home, and what is stored of it points to a frame of the home.
use Rattle.std.proofs.Common.{length, List, [], ◌∷◌, zero, suc, ◌≡◌, ℕ, ◌+◌, ◌-◌, ◌<◌, ◌≤◌, ◌==◌, ◌&&◌, cond, Bool, true, false, Option, Some, None, Result, Ok, Err, IsTrue, ap, sym, ◌∙◌, subst, refl, inl, inr, arith}
use Rattle.std.specs.Prelude.{nat_le, nat_lt, slice_index}
use Rattle.std.proofs.lemmas.Bool.{and_from, eqb-false, le-leb, lt-ltb}
use Rattle.pte.specs.declared.scheme.Scheme.{Scheme}
use Rattle.pte.specs.declared.scheme.Scheme.TheVariants.{Sv39, Sv48}
use Rattle.pte.specs.Address.{top_level, widest, level_of, vpn_of}
use Rattle.pte.specs.declared.address.TheConstants.{TABLE_LENGTH}
use Rattle.walk.specs.Leads.{Tables}
use Rattle.walk.specs.Pointers.{pointed, pointed_kind}
use Rattle.spaces.specs.declared.wishes.Wish.{Wish}
use Rattle.spaces.specs.declared.places.Place.{Place}
use Rattle.spaces.specs.declared.places.Place.TheVariants.{Space, Kernel}
use Rattle.spaces.specs.declared.faults.MapFault.{MapFault}
use Rattle.spaces.specs.declared.edit_walks.Next.TheVariants as next
use Rattle.spaces.specs.Layout.{Layout, HasPlace, home_of, is_frame, frame_count}
use Rattle.spaces.specs.Held.{Held, IsLayout, IsMemory, holders_of, memory_words}
use Rattle.spaces.specs.Opening.{is_word}
use Rattle.spaces.specs.Holders.{Holders, unused_spare}
use Rattle.spaces.specs.Edits.{EditStage, IsStage, Store, edit_of, is_kernel, place_of, page_of, wish_fault}
use Rattle.spaces.specs.EditStages.{WaitsAtHome, edit_next, below_of, due_here, edit_start, first_stage, index_of, more_or_end, next_of, stage_below, path_start, table_fault, unless_fault}
use Rattle.spaces.specs.Tree.{IsAtHome, of_root, of_window, of_spare, IsHome, IsTree, IsOwn, start_level, start_table}
use Rattle.spaces.specs.Accepted.{Accepted, Writes, adds_table, adds_leaf, removes_leaf, changes_leaf}
use Rattle.walk.proofs.FoundMembers.{leaf-ppn}
use Rattle.spaces.proofs.Accepting.{accepted, home-there, unfaulted, within, fit-level, Unfaulted}
use Rattle.spaces.proofs.EntryWords.{kind-stored, pointed-table}
use Rattle.spaces.proofs.Homes.{spare-home, spare-own, sum-within}
use Rattle.spaces.proofs.Keeping.{fresh-of, fresh-range, leaf-or-pointer, there as written-there}
use Rattle.spaces.proofs.OpeningTree.{word-is}
use Rattle.spaces.proofs.Paths.{on, vpn-below}
use Rattle.spaces.proofs.Trees.{pointed-zero}

-- what an edit begins with, if it is not refused
pub record Begun (l : Layout) (hart : ℕ) (wish : Wish) (e : EditStage) : Type 0 where
  pub unfaulted : Unfaulted l hart wish
  pub no_slot : (is_kernel (place_of wish) && level_of (page_of wish).size == top_level l.scheme) ≡ false
  pub is : e ≡ first_stage l wish

pub begun : (l : Layout) (hart : ℕ) (wish : Wish) (e : EditStage) → edit_start l hart wish ≡ Ok e → Begun l hart wish e
begun l hart wish e started = by-fault (wish_fault l hart wish) refl started
  where
    by-slot : (b : Bool) → (is_kernel (place_of wish) && level_of (page_of wish).size == top_level l.scheme) ≡ b → Unfaulted l hart wish
        → cond b (Err (table_fault wish)) (Ok (first_stage l wish)) ≡ Ok e → Begun l hart wish e
    by-slot true b u is = absurd (let bad : Err (table_fault wish) ≡ Ok e = is in cc)
    by-slot false b u is = record { unfaulted = u; no_slot = b; is = let both : Ok (first_stage l wish) ≡ Ok e = is in cc }

    by-fault : (o : Option MapFault) → wish_fault l hart wish ≡ o → unless_fault o (path_start l wish) ≡ Ok e → Begun l hart wish e
    by-fault (Some fault) w is = absurd (let bad : Err fault ≡ Ok e = is in cc)
    by-fault None w is = by-slot _ refl (unfaulted l hart wish w) is

pub record StartsAs (l : Layout) (wish : Wish) (e : EditStage) : Type 0 where
  pub stage : IsStage e
  pub wish_is : e.wish ≡ wish
  pub level : e.level ≤ top_level l.scheme

module _ (l : Layout) (hart : ℕ) (wish : Wish) where
  top-widest : (scheme : Scheme) → top_level scheme ≤ top_level widest
  top-widest Sv39 = omega arith
  top-widest Sv48 = omega arith

  by-place : (place : Place) → level_of (page_of wish).size ≤ top_level l.scheme → (is_kernel place && level_of (page_of wish).size == top_level l.scheme) ≡ false
      → (level_of (page_of wish).size ≤ start_level l place) × (start_level l place ≤ top_level l.scheme)
  by-place (Space s) low slot = (low, omega arith)
  by-place Kernel low slot = let apart = eqb-false (level_of (page_of wish).size) (top_level l.scheme) slot in (omega (arith, apart), omega arith)

  pub starts-as : (e : EditStage) → edit_start l hart wish ≡ Ok e → StartsAs l wish e
  starts-as e started =
      let b = begun l hart wish e started in
      let levels = by-place (place_of wish) (fit-level l (place_of wish) (page_of wish) b.unfaulted.half) b.no_slot in
      let first : StartsAs l wish (first_stage l wish) = record {
        stage = record { leaf = b.unfaulted.leaf; from = levels.0; to = omega (arith, levels.1, top-widest l.scheme) };
        wish_is = refl;
        level = levels.1;
      } in
      subst (StartsAs l wish) (sym b.is) first

module _ (l : Layout) (words : Tables) (hart : ℕ) (holders : Holders) (tree : IsHome l words hart holders) where
  pub begins : IsLayout l → (wish : Wish) (e : EditStage) → HasPlace l (place_of wish) → edit_start l hart wish ≡ Ok e → WaitsAtHome l hart e
  begins fits wish e has started =
      let b = begun l hart wish e started in
      let here =
      on l fits words hart holders tree (place_of wish) (page_of wish).base 0 (start_table l (place_of wish) (page_of wish).base) has (sym b.unfaulted.home)
      (within l (place_of wish) (page_of wish) b.unfaulted.half) refl
      in
      let top : start_level l (place_of wish) - 0 ≡ start_level l (place_of wish) = omega arith in
      let first : WaitsAtHome l hart (first_stage l wish) = record {
        home = here.home;
        own = subst (λ k. IsOwn l (start_table l (place_of wish) (page_of wish).base) (vpn_of (page_of wish).base k)) top here.own;
      } in
      subst (WaitsAtHome l hart) (sym b.is) first

  -- an edit goes on where a word points
  next-ends : (r : Result Store MapFault) (after : EditStage) → next_of r ≡ next.More after → ⊥
  next-ends (Ok store) after e = cc
  next-ends (Err fault) after e = cc

  module _ (e : EditStage) (word : ℕ) (after : EditStage) where
    by-pointer : (o : Option ℕ) → stage_below e o ≡ Some after → o ≡ Some after.table
    by-pointer None is = absurd (let bad : None ≡ Some after = is in cc)
    by-pointer (Some table) is =
        let below : EditStage = record { wish = e.wish; level = e.level - 1; table = table } in
        let same : below ≡ after = cc in
        ap (λ (x : EditStage). Some x.table) same

    by-level : (b : Bool) → cond b None (stage_below e (pointed (Some word))) ≡ Some after → pointed (Some word) ≡ Some after.table
    by-level true is = absurd (let bad : None ≡ Some after = is in cc)
    by-level false is = by-pointer (pointed (Some word)) is

    pub below-home : WaitsAtHome l hart e → words e.table (index_of e) ≡ Some word → below_of e word ≡ Some after → WaitsAtHome l hart after
    below-home at read is =
        let step = tree.closed e.table (index_of e) after.table at.home at.own (ap pointed read ∙ by-level (e.level == level_of (page_of e.wish).size) is) in
        record {
          home = spare-home l hart holders step.place after.table step.to;
          own = subst (λ f. IsOwn l f (index_of after)) (sym step.to.is) (spare-own l hart step.to.number _);
        }

    more-below : (spare : Option ℕ) (o : Option EditStage) → more_or_end o (due_here e word spare) ≡ next.More after → o ≡ Some after
    more-below spare None is = absurd (next-ends _ after is)
    more-below spare (Some below) is = let same : below ≡ after = cc in ap Some same

    pub goes-home : (spare : Option ℕ) → WaitsAtHome l hart e → words e.table (index_of e) ≡ Some word → edit_next e word spare ≡ next.More after → WaitsAtHome l hart after
    goes-home spare at read is = below-home at read (more-below spare (below_of e word) is)

-- a store that is due over a tree
module _ (l : Layout) (fits : IsLayout l) (words : Tables) (holders : Holders) (tree : IsTree l words holders) (hart : ℕ) (wish : Wish) (has : HasPlace l (place_of wish)) (store : Store)
    (is : edit_of l words (unused_spare l holders hart) hart wish ≡ Ok store) where
  pub due-accepted : Accepted l words (unused_spare l holders hart) hart wish store
  due-accepted = accepted l fits words holders tree (unused_spare l holders hart) hart wish store has is

  at-home : Accepted l words (unused_spare l holders (home_of l (place_of wish))) (home_of l (place_of wish)) wish store
  at-home = subst (λ h. Accepted l words (unused_spare l holders h) h wish store) due-accepted.home due-accepted

  pub written-home : IsAtHome l hart store.ppn
  written-home = let here = written-there l fits words holders tree wish has store at-home in subst (λ h. IsAtHome l h store.ppn) (sym due-accepted.home) here.home

  pub index-below : store.index < TABLE_LENGTH
  index-below =
      let vpn = vpn-below (page_of wish).base (start_level l (place_of wish) - at-home.depth) in
      omega (arith, at-home.index)

  pub was-no-pointer : pointed (words store.ppn store.index) ≡ None
  was-no-pointer =
      ap pointed at-home.word ∙ elim (leaf-or-pointer l fits (home_of l (place_of wish)) holders _ at-home.old wish store.word at-home.writes) [
        | inl leaf ↦ leaf.was
        | inr p ↦ ap (λ w. pointed (Some w)) p.was ∙ pointed-zero
      ]

  -- a pointer that is stored is one to the spare frame
  by-writes : (level old word ppn : ℕ) (w : Wish) → Writes (unused_spare l holders hart) level old w word → pointed (Some word) ≡ Some ppn → unused_spare l holders hart ≡ Some ppn
  by-writes level old word ppn w (adds_table place page q flags frame above zero-word spare) points =
      spare ∙ sym (pointed-table frame (is_kernel place) (fresh-range l fits hart holders frame (fresh-of l hart holders frame spare))) ∙ points
  by-writes level old word ppn w (adds_leaf place page q flags at zero-word ok fit aligned) points =
      absurd (let bad : None ≡ Some ppn = sym (ap pointed_kind (kind-stored q flags fit ok.byte ok.leaf)) ∙ points in cc)
  by-writes level old word ppn w (removes_leaf place page q f at is) points = absurd (let bad : None ≡ Some ppn = sym pointed-zero ∙ points in cc)
  by-writes level old word ppn w (changes_leaf place page flags q f at is ok) points =
      absurd (let bad : None ≡ Some ppn = sym (ap pointed_kind (kind-stored q flags (leaf-ppn old q f is) ok.byte ok.leaf)) ∙ points in cc)

  pub points-to-spare : (ppn : ℕ) → pointed (Some store.word) ≡ Some ppn → unused_spare l holders hart ≡ Some ppn
  points-to-spare ppn points = by-writes _ due-accepted.old store.word ppn wish due-accepted.writes points

  pub points-to-frame : (ppn : ℕ) → pointed (Some store.word) ≡ Some ppn → IsTrue (is_frame l ppn)
  points-to-frame ppn points =
      let fresh = fresh-of l hart holders ppn (points-to-spare ppn points) in
      let part = sum-within l.spares hart in
      and_from (nat_le l.base ppn) (nat_lt ppn (l.base + frame_count l)) (le-leb l.base ppn (omega (arith, fresh.is)))
      (lt-ltb ppn (l.base + frame_count l) (omega (arith, fresh.is, fresh.below)))

-- an edit over a memory waits for a word that exists
module _ (m : Held) (held : IsMemory m) (hart : ℕ) where
  pub starts-home : (wish : Wish) (e : EditStage) → HasPlace m.layout (place_of wish) → Ok e ≡ edit_start m.layout hart wish → WaitsAtHome m.layout hart e
  starts-home wish e has started =
      let b = begun m.layout hart wish e (sym started) in
      let less : hart < length m.layout.spares = let h = home-there m.layout held.layout (memory_words m) (holders_of m) held.tree (place_of wish) has in omega (arith, b.unfaulted.home) in
      begins m.layout (memory_words m) hart (holders_of m) (held.tree hart less) held.layout wish e has (sym started)

  pub there : (e : EditStage) (ppn index : ℕ) → WaitsAtHome m.layout hart e → ppn ≡ e.table → index ≡ index_of e → is_word m.layout ppn index ≡ true
  there e ppn index at p i =
      let slot = vpn-below (page_of e.wish).base e.level in
      ap (λ t. is_word m.layout t index) p ∙ ap (is_word m.layout e.table) i ∙ word-is m.layout hart e.table (index_of e) at.home slot

  hart-there : (f : ℕ) → IsAtHome m.layout hart f → hart < length m.layout.spares
  hart-there f (of_root s has at is) = let h = held.layout.homes s 0 has in omega (arith, at)
  hart-there f (of_window k has at is) = let h = held.layout.homes 0 0 held.layout.some_space in omega (arith, at)
  hart-there f (of_spare n less is) = beyond m.layout.spares hart n less
    where
      beyond : (xs : List ℕ) (h n : ℕ) → n < slice_index xs h → h < length xs
      beyond [] h n less = absurd (omega arith)
      beyond (x ∷ xs) zero n less = omega arith
      beyond (x ∷ xs) (suc h) n less = let rest = beyond xs h n less in omega arith

  pub stays-home : (e after : EditStage) (word : ℕ) → WaitsAtHome m.layout hart e → memory_words m e.table (index_of e) ≡ Some word → Some after ≡ below_of e word → WaitsAtHome m.layout hart after
  stays-home e after word at read is =
      below-home m.layout (memory_words m) hart (holders_of m) (held.tree hart (hart-there e.table at.home)) e word after at read (sym is)
