-- An edit that is fed the words of one memory.
use Rattle.std.proofs.Common.{◌≡◌, ℕ, ◌+◌, ◌-◌, ◌<◌, ◌≤◌, ◌==◌, ◌&&◌, not, cond, Bool, true, false, Option, Some, None, Result, Ok, Err, ap, sym, ◌∙◌, subst, refl, arith}
use Rattle.std.specs.Prelude.{unwrap_or}
use Rattle.std.proofs.lemmas.Bool.{eqb-true, eq-eqb, ne_eqb}
use Rattle.std.proofs.lemmas.Bool.Decides.{nat_tests}
use Rattle.pte.specs.declared.entry.Kind.{Kind}
use Rattle.pte.specs.declared.entry.Kind.TheVariants as kinds
use Rattle.pte.specs.Address.{top_level, level_of}
use Rattle.pte.specs.Entry.{kind_of}
use Rattle.pte.proofs.EntryKinds.{kind-table}
use Rattle.walk.specs.Leads.{Tables}
use Rattle.walk.specs.Pointers.{pointed, pointed_kind}
use Rattle.spaces.specs.declared.wishes.Wish.{Wish}
use Rattle.spaces.specs.declared.wishes.Wish.TheVariants.{Map, Unmap, Protect}
use Rattle.spaces.specs.declared.places.Place.{Place}
use Rattle.spaces.specs.declared.places.Place.TheVariants.{Space, Kernel}
use Rattle.spaces.specs.declared.faults.MapFault.{MapFault}
use Rattle.spaces.specs.declared.faults.MapFault.TheVariants.{NotHome}
use Rattle.spaces.specs.declared.edit_walks.Next.TheVariants as next
use Rattle.spaces.specs.Layout.{Layout, home_of, root_ppn}
use Rattle.spaces.specs.Held.{Held, IsLayout, IsMemory, holders_of, spare_of, memory_words}
use Rattle.spaces.specs.Holders.{Holders}
use Rattle.spaces.specs.Edits.{EditStage, IsStage, Store, is_kernel, place_of, page_of, end_at, path_end, path_root, page_word, upper_word, due_word, store_at, store_due, unless, wish_fault, edit_of}
use Rattle.spaces.specs.EditStages.{Continues, answer_from, answer_of, at_home_fault, bare_layout, below_of, due_here, edit_next, edit_start, index_of, more_or_end, next_of, path_start, stage_below, start_at_home, table_fault, unless_fault}
use Rattle.spaces.specs.Tree.{IsTree, IsIn, start_level, start_table}
use Rattle.spaces.proofs.Accepting.{unfaulted, within, fit-level}
use Rattle.spaces.proofs.Ends.{path_end-below, path_end-here, path_end-lowest, whole}
use Rattle.spaces.proofs.EditLaws.{kernel-path}
use Rattle.spaces.proofs.Leaves.{window-word, window-fits}

-- the start needs no more of a layout than three numbers
same-start : (l : Layout) (wish : Wish) → start_at_home (bare_layout l.scheme l.window l.base) wish ≡ start_at_home l wish
same-start l (Map (Space s) page ppn flags) = refl
same-start l (Map Kernel page ppn flags) = refl
same-start l (Unmap (Space s) page) = refl
same-start l (Unmap Kernel page) = refl
same-start l (Protect (Space s) page flags) = refl
same-start l (Protect Kernel page flags) = refl

-- a begin is that of the home, or it is refused
module _ (l : Layout) (hart : ℕ) (wish : Wish) (place : Place) (home : ℕ) (of : place ≡ place_of wish) (is : home ≡ home_of l place) where
  same-home : home ≡ home_of l (place_of wish)
  same-home = is ∙ ap (home_of l) of

  pub begun-away : (hart ≡ home → ⊥) → Err NotHome ≡ edit_start l hart wish
  unfolding wish_fault
  begun-away away =
      let b : not (hart == home_of l (place_of wish)) ≡ true = ap not (ne_eqb _ _ (λ e. away (e ∙ sym same-home))) in
      sym (ap (λ b. unless_fault (cond b (Some NotHome) (at_home_fault l wish)) (path_start l wish)) b)

  pub begun-home : (r : Result EditStage MapFault) → hart ≡ home → r ≡ start_at_home (bare_layout l.scheme l.window l.base) wish → r ≡ edit_start l hart wish
  unfolding wish_fault
  begun-home r at-home e =
      let b : not (hart == home_of l (place_of wish)) ≡ false = ap not (eq-eqb _ _ (at-home ∙ same-home)) in
      e ∙ same-start l wish ∙ sym (ap (λ b. unless_fault (cond b (Some NotHome) (at_home_fault l wish)) (path_start l wish)) b)

module _ (e : EditStage) (words : Tables) (spare : Option ℕ) where
  ends-as : (r : Result Store MapFault) → answer_from e words spare ≡ r → Continues e words spare (next_of r)
  ends-as (Ok store) is = is
  ends-as (Err fault) is = is

  module _ (w : ℕ) (same : w ≡ (end_at words (page_of e.wish).base e.level e.table).entry) where
    at-end : path_end words (page_of e.wish).base (level_of (page_of e.wish).size) (e.level - level_of (page_of e.wish).size) e.table ≡ end_at words (page_of e.wish).base e.level e.table
        → Continues e words spare (next_of (due_here e w spare))
    at-end path = ends-as _ (ap (store_due e.wish spare) (path ∙ sym (whole words (page_of e.wish).base (level_of (page_of e.wish).size) e.level e.table w same)))

    by-pointer : (stage : IsStage e) → level_of (page_of e.wish).size < e.level → (k : Kind) → kind_of w ≡ k → Continues e words spare (more_or_end (stage_below e (pointed_kind k)) (due_here e w spare))
    by-pointer stage less kinds.Invalid is = at-end (path_end-here words (page_of e.wish).base (level_of (page_of e.wish).size) e.level e.table less (λ ppn global t. let bad : kinds.Invalid ≡ kinds.Table ppn global = sym is ∙ ap kind_of same ∙ t in cc))
    by-pointer stage less kinds.Reserved is = at-end (path_end-here words (page_of e.wish).base (level_of (page_of e.wish).size) e.level e.table less (λ ppn global t. let bad : kinds.Reserved ≡ kinds.Table ppn global = sym is ∙ ap kind_of same ∙ t in cc))
    by-pointer stage less (kinds.Leaf q f) is = at-end (path_end-here words (page_of e.wish).base (level_of (page_of e.wish).size) e.level e.table less (λ ppn global t. let bad : kinds.Leaf q f ≡ kinds.Table ppn global = sym is ∙ ap kind_of same ∙ t in cc))
    by-pointer stage less (kinds.Table ppn global) is = (
      record { leaf = stage.leaf; from = omega arith; to = omega (arith, stage.to) },
      refl,
      omega arith,
      ap (store_due e.wish spare) (sym (path_end-below words (page_of e.wish).base (level_of (page_of e.wish).size) e.level e.table ppn global less (ap kind_of (sym same) ∙ is))),
    )

    by-level : (b : Bool) → (e.level == level_of (page_of e.wish).size) ≡ b → IsStage e
        → Continues e words spare (more_or_end (cond b None (stage_below e (pointed (Some w)))) (due_here e w spare))
    by-level true t stage = at-end (path_end-lowest words (page_of e.wish).base (level_of (page_of e.wish).size) e.level e.table (eqb-true e.level (level_of (page_of e.wish).size) t))
    by-level false t stage = by-pointer stage (let apart = t in let from = stage.from in grind (arith, nat_tests)) (kind_of w) refl

    pub continues : IsStage e → Continues e words spare (edit_next e w spare)
    continues = by-level (e.level == level_of (page_of e.wish).size) refl

-- a page of the root's level is refused where a table stands
table-there : (wish : Wish) (ppn : ℕ) (global : Bool) → page_word wish (kinds.Table ppn global) ≡ Err (table_fault wish)
table-there (Map place page q flags) ppn global = refl
table-there (Unmap place page) ppn global = refl
table-there (Protect place page flags) ppn global = refl

module _ (l : Layout) (fits : IsLayout l) (words : Tables) (holders : Holders) (tree : IsTree l words holders) (hart : ℕ) (wish : Wish) (spare : Option ℕ) where
  abbrev due-from : Place → Result Store MapFault
  due-from place = store_due wish spare (path_end words (page_of wish).base (level_of (page_of wish).size) (top_level l.scheme - level_of (page_of wish).size) (path_root l place))

  abbrev first-of : Place → EditStage
  first-of place = record { wish = wish; level = start_level l place; table = start_table l place (page_of wish).base }

  abbrev start-of : Place → Result EditStage MapFault
  start-of place = cond (is_kernel place && level_of (page_of wish).size == top_level l.scheme) (Err (table_fault wish)) (Ok (first-of place))

  from-window : level_of (page_of wish).size ≤ top_level l.scheme → IsIn l Kernel (page_of wish).base → (b : Bool) → (level_of (page_of wish).size == top_level l.scheme) ≡ b
      → answer_of (cond b (Err (table_fault wish)) (Ok (first-of Kernel))) words spare ≡ due-from Kernel
  from-window low inside false t =
      let less : level_of (page_of wish).size < top_level l.scheme = (let apart = t in grind (arith, nat_tests)) in
      sym (ap (store_due wish spare) (kernel-path l words holders fits tree 0 (page_of wish).base (level_of (page_of wish).size) fits.some_space inside less))
  from-window low inside true t =
      let at : level_of (page_of wish).size ≡ top_level l.scheme = eqb-true (level_of (page_of wish).size) (top_level l.scheme) t in
      let path = path_end-lowest words (page_of wish).base (level_of (page_of wish).size) (top_level l.scheme) (root_ppn l 0) (sym at) in
      let word = window-word l fits words holders tree 0 (page_of wish).base fits.some_space inside in
      let kind : kind_of (end_at words (page_of wish).base (top_level l.scheme) (root_ppn l 0)).entry ≡ kinds.Table (start_table l Kernel (page_of wish).base) true =
      ap (λ o. kind_of (unwrap_or o 0)) word ∙ kind-table (start_table l Kernel (page_of wish).base) true (window-fits l fits words holders tree (page_of wish).base inside)
      in
      let here : (top_level l.scheme == level_of (page_of wish).size) ≡ true = eq-eqb _ _ (sym at) in
      let due : due_word wish spare (end_at words (page_of wish).base (top_level l.scheme) (root_ppn l 0)) ≡ Err (table_fault wish) =
      ap (λ b. cond b (page_word wish (kind_of (end_at words (page_of wish).base (top_level l.scheme) (root_ppn l 0)).entry)) (upper_word wish spare (kind_of (end_at words (page_of wish).base (top_level l.scheme) (root_ppn l 0)).entry))) here
      ∙ ap (page_word wish) kind ∙ table-there wish _ true
      in
      sym (ap (store_due wish spare) path ∙ ap (store_at (place_of wish) (page_of wish).base (end_at words (page_of wish).base (top_level l.scheme) (root_ppn l 0))) due)

  by-place : (place : Place) → level_of (page_of wish).size ≤ top_level l.scheme → IsIn l place (page_of wish).base → answer_of (start-of place) words spare ≡ due-from place
  by-place (Space s) low inside = refl
  by-place Kernel low inside = from-window low inside (level_of (page_of wish).size == top_level l.scheme) refl

  pub starts : answer_of (edit_start l hart wish) words spare ≡ edit_of l words spare hart wish
  unfolding edit_of
  starts = by-fault (wish_fault l hart wish) refl
    where
      by-fault : (o : Option MapFault) → wish_fault l hart wish ≡ o → answer_of (unless_fault o (path_start l wish)) words spare ≡ unless o (due-from (place_of wish))
      by-fault (Some fault) is = refl
      by-fault None is =
          let u = unfaulted l hart wish is in
          by-place (place_of wish) (fit-level l (place_of wish) (page_of wish) u.half) (within l (place_of wish) (page_of wish) u.half)

-- the same as the steps of a loop
pub begun-as : (m : Held) → IsMemory m → (hart : ℕ) (wish : Wish) (r : Result EditStage MapFault)
    → r ≡ edit_start m.layout hart wish → answer_of r (memory_words m) (spare_of m hart) ≡ edit_of m.layout (memory_words m) (spare_of m hart) hart wish
begun-as m held hart wish r e =
    ap (λ x. answer_of x (memory_words m) (spare_of m hart)) e ∙ starts m.layout held.layout (memory_words m) (holders_of m) held.tree hart wish (spare_of m hart)

module _ (e : EditStage) (words : Tables) (spare : Option ℕ) (word ppn index : ℕ) (stage : IsStage e) (p : ppn ≡ e.table) (i : index ≡ index_of e) (is : words ppn index ≡ Some word) where
  pub read-there : words e.table (index_of e) ≡ Some word
  read-there = sym (ap (λ t. words t index) p ∙ ap (words e.table) i) ∙ is

  pub goes-on : Continues e words spare (edit_next e word spare)
  goes-on = continues e words spare word (sym (ap (λ o. unwrap_or o 0) read-there)) stage

  pub goes-below : (after : EditStage) → Some after ≡ below_of e word → (after.level + 1 ≡ e.level) × (answer_from after words spare ≡ answer_from e words spare)
  goes-below after b =
      let on : Continues e words spare (next.More after) = subst (λ r. Continues e words spare (more_or_end r (due_here e word spare))) (sym b) goes-on in
      (on.2, on.3)

  pub ends-here : None ≡ below_of e word → (r : Result Store MapFault) (used : Option ℕ) → r ≡ due_here e word used → due_here e word used ≡ due_here e word spare → r ≡ answer_from e words spare
  ends-here b r used due same = due ∙ same ∙ by-due (due_here e word spare) (subst (λ r. Continues e words spare (more_or_end r (due_here e word spare))) (sym b) goes-on)
    where
      by-due : (r : Result Store MapFault) → Continues e words spare (next_of r) → r ≡ answer_from e words spare
      by-due (Ok store) on = sym on
      by-due (Err fault) on = sym on

pub continues-words : (e : EditStage) (words : Tables) (spare : Option ℕ) → IsStage e → Continues e words spare (edit_next e (unwrap_or (words e.table (index_of e)) 0) spare)
continues-words e words spare stage = continues e words spare (unwrap_or (words e.table (index_of e)) 0) refl stage

-- the spare frame counts for nothing at the page's level
pub needless : (e : EditStage) → (e.level == level_of (page_of e.wish).size) ≡ true → (word : ℕ) (o : Option ℕ) → due_here e word None ≡ due_here e word o
needless e at word o =
    ap (λ b. store_at (place_of e.wish) (page_of e.wish).base (record { level = e.level; table = e.table; entry = word }) (cond b (page_word e.wish (kind_of word)) (upper_word e.wish None (kind_of word)))) at
    ∙ sym (ap (λ b. store_at (place_of e.wish) (page_of e.wish).base (record { level = e.level; table = e.table; entry = word }) (cond b (page_word e.wish (kind_of word)) (upper_word e.wish o (kind_of word)))) at)
