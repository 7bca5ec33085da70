-- An accepted edit writes on its page's path.
use Rattle.std.proofs.Common.{◌≡◌, ℕ, suc, ◌+◌, ◌-◌, ◌<◌, ◌≤◌, ◌%◌, ◌^◌, ◌==◌, ◌||◌, not, cond, Bool, true, false, Option, Some, None, Result, Ok, Err, length, ap, sym, ◌∙◌, subst, refl, inl, inr, arith, IsSome}
use Rattle.std.specs.Prelude.{slice_index, unwrap_or, nat_le}
use Rattle.std.proofs.lemmas.Bool.{and_parts, eqb-true, cases_lt, leb-true}
use Rattle.std.proofs.lemmas.Bool.Decides.{nat_tests}
use Rattle.pte.specs.declared.flags.PteFlags.{PteFlags}
use Rattle.pte.specs.declared.entry.Kind.{Kind}
use Rattle.pte.specs.declared.entry.Kind.TheVariants as kinds
use Rattle.pte.specs.Address.{IsPage, IsPageOf, Span, fits, is_canonical, top_level, level_of, pages_of, vpn_of}
use Rattle.pte.proofs.Schemes.{fits-IsPageOf}
use Rattle.pte.specs.Entry.{kind_of, is_no_leaf, leaf_word, table_word}
use Rattle.pte.specs.declared.entry.TheConstants.{PPN_BITS}
use Rattle.walk.specs.Leads.{Tables, word_at}
use Rattle.spaces.specs.declared.places.Place.{Place}
use Rattle.spaces.specs.declared.places.Place.TheVariants.{Space, Kernel}
use Rattle.spaces.specs.declared.wishes.PathEnd.{PathEnd}
use Rattle.spaces.specs.declared.wishes.Wish.{Wish}
use Rattle.spaces.specs.declared.wishes.Wish.TheVariants.{Map, Unmap, Protect}
use Rattle.spaces.specs.declared.faults.MapFault.{MapFault}
use Rattle.spaces.specs.declared.faults.MapFault.TheVariants.{NotHome, WrongHalf, BadFlags, PpnTooLarge, Misaligned}
use Rattle.spaces.specs.Layout.{Layout, HasPlace, home_of, root_ppn, first_window_slot}
use Rattle.spaces.specs.Held.{IsLayout}
use Rattle.spaces.specs.Holders.{Holders}
use Rattle.spaces.specs.Edits.{Store, place_of, page_of, is_kernel, is_outside, is_wrong_half, is_bad, is_wrong_global, is_misaligned, leaf_fault, wish_fault, path_root, page_word, upper_word, pointer_word, due_word, store_at, unless, wish_end, edit_of}
use Rattle.spaces.specs.Tree.{start_level, start_table, IsIn, table_on, IsEntryOf, IsTree}
use Rattle.walk.specs.Pointers.{pointed, pointed_kind, table_below}
use Rattle.spaces.specs.Accepted.{Accepted, IsFlags, Writes, adds_table, adds_leaf, removes_leaf, changes_leaf}
use Rattle.spaces.proofs.Paths.{on, vpn-below}
use Rattle.spaces.proofs.EntryWords.{pointed-table}
use Rattle.spaces.proofs.EndPaths.{EndsOn, ends-on, table_below-front}

pub unless-ok : (o : Option MapFault) (r : Result Store MapFault) (store : Store) → unless o r ≡ Ok store → (o ≡ None) × (r ≡ Ok store)
unless-ok None r store e = (refl, e)
unless-ok (Some fault) r store e = absurd (let bad : Err fault ≡ Ok store = e in cc)

pub record Stored (place : Place) (va : ℕ) (end : PathEnd) (r : Result ℕ MapFault) (store : Store) : Type 0 where
  pub new : ℕ
  pub due : r ≡ Ok new
  pub is : store ≡ record { place = place; ppn = end.table; index = vpn_of va end.level; word = new }

pub store_at-ok : (place : Place) (va : ℕ) (end : PathEnd) (r : Result ℕ MapFault) (store : Store) → store_at place va end r ≡ Ok store → Stored place va end r store
store_at-ok place va end (Ok new) store e = record { new = new; due = refl; is = cc }
store_at-ok place va end (Err fault) store e = absurd (let bad : Err fault ≡ Ok store = e in cc)

cond-none : (b : Bool) (fault : MapFault) (rest : Option MapFault) → cond b (Some fault) rest ≡ None → (b ≡ false) × (rest ≡ None)
cond-none true fault rest e = absurd (let bad : Some fault ≡ None = e in cc)
cond-none false fault rest e = (refl, e)

not-false : (b : Bool) → not b ≡ false → b ≡ true
not-false true e = refl
not-false false e = sym e

or-false : (a b : Bool) → (a || b) ≡ false → (a ≡ false) × (b ≡ false)
or-false true b e = absurd (let bad : true ≡ false = e in cc)
or-false false b e = (refl, e)

pub record Unfaulted (l : Layout) (hart : ℕ) (wish : Wish) : Type 0 where
  pub home : hart ≡ home_of l (place_of wish)
  pub half : is_wrong_half l (place_of wish) (page_of wish) ≡ false
  pub leaf : leaf_fault wish ≡ None

pub unfaulted : (l : Layout) (hart : ℕ) (wish : Wish) → wish_fault l hart wish ≡ None → Unfaulted l hart wish
unfolding wish_fault
unfaulted l hart wish e =
    let first = cond-none (not (hart == home_of l (place_of wish))) NotHome _ e in
    let second = cond-none (is_wrong_half l (place_of wish) (page_of wish)) WrongHalf _ first.1 in
    record {
      home = eqb-true hart (home_of l (place_of wish)) (not-false _ first.0);
      half = second.0;
      leaf = second.1;
    }

pub within : (l : Layout) (place : Place) (page : Span) → is_wrong_half l place page ≡ false → IsIn l place page.base
within l place page e = by_place place (or-false (not (fits l.scheme page)) (is_outside l place page) e).1
  where
    by_place : (place : Place) → is_outside l place page ≡ false → IsIn l place page.base
    by_place (Space s) e = grind (arith, nat_tests)
    by_place Kernel e = grind (arith, nat_tests)

-- its page is one of the scheme
pub fit-level : (l : Layout) (place : Place) (page : Span) → is_wrong_half l place page ≡ false → level_of page.size ≤ top_level l.scheme
fit-level l place page e =
    let fit = not-false (fits l.scheme page) (or-false (not (fits l.scheme page)) (is_outside l place page) e).0 in
    leb-true _ _ (and_parts (nat_le (level_of page.size) (top_level l.scheme)) (is_canonical l.scheme page.base) fit).0

flags-of : (place : Place) (flags : PteFlags) → is_bad place flags ≡ false → IsFlags place flags
flags-of place flags e =
    let both = or-false (is_no_leaf flags.0) (is_wrong_global place flags || nat_le (2 ^ 8) flags.0) e in
    let more = or-false (is_wrong_global place flags) (nat_le (2 ^ 8) flags.0) both.1 in
    record { leaf = both.0; global = more.0; byte = let t = more.1 in grind (arith, nat_tests) }

entry-zero : (old : ℕ) → IsEntryOf old (kind_of old) → kind_of old ≡ kinds.Invalid → old ≡ 0
entry-zero old is e = subst (IsEntryOf old) e is

entry-reserved : (old : ℕ) → IsEntryOf old (kind_of old) → kind_of old ≡ kinds.Reserved → ⊥
entry-reserved old is e = subst (IsEntryOf old) e is

pub fit-page : (l : Layout) (place : Place) (page : Span) → is_wrong_half l place page ≡ false → IsPage page → IsPageOf l.scheme page
fit-page l place page e is = (fits-IsPageOf l.scheme page is).0 (not-false (fits l.scheme page) (or-false (not (fits l.scheme page)) (is_outside l place page) e).0)

module _ (spare : Option ℕ) (level old : ℕ) (entry : IsEntryOf old (kind_of old)) where
  -- the new word at the page's level
  at-page : (wish : Wish) (new : ℕ) (kind : Kind) → kind_of old ≡ kind → leaf_fault wish ≡ None → level ≡ level_of (page_of wish).size → page_word wish kind ≡ Ok new → Writes spare level old wish new
  at-page (Map place page ppn flags) new kinds.Invalid is fault at e =
      let first = cond-none (is_bad place flags) BadFlags _ fault in
      let second = cond-none (nat_le (2 ^ PPN_BITS) ppn) PpnTooLarge _ first.1 in
      let third = cond-none (is_misaligned page ppn) Misaligned None second.1 in
      let word : leaf_word ppn flags ≡ new = cc in
      let fits : ppn < 2 ^ PPN_BITS = let t = second.0 in grind (arith, nat_tests) in
      let aligned : ppn % pages_of page.size ≡ 0 = eqb-true _ _ (not-false _ third.0) in
      subst (Writes spare level old (Map place page ppn flags)) word
      (adds_leaf place page ppn flags at (entry-zero old entry is) (flags-of place flags first.0) fits aligned)
  at-page (Map place page ppn flags) new kinds.Reserved is fault at e = absurd (entry-reserved old entry is)
  at-page (Map place page ppn flags) new (kinds.Table q g) is fault at e = absurd cc
  at-page (Map place page ppn flags) new (kinds.Leaf q f) is fault at e = absurd cc
  at-page (Unmap place page) new kinds.Invalid is fault at e = absurd cc
  at-page (Unmap place page) new kinds.Reserved is fault at e = absurd cc
  at-page (Unmap place page) new (kinds.Table q g) is fault at e = absurd cc
  at-page (Unmap place page) new (kinds.Leaf q f) is fault at e =
      let word : 0 ≡ new = cc in subst (Writes spare level old (Unmap place page)) word (removes_leaf place page q f at is)
  at-page (Protect place page flags) new kinds.Invalid is fault at e = absurd cc
  at-page (Protect place page flags) new kinds.Reserved is fault at e = absurd cc
  at-page (Protect place page flags) new (kinds.Table q g) is fault at e = absurd cc
  at-page (Protect place page flags) new (kinds.Leaf q f) is fault at e =
      let first = cond-none (is_bad place flags) BadFlags None fault in
      let word : leaf_word q flags ≡ new = cc in
      subst (Writes spare level old (Protect place page flags)) word (changes_leaf place page flags q f at is (flags-of place flags first.0))

  -- the new word above it
  pointer : (place : Place) (page : Span) (ppn : ℕ) (flags : PteFlags) (new : ℕ) (o : Option ℕ) → spare ≡ o → level_of page.size < level → old ≡ 0 → pointer_word place o ≡ Ok new → Writes spare level old (Map place page ppn flags) new
  pointer place page ppn flags new (Some frame) is above zero-word e =
      let word : table_word frame (is_kernel place) ≡ new = cc in
      subst (Writes spare level old (Map place page ppn flags)) word (adds_table place page ppn flags frame above zero-word is)
  pointer place page ppn flags new None is above zero-word e = absurd cc

  above-page : (wish : Wish) (new : ℕ) (kind : Kind) → kind_of old ≡ kind → level_of (page_of wish).size < level → ((q : ℕ) (g : Bool) → kind ≡ kinds.Table q g → ⊥)
      → upper_word wish spare kind ≡ Ok new → Writes spare level old wish new
  above-page (Map place page ppn flags) new kinds.Invalid is above stops e = pointer place page ppn flags new spare refl above (entry-zero old entry is) e
  above-page (Map place page ppn flags) new kinds.Reserved is above stops e = absurd (entry-reserved old entry is)
  above-page (Map place page ppn flags) new (kinds.Table q g) is above stops e = absurd (stops q g refl)
  above-page (Map place page ppn flags) new (kinds.Leaf q f) is above stops e = absurd cc
  above-page (Unmap place page) new kinds.Invalid is above stops e = absurd cc
  above-page (Unmap place page) new kinds.Reserved is above stops e = absurd cc
  above-page (Unmap place page) new (kinds.Table q g) is above stops e = absurd cc
  above-page (Unmap place page) new (kinds.Leaf q f) is above stops e = absurd cc
  above-page (Protect place page flags) new kinds.Invalid is above stops e = absurd cc
  above-page (Protect place page flags) new kinds.Reserved is above stops e = absurd cc
  above-page (Protect place page flags) new (kinds.Table q g) is above stops e = absurd cc
  above-page (Protect place page flags) new (kinds.Leaf q f) is above stops e = absurd cc

page-table : (wish : Wish) (q : ℕ) (g : Bool) (new : ℕ) → page_word wish (kinds.Table q g) ≡ Ok new → ⊥
page-table (Map place page ppn flags) q g new e = cc
page-table (Unmap place page) q g new e = cc
page-table (Protect place page flags) q g new e = cc

module _ (wish : Wish) (spare : Option ℕ) (end : PathEnd) (new : ℕ) (due : due_word wish spare end ≡ Ok new)
    (stops : (ppn : ℕ) (global : Bool) → level_of (page_of wish).size < end.level → kind_of end.entry ≡ kinds.Table ppn global → ⊥)
    (from : level_of (page_of wish).size ≤ end.level) where
  -- no pointer is written over
  no-table : (q : ℕ) (g : Bool) → kind_of end.entry ≡ kinds.Table q g → ⊥
  no-table q g is = by_test (end.level == level_of (page_of wish).size) refl due
    where
      by_test : (b : Bool) → (end.level == level_of (page_of wish).size) ≡ b
          → cond b (page_word wish (kind_of end.entry)) (upper_word wish spare (kind_of end.entry)) ≡ Ok new → ⊥
      by_test true t e = page-table wish q g new (ap (page_word wish) (sym is) ∙ e)
      by_test false t e = stops q g (let apart = t in grind (arith, nat_tests)) is

  writes : (old : ℕ) → end.entry ≡ old → IsEntryOf old (kind_of old) → leaf_fault wish ≡ None → Writes spare end.level old wish new
  writes old same entry fault = by_test (end.level == level_of (page_of wish).size) refl due
    where
      by_test : (b : Bool) → (end.level == level_of (page_of wish).size) ≡ b
          → cond b (page_word wish (kind_of end.entry)) (upper_word wish spare (kind_of end.entry)) ≡ Ok new → Writes spare end.level old wish new
      by_test true t e = at-page spare end.level old entry wish new (kind_of end.entry) (ap kind_of (sym same)) fault (eqb-true _ _ t) e
      by_test false t e =
          above-page spare end.level old entry wish new (kind_of end.entry) (ap kind_of (sym same)) (let apart = t in grind (arith, nat_tests))
          (λ q g is. no-table q g is) e

-- a table of a path from a root, as one of a path in the place
pub record Depth (l : Layout) (words : Tables) (place : Place) (va : ℕ) (end : PathEnd) : Type 0 where
  pub depth : ℕ
  pub deep : depth ≤ start_level l place
  pub on : table_on l words place va depth ≡ Some end.table
  pub level : start_level l place - depth ≡ end.level

some-of : (o : Option ℕ) → IsSome o → (n : ℕ) × (o ≡ Some n)
some-of (Some n) e = (n, refl)
some-of None e = absurd (let bad : false ≡ true = e in cc)

module _ (l : Layout) (fits : IsLayout l) (words : Tables) (holders : Holders) (tree : IsTree l words holders) where
  pub home-there : (place : Place) → HasPlace l place → home_of l place < length l.spares
  home-there (Space s) has = fits.homes s 0 has
  home-there Kernel has = let h = fits.homes 0 0 fits.some_space in omega arith

  -- every root's slot of the window points to the window's table
  pub window-points : (s va : ℕ) → s < length l.homes → IsIn l Kernel va → pointed (word_at words va (top_level l.scheme) (root_ppn l s)) ≡ Some (start_table l Kernel va)
  window-points s va has in-window =
      let slot = vpn-below va (top_level l.scheme) in
      let k : vpn_of va (top_level l.scheme) - first_window_slot l < l.window = omega (arith, fits.window) in
      let same : first_window_slot l + (vpn_of va (top_level l.scheme) - first_window_slot l) ≡ vpn_of va (top_level l.scheme) = omega (arith, fits.window) in
      let word = (tree (slice_index l.homes s) (fits.homes s 0 has)).window s (vpn_of va (top_level l.scheme) - first_window_slot l) has refl k in
      ap (λ i. pointed (words (root_ppn l s) i)) (sym same) ∙ ap pointed word ∙ pointed-table (start_table l Kernel va) true (omega (arith, fits.ppns_fit))

  depth-on : (place : Place) (va lowest : ℕ) (end : PathEnd) → EndsOn words va lowest (top_level l.scheme) (path_root l place) end → IsIn l place va → HasPlace l place
      → ((q : ℕ) (g : Bool) → kind_of end.entry ≡ kinds.Table q g → ⊥) → Depth l words place va end
  depth-on (Space s) va lowest end ends in-half has no-pointer = record {
    depth = top_level l.scheme - end.level;
    deep = omega arith;
    on = ends.on;
    level = omega (arith, ends.to);
  }
  depth-on Kernel va lowest end ends in-window has no-pointer =
      elim (cases_lt end.level (top_level l.scheme)) [
        | inl lower ↦
            let steps : top_level l.scheme - end.level ≡ suc (top_level l.scheme - 1 - end.level) = omega arith in
            record {
              depth = top_level l.scheme - 1 - end.level;
              deep = omega arith;
              on =
                  sym (table_below-front words va (top_level l.scheme) (root_ppn l 0) (start_table l Kernel va) (top_level l.scheme - 1 - end.level) (window-points 0 va fits.some_space in-window))
                  ∙ ap (table_below words va (top_level l.scheme) (root_ppn l 0)) (sym steps) ∙ ends.on;
              level = omega arith;
            }
        | inr top ↦
            let at : end.level ≡ top_level l.scheme = omega (arith, ends.to) in
            let steps : top_level l.scheme - end.level ≡ 0 = omega arith in
            let root : Some (root_ppn l 0) ≡ Some end.table = ap (table_below words va (top_level l.scheme) (root_ppn l 0)) (sym steps) ∙ ends.on in
            let is : end.table ≡ root_ppn l 0 = cc in
            let points : pointed (word_at words va end.level end.table) ≡ Some (start_table l Kernel va) =
            ap (λ k. pointed (word_at words va k end.table)) at ∙ ap (λ t. pointed (word_at words va (top_level l.scheme) t)) is ∙ window-points 0 va fits.some_space in-window
            in
            absurd (pointed-no (word_at words va end.level end.table) (start_table l Kernel va) points (λ q g k. no-pointer q g (ap kind_of ends.entry ∙ k)))
      ]
    where
      pointed-kind-no : (kind : Kind) (t : ℕ) → pointed_kind kind ≡ Some t → ((q : ℕ) (g : Bool) → kind ≡ kinds.Table q g → ⊥) → ⊥
      pointed-kind-no kinds.Invalid t e not-table = cc
      pointed-kind-no kinds.Reserved t e not-table = cc
      pointed-kind-no (kinds.Table q g) t e not-table = not-table q g refl
      pointed-kind-no (kinds.Leaf q f) t e not-table = cc

      pointed-no : (o : Option ℕ) (t : ℕ) → pointed o ≡ Some t → ((q : ℕ) (g : Bool) → kind_of (unwrap_or o 0) ≡ kinds.Table q g → ⊥) → ⊥
      pointed-no None t e not-table = cc
      pointed-no (Some w) t e not-table = pointed-kind-no (kind_of w) t e not-table

  accepted-end : (spare : Option ℕ) (hart : ℕ) (wish : Wish) (store : Store) → HasPlace l (place_of wish) → Unfaulted l hart wish
      → Stored (place_of wish) (page_of wish).base (wish_end l words wish) (due_word wish spare (wish_end l words wish)) store → Accepted l words spare hart wish store
  accepted-end spare hart wish store has unf stored =
      let end : PathEnd = wish_end l words wish in
      let lowest = fit-level l (place_of wish) (page_of wish) unf.half in
      let ends : EndsOn words (page_of wish).base (level_of (page_of wish).size) (top_level l.scheme) (path_root l (place_of wish)) (wish_end l words wish) =
      ends-on words (page_of wish).base (level_of (page_of wish).size) (top_level l.scheme - level_of (page_of wish).size) (top_level l.scheme) (path_root l (place_of wish)) (omega arith)
      in
      let in-half = within l (place_of wish) (page_of wish) unf.half in
      let free = no-table wish spare (wish_end l words wish) stored.new stored.due ends.stops ends.from in
      let at = depth-on (place_of wish) (page_of wish).base (level_of (page_of wish).size) (wish_end l words wish) ends in-half has free in
      let h = home-there (place_of wish) has in
      let there = on l fits words (home_of l (place_of wish)) holders (tree (home_of l (place_of wish)) h) (place_of wish) (page_of wish).base at.depth (wish_end l words wish).table has refl in-half at.on in
      let old = some-of (word_at words (page_of wish).base (wish_end l words wish).level (wish_end l words wish).table)
      ((tree (home_of l (place_of wish)) h).present (wish_end l words wish).table (vpn_of (page_of wish).base (wish_end l words wish).level) there.home (vpn-below (page_of wish).base (wish_end l words wish).level))
      in
      let entry = (tree (home_of l (place_of wish)) h).entries _ _ old.0 there.home old.1 in
      let same : (wish_end l words wish).entry ≡ old.0 = ends.entry ∙ ap (λ o. unwrap_or o 0) old.1 in
      let what = writes wish spare (wish_end l words wish) stored.new stored.due ends.stops ends.from old.0 same entry unf.leaf in
      record {
        home = unf.home;
        within = in-half;
        by = ap (λ (s : Store). s.place) stored.is;
        depth = at.depth;
        deep = at.deep;
        on = at.on ∙ ap Some (sym (ap (λ (s : Store). s.ppn) stored.is));
        index = ap (λ (s : Store). s.index) stored.is ∙ ap (vpn_of (page_of wish).base) (sym at.level);
        old = old.0;
        word = ap (λ (s : Store). words s.ppn s.index) stored.is ∙ old.1;
        writes =
            subst (λ n. Writes spare n old.0 wish store.word) (sym at.level)
            (subst (Writes spare (wish_end l words wish).level old.0 wish) (sym (ap (λ (s : Store). s.word) stored.is)) what);
      }

  pub accepted : (spare : Option ℕ) (hart : ℕ) (wish : Wish) (store : Store) → HasPlace l (place_of wish) → edit_of l words spare hart wish ≡ Ok store → Accepted l words spare hart wish store
  unfolding edit_of
  accepted spare hart wish store has e =
      let parts = unless-ok (wish_fault l hart wish) _ store e in
      accepted-end spare hart wish store has (unfaulted l hart wish parts.0)
      (store_at-ok (place_of wish) (page_of wish).base (wish_end l words wish) (due_word wish spare (wish_end l words wish)) store parts.1)

-- the page of an edit that is due is one of the scheme
pub edit-fits : (l : Layout) (words : Tables) (spare : Option ℕ) (hart : ℕ) (wish : Wish) (store : Store) → edit_of l words spare hart wish ≡ Ok store → IsPage (page_of wish) → IsPageOf l.scheme (page_of wish)
unfolding edit_of
edit-fits l words spare hart wish store e is = fit-page l (place_of wish) (page_of wish) (unfaulted l hart wish (unless-ok (wish_fault l hart wish) _ store e).0).half is
