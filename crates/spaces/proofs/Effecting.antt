-- What an accepted edit does to the pages that the roots map.
use Rattle.std.proofs.Common.{◌≡◌, ℕ, zero, suc, ◌+◌, ◌-◌, ◌<◌, ◌≤◌, ◌⊎◌, ◌%◌, ◌*◌, Bool, Some, None, ap, sym, ◌∙◌, subst, refl, inl, inr, arith}
use Rattle.std.proofs.lemmas.Bool.{cases_lt, cases_order}
use Rattle.pte.specs.declared.flags.PteFlags.{PteFlags}
use Rattle.pte.specs.declared.entry.Kind.TheVariants as kinds
use Rattle.pte.specs.Address.{IsCanonical, IsPageOf, top_level, level_of, level_pages, vpn_of}
use Rattle.pte.specs.Entry.{kind_of}
use Rattle.walk.specs.Leads.{Tables, word_at}
use Rattle.walk.specs.Maps.{Maps, page_number, LiesIn}
use Rattle.spaces.specs.declared.places.Place.{Place}
use Rattle.spaces.specs.declared.places.Place.TheVariants.{Space, Kernel}
use Rattle.spaces.specs.declared.wishes.Wish.{Wish}
use Rattle.spaces.specs.Layout.{Layout, HasPlace, home_of, root_ppn, first_window_slot, user_slots}
use Rattle.spaces.specs.Held.{IsLayout}
use Rattle.spaces.specs.Holders.{Holders, unused_spare}
use Rattle.spaces.specs.Edits.{Store, place_of, page_of, is_kernel}
use Rattle.spaces.specs.Tree.{start_level, start_table, IsIn, table_on, IsHome, IsTree}
use Rattle.walk.specs.Pointers.{pointed, pointed_kind, table_below}
use Rattle.spaces.specs.Accepted.{Accepted}
use Rattle.spaces.specs.Applied.{words_after_store, holders_after, seven}
use Rattle.spaces.specs.Effects.{HangsBelow, IsAbout, SameMaps, AddsPage, RemovesPage, ChangesFlags}
use Rattle.spaces.proofs.Homes.{home-unique}
use Rattle.spaces.proofs.Paths.{above, on, some-same, paths-agree, table_below-like, SamePath, vpn-below}
use Rattle.spaces.proofs.Stored.{is-word, stored-here, stored-there, pointed-stored}
use Rattle.spaces.proofs.Trees.{IsPlace, kind-zero, pointed-zero, table_on-pointer, table_on-kept, fresh-empty}
use Rattle.spaces.proofs.Accepting.{home-there}
use Rattle.spaces.proofs.Keeping.{IsLeafStore, IsPointerStore, there, reaches, keeps-tree, is-place, high}
use Rattle.walk.proofs.Pages.{same_vpn}
use Rattle.spaces.proofs.Numbers.{same-page, part-of, of-part, place-of-part, canonical-part, number-part}
use Rattle.spaces.proofs.Leaves.{LeafOn, member-of, maps-of, moved, leaf-carried}

leaf-no-table : (q r : ℕ) (f : PteFlags) (g : Bool) → kinds.Leaf q f ≡ kinds.Table r g → ⊥
leaf-no-table q r f g e = cc

-- a path ends where a word is no pointer
pub ends : (words : Tables) (va level table m n t t' : ℕ) → n < m → table_below words va level table n ≡ Some t → pointed (word_at words va (level - n) t) ≡ None → table_below words va level table m ≡ Some t' → ⊥
ends words va level table zero n t t' less e stops further = omega arith
ends words va level table (suc m) n t t' less e stops further =
    let up = above words va level table m t' further in
    elim (cases_lt n m) [
      | inl more ↦ ends words va level table m n t up.table_above more e stops up.on
      | inr last ↦
          let at : n ≡ m = omega arith in
          let same : t ≡ up.table_above = some-same _ _ (sym e ∙ ap (table_below words va level table) at ∙ up.on) in
          let bad : None ≡ Some t' = sym stops ∙ ap (λ u. pointed (word_at words va (level - n) u)) same ∙ ap (λ k. pointed (word_at words va (level - k) up.table_above)) at ∙ up.points in
          cc
    ]

-- an address is in one place of a root
one-place-in : (l : Layout) (fits : IsLayout l) (place place' : Place) (s va : ℕ) → HangsBelow place s → HangsBelow place' s → IsIn l place va → IsIn l place' va → place ≡ place'
one-place-in l fits (Space a) (Space b) s va p q within within' = ap Space (p ∙ sym q)
one-place-in l fits (Space a) Kernel s va p q within within' = absurd (omega (arith, fits.window))
one-place-in l fits Kernel (Space b) s va p q within within' = absurd (omega (arith, fits.window))
one-place-in l fits Kernel Kernel s va p q within within' = refl

module _ (l : Layout) (fits : IsLayout l) (words : Tables) (holders : Holders) (tree : IsTree l words holders) (wish : Wish) (has : HasPlace l (place_of wish)) (is-page : IsPageOf l.scheme (page_of wish))
    (store : Store) (acc : Accepted l words (unused_spare l holders (home_of l (place_of wish))) (home_of l (place_of wish)) wish store) where
  new-tree : IsTree l (words_after_store words store) (holders_after holders (place_of wish) store)
  new-tree = keeps-tree l fits words holders tree wish has store acc

  -- a path that reaches the word is the page's, also if it is of another home
  reaches-any : (place : Place) (va n : ℕ) → HasPlace l place → IsIn l place va → table_on l words place va n ≡ Some store.ppn
      → SamePath l place (place_of wish) va (page_of wish).base n acc.depth
  reaches-any place va n has' within e =
      let here = there l fits words holders tree wish has store acc in
      let other = on l fits words _ _ (tree _ (home-there l fits words holders tree place has')) place va n store.ppn has' refl within e in
      reaches l fits words holders tree wish has store acc place va n has' (home-unique l _ _ store.ppn other.home here.home) within e

  -- where the word stands at the page's level
  module _ (at-level : start_level l (place_of wish) - acc.depth ≡ level_of (page_of wish).size) where
    -- a path to that word is about the page
    about : (s va level t number : ℕ) (place : Place) → HangsBelow place s → HasPlace l place → IsIn l place va → level ≤ start_level l place
        → table_on l words place va (start_level l place - level) ≡ Some t → IsCanonical l.scheme va → page_number va ≡ number
        → store.ppn ≡ t → store.index ≡ vpn_of va level
        → IsAbout (place_of wish) (page_of wish) s number × (level ≡ level_of (page_of wish).size) × (place ≡ place_of wish)
    about s va level t number place hangs has' within low on-path canonical of-page same-table same-index =
        let path = reaches-any place va (start_level l place - level) has' within (on-path ∙ ap Some (sym same-table)) in
        let levels : start_level l place ≡ start_level l (place_of wish) = ap (start_level l) path.same_place in
        let at : level ≡ level_of (page_of wish).size = omega (arith, path.same_depth, acc.deep) in
        let vpns : (j : ℕ) → level_of (page_of wish).size ≤ j → j ≤ top_level l.scheme → vpn_of va j ≡ vpn_of (page_of wish).base j =
        λ j from to. elim (cases_lt (level_of (page_of wish).size) j) [
          | inl further ↦ path.same_vpns j (omega arith) to
          | inr last ↦
              let here : level_of (page_of wish).size ≡ j = omega arith in
              subst (λ k. vpn_of va k ≡ vpn_of (page_of wish).base k) here
              (ap (vpn_of va) (sym at) ∙ sym same-index ∙ acc.index ∙ ap (vpn_of (page_of wish).base) at-level)
        ]
        in
        let part = part-of (page_of wish).base (page_of wish).size va number is-page.aligned of-page
        (same-page l.scheme va (page_of wish).base (page_of wish).size is-page.level canonical is-page.canonical vpns)
        in
        ((subst (λ p. HangsBelow p s) path.same_place hangs, part), at, path.same_place)

    -- an address of the page has its path
    same-path-in : (s va number : ℕ) → page_number va ≡ number → LiesIn (page_of wish) number
        → (table_on l words (place_of wish) va acc.depth ≡ Some store.ppn) × (store.index ≡ vpn_of va (level_of (page_of wish).size)) × IsIn l (place_of wish) va
    same-path-in s va number of-page part =
        let quotient = of-part (page_of wish).base (page_of wish).size va number is-page.aligned of-page part in
        let vpns : (j : ℕ) → level_of (page_of wish).size ≤ j → vpn_of va j ≡ vpn_of (page_of wish).base j = λ j from. same_vpn va (page_of wish).base (level_of (page_of wish).size) j from quotient in
        let top = vpns (top_level l.scheme) is-page.level in (
          paths-agree l fits words (place_of wish) va (page_of wish).base acc.depth acc.deep (start-top (place_of wish)) (λ j more less. vpns j (omega arith)) (start-same (place_of wish) va (page_of wish).base top) ∙ acc.on,
          acc.index ∙ ap (vpn_of (page_of wish).base) at-level ∙ sym (vpns (level_of (page_of wish).size) (omega arith)),
          in-same (place_of wish) va (page_of wish).base top acc.within,
        )
      where
        start-top : (place : Place) → start_level l place ≤ top_level l.scheme
        start-top (Space s) = omega arith
        start-top Kernel = omega arith

        start-same : (place : Place) (a b : ℕ) → vpn_of a (top_level l.scheme) ≡ vpn_of b (top_level l.scheme) → start_table l place a ≡ start_table l place b
        start-same (Space s) a b e = refl
        start-same Kernel a b e = ap (λ v. l.base + (v - first_window_slot l)) e

        in-same : (place : Place) (a b : ℕ) → vpn_of a (top_level l.scheme) ≡ vpn_of b (top_level l.scheme) → IsIn l place b → IsIn l place a
        in-same (Space s) a b e h = subst (λ v. v < user_slots) (sym e) h
        in-same Kernel a b e h = subst (λ v. first_window_slot l ≤ v) (sym e) h

    module _ (leaf-store : IsLeafStore acc.old store.word) where
      same-tables : (place : Place) (va n : ℕ) → table_on l (words_after_store words store) place va n ≡ table_on l words place va n
      same-tables place va n =
          table_below-like words (words_after_store words store) va (start_level l place) (start_table l place va) n
          (pointed-stored words store.ppn store.index store.word (leaf-store.now ∙ sym (ap pointed acc.word ∙ leaf-store.was)))

      -- a leaf elsewhere is in both
      new-old : (s va level t entry leaf : ℕ) (flags : PteFlags) → (store.ppn ≡ t → store.index ≡ vpn_of va level → ⊥)
          → LeafOn l (words_after_store words store) s va level t entry leaf flags → LeafOn l words s va level t entry leaf flags
      new-old s va level t entry leaf flags apart o =
          leaf-carried l (words_after_store words store) words s va level t entry leaf flags o (sym (same-tables o.place va (start_level l o.place - level)))
          (sym (stored-there words store.ppn store.index store.word t (vpn_of va level) apart))

      old-new : (s va level t entry leaf : ℕ) (flags : PteFlags) → (store.ppn ≡ t → store.index ≡ vpn_of va level → ⊥)
          → LeafOn l words s va level t entry leaf flags → LeafOn l (words_after_store words store) s va level t entry leaf flags
      old-new s va level t entry leaf flags apart o =
          leaf-carried l words (words_after_store words store) s va level t entry leaf flags o (same-tables o.place va (start_level l o.place - level))
          (stored-there words store.ppn store.index store.word t (vpn_of va level) apart)

      -- a leaf of the page in the old words is the one in that word
      the-word : (s va level t entry leaf number : ℕ) (flags : PteFlags) → (o : LeafOn l words s va level t entry leaf flags) → page_number va ≡ number → IsAbout (place_of wish) (page_of wish) s number
          → (store.ppn ≡ t) × (store.index ≡ vpn_of va level)
      the-word s va level t entry leaf number flags o of-page is-about =
          let inside = same-path-in s va number of-page is-about.1 in
          let same-place : o.place ≡ place_of wish = one-place-in l fits o.place (place_of wish) s va o.hangs is-about.0 o.within inside.2 in
          let path : table_on l words (place_of wish) va (start_level l (place_of wish) - level) ≡ Some t = subst (λ p. table_on l words p va (start_level l p - level) ≡ Some t) same-place o.on in
          let low : level ≤ start_level l (place_of wish) = subst (λ p. level ≤ start_level l p) same-place o.low in
          let back : start_level l (place_of wish) - (start_level l (place_of wish) - level) ≡ level = omega arith in
          let leaf-points : pointed (word_at words va (start_level l (place_of wish) - (start_level l (place_of wish) - level)) t) ≡ None =
          ap (λ k. pointed (word_at words va k t)) back ∙ ap pointed o.word ∙ ap pointed_kind o.kind
          in
          let word-points : pointed (word_at words va (start_level l (place_of wish) - acc.depth) store.ppn) ≡ None =
          ap (λ k. pointed (word_at words va k store.ppn)) at-level ∙ ap (λ i. pointed (words store.ppn i)) (sym inside.1) ∙ ap pointed acc.word ∙ leaf-store.was
          in
          elim (cases_order acc.depth (start_level l (place_of wish) - level)) [
            | inl same ↦
                let table : store.ppn ≡ t = some-same _ _ (sym inside.0 ∙ ap (table_on l words (place_of wish) va) same ∙ path) in
                let at : level ≡ level_of (page_of wish).size = omega (arith, acc.deep) in
                (table, inside.1 ∙ ap (vpn_of va) (sym at))
            | inr apart ↦ elim apart [
              | inl less ↦
                  absurd (ends words va (start_level l (place_of wish)) (start_table l (place_of wish) va) (start_level l (place_of wish) - level) acc.depth store.ppn t less inside.0 word-points path)
              | inr more ↦
                  absurd (ends words va (start_level l (place_of wish)) (start_table l (place_of wish) va) acc.depth (start_level l (place_of wish) - level) t store.ppn more path leaf-points inside.0)
            ]
          ]

      -- the leaf in that word, for an address of the page
      leaf-here : (s va number entry leaf : ℕ) (flags : PteFlags) → page_number va ≡ number → IsAbout (place_of wish) (page_of wish) s number
          → entry ≡ store.word → kind_of entry ≡ kinds.Leaf leaf flags → LeafOn l (words_after_store words store) s va (level_of (page_of wish).size) store.ppn entry leaf flags
      leaf-here s va number entry leaf flags of-page is-about is kind =
          let inside = same-path-in s va number of-page is-about.1 in
          let depth : acc.depth ≡ start_level l (place_of wish) - level_of (page_of wish).size = omega (arith, acc.deep) in
          record {
            place = place_of wish;
            hangs = is-about.0;
            has = has;
            within = inside.2;
            low = omega (arith, acc.deep);
            on = same-tables (place_of wish) va (start_level l (place_of wish) - level_of (page_of wish).size) ∙ ap (table_on l words (place_of wish) va) (sym depth) ∙ inside.0;
            word = stored-here words store.ppn store.index store.word store.ppn (vpn_of va (level_of (page_of wish).size)) refl inside.1 ∙ ap Some (sym is);
            kind = kind;
          }

      -- the entry of a new leaf in that word
      entry-here : (s va level t entry leaf : ℕ) (flags : PteFlags) → LeafOn l (words_after_store words store) s va level t entry leaf flags → store.ppn ≡ t → store.index ≡ vpn_of va level → entry ≡ store.word
      entry-here s va level t entry leaf flags o same-table same-index =
          some-same _ _ (sym o.word ∙ stored-here words store.ppn store.index store.word t (vpn_of va level) same-table same-index)

      -- the entry of an old leaf in that word
      entry-was : (s va level t entry leaf : ℕ) (flags : PteFlags) → LeafOn l words s va level t entry leaf flags → store.ppn ≡ t → store.index ≡ vpn_of va level → entry ≡ acc.old
      entry-was s va level t entry leaf flags o same-table same-index =
          some-same _ _ (sym o.word ∙ ap (λ u. word_at words va level u) (sym same-table) ∙ ap (words store.ppn) (sym same-index) ∙ acc.word)

      on-old : (s va level t entry leaf : ℕ) (flags : PteFlags) (o : LeafOn l (words_after_store words store) s va level t entry leaf flags) → table_on l words o.place va (start_level l o.place - level) ≡ Some t
      on-old s va level t entry leaf flags o = sym (same-tables o.place va (start_level l o.place - level)) ∙ o.on

      -- a leaf in place of 0
      pub adds-page : (first : ℕ) (fl : PteFlags) → acc.old ≡ 0 → kind_of store.word ≡ kinds.Leaf first (seven fl) → first % level_pages (level_of (page_of wish).size) ≡ 0
          → AddsPage l (place_of wish) (page_of wish) first fl words (words_after_store words store)
      unfolding new-old old-new leaf-here
      adds-page first fl zero-old kind aligned s number ppn f global root = (forward, backward)
        where
          forward : Maps l.scheme (words_after_store words store) (root_ppn l s) number ppn f global
              → Maps l.scheme words (root_ppn l s) number ppn f global
              ⊎ (IsAbout (place_of wish) (page_of wish) s number × (ppn ≡ first + (number - page_number (page_of wish).base)) × (f ≡ seven fl) × (global ≡ is_kernel (place_of wish)))
          forward mapped =
              let m = member-of l fits (words_after_store words store) (holders_after holders (place_of wish) store) new-tree s number ppn f global root mapped in
              elim (is-word store.ppn store.index m.table (vpn_of m.va m.level)) [
                | inl same ↦
                    let is-about = about s m.va m.level m.table number m.on.place m.on.hangs m.on.has m.on.within m.on.low (on-old s m.va m.level m.table m.entry m.leaf f m.on) m.canonical m.of_page same.0 same.1 in
                    let is = entry-here s m.va m.level m.table m.entry m.leaf f m.on same.0 same.1 in
                    let kinds-same : kinds.Leaf m.leaf f ≡ kinds.Leaf first (seven fl) = sym m.on.kind ∙ ap kind_of is ∙ kind in
                    let leaves : m.leaf ≡ first = cc in
                    let flags-same : f ≡ seven fl = cc in
                    let part : number % level_pages m.level ≡ number - page_number (page_of wish).base =
                    ap (λ k. number % level_pages k) is-about.1 ∙ place-of-part (page_of wish).base (page_of wish).size number is-page.aligned is-about.0.1
                    in
                    inr (is-about.0, m.place ∙ ap (λ n. n + number % level_pages m.level) leaves ∙ ap (λ n. first + n) part, flags-same, m.reach ∙ ap is_kernel is-about.2)
                | inr apart ↦
                    inl (maps-of l fits words holders tree s number ppn f global root (moved l (words_after_store words store) words s number ppn f global m (new-old s m.va m.level m.table m.entry m.leaf f apart m.on) refl))
              ]

          backward : Maps l.scheme words (root_ppn l s) number ppn f global
              ⊎ (IsAbout (place_of wish) (page_of wish) s number × (ppn ≡ first + (number - page_number (page_of wish).base)) × (f ≡ seven fl) × (global ≡ is_kernel (place_of wish)))
              → Maps l.scheme (words_after_store words store) (root_ppn l s) number ppn f global
          backward (inl mapped) =
              let m = member-of l fits words holders tree s number ppn f global root mapped in
              let apart : store.ppn ≡ m.table → store.index ≡ vpn_of m.va m.level → ⊥ = λ p q.
              let is = entry-was s m.va m.level m.table m.entry m.leaf f m.on p q in
              let bad : kinds.Leaf m.leaf f ≡ kinds.Invalid = sym m.on.kind ∙ ap kind_of (is ∙ zero-old) ∙ kind-zero in
              cc
              in
              maps-of l fits (words_after_store words store) (holders_after holders (place_of wish) store) new-tree s number ppn f global root (moved l words (words_after_store words store) s number ppn f global m (old-new s m.va m.level m.table m.entry m.leaf f apart m.on) refl)
          backward (inr new) =
              let part = place-of-part (page_of wish).base (page_of wish).size number is-page.aligned new.0.1 in
              maps-of l fits (words_after_store words store) (holders_after holders (place_of wish) store) new-tree s number ppn f global root (record {
                va = number * 4096;
                level = level_of (page_of wish).size;
                table = store.ppn;
                entry = store.word;
                leaf = first;
                canonical = canonical-part l.scheme (page_of wish).base (page_of wish).size number is-page.level is-page.canonical is-page.aligned new.0.1;
                of_page = number-part number;
                on = leaf-here s (number * 4096) number store.word first f (number-part number) new.0 refl (kind ∙ ap (kinds.Leaf first) (sym new.2));
                aligned = aligned;
                place = new.1 ∙ ap (λ n. first + n) (sym part);
                reach = new.3;
              })

      -- 0 in place of a leaf
      pub removes-page : store.word ≡ 0 → RemovesPage l (place_of wish) (page_of wish) words (words_after_store words store)
      unfolding new-old old-new
      removes-page zero-new s number ppn f global root = (forward, backward)
        where
          forward : Maps l.scheme (words_after_store words store) (root_ppn l s) number ppn f global → Maps l.scheme words (root_ppn l s) number ppn f global × (IsAbout (place_of wish) (page_of wish) s number → ⊥)
          forward mapped =
              let m = member-of l fits (words_after_store words store) (holders_after holders (place_of wish) store) new-tree s number ppn f global root mapped in
              let apart : store.ppn ≡ m.table → store.index ≡ vpn_of m.va m.level → ⊥ = λ p q.
              let is = entry-here s m.va m.level m.table m.entry m.leaf f m.on p q in
              let bad : kinds.Leaf m.leaf f ≡ kinds.Invalid = sym m.on.kind ∙ ap kind_of (is ∙ zero-new) ∙ kind-zero in
              cc
              in
              let old = new-old s m.va m.level m.table m.entry m.leaf f apart m.on in (
                maps-of l fits words holders tree s number ppn f global root (moved l (words_after_store words store) words s number ppn f global m old refl),
                (λ is-about. let same = the-word s m.va m.level m.table m.entry m.leaf number f old m.of_page is-about in apart same.0 same.1),
              )

          backward : Maps l.scheme words (root_ppn l s) number ppn f global × (IsAbout (place_of wish) (page_of wish) s number → ⊥) → Maps l.scheme (words_after_store words store) (root_ppn l s) number ppn f global
          backward (mapped, not-about) =
              let m = member-of l fits words holders tree s number ppn f global root mapped in
              let apart : store.ppn ≡ m.table → store.index ≡ vpn_of m.va m.level → ⊥ = λ p q.
              not-about (about s m.va m.level m.table number m.on.place m.on.hangs m.on.has m.on.within m.on.low m.on.on m.canonical m.of_page p q).0
              in
              maps-of l fits (words_after_store words store) (holders_after holders (place_of wish) store) new-tree s number ppn f global root (moved l words (words_after_store words store) s number ppn f global m (old-new s m.va m.level m.table m.entry m.leaf f apart m.on) refl)

      -- a leaf with other flags in place of a leaf
      pub changes-flags : (q : ℕ) (was fl : PteFlags) → kind_of acc.old ≡ kinds.Leaf q was → kind_of store.word ≡ kinds.Leaf q (seven fl)
          → ChangesFlags l (place_of wish) (page_of wish) fl words (words_after_store words store)
      unfolding new-old old-new leaf-here
      changes-flags q was fl kind-was kind s number ppn f global root = (forward, backward)
        where
          forward : Maps l.scheme (words_after_store words store) (root_ppn l s) number ppn f global
              → (Maps l.scheme words (root_ppn l s) number ppn f global × (IsAbout (place_of wish) (page_of wish) s number → ⊥))
              ⊎ (IsAbout (place_of wish) (page_of wish) s number × (f ≡ seven fl) × ((w : PteFlags) × Maps l.scheme words (root_ppn l s) number ppn w global))
          forward mapped =
              let m = member-of l fits (words_after_store words store) (holders_after holders (place_of wish) store) new-tree s number ppn f global root mapped in
              elim (is-word store.ppn store.index m.table (vpn_of m.va m.level)) [
                | inl same ↦
                    let path = on-old s m.va m.level m.table m.entry m.leaf f m.on in
                    let is-about = about s m.va m.level m.table number m.on.place m.on.hangs m.on.has m.on.within m.on.low path m.canonical m.of_page same.0 same.1 in
                    let is = entry-here s m.va m.level m.table m.entry m.leaf f m.on same.0 same.1 in
                    let kinds-same : kinds.Leaf m.leaf f ≡ kinds.Leaf q (seven fl) = sym m.on.kind ∙ ap kind_of is ∙ kind in
                    let leaves : m.leaf ≡ q = cc in
                    let flags-same : f ≡ seven fl = cc in
                    let word : word_at words m.va m.level m.table ≡ Some acc.old =
                    ap (λ u. word_at words m.va m.level u) (sym same.0) ∙ ap (words store.ppn) (sym same.1) ∙ acc.word
                    in
                    let old : LeafOn l words s m.va m.level m.table acc.old m.leaf was =
                    record {
                      place = m.on.place;
                      hangs = m.on.hangs;
                      has = m.on.has;
                      within = m.on.within;
                      low = m.on.low;
                      on = path;
                      word = word;
                      kind = kind-was ∙ ap (λ n. kinds.Leaf n was) (sym leaves);
                    }
                    in
                    inr (
                      is-about.0,
                      flags-same,
                      (
                        was,
                        maps-of l fits words holders tree s number ppn was global root (record {
                          va = m.va;
                          level = m.level;
                          table = m.table;
                          entry = acc.old;
                          leaf = m.leaf;
                          canonical = m.canonical;
                          of_page = m.of_page;
                          on = old;
                          aligned = m.aligned;
                          place = m.place;
                          reach = m.reach;
                        }),
                      ),
                    )
                | inr apart ↦
                    let old = new-old s m.va m.level m.table m.entry m.leaf f apart m.on in
                    inl (
                      maps-of l fits words holders tree s number ppn f global root (moved l (words_after_store words store) words s number ppn f global m old refl),
                      (λ is-about. let same = the-word s m.va m.level m.table m.entry m.leaf number f old m.of_page is-about in apart same.0 same.1),
                    )
              ]

          backward : (Maps l.scheme words (root_ppn l s) number ppn f global × (IsAbout (place_of wish) (page_of wish) s number → ⊥))
              ⊎ (IsAbout (place_of wish) (page_of wish) s number × (f ≡ seven fl) × ((w : PteFlags) × Maps l.scheme words (root_ppn l s) number ppn w global))
              → Maps l.scheme (words_after_store words store) (root_ppn l s) number ppn f global
          backward (inl (mapped, not-about)) =
              let m = member-of l fits words holders tree s number ppn f global root mapped in
              let apart : store.ppn ≡ m.table → store.index ≡ vpn_of m.va m.level → ⊥ = λ p q.
              not-about (about s m.va m.level m.table number m.on.place m.on.hangs m.on.has m.on.within m.on.low m.on.on m.canonical m.of_page p q).0
              in
              maps-of l fits (words_after_store words store) (holders_after holders (place_of wish) store) new-tree s number ppn f global root (moved l words (words_after_store words store) s number ppn f global m (old-new s m.va m.level m.table m.entry m.leaf f apart m.on) refl)
          backward (inr (is-about, flags-same, mapped)) =
              let m = member-of l fits words holders tree s number ppn mapped.0 global root mapped.1 in
              let same = the-word s m.va m.level m.table m.entry m.leaf number mapped.0 m.on m.of_page is-about in
              let here = about s m.va m.level m.table number m.on.place m.on.hangs m.on.has m.on.within m.on.low m.on.on m.canonical m.of_page same.0 same.1 in
              let is = entry-was s m.va m.level m.table m.entry m.leaf mapped.0 m.on same.0 same.1 in
              let kinds-same : kinds.Leaf m.leaf mapped.0 ≡ kinds.Leaf q was = sym m.on.kind ∙ ap kind_of is ∙ kind-was in
              let leaves : m.leaf ≡ q = cc in
              let kind-new : kind_of store.word ≡ kinds.Leaf m.leaf f = kind ∙ ap (λ n. kinds.Leaf n (seven fl)) (sym leaves) ∙ ap (kinds.Leaf m.leaf) (sym flags-same) in
              maps-of l fits (words_after_store words store) (holders_after holders (place_of wish) store) new-tree s number ppn f global root (record {
                va = m.va;
                level = level_of (page_of wish).size;
                table = store.ppn;
                entry = store.word;
                leaf = m.leaf;
                canonical = m.canonical;
                of_page = m.of_page;
                on = leaf-here s m.va number store.word m.leaf f m.of_page is-about refl kind-new;
                aligned = ap (λ k. m.leaf % level_pages k) (sym here.1) ∙ m.aligned;
                place = m.place ∙ ap (λ k. m.leaf + number % level_pages k) here.1;
                reach = m.reach ∙ ap is_kernel here.2;
              })

  -- a pointer in place of 0
  pub same-maps : IsPointerStore l (home_of l (place_of wish)) holders (start_level l (place_of wish) - acc.depth) acc.old store.word → SameMaps l words (words_after_store words store)
  same-maps p s number ppn f global root = (forward, backward)
    where
      home-tree : IsHome l words (home_of l (place_of wish)) holders
      home-tree = tree _ (home-there l fits words holders tree (place_of wish) has)

      place-is : IsPlace l words (home_of l (place_of wish)) holders (place_of wish) store.ppn store.index store.word
      place-is = is-place l fits words holders tree wish has store acc (ap (λ w. pointed (Some w)) p.was ∙ pointed-zero) p.entry

      up : (place : Place) (va n : ℕ) → HasPlace l place → home_of l place ≡ home_of l (place_of wish) → IsIn l place va → table_on l words place va n ≡ Some store.ppn
          → vpn_of va (start_level l place - n) ≡ store.index → n < start_level l place
      up = high l fits words holders tree wish has store acc p.high

      forward : Maps l.scheme (words_after_store words store) (root_ppn l s) number ppn f global → Maps l.scheme words (root_ppn l s) number ppn f global
      forward mapped =
          let m = member-of l fits (words_after_store words store) (holders_after holders (place_of wish) store) new-tree s number ppn f global root mapped in
          elim (table_on-pointer l fits words _ _ home-tree (place_of wish) store.ppn store.index store.word place-is p.frame p.room p.now up m.on.place m.va (start_level l m.on.place - m.level) m.table m.on.on) [
            | inr fresh ↦
                let empty : Some m.entry ≡ Some 0 =
                sym m.on.word ∙ ap (λ u. word_at (words_after_store words store) m.va m.level u) fresh
                ∙ fresh-empty l fits words _ _ home-tree (place_of wish) store.ppn store.index store.word place-is p.frame p.room p.now up (vpn_of m.va m.level) (vpn-below m.va m.level)
                in
                absurd (let bad : kinds.Leaf m.leaf f ≡ kinds.Invalid = sym m.on.kind ∙ ap kind_of (some-same _ _ empty) ∙ kind-zero in cc)
            | inl old-path ↦
                let apart : store.ppn ≡ m.table → store.index ≡ vpn_of m.va m.level → ⊥ = λ a b.
                let is : Some m.entry ≡ Some store.word = sym m.on.word ∙ stored-here words store.ppn store.index store.word m.table (vpn_of m.va m.level) a b in
                let bad : None ≡ Some p.frame = ap pointed_kind (sym m.on.kind) ∙ ap pointed is ∙ p.now in
                cc
                in
                maps-of l fits words holders tree s number ppn f global root (moved l (words_after_store words store) words s number ppn f global m (record {
                  place = m.on.place;
                  hangs = m.on.hangs;
                  has = m.on.has;
                  within = m.on.within;
                  low = m.on.low;
                  on = old-path;
                  word = sym (stored-there words store.ppn store.index store.word m.table (vpn_of m.va m.level) apart) ∙ m.on.word;
                  kind = m.on.kind;
                }) refl)
          ]

      backward : Maps l.scheme words (root_ppn l s) number ppn f global → Maps l.scheme (words_after_store words store) (root_ppn l s) number ppn f global
      backward mapped =
          let m = member-of l fits words holders tree s number ppn f global root mapped in
          let apart : store.ppn ≡ m.table → store.index ≡ vpn_of m.va m.level → ⊥ = λ a b.
          let is : Some m.entry ≡ Some acc.old = sym m.on.word ∙ ap (λ u. word_at words m.va m.level u) (sym a) ∙ ap (words store.ppn) (sym b) ∙ acc.word in
          let bad : kinds.Leaf m.leaf f ≡ kinds.Invalid = sym m.on.kind ∙ ap kind_of (some-same _ _ is ∙ p.was) ∙ kind-zero in
          cc
          in
          maps-of l fits (words_after_store words store) (holders_after holders (place_of wish) store) new-tree s number ppn f global root (moved l words (words_after_store words store) s number ppn f global m (record {
            place = m.on.place;
            hangs = m.on.hangs;
            has = m.on.has;
            within = m.on.within;
            low = m.on.low;
            on = table_on-kept l fits words _ _ home-tree (place_of wish) store.ppn store.index store.word place-is p.frame p.room p.now up m.on.place m.va (start_level l m.on.place - m.level) m.table m.on.on;
            word = stored-there words store.ppn store.index store.word m.table (vpn_of m.va m.level) apart ∙ m.on.word;
            kind = m.on.kind;
          }) refl)
