-- What an unmapping or a change of flags makes stale: what is held of the leaf that it changes.
use Rattle.std.proofs.Common.{◌≡◌, ℕ, ◌+◌, ◌*◌, ◌-◌, ◌%◌, ◌<◌, ◌≤◌, Bool, true, List, ◌∷◌, length, Option, Some, None, refl, ap, sym, ◌∙◌, subst, ◌⊎◌, inl, inr, arith}
use Rattle.std.specs.Prelude.{◌↔◌, is_none}
use Rattle.std.proofs.lemmas.Bool.{cases_lt, cases_order, false≢true}
use Rattle.pte.specs.Address.{Span, IsPage, bytes_of, level_of, pages_of}
use Rattle.pte.specs.declared.address.PageSize.TheVariants.{Kib4}
use Rattle.pte.specs.declared.flags.PteFlags.{PteFlags}
use Rattle.pte.specs.declared.entry.Kind.{Kind}
use Rattle.pte.specs.declared.entry.Kind.TheVariants as kinds
use Rattle.pte.specs.Entry.{kind_of}
use Rattle.walk.specs.Leads.{Tables}
use Rattle.walk.specs.Maps.{Maps, LiesIn}
use Rattle.walk.proofs.FoundMembers.{leaf-ppn}
use Rattle.spaces.specs.declared.places.Place.{Place}
use Rattle.spaces.specs.declared.places.Place.TheVariants.{Space, Kernel}
use Rattle.spaces.specs.declared.wishes.Wish.{Wish}
use Rattle.spaces.specs.declared.wishes.Wish.TheVariants as wish
use Rattle.spaces.specs.Layout.{Layout, root_ppn}
use Rattle.spaces.specs.Edits.{is_kernel, page_of, place_of}
use Rattle.spaces.specs.Accepted.{Accepted, Writes, adds_table, adds_leaf, removes_leaf, changes_leaf}
use Rattle.spaces.specs.Applied.{seven}
use Rattle.spaces.specs.Effects.{HangsBelow, IsAbout, IsEdit, RemovesPage, ChangesFlags}
use Rattle.spaces.specs.Holders.{unused_spare}
use Rattle.spaces.specs.Tree.{start_level}
use Rattle.spaces.proofs.EditLaws.{edit-accepted}
use Rattle.spaces.proofs.EntryWords.{kind-stored}
use Rattle.spaces.proofs.Trees.{kind-zero}
use Rattle.tlb.specs.declared.store.Entry.{Entry}
use Rattle.tlb.specs.Mappings.{Mapping, IsMappedBy}
use Rattle.history.specs.Setup.{Setup}
use Rattle.history.specs.Turns.{Turn, History}
use Rattle.history.specs.Tables.{words_of}
use Rattle.history.specs.Spaces.{asid_in, asid_of, holder_of}
use Rattle.history.specs.Harts.{entries_of}
use Rattle.history.specs.Due.{is_place, Lawful}
use Rattle.history.specs.Staleness.{HasAsid, Reaches, IsMappedNow}
use Rattle.laws.specs.Kept.{HavePages, IsSetup}
use Rattle.laws.proofs.Accepted.{EditFound, space_is}
use Rattle.laws.proofs.Asids.{asids_differ}
use Rattle.laws.proofs.TreeKept.{tree, is_edit as edit_is}
use Rattle.stale.specs.Stale.{BecomesStale}
use Rattle.stale.proofs.NoEdit.{reach_there}
use Rattle.stale.proofs.UnderLeaf.{by_leaf, leaf_maps}

-- ---- decisions

same_nat : (a b : ℕ) → (a ≡ b) ⊎ (a ≡ b → ⊥)
same_nat a b = elim (cases_order a b) [
  | inl same ↦ inl same
  | inr apart ↦ elim apart [ inl less ↦ inr (λ e. omega (arith, less, e)) | inr more ↦ inr (λ e. omega (arith, more, e)) ]
]

same_option : (a b : Option ℕ) → (a ≡ b) ⊎ (a ≡ b → ⊥)
same_option None None = inl refl
same_option None (Some b) = inr (λ e. cc)
same_option (Some a) None = inr (λ e. cc)
same_option (Some a) (Some b) = elim (same_nat a b) [ inl e ↦ inl (ap Some e) | inr not_so ↦ inr (λ e. not_so (cc)) ]

flags_with : ℕ → PteFlags
flags_with n = record { 0 = n }

same_flags : (a b : PteFlags) → (a ≡ b) ⊎ (a ≡ b → ⊥)
unfolding flags_with
same_flags a b = elim (same_nat a.0 b.0) [ inl e ↦ inl (ap flags_with e) | inr not_so ↦ inr (λ e. not_so (ap (λ (f : PteFlags). f.0) e)) ]

both : (P Q : Type 0) → P ⊎ (P → ⊥) → Q ⊎ (Q → ⊥) → (P × Q) ⊎ (P × Q → ⊥)
both P Q (inl p) (inl q) = inl (p, q)
both P Q (inl p) (inr not_so) = inr (λ e. not_so e.1)
both P Q (inr not_so) _ = inr (λ e. not_so e.0)

at_most : (a b : ℕ) → (a ≤ b) ⊎ (a ≤ b → ⊥)
at_most a b = elim (cases_lt b a) [ inl less ↦ inr (λ e. omega (arith, less, e)) | inr from ↦ inl from ]

lies : (page : Span) (n : ℕ) → LiesIn page n ⊎ (LiesIn page n → ⊥)
lies page n = elim (both (page.base ≤ n * bytes_of Kib4) ((n + 1) * bytes_of Kib4 ≤ page.base + bytes_of page.size) (at_most page.base (n * bytes_of Kib4)) (at_most ((n + 1) * bytes_of Kib4) (page.base + bytes_of page.size))) [
  | inl e ↦ inl (record { from = e.0; to = e.1 })
  | inr not_so ↦ inr (λ e. not_so (e.from, e.to))
]

hangs : (place : Place) (s : ℕ) → HangsBelow place s ⊎ (HangsBelow place s → ⊥)
hangs (Space u) s = same_nat u s
hangs Kernel s = inl tt

about : (place : Place) (page : Span) (s n : ℕ) → IsAbout place page s n ⊎ (IsAbout place page s n → ⊥)
about place page s n = both (HangsBelow place s) (LiesIn page n) (hangs place s) (lies page n)

-- ---- what an edit writes on a leaf

abbrev pub IsOnLeaf : Wish → Type 0
IsOnLeaf (wish.Map place page ppn flags) = ⊥
IsOnLeaf (wish.Unmap place page) = Unit {0}
IsOnLeaf (wish.Protect place page flags) = Unit {0}

abbrev pub kind_after : Wish → ℕ → Kind
kind_after (wish.Map place page ppn flags) q = kinds.Invalid
kind_after (wish.Unmap place page) q = kinds.Invalid
kind_after (wish.Protect place page flags) q = kinds.Leaf q (seven flags)

pub record WritesLeaf (level old : ℕ) (w : Wish) (new : ℕ) : Type 0 where
  pub q : ℕ
  pub f : PteFlags
  pub at : level ≡ level_of (page_of w).size
  pub kind : kind_of old ≡ kinds.Leaf q f
  pub then_ : kind_of new ≡ kind_after w q

writes_leaf : (spare : Option ℕ) (level old : ℕ) (w : Wish) (new : ℕ) → Writes spare level old w new → IsOnLeaf w → WritesLeaf level old w new
writes_leaf spare level old w new (adds_table place page ppn flags frame above zero-word some) on = absurd on
writes_leaf spare level old w new (adds_leaf place page ppn flags at zero-word ok fit aligned) on = absurd on
writes_leaf spare level old w new (removes_leaf place page q f at kind) on = record { q = q; f = f; at = at; kind = kind; then_ = kind-zero }
writes_leaf spare level old w new (changes_leaf place page flags q f at kind ok) on =
    record { q = q; f = f; at = at; kind = kind; then_ = kind-stored q flags (leaf-ppn old q f kind) ok.byte ok.leaf }

-- what it does to what is mapped: nothing elsewhere, and in its page nothing stays that the leaf
-- mapped, or all
pub record EditDoes (l : Layout) (place : Place) (page : Span) (q : ℕ) (f : PteFlags) (word : ℕ) (old new : Tables) : Type 0 where
  pub kept : (s n ppn : ℕ) (flags : PteFlags) (g : Bool) → s < length l.homes → (IsAbout place page s n → ⊥)
      → Maps l.scheme old (root_ppn l s) n ppn flags g → Maps l.scheme new (root_ppn l s) n ppn flags g
  pub gone : (kind_of word ≡ kinds.Leaf q f → ⊥) → (s n ppn : ℕ) (g : Bool) → s < length l.homes → IsAbout place page s n → Maps l.scheme new (root_ppn l s) n ppn f g → ⊥
  pub either : (kind_of word ≡ kinds.Leaf q f → ⊥)
      ⊎ (((kind_of word ≡ kinds.Leaf q f → ⊥) → ⊥)
      × ((s n ppn : ℕ) (g : Bool) → s < length l.homes → IsAbout place page s n → Maps l.scheme old (root_ppn l s) n ppn f g → Maps l.scheme new (root_ppn l s) n ppn f g))

pub unmap_does : (l : Layout) (place : Place) (page : Span) (q : ℕ) (f : PteFlags) (word : ℕ) (old new : Tables) → kind_of word ≡ kinds.Invalid → RemovesPage l place page old new
    → EditDoes l place page q f word old new
unmap_does l place page q f word old new kind does =
    let other : kind_of word ≡ kinds.Leaf q f → ⊥ = λ e. (let bad : kinds.Invalid ≡ kinds.Leaf q f = sym kind ∙ e in cc) in
    record {
      kept = λ s n ppn flags g there not_about maps. (does s n ppn flags g there).1 (maps, not_about);
      gone = λ _ s n ppn g there is_about maps. ((does s n ppn f g there).0 maps).1 is_about;
      either = inl other;
    }

pub protect_does : (l : Layout) (place : Place) (page : Span) (q : ℕ) (f fl : PteFlags) (word : ℕ) (old new : Tables) → kind_of word ≡ kinds.Leaf q (seven fl) → ChangesFlags l place page fl old new
    → EditDoes l place page q f word old new
protect_does l place page q f fl word old new kind does = record {
  kept = λ s n ppn flags g there not_about maps. (does s n ppn flags g there).1 (inl (maps, not_about));
  gone = λ other s n ppn g there is_about maps. elim ((does s n ppn f g there).0 maps) [
    | inl was ↦ was.1 is_about
    | inr new_ ↦ other (kind ∙ ap (kinds.Leaf q) (sym new_.1))
  ];
  either = elim (same_flags f (seven fl)) [
    | inl same ↦ inr (
      (λ other. other (kind ∙ ap (kinds.Leaf q) (sym same))),
      (λ s n ppn g there is_about maps. (does s n ppn f g there).1 (inr (is_about, same, (f, maps)))),
    )
    | inr not_so ↦ inl (λ e. let both_ : kinds.Leaf q (seven fl) ≡ kinds.Leaf q f = sym kind ∙ e in not_so (cc))
  ];
}

-- ---- mappings

-- the ASID of the mappings that an edit is about
asid_about : (C : Setup) (H : History) (place : Place) (of : Option ℕ) (s : ℕ) → HangsBelow place s → Reaches C H of s → is_none of ≡ is_kernel place → of ≡ asid_in C H place
asid_about C H (Space u) (Some a) s below reach g = ap Some (sym (ap (asid_of C H) below ∙ reach.same))
asid_about C H (Space u) None s below reach g = absurd (false≢true (sym g))
asid_about C H Kernel (Some a) s below reach g = absurd (false≢true g)
asid_about C H Kernel None s below reach g = refl

kernel_if : (C : Setup) (H : History) (place : Place) (of : Option ℕ) → of ≡ asid_in C H place → is_none of ≡ is_kernel place
kernel_if C H (Space u) of e = ap is_none e
kernel_if C H Kernel of e = ap is_none e

module _ (C : Setup) (setup : IsSetup C) (H : History) (l : Lawful C H) (pages : HavePages H) where
  hangs_by : (place : Place) → is_place C H place ≡ true → (of : Option ℕ) → of ≡ asid_in C H place → (s : ℕ) → Reaches C H of s → HangsBelow place s
  hangs_by Kernel is of e s reach = tt
  hangs_by (Space u) is of e s reach =
      let has : HasAsid C H s (asid_of C H u) = subst (λ (o : Option ℕ). Reaches C H o s) e reach in
      let live = space_is C H u is in
      asids_differ C setup H l u s live.0 has.there live.1 has.kept (sym has.same)

  some_of : (place : Place) → is_place C H place ≡ true → (s : ℕ) × Reaches C H (asid_in C H place) s
  some_of (Space u) is = let live = space_is C H u is in (u, record { there = live.0; kept = live.1; same = refl })
  some_of Kernel is = (0, setup.asids.some_space)

  module _ (hart : ℕ) (w : Wish) (found : EditFound C H hart w) (is_page : IsPage (page_of w)) (on : IsOnLeaf w) where
    pub edit : IsEdit C.layout (words_of C H) (holder_of H) hart w found.store
    edit = edit_is C H hart w found.store setup.layout setup.homes (tree C setup.layout setup.homes H l pages) found.there is_page found.is

    pub acc : Accepted C.layout (words_of C H) (unused_spare C.layout (holder_of H) hart) hart w found.store
    acc = edit-accepted C.layout (words_of C H) (holder_of H) hart w found.store edit

    pub leaf : WritesLeaf (start_level C.layout (place_of w) - acc.depth) acc.old w found.store.word
    leaf = writes_leaf (unused_spare C.layout (holder_of H) hart) (start_level C.layout (place_of w) - acc.depth) acc.old w found.store.word acc.writes on

    -- the mapping is one of the leaf, which maps the page and is changed
    pub record LeafOf (m : Mapping) : Type 0 where
      pub asid : m.asid ≡ asid_in C H (place_of w)
      pub page : LiesIn (page_of w) m.page
      pub ppn : m.ppn ≡ leaf.q + m.page % pages_of (page_of w).size
      pub flags : m.flags ≡ leaf.f
      pub aligned : leaf.q % pages_of (page_of w).size ≡ 0
      pub other : kind_of found.store.word ≡ kinds.Leaf leaf.q leaf.f → ⊥

    module _ (turn : Turn) (same_entries : (h : ℕ) → entries_of C (turn ∷ H) h ≡ entries_of C H h) (same_reach : (of : Option ℕ) (s : ℕ) → Reaches C H of s ↔ Reaches C (turn ∷ H) of s)
        (does : EditDoes C.layout (place_of w) (page_of w) leaf.q leaf.f found.store.word (words_of C H) (words_of C (turn ∷ H))) where
      decide : (m : Mapping) → LeafOf m ⊎ (LeafOf m → ⊥)
      decide m =
          elim (both (m.asid ≡ asid_in C H (place_of w)) (LiesIn (page_of w) m.page) (same_option m.asid (asid_in C H (place_of w))) (lies (page_of w) m.page)) [
            | inr not_so ↦ inr (λ e. not_so (e.asid, e.page))
            | inl a ↦ elim (both (m.ppn ≡ leaf.q + m.page % pages_of (page_of w).size) (m.flags ≡ leaf.f) (same_nat m.ppn (leaf.q + m.page % pages_of (page_of w).size)) (same_flags m.flags leaf.f)) [
              | inr not_so ↦ inr (λ e. not_so (e.ppn, e.flags))
              | inl b ↦ elim (same_nat (leaf.q % pages_of (page_of w).size) 0) [
                | inr not_so ↦ inr (λ e. not_so e.aligned)
                | inl c ↦ elim does.either [
                  | inl other ↦ inl (record { asid = a.0; page = a.1; ppn = b.0; flags = b.1; aligned = c; other = other })
                  | inr same ↦ inr (λ e. same.0 e.other)
                ]
              ]
            ]
          ]

      -- what is mapped in the page of the edit is of the leaf
      of_leaf : (m : Mapping) (s : ℕ) → s < length C.layout.homes → Reaches C H m.asid s → IsAbout (place_of w) (page_of w) s m.page
          → Maps C.layout.scheme (words_of C H) (root_ppn C.layout s) m.page m.ppn m.flags (is_none m.asid) → (kind_of found.store.word ≡ kinds.Leaf leaf.q leaf.f → ⊥) → LeafOf m
      of_leaf m s there reach is_about maps other =
          let by = by_leaf C.layout (words_of C H) (holder_of H) hart w found.store edit acc leaf.q leaf.f leaf.at leaf.kind s m.page m.ppn m.flags (is_none m.asid) there is_about.0 is_about.1 maps in
          record {
            asid = asid_about C H (place_of w) m.asid s is_about.0 reach by.global_is;
            page = is_about.1;
            ppn = by.ppn_is;
            flags = by.flags_are;
            aligned = by.aligned;
            other = other;
          }

      flags_in : (m : Mapping) (s : ℕ) → s < length C.layout.homes → IsAbout (place_of w) (page_of w) s m.page
          → Maps C.layout.scheme (words_of C H) (root_ppn C.layout s) m.page m.ppn m.flags (is_none m.asid) → m.flags ≡ leaf.f
      flags_in m s there is_about maps =
          let by = by_leaf C.layout (words_of C H) (holder_of H) hart w found.store edit acc leaf.q leaf.f leaf.at leaf.kind s m.page m.ppn m.flags (is_none m.asid) there is_about.0 is_about.1 maps in
          by.flags_are

      -- what is not of it stays mapped
      stays : (m : Mapping) → (LeafOf m → ⊥) → IsMappedNow C H (words_of C H) m.asid m → IsMappedNow C (turn ∷ H) (words_of C (turn ∷ H)) m.asid m
      stays m not_so now = record {
        some = (now.some.0, (same_reach m.asid now.some.0).0 now.some.1);
        each = λ s reached.
            let reach = (same_reach m.asid s).1 reached in
            let there = reach_there C setup H m.asid s reach in
            let maps : Maps C.layout.scheme (words_of C H) (root_ppn C.layout s) m.page m.ppn m.flags (is_none m.asid) = now.each s reach in
            elim (about (place_of w) (page_of w) s m.page) [
              | inr not_about ↦ does.kept s m.page m.ppn m.flags (is_none m.asid) there not_about maps
              | inl is_about ↦ elim does.either [
                | inl other ↦ absurd (not_so (of_leaf m s there reach is_about maps other))
                | inr same ↦
                    let flags = flags_in m s there is_about maps in
                    subst (λ (f : PteFlags). Maps C.layout.scheme (words_of C (turn ∷ H)) (root_ppn C.layout s) m.page m.ppn f (is_none m.asid)) (sym flags)
                    (same.1 s m.page m.ppn (is_none m.asid) there is_about
                    (subst (λ (f : PteFlags). Maps C.layout.scheme (words_of C H) (root_ppn C.layout s) m.page m.ppn f (is_none m.asid)) flags maps))
              ]
            ];
      }

      pub becomes_leaf : (h : ℕ) (m : Mapping) → BecomesStale C turn H h m → LeafOf m
      becomes_leaf h m b = elim (decide m) [
        | inl is ↦ is
        | inr not_so ↦ absurd (b.before (record {
          held = subst (λ (es : List Entry). IsMappedBy es m) (same_entries h) b.after.held;
          unmapped = λ now. b.after.unmapped (stays m not_so now);
        }))
      ]

      -- a mapping of the leaf was mapped
      was_mapped : (m : Mapping) → LeafOf m → IsMappedNow C H (words_of C H) m.asid m
      was_mapped m is =
          let some = some_of (place_of w) found.there in
          record {
            some = (some.0, subst (λ (o : Option ℕ). Reaches C H o some.0) (sym is.asid) some.1);
            each = λ s reached.
                let maps = leaf_maps C.layout (words_of C H) (holder_of H) hart w found.store edit acc leaf.q leaf.f leaf.at leaf.kind s m.page (reach_there C setup H m.asid s reached)
                (hangs_by (place_of w) found.there m.asid is.asid s reached) is.page is.aligned
                in
                subst (λ (p : ℕ). Maps C.layout.scheme (words_of C H) (root_ppn C.layout s) m.page p m.flags (is_none m.asid)) (sym is.ppn)
                (subst (λ (f : PteFlags). Maps C.layout.scheme (words_of C H) (root_ppn C.layout s) m.page (leaf.q + m.page % pages_of (page_of w).size) f (is_none m.asid)) (sym is.flags)
                (subst (λ (g : Bool). Maps C.layout.scheme (words_of C H) (root_ppn C.layout s) m.page (leaf.q + m.page % pages_of (page_of w).size) leaf.f g)
                (sym (kernel_if C H (place_of w) m.asid is.asid)) maps));
          }

      pub leaf_becomes : (h : ℕ) (m : Mapping) → IsMappedBy (entries_of C (turn ∷ H) h) m → LeafOf m → BecomesStale C turn H h m
      leaf_becomes h m held is = record {
        after = record {
          held = held;
          unmapped = λ now.
              let s = now.some.0 in
              let reach = (same_reach m.asid s).1 now.some.1 in
              let maps : Maps C.layout.scheme (words_of C (turn ∷ H)) (root_ppn C.layout s) m.page m.ppn m.flags (is_none m.asid) = now.each s now.some.1 in
              does.gone is.other s m.page m.ppn (is_none m.asid) (reach_there C setup H m.asid s reach)
              (hangs_by (place_of w) found.there m.asid is.asid s reach, is.page)
              (subst (λ (f : PteFlags). Maps C.layout.scheme (words_of C (turn ∷ H)) (root_ppn C.layout s) m.page m.ppn f (is_none m.asid)) is.flags maps);
        };
        before = λ stale. stale.unmapped (was_mapped m is);
      }
