-- The leaves that lead from a root, as leaves on the paths of places, and the pages that they map.
use Rattle.pte.specs.declared.scheme.Scheme.{Scheme}
use Rattle.std.proofs.Common.{◌≡◌, ℕ, zero, suc, ◌+◌, ◌-◌, ◌<◌, ◌≤◌, ◌%◌, ◌^◌, Bool, true, false, Option, Some, None, length, ap, sym, ◌∙◌, subst, refl, inl, inr, arith, IsTrue}
use Rattle.std.specs.Prelude.{slice_index, ◌↔◌}
use Rattle.std.proofs.lemmas.Bool.{cases_lt}
use Rattle.pte.specs.declared.flags.PteFlags.{PteFlags}
use Rattle.pte.specs.declared.entry.Kind.TheVariants as kinds
use Rattle.pte.specs.Address.{IsCanonical, top_level, level_pages, vpn_of}
use Rattle.pte.specs.Entry.{kind_of, table_word}
use Rattle.pte.specs.declared.entry.TheConstants.{PPN_BITS}
use Rattle.pte.proofs.EntryKinds.{kind-table}
use Rattle.pte.proofs.Schemes.{levels_two}
use Rattle.walk.specs.Leads.{Tables, word_at, Leads, IsGlobalAt}
use Rattle.walk.specs.Maps.{Maps, page_number}
use Rattle.walk.proofs.Paths.{leads-start}
use Rattle.walk.proofs.Downward.{leads-after, leads_by_pointers}
use Rattle.walk.proofs.Unique.{same_bool}
use Rattle.spaces.specs.declared.places.Place.{Place}
use Rattle.spaces.specs.declared.places.Place.TheVariants.{Space, Kernel}
use Rattle.spaces.specs.Layout.{Layout, HasPlace, home_of, root_ppn, user_slots, first_window_slot}
use Rattle.spaces.specs.Held.{IsLayout}
use Rattle.spaces.specs.Holders.{Holders}
use Rattle.spaces.specs.Edits.{is_kernel}
use Rattle.spaces.specs.Tree.{start_level, start_table, IsIn, table_on, IsHome, IsTree}
use Rattle.walk.specs.Pointers.{pointed, table_below}
use Rattle.spaces.specs.Effects.{HangsBelow}
use Rattle.spaces.proofs.Paths.{above, some-same, vpn-below}
use Rattle.spaces.proofs.Trees.{kind-zero, pointed-zero}
use Rattle.spaces.proofs.EntryWords.{global-table}
use Rattle.spaces.proofs.EndPaths.{table_below-front}
use Rattle.spaces.proofs.Accepting.{home-there, window-points}

module _ (scheme : Scheme) (words : Tables) (root va : ℕ) where
  -- a path of tables leads
  pub leads-path : (n t : ℕ) → n ≤ top_level scheme → table_below words va (top_level scheme) root n ≡ Some t → Leads scheme words root va (top_level scheme - n) t (word_at words va (top_level scheme - n) t)
  leads-path n t deep e = leads-after scheme words root va n (top_level scheme - n) t (omega arith) e

  -- and what leads has a path of tables
  pub path-leads : (i t : ℕ) (w : Option ℕ) → Leads scheme words root va i t w → table_below words va (top_level scheme) root (top_level scheme - i) ≡ Some t
  path-leads i t w p = ((leads_by_pointers scheme words root va i t w).0 p).1

  -- where the first word is no pointer the path has one table
  pub path-none : (n t : ℕ) → pointed (word_at words va (top_level scheme) root) ≡ None → table_below words va (top_level scheme) root n ≡ Some t → n ≡ 0
  path-none zero t e path = refl
  path-none (suc n) t e path =
      let up = above words va (top_level scheme) root n t path in
      let first = path-none n up.table_above e up.on in
      let at : root ≡ up.table_above = some-same _ _ (ap (λ k. table_below words va (top_level scheme) root k) (sym first) ∙ up.on) in
      let level : top_level scheme - n ≡ top_level scheme = omega (arith, first) in
      absurd (let bad : None ≡ Some t = sym e ∙ ap (word-points) at ∙ ap (λ k. pointed (word_at words va k up.table_above)) (sym level) ∙ up.points in cc)
    where
      word-points : ℕ → Option ℕ
      word-points u = pointed (word_at words va (top_level scheme) u)

-- a leaf on the path of a place
pub record LeafOn (l : Layout) (words : Tables) (s va level t entry leaf : ℕ) (flags : PteFlags) : Type 0 where
  pub place : Place
  pub hangs : HangsBelow place s
  pub has : HasPlace l place
  pub within : IsIn l place va
  pub low : level ≤ start_level l place
  pub on : table_on l words place va (start_level l place - level) ≡ Some t
  pub word : word_at words va level t ≡ Some entry
  pub kind : kind_of entry ≡ kinds.Leaf leaf flags

-- it is one in any memory whose tables lead there and whose word is the same
abbrev pub leaf-carried : (l : Layout) (old new : Tables) (s va level t entry leaf : ℕ) (flags : PteFlags) → (o : LeafOn l old s va level t entry leaf flags)
    → table_on l new o.place va (start_level l o.place - level) ≡ table_on l old o.place va (start_level l o.place - level)
    → word_at new va level t ≡ word_at old va level t → LeafOn l new s va level t entry leaf flags
leaf-carried l old new s va level t entry leaf flags o tables word = record {
  place = o.place;
  hangs = o.hangs;
  has = o.has;
  within = o.within;
  low = o.low;
  on = tables ∙ o.on;
  word = word ∙ o.word;
  kind = o.kind;
}

module _ (l : Layout) (fits : IsLayout l) (words : Tables) (holders : Holders) (tree : IsTree l words holders) where
  pub root-home : (s : ℕ) → s < length l.homes → IsHome l words (slice_index l.homes s) holders
  root-home s has = tree (slice_index l.homes s) (fits.homes s 0 has)

  pub window-word : (s va : ℕ) → s < length l.homes → IsIn l Kernel va → word_at words va (top_level l.scheme) (root_ppn l s) ≡ Some (table_word (start_table l Kernel va) true)
  window-word s va has in-window =
      let slot = vpn-below va (top_level l.scheme) in
      let k : vpn_of va (top_level l.scheme) - first_window_slot l < l.window = omega (arith, fits.window) in
      let same : first_window_slot l + (vpn_of va (top_level l.scheme) - first_window_slot l) ≡ vpn_of va (top_level l.scheme) = omega (arith, fits.window) in
      ap (words (root_ppn l s)) (sym same) ∙ (root-home s has).window s (vpn_of va (top_level l.scheme) - first_window_slot l) has refl k

  pub window-fits : (va : ℕ) → IsIn l Kernel va → start_table l Kernel va < 2 ^ PPN_BITS
  window-fits va in-window = let slot = vpn-below va (top_level l.scheme) in omega (arith, fits.ppns_fit, fits.window)

  pub leaf-place : (s va level t entry leaf : ℕ) (flags : PteFlags) → s < length l.homes → Leads l.scheme words (root_ppn l s) va level t (Some entry) → kind_of entry ≡ kinds.Leaf leaf flags
      → LeafOn l words s va level t entry leaf flags
  leaf-place s va level t entry leaf flags has leads kind =
      let path = path-leads l.scheme words (root_ppn l s) va level t (Some entry) leads in
      elim (cases_lt (vpn_of va (top_level l.scheme)) user_slots) [
        | inl user ↦
            record { place = Space s; hangs = refl; has = has; within = user; low = leads.level; on = path; word = sym leads.here; kind = kind }
        | inr upper ↦ elim (cases_lt (vpn_of va (top_level l.scheme)) (first_window_slot l)) [
          | inl outside ↦
              let zero-word : word_at words va (top_level l.scheme) (root_ppn l s) ≡ Some 0 = (root-home s has).upper s (vpn_of va (top_level l.scheme)) has refl upper outside in
              let depth = path-none l.scheme words (root_ppn l s) va (top_level l.scheme - level) t (ap pointed zero-word ∙ pointed-zero) path in
              let at : root_ppn l s ≡ t = some-same _ _ (ap (λ k. table_below words va (top_level l.scheme) (root_ppn l s) k) (sym depth) ∙ path) in
              let top : level ≡ top_level l.scheme = omega (arith, leads.level) in
              let is : Some 0 ≡ Some entry = sym zero-word ∙ ap (word_at words va (top_level l.scheme)) at ∙ ap (λ k. word_at words va k t) (sym top) ∙ sym leads.here in
              absurd (let bad : kinds.Invalid ≡ kinds.Leaf leaf flags = sym kind-zero ∙ ap kind_of (some-same _ _ is) ∙ kind in cc)
          | inr inside ↦ elim (cases_lt level (top_level l.scheme)) [
            | inl lower ↦
                let steps : top_level l.scheme - level ≡ suc (top_level l.scheme - 1 - level) = omega arith in
                record {
                  place = Kernel;
                  hangs = tt;
                  has = tt;
                  within = inside;
                  low = omega arith;
                  on =
                      sym (table_below-front words va (top_level l.scheme) (root_ppn l s) (start_table l Kernel va) (top_level l.scheme - 1 - level) (window-points l fits words holders tree s va has inside))
                      ∙ ap (table_below words va (top_level l.scheme) (root_ppn l s)) (sym steps) ∙ path;
                  word = sym leads.here;
                  kind = kind;
                }
            | inr high ↦
                let top : level ≡ top_level l.scheme = omega (arith, leads.level) in
                let depth : top_level l.scheme - level ≡ 0 = omega arith in
                let at : root_ppn l s ≡ t = some-same _ _ (ap (λ k. table_below words va (top_level l.scheme) (root_ppn l s) k) (sym depth) ∙ path) in
                let is : Some (table_word (start_table l Kernel va) true) ≡ Some entry =
                sym (window-word s va has inside) ∙ ap (word_at words va (top_level l.scheme)) at ∙ ap (λ k. word_at words va k t) (sym top) ∙ sym leads.here
                in
                absurd (let bad : kinds.Table (start_table l Kernel va) true ≡ kinds.Leaf leaf flags = sym (kind-table (start_table l Kernel va) true (window-fits va inside)) ∙ ap kind_of (some-same _ _ is) ∙ kind in cc)
          ]
        ]
      ]

  -- each leaf that leads from a root is aligned
  pub leaf-aligned : (s va level t entry leaf : ℕ) (flags : PteFlags) → s < length l.homes → Leads l.scheme words (root_ppn l s) va level t (Some entry) → kind_of entry ≡ kinds.Leaf leaf flags
      → leaf % level_pages level ≡ 0
  leaf-aligned s va level t entry leaf flags has leads kind =
      let o = leaf-place s va level t entry leaf flags has leads kind in
      let back : start_level l o.place - (start_level l o.place - level) ≡ level = omega (arith, o.low) in
      ap (λ k. leaf % level_pages k) (sym back)
      ∙ (tree (home_of l o.place) (home-there l fits words holders tree o.place o.has)).aligned o.place va (start_level l o.place - level) t entry leaf flags o.has refl o.within (omega arith) o.on
      (ap (λ k. word_at words va k t) back ∙ o.word) kind

  root-path : (s va level t : ℕ) (place : Place) → s < length l.homes → HangsBelow place s → IsIn l place va → level ≤ start_level l place
      → table_on l words place va (start_level l place - level) ≡ Some t → table_below words va (top_level l.scheme) (root_ppn l s) (top_level l.scheme - level) ≡ Some t
  root-path s va level t (Space s') has hangs within low path = ap (λ k. table_below words va (top_level l.scheme) (root_ppn l k) (top_level l.scheme - level)) (sym hangs) ∙ path
  root-path s va level t Kernel has hangs within low path =
      let levels = levels_two l.scheme in
      let steps : top_level l.scheme - level ≡ suc (top_level l.scheme - 1 - level) = omega arith in
      ap (table_below words va (top_level l.scheme) (root_ppn l s)) steps
      ∙ table_below-front words va (top_level l.scheme) (root_ppn l s) (start_table l Kernel va) (top_level l.scheme - 1 - level) (window-points l fits words holders tree s va has within)
      ∙ path

  start-top : (place : Place) → start_level l place ≤ top_level l.scheme
  start-top (Space s) = omega arith
  start-top Kernel = omega arith

  pub place-leaf : (s va level t entry leaf : ℕ) (flags : PteFlags) → s < length l.homes → LeafOn l words s va level t entry leaf flags → Leads l.scheme words (root_ppn l s) va level t (Some entry)
  place-leaf s va level t entry leaf flags has o =
      let deep : level ≤ top_level l.scheme = let top = start-top o.place in omega (arith, o.low) in
      let back : top_level l.scheme - (top_level l.scheme - level) ≡ level = omega arith in
      let path = leads-path l.scheme words (root_ppn l s) va (top_level l.scheme - level) t (omega arith) (root-path s va level t o.place has o.hangs o.within o.low o.on) in
      subst (Leads l.scheme words (root_ppn l s) va level t) o.word (subst (λ k. Leads l.scheme words (root_ppn l s) va k t (word_at words va k t)) back path)

  -- G on a path is the kernel's
  global-user : (s va level : ℕ) → s < length l.homes → IsIn l (Space s) va → IsGlobalAt l.scheme words (root_ppn l s) va level → ⊥
  global-user s va level has user g =
      let path = path-leads l.scheme words (root_ppn l s) va g.level g.table (Some g.entry) g.leads in
      let back : top_level l.scheme - (top_level l.scheme - g.level) ≡ g.level = omega (arith, g.leads.level) in
      let plain = (root-home s has).plain s va (top_level l.scheme - g.level) g.table g.entry has refl user (omega arith) path (ap (λ k. word_at words va k g.table) back ∙ sym g.leads.here) in
      let bad : true ≡ false = sym g.global ∙ plain in
      cc

  global-kernel : (s va level : ℕ) → s < length l.homes → IsIn l Kernel va → level ≤ top_level l.scheme → IsGlobalAt l.scheme words (root_ppn l s) va level
  global-kernel s va level has inside low = record {
    level = top_level l.scheme;
    table = root_ppn l s;
    entry = table_word (start_table l Kernel va) true;
    from = low;
    leads = subst (Leads l.scheme words (root_ppn l s) va (top_level l.scheme) (root_ppn l s)) (window-word s va has inside) (leads-start l.scheme words (root_ppn l s) va);
    global = global-table (start_table l Kernel va) true (window-fits va inside);
  }

  pub global-place : (s va level : ℕ) (place : Place) → s < length l.homes → HangsBelow place s → IsIn l place va → level ≤ start_level l place
      → IsTrue (is_kernel place) ↔ IsGlobalAt l.scheme words (root_ppn l s) va level
  global-place s va level (Space s') has hangs within low = (
    (λ e. let bad : false ≡ true = e in absurd cc),
    (λ g. absurd (global-user s va level has within g)),
  )
  global-place s va level Kernel has hangs within low = ((λ e. global-kernel s va level has within (omega arith)), (λ g. refl))

-- what a root maps, by a leaf on the path of a place
pub record Member (l : Layout) (words : Tables) (s number ppn : ℕ) (flags : PteFlags) (global : Bool) : Type 0 where
  pub va : ℕ
  pub level : ℕ
  pub table : ℕ
  pub entry : ℕ
  pub leaf : ℕ
  pub canonical : IsCanonical l.scheme va
  pub of_page : page_number va ≡ number
  pub on : LeafOn l words s va level table entry leaf flags
  pub aligned : leaf % level_pages level ≡ 0
  pub place : ppn ≡ leaf + number % level_pages level
  pub reach : global ≡ is_kernel on.place

-- what is mapped in one memory is in another, where its leaf stands there too
pub moved : (l : Layout) (old new : Tables) (s number ppn : ℕ) (flags : PteFlags) (global : Bool) (m : Member l old s number ppn flags global)
    → (on : LeafOn l new s m.va m.level m.table m.entry m.leaf flags) → on.place ≡ m.on.place → Member l new s number ppn flags global
moved l old new s number ppn flags global m on same = record {
  va = m.va;
  level = m.level;
  table = m.table;
  entry = m.entry;
  leaf = m.leaf;
  canonical = m.canonical;
  of_page = m.of_page;
  on = on;
  aligned = m.aligned;
  place = m.place;
  reach = m.reach ∙ ap is_kernel (sym same);
}

module _ (l : Layout) (fits : IsLayout l) (words : Tables) (holders : Holders) (tree : IsTree l words holders) (s number ppn : ℕ) (flags : PteFlags) (global : Bool) (has : s < length l.homes) where
  pub member-of : Maps l.scheme words (root_ppn l s) number ppn flags global → Member l words s number ppn flags global
  member-of m =
      let on = leaf-place l fits words holders tree s m.va m.level m.table m.entry m.leaf flags has m.leads m.kind in
      let same = global-place l fits words holders tree s m.va m.level on.place has on.hangs on.within on.low in
      record {
        va = m.va;
        level = m.level;
        table = m.table;
        entry = m.entry;
        leaf = m.leaf;
        canonical = m.canonical;
        of_page = m.of_page;
        on = on;
        aligned = m.aligned;
        place = m.place;
        reach = same_bool global (is_kernel on.place) ((λ h. same.1 (m.is_global.0 h)), (λ h. m.is_global.1 (same.0 h)));
      }

  pub maps-of : Member l words s number ppn flags global → Maps l.scheme words (root_ppn l s) number ppn flags global
  maps-of m =
      let same = global-place l fits words holders tree s m.va m.level m.on.place has m.on.hangs m.on.within m.on.low in
      record {
        va = m.va;
        level = m.level;
        table = m.table;
        entry = m.entry;
        leaf = m.leaf;
        canonical = m.canonical;
        of_page = m.of_page;
        leads = place-leaf l fits words holders tree s m.va m.level m.table m.entry m.leaf flags has m.on;
        kind = m.on.kind;
        aligned = m.aligned;
        place = m.place;
        is_global = ((λ h. same.0 (sym m.reach ∙ h)), (λ g. m.reach ∙ same.1 g));
      }
