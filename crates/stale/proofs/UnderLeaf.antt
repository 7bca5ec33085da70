-- What the tables map in the page of an edit: what its leaf says, and nothing else.
use Rattle.std.proofs.Common.{◌≡◌, ℕ, ◌+◌, ◌*◌, ◌-◌, ◌%◌, ◌/◌, ◌<◌, ◌≤◌, Bool, Some, None, length, refl, ap, sym, ◌∙◌, subst, inl, inr, arith}
use Rattle.std.proofs.lemmas.Bool.{cases_order}
use Rattle.pte.specs.Address.{Span, IsPageOf, bytes_of, level_of, level_pages, pages_of, top_level, vpn_of}
use Rattle.pte.specs.declared.scheme.Scheme.{Scheme}
use Rattle.pte.specs.declared.address.PageSize.TheVariants.{Kib4}
use Rattle.pte.specs.declared.flags.PteFlags.{PteFlags}
use Rattle.pte.specs.declared.entry.Kind.TheVariants as kinds
use Rattle.pte.specs.Entry.{kind_of}
use Rattle.walk.specs.Leads.{Tables, Leads, word_at}
use Rattle.walk.specs.Maps.{Maps, page_number, LiesIn}
use Rattle.walk.specs.Pointers.{pointed, pointed_kind, table_below}
use Rattle.walk.proofs.Pages.{leads_page, same_vpn}
use Rattle.walk.proofs.Unique.{same_bool}
use Rattle.spaces.specs.declared.places.Place.{Place}
use Rattle.spaces.specs.declared.places.Place.TheVariants.{Space, Kernel}
use Rattle.spaces.specs.declared.wishes.Wish.{Wish}
use Rattle.spaces.specs.Layout.{Layout, root_ppn, first_window_slot, user_slots}
use Rattle.spaces.specs.Edits.{Store, is_kernel, page_of, place_of}
use Rattle.spaces.specs.Accepted.{Accepted}
use Rattle.spaces.specs.Effects.{HangsBelow, IsEdit}
use Rattle.spaces.specs.Holders.{Holders, unused_spare}
use Rattle.spaces.specs.Tree.{start_level, table_on, IsIn}
use Rattle.spaces.proofs.Accepting.{edit-fits}
use Rattle.spaces.proofs.Effecting.{ends}
use Rattle.spaces.proofs.Leaves.{global-place, path-leads, place-leaf}
use Rattle.spaces.proofs.Numbers.{canonical-part, number-part, of-part}
use Rattle.spaces.proofs.Paths.{some-same}

-- two leaves that lead for one address are one
module _ (scheme : Scheme) (words : Tables) (root va : ℕ) where
  stops : (i t e p : ℕ) (a : PteFlags) → Leads scheme words root va i t (Some e) → kind_of e ≡ kinds.Leaf p a
      → pointed (word_at words va (top_level scheme - (top_level scheme - i)) t) ≡ None
  stops i t e p a leads kind =
      let back : top_level scheme - (top_level scheme - i) ≡ i = omega (arith, leads.level) in
      ap (λ k. pointed (word_at words va k t)) back ∙ ap pointed (sym leads.here) ∙ ap pointed_kind kind

  one_leaf : (i j t u e f p q : ℕ) (a b : PteFlags) → Leads scheme words root va i t (Some e) → kind_of e ≡ kinds.Leaf p a
      → Leads scheme words root va j u (Some f) → kind_of f ≡ kinds.Leaf q b → (i ≡ j) × (e ≡ f)
  one_leaf i j t u e f p q a b first is_first second is_second =
      let down = path-leads scheme words root va i t (Some e) first in
      let other = path-leads scheme words root va j u (Some f) second in
      elim (cases_order (top_level scheme - i) (top_level scheme - j)) [
        | inl same ↦
            let levels : i ≡ j = omega (arith, first.level, second.level, same) in
            let tables : t ≡ u = some-same _ _ (sym down ∙ ap (table_below words va (top_level scheme) root) same ∙ other) in
            (levels, some-same _ _ (first.here ∙ ap (word_at words va i) tables ∙ ap (λ k. word_at words va k u) levels ∙ sym second.here))
        | inr apart ↦ elim apart [
          | inl less ↦ absurd (ends words va (top_level scheme) root (top_level scheme - j) (top_level scheme - i) t u less down (stops i t e p a first is_first) other)
          | inr more ↦ absurd (ends words va (top_level scheme) root (top_level scheme - i) (top_level scheme - j) u t more other (stops j u f q b second is_second) down)
        ]
      ]

-- what is mapped by a leaf
pub record IsByLeaf (place : Place) (page : Span) (q : ℕ) (f : PteFlags) (n ppn : ℕ) (flags : PteFlags) (global : Bool) : Type 0 where
  pub ppn_is : ppn ≡ q + n % pages_of page.size
  pub flags_are : flags ≡ f
  pub aligned : q % pages_of page.size ≡ 0
  pub global_is : global ≡ is_kernel place

in_same : (l : Layout) (place : Place) (a b : ℕ) → vpn_of a (top_level l.scheme) ≡ vpn_of b (top_level l.scheme) → IsIn l place b → IsIn l place a
in_same l (Space s) a b e h = subst (λ v. v < user_slots) (sym e) h
in_same l Kernel a b e h = subst (λ v. first_window_slot l ≤ v) (sym e) h

module _ (l : Layout) (words : Tables) (holders : Holders) (hart : ℕ) (w : Wish) (store : Store) (edit : IsEdit l words holders hart w store)
    (acc : Accepted l words (unused_spare l holders hart) hart w store) (q : ℕ) (f : PteFlags) (at : start_level l (place_of w) - acc.depth ≡ level_of (page_of w).size)
    (kind : kind_of acc.old ≡ kinds.Leaf q f) where
  fitting : IsPageOf l.scheme (page_of w)
  fitting = edit-fits l words (unused_spare l holders hart) hart w store edit.is edit.page

  low : level_of (page_of w).size ≤ start_level l (place_of w)
  low = omega (arith, at)

  leads_base : (s : ℕ) → s < length l.homes → HangsBelow (place_of w) s → Leads l.scheme words (root_ppn l s) (page_of w).base (level_of (page_of w).size) store.ppn (Some acc.old)
  leads_base s has hangs =
      let depth : start_level l (place_of w) - level_of (page_of w).size ≡ acc.depth = omega (arith, at, acc.deep) in
      place-leaf l edit.layout words holders edit.tree s (page_of w).base (level_of (page_of w).size) store.ppn acc.old q f has (record {
        place = place_of w;
        hangs = hangs;
        has = edit.has;
        within = acc.within;
        low = low;
        on = ap (table_on l words (place_of w) (page_of w).base) depth ∙ acc.on;
        word = ap (words store.ppn) (ap (vpn_of (page_of w).base) (sym at) ∙ sym acc.index) ∙ acc.word;
        kind = kind;
      })

  -- for each address of the page
  module _ (s va n : ℕ) (has : s < length l.homes) (hangs : HangsBelow (place_of w) s) (of_page : page_number va ≡ n) (part : LiesIn (page_of w) n) where
    row : va / bytes_of (page_of w).size ≡ (page_of w).base / bytes_of (page_of w).size
    row = of-part (page_of w).base (page_of w).size va n fitting.aligned of_page part

    leads_there : Leads l.scheme words (root_ppn l s) va (level_of (page_of w).size) store.ppn (Some acc.old)
    leads_there =
        leads_page l.scheme words (root_ppn l s) (page_of w).base va (level_of (page_of w).size) (sym row) (level_of (page_of w).size) store.ppn (Some acc.old) (omega arith) (leads_base s has hangs)

    within_there : IsIn l (place_of w) va
    within_there = in_same l (place_of w) va (page_of w).base (same_vpn va (page_of w).base (level_of (page_of w).size) (top_level l.scheme) fitting.level row) acc.within

  pub by_leaf : (s n ppn : ℕ) (flags : PteFlags) (global : Bool) → s < length l.homes → HangsBelow (place_of w) s → LiesIn (page_of w) n
      → Maps l.scheme words (root_ppn l s) n ppn flags global → IsByLeaf (place_of w) (page_of w) q f n ppn flags global
  by_leaf s n ppn flags global has hangs part m =
      let lv = level_of (page_of w).size in
      let one = one_leaf l.scheme words (root_ppn l s) m.va m.level lv m.table store.ppn m.entry acc.old m.leaf q flags f m.leads m.kind (leads_there s m.va n has hangs m.of_page part) kind in
      let both : kinds.Leaf m.leaf flags ≡ kinds.Leaf q f = sym m.kind ∙ ap kind_of one.1 ∙ kind in
      let leaves : m.leaf ≡ q = cc in
      let same_flags : flags ≡ f = cc in
      let within = within_there s m.va n has hangs m.of_page part in
      let global_in = global-place l edit.layout words holders edit.tree s m.va m.level (place_of w) has hangs within (subst (λ k. k ≤ start_level l (place_of w)) (sym one.0) low) in
      record {
        ppn_is = m.place ∙ ap (λ k. m.leaf + n % level_pages k) one.0 ∙ ap (λ k. k + n % level_pages lv) leaves;
        flags_are = same_flags;
        aligned = ap (λ k. k % level_pages lv) (sym leaves) ∙ ap (λ k. m.leaf % level_pages k) (sym one.0) ∙ m.aligned;
        global_is = same_bool global (is_kernel (place_of w)) (λ h. global_in.1 (m.is_global.0 h), λ h. m.is_global.1 (global_in.0 h));
      }

  pub leaf_maps : (s n : ℕ) → s < length l.homes → HangsBelow (place_of w) s → LiesIn (page_of w) n → q % pages_of (page_of w).size ≡ 0
      → Maps l.scheme words (root_ppn l s) n (q + n % pages_of (page_of w).size) f (is_kernel (place_of w))
  leaf_maps s n has hangs part aligned =
      let within = within_there s (n * bytes_of Kib4) n has hangs (number-part n) part in
      record {
        va = n * bytes_of Kib4;
        level = level_of (page_of w).size;
        table = store.ppn;
        entry = acc.old;
        leaf = q;
        canonical = canonical-part l.scheme (page_of w).base (page_of w).size n fitting.level fitting.canonical fitting.aligned part;
        of_page = number-part n;
        leads = leads_there s (n * bytes_of Kib4) n has hangs (number-part n) part;
        kind = kind;
        aligned = aligned;
        place = refl;
        is_global = global-place l edit.layout words holders edit.tree s (n * bytes_of Kib4) (level_of (page_of w).size) (place_of w) has hangs within low;
      }
