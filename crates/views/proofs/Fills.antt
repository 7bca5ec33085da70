-- What a walk finds in the shared words is mapped by the words of the home that it is from, and
-- misses each page of an unmapping that is not marked anew.
use Rattle.std.proofs.Common.{◌≡◌, ℕ, ◌+◌, ◌-◌, ◌*◌, ◌/◌, ◌%◌, ◌<◌, ◌≤◌, false, true, List, length, Ok, IsTrue, sym, refl, ap, ◌∙◌, subst, arith}
use Rattle.std.specs.Prelude.{◌↔◌}
use Rattle.std.proofs.lemmas.Bool.{false≢true}
use Rattle.std.proofs.lemmas.List.{length-map}
use mathlib.Core.Option.{some}
use lib.ListN.{get_elem?}
use Rattle.atomic_table.specs.Table.{State}
use Rattle.pte.specs.declared.permission.Access.{Access}
use Rattle.pte.specs.declared.permission.Ctx.{Ctx}
use Rattle.pte.specs.declared.flags.PteFlags.{PteFlags}
use Rattle.pte.specs.declared.address.PageSize.{PageSize}
use Rattle.pte.specs.declared.address.PageSize.TheVariants.{Kib4, Mib2, Gib1, Gib512}
use Rattle.pte.specs.Address.{Holds, Span, IsPage, IsCanonical, bytes_of, level_bytes, level_of, pages_of, top_level, vpn_of}
use Rattle.walk.specs.declared.found_or_trap.Found.{Found}
use Rattle.walk.specs.Maps.{Maps, page_number, LiesIn}
use Rattle.walk.specs.Outcome.{Outcome}
use Rattle.walk.proofs.FoundMembers.{found_page_member}
use Rattle.walk.proofs.Pages.{same_vpn}
use Rattle.spaces.specs.declared.configuration.Config.{Config}
use Rattle.spaces.specs.declared.places.Place.{Place}
use Rattle.spaces.specs.declared.places.Place.TheVariants.{Space, Kernel}
use Rattle.spaces.specs.Layout.{Layout, HasPlace, layout_of, home_of, root_ppn, first_window_slot}
use Rattle.spaces.specs.Held.{IsLayout, holders_of, memory_words}
use Rattle.spaces.specs.Limits.{MeetsLimits}
use Rattle.spaces.specs.declared.configuration.TheConstants.{MAX_LIVE_FRAMES}
use Rattle.spaces.specs.Edits.{is_kernel, is_wrong_half}
use Rattle.spaces.specs.Effects.{HangsBelow}
use Rattle.spaces.specs.Tree.{IsIn}
use Rattle.spaces.proofs.DistinctAsids.{differ}
use Rattle.spaces.proofs.EditLaws.{global-window}
use Rattle.spaces.proofs.Accepting.{fit-level, within}
use Rattle.spaces.proofs.Halves.{holds_part, low_slot, in_user, in_window, low_address, high_address}
use Rattle.tlb.specs.Answer.{entry_of}
use Rattle.tlb.specs.Mappings.{IsMappingOf, Mapping}
use Rattle.tlb.proofs.Translating.{lies_in}
use Rattle.shoot.specs.Acknowledgement.{IsAskable}
use Rattle.views.specs.declared.view.Order.{Order}
use Rattle.views.specs.declared.view.View.{View}
use Rattle.views.specs.Rule.{memory_of, tables_in, Tabled}
use Rattle.views.specs.Turns.{asid_at}
use Rattle.views.specs.Orders.{Answered, asid_of_space, asked, dropping, IsFrom, IsLive, IsMapped, IsOf, IsUnmapped, IsGlobalInWindow, Kept, Ordered}
use Rattle.views.proofs.EditKeeps.{live-layout}
use Rattle.views.proofs.MappedAtHome.{member-place, mapped-in-view}
use Rattle.views.proofs.RealTree.{holders-all, real-tree}

-- the place in which a page of 4 KiB hangs is that of the page that it is a part of
place-same : (l : Layout) → IsLayout l → (place other : Place) (page : Span) (s number va : ℕ) → IsPage page → is_wrong_half l place page ≡ false → HangsBelow place s → LiesIn page number
    → IsCanonical l.scheme va → page_number va ≡ number → HangsBelow other s → IsIn l other va → other ≡ place
place-same l fits (Space t) (Space u) page s number va is half hangs at can of hangs' inside = ap Space (hangs' ∙ sym hangs)
place-same l fits (Space t) Kernel page s number va is half hangs at can of hangs' inside =
    let low = in_user l fits t page number is half at in let high = high_address l.scheme va number can of (omega (arith, fits.window, inside)) in absurd (omega arith)
place-same l fits Kernel (Space u) page s number va is half hangs at can of hangs' inside =
    let high = in_window l fits page number is half at in let low = low_address l.scheme va number can of inside in absurd (omega arith)
place-same l fits Kernel Kernel page s number va is half hangs at can of hangs' inside = refl

pub page-of : (c : Config) (place : Place) (page : Span) → IsAskable (dropping c place page) → IsPage page
page-of c (Space s) page f = f.0
page-of c Kernel page f = f

-- an address lies in the top-level slot that its page of 4 KiB lies in
slot-of : (va level : ℕ) → vpn_of (page_number va * bytes_of Kib4) level ≡ vpn_of va level
slot-of va level = same_vpn (page_number va * bytes_of Kib4) va 0 level (omega arith) (omega arith)

-- an address of a page of the window lies in a slot of the window
same-part : (size : PageSize) (base va : ℕ) → base % bytes_of size ≡ 0 → base ≤ va → va < base + bytes_of size → va / level_bytes (level_of size) ≡ base / level_bytes (level_of size)
same-part Kib4 base va aligned from below = omega arith
same-part Mib2 base va aligned from below = omega arith
same-part Gib1 base va aligned from below = omega arith
same-part Gib512 base va aligned from below = omega arith

pub window-slot : (l : Layout) → IsLayout l → (page : Span) (va : ℕ) → IsPage page → is_wrong_half l Kernel page ≡ false → Holds page va → first_window_slot l ≤ vpn_of va (top_level l.scheme)
window-slot l fits page va is half holds =
    let slot = same_vpn va page.base (level_of page.size) (top_level l.scheme) (fit-level l Kernel page half) (same-part page.size page.base va is.aligned holds.from holds.below) in
    omega (arith, slot, within l Kernel page half)

-- and one of a page of a space in none of it
pub user-slot : (l : Layout) → IsLayout l → (s : ℕ) (page : Span) (va : ℕ) → IsPage page → is_wrong_half l (Space s) page ≡ false → Holds page va → vpn_of va (top_level l.scheme) < first_window_slot l
user-slot l fits s page va is half holds =
    let low = low_slot l fits s page (page_number va) is half (lies_in page va is holds) in
    let same = slot-of va (top_level l.scheme) in
    omega (arith, fits.window, low, same)

-- what the board keeps of an order that follows an unmapping can be asked
pub askable-of : (c : Config) (words : List ℕ) (views : List View) (v : View) (k : Order) (place : Place) (page : Span) → Answered c words views v k → IsLive k place page → IsAskable (dropping c place page)
askable-of c words views v k place page a live = subst (λ z. IsAskable (asked c z)) live.0 a.askable

-- nothing that the own words map lies in the page of an unmapping that is not marked anew
module _ (c : Config) (s : State ℕ View) (b : Tabled c s) (o : Ordered c s) (j : ℕ) (u : View) (at-u : get_elem? s.views j ≡ some u) (n : ℕ) (k : Order) (at-k : get_elem? u.orders n ≡ some k) (place : Place)
    (page : Span) (live : IsLive k place page) where
  kept : Kept c u k place page
  kept = o.kept j u at-u n k at-k place page live

  pub unmapped-own : IsUnmapped (layout_of c) (tables_in (layout_of c) u.words) place page
  unmapped-own = kept.unmapped u.words (0, o.latest j u at-u, omega (arith, (o.answered j u at-u n k at-k).begun))

  -- nor does what the shared words map
  pub unmapped-shared : IsUnmapped (layout_of c) (tables_in (layout_of c) s.words) place page
  unfolding memory_words
  unmapped-shared sp number ppn flags global has about maps =
      let is-page : IsPage page = page-of c place page (askable-of c s.words s.views u k place page (o.answered j u at-u n k at-k) live) in
      let fits = live-layout c b.limits in
      let t = b.each j u at-u in
      let m = member-place (layout_of c) fits (tables_in (layout_of c) s.words) (memory_words (memory_of (layout_of c) u)) (holders-all c s b) (holders_of (memory_of (layout_of c) u)) (real-tree c s b)
      t.local.memory.tree u.hart t.local.hart t.own sp number ppn flags global has maps in
      let same : m.on.place ≡ place = place-same (layout_of c) fits place m.on.place page sp number m.va is-page kept.right_half about.0 about.1 m.canonical m.of_page m.on.hangs m.on.within in
      let home : home_of (layout_of c) m.on.place ≡ u.hart = ap (home_of (layout_of c)) same ∙ kept.at_home in
      let there = mapped-in-view (layout_of c) fits (tables_in (layout_of c) s.words) (memory_words (memory_of (layout_of c) u)) (holders-all c s b) (holders_of (memory_of (layout_of c) u)) (real-tree c s b)
      t.local.memory.tree u.hart t.local.hart t.own sp number ppn flags global has maps home in
      unmapped-own sp number ppn flags global has about there

-- spaces of one ASID are one
pub one-space : (c : Config) → MeetsLimits MAX_LIVE_FRAMES c → (s t : ℕ) → s < length (layout_of c).homes → t < length (layout_of c).homes → asid_of_space c s ≡ asid_of_space c t → s ≡ t
one-space c limits s t has there e =
    let count = length-map c.spaces.items (λ s. s.home) in
    differ c.spaces.items s t limits.asids (omega (arith, has, count)) (omega (arith, there, count)) e

module _ (c : Config) (s : State ℕ View) (b : Tabled c s) (sp va : ℕ) (access : Access) (ctx : Ctx) (found : Found) (has : sp < length (layout_of c).homes)
    (is : Outcome c.scheme (tables_in (layout_of c) s.words) (root_ppn (layout_of c) sp) va access ctx (Ok found)) where
  -- what is found is global exactly in the window
  pub window-found : (asid : ℕ) → IsGlobalInWindow (layout_of c) (entry_of asid found)
  window-found asid at holds =
      let m = found_page_member c.scheme (tables_in (layout_of c) s.words) (root_ppn (layout_of c) sp) va access ctx found is at holds in
      subst (λ slot. IsTrue found.global ↔ (first_window_slot (layout_of c) ≤ slot)) (slot-of at (top_level c.scheme))
      (global-window (layout_of c) (tables_in (layout_of c) s.words) (holders-all c s b) (live-layout c b.limits) (real-tree c s b) sp (page_number at) _ _ found.global has m)

  -- the place in which it hangs has the home of each place that it is of
  home-of-both : (asid : ℕ) → asid ≡ asid_of_space c sp → (p q : Place) → found.global ≡ is_kernel p → HangsBelow p sp → HasPlace (layout_of c) q → IsOf c q (entry_of asid found)
      → home_of (layout_of c) p ≡ home_of (layout_of c) q
  home-of-both asid a Kernel Kernel reach hangs there of = refl
  home-of-both asid a Kernel (Space t) reach hangs there of = absurd (false≢true (sym of.0 ∙ reach))
  home-of-both asid a (Space u) Kernel reach hangs there of = absurd (false≢true (sym reach ∙ of))
  home-of-both asid a (Space u) (Space t) reach hangs there of =
      ap (λ n. home_of (layout_of c) (Space n)) (hangs ∙ one-space c b.limits sp t has there (sym a ∙ of.1))

  -- the words of a home have it
  module _ (j : ℕ) (u : View) (at-u : get_elem? s.views j ≡ some u) where
    pub mapped-found : (asid : ℕ) → asid ≡ asid_of_space c sp → IsFrom c u.hart (entry_of asid found) → IsMapped c (tables_in (layout_of c) u.words) (entry_of asid found)
    unfolding memory_words
    mapped-found asid a from = record { space = sp; has = has; asid = a; each = each }
      where
        fits : IsLayout (layout_of c)
        fits = live-layout c b.limits

        own : (number ppn : ℕ) (flags : PteFlags) → Maps c.scheme (tables_in (layout_of c) s.words) (root_ppn (layout_of c) sp) number ppn flags found.global
            → Maps c.scheme (tables_in (layout_of c) u.words) (root_ppn (layout_of c) sp) number ppn flags found.global
        own number ppn flags maps =
            let t = b.each j u at-u in
            let m = member-place (layout_of c) fits (tables_in (layout_of c) s.words) (memory_words (memory_of (layout_of c) u)) (holders-all c s b) (holders_of (memory_of (layout_of c) u)) (real-tree c s b)
            t.local.memory.tree u.hart t.local.hart t.own sp number ppn flags found.global has maps in
            mapped-in-view (layout_of c) fits (tables_in (layout_of c) s.words) (memory_words (memory_of (layout_of c) u)) (holders-all c s b) (holders_of (memory_of (layout_of c) u)) (real-tree c s b)
            t.local.memory.tree u.hart t.local.hart t.own sp number ppn flags found.global has maps
            (home-of-both asid a m.on.place from.place m.reach m.on.hangs from.has from.is ∙ from.at_home)

        number-of : (number : ℕ) → page_number (number * bytes_of Kib4) ≡ number
        number-of number = omega arith

        each : (m : Mapping) → IsMappingOf (entry_of asid found) m → Maps c.scheme (tables_in (layout_of c) u.words) (root_ppn (layout_of c) sp) m.page m.ppn m.flags found.global
        each m of =
            let first = found_page_member c.scheme (tables_in (layout_of c) s.words) (root_ppn (layout_of c) sp) va access ctx found is (m.page * bytes_of Kib4) (holds_part found.page m.page of.page) in
            own m.page m.ppn m.flags
            (subst (λ f. Maps c.scheme (tables_in (layout_of c) s.words) (root_ppn (layout_of c) sp) m.page m.ppn f found.global) (sym of.flags)
            (subst (λ p. Maps c.scheme (tables_in (layout_of c) s.words) (root_ppn (layout_of c) sp) m.page p found.flags found.global) (sym of.ppn)
            (subst (λ n. Maps c.scheme (tables_in (layout_of c) s.words) (root_ppn (layout_of c) sp) n (found.ppn + n % pages_of found.page.size) found.flags found.global) (number-of m.page) first)))

-- the ASID of a root
pub asid-at-root : (c : Config) (sp root : ℕ) → root ≡ root_ppn (layout_of c) sp → asid_at c root ≡ asid_of_space c sp
asid-at-root c sp root e = ap (λ (n : ℕ). asid_of_space c n) (let z : root - root_ppn (layout_of c) 0 ≡ sp = omega (arith, e) in z)
