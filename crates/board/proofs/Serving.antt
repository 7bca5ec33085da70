-- A port that serves what an unmapping asks translates no address of the page then.
use Rattle.std.proofs.Common.{◌≡◌, ◌∙◌, sym, ap, subst, ℕ, ◌<◌, ◌^◌, true, false, List, Some, None}
use Rattle.std.specs.Prelude.{Contains, not, slice_index}
use Rattle.std.proofs.lemmas.Bool.{false≢true}
use Rattle.std.proofs.lemmas.List.Elements.{All-contains}
use Rattle.atomic_table.specs.Table.{State}
use Rattle.pte.specs.declared.TheConstants.{ASID_BITS}
use Rattle.pte.specs.declared.address.What.{What}
use Rattle.pte.specs.declared.address.What.TheVariants.{PageOf}
use Rattle.pte.specs.Address.{Holds, IsPage, Span}
use Rattle.walk.specs.Maps.{LiesIn}
use Rattle.shoot.specs.Acknowledgement.{IsAskable}
use Rattle.spaces.specs.declared.configuration.Config.{Config}
use Rattle.spaces.specs.declared.places.Place.{Place}
use Rattle.spaces.specs.declared.places.Place.TheVariants.{Space, Kernel}
use Rattle.spaces.specs.declared.wishes.Wish.TheVariants.{Unmap}
use Rattle.spaces.specs.Edits.{is_wrong_half}
use Rattle.spaces.specs.Layout.{layout_of}
use Rattle.history.specs.Setup.{Setup, setup_of}
use Rattle.tlb.specs.declared.store.Entry.{Entry}
use Rattle.tlb.specs.Mappings.{IsMappedBy, Translates}
use Rattle.tlb.specs.Service.{after_service, is_dropped}
use Rattle.tlb.proofs.Keeping.{Contains-filter, served_are_gone}
use Rattle.tlb.proofs.Translating.{held_by}
use Rattle.views.specs.declared.view.View.{View}
use Rattle.views.specs.Orders.{IsAsidFor, IsGlobalInWindow, Kept, dropping}
use Rattle.views.specs.OnBoard.{IsWithin}
use Rattle.views.proofs.Collected.{asid-of, dropped-space, not-global, over}
use Rattle.views.proofs.Fills.{askable-of, page-of}
use Rattle.board.specs.Ports.{PortState}
use Rattle.board.specs.Promises.{HasView, IsUnmapping, ServingDropsThePage}
use Rattle.board.specs.Tables.{page_request}
use Rattle.board.proofs.Promises.{find-order}

-- what an unmapping in flight says of its page
module _ (home : PortState) (ticket : ℕ) (place : Place) (page : Span) (named : ℕ) (is : IsUnmapping home ticket place page named) (state : State ℕ View) (has : HasView home state) where
  kept : Kept home.view.config home.view is.order place page
  kept = let n = find-order ticket home.view.orders is.order is.is in has.stands.orders.kept home.hart home.view has.at n.0 is.order n.1 place page is.live

  ask : IsAskable (dropping home.view.config place page)
  ask =
      let n = find-order ticket home.view.orders is.order is.is in
      askable-of home.view.config state.words state.views home.view is.order place page (has.stands.orders.answered home.hart home.view has.at n.0 is.order n.1) is.live

-- no entry that is left is dropped
not-dropped : (entries : List Entry) (what : What) (e : Entry) → Contains (after_service entries what) e → is_dropped what e ≡ true → ⊥
not-dropped entries what e in-left dropped =
    let left : not (is_dropped what e) ≡ true = All-contains (λ x. not (is_dropped what x) ≡ true) (after_service entries what) e (served_are_gone entries what) in-left in
    false≢true (ap not (sym dropped) ∙ left)

module _ (other : PortState) (state : State ℕ View) (has : HasView other state) (within : IsWithin other.tlb.entries other.view.entries) (page : Span) (is-page : IsPage page) (what : What) (asid va : ℕ) (on : Holds page va)
    (t : Translates (IsMappedBy (after_service other.tlb.entries what)) asid va) where
  abbrev c : Config
  c = other.view.config

  abbrev e : Entry
  e = t.member.0

  window : IsGlobalInWindow (layout_of c) e
  window =
      let held = within.each e (Contains-filter (λ x. not (is_dropped what x)) other.tlb.entries e t.member.1) in
      All-contains (IsGlobalInWindow (layout_of c)) other.view.entries e (has.stands.orders.window other.hart other.view has.at) held

  in-e : Holds e.page va
  in-e = held_by e.page va (subst (LiesIn e.page) t.page t.member.2.page)

  left : is_dropped what e ≡ true → ⊥
  left = not-dropped other.tlb.entries what e t.member.1

  of-kernel-page : what ≡ PageOf page None → ⊥
  of-kernel-page is = left (subst (λ w. is_dropped w e ≡ true) (sym is) (over c has.stands.tables.limits page is-page e window va on in-e))

  of-space-page : (s own : ℕ) → is_wrong_half (layout_of c) (Space s) page ≡ false → own < 2 ^ ASID_BITS → asid ≡ own → what ≡ PageOf page (Some own) → ⊥
  of-space-page s own half small of is =
      let g = not-global c has.stands.tables.limits page is-page e window va on in-e s half in
      left (subst (λ w. is_dropped w e ≡ true) (sym is) (dropped-space c has.stands.tables.limits page is-page e window va on in-e own small g (asid-of e t.mapping asid t.member.2 g t.space ∙ of)))

pub serving_drops_the_page : ServingDropsThePage
serving_drops_the_page home other ticket place page named from request known unmapping now has before has' same within asks asid va of on t =
    by place unmapping of asks
  where
    setups : setup_of home.view.config ≡ setup_of other.view.config
    setups = has.config ∙ (sym same ∙ sym has'.config)

    by : (p : Place) → IsUnmapping home ticket p page named → IsAsidFor home.view.config p asid → request.what ≡ page_request home.setup (Unmap p page) → ⊥
    by Kernel u of' asks' =
        of-kernel-page other before has' within page (page-of home.view.config Kernel page (ask home ticket Kernel page named u now has)) request.what asid va on t asks'
    by (Space s) u of' asks' =
        let k = kept home ticket (Space s) page named u now has in
        let own : asid ≡ slice_index home.setup.asids s = of' ∙ ap (λ (x : Setup). slice_index x.asids s) has.config in
        let a = ask home ticket (Space s) page named u now has in
        of-space-page other before has' within page a.0 request.what asid va on t s (slice_index home.setup.asids s)
        (subst (λ (x : Setup). is_wrong_half x.layout (Space s) page ≡ false) setups k.right_half)
        (subst (λ (x : Setup). slice_index x.asids s < 2 ^ ASID_BITS) has.config a.1) own asks'
