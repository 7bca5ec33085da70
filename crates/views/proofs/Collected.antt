-- What the rule says of an unmapped page, and of a hart that acknowledged or was collected.
use Rattle.std.proofs.Common.{◌≡◌, ◌⊎◌, ℕ, ◌%◌, ◌^◌, ◌<◌, Bool, true, false, cond, length, Some, None, sym, refl, ap, ◌∙◌, subst, inl, inr, arith}
use Rattle.std.specs.Prelude.{◌==◌, ◌&&◌, not}
use Rattle.std.proofs.lemmas.Bool.{and_from, eq-eqb}
use Rattle.std.proofs.lemmas.List.Elements.{All-contains}
use mathlib.Core.Option.{some}
use lib.ListN.{get_elem?}
use Rattle.atomic_table.specs.Table.{State}
use Rattle.pte.specs.declared.TheConstants.{ASID_BITS}
use Rattle.pte.specs.declared.address.What.TheVariants.{PageOf}
use Rattle.pte.specs.Address.{Holds, IsPage, Span}
use Rattle.walk.specs.Maps.{LiesIn}
use Rattle.spaces.specs.declared.configuration.Config.{Config}
use Rattle.spaces.specs.declared.configuration.TheConstants.{MAX_LIVE_FRAMES}
use Rattle.spaces.specs.Limits.{MeetsLimits}
use Rattle.spaces.specs.declared.places.Place.{Place}
use Rattle.spaces.specs.declared.places.Place.TheVariants.{Space, Kernel}
use Rattle.spaces.specs.Layout.{layout_of}
use Rattle.spaces.specs.Held.{memory_words}
use Rattle.spaces.specs.Edits.{is_wrong_half}
use Rattle.spaces.specs.Effects.{HangsBelow}
use Rattle.tlb.specs.declared.store.Entry.{Entry}
use Rattle.tlb.specs.Mappings.{IsMappedBy, IsMappingOf, Mapping, Translates}
use Rattle.tlb.specs.Service.{after_service, is_dropped, overlaps}
use Rattle.tlb.proofs.Overlapping.{overlaps-Overlap}
use Rattle.tlb.proofs.Translating.{held_by, lies_in}
use Rattle.shoot.specs.Acknowledgement.{IsAskable, acknowledgement}
use Rattle.shoot.proofs.AcknowledgementWords.{same_what}
use Rattle.views.specs.declared.view.Order.{Order}
use Rattle.views.specs.declared.view.View.{View}
use Rattle.views.specs.Orders.{asid_of_space, asked, dropping, HoldsSince, IsAsidFor, IsGlobalInWindow, IsLive, IsOf, Kept}
use Rattle.views.specs.Board.{AcknowledgedHoldsSince, AcknowledgedIsClean, Board, CollectedHoldsSince, CollectedIsClean, EqualWordsAskForEqualService, UnmappedStaysUnmapped, own_words, shared_words}
use Rattle.views.proofs.EditKeeps.{live-layout}
use Rattle.views.proofs.Fills.{askable-of, one-space, page-of, unmapped-own, unmapped-shared, user-slot, window-slot}

pub unmapped_own : UnmappedStaysUnmapped own_words
unfolding memory_words
unmapped_own c s b i v at n k at-k place page live = unmapped-own c s b.tables b.orders i v at n k at-k place page live

pub unmapped_shared : UnmappedStaysUnmapped shared_words
unmapped_shared c s b i v at n k at-k place page live = unmapped-shared c s b.tables b.orders i v at n k at-k place page live

pub acknowledged_holds_since : AcknowledgedHoldsSince
acknowledged_holds_since c s b i v at n k at-k h small armed now = (b.orders.answered i v at n k at-k).acked h small armed now

pub collected_holds_since : CollectedHoldsSince
collected_holds_since c s b i v at n k at-k h small got = (b.orders.answered i v at n k at-k).gone h small got

-- an entry that translates an address of the page for the place is of the place, and is dropped by
-- what the unmapping asks
module _ (c : Config) (limits : MeetsLimits MAX_LIVE_FRAMES c) (page : Span) (is-page : IsPage page) (e : Entry) (window : IsGlobalInWindow (layout_of c) e) (va : ℕ) (on : Holds page va) (in-e : Holds e.page va) where
  pub over : overlaps page e.page ≡ true
  over = (overlaps-Overlap page e.page).1 (va, on, in-e)

  of-kernel : is_wrong_half (layout_of c) Kernel page ≡ false → IsOf c Kernel e
  of-kernel half = (window va in-e).1 (window-slot (layout_of c) (live-layout c limits) page va is-page half on)

  pub not-global : (t : ℕ) → is_wrong_half (layout_of c) (Space t) page ≡ false → e.global ≡ false
  not-global t half = by e.global refl
    where
      by : (g : Bool) → e.global ≡ g → g ≡ false
      by false q = refl
      by true q =
          let low = user-slot (layout_of c) (live-layout c limits) t page va is-page half on in
          let high = (window va in-e).0 q in
          absurd (omega arith)

  pub dropped-space : (asid : ℕ) → asid < 2 ^ ASID_BITS → e.global ≡ false → e.asid ≡ asid → is_dropped (PageOf page (Some asid)) e ≡ true
  dropped-space asid small g a =
      let same : asid % 2 ^ ASID_BITS ≡ asid = omega arith in
      and_from (overlaps page e.page) (not e.global && (e.asid == asid % 2 ^ ASID_BITS)) over
      (and_from (not e.global) (e.asid == asid % 2 ^ ASID_BITS) (ap not g) (eq-eqb e.asid (asid % 2 ^ ASID_BITS) (a ∙ sym same)))

-- what a hart holds since the order began is nothing of a page that no words since then map
module _ (c : Config) (s : State ℕ View) (b : Board c s) (i : ℕ) (v : View) (at : get_elem? s.views i ≡ some v) (n : ℕ) (k : Order) (at-k : get_elem? v.orders n ≡ some k) (place : Place) (page : Span)
    (live : IsLive k place page) (h : ℕ) (holds : HoldsSince c s.views h v k) (j : ℕ) (w : View) (at-w : get_elem? s.views j ≡ some w) (is : w.hart ≡ h) (asid va : ℕ) (of : IsAsidFor c place asid) (on : Holds page va)
    (t : Translates (IsMappedBy w.entries) asid va) where
  kept : Kept c v k place page
  kept = b.orders.kept i v at n k at-k place page live

  ask : IsAskable (dropping c place page)
  ask = askable-of c s.words s.views v k place page (b.orders.answered i v at n k at-k) live

  is-page : IsPage page
  is-page = page-of c place page ask

  abbrev e : Entry
  e = t.member.0

  in-e : Holds e.page va
  in-e = held_by e.page va (subst (LiesIn e.page) t.page t.member.2.page)

  window : IsGlobalInWindow (layout_of c) e
  window = All-contains (IsGlobalInWindow (layout_of c)) w.entries e (b.orders.window j w at-w) t.member.1

  there : LiesIn page t.mapping.page
  there = subst (LiesIn page) (sym t.page) (lies_in page va is-page on)

  -- nothing since then maps it
  nothing : is_dropped (dropping c place page) e ≡ true → IsOf c place e → ((space : ℕ) → space < length (layout_of c).homes → e.asid ≡ asid_of_space c space → HangsBelow place space) → ⊥
  nothing dropped is-of hangs =
      let r = holds j w at-w is e t.member.1 (subst (λ z. is_dropped (asked c z) e ≡ true) (sym live.0) dropped) (record { place = place; has = kept.has; at_home = kept.at_home; is = is-of }) in
      kept.unmapped r.0 r.1 r.2.space t.mapping.page t.mapping.ppn t.mapping.flags e.global r.2.has (hangs r.2.space r.2.has r.2.asid, there) (r.2.each t.mapping t.member.2)

-- the ASID that the entry was found under
pub asid-of : (e : Entry) (m : Mapping) (asid : ℕ) → IsMappingOf e m → e.global ≡ false → (m.asid ≡ None) ⊎ (m.asid ≡ Some asid) → e.asid ≡ asid
asid-of e m asid of g (inl none) = absurd (let bad : Some e.asid ≡ None = ap (λ q. cond q None (Some e.asid)) (sym g) ∙ sym of.asid ∙ none in cc)
asid-of e m asid of g (inr some') = let same : Some e.asid ≡ Some asid = ap (λ q. cond q None (Some e.asid)) (sym g) ∙ sym of.asid ∙ some' in cc

pub clear : (c : Config) (s : State ℕ View) (b : Board c s) (i : ℕ) (v : View) (at : get_elem? s.views i ≡ some v) (n : ℕ) (k : Order) (at-k : get_elem? v.orders n ≡ some k) (place : Place) (page : Span)
    (live : IsLive k place page) (h : ℕ) (holds : HoldsSince c s.views h v k) (j : ℕ) (w : View) (at-w : get_elem? s.views j ≡ some w) (is : w.hart ≡ h) (asid va : ℕ) → IsAsidFor c place asid → Holds page va
    → ¬ Translates (IsMappedBy w.entries) asid va
clear c s b i v at n k at-k Kernel page live h holds j w at-w is asid va of on t =
    nothing c s b i v at n k at-k Kernel page live h holds j w at-w is asid va of on t
    (over c b.tables.limits page (is-page c s b i v at n k at-k Kernel page live h holds j w at-w is asid va of on t) (e c s b i v at n k at-k Kernel page live h holds j w at-w is asid va of on t) (window c s b i v at n k at-k Kernel page live h holds j w at-w is asid va of on t) va on (in-e c s b i v at n k at-k Kernel page live h holds j w at-w is asid va of on t))
    (of-kernel c b.tables.limits page (is-page c s b i v at n k at-k Kernel page live h holds j w at-w is asid va of on t) (e c s b i v at n k at-k Kernel page live h holds j w at-w is asid va of on t) (window c s b i v at n k at-k Kernel page live h holds j w at-w is asid va of on t) va on (in-e c s b i v at n k at-k Kernel page live h holds j w at-w is asid va of on t) (kept c s b i v at n k at-k Kernel page live h holds j w at-w is asid va of on t).right_half)
    (λ space has same. tt)
clear c s b i v at n k at-k (Space r) page live h holds j w at-w is asid va of on t =
    let p = kept c s b i v at n k at-k (Space r) page live h holds j w at-w is asid va of on t in
    let m = ask c s b i v at n k at-k (Space r) page live h holds j w at-w is asid va of on t in
    let x = e c s b i v at n k at-k (Space r) page live h holds j w at-w is asid va of on t in
    let y = in-e c s b i v at n k at-k (Space r) page live h holds j w at-w is asid va of on t in
    let z = window c s b i v at n k at-k (Space r) page live h holds j w at-w is asid va of on t in
    let g = not-global c b.tables.limits page m.0 x z va on y r p.right_half in
    let a : x.asid ≡ asid_of_space c r = asid-of x t.mapping asid t.member.2 g t.space ∙ of in
    nothing c s b i v at n k at-k (Space r) page live h holds j w at-w is asid va of on t
    (dropped-space c b.tables.limits page m.0 x z va on y (asid_of_space c r) m.1 g a)
    (g, a)
    (λ space has same. one-space c b.tables.limits r space p.has has (sym a ∙ same))

pub acknowledged_is_clean : AcknowledgedIsClean
acknowledged_is_clean c s b i v at n k at-k place page live h small armed now j w at-w is asid va of on =
    clear c s b i v at n k at-k place page live h
    ((b.orders.answered i v at n k at-k).acked h small armed (now ∙ ap (λ z. acknowledgement (asked c z)) (sym live.0))) j w at-w is asid va of on

pub collected_is_clean : CollectedIsClean
collected_is_clean c s b i v at n k at-k place page live h small got j w at-w is asid va of on =
    clear c s b i v at n k at-k place page live h ((b.orders.answered i v at n k at-k).gone h small got) j w at-w is asid va of on

pub equal_service : EqualWordsAskForEqualService
equal_service a d x y e entries = ap (after_service entries) (same_what a d x y e)
