-- Clear, from what an acknowledgement leaves, what a fill adds, and what the tables keep.
use Rattle.std.proofs.Common.{◌≡◌, ℕ, Option, refl, Bool, false, ◌&&◌, [], ◌∷◌, ◌++◌, Some, ap, sym, ◌∙◌, subst}
use Rattle.std.proofs.lemmas.Bool.{or_parts}
use Rattle.pte.specs.Address.{Span}
use Rattle.walk.specs.Maps.{page_number, LiesIn}
use Rattle.history.specs.Spaces.{asid_in}
use Rattle.spaces.specs.Layout.{root_ppn}
use Rattle.tlb.specs.declared.store.Entry.{Entry}
use Rattle.tlb.specs.Mappings.{Mapping}
use Rattle.tlb.proofs.Overlapping.{overlaps-Overlap}
use Rattle.history.specs.Setup.{Setup}
use Rattle.history.specs.declared.event.Event.{Event}
use Rattle.history.specs.declared.event.Event.TheVariants.{Map}
use Rattle.history.specs.declared.reply.Reply.{Reply}
use Rattle.history.specs.Turns.{History, is_leaf}
use Rattle.history.specs.Orders.{Order, Cause, Unmapped, order_at}
use Rattle.history.specs.Harts.{entries_of}
use Rattle.history.specs.Due.{Lawful}
use Rattle.history.specs.Staleness.{is_over_order, is_mapped_anew, anew_after, Clear}
use Rattle.laws.specs.Kept.{HavePages, IsSetup, StaysUnmapped, UserPagesAreNotGlobal}
use Rattle.laws.proofs.Orders.{orders_stay}
use Rattle.tlb.proofs.Translating.{lies_in, held_by}
use Rattle.laws.proofs.Holding.{MappedSince, mapped_since}
use Rattle.laws.proofs.Causes.{IsOfPlace, Follows, follows}

-- what was mapped anew before still is
pub anew_step : (C : Setup) (event : Event) (r : Reply) (H : History) (k : ℕ) (old : Bool) → anew_after C event r H k old ≡ false → old ≡ false
anew_step C (Map hart place page ppn flags) r H k old e = (or_parts (is_leaf r && is_over_order (order_at C H k) (asid_in C H place) page) old e).1
anew_step C _ r H k old e = e

anew_before : (C : Setup) (later before : History) (k : ℕ) → is_mapped_anew C (later ++ before) k ≡ false → is_mapped_anew C before k ≡ false
anew_before C [] before k e = e
anew_before C (turn ∷ later) before k e =
    anew_before C later before k (anew_step C turn.event turn.reply (later ++ before) k (is_mapped_anew C (later ++ before) k) e)

module _ (C : Setup) (setup : IsSetup C) (unmapped : (H : History) → Lawful C H → HavePages H → StaysUnmapped C H)
    (user : (H : History) → Lawful C H → HavePages H → UserPagesAreNotGlobal C H) where
  -- a mapping of the page of an unmapping was mapped when the page was unmapped
  none_since : (H : History) (k : ℕ) (order : Order) (of : Option ℕ) (page : Span) (e : Entry) (m : Mapping) → order_at C H k ≡ Some order → order.cause ≡ Unmapped of page
      → is_mapped_anew C H k ≡ false → LiesIn page m.page → MappedSince C H k of e m → ⊥
  none_since H k order of page e m ordered cause fresh at s =
      let then_ : order_at C s.earlier k ≡ Some order =
      sym (orders_stay C s.later s.earlier k s.below) ∙ (ap (λ (G : History). order_at C G k) (sym s.split) ∙ ordered) in
      let old : is_mapped_anew C s.earlier k ≡ false = anew_before C s.later s.earlier k (ap (λ (G : History). is_mapped_anew C G k) (sym s.split) ∙ fresh) in
      unmapped s.earlier s.lawful s.pages k order of page then_ cause old (root_ppn C.layout s.space) m.page m.ppn m.flags e.global (s.space, s.reach, refl) at s.maps

  pub clear : (H : History) (k h : ℕ) → Lawful C H → HavePages H → Clear C H (entries_of C H h) k h
  clear H k h l pages = λ of page a fresh asid va is_asid holds t.
      let e = t.member.0 in
      let is = t.member.2 in
      let asked : IsOfPlace C of page a.order.what =
      subst (λ (c : Cause). Follows C c a.order.what) a.same_cause (follows C setup.homes H k a.order l pages a.is) in
      let at : LiesIn page t.mapping.page = rw t.page (lies_in page va asked.asked.is_page holds) in
      let inner : LiesIn e.page (page_number va) = subst (LiesIn e.page) t.page is.page in
      let over = (overlaps-Overlap page e.page).1 (va, holds, held_by e.page va inner) in
      none_since H k a.order of page e t.mapping a.is a.same_cause fresh at
      (mapped_since C setup user H k h a.order of page asid e t.mapping l pages a.is a.acked asked is_asid over at t.member.1 is t.space)
