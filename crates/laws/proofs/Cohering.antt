-- Coherent, from what an acknowledgement leaves, what a fill adds, and what the tables keep.
use Rattle.std.proofs.Common.{◌≡◌, ℕ, ◌*◌, ◌<◌, Bool, true, false, ◌&&◌, [], ◌∷◌, ◌++◌, length, Option, Some, None, refl, ap, sym, ◌∙◌, subst, ◌⊎◌, inl, inr}
use Rattle.std.specs.Prelude.{is_none, if◌then◌else◌}
use Rattle.std.proofs.lemmas.Bool.{or_parts}
use Rattle.pte.specs.Address.{Span, bytes_of}
use Rattle.pte.specs.declared.address.PageSize.TheVariants.{Kib4}
use Rattle.walk.specs.Maps.{Maps, LiesIn}
use Rattle.spaces.specs.declared.places.Place.{Place}
use Rattle.spaces.specs.declared.places.Place.TheVariants.{Space, Kernel}
use Rattle.spaces.specs.Layout.{root_ppn}
use Rattle.tlb.specs.Mappings.{Mapping}
use Rattle.tlb.proofs.Overlapping.{overlaps-Overlap}
use Rattle.history.specs.Setup.{Setup}
use Rattle.history.specs.Spaces.{asid_in}
use Rattle.history.specs.declared.event.Event.{Event}
use Rattle.history.specs.declared.event.Event.TheVariants.{Unmap, Protect}
use Rattle.history.specs.declared.reply.Reply.{Reply}
use Rattle.history.specs.Turns.{Turn, History, is_opened}
use Rattle.history.specs.Orders.{Order, Cause, order_at}
use Rattle.history.specs.Tables.{words_of}
use Rattle.history.specs.Harts.{entries_of}
use Rattle.history.specs.Due.{Lawful}
use Rattle.history.specs.Staleness.{is_superseded, superseded_after, IsChange, IsForAsid, Coherent, is_over_order, IsAsidOf, HasAsid, Reaches}
use Rattle.laws.specs.Kept.{StaysMapped, WindowIsShared, HavePages, IsSetup, UserPagesAreNotGlobal}
use Rattle.laws.proofs.Orders.{orders_stay}
use Rattle.tlb.proofs.Translating.{held_by}
use Rattle.laws.proofs.Holding.{mapped_since}
use Rattle.laws.proofs.Remaining.{ReachedSince, reached_last, reached_rest}
use Rattle.laws.proofs.Asids.{asids_differ}
use Rattle.laws.proofs.Causes.{IsAsked, IsAt, follows, follows_change}
use Rattle.pte.specs.declared.flags.PteFlags.{PteFlags}
use Rattle.laws.proofs.Fresh.{numbered}

-- what was superseded before still is
superseded_step : (C : Setup) (event : Event) (r : Reply) (H : History) (k : ℕ) (old : Bool) → superseded_after C event r H k old ≡ false → old ≡ false
superseded_step C (Unmap hart place page named) r H k old e = (or_parts (is_opened r && is_over_order (order_at C H k) (asid_in C H place) page) old e).1
superseded_step C (Protect hart place page flags named) r H k old e = (or_parts (is_opened r && is_over_order (order_at C H k) (asid_in C H place) page) old e).1
superseded_step C _ r H k old e = e

-- a mapping of an entry is for every ASID exactly if the entry is global
none_if : (global : Bool) (asid : ℕ) → is_none (if global then None else Some asid) ≡ global
none_if true asid = refl
none_if false asid = refl

-- an address space of the page that the mapping is for
for_some : (of : Option ℕ) (m : Mapping) → IsForAsid of m → (asid : ℕ) × IsAsidOf of asid × ((m.asid ≡ None) ⊎ (m.asid ≡ Some asid))
for_some (Some a) m (inl none) = (a, refl, inl none)
for_some None m (inl none) = (0, tt, inl none)
for_some of m (inr some) = (some.0, some.2, inr some.1)

module _ (C : Setup) (setup : IsSetup C) (user : (H : History) → Lawful C H → HavePages H → UserPagesAreNotGlobal C H)
    (stays : (turn : Turn) (H : History) → Lawful C (turn ∷ H) → HavePages (turn ∷ H) → StaysMapped C turn H)
    (shared : (H : History) → Lawful C H → HavePages H → WindowIsShared C H) where
  -- what was mapped is mapped still, while the page is reached through the space
  carried : (later before : History) (k : ℕ) (order : Order) (of : Option ℕ) (page : Span) (s n ppn : ℕ) (flags : PteFlags) (global : Bool)
      → Lawful C (later ++ before) → HavePages (later ++ before) → k < length before → order_at C before k ≡ Some order → IsChange order.cause of page
      → is_superseded C (later ++ before) k ≡ false → ReachedSince C later before of s → LiesIn page n
      → Maps C.layout.scheme (words_of C before) (root_ppn C.layout s) n ppn flags global → Maps C.layout.scheme (words_of C (later ++ before)) (root_ppn C.layout s) n ppn flags global
  carried [] before k order of page s n ppn flags global l pages below is change fresh reached at maps = maps
  carried (turn ∷ later) before k order of page s n ppn flags global l pages below is change fresh reached at maps =
      let old = superseded_step C turn.event turn.reply (later ++ before) k (is_superseded C (later ++ before) k) fresh in
      let then_ : order_at C (later ++ before) k ≡ Some order = orders_stay C later before k below ∙ is in
      let r = reached_rest C turn later before of s reached in
      stays turn (later ++ before) l pages k order of page then_ change fresh (root_ppn C.layout s) n ppn flags global (s, reached_last C later before of s r.0, refl) (s, r.1, refl) at
      (carried later before k order of page s n ppn flags global l.0 pages.0 below is change old r.0 at maps)

  -- mapped from one root through which the page is reached, mapped from each
  each_root : (H : History) (of : Option ℕ) (place : Place) (page : Span) (s t : ℕ) (m : Mapping) (global : Bool) → Lawful C H → HavePages H → IsAt of place → IsAsked C place page → LiesIn page m.page
      → Reaches C H of s → Reaches C H of t → Maps C.layout.scheme (words_of C H) (root_ppn C.layout s) m.page m.ppn m.flags global → Maps C.layout.scheme (words_of C H) (root_ppn C.layout t) m.page m.ppn m.flags global
  each_root H of (Space u) page s t m global l pages of_is asked at a b maps =
      let has_a : HasAsid C H s of_is.0 = subst (λ (o : Option ℕ). Reaches C H o s) of_is.1 a in
      let has_b : HasAsid C H t of_is.0 = subst (λ (o : Option ℕ). Reaches C H o t) of_is.1 b in
      let same : s ≡ t = asids_differ C setup H l s t has_a.there has_b.there has_a.kept has_b.kept (has_a.same ∙ sym has_b.same) in
      subst (λ (x : ℕ). Maps C.layout.scheme (words_of C H) (root_ppn C.layout x) m.page m.ppn m.flags global) same maps
  each_root H of Kernel page s t m global l pages of_is asked at a b maps =
      shared H l pages page s t m.page m.ppn m.flags global asked.is_page asked.right_half (subst (λ (o : Option ℕ). Reaches C H o s) of_is a) (subst (λ (o : Option ℕ). Reaches C H o t) of_is b) at maps

  pub coherent : (H : History) (k h : ℕ) → Lawful C H → HavePages H → Coherent C H (words_of C H) (entries_of C H h) k h
  coherent H k h l pages = λ cause of page change a fresh m by for at.
      let e = by.0 in
      let is = by.2 in
      let changed : IsChange a.order.cause of page = subst (λ (c : Cause). IsChange c of page) (sym a.same_cause) change in
      let asked = follows_change C a.order.cause of page a.order.what changed (follows C setup.homes H k a.order l pages a.is) in
      let va = m.page * bytes_of Kib4 in
      let same = sym (numbered m.page) in
      let over = (overlaps-Overlap page e.page).1 (va, held_by page va (subst (LiesIn page) same at), held_by e.page va (subst (LiesIn e.page) same is.page)) in
      let some = for_some of m for in
      let global : e.global ≡ is_none m.asid = sym (ap is_none is.asid ∙ none_if e.global e.asid) in
      let s = mapped_since C setup user H k h a.order of page some.0 e m l pages a.is a.acked asked some.1 over at by.1 is some.2 in
      let then_ : order_at C s.earlier k ≡ Some a.order =
      sym (orders_stay C s.later s.earlier k s.below) ∙ (ap (λ (G : History). order_at C G k) (sym s.split) ∙ a.is) in
      let still = carried s.later s.earlier k a.order of page s.space m.page m.ppn m.flags e.global
      (subst (Lawful C) s.split l) (subst HavePages s.split pages) s.below then_ changed (ap (λ (G : History). is_superseded C G k) (sym s.split) ∙ fresh) s.reached at s.maps in
      let now : Maps C.layout.scheme (words_of C H) (root_ppn C.layout s.space) m.page m.ppn m.flags e.global =
      subst (λ (G : History). Maps C.layout.scheme (words_of C G) (root_ppn C.layout s.space) m.page m.ppn m.flags e.global) (sym s.split) still in
      let here : Reaches C H of s.space = subst (λ (G : History). Reaches C G of s.space) (sym s.split) (reached_last C s.later s.earlier of s.space s.reached) in
      record {
        some = (s.space, here);
        each = λ t reached. subst (λ (g : Bool). Maps C.layout.scheme (words_of C H) (root_ppn C.layout t) m.page m.ppn m.flags g) global
            (each_root H of asked.place page s.space t m e.global l pages asked.at asked.asked at here reached now);
      }
