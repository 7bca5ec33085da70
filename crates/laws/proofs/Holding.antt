-- What a hart that has acknowledged an order holds of its page: only what it filled since, which
-- was mapped then.
use Rattle.std.proofs.Common.{◌≡◌, ℕ, ◌%◌, ◌^◌, ◌<◌, Bool, true, false, [], ◌∷◌, ◌++◌, length, Option, Some, None, refl, ap, sym, ◌∙◌, subst, arith, ◌⊎◌, inl, inr, append_assoc}
use Rattle.std.specs.Prelude.{Contains}
use Rattle.std.proofs.lemmas.Bool.{eq-eqb, false≢true, cases_Bool}
use Rattle.std.proofs.lemmas.List.Elements.{All-contains}
use Rattle.pte.specs.Address.{Span, IsPage}
use Rattle.pte.specs.declared.address.What.TheVariants.{PageOf}
use Rattle.walk.specs.Maps.{Maps, LiesIn}
use Rattle.spaces.specs.declared.places.Place.{Place}
use Rattle.spaces.specs.declared.places.Place.TheVariants.{Space, Kernel}
use Rattle.spaces.specs.Layout.{root_ppn}
use Rattle.spaces.specs.Edits.{is_wrong_half}
use Rattle.tlb.specs.declared.store.Entry.{Entry}
use Rattle.pte.specs.declared.TheConstants.{ASID_BITS}
use Rattle.tlb.specs.Mappings.{Mapping, IsMappingOf}
use Rattle.tlb.specs.Service.{overlaps, is_dropped}
use Rattle.history.specs.Setup.{Setup}
use Rattle.history.specs.Spaces.{is_free}
use Rattle.history.specs.Turns.{Turn, History}
use Rattle.history.specs.Orders.{Order, order_at, what_asked}
use Rattle.history.specs.Tables.{words_of}
use Rattle.history.specs.Harts.{space_of, entries_of}
use Rattle.history.specs.Acknowledgements.{is_acked}
use Rattle.history.specs.Due.{Lawful}
use Rattle.history.specs.Occurrences.{Sometime}
use Rattle.history.specs.Staleness.{IsAsidOf, HasAsid, Reaches}
use Rattle.laws.specs.Fills.{Fills}
use Rattle.laws.specs.Kept.{HavePages, IsSetup, UserPagesAreNotGlobal}
use Rattle.laws.proofs.Acknowledged.{acked_below}
use Rattle.laws.proofs.Filling.{entries_filled}
use Rattle.laws.proofs.Remaining.{ReachedSince, reached_join, kernel_reached, LeftOrHeld, held_since}
use Rattle.laws.proofs.Asids.{asid_bound, live_hart, fill_hart}
use Rattle.laws.proofs.Fresh.{fill_maps}
use Rattle.laws.proofs.Causes.{IsAsked, IsAt, IsOfPlace, space_there}

-- the parts of a history
pub lawful_before : (C : Setup) (later before : History) → Lawful C (later ++ before) → Lawful C before
lawful_before C [] before l = l
lawful_before C (turn ∷ later) before l = lawful_before C later before l.0

pub pages_before : (later before : History) → HavePages (later ++ before) → HavePages before
pages_before [] before has = has
pages_before (turn ∷ later) before has = pages_before later before has.0

-- the entry was filled since h acknowledged the order k, when the tables mapped the mapping from a
-- root through which the page was reached, as it is since then
pub record MappedSince (C : Setup) (H : History) (k : ℕ) (of : Option ℕ) (e : Entry) (m : Mapping) : Type 0 where
  pub later : History
  pub earlier : History
  pub split : H ≡ later ++ earlier
  pub lawful : Lawful C earlier
  pub pages : HavePages earlier
  pub below : k < length earlier
  pub space : ℕ
  pub reached : ReachedSince C later earlier of space
  pub reach : Reaches C earlier of space
  pub maps : Maps C.layout.scheme (words_of C earlier) (root_ppn C.layout space) m.page m.ppn m.flags e.global

module _ (C : Setup) (setup : IsSetup C) (user : (H : History) → Lawful C H → HavePages H → UserPagesAreNotGlobal C H) where
  -- a filled mapping is mapped from the root of a live space
  record Mapped (H : History) (e : Entry) (m : Mapping) (space : ℕ) : Type 0 where
    has : HasAsid C H space e.asid
    maps : Maps C.layout.scheme (words_of C H) (root_ppn C.layout space) m.page m.ppn m.flags e.global

  fill_mapped : (turn : Turn) (H : History) (h : ℕ) (e : Entry) (m : Mapping) → Lawful C (turn ∷ H) → Fills C h e turn H → IsMappingOf e m → Mapped H e m (space_of H h)
  fill_mapped turn H h e m l f of = record {
    has = record {
      there = space_there C H h setup.asids l.0;
      kept = ap is_free (live_hart C setup H h l.0 (fill_hart C setup turn H h e l.1 f));
      same = sym (ap (λ (x : Entry). x.asid) f.is);
    };
    maps = fill_maps C turn H h e m l.0 f of;
  }

  -- no entry that is global has a mapping in a page of a space
  user_not_global : (H : History) (s space : ℕ) (page : Span) (e : Entry) (m : Mapping) → Lawful C H → HavePages H → IsPage page → is_wrong_half C.layout (Space s) page ≡ false
      → LiesIn page m.page → Mapped H e m space → e.global ≡ true → ⊥
  user_not_global H s space page e m l pages is half at f g =
      user H l pages s space page m.page m.ppn m.flags is half f.has.there at
      (subst (λ (b : Bool). Maps C.layout.scheme (words_of C H) (root_ppn C.layout space) m.page m.ppn m.flags b) g f.maps)

  -- the ASID of an entry that is not global and translates for an ASID
  own_asid : (e : Entry) (m : Mapping) (asid : ℕ) → e.global ≡ false → IsMappingOf e m → (m.asid ≡ None) ⊎ (m.asid ≡ Some asid) → e.asid ≡ asid
  own_asid e m asid g of space =
      let is : m.asid ≡ Some e.asid = rw g at of.asid in
      elim space [ inl none ↦ absurd (cc (is, none)) | inr some ↦ cc (is, some) ]

  -- an entry of the page is global for the kernel; for an ASID it is not, and has it
  data Kind (of : Option ℕ) (e : Entry) : Type 0 where
    of_kernel : of ≡ None → Kind of e
    of_asid : of ≡ Some e.asid → e.global ≡ false → Kind of e

  kind_in : (of : Option ℕ) (place : Place) (page : Span) (asid : ℕ) (e : Entry) (m : Mapping) (H : History) (space : ℕ) → Lawful C H → HavePages H → IsAt of place → IsAsked C place page
      → IsAsidOf of asid → LiesIn page m.page → IsMappingOf e m → (m.asid ≡ None) ⊎ (m.asid ≡ Some asid) → Mapped H e m space → Kind of e
  kind_in of Kernel page asid e m H space l pages of_is asked is_asid at is for f = of_kernel of_is
  kind_in of (Space s) page asid e m H space l pages of_is asked is_asid at is for f =
      elim (cases_Bool e.global) [
        | inl g ↦ absurd (user_not_global H s space page e m l pages asked.is_page asked.right_half at f g)
        | inr g ↦
            let own : e.asid ≡ asid = own_asid e m asid g is for in
            let same : asid ≡ of_is.0 = subst (λ (o : Option ℕ). IsAsidOf o asid) of_is.1 is_asid in
            of_asid (of_is.1 ∙ ap Some (sym (own ∙ same))) g
      ]

  -- an entry that the request of a page does not drop has no mapping of the page
  left : (of : Option ℕ) (page : Span) (e : Entry) (m : Mapping) (H : History) (space : ℕ) → Lawful C H → HavePages H → overlaps page e.page ≡ true → Mapped H e m space → Kind of e
      → is_dropped (PageOf page of) e ≡ false → ⊥
  left of page e m H space l pages over f (of_kernel none) n = false≢true (sym n ∙ ap (λ o. is_dropped (PageOf page o) e) none ∙ over)
  left of page e m H space l pages over f (of_asid some g) n =
      let bound = asid_bound C setup H space l pages f.has.there in
      let same = f.has.same in
      let whole : e.asid % 2 ^ ASID_BITS ≡ e.asid = omega (arith, bound, same) in
      let dropped : is_dropped (PageOf page (Some e.asid)) e ≡ true = rw (over, g, eq-eqb e.asid (e.asid % 2 ^ ASID_BITS) (sym whole)) refl in
      false≢true (sym n ∙ ap (λ o. is_dropped (PageOf page o) e) some ∙ dropped)

  -- the page is reached through the space that it was filled from
  reaches : (of : Option ℕ) (e : Entry) (m : Mapping) (H : History) (space : ℕ) → Mapped H e m space → Kind of e → Reaches C H of space
  reaches of e m H space f (of_kernel none) = subst (λ (o : Option ℕ). Reaches C H o space) (sym none) f.has.there
  reaches of e m H space f (of_asid some g) = subst (λ (o : Option ℕ). Reaches C H o space) (sym some) f.has

  reaches_since : (of : Option ℕ) (e : Entry) (later : History) (turn : Turn) (earlier : History) (space : ℕ) → Kind of e → space < length C.asids
      → (e.global ≡ false → ReachedSince C later (turn ∷ earlier) (Some e.asid) space) → ReachedSince C later (turn ∷ earlier) of space
  reaches_since of e later turn earlier space (of_kernel none) there since = subst (λ (o : Option ℕ). ReachedSince C later (turn ∷ earlier) o space) (sym none) (kernel_reached C later (turn ∷ earlier) space there)
  reaches_since of e later turn earlier space (of_asid some g) there since = subst (λ (o : Option ℕ). ReachedSince C later (turn ∷ earlier) o space) (sym some) (since g)

  filled_then : (H : History) (h : ℕ) (e : Entry) → Contains (entries_of C H h) e → Sometime (Fills C h e) H
  filled_then H h e at = All-contains (λ x. Sometime (Fills C h x) H) (entries_of C H h) e (entries_filled C H h) at

  filled_before : (H : History) (turn : Turn) (earlier later : History) → H ≡ later ++ turn ∷ earlier → Lawful C H → HavePages H → Lawful C (turn ∷ earlier) × HavePages earlier
  filled_before H turn earlier later split l pages =
      (lawful_before C later (turn ∷ earlier) (subst (Lawful C) split l), (pages_before later (turn ∷ earlier) (subst HavePages split pages)).0)

  pub mapped_since : (H : History) (k h : ℕ) (order : Order) (of : Option ℕ) (page : Span) (asid : ℕ) (e : Entry) (m : Mapping) → Lawful C H → HavePages H
      → order_at C H k ≡ Some order → is_acked C H k h ≡ true → IsOfPlace C of page order.what → IsAsidOf of asid
      → overlaps page e.page ≡ true → LiesIn page m.page → Contains (entries_of C H h) e → IsMappingOf e m → (m.asid ≡ None) ⊎ (m.asid ≡ Some asid)
      → MappedSince C H k of e m
  mapped_since H k h order of page asid e m l pages ordered acked asked is_asid over at member is for =
      elim (All-contains (LeftOrHeld C H k h) (entries_of C H h) e (held_since C setup H k h l pages acked) member) [
        | inl n ↦ let s = filled_then H h e member in
            let before = filled_before H s.turn s.earlier s.later s.split l pages in
            let f = fill_mapped s.turn s.earlier h e m before.0 s.so is in
            let kind = kind_in of asked.place page asid e m s.earlier (space_of s.earlier h) before.0.0 before.1 asked.at asked.asked is_asid at is for f in
            let what : what_asked (order_at C H k) ≡ PageOf page of = ap what_asked ordered ∙ asked.asks in
            absurd (left of page e m s.earlier (space_of s.earlier h) before.0.0 before.1 over f kind (ap (λ w. is_dropped w e) (sym what) ∙ n))
        | inr s ↦ let before = filled_before H s.turn s.earlier s.later s.split l pages in
            let f = fill_mapped s.turn s.earlier h e m before.0 s.fills is in
            let kind = kind_in of asked.place page asid e m s.earlier (space_of s.earlier h) before.0.0 before.1 asked.at asked.asked is_asid at is for f in
            let reach = reaches of e m s.earlier (space_of s.earlier h) f kind in
            record {
              later = s.later ++ s.turn ∷ [];
              earlier = s.earlier;
              split = s.split ∙ sym (append_assoc s.later (s.turn ∷ []) s.earlier);
              lawful = before.0.0;
              pages = before.1;
              below = acked_below C s.earlier k h before.0.0 s.acked;
              space = space_of s.earlier h;
              reached = reached_join C s.later s.turn s.earlier of (space_of s.earlier h) (reaches_since of e s.later s.turn s.earlier (space_of s.earlier h) kind f.has.there s.since) reach;
              reach = reach;
              maps = f.maps;
            }
      ]
