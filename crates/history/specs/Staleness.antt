-- What an acknowledgement promises of a TLB: after an unmapping no translation of the page, until
-- it is mapped anew (Clear); after an unmapping or a change of flags none but what is mapped now,
-- until the page is changed once more (Coherent).
use Rattle.std.specs.Prelude.{ℕ, Bool, true, false, ◌≡◌, ◌+◌, ◌<◌, ◌⊎◌, ◌==◌, ◌&&◌, ◌||◌, List, [], ◌∷◌, length, Option, Some, None, is_none, All, slice_index, IfSome}
use Rattle.pte.specs.Address.{Span, Holds}
use Rattle.walk.specs.Leads.{Tables}
use Rattle.walk.specs.Maps.{Maps, LiesIn}
use Rattle.history.specs.Setup.{Setup}
use Rattle.spaces.specs.Layout.{root_ppn, spare_ppn}
use Rattle.walk.specs.Pointers.{table_after}
use Rattle.history.specs.Harts.{Walking, walk_of, space_of}
use Rattle.shoot.specs.HartSet.{contains}
use Rattle.tlb.specs.declared.store.Entry.{Entry}
use Rattle.tlb.specs.Service.{overlaps}
use Rattle.tlb.specs.Mappings.{Mapping, IsMappedBy, Translates}
use Rattle.history.specs.declared.event.Event.{Event}
use Rattle.history.specs.declared.event.Event.TheVariants.{Map, Unmap, Protect}
use Rattle.history.specs.declared.reply.Reply.{Reply}
use Rattle.history.specs.Turns.{History, is_leaf, is_opened}
use Rattle.history.specs.Spaces.{Live, status_of, is_free, asid_of, asid_in, holder_of}
use Rattle.history.specs.Orders.{Order, Cause, Unmapped, Protected, Flushed, order_at}
use Rattle.history.specs.Acknowledgements.{is_acked}
use Rattle.history.specs.Tables.{words_of}

-- the ASID, or every one, of two pages is the same
abbrev pub is_same_asid : Option ℕ → Option ℕ → Bool
is_same_asid (Some a) (Some b) = a == b
is_same_asid None None = true
is_same_asid _ _ = false

-- the page of an ASID overlaps the page that the order followed, and the ASID is the same
abbrev pub is_over : Cause → Option ℕ → Span → Bool
is_over (Unmapped asid page) other span = is_same_asid asid other && overlaps page span
is_over (Protected asid page) other span = is_same_asid asid other && overlaps page span
is_over Flushed other span = false

abbrev pub is_over_order : Option Order → Option ℕ → Span → Bool
is_over_order None other span = false
is_over_order (Some order) other span = is_over order.cause other span

-- after the order a leaf was mapped over its page, in a place that then had its ASID
abbrev pub anew_after : Setup → Event → Reply → History → ℕ → Bool → Bool
anew_after setup (Map hart place page ppn flags) reply history order old =
    (is_leaf reply && is_over_order (order_at setup history order) (asid_in setup history place)
    page) || old
anew_after setup _ reply history order old = old

abbrev pub is_mapped_anew : Setup → History → ℕ → Bool
is_mapped_anew setup [] order = false
is_mapped_anew setup (turn ∷ history) order =
    anew_after setup turn.event turn.reply history order (is_mapped_anew setup history order)

-- after the order a page over its page was unmapped or got other flags, in a place that then had
-- its ASID
abbrev pub superseded_after : Setup → Event → Reply → History → ℕ → Bool → Bool
superseded_after setup (Unmap hart place page named) reply history order old =
    (is_opened reply && is_over_order (order_at setup history order) (asid_in setup history place)
    page) || old
superseded_after setup (Protect hart place page flags named) reply history order old =
    (is_opened reply && is_over_order (order_at setup history order) (asid_in setup history place)
    page) || old
superseded_after setup _ reply history order old = old

abbrev pub is_superseded : Setup → History → ℕ → Bool
is_superseded setup [] order = false
is_superseded setup (turn ∷ history) order =
    superseded_after setup turn.event turn.reply history order (is_superseded setup history order)

-- the address space of a page: that of its ASID, or, of the kernel, every one
abbrev pub IsAsidOf : Option ℕ → ℕ → Type 0
IsAsidOf of asid = IfSome of (λ a. asid ≡ a)

-- the order has this cause, names the hart, and was acknowledged by it
pub record HasAnswered (setup : Setup) (history : History) (number hart : ℕ)
    (cause : Cause) : Type 0 where
  pub order : Order
  pub is : order_at setup history number ≡ Some order
  pub same_cause : order.cause ≡ cause
  pub named : contains order.named hart ≡ true
  pub acked : is_acked setup history number hart ≡ true

-- Clear: once the hart has acknowledged the order of an unmapping, these entries of its TLB
-- translate no address of the page in its address space, until the page is mapped anew
abbrev pub Clear : Setup → History → List Entry → ℕ → ℕ → Type 0
Clear setup history entries order hart =
    (of : Option ℕ) (page : Span) → HasAnswered setup history order hart (Unmapped of page)
    → is_mapped_anew setup history order ≡ false
    → (asid va : ℕ) → IsAsidOf of asid → Holds page va → ¬ Translates (IsMappedBy entries) asid va

-- the space exists, is not free, and has this ASID
pub record HasAsid (setup : Setup) (history : History) (s asid : ℕ) : Type 0 where
  pub there : s < length setup.asids
  pub kept : is_free (status_of history s) ≡ false
  pub same : asid_of setup history s ≡ asid

-- a page of an ASID is reached through the live or retiring space that has the ASID, one of the
-- kernel through any
abbrev pub Reaches : Setup → History → Option ℕ → ℕ → Type 0
Reaches setup history (Some asid) s = HasAsid setup history s asid
Reaches setup history None s = s < length setup.asids

-- the mapping is for an address space of the page
abbrev pub IsForAsid : Option ℕ → Mapping → Type 0
IsForAsid of m = (m.asid ≡ None) ⊎ ((asid : ℕ) × (m.asid ≡ Some asid) × IsAsidOf of asid)

-- these words, from the root of the space, map the page to the mapping's PPN with its flags, as
-- global exactly if the mapping is for every ASID
abbrev pub IsMapped : Setup → Tables → ℕ → Mapping → Type 0
IsMapped setup words s m =
    Maps setup.layout.scheme words (root_ppn setup.layout s) m.page m.ppn m.flags (is_none m.asid)

-- there is a space through which the page is reached, and these words map it so from each such space
pub record IsMappedNow (setup : Setup) (history : History) (words : Tables) (of : Option ℕ)
    (m : Mapping) : Type 0 where
  pub some : (s : ℕ) × Reaches setup history of s
  pub each : (s : ℕ) → Reaches setup history of s → IsMapped setup words s m

-- an unmapping or a change of flags of the page
abbrev pub IsChange : Cause → Option ℕ → Span → Type 0
IsChange cause of page = (cause ≡ Unmapped of page) ⊎ (cause ≡ Protected of page)

-- Coherent: once the hart has acknowledged the order of an unmapping or a change, each mapping of
-- the page that these entries of its TLB hold for its address space is mapped by these words, those
-- of the tables now, until the page is unmapped or changed once more
abbrev pub Coherent : Setup → History → Tables → List Entry → ℕ → ℕ → Type 0
Coherent setup history words entries order hart =
    (cause : Cause) (of : Option ℕ) (page : Span) → IsChange cause of page
    → HasAnswered setup history order hart cause → is_superseded setup history order ≡ false
    → (m : Mapping) → IsMappedBy entries m → IsForAsid of m → LiesIn page m.page
    → IsMappedNow setup history words of m

-- what a hart may hold of ASIDs: no entry but a global one is of an ASID that no live or retiring
-- space has
abbrev pub IsOfUsedAsid : Setup → History → Entry → Type 0
IsOfUsedAsid setup history e = e.global ≡ false → (s : ℕ) × HasAsid setup history s e.asid

abbrev pub HoldsUsedAsids : Setup → History → List Entry → Type 0
HoldsUsedAsids setup history entries = All (IsOfUsedAsid setup history) entries

-- a walk in flight is of a live space, and the table that it has come to is no unused spare frame
abbrev pub WalksUsedFrames : Setup → History → ℕ → Type 0
WalksUsedFrames setup history hart =
    (walk : Walking) → walk_of history hart ≡ Some walk
    → (status_of history (space_of history hart) ≡ Live)
    × ((owner n frame : ℕ) → n < slice_index setup.layout.spares owner
    → frame ≡ spare_ppn setup.layout owner + n → holder_of history frame ≡ None
    → ¬ (table_after setup.layout.scheme (words_of setup history)
    (root_ppn setup.layout (space_of history hart)) walk.va walk.loads ≡ Some frame))
