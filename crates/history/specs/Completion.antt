-- When the sender of an order is answered Done, and what it may rely on then.
use Rattle.std.specs.Prelude.{ℕ, ◌≡◌, ◌⊎◌, true, false, List, Option, Some}
use Rattle.pte.specs.Address.{Span, Holds}
use Rattle.tlb.specs.declared.store.Entry.{Entry}
use Rattle.tlb.specs.Mappings.{IsMappedBy, Translates}
use Rattle.shoot.specs.HartSet.{contains}
use Rattle.history.specs.declared.event.Event.TheVariants.{AckSelf, Collect}
use Rattle.history.specs.declared.reply.Reply.TheVariants as reply
use Rattle.history.specs.Setup.{Setup}
use Rattle.history.specs.Turns.{Turn, History}
use Rattle.history.specs.Orders.{Order, Unmapped, open_order, order_at}
use Rattle.history.specs.Staleness.{IsAsidOf, is_mapped_anew}
use Rattle.history.specs.Occurrences.{Sometime}

-- an AckSelf or a Collect of the ticket under which the order was open was answered Done
pub record IsDoneAt (number : ℕ) (turn : Turn) (before : History) : Type 0 where
  pub sender : ℕ
  pub ticket : ℕ
  pub event : (turn.event ≡ AckSelf sender ticket)
      ⊎ ((from : ℕ) × (turn.event ≡ Collect sender ticket from))
  pub told : turn.reply ≡ reply.Done
  pub order : open_order before sender ticket ≡ Some number

-- the order follows an unmapping of this page of an ASID, or of every one; it names the hart, and
-- was answered Done
pub record IsDoneFor (setup : Setup) (history : History) (number hart : ℕ) (of : Option ℕ)
    (page : Span) : Type 0 where
  pub order : Order
  pub is : order_at setup history number ≡ Some order
  pub cause : order.cause ≡ Unmapped of page
  pub named : contains order.named hart ≡ true
  pub done : Sometime (IsDoneAt number) history

-- ClearOnceDone: once the order of an unmapping was answered Done, these entries of the TLB of each
-- hart that it names translate no address of the page in its address space, until the page is
-- mapped anew
abbrev pub ClearOnceDone : Setup → History → List Entry → ℕ → ℕ → Type 0
ClearOnceDone setup history entries order hart =
    (of : Option ℕ) (page : Span) → IsDoneFor setup history order hart of page
    → is_mapped_anew setup history order ≡ false
    → (asid va : ℕ) → IsAsidOf of asid → Holds page va → ¬ Translates (IsMappedBy entries) asid va
