-- How long an entry holds stale mappings of a page.
use Rattle.std.specs.Prelude.{ℕ, Bool, true, false, ◌<◌, ◌≤◌, ◌⊎◌, ◌==◌, ◌&&◌, if◌then◌else◌, Contains}
use Rattle.pte.specs.Address.{Span}
use Rattle.pte.specs.Entry.{is_user}
use Rattle.pte.specs.declared.flags.PteFlags.{PteFlags}
use Rattle.pte.specs.declared.permission.Ctx.{Ctx}
use Rattle.pte.specs.declared.permission.Mode.TheVariants.{User, Super}
use Rattle.walk.specs.Maps.{LiesIn}
use Rattle.tlb.specs.declared.store.Entry.{Entry}
use Rattle.tlb.specs.Mappings.{Mapping, IsMappingOf}
use Rattle.history.specs.Setup.{Setup}
use Rattle.history.specs.declared.event.Event.{Event}
use Rattle.history.specs.declared.event.Event.TheVariants.{Begin, Load, Flush, Switch, Fence, Post, Take, ServeFence, Ack, AckSelf, Collect, Finish, Close}
use Rattle.history.specs.declared.reply.Reply.{Reply}
use Rattle.history.specs.Turns.{History, is_filled, is_ok, is_progress}
use Rattle.history.specs.Harts.{entries_of}
use Rattle.stale.specs.Stale.{Stale}

-- the TLB of the hart holds the entry, and this mapping that the entry has in the page is stale
pub record StaleIn (setup : Setup) (history : History) (hart : ℕ) (e : Entry) (page : Span)
    (m : Mapping) : Type 0 where
  pub entry : Contains (entries_of setup history hart) e
  pub is : IsMappingOf e m
  pub in_page : LiesIn page m.page
  pub stale : Stale setup history hart m

-- pages are looked for from a number on, and then those before it: one comes before another
abbrev pub ComesBefore : ℕ → ℕ → ℕ → Type 0
ComesBefore from n other =
    ((from ≤ n) × (n < other)) ⊎ ((other < from) × ((from ≤ n) ⊎ (n < other)))

-- the mode that reaches pages with these flags: U-mode those with U, S-mode the others (privileged
-- manual 4.3.1)
abbrev pub own_context : PteFlags → Ctx
own_context flags =
    record { mode = if is_user flags.0 then User else Super; sum = false; mxr = false }

-- whether an event that got this reply may change words of tables, entries of TLBs, or which spaces
-- there are: a Load where it fills, and all but these others
abbrev pub may_change : Event → Reply → Bool
may_change (Load hart) reply = is_filled reply
may_change (Begin hart va access ctx) reply = false
may_change (Flush hart scope named) reply = false
may_change (Switch hart space) reply = false
may_change (Post hart ticket to) reply = false
may_change (Take hart from) reply = false
may_change (Ack hart) reply = false
may_change (Collect hart ticket from) reply = false
may_change (Finish hart ticket) reply = false
may_change (Close hart to) reply = false
may_change _ reply = true

-- the same, where of entries those of one hart count: a hart fills and fences its own TLB alone
abbrev pub may_change_at : Event → Reply → ℕ → Bool
may_change_at (Load by) reply hart = is_filled reply && (by == hart)
may_change_at (Fence by rs1 rs2) reply hart = is_ok reply && (by == hart)
may_change_at (ServeFence by) reply hart = is_ok reply && (by == hart)
may_change_at (AckSelf by ticket) reply hart = is_progress reply && (by == hart)
may_change_at event reply hart = may_change event reply
