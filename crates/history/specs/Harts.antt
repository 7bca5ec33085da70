-- What a history leaves of a hart: its space, its walk, and the entries of its TLB
-- (privileged manual 4.1.11, satp; 4.3.2, the walk; 4.2.1, SFENCE.VMA).
use Rattle.std.specs.Prelude.{ℕ, ◌+◌, ◌==◌, ◌&&◌, List, [], ◌∷◌, Option, Some, None, Result, Ok, Err, if◌then◌else◌}
use Rattle.pte.specs.declared.permission.Access.{Access}
use Rattle.pte.specs.declared.permission.Ctx.{Ctx}
use Rattle.pte.specs.Address.{level_count}
use Rattle.walk.specs.declared.found_or_trap.Found.{Found}
use Rattle.walk.specs.declared.found_or_trap.Trap.{Trap}
use Rattle.walk.specs.Stage.{start_of}
use Rattle.walk.specs.Loads.{answer_after}
use Rattle.history.specs.Setup.{Setup}
use Rattle.spaces.specs.Layout.{root_ppn}
use Rattle.tlb.specs.declared.store.Entry.{Entry}
use Rattle.tlb.specs.Entries.{filled}
use Rattle.tlb.specs.Answer.{entry_of}
use Rattle.tlb.specs.Fence.{fenced}
use Rattle.tlb.specs.Service.{after_service as with_service}
use Rattle.history.specs.declared.event.Event.{Event}
use Rattle.history.specs.declared.event.Event.TheVariants.{Begin, Load, Switch, Fence, ServeFence, AckSelf}
use Rattle.history.specs.declared.reply.Reply.{Reply}
use Rattle.history.specs.declared.reply.Reply.TheVariants as reply
use Rattle.history.specs.Turns.{History, is_ok, is_filled, is_progress}
use Rattle.history.specs.Spaces.{asid_of}
use Rattle.history.specs.Orders.{open_order, what_of}
use Rattle.history.specs.Service.{served, what_served}
use Rattle.history.specs.Tables.{words_of}

-- the space of the last accepted Switch, else space 0
abbrev pub space_after : Event → Reply → ℕ → ℕ → ℕ
space_after (Switch by space) reply hart old = if is_ok reply && (by == hart) then space else old
space_after _ reply hart old = old

abbrev pub space_of : History → ℕ → ℕ
space_of [] hart = 0
space_of (turn ∷ history) hart = space_after turn.event turn.reply hart (space_of history hart)

-- a walk in flight: the access, and how many loads it has made. It holds no pointer and no leaf.
pub record Walking : Type 0 where
  pub va : ℕ
  pub access : Access
  pub ctx : Ctx
  pub loads : ℕ

abbrev pub begun : Reply → ℕ → Access → Ctx → Option Walking → Option Walking
begun reply.More va access ctx old =
    Some (record { va = va; access = access; ctx = ctx; loads = 0 })
begun _ va access ctx old = old

abbrev pub with_load : Option Walking → Option Walking
with_load None = None
with_load (Some walk) =
    Some (record { va = walk.va; access = walk.access; ctx = walk.ctx; loads = walk.loads + 1 })

abbrev pub loaded : Reply → Option Walking → Option Walking
loaded reply.More old = with_load old
loaded (reply.Filled pa) old = None
loaded (reply.Trap trap) old = None
loaded _ old = old

abbrev pub walk_after : Event → Reply → ℕ → Option Walking → Option Walking
walk_after (Begin by va access ctx) reply hart old =
    if by == hart then begun reply va access ctx old else old
walk_after (Load by) reply hart old = if by == hart then loaded reply old else old
walk_after _ reply hart old = old

abbrev pub walk_of : History → ℕ → Option Walking
walk_of [] hart = None
walk_of (turn ∷ history) hart = walk_after turn.event turn.reply hart (walk_of history hart)

-- what the walk of a hart finds in the current words
abbrev pub outcome_of : Setup → History → ℕ → Walking → Result Found Trap
outcome_of setup history space walk =
    answer_after (level_count setup.layout.scheme) (words_of setup history)
    (start_of setup.layout.scheme (root_ppn setup.layout space) walk.va walk.access walk.ctx)

-- a fill: the entry of what was found, with the ASID of the space
abbrev pub with_found : ℕ → Result Found Trap → List Entry → List Entry
with_found asid (Ok found) old = filled old (entry_of asid found)
with_found asid (Err trap) old = old

abbrev pub with_fill : Setup → History → ℕ → Option Walking → List Entry → List Entry
with_fill setup history space None old = old
with_fill setup history space (Some walk) old =
    with_found (asid_of setup history space) (outcome_of setup history space walk) old

abbrev pub entries_after : Setup → Event → Reply → History → ℕ → List Entry → List Entry
entries_after setup (Load by) reply history hart old =
    if is_filled reply && (by == hart)
    then with_fill setup history (space_of history hart) (walk_of history hart) old else old
entries_after setup (Fence by rs1 rs2) reply history hart old =
    if is_ok reply && (by == hart) then fenced setup.layout.scheme old rs1 rs2 else old
entries_after setup (ServeFence by) reply history hart old =
    if is_ok reply && (by == hart) then with_service old (what_served (served setup history hart))
    else old
entries_after setup (AckSelf by ticket) reply history hart old =
    if is_progress reply && (by == hart)
    then with_service old (what_of setup history (open_order history by ticket)) else old
entries_after setup _ reply history hart old = old

abbrev pub entries_of : Setup → History → ℕ → List Entry
entries_of setup [] hart = []
entries_of setup (turn ∷ history) hart =
    entries_after setup turn.event turn.reply history hart (entries_of setup history hart)
