-- Worked runs of refusals: where several apply, the first in the order of docs/PROTOCOL.md is
-- answered, and nothing changes.
use Rattle.std.specs.Prelude.{◌+◌, List, [], ◌∷◌, ◌++◌, None}
use Rattle.pte.specs.declared.address.What.TheVariants.{All, SpaceOf}
use Rattle.pte.specs.declared.permission.Access.TheVariants as access
use Rattle.walk.specs.declared.found_or_trap.Why.TheVariants.{NotCanonical, Invalid}
use Rattle.spaces.specs.declared.places.Place.TheVariants.{Space}
use Rattle.history.specs.declared.event.Event.TheVariants.{Begin, Load, Map, Unmap, Protect, Flush, Switch, Fence, Post, Take, ServeFence, Ack, AckSelf, Collect, Finish, Close, Retire, Reclaim, Create}
use Rattle.history.specs.declared.event.Scope.TheVariants as scope
use Rattle.history.specs.declared.refusal.Refusal.{Refusal}
use Rattle.history.specs.declared.refusal.Refusal.TheVariants.{NoHart, NoSpace, NotHome, WrongHalf, BadFlags, PpnTooLarge, Misaligned, AlreadyMapped, LeafInWay, TableInWay, NoFrame, NotMapped, WrongSize, HomeNotNamed, NoTicket, NotOpen, NotNamed, AlreadyPosted, Closed, Full, Empty, Walking, NotWalking, Serving, NotServing, NotFenced, NotDone, Retiring, InUse, NotAcked, NotRetiring, NotFree, AsidInUse}
use Rattle.history.specs.declared.reply.Reply.TheVariants.{More, Opened, Ok, Done, Waiting}
use Rattle.counterexamples.specs.WorkedRuns.{Step, small_page, flags, R, W, U, A, D, user, hart_0, hart_1, hart_2, refused, trap, taken}

-- of two harts in one space: steps for what does not exist
abbrev pub nothing_there : List Step
nothing_there =
    (Begin 2 0x1000 access.Load user, refused NoHart)
    ∷ (Map 2 (Space 1) (small_page 0x1000) 0x100 (flags W), refused NoHart)
    ∷ (Switch 2 32, refused NoHart)
    ∷ (Flush 0 scope.All hart_2, refused NoHart)
    ∷ (Flush 0 (scope.Space 1) (hart_1 + hart_2), refused NoHart)
    ∷ (Unmap 1 (Space 1) (small_page 0x1000) (hart_0 + hart_2), refused NoHart)
    ∷ (Protect 1 (Space 1) (small_page 0x1000) (flags W) (hart_1 + hart_2), refused NoHart)
    ∷ (Post 0 0 0, refused NoHart)
    ∷ (Take 0 0, refused NoHart)
    ∷ (Collect 0 0 0, refused NoHart)
    ∷ (Close 0 0, refused NoHart)
    ∷ (Close 0 2, refused NoHart)
    ∷ (Flush 0 (scope.Space 1) hart_1, refused NoSpace)
    ∷ (Map 1 (Space 1) (small_page 0x1000) 0x100 (flags W), refused NoSpace)
    ∷ (Switch 0 32, refused NoSpace)
    ∷ (Protect 1 (Space 0) (small_page 0x1000) (flags W) hart_0, refused NotHome)
    ∷ (Unmap 1 (Space 0) (small_page 0x1000) hart_0, refused NotHome)
    ∷ (Unmap 0 (Space 0) (small_page 0x1000) hart_1, refused NotMapped)
    ∷ (Protect 0 (Space 0) (small_page 0x1000) (flags W) hart_1, refused BadFlags)
    ∷ (Protect 0 (Space 0) (small_page 0x1000) (flags (R + U + A + D)) hart_1, refused NotMapped)
    ∷ (Flush 0 scope.All hart_1, refused HomeNotNamed)
    ∷ (Post 0 0 1, refused NotOpen)
    ∷ (Post 0 64 1, refused NotOpen)
    ∷ (AckSelf 0 0, refused NotOpen)
    ∷ (Collect 0 0 1, refused NotOpen)
    ∷ (Finish 0 0, refused NotOpen)
    ∷ (Load 0, refused NotWalking)
    ∷ (ServeFence 0, refused NotServing)
    ∷ (Ack 0, refused NotServing)
    ∷ (Take 0 1, refused Empty)
    ∷ []

-- an access of an address that is not canonical begins no walk; what hart 0 may not do while it
-- walks, and what it may
abbrev pub while_walking : List Step
while_walking =
    (Begin 0 0x4000000000 access.Load user, trap 13 NotCanonical)
    ∷ (Load 0, refused NotWalking)
    ∷ (Begin 0 0x1000 access.Load user, More)
    ∷ (Begin 0 0x4000000000 access.Load user, refused Walking)
    ∷ (Switch 0 32, refused NoSpace)
    ∷ (Switch 0 0, refused Walking)
    ∷ (Fence 0 None None, refused Walking)
    ∷ (Take 0 1, refused Walking)
    ∷ (ServeFence 0, refused Walking)
    ∷ (Ack 0, refused NotServing)
    ∷ (Flush 0 scope.All hart_0, Opened 0)
    ∷ (AckSelf 0 1, refused NotOpen)
    ∷ (AckSelf 0 0, refused Walking)
    ∷ (Post 0 0 1, refused NotNamed)
    ∷ (Collect 0 0 1, refused NotNamed)
    ∷ (Finish 0 0, refused NotDone)
    ∷ (Load 0, trap 13 Invalid)
    ∷ (AckSelf 0 0, Done)
    ∷ (AckSelf 0 0, Done)
    ∷ (Finish 0 0, Ok)
    ∷ (AckSelf 0 0, refused NotOpen)
    ∷ []

-- what hart 0 may not do while it serves a request of hart 1, and what it may; a fence of its own
-- is no service
abbrev pub while_serving : List Step
while_serving =
    (Flush 1 scope.All (hart_0 + hart_1), Opened 0)
    ∷ (Post 1 0 0, Ok)
    ∷ (Close 1 0, Ok)
    ∷ (Post 1 0 0, refused AlreadyPosted)
    ∷ (Take 0 1, taken 0 All)
    ∷ (Begin 0 0x4000000000 access.Load user, refused Serving)
    ∷ (Take 0 1, refused Serving)
    ∷ (Switch 0 0, Ok)
    ∷ (Fence 0 None None, Ok)
    ∷ (Ack 0, refused NotFenced)
    ∷ (Collect 1 0 0, Waiting (hart_0 + hart_1))
    ∷ (ServeFence 0, Ok)
    ∷ (ServeFence 0, Ok)
    ∷ (Ack 0, Ok)
    ∷ (Ack 0, refused NotServing)
    ∷ (AckSelf 1 0, Waiting hart_0)
    ∷ (Finish 1 0, refused NotDone)
    ∷ (Collect 1 0 0, Done)
    ∷ (Collect 1 0 0, Done)
    ∷ (Finish 1 0, Ok)
    ∷ []

-- the refusals in the order of their numbers, from 1 on
abbrev pub numbered_refusals : List Refusal
numbered_refusals =
    NoHart ∷ NoSpace ∷ NotHome ∷ WrongHalf ∷ BadFlags ∷ PpnTooLarge ∷ Misaligned ∷ AlreadyMapped
    ∷ LeafInWay ∷ TableInWay ∷ NoFrame
    ∷ NotMapped ∷ WrongSize ∷ HomeNotNamed ∷ NoTicket ∷ NotOpen ∷ NotNamed ∷ AlreadyPosted ∷ Closed
    ∷ Full ∷ Empty ∷ Walking ∷ NotWalking
    ∷ Serving ∷ NotServing ∷ NotFenced ∷ NotDone ∷ Retiring ∷ InUse ∷ NotAcked ∷ NotRetiring
    ∷ NotFree ∷ AsidInUse ∷ []

abbrev pub refusals_in_order : List Step
refusals_in_order = nothing_there ++ while_walking ++ while_serving

-- of two harts and two spaces: hart 2 is not there, which is asked first, of a space that is live,
-- retiring or free
abbrev pub no_such_hart : List Step
no_such_hart =
    (Retire 2 3, refused NoHart)
    ∷ (Reclaim 2 3, refused NoHart)
    ∷ (Create 2 3 1, refused NoHart)
    ∷ (Retire 0 1, Opened 0)
    ∷ (Map 2 (Space 1) (small_page 0x1000) 0x100 (flags W), refused NoHart)
    ∷ (Unmap 1 (Space 1) (small_page 0x1000) hart_2, refused NoHart)
    ∷ (Protect 1 (Space 1) (small_page 0x1000) (flags W) hart_2, refused NoHart)
    ∷ (Flush 0 (scope.Space 1) hart_2, refused NoHart)
    ∷ (Switch 2 1, refused NoHart)
    ∷ (AckSelf 0 0, Waiting hart_1)
    ∷ (Post 0 0 1, Ok)
    ∷ (Take 1 0, taken 0 (SpaceOf 2))
    ∷ (ServeFence 1, Ok)
    ∷ (Ack 1, Ok)
    ∷ (Collect 0 0 1, Done)
    ∷ (Reclaim 0 1, Ok)
    ∷ (Retire 2 1, refused NoHart)
    ∷ (Reclaim 2 1, refused NoHart)
    ∷ (Unmap 1 (Space 1) (small_page 0x1000) hart_2, refused NoHart)
    ∷ []
