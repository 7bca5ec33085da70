-- Worked runs of spaces that are retired, given back and created again.
use Rattle.std.specs.Prelude.{◌+◌, List, [], ◌∷◌, ◌++◌, Some}
use Rattle.pte.specs.declared.permission.Access.TheVariants as access
use Rattle.pte.specs.declared.address.What.TheVariants.{PageOf, SpaceOf}
use Rattle.spaces.specs.declared.places.Place.TheVariants.{Space}
use Rattle.history.specs.declared.event.Event.TheVariants.{Begin, Load, Map, Unmap, Protect, Flush, Switch, Post, Take, ServeFence, Ack, AckSelf, Collect, Finish, Retire, Reclaim, Create}
use Rattle.history.specs.declared.event.Scope.TheVariants as scope
use Rattle.history.specs.declared.refusal.Refusal.TheVariants.{NoSpace, Retiring, InUse, NotAcked, NotRetiring, NotFree, AsidInUse}
use Rattle.history.specs.declared.reply.Reply.TheVariants.{Hit, More, Filled, Table, Leaf, Opened, Ok, Done, Waiting}
use Rattle.counterexamples.specs.WorkedRuns.{Step, small_page, flags, R, U, A, D, user, hart_0, hart_1, refused, taken}

-- hart 1 holds a page of space 1, which is retired: it holds it still when it takes the request
abbrev pub retired_until_service : List Step
retired_until_service =
    (Map 0 (Space 1) (small_page 0x1000) 0x100 (flags (R + U + A + D)), Table 0x80003)
    ∷ (Map 0 (Space 1) (small_page 0x1000) 0x100 (flags (R + U + A + D)), Table 0x80004)
    ∷ (Map 0 (Space 1) (small_page 0x1000) 0x100 (flags (R + U + A + D)), Leaf)
    ∷ (Switch 1 1, Ok)
    ∷ (Begin 1 0x1004 access.Load user, More)
    ∷ (Load 1, More)
    ∷ (Load 1, More)
    ∷ (Load 1, Filled 0x100004)
    ∷ (Retire 0 1, refused InUse)
    ∷ (Switch 1 0, Ok)
    ∷ (Reclaim 0 1, refused NotRetiring)
    ∷ (Retire 0 1, Opened 0)
    ∷ (Switch 1 1, refused Retiring)
    ∷ (Reclaim 0 1, refused NotAcked)
    ∷ (Create 0 1 2, refused NotFree)
    ∷ (AckSelf 0 0, Waiting hart_1)
    ∷ (Post 0 0 1, Ok)
    ∷ (Take 1 0, taken 0 (SpaceOf 2))
    ∷ []

-- then it holds nothing of the space, which is given back once every hart is collected
abbrev pub retired_until_acknowledged : List Step
retired_until_acknowledged = retired_until_service ++ (ServeFence 1, Ok) ∷ (Ack 1, Ok) ∷ []

abbrev pub retired_and_given_back : List Step
retired_and_given_back =
    retired_until_acknowledged ++ (Collect 0 0 1, Done) ∷ (Finish 0 0, Ok) ∷ (Reclaim 0 1, Ok) ∷ []

-- it is created again with the same ASID: the page is mapped to another PPN in the same two frames,
-- and hart 1 walks to it
abbrev pub retired_and_created_anew : List Step
retired_and_created_anew =
    retired_and_given_back
    ++ (Switch 0 1, refused NoSpace)
    ∷ (Create 0 1 1, refused AsidInUse)
    ∷ (Create 0 1 2, Ok)
    ∷ (Map 0 (Space 1) (small_page 0x1000) 0x101 (flags (R + U + A + D)), Table 0x80003)
    ∷ (Map 0 (Space 1) (small_page 0x1000) 0x101 (flags (R + U + A + D)), Table 0x80004)
    ∷ (Map 0 (Space 1) (small_page 0x1000) 0x101 (flags (R + U + A + D)), Leaf)
    ∷ (Switch 1 1, Ok)
    ∷ (Begin 1 0x1004 access.Load user, More)
    ∷ (Load 1, More)
    ∷ (Load 1, More)
    ∷ (Load 1, Filled 0x101004)
    ∷ []

-- a page of ASID 2 is unmapped, and its space given back; ASID 2 goes to space 0 of the same home
-- once that was given back too: a hart that acknowledged the unmapping holds the page of the new
-- space, which was mapped in it
abbrev pub asid_used_again : List Step
asid_used_again =
    (Map 0 (Space 1) (small_page 0x1000) 0x100 (flags (R + U + A + D)), Table 0x80003)
    ∷ (Map 0 (Space 1) (small_page 0x1000) 0x100 (flags (R + U + A + D)), Table 0x80004)
    ∷ (Map 0 (Space 1) (small_page 0x1000) 0x100 (flags (R + U + A + D)), Leaf)
    ∷ (Unmap 0 (Space 1) (small_page 0x1000) hart_0, Opened 0)
    ∷ (AckSelf 0 0, Done)
    ∷ (Retire 0 1, Opened 1)
    ∷ (AckSelf 0 1, Waiting hart_1)
    ∷ (Post 0 1 1, Ok)
    ∷ (Take 1 0, taken 1 (SpaceOf 2))
    ∷ (ServeFence 1, Ok)
    ∷ (Ack 1, Ok)
    ∷ (Collect 0 1 1, Done)
    ∷ (Reclaim 0 1, Ok)
    ∷ (Create 0 1 3, Ok)
    ∷ (Switch 0 1, Ok)
    ∷ (Switch 1 1, Ok)
    ∷ (Retire 0 0, Opened 2)
    ∷ (AckSelf 0 2, Waiting hart_1)
    ∷ (Post 0 2 1, Ok)
    ∷ (Take 1 0, taken 2 (SpaceOf 1))
    ∷ (ServeFence 1, Ok)
    ∷ (Ack 1, Ok)
    ∷ (Collect 0 2 1, Done)
    ∷ (Reclaim 0 0, Ok)
    ∷ (Create 0 0 2, Ok)
    ∷ (Map 0 (Space 0) (small_page 0x1000) 0x101 (flags (R + U + A + D)), Table 0x80003)
    ∷ (Map 0 (Space 0) (small_page 0x1000) 0x101 (flags (R + U + A + D)), Table 0x80004)
    ∷ (Map 0 (Space 0) (small_page 0x1000) 0x101 (flags (R + U + A + D)), Leaf)
    ∷ (Switch 0 0, Ok)
    ∷ (Begin 0 0x1004 access.Load user, More)
    ∷ (Load 0, More)
    ∷ (Load 0, More)
    ∷ (Load 0, Filled 0x101004)
    ∷ []

-- before its retirement space 1 of ASID 2 is flushed, and its page at 0x1000 unmapped; it is
-- created again with ASID 7 before hart 1 serves these two requests, which are for ASID 2 still:
-- hart 1 keeps the page of ASID 7
abbrev pub orders_keep_their_asid : List Step
orders_keep_their_asid =
    (Map 0 (Space 1) (small_page 0x1000) 0x100 (flags (R + U + A + D)), Table 0x80003)
    ∷ (Map 0 (Space 1) (small_page 0x1000) 0x100 (flags (R + U + A + D)), Table 0x80004)
    ∷ (Map 0 (Space 1) (small_page 0x1000) 0x100 (flags (R + U + A + D)), Leaf)
    ∷ (Switch 1 1, Ok)
    ∷ (Begin 1 0x1004 access.Load user, More)
    ∷ (Load 1, More)
    ∷ (Load 1, More)
    ∷ (Load 1, Filled 0x100004)
    ∷ (Begin 1 0x1004 access.Load user, Hit 0x100004)
    ∷ (Switch 1 0, Ok)
    ∷ (Flush 0 (scope.Space 1) (hart_0 + hart_1), Opened 0)
    ∷ (Unmap 0 (Space 1) (small_page 0x1000) (hart_0 + hart_1), Opened 1)
    ∷ (Retire 0 1, Opened 2)
    ∷ (AckSelf 0 2, Waiting hart_1)
    ∷ (Post 0 2 1, Ok)
    ∷ (Take 1 0, taken 2 (SpaceOf 2))
    ∷ (ServeFence 1, Ok)
    ∷ (Ack 1, Ok)
    ∷ (Collect 0 2 1, Done)
    ∷ (Reclaim 0 1, Ok)
    ∷ (Create 0 1 7, Ok)
    ∷ (Map 0 (Space 1) (small_page 0x1000) 0x101 (flags (R + U + A + D)), Table 0x80003)
    ∷ (Map 0 (Space 1) (small_page 0x1000) 0x101 (flags (R + U + A + D)), Table 0x80004)
    ∷ (Map 0 (Space 1) (small_page 0x1000) 0x101 (flags (R + U + A + D)), Leaf)
    ∷ (Switch 1 1, Ok)
    ∷ (Begin 1 0x1004 access.Load user, More)
    ∷ (Load 1, More)
    ∷ (Load 1, More)
    ∷ (Load 1, Filled 0x101004)
    ∷ (Post 0 0 1, Ok)
    ∷ (Post 0 1 1, Ok)
    ∷ (Take 1 0, taken 0 (SpaceOf 2))
    ∷ (ServeFence 1, Ok)
    ∷ (Ack 1, Ok)
    ∷ (Begin 1 0x1004 access.Load user, Hit 0x101004)
    ∷ (Take 1 0, taken 1 (PageOf (small_page 0x1000) (Some 2)))
    ∷ (ServeFence 1, Ok)
    ∷ (Ack 1, Ok)
    ∷ (Begin 1 0x1004 access.Load user, Hit 0x101004)
    ∷ []

-- an order that is opened after that is for ASID 7, and so is that of a change of the page
abbrev pub orders_of_the_new_asid : List Step
orders_of_the_new_asid =
    orders_keep_their_asid
    ++ (Flush 0 (scope.Space 1) (hart_0 + hart_1), Opened 3)
    ∷ (Post 0 3 1, Ok)
    ∷ (Take 1 0, taken 3 (SpaceOf 7))
    ∷ (ServeFence 1, Ok)
    ∷ (Ack 1, Ok)
    ∷ (Begin 1 0x1004 access.Load user, More)
    ∷ (Load 1, More)
    ∷ (Load 1, More)
    ∷ (Load 1, Filled 0x101004)
    ∷ (Protect 0 (Space 1) (small_page 0x1000) (flags (R + A + D)) (hart_0 + hart_1), Opened 4)
    ∷ (Collect 0 3 1, Waiting hart_0)
    ∷ (Post 0 4 1, Ok)
    ∷ (Take 1 0, taken 4 (PageOf (small_page 0x1000) (Some 7)))
    ∷ []

-- then the page of ASID 2 is unmapped once more, in the space that has the ASID now
abbrev pub unmapped_by_the_new_asid : List Step
unmapped_by_the_new_asid =
    asid_used_again ++ (Unmap 0 (Space 0) (small_page 0x1000) hart_0, Opened 3) ∷ []
