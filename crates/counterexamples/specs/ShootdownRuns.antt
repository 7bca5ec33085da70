-- Worked runs of shootdowns: a page of a space is unmapped, or a space is flushed, while another
-- hart holds what goes.
use Rattle.std.specs.Prelude.{◌+◌, List, [], ◌∷◌, ◌++◌, Some}
use Rattle.pte.specs.declared.address.What.{What}
use Rattle.pte.specs.declared.address.What.TheVariants.{PageOf, SpaceOf}
use Rattle.pte.specs.declared.permission.Access.TheVariants as access
use Rattle.walk.specs.declared.found_or_trap.Why.TheVariants.{Invalid, Denied}
use Rattle.spaces.specs.declared.places.Place.TheVariants.{Space}
use Rattle.history.specs.declared.event.Event.TheVariants.{Begin, Load, Map, Unmap, Protect, Flush, Switch, Post, Take, ServeFence, Ack, AckSelf, Collect, Finish}
use Rattle.history.specs.declared.event.Scope.TheVariants as scope
use Rattle.history.specs.declared.refusal.Refusal.TheVariants.{AlreadyPosted, Walking, Serving, NotServing, NotFenced, NotDone}
use Rattle.history.specs.declared.reply.Reply.TheVariants.{Hit, More, Filled, Table, Leaf, Opened, Ok, Done, Waiting}
use Rattle.history.specs.Setup.{Setup}
use Rattle.counterexamples.specs.WorkedRuns.{Step, two_spaces, small_page, large_page, flags, R, W, U, A, D, user, hart_0, hart_1, hart_2, refused, trap, taken}

-- the page of 2 MiB at 0x400000, mapped to PPN 0x200
abbrev pub map_superpage : List Step
map_superpage =
    (Map 0 (Space 0) (large_page 0x400000) 0x200 (flags (R + W + U + A + D)), Table 0x80002)
    ∷ (Map 0 (Space 0) (large_page 0x400000) 0x200 (flags (R + W + U + A + D)), Leaf)
    ∷ []

abbrev pub superpage_of_space : What
superpage_of_space = PageOf (large_page 0x400000) (Some 1)

-- hart 1 holds the superpage when hart 0 unmaps it, and may use it until it serves the request
abbrev pub superpage_until_service : List Step
superpage_until_service =
    map_superpage
    ++ (Begin 1 0x5fffff access.Load user, More)
    ∷ (Load 1, More)
    ∷ (Load 1, Filled 0x3fffff)
    ∷ (Unmap 0 (Space 0) (large_page 0x400000) (hart_0 + hart_1), Opened 0)
    ∷ (Begin 1 0x5fffff access.Load user, Hit 0x3fffff)
    ∷ (Post 0 0 1, Ok)
    ∷ (Take 1 0, taken 0 superpage_of_space)
    ∷ (Begin 1 0x5fffff access.Load user, refused Serving)
    ∷ []

abbrev pub superpage_until_acknowledged : List Step
superpage_until_acknowledged = superpage_until_service ++ (ServeFence 1, Ok) ∷ (Ack 1, Ok) ∷ []

-- then no address of the page is translated, and the ticket is finished once both harts are
-- collected
abbrev pub superpage_shootdown : List Step
superpage_shootdown =
    superpage_until_acknowledged
    ++ (Begin 1 0x5fffff access.Load user, More)
    ∷ (Load 1, More)
    ∷ (Load 1, trap 13 Invalid)
    ∷ (Collect 0 0 1, Waiting hart_0)
    ∷ (Finish 0 0, refused NotDone)
    ∷ (AckSelf 0 0, Done)
    ∷ (Finish 0 0, Ok)
    ∷ []

-- the number of the finished ticket is given to the next order
abbrev pub ticket_used_again : List Step
ticket_used_again = superpage_shootdown ++ (Flush 0 scope.All (hart_0 + hart_1), Opened 0) ∷ []

-- the superpage is unmapped between two loads of a walk: the last load sees it, and the hart takes
-- no request before
abbrev pub unmapped_in_mid_walk : List Step
unmapped_in_mid_walk =
    map_superpage
    ++ (Begin 1 0x400000 access.Load user, More)
    ∷ (Load 1, More)
    ∷ (Unmap 0 (Space 0) (large_page 0x400000) (hart_0 + hart_1), Opened 0)
    ∷ (Post 0 0 1, Ok)
    ∷ (Take 1 0, refused Walking)
    ∷ (Load 1, trap 13 Invalid)
    ∷ (Take 1 0, taken 0 superpage_of_space)
    ∷ (Ack 1, refused NotFenced)
    ∷ (ServeFence 1, Ok)
    ∷ (Ack 1, Ok)
    ∷ (Ack 1, refused NotServing)
    ∷ []

-- the page of 4 KiB at 0x1000
abbrev pub page_of_space : What
page_of_space = PageOf (small_page 0x1000) (Some 1)

-- hart 2 holds the old translation of a page that was unmapped and mapped anew, until it serves the
-- request
abbrev pub mapped_anew_until_service : List Step
mapped_anew_until_service =
    (Map 0 (Space 0) (small_page 0x1000) 0x100 (flags (R + U + A + D)), Table 0x80002)
    ∷ (Map 0 (Space 0) (small_page 0x1000) 0x100 (flags (R + U + A + D)), Table 0x80003)
    ∷ (Map 0 (Space 0) (small_page 0x1000) 0x100 (flags (R + U + A + D)), Leaf)
    ∷ (Begin 2 0x1004 access.Load user, More)
    ∷ (Load 2, More)
    ∷ (Load 2, More)
    ∷ (Load 2, Filled 0x100004)
    ∷ (Unmap 0 (Space 0) (small_page 0x1000) (hart_0 + hart_1 + hart_2), Opened 0)
    ∷ (Post 0 0 1, Ok)
    ∷ (Post 0 0 2, Ok)
    ∷ (Post 0 0 2, refused AlreadyPosted)
    ∷ (Take 1 0, taken 0 page_of_space)
    ∷ (ServeFence 1, Ok)
    ∷ (Ack 1, Ok)
    ∷ (Map 0 (Space 0) (small_page 0x1000) 0x101 (flags (R + U + A + D)), Leaf)
    ∷ (Begin 2 0x1004 access.Load user, Hit 0x100004)
    ∷ []

abbrev pub mapped_anew_until_acknowledged : List Step
mapped_anew_until_acknowledged =
    mapped_anew_until_service ++ (Take 2 0, taken 0 page_of_space) ∷ (ServeFence 2, Ok)
    ∷ (Ack 2, Ok) ∷ []

abbrev pub mapped_anew_before_service : List Step
mapped_anew_before_service =
    mapped_anew_until_acknowledged
    ++ (Begin 2 0x1004 access.Load user, More)
    ∷ (Load 2, More)
    ∷ (Load 2, More)
    ∷ (Load 2, Filled 0x101004)
    ∷ []

-- the superpage loses W while hart 1 holds it with W
abbrev pub read_only_until_service : List Step
read_only_until_service =
    map_superpage
    ++ (Begin 1 0x400000 access.Store user, More)
    ∷ (Load 1, More)
    ∷ (Load 1, Filled 0x200000)
    ∷ (
      Protect 0 (Space 0) (large_page 0x400000) (flags (R + U + A + D)) (hart_0 + hart_1),
      Opened
          0,
    )
    ∷ (Begin 1 0x400000 access.Store user, Hit 0x200000)
    ∷ []

abbrev pub read_only_until_acknowledged : List Step
read_only_until_acknowledged =
    read_only_until_service ++ (Post 0 0 1, Ok) ∷ (Take 1 0, taken 0 superpage_of_space)
    ∷ (ServeFence 1, Ok) ∷ (Ack 1, Ok) ∷ []

abbrev pub superpage_made_read_only : List Step
superpage_made_read_only =
    read_only_until_acknowledged
    ++ (Begin 1 0x400000 access.Store user, More)
    ∷ (Load 1, More)
    ∷ (Load 1, trap 15 Denied)
    ∷ []

-- two spaces of ASIDs 1 and 2, both at home on hart 0
abbrev pub spaces_of_one_home : Setup
spaces_of_one_home = two_spaces (0 ∷ 0 ∷ []) (1 ∷ 2 ∷ [])

-- hart 1 holds the page at 0x1000 of each, and is in space 1
abbrev pub held_in_both_spaces : List Step
held_in_both_spaces =
    (Map 0 (Space 0) (small_page 0x1000) 0x100 (flags (R + U + A + D)), Table 0x80003)
    ∷ (Map 0 (Space 0) (small_page 0x1000) 0x100 (flags (R + U + A + D)), Table 0x80004)
    ∷ (Map 0 (Space 0) (small_page 0x1000) 0x100 (flags (R + U + A + D)), Leaf)
    ∷ (Map 0 (Space 1) (small_page 0x1000) 0x101 (flags (R + U + A + D)), Table 0x80005)
    ∷ (Map 0 (Space 1) (small_page 0x1000) 0x101 (flags (R + U + A + D)), Table 0x80006)
    ∷ (Map 0 (Space 1) (small_page 0x1000) 0x101 (flags (R + U + A + D)), Leaf)
    ∷ (Begin 1 0x1004 access.Load user, More)
    ∷ (Load 1, More)
    ∷ (Load 1, More)
    ∷ (Load 1, Filled 0x100004)
    ∷ (Switch 1 1, Ok)
    ∷ (Begin 1 0x1004 access.Load user, More)
    ∷ (Load 1, More)
    ∷ (Load 1, More)
    ∷ (Load 1, Filled 0x101004)
    ∷ []

-- a request for a space drops what hart 1 holds of that space, and nothing of the other
abbrev pub space_flush : List Step
space_flush =
    held_in_both_spaces
    ++ (Flush 0 (scope.Space 0) (hart_0 + hart_1), Opened 0)
    ∷ (Post 0 0 1, Ok)
    ∷ (Take 1 0, taken 0 (SpaceOf 1))
    ∷ (ServeFence 1, Ok)
    ∷ (Ack 1, Ok)
    ∷ (Begin 1 0x1004 access.Load user, Hit 0x101004)
    ∷ (Switch 1 0, Ok)
    ∷ (Begin 1 0x1004 access.Load user, More)
    ∷ []
