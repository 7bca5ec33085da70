-- Worked runs of kernel pages: their entries are global, so fences and requests for one address
-- space let them stand.
use Rattle.std.specs.Prelude.{◌+◌, List, [], ◌∷◌, ◌++◌, Some, None}
use Rattle.pte.specs.declared.address.What.TheVariants.{PageOf}
use Rattle.pte.specs.declared.permission.Access.TheVariants as access
use Rattle.walk.specs.declared.found_or_trap.Why.TheVariants.{Invalid}
use Rattle.spaces.specs.declared.places.Place.TheVariants.{Kernel}
use Rattle.history.specs.declared.event.Event.TheVariants.{Begin, Load, Map, Unmap, Switch, Fence, Post, Take, ServeFence, Ack}
use Rattle.history.specs.declared.reply.Reply.TheVariants.{Hit, More, Filled, Table, Leaf, Opened, Ok}
use Rattle.history.specs.Setup.{Setup}
use Rattle.counterexamples.specs.WorkedRuns.{Step, two_spaces, small_page, flags, R, W, G, A, D, supervisor, hart_0, hart_1, trap, taken}

-- two spaces of ASIDs 1 and 2, at home on harts 0 and 1
abbrev pub spaces_of_two_homes : Setup
spaces_of_two_homes = two_spaces (0 ∷ 1 ∷ []) (1 ∷ 2 ∷ [])

-- a kernel page that hart 1 filled in space 0 is found in space 1 too
abbrev pub kernel_page_in_both_spaces : List Step
kernel_page_in_both_spaces =
    (Map 0 Kernel (small_page 0xffffffffc0000000) 0x300 (flags (R + W + G + A + D)), Table 0x80003)
    ∷ (Map 0 Kernel (small_page 0xffffffffc0000000) 0x300 (flags (R + W + G + A + D)), Leaf)
    ∷ (Begin 1 0xffffffffc0000008 access.Load supervisor, More)
    ∷ (Load 1, More)
    ∷ (Load 1, More)
    ∷ (Load 1, Filled 0x300008)
    ∷ (Switch 1 1, Ok)
    ∷ (Begin 1 0xffffffffc0000008 access.Load supervisor, Hit 0x300008)
    ∷ []

-- it outlives a fence of its address and an ASID, and goes by the request for the kernel page
abbrev pub kernel_page_until_acknowledged : List Step
kernel_page_until_acknowledged =
    kernel_page_in_both_spaces
    ++ (Fence 1 (Some 0xffffffffc0000000) (Some 2), Ok)
    ∷ (Begin 1 0xffffffffc0000008 access.Load supervisor, Hit 0x300008)
    ∷ (Unmap 0 Kernel (small_page 0xffffffffc0000000) (hart_0 + hart_1), Opened 0)
    ∷ (Post 0 0 1, Ok)
    ∷ (Take 1 0, taken 0 (PageOf (small_page 0xffffffffc0000000) None))
    ∷ (ServeFence 1, Ok)
    ∷ (Ack 1, Ok)
    ∷ []

abbrev pub kernel_page_outlives_an_asid_fence : List Step
kernel_page_outlives_an_asid_fence =
    kernel_page_until_acknowledged
    ++ (Begin 1 0xffffffffc0000008 access.Load supervisor, More)
    ∷ (Load 1, More)
    ∷ (Load 1, More)
    ∷ (Load 1, trap 13 Invalid)
    ∷ []
