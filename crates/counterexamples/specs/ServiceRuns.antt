-- Worked runs of what stays: a hart holds two pages of a space, a page of another space and a
-- kernel page, and acknowledges a request for one of them, for a space, for the kernel page or for
-- all. What the request does not name it still hits.
use Rattle.std.specs.Prelude.{ℕ, ◌+◌, List, [], ◌∷◌, ◌++◌, Some, None}
use Rattle.pte.specs.declared.address.What.{What}
use Rattle.pte.specs.declared.address.What.TheVariants.{PageOf, SpaceOf, All}
use Rattle.pte.specs.declared.permission.Access.TheVariants as access
use Rattle.pte.specs.declared.permission.Ctx.{Ctx}
use Rattle.walk.specs.declared.found_or_trap.Why.TheVariants.{Invalid}
use Rattle.spaces.specs.declared.places.Place.TheVariants.{Space, Kernel}
use Rattle.history.specs.declared.event.Event.TheVariants.{Begin, Load, Map, Unmap, Protect, Flush, Switch, Post, Take, ServeFence, Ack, AckSelf, Collect}
use Rattle.history.specs.declared.event.Scope.TheVariants as scope
use Rattle.history.specs.declared.refusal.Refusal.TheVariants.{HomeNotNamed, NotFenced}
use Rattle.history.specs.declared.reply.Reply.TheVariants.{Hit, More, Filled, Table, Leaf, Opened, Ok, Done, Waiting}
use Rattle.history.specs.Setup.{Setup}
use Rattle.counterexamples.specs.WorkedRuns.{Step, two_spaces, small_page, flags, R, W, U, G, A, D, user, supervisor, hart_0, hart_1, hart_2, refused, trap, taken}

-- two spaces of ASIDs 9 and 4, both at home on hart 0
abbrev pub spaces_of_other_asids : Setup
spaces_of_other_asids = two_spaces (0 ∷ 0 ∷ []) (9 ∷ 4 ∷ [])

-- pages at 0x1000 and 0x2000 of space 0, at 0x1000 of space 1, and a kernel page
abbrev pub four_pages : List Step
four_pages =
    (Map 0 (Space 0) (small_page 0x1000) 0x100 (flags (R + U + A + D)), Table 0x80003)
    ∷ (Map 0 (Space 0) (small_page 0x1000) 0x100 (flags (R + U + A + D)), Table 0x80004)
    ∷ (Map 0 (Space 0) (small_page 0x1000) 0x100 (flags (R + U + A + D)), Leaf)
    ∷ (Map 0 (Space 0) (small_page 0x2000) 0x101 (flags (R + U + A + D)), Leaf)
    ∷ (Map 0 (Space 1) (small_page 0x1000) 0x102 (flags (R + U + A + D)), Table 0x80005)
    ∷ (Map 0 (Space 1) (small_page 0x1000) 0x102 (flags (R + U + A + D)), Table 0x80006)
    ∷ (Map 0 (Space 1) (small_page 0x1000) 0x102 (flags (R + U + A + D)), Leaf)
    ∷ (
      Map 0 Kernel (small_page 0xffffffffc0000000) 0x300 (flags (R + W + G + A + D)),
      Table
          0x80007,
    )
    ∷ (Map 0 Kernel (small_page 0xffffffffc0000000) 0x300 (flags (R + W + G + A + D)), Leaf)
    ∷ []

-- the hart finds the page by a walk of three loads, or hits it, or finds that nothing is mapped
abbrev pub walks_to : ℕ → ℕ → Ctx → ℕ → List Step
walks_to hart va ctx pa =
    (Begin hart va access.Load ctx, More) ∷ (Load hart, More) ∷ (Load hart, More)
    ∷ (Load hart, Filled pa) ∷ []

abbrev pub hits : ℕ → ℕ → Ctx → ℕ → List Step
hits hart va ctx pa = (Begin hart va access.Load ctx, Hit pa) ∷ []

abbrev pub finds_nothing : ℕ → ℕ → Ctx → List Step
finds_nothing hart va ctx =
    (Begin hart va access.Load ctx, More) ∷ (Load hart, More) ∷ (Load hart, More)
    ∷ (Load hart, trap 13 Invalid) ∷ []

-- the four by a walk, the page of space 1 last: the hart is in space 1 then
abbrev pub walks_to_four : ℕ → List Step
walks_to_four hart =
    walks_to hart 0x1004 user 0x100004
    ++ walks_to hart 0x2004 user 0x101004
    ++ walks_to hart 0xffffffffc0000008 supervisor 0x300008
    ++ (Switch hart 1, Ok)
    ∷ walks_to hart 0x1004 user 0x102004

-- hart 0 holds the page at 0x1000 of space 0, and hart 1 holds the four
abbrev pub four_held : List Step
four_held = four_pages ++ walks_to 0 0x1004 user 0x100004 ++ walks_to_four 1

-- hart 1 takes the request of ticket 0, fences and acknowledges
abbrev pub served_by_1 : What → List Step
served_by_1 what =
    (Post 0 0 1, Ok) ∷ (Take 1 0, taken 0 what) ∷ (ServeFence 1, Ok) ∷ (Ack 1, Ok) ∷ []

-- a request for the page at 0x1000 of space 0 drops that page alone, of the hart that serves it
-- alone
abbrev pub service_of_a_page : List Step
service_of_a_page =
    four_held
    ++ (Unmap 0 (Space 0) (small_page 0x1000) (hart_0 + hart_1), Opened 0)
    ∷ served_by_1 (PageOf (small_page 0x1000) (Some 9))
    ++ hits 1 0x1004 user 0x102004
    ++ hits 1 0xffffffffc0000008 supervisor 0x300008
    ++ (Switch 1 0, Ok)
    ∷ hits 1 0x2004 user 0x101004
    ++ finds_nothing 1 0x1004 user
    ++ hits 0 0x1004 user 0x100004
    ++ (AckSelf 0 0, Waiting hart_1)
    ∷ finds_nothing 0 0x1004 user
    ++ (Collect 0 0 1, Done)
    ∷ []

-- one for the kernel page drops that one
abbrev pub service_of_a_kernel_page : List Step
service_of_a_kernel_page =
    four_held
    ++ (Unmap 0 Kernel (small_page 0xffffffffc0000000) (hart_0 + hart_1), Opened 0)
    ∷ served_by_1 (PageOf (small_page 0xffffffffc0000000) None)
    ++ hits 1 0x1004 user 0x102004
    ++ finds_nothing 1 0xffffffffc0000008 supervisor
    ++ (Switch 1 0, Ok)
    ∷ hits 1 0x1004 user 0x100004
    ++ hits 1 0x2004 user 0x101004
    ++ (AckSelf 0 0, Waiting hart_1)
    ∷ hits 0 0x1004 user 0x100004

-- one for space 0 drops its two pages
abbrev pub service_of_a_space : List Step
service_of_a_space =
    four_held
    ++ (Flush 0 (scope.Space 0) (hart_0 + hart_1), Opened 0)
    ∷ served_by_1 (SpaceOf 9)
    ++ hits 1 0x1004 user 0x102004
    ++ hits 1 0xffffffffc0000008 supervisor 0x300008
    ++ (Switch 1 0, Ok)
    ∷ walks_to 1 0x1004 user 0x100004
    ++ walks_to 1 0x2004 user 0x101004
    ++ hits 0 0x1004 user 0x100004

-- one for all drops the four
abbrev pub service_of_all : List Step
service_of_all =
    four_held
    ++ (Flush 0 scope.All (hart_0 + hart_1), Opened 0)
    ∷ served_by_1 All
    ++ walks_to 1 0x1004 user 0x102004
    ++ walks_to 1 0xffffffffc0000008 supervisor 0x300008
    ++ (Switch 1 0, Ok)
    ∷ walks_to 1 0x1004 user 0x100004
    ++ walks_to 1 0x2004 user 0x101004
    ++ hits 0 0x1004 user 0x100004

-- hart 0 holds the four, and hart 1 the page at 0x1000 of space 0
abbrev pub four_held_by_0 : List Step
four_held_by_0 = four_pages ++ walks_to 1 0x1004 user 0x100004 ++ walks_to_four 0

-- the same of a hart's own acknowledgement: it drops what the request names, of this hart alone
abbrev pub own_acknowledgement_of_a_page : List Step
own_acknowledgement_of_a_page =
    four_held_by_0
    ++ (Unmap 0 (Space 0) (small_page 0x1000) (hart_0 + hart_1), Opened 0)
    ∷ (AckSelf 0 0, Waiting hart_1)
    ∷ hits 0 0x1004 user 0x102004
    ++ hits 0 0xffffffffc0000008 supervisor 0x300008
    ++ (Switch 0 0, Ok)
    ∷ hits 0 0x2004 user 0x101004
    ++ finds_nothing 0 0x1004 user
    ++ hits 1 0x1004 user 0x100004

abbrev pub own_acknowledgement_of_a_kernel_page : List Step
own_acknowledgement_of_a_kernel_page =
    four_held_by_0
    ++ (Unmap 0 Kernel (small_page 0xffffffffc0000000) hart_0, Opened 0)
    ∷ (AckSelf 0 0, Done)
    ∷ hits 0 0x1004 user 0x102004
    ++ finds_nothing 0 0xffffffffc0000008 supervisor
    ++ (Switch 0 0, Ok)
    ∷ hits 0 0x1004 user 0x100004
    ++ hits 0 0x2004 user 0x101004

abbrev pub own_acknowledgement_of_a_space : List Step
own_acknowledgement_of_a_space =
    four_held_by_0
    ++ (Flush 0 (scope.Space 0) hart_0, Opened 0)
    ∷ (AckSelf 0 0, Done)
    ∷ hits 0 0x1004 user 0x102004
    ++ hits 0 0xffffffffc0000008 supervisor 0x300008
    ++ (Switch 0 0, Ok)
    ∷ walks_to 0 0x1004 user 0x100004
    ++ walks_to 0 0x2004 user 0x101004
    ++ hits 1 0x1004 user 0x100004

abbrev pub own_acknowledgement_of_all : List Step
own_acknowledgement_of_all =
    four_held_by_0
    ++ (Flush 0 scope.All hart_0, Opened 0)
    ∷ (AckSelf 0 0, Done)
    ∷ walks_to 0 0x1004 user 0x102004
    ++ walks_to 0 0xffffffffc0000008 supervisor 0x300008
    ++ (Switch 0 0, Ok)
    ∷ walks_to 0 0x1004 user 0x100004
    ++ walks_to 0 0x2004 user 0x101004
    ++ hits 1 0x1004 user 0x100004

-- two harts serve one order: the fence of the one is no fence of the other
abbrev pub two_harts_serve : List Step
two_harts_serve =
    (Flush 0 scope.All (hart_0 + hart_1 + hart_2), Opened 0)
    ∷ (Post 0 0 1, Ok)
    ∷ (Post 0 0 2, Ok)
    ∷ (Take 1 0, taken 0 All)
    ∷ (Take 2 0, taken 0 All)
    ∷ (ServeFence 1, Ok)
    ∷ (Ack 2, refused NotFenced)
    ∷ (ServeFence 2, Ok)
    ∷ (Ack 2, Ok)
    ∷ (Ack 1, Ok)
    ∷ []

-- an unmapping that is refused leaves the page mapped
abbrev pub refused_unmapping : List Step
refused_unmapping =
    (Map 0 (Space 0) (small_page 0x1000) 0x100 (flags (R + U + A + D)), Table 0x80002)
    ∷ (Map 0 (Space 0) (small_page 0x1000) 0x100 (flags (R + U + A + D)), Table 0x80003)
    ∷ (Map 0 (Space 0) (small_page 0x1000) 0x100 (flags (R + U + A + D)), Leaf)
    ∷ (Unmap 0 (Space 0) (small_page 0x1000) hart_1, refused HomeNotNamed)
    ∷ (Protect 0 (Space 0) (small_page 0x1000) (flags (R + U)) hart_1, refused HomeNotNamed)
    ∷ walks_to 1 0x1004 user 0x100004
