-- Runs with replies that are not due: mailboxes that give out what they should not, or accept what
-- they should refuse; spaces that are given back or created too early; and, to compare, one whose
-- replies are due.
use Rattle.std.specs.Prelude.{◌+◌, List, [], ◌∷◌, ◌++◌}
use Rattle.pte.specs.declared.address.What.TheVariants.{All}
use Rattle.pte.specs.declared.permission.Access.TheVariants as access
use Rattle.spaces.specs.declared.places.Place.TheVariants.{Space}
use Rattle.history.specs.declared.event.Event.TheVariants.{Begin, Load, Map, Flush, Switch, Post, Take, Close, Retire, Reclaim, Create}
use Rattle.history.specs.declared.event.Scope.TheVariants as scope
use Rattle.history.specs.declared.reply.Reply.TheVariants.{More, Table, Leaf, Opened, Ok}
use Rattle.counterexamples.specs.WorkedRuns.{Step, small_page, flags, R, U, A, D, user, hart_0, hart_1, taken}

abbrev pub two_orders : List Step
two_orders =
    (Flush 0 scope.All (hart_0 + hart_1), Opened 0)
    ∷ (Flush 0 scope.All (hart_0 + hart_1), Opened 1) ∷ []

abbrev pub two_posts : List Step
two_posts = two_orders ++ (Post 0 0 1, Ok) ∷ (Post 0 1 1, Ok) ∷ []

-- a Take answers what waits second, what was taken before, or what was never posted
abbrev pub taken_out_of_order : List Step
taken_out_of_order = two_posts ++ (Take 1 0, taken 1 All) ∷ []

abbrev pub taken_twice : List Step
taken_twice = two_posts ++ (Take 1 0, taken 0 All) ∷ (Take 1 0, taken 0 All) ∷ []

abbrev pub taken_of_nothing : List Step
taken_of_nothing = two_orders ++ (Take 1 0, taken 0 All) ∷ []

-- a Post is accepted after the Close of its pair, and taken later
abbrev pub posted_after_close : List Step
posted_after_close = two_orders ++ (Post 0 0 1, Ok) ∷ (Close 0 1, Ok) ∷ (Post 0 1 1, Ok) ∷ []

abbrev pub posted_after_close_and_taken : List Step
posted_after_close_and_taken =
    posted_after_close ++ (Take 1 0, taken 0 All) ∷ (Take 1 0, taken 1 All) ∷ []

-- a Close of the mailbox in the other direction is no Close of this one
abbrev pub posted_after_close_of_the_other : List Step
posted_after_close_of_the_other =
    two_orders ++ (Close 1 0, Ok) ∷ (Post 0 0 1, Ok) ∷ (Post 0 1 1, Ok) ∷ []

-- a Post from hart 1 to hart 0 is accepted after the Close of that pair
abbrev pub posted_after_close_from_1 : List Step
posted_after_close_from_1 =
    (Flush 1 scope.All (hart_0 + hart_1), Opened 0) ∷ (Close 1 0, Ok) ∷ (Post 1 0 0, Ok) ∷ []

-- of two spaces of one home: space 1 is retired, or given back, while hart 1 walks in it
abbrev pub retired_in_mid_walk : List Step
retired_in_mid_walk =
    (Switch 1 1, Ok) ∷ (Begin 1 0x1000 access.Load user, More) ∷ (Retire 0 1, Opened 0) ∷ []

abbrev pub given_back_in_mid_walk : List Step
given_back_in_mid_walk = retired_in_mid_walk ++ (Reclaim 0 1, Ok) ∷ []

-- a new table of each of two spaces is the frame 0x80003, which is given back with space 1; hart 1
-- walks to it in space 0
abbrev pub one_frame_for_two_spaces : List Step
one_frame_for_two_spaces =
    (Map 0 (Space 0) (small_page 0x1000) 0x100 (flags (R + U + A + D)), Table 0x80003)
    ∷ (Map 0 (Space 1) (small_page 0x1000) 0x100 (flags (R + U + A + D)), Table 0x80003)
    ∷ (Retire 0 1, Opened 0)
    ∷ (Reclaim 0 1, Ok)
    ∷ (Begin 1 0x1000 access.Load user, More)
    ∷ (Load 1, More)
    ∷ []

-- space 1 is created with the ASID of space 0
abbrev pub created_with_a_used_asid : List Step
created_with_a_used_asid = (Retire 0 1, Opened 0) ∷ (Reclaim 0 1, Ok) ∷ (Create 0 1 1, Ok) ∷ []

-- a page is mapped in space 1, which is free
abbrev pub mapped_in_a_free_space : List Step
mapped_in_a_free_space =
    (Retire 0 1, Opened 0)
    ∷ (Reclaim 0 1, Ok)
    ∷ (Map 0 (Space 1) (small_page 0x1000) 0x100 (flags (R + U + A + D)), Table 0x80003)
    ∷ (Map 0 (Space 1) (small_page 0x1000) 0x100 (flags (R + U + A + D)), Table 0x80004)
    ∷ (Map 0 (Space 1) (small_page 0x1000) 0x100 (flags (R + U + A + D)), Leaf)
    ∷ []
