-- Worked runs in which a hart still translates a page that was unmapped or changed, and may: it is
-- not named, the page was changed once more or mapped anew, or what it holds is the page of another
-- space.
use Rattle.std.specs.Prelude.{◌+◌, List, [], ◌∷◌, ◌++◌}
use Rattle.pte.specs.declared.permission.Access.TheVariants as access
use Rattle.spaces.specs.declared.places.Place.TheVariants.{Space}
use Rattle.history.specs.declared.event.Event.TheVariants.{Begin, Load, Map, Unmap, Protect, Post, Take, ServeFence, Ack, AckSelf, Finish}
use Rattle.history.specs.declared.refusal.Refusal.TheVariants.{Misaligned, NotMapped}
use Rattle.history.specs.declared.reply.Reply.TheVariants.{Hit, More, Filled, Table, Leaf, Opened, Ok, Done}
use Rattle.counterexamples.specs.WorkedRuns.{Step, small_page, large_page, flags, R, U, A, D, user, hart_0, hart_1, refused, taken}
use Rattle.counterexamples.specs.ShootdownRuns.{map_superpage, superpage_until_acknowledged, read_only_until_acknowledged, held_in_both_spaces, page_of_space}

-- hart 1 holds the superpage, and is not named: it may use it also when the ticket is finished
abbrev pub unnamed_hart : List Step
unnamed_hart =
    map_superpage
    ++ (Begin 1 0x400000 access.Load user, More)
    ∷ (Load 1, More)
    ∷ (Load 1, Filled 0x200000)
    ∷ (Unmap 0 (Space 0) (large_page 0x400000) hart_0, Opened 0)
    ∷ (AckSelf 0 0, Done)
    ∷ (Finish 0 0, Ok)
    ∷ (Begin 1 0x400000 access.Load user, Hit 0x200000)
    ∷ []

-- a small page is mapped in the superpage that was unmapped: first the pointer to its table, then
-- its leaf
abbrev pub pointer_stored : List Step
pointer_stored =
    superpage_until_acknowledged
    ++ (Map 0 (Space 0) (small_page 0x401000) 0x100 (flags (R + U + A + D)), Table 0x80003) ∷ []

abbrev pub small_page_mapped_anew : List Step
small_page_mapped_anew =
    pointer_stored
    ++ (Map 0 (Space 0) (small_page 0x401000) 0x100 (flags (R + U + A + D)), Leaf)
    ∷ (Begin 1 0x401004 access.Load user, More)
    ∷ (Load 1, More)
    ∷ (Load 1, More)
    ∷ (Load 1, Filled 0x100004)
    ∷ []

-- what is refused changes nothing: the superpage is neither mapped anew nor unmapped or changed
-- once more
abbrev pub refused_changes : List Step
refused_changes =
    superpage_until_acknowledged
    ++ (Map 0 (Space 0) (large_page 0x400000) 0x201 (flags (R + U + A + D)), refused Misaligned)
    ∷ (Unmap 0 (Space 0) (large_page 0x400000) (hart_0 + hart_1), refused NotMapped)
    ∷ (
      Protect 0 (Space 0) (large_page 0x400000) (flags (R + U + A + D)) (hart_0 + hart_1),
      refused
          NotMapped,
    )
    ∷ []

-- the page at 0x1000 is unmapped in space 0: hart 1 keeps that of space 1, also when this one is
-- unmapped and mapped anew
abbrev pub same_page_until_acknowledged : List Step
same_page_until_acknowledged =
    held_in_both_spaces
    ++ (Unmap 0 (Space 0) (small_page 0x1000) (hart_0 + hart_1), Opened 0)
    ∷ (Post 0 0 1, Ok)
    ∷ (Take 1 0, taken 0 page_of_space)
    ∷ (ServeFence 1, Ok)
    ∷ (Ack 1, Ok)
    ∷ (Begin 1 0x1004 access.Load user, Hit 0x101004)
    ∷ []

abbrev pub same_page_of_another_space : List Step
same_page_of_another_space =
    same_page_until_acknowledged
    ++ (Unmap 0 (Space 1) (small_page 0x1000) hart_0, Opened 1)
    ∷ (Map 0 (Space 1) (small_page 0x1000) 0x102 (flags (R + U + A + D)), Leaf)
    ∷ (Begin 1 0x1004 access.Load user, Hit 0x101004)
    ∷ []

-- the superpage lost W, and hart 1 has acknowledged it and holds the page again
abbrev pub held_read_only : List Step
held_read_only =
    read_only_until_acknowledged
    ++ (Begin 1 0x400000 access.Load user, More) ∷ (Load 1, More) ∷ (Load 1, Filled 0x200000) ∷ []

-- then it loses U too, or is unmapped
abbrev pub protected_once_more : List Step
protected_once_more =
    held_read_only
    ++ (Protect 0 (Space 0) (large_page 0x400000) (flags (R + A + D)) (hart_0 + hart_1), Opened 1)
    ∷ (Begin 1 0x400000 access.Load user, Hit 0x200000)
    ∷ []

abbrev pub unmapped_once_more : List Step
unmapped_once_more =
    held_read_only ++ (Unmap 0 (Space 0) (large_page 0x400000) (hart_0 + hart_1), Opened 1)
    ∷ (Begin 1 0x400000 access.Load user, Hit 0x200000) ∷ []
