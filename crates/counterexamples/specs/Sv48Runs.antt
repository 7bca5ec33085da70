-- Worked runs with Sv48: four levels, and pages of 512 GiB (privileged manual 4.5.1).
use Rattle.std.specs.Prelude.{ℕ, ◌+◌, List, [], ◌∷◌, ◌++◌, Some}
use Rattle.pte.specs.Address.{Span}
use Rattle.pte.specs.declared.address.PageSize.TheVariants.{Gib512}
use Rattle.pte.specs.declared.address.What.TheVariants.{PageOf}
use Rattle.pte.specs.declared.permission.Access.TheVariants as access
use Rattle.pte.specs.declared.scheme.Scheme.TheVariants.{Sv48}
use Rattle.walk.specs.declared.found_or_trap.Why.TheVariants.{Invalid}
use Rattle.spaces.specs.declared.places.Place.TheVariants.{Space, Kernel}
use Rattle.history.specs.declared.event.Event.TheVariants.{Begin, Load, Map, Unmap, Protect, Post, Take, ServeFence, Ack, AckSelf, Collect, Finish}
use Rattle.history.specs.declared.refusal.Refusal.TheVariants.{WrongHalf, NotDone}
use Rattle.history.specs.declared.reply.Reply.TheVariants.{Hit, More, Filled, Table, Leaf, Opened, Ok, Done, Waiting}
use Rattle.history.specs.Setup.{Setup}
use Rattle.counterexamples.specs.WorkedRuns.{Step, huge_page, two_harts, small_page, flags, R, W, U, G, A, D, user, hart_0, hart_1, refused, trap, taken}

-- the same harts and frames, with Sv48
abbrev pub in_sv48 : Setup → Setup
in_sv48 C = record C { layout = record C.layout { scheme = Sv48 } }

abbrev pub two_harts_in_sv48 : Setup
two_harts_in_sv48 = in_sv48 two_harts

abbrev pub terapage : ℕ → Span
terapage base = record { base = base; size = Gib512 }

-- 512 GiB at 0x8000000000, mapped to PPN 0x10000000: one leaf of the root
abbrev pub map_terapage : List Step
map_terapage =
    (Map 0 (Space 0) (terapage 0x8000000000) 0x10000000 (flags (R + W + U + A + D)), Leaf) ∷ []

-- hart 1 holds the page when hart 0 unmaps it, and may use all of it until it serves the request
abbrev pub terapage_until_service : List Step
terapage_until_service =
    map_terapage
    ++ (Begin 1 0x8080403abc access.Load user, More)
    ∷ (Load 1, Filled 0x10080403abc)
    ∷ (Unmap 0 (Space 0) (terapage 0x8000000000) (hart_0 + hart_1), Opened 0)
    ∷ (Begin 1 0x8000000000 access.Store user, Hit 0x10000000000)
    ∷ (Begin 1 0xffffffffff access.Load user, Hit 0x17fffffffff)
    ∷ (Post 0 0 1, Ok)
    ∷ (Take 1 0, taken 0 (PageOf (terapage 0x8000000000) (Some 1)))
    ∷ []

abbrev pub terapage_until_acknowledged : List Step
terapage_until_acknowledged = terapage_until_service ++ (ServeFence 1, Ok) ∷ (Ack 1, Ok) ∷ []

abbrev pub terapage_shootdown : List Step
terapage_shootdown =
    terapage_until_acknowledged
    ++ (Begin 1 0xffffffffff access.Load user, More)
    ∷ (Load 1, trap 13 Invalid)
    ∷ (Collect 0 0 1, Waiting hart_0)
    ∷ (Finish 0 0, refused NotDone)
    ∷ (AckSelf 0 0, Done)
    ∷ (Finish 0 0, Ok)
    ∷ []

-- a page of 4 KiB below three new tables is unmapped while hart 1 holds it
abbrev pub four_levels_until_acknowledged : List Step
four_levels_until_acknowledged =
    (Map 0 (Space 0) (small_page 0x7ffffffff000) 0x100 (flags (R + U + A + D)), Table 0x80002)
    ∷ (Map 0 (Space 0) (small_page 0x7ffffffff000) 0x100 (flags (R + U + A + D)), Table 0x80003)
    ∷ (Map 0 (Space 0) (small_page 0x7ffffffff000) 0x100 (flags (R + U + A + D)), Table 0x80004)
    ∷ (Map 0 (Space 0) (small_page 0x7ffffffff000) 0x100 (flags (R + U + A + D)), Leaf)
    ∷ (Begin 1 0x7fffffffffff access.Load user, More)
    ∷ (Load 1, More)
    ∷ (Load 1, More)
    ∷ (Load 1, More)
    ∷ (Load 1, Filled 0x100fff)
    ∷ (Unmap 0 (Space 0) (small_page 0x7ffffffff000) (hart_0 + hart_1), Opened 0)
    ∷ (Begin 1 0x7ffffffff000 access.Load user, Hit 0x100000)
    ∷ (Post 0 0 1, Ok)
    ∷ (Take 1 0, taken 0 (PageOf (small_page 0x7ffffffff000) (Some 1)))
    ∷ (ServeFence 1, Ok)
    ∷ (Ack 1, Ok)
    ∷ []

abbrev pub shootdown_over_four_levels : List Step
shootdown_over_four_levels =
    four_levels_until_acknowledged
    ++ (Begin 1 0x7ffffffff000 access.Load user, More)
    ∷ (Load 1, More)
    ∷ (Load 1, More)
    ∷ (Load 1, More)
    ∷ (Load 1, trap 13 Invalid)
    ∷ (AckSelf 0 0, Waiting hart_1)
    ∷ (Collect 0 0 1, Done)
    ∷ (Finish 0 0, Ok)
    ∷ []

-- a page that does not fit Sv39, by its size or its address, is in neither half
abbrev pub pages_that_do_not_fit : List Step
pages_that_do_not_fit =
    (Map 0 (Space 0) (terapage 0x0) 0x10000000 (flags (R + U + A + D)), refused WrongHalf)
    ∷ (Unmap 0 (Space 0) (terapage 0x0) hart_0, refused WrongHalf)
    ∷ (Protect 0 (Space 0) (terapage 0x0) (flags (R + U + A + D)) hart_0, refused WrongHalf)
    ∷ (
      Map 0 Kernel (terapage 0xffffff8000000000) 0x10000000 (flags (R + G + A + D)),
      refused
          WrongHalf,
    )
    ∷ (Map 0 (Space 0) (small_page 0x4000000000) 0x100 (flags (R + U + A + D)), refused WrongHalf)
    ∷ (Map 0 (Space 0) (huge_page 0x8000000000) 0x40000 (flags (R + U + A + D)), refused WrongHalf)
    ∷ []

-- nor does one fit Sv48 at an address that Sv48 does not have
abbrev pub page_that_does_not_fit_sv48 : List Step
page_that_does_not_fit_sv48 =
    map_terapage
    ++ (
      Map 0 (Space 0) (small_page 0x800000000000) 0x100 (flags (R + U + A + D)),
      refused
          WrongHalf,
    )
    ∷ []
