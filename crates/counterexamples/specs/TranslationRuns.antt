-- Worked runs of accesses: a leaf of each size filled and hit, fetches, SUM and MXR, and traps by
-- the flags of a match (privileged manual 4.1.1.2, SUM and MXR; 4.3.2, steps 5 to 8; 4.4.1, the
-- sizes of pages; 4.5.1, Sv48).
use Rattle.std.specs.Prelude.{ℕ, ◌+◌, true, false, List, [], ◌∷◌, None}
use Rattle.pte.specs.declared.scheme.Scheme.TheVariants.{Sv48}
use Rattle.pte.specs.Address.{Span}
use Rattle.pte.specs.declared.address.PageSize.TheVariants.{Gib512}
use Rattle.pte.specs.declared.permission.Access.TheVariants as access
use Rattle.pte.specs.declared.permission.Ctx.{Ctx}
use Rattle.pte.specs.declared.permission.Mode.TheVariants.{User, Super}
use Rattle.walk.specs.declared.found_or_trap.Why.TheVariants.{NotCanonical, Invalid, Denied, NotAccessed, NotDirty}
use Rattle.spaces.specs.declared.places.Place.TheVariants.{Space}
use Rattle.history.specs.declared.event.Event.TheVariants.{Begin, Load, Map, Unmap, Switch, Fence}
use Rattle.history.specs.declared.refusal.Refusal.TheVariants.{NoSpace, Walking, NotWalking}
use Rattle.history.specs.declared.reply.Reply.TheVariants.{Hit, More, Filled, Table, Leaf, Opened, Ok}
use Rattle.history.specs.Setup.{Setup}
use Rattle.counterexamples.specs.WorkedRuns.{Step, huge_page, small_page, large_page, flags, R, W, X, U, A, D, user, supervisor, hart_0, hart_1, refused, trap}

-- accesses with SUM or MXR set
abbrev pub user_mxr : Ctx
user_mxr = record { mode = User; sum = false; mxr = true }

abbrev pub supervisor_sum : Ctx
supervisor_sum = record { mode = Super; sum = true; mxr = false }

abbrev pub supervisor_mxr : Ctx
supervisor_mxr = record { mode = Super; sum = false; mxr = true }

abbrev pub supervisor_both : Ctx
supervisor_both = record { mode = Super; sum = true; mxr = true }

-- a page of 1 GiB is one leaf in the root: one load fills it, by its last byte, and each address of
-- it hits, of this hart and no other; the addresses right before and right behind it do not
abbrev pub page_of_one_gib : List Step
page_of_one_gib =
    (Map 0 (Space 0) (huge_page 0x40000000) 0x80000 (flags (R + W + U + A + D)), Leaf)
    ∷ (Begin 1 0x7fffffff access.Load user, More)
    ∷ (Load 1, Filled 0xbfffffff)
    ∷ (Begin 1 0x40000000 access.Store user, Hit 0x80000000)
    ∷ (Begin 1 0x7fffffff access.Load user, Hit 0xbfffffff)
    ∷ (Begin 0 0x40000000 access.Store user, More)
    ∷ (Load 0, Filled 0x80000000)
    ∷ (Begin 0 0x5abcdef0 access.Load user, Hit 0x9abcdef0)
    ∷ (Begin 1 0x3fffffff access.Load user, More)
    ∷ (Load 1, trap 13 Invalid)
    ∷ (Begin 1 0x80000000 access.Load user, More)
    ∷ (Load 1, trap 13 Invalid)
    ∷ []

-- code that a user may execute and nothing else: a fetch walks to it and fills it. Then the flags
-- of the match answer: they refuse at once, without a walk, or with MXR let a load through; a fetch
-- of S-mode they refuse, with SUM too
abbrev pub code_fetched : List Step
code_fetched =
    (Map 0 (Space 0) (large_page 0x400000) 0x200 (flags (X + U + A)), Table 0x80002)
    ∷ (Map 0 (Space 0) (large_page 0x400000) 0x200 (flags (X + U + A)), Leaf)
    ∷ (Begin 1 0x400002 access.Fetch user, More)
    ∷ (Load 1, More)
    ∷ (Load 1, Filled 0x200002)
    ∷ (Begin 1 0x5ffffe access.Fetch user, Hit 0x3ffffe)
    ∷ (Begin 1 0x400010 access.Load user, trap 13 Denied)
    ∷ (Load 1, refused NotWalking)
    ∷ (Begin 1 0x400010 access.Store user, trap 15 Denied)
    ∷ (Load 1, refused NotWalking)
    ∷ (Begin 1 0x400010 access.Load user_mxr, Hit 0x200010)
    ∷ (Begin 1 0x400010 access.Store user_mxr, trap 15 Denied)
    ∷ (Begin 1 0x400010 access.Load supervisor_mxr, trap 13 Denied)
    ∷ (Begin 1 0x400010 access.Load supervisor_sum, trap 13 Denied)
    ∷ (Begin 1 0x400010 access.Load supervisor_both, Hit 0x200010)
    ∷ (Begin 1 0x400002 access.Fetch supervisor, trap 12 Denied)
    ∷ (Begin 1 0x400002 access.Fetch supervisor_both, trap 12 Denied)
    ∷ (Load 1, refused NotWalking)
    ∷ []

-- a walk asks the same of the leaf: a load of code is refused without MXR, and with it fills
abbrev pub code_loaded : List Step
code_loaded =
    (Map 0 (Space 0) (huge_page 0x40000000) 0x80000 (flags (X + U + A)), Leaf)
    ∷ (Begin 0 0x40000000 access.Load user, More)
    ∷ (Load 0, trap 13 Denied)
    ∷ (Begin 0 0x40000000 access.Load supervisor_mxr, More)
    ∷ (Load 0, trap 13 Denied)
    ∷ (Begin 0 0x40000000 access.Fetch supervisor_sum, More)
    ∷ (Load 0, trap 12 Denied)
    ∷ (Begin 0 0x40000000 access.Load user_mxr, More)
    ∷ (Load 0, Filled 0x80000000)
    ∷ (Begin 0 0x40000000 access.Fetch user, Hit 0x80000000)
    ∷ []

-- data of a user: S-mode reaches it with SUM, by a walk and by a match, and not without. A store
-- finds D clear in the match
abbrev pub user_data_by_supervisor : List Step
user_data_by_supervisor =
    (Map 0 (Space 0) (large_page 0x400000) 0x200 (flags (R + W + U + A)), Table 0x80002)
    ∷ (Map 0 (Space 0) (large_page 0x400000) 0x200 (flags (R + W + U + A)), Leaf)
    ∷ (Begin 1 0x400008 access.Load supervisor, More)
    ∷ (Load 1, More)
    ∷ (Load 1, trap 13 Denied)
    ∷ (Begin 1 0x400008 access.Store supervisor_sum, More)
    ∷ (Load 1, More)
    ∷ (Load 1, trap 15 NotDirty)
    ∷ (Begin 1 0x400008 access.Load supervisor_sum, More)
    ∷ (Load 1, More)
    ∷ (Load 1, Filled 0x200008)
    ∷ (Begin 1 0x400008 access.Load supervisor_sum, Hit 0x200008)
    ∷ (Begin 1 0x400008 access.Load supervisor, trap 13 Denied)
    ∷ (Load 1, refused NotWalking)
    ∷ (Begin 1 0x400008 access.Load user, Hit 0x200008)
    ∷ (Begin 1 0x400008 access.Store user, trap 15 NotDirty)
    ∷ (Load 1, refused NotWalking)
    ∷ (Begin 1 0x400008 access.Store supervisor_sum, trap 15 NotDirty)
    ∷ (Begin 1 0x400008 access.Store supervisor, trap 15 Denied)
    ∷ (Begin 1 0x400008 access.Fetch user, trap 12 Denied)
    ∷ []

-- a page with A clear is never held: each access walks to it, and traps
abbrev pub page_not_accessed : List Step
page_not_accessed =
    (Map 0 (Space 0) (huge_page 0x40000000) 0x80000 (flags (R + X + U)), Leaf)
    ∷ (Begin 0 0x40000000 access.Load user, More)
    ∷ (Load 0, trap 13 NotAccessed)
    ∷ (Begin 0 0x40000000 access.Fetch user, More)
    ∷ (Load 0, trap 12 NotAccessed)
    ∷ (Begin 0 0x40000000 access.Load user, More)
    ∷ []

-- one hart in one space under Sv48: the window's table is frame 0x80000, the root 0x80001, and the
-- first spare frame 0x80002
abbrev pub one_hart_of_sv48 : Setup
one_hart_of_sv48 =
    record {
      harts = 1;
      capacity = 4;
      asids = 1
          ∷ [];
      layout =
          record { scheme = Sv48; window = 1; base = 0x80000; homes = 0 ∷ []; spares = 8 ∷ [] };
    }

abbrev pub largest_page : ℕ → Span
largest_page base = record { base = base; size = Gib512 }

-- a page of 512 GiB is one leaf in the root, a page of 4 KiB lies below three tables; bits 63 to 47
-- of an address are alike
abbrev pub pages_of_sv48 : List Step
pages_of_sv48 =
    (Map 0 (Space 0) (largest_page 0x8000000000) 0x10000000 (flags (R + W + U + A + D)), Leaf)
    ∷ (Begin 0 0xffffffffff access.Load user, More)
    ∷ (Load 0, Filled 0x17fffffffff)
    ∷ (Begin 0 0x8000000000 access.Store user, Hit 0x10000000000)
    ∷ (Begin 0 0x10000000000 access.Load user, More)
    ∷ (Load 0, trap 13 Invalid)
    ∷ (Begin 0 0x4000000000 access.Load user, More)
    ∷ (Load 0, trap 13 Invalid)
    ∷ (Begin 0 0x800000000000 access.Load user, trap 13 NotCanonical)
    ∷ (Map 0 (Space 0) (small_page 0x1000) 0x100 (flags (R + U + A + D)), Table 0x80002)
    ∷ (Map 0 (Space 0) (small_page 0x1000) 0x100 (flags (R + U + A + D)), Table 0x80003)
    ∷ (Map 0 (Space 0) (small_page 0x1000) 0x100 (flags (R + U + A + D)), Table 0x80004)
    ∷ (Map 0 (Space 0) (small_page 0x1000) 0x100 (flags (R + U + A + D)), Leaf)
    ∷ (Begin 0 0x1004 access.Load user, More)
    ∷ (Load 0, More)
    ∷ (Load 0, More)
    ∷ (Load 0, More)
    ∷ (Load 0, Filled 0x100004)
    ∷ (Begin 0 0x1fff access.Load user, Hit 0x100fff)
    ∷ []

-- the page at 0x1000 of two spaces: an accepted switch moves its own hart and no other, a refused
-- one none; and a fence that is refused drops nothing
abbrev pub spaces_of_each_hart : List Step
spaces_of_each_hart =
    (Map 0 (Space 0) (small_page 0x1000) 0x100 (flags (R + U + A + D)), Table 0x80003)
    ∷ (Map 0 (Space 0) (small_page 0x1000) 0x100 (flags (R + U + A + D)), Table 0x80004)
    ∷ (Map 0 (Space 0) (small_page 0x1000) 0x100 (flags (R + U + A + D)), Leaf)
    ∷ (Map 0 (Space 1) (small_page 0x1000) 0x101 (flags (R + U + A + D)), Table 0x80005)
    ∷ (Map 0 (Space 1) (small_page 0x1000) 0x101 (flags (R + U + A + D)), Table 0x80006)
    ∷ (Map 0 (Space 1) (small_page 0x1000) 0x101 (flags (R + U + A + D)), Leaf)
    ∷ (Switch 1 1, Ok)
    ∷ (Begin 0 0x1004 access.Load user, More)
    ∷ (Switch 0 1, refused Walking)
    ∷ (Load 0, More)
    ∷ (Load 0, More)
    ∷ (Load 0, Filled 0x100004)
    ∷ (Begin 0 0x1004 access.Load user, Hit 0x100004)
    ∷ (Switch 0 2, refused NoSpace)
    ∷ (Begin 0 0x1004 access.Load user, Hit 0x100004)
    ∷ (Begin 1 0x1004 access.Load user, More)
    ∷ (Load 1, More)
    ∷ (Load 1, More)
    ∷ (Load 1, Filled 0x101004)
    ∷ (Begin 0 0x2000 access.Load user, More)
    ∷ (Fence 0 None None, refused Walking)
    ∷ (Load 0, More)
    ∷ (Load 0, More)
    ∷ (Load 0, trap 13 Invalid)
    ∷ (Begin 0 0x1004 access.Load user, Hit 0x100004)
    ∷ (Switch 0 1, Ok)
    ∷ (Begin 0 0x1004 access.Load user, More)
    ∷ (Load 0, More)
    ∷ (Load 0, More)
    ∷ (Load 0, Filled 0x101004)
    ∷ (Begin 1 0x1004 access.Load user, Hit 0x101004)
    ∷ []

-- two harts walk to one page at once: what the one fills the other does not hold, and it finds the
-- page unmapped
abbrev pub walks_of_two_harts : List Step
walks_of_two_harts =
    (Map 0 (Space 0) (large_page 0x400000) 0x200 (flags (R + W + U + A + D)), Table 0x80002)
    ∷ (Map 0 (Space 0) (large_page 0x400000) 0x200 (flags (R + W + U + A + D)), Leaf)
    ∷ (Begin 0 0x400000 access.Load user, More)
    ∷ (Begin 1 0x400000 access.Load user, More)
    ∷ (Load 1, More)
    ∷ (Load 1, Filled 0x200000)
    ∷ (Unmap 0 (Space 0) (large_page 0x400000) (hart_0 + hart_1), Opened 0)
    ∷ (Load 0, More)
    ∷ (Load 0, trap 13 Invalid)
    ∷ (Begin 0 0x400000 access.Load user, More)
    ∷ (Load 0, More)
    ∷ (Load 0, trap 13 Invalid)
    ∷ (Begin 1 0x400000 access.Store user, Hit 0x200000)
    ∷ (Begin 0 0x4000000000 access.Store user, trap 15 NotCanonical)
    ∷ (Begin 1 0xffffffbfffffffff access.Fetch supervisor, trap 12 NotCanonical)
    ∷ []
