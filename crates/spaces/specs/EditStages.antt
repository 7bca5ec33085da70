-- An edit that reads its page's path word by word.
use Rattle.std.specs.Prelude.{ℕ, ◌≡◌, ◌+◌, ◌-◌, ◌==◌, ◌&&◌, if◌then◌else◌, Option, Some, None, Result, Ok, Err, []}
use Rattle.pte.specs.declared.scheme.Scheme.{Scheme}
use Rattle.pte.specs.Address.{top_level, level_of, vpn_of}
use Rattle.walk.specs.Leads.{Tables}
use Rattle.walk.specs.Pointers.{pointed}
use Rattle.spaces.specs.declared.wishes.Wish.{Wish}
use Rattle.spaces.specs.declared.wishes.Wish.TheVariants.{Map, Unmap, Protect}
use Rattle.spaces.specs.declared.faults.MapFault.{MapFault}
use Rattle.spaces.specs.declared.faults.MapFault.TheVariants.{WrongHalf, TableInWay, WrongSize}
use Rattle.spaces.specs.declared.edit_walks.Next.{Next}
use Rattle.spaces.specs.declared.edit_walks.Next.TheVariants as next
use Rattle.spaces.specs.Layout.{Layout}
use Rattle.spaces.specs.Edits.{EditStage, IsStage, Store, is_kernel, is_wrong_half, leaf_fault, place_of, page_of, wish_fault, path_end, store_due}
use Rattle.spaces.specs.Tree.{IsAtHome, IsOwn, start_level, start_table}

-- why a wish is refused that has a table at its page's level
abbrev pub table_fault : Wish → MapFault
table_fault (Map place page ppn flags) = TableInWay
table_fault (Unmap place page) = WrongSize
table_fault (Protect place page flags) = WrongSize

-- where the path of the wished page starts: at the root of its space, or at a table of the window
abbrev pub first_stage : Layout → Wish → EditStage
first_stage l wish =
    record {
      wish = wish;
      level = start_level l (place_of wish);
      table = start_table l (place_of wish) (page_of wish).base;
    }

-- no page of the kernel is of the root's level, where the window's tables stand
abbrev pub path_start : Layout → Wish → Result EditStage MapFault
path_start l wish =
    if is_kernel (place_of wish) && level_of (page_of wish).size == top_level l.scheme
    then Err (table_fault wish) else Ok (first_stage l wish)

abbrev pub unless_fault : Option MapFault → Result EditStage MapFault → Result EditStage MapFault
unless_fault None r = r
unless_fault (Some fault) r = Err fault

-- where an edit begins, or the fault that is known before any word is read
abbrev pub edit_start : Layout → ℕ → Wish → Result EditStage MapFault
edit_start l hart wish = unless_fault (wish_fault l hart wish) (path_start l wish)

-- the same of the home
abbrev pub at_home_fault : Layout → Wish → Option MapFault
at_home_fault l wish =
    if is_wrong_half l (place_of wish) (page_of wish) then Some WrongHalf else leaf_fault wish

abbrev pub start_at_home : Layout → Wish → Result EditStage MapFault
start_at_home l wish = unless_fault (at_home_fault l wish) (path_start l wish)

-- a layout without spaces and spare frames
abbrev pub bare_layout : Scheme → ℕ → ℕ → Layout
bare_layout scheme window base =
    record { scheme = scheme; window = window; base = base; homes = []; spares = [] }

-- what a stage ends with over the words of one memory
abbrev pub answer_from : EditStage → Tables → Option ℕ → Result Store MapFault
answer_from e words spare =
    store_due e.wish spare
    (path_end words (page_of e.wish).base (level_of (page_of e.wish).size)
    (e.level - level_of (page_of e.wish).size) e.table)

-- the same from a begin
abbrev pub answer_of : Result EditStage MapFault → Tables → Option ℕ → Result Store MapFault
answer_of (Ok e) words spare = answer_from e words spare
answer_of (Err fault) words spare = Err fault

abbrev pub next_of : Result Store MapFault → Next
next_of (Ok store) = next.Edit store
next_of (Err fault) = next.Refused fault

-- the store that is due, if the path ends at this word
abbrev pub due_here : EditStage → ℕ → Option ℕ → Result Store MapFault
due_here e word spare =
    store_due e.wish spare (record { level = e.level; table = e.table; entry = word })

abbrev pub stage_below : EditStage → Option ℕ → Option EditStage
stage_below e None = None
stage_below e (Some table) = Some (record { wish = e.wish; level = e.level - 1; table = table })

-- above the page's level the path goes on at a pointer
abbrev pub below_of : EditStage → ℕ → Option EditStage
below_of e word =
    if e.level == level_of (page_of e.wish).size then None else stage_below e (pointed (Some word))

abbrev pub more_or_end : Option EditStage → Result Store MapFault → Next
more_or_end None due = next_of due
more_or_end (Some after) due = next.More after

-- what an edit makes of the next word: it goes on, or ends there
abbrev pub edit_next : EditStage → ℕ → Option ℕ → Next
edit_next e word spare = more_or_end (below_of e word) (due_here e word spare)

-- the index of the word that an edit waits for
abbrev pub index_of : EditStage → ℕ
index_of e = vpn_of (page_of e.wish).base e.level

-- what the next word of one memory makes of an edit agrees with its end over that memory
abbrev pub Continues : EditStage → Tables → Option ℕ → Next → Type 0
Continues e words spare (next.More after) =
    IsStage after × (after.wish ≡ e.wish) × (after.level + 1 ≡ e.level)
    × (answer_from after words spare ≡ answer_from e words spare)
Continues e words spare (next.Edit store) = answer_from e words spare ≡ Ok store
Continues e words spare (next.Refused fault) = answer_from e words spare ≡ Err fault

-- the word that an edit waits for stands in a frame of the hart, in a slot that edits may write
pub record WaitsAtHome (l : Layout) (hart : ℕ) (e : EditStage) : Type 0 where
  pub home : IsAtHome l hart e.table
  pub own : IsOwn l e.table (index_of e)
