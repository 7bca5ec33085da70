-- What is kept of the findings so far, by their notes.
use Rattle.std.specs.Prelude.{ℕ, Bool, ◌≡◌, List, [], ◌∷◌, Option, Some, None}
use Rattle.std.specs.BTreeMap as map
use Rattle.std.specs.BTreeMap.{BTreeMap}
use Rattle.std.specs.BTreeSet as set
use Rattle.std.specs.BTreeSet.{BTreeSet}
use Rattle.std.specs.Cmp.Lexicographic.{slice_cmp}
use Rattle.std.specs.Ordering.{bool_cmp, nat_cmp, ordering_then}
use Rattle.std.specs.declared.cmp.Ordering.{Ordering}
use Rattle.std.specs.Borrow.{Bor}
use Rattle.watch_report.specs.declared.found.Found.{Found}
use Rattle.watch_report.specs.declared.note_group.NoteGroup.{NoteGroup}
use Rattle.watch_report.specs.declared.note_group.PageKey.{PageKey}
use Rattle.watch_report.specs.declared.note_group.SpaceKey.{SpaceKey}
use Rattle.watch_report.specs.declared.note_groups.Groups.{Groups}
use Rattle.watch_report.specs.declared.note_groups.NotedPage.{NotedPage}
use Rattle.watch_report.specs.declared.note_groups.NotedSpace.{NotedSpace}
use Rattle.watch_report.specs.NoteGroups.{counts_of, first_records, has_page, has_space, of_note}

-- ---- the orders of the keys

abbrev pub note_cmp : List ℕ → Bor (List ℕ) → Ordering
note_cmp by k = slice_cmp nat_cmp by k.now

abbrev pub space_cmp : SpaceKey → SpaceKey → Ordering
space_cmp a b = ordering_then (nat_cmp a.asid b.asid) (nat_cmp a.root b.root)

abbrev pub page_cmp : PageKey → PageKey → Ordering
page_cmp a b =
    ordering_then (nat_cmp a.base b.base)
    (ordering_then (nat_cmp a.level b.level)
    (ordering_then (bool_cmp a.global b.global) (space_cmp a.space b.space)))

abbrev pub noted_page_cmp : List ℕ → PageKey → NotedPage → Ordering
noted_page_cmp by page k = ordering_then (slice_cmp nat_cmp by k.note.now) (page_cmp page k.page)

abbrev pub noted_space_cmp : List ℕ → SpaceKey → NotedSpace → Ordering
noted_space_cmp by space k =
    ordering_then (slice_cmp nat_cmp by k.note.now) (space_cmp space k.space)

-- ---- what is kept

abbrev pub group_in : BTreeMap (Bor (List ℕ)) NoteGroup → List ℕ → Option NoteGroup
group_in groups by = map.get_by (note_cmp by) groups

abbrev pub page_in : BTreeSet NotedPage → List ℕ → PageKey → Bool
page_in pages by page = set.contains_by (noted_page_cmp by page) pages

abbrev pub space_in : BTreeSet NotedSpace → List ℕ → SpaceKey → Bool
space_in spaces by space = set.contains_by (noted_space_cmp by space) spaces

-- what is counted, if there is a finding
abbrev pub counts_if : List Found → Option NoteGroup
counts_if [] = None
counts_if (f ∷ founds) = Some (counts_of (f ∷ founds))

-- of the findings so far, the newest first; `notes` gives the note of each record
pub record AreGroups (notes : ℕ → List ℕ) (before : List Found) (so_far : Groups) : Type 0 where
  pub groups : (by : List ℕ) → group_in so_far.groups by ≡ counts_if (of_note notes by before)
  pub pages : (by : List ℕ) (page : PageKey)
      → page_in so_far.pages by page ≡ has_page page (of_note notes by before)
  pub spaces : (by : List ℕ) (space : SpaceKey)
      → space_in so_far.spaces by space ≡ has_space space (of_note notes by before)
  pub firsts : so_far.firsts.items ≡ first_records notes before
