-- The findings of a cause, grouped by the notes of the records that made their pages stale.
use Rattle.std.specs.Prelude.{ℕ, Bool, true, false, bit_or, not, ◌+◌, ◌^◌, ◌==◌, ◌&&◌, if◌then◌else◌, nat_lt}
use Rattle.std.specs.Prelude.{List, [], ◌∷◌, ◌++◌, Option, Some, None, filter, map, option_map, position, reverse}
use Rattle.std.specs.List.{list_any}
use Rattle.std.specs.Str.{bytes_eq}
use Rattle.pte.specs.Address.{level_of}
use Rattle.watch.specs.Computed.{is_same}
use Rattle.watch_engine.specs.Held.{own}
use Rattle.watch_causes.specs.declared.begun.Begun.{Begun}
use Rattle.watch_causes.specs.declared.finding.Cause.{Cause}
use Rattle.watch_causes.specs.declared.reach.Reach.{Reach}
use Rattle.watch_causes.specs.declared.reach.Reach.TheVariants.{Used, Reachable, NotReached}
use Rattle.watch_causes.specs.declared.tally.Tally.{Tally}
use Rattle.watch_causes.specs.Tallies.{is_of, more_if}
use Rattle.watch_report.specs.declared.found.Found.{Found}
use Rattle.watch_report.specs.declared.note_group.NoteGroup.{NoteGroup}
use Rattle.watch_report.specs.declared.note_group.SpaceKey.{SpaceKey}
use Rattle.watch_report.specs.declared.note_group.PageKey.{PageKey}

-- ---- the findings of the causes that are told

-- the number of a cause: its place among the tallies, from 1 on
abbrev pub number_of : List Tally → Cause → Option ℕ
number_of tallies cause = option_map (λ place. place + 1) (position (is_of cause) tallies)

abbrev pub with_number : Option ℕ → Begun → Reach → List Found → List Found
with_number None begun reach founds = founds
with_number (Some number) begun reach founds =
    record { number = number; begun = begun; reach = reach } ∷ founds

-- each with its reach; those of causes without a tally are left out
abbrev pub founds_of : List Tally → List Begun → List Reach → List Found
founds_of tallies [] reaches = []
founds_of tallies (b ∷ begun) [] = []
founds_of tallies (b ∷ begun) (reach ∷ reaches) =
    with_number (number_of tallies b.cause) b reach (founds_of tallies begun reaches)

-- those of the cause with this number
abbrev pub of_cause : ℕ → List Found → List Found
of_cause number founds = filter (λ f. f.number == number) founds

abbrev pub is_used : Reach → Bool
is_used Used = true
is_used _ = false

abbrev pub is_reachable : Reach → Bool
is_reachable Reachable = true
is_reachable _ = false

abbrev pub is_not_reached : Reach → Bool
is_not_reached NotReached = true
is_not_reached _ = false

-- used before reachable before not reached
abbrev pub best_reach : List Found → Reach
best_reach founds =
    if list_any (λ f. is_used f.reach) founds then Used
    else if list_any (λ f. is_reachable f.reach) founds then Reachable
    else NotReached

-- ---- what is counted of findings

-- the address space of a finding; what is global has ASID and root 0
abbrev pub space_of : Found → SpaceKey
space_of f =
    record {
      asid = own f.begun.warning.entry.global f.begun.warning.entry.asid;
      root = own f.begun.warning.entry.global f.begun.warning.root;
    }

-- its page there
abbrev pub page_of : Found → PageKey
page_of f =
    record {
      base = f.begun.warning.entry.page.base;
      level = level_of f.begun.warning.entry.page.size;
      global = f.begun.warning.entry.global;
      space = space_of f;
    }

abbrev pub is_same_space : SpaceKey → SpaceKey → Bool
is_same_space a b = (a.asid == b.asid) && (a.root == b.root)

abbrev pub is_same_page : PageKey → PageKey → Bool
is_same_page a b =
    (a.base == b.base)
    && ((a.level == b.level) && (is_same a.global b.global && is_same_space a.space b.space))

abbrev pub has_space : SpaceKey → List Found → Bool
has_space space founds = list_any (λ f. is_same_space (space_of f) space) founds

abbrev pub has_page : PageKey → List Found → Bool
has_page page founds = list_any (λ f. is_same_page (page_of f) page) founds

-- a mask has a bit for each hart below 64
abbrev pub with_hart : ℕ → ℕ → ℕ
with_hart hart mask = if nat_lt hart 64 then bit_or mask (2 ^ hart) else mask

abbrev pub no_finding : NoteGroup
no_finding =
    record {
      since = 0;
      findings = 0;
      pages = 0;
      spaces = 0;
      harts = 0;
      fenced = 0;
      used = 0;
      reachable = 0;
      not_reached = 0;
    }

-- with one more finding, on a page and in a space that are new or not
abbrev pub with_found : Bool → Bool → Found → NoteGroup → NoteGroup
with_found new_page new_space f g =
    record {
      since = f.begun.warning.stale_since;
      findings = g.findings + 1;
      pages = more_if new_page g.pages;
      spaces = more_if new_space g.spaces;
      harts = with_hart f.begun.warning.hart g.harts;
      fenced = bit_or g.fenced f.begun.fenced;
      used = more_if (is_used f.reach) g.used;
      reachable = more_if (is_reachable f.reach) g.reachable;
      not_reached = more_if (is_not_reached f.reach) g.not_reached;
    }

-- of findings, the newest first
abbrev pub counts_of : List Found → NoteGroup
counts_of [] = no_finding
counts_of (newest ∷ before) =
    with_found (not (has_page (page_of newest) before)) (not (has_space (space_of newest) before))
    newest (counts_of before)

-- ---- by notes: `notes` gives the note of each record

abbrev pub note_of : (ℕ → List ℕ) → Found → List ℕ
note_of notes f = notes f.begun.warning.stale_since

-- the findings of a note
abbrev pub of_note : (ℕ → List ℕ) → List ℕ → List Found → List Found
of_note notes by founds = filter (λ f. bytes_eq (note_of notes f) by) founds

abbrev pub is_empty : List Found → Bool
is_empty [] = true
is_empty (f ∷ founds) = false

-- the record of the first finding of each note, in the order in which they began, by the findings so
-- far, the newest first
abbrev pub first_records : (ℕ → List ℕ) → List Found → List ℕ
first_records notes [] = []
first_records notes (newest ∷ before) =
    if is_empty (of_note notes (note_of notes newest) before)
    then first_records notes before ++ newest.begun.warning.stale_since ∷ []
    else first_records notes before

-- what is counted of the findings so far of the note of a record
abbrev pub group_by : (ℕ → List ℕ) → List Found → ℕ → NoteGroup
group_by notes founds since = counts_of (of_note notes (notes since) founds)

abbrev pub groups_so_far : (ℕ → List ℕ) → List Found → List NoteGroup
groups_so_far notes founds = map (group_by notes founds) (first_records notes founds)

-- ---- in order

-- one that began before these, which are in order: it is put behind those with more findings
abbrev pub placed_group : NoteGroup → List NoteGroup → List NoteGroup
placed_group g [] = g ∷ []
placed_group g (next ∷ groups) =
    if nat_lt g.findings next.findings then next ∷ placed_group g groups else g ∷ next ∷ groups

-- those with more findings first, else as they began
abbrev pub by_findings : List NoteGroup → List NoteGroup
by_findings [] = []
by_findings (g ∷ groups) = placed_group g (by_findings groups)

-- the groups of findings that come in the order in which they began
abbrev pub note_groups : (ℕ → List ℕ) → List Found → List NoteGroup
note_groups notes founds = by_findings (groups_so_far notes (reverse founds))
