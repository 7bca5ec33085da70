-- Worked notes below a cause, and worked findings: what was worked out by hand.
use Rattle.std.specs.Prelude.{◌≡◌, ◌==◌, ℕ, Bool, true, false, codes, if◌then◌else◌, List, [], ◌∷◌, ◌++◌}
use Rattle.json.specs.Token.{Token}
use Rattle.pte.specs.declared.address.PageSize.TheVariants.{Kib4, Mib2}
use Rattle.tlb.specs.declared.store.Entry.{Entry}
use Rattle.watch.specs.declared.trace.Verdict.TheVariants.{Free}
use Rattle.watch_causes.specs.declared.reach.Reach.{Reach}
use Rattle.watch_causes.specs.declared.reach.Reach.TheVariants.{Used, Reachable, NotReached}
use Rattle.watch_causes.specs.declared.reason.Reason.TheVariants.{NoFlush}
use Rattle.watch_report.specs.declared.found.Found.{Found}
use Rattle.watch_report.specs.declared.note_group.NoteGroup.{NoteGroup}
use Rattle.watch_report.specs.JsonObjects.{json_line}
use Rattle.watch_report.specs.NoteGroups.{note_groups}
use Rattle.watch_report.specs.NoteLines.{note_lines}
use Rattle.watch_report.specs.NoteObjects.{found_object, note_object}
use Rattle.watch_report.specs.WorkedCauseLines.{cause_of}

-- record 5 has no note, and record 7 another than the others
abbrev pub notes : ℕ → List ℕ
notes n = if n == 5 then [] else if n == 7 then codes "mprotect" else codes "unmap"

-- a translation of the page, with ASID 1 where it is not global
abbrev pub entry_at : Bool → ℕ → Entry
entry_at global base =
    record {
      asid = 1;
      global = global;
      page = record { base = base; size = Kib4 };
      ppn = 0x200;
      flags = record { 0 = 0xD6 };
    }

-- of the page, stale since the record, on the hart
abbrev pub found_at : Bool → ℕ → ℕ → ℕ → Reach → ℕ → Found
found_at global base since hart reach fenced =
    record {
      number = 2;
      begun = record {
        number = 9;
        warning = record {
          verdict = Free;
          hart = hart;
          root = 0x80000;
          entry = entry_at global base;
          stale_since = since;
        };
        cause = cause_of global Free NoFlush;
        fenced = fenced;
      };
      reach = reach;
    }

-- under another root and ASID
abbrev pub elsewhere : Found → Found
elsewhere f =
    record f {
      begun = record f.begun {
        warning = record f.begun.warning {
          root = 0x90000;
          entry = record f.begun.warning.entry { asid = 2 };
        };
      };
    }

-- on a page of 2 MiB
abbrev pub larger : Found → Found
larger f =
    record f {
      begun = record f.begun {
        warning = record f.begun.warning {
          entry = record f.begun.warning.entry { page = record { base = f.begun.warning.entry.page.base; size = Mib2 } };
        };
      };
    }

-- what is printed of these findings, which are of one cause
abbrev pub Below : Bool → List Found → List ℕ → Type 0
Below global founds text = note_lines notes global (note_groups notes founds) ≡ text

-- ---- one note

-- two pages on two harts, the first on both; the flush of one fenced harts 0 and 2, that of the other 0
abbrev pub three_of_unmap : List Found
three_of_unmap =
    found_at false 0x1000 1 1 Used 5 ∷ found_at false 0x1000 3 3 Reachable 1
    ∷ found_at false 0x2000 1 1 NotReached 0 ∷ []

abbrev pub two_harts : Type 0
two_harts =
    Below false three_of_unmap
    (codes "  stale by unmap: 3 findings, 2 pages of 1 space, harts 1, 3; fences asked of harts 0, 2; used 1, reachable 1, not reached 1\n")

abbrev pub without_a_note : Type 0
without_a_note =
    Below false (found_at false 0x1000 5 63 NotReached 0 ∷ [])
    (codes "  stale without a note: 1 finding, 1 page of 1 space, hart 63; not reached 1\n")

-- a page of another space is another page, and so is one of another size
abbrev pub two_spaces : Type 0
two_spaces =
    Below false
    (found_at false 0x200000 1 0 Used 1 ∷ elsewhere (found_at false 0x200000 1 0 Used 1)
    ∷ larger (found_at false 0x200000 1 0 Used 1) ∷ [])
    (codes "  stale by unmap: 3 findings, 3 pages of 2 spaces, hart 0; fences asked of hart 0; used 3\n")

-- a global page is the same in each space
abbrev pub of_kernel : Type 0
of_kernel =
    Below true
    (found_at true 0x1000 1 1 Reachable 0 ∷ elsewhere (found_at true 0x1000 1 2 Reachable 0) ∷ [])
    (codes "  stale by unmap: 2 findings, 1 page, harts 1, 2; reachable 2\n")

-- ---- several notes

-- the note that began last has most findings
abbrev pub three_notes : List Found
three_notes =
    found_at false 0x1000 5 1 NotReached 0 ∷ found_at false 0x1000 7 1 NotReached 0
    ∷ found_at false 0x1000 1 2 Used 2 ∷ found_at false 0x2000 2 2 Used 2 ∷ []

abbrev pub most_findings_first : Type 0
most_findings_first =
    Below false three_notes
    (codes "  stale by unmap: 2 findings, 2 pages of 1 space, hart 2; fences asked of hart 1; used 2\n"
    ++ codes "  stale without a note: 1 finding, 1 page of 1 space, hart 1; not reached 1\n"
    ++ codes "  stale by mprotect: 1 finding, 1 page of 1 space, hart 1; not reached 1\n")

abbrev pub no_findings : Type 0
no_findings = Below false [] []

-- what is counted of so many findings of one page
abbrev pub group_of : ℕ → ℕ → NoteGroup
group_of since findings =
    record {
      since = since;
      findings = findings;
      pages = 1;
      spaces = 1;
      harts = 2;
      fenced = 0;
      used = findings;
      reachable = 0;
      not_reached = 0;
    }

abbrev pub of_unmap : List ℕ
of_unmap = codes "  stale by unmap: 9 findings, 1 page of 1 space, hart 1; used 9\n"

abbrev pub five_of_unmap : List NoteGroup
five_of_unmap = group_of 1 9 ∷ group_of 1 9 ∷ group_of 1 9 ∷ group_of 1 9 ∷ group_of 1 9 ∷ []

abbrev pub five_lines : List ℕ
five_lines = of_unmap ++ of_unmap ++ of_unmap ++ of_unmap ++ of_unmap

abbrev pub five : Type 0
five = note_lines notes false five_of_unmap ≡ five_lines

abbrev pub six : Type 0
six =
    note_lines notes false (five_of_unmap ++ group_of 7 1 ∷ [])
    ≡ five_lines ++ codes "  1 more note: 1 finding\n"

abbrev pub seven : Type 0
seven =
    note_lines notes false (five_of_unmap ++ group_of 7 4 ∷ group_of 5 3 ∷ [])
    ≡ five_lines ++ codes "  2 more notes: 7 findings\n"

-- what is not so: one line more, what began last first, one space for two
abbrev pub six_lines : Type 0
six_lines =
    ¬ (note_lines notes false (five_of_unmap ++ group_of 1 9 ∷ []) ≡ five_lines ++ of_unmap)

abbrev pub last_first : Type 0
last_first =
    ¬ Below false (found_at false 0x1000 5 1 Used 0 ∷ found_at false 0x1000 7 1 Used 0 ∷ [])
    (codes "  stale by mprotect: 1 finding, 1 page of 1 space, hart 1; used 1\n"
    ++ codes "  stale without a note: 1 finding, 1 page of 1 space, hart 1; used 1\n")

abbrev pub one_space : Type 0
one_space =
    ¬ Below false
    (found_at false 0x1000 1 0 Used 0 ∷ elsewhere (found_at false 0x1000 1 0 Used 0) ∷ [])
    (codes "  stale by unmap: 2 findings, 1 page of 1 space, hart 0; used 2\n")

-- ---- in JSON

-- the object is printed so, on a line
abbrev pub Prints : List Token → List ℕ → Type 0
Prints object text = json_line object ≡ text ++ codes "\n"

abbrev pub finding : Type 0
finding =
    Prints (found_object (codes "boot.watch") 15 12 [] (found_at false 0x1000 5 1 Used 5))
    (codes "{\"type\":\"finding\",\"file\":\"boot.watch\",\"line\":15,\"cause\":2,\"kernel\":false,\"hart\":1,"
    ++ codes "\"page\":\"1000\",\"size\":\"1000\",\"frame\":\"200\",\"flags\":\"rw-u-\",\"asid\":\"1\",\"root\":\"80000\","
    ++ codes "\"stale_since\":12,\"stale_by\":null,\"reach\":\"used\"}")

abbrev pub finding_of_kernel : Type 0
finding_of_kernel =
    Prints (found_object (codes "-") 100 3 (codes "unmap") (larger (found_at true 0x200000 3 11 Reachable 0)))
    (codes "{\"type\":\"finding\",\"file\":\"-\",\"line\":100,\"cause\":2,\"kernel\":true,\"hart\":11,"
    ++ codes "\"page\":\"200000\",\"size\":\"200000\",\"frame\":\"200\",\"flags\":\"rw-ug\",\"asid\":null,\"root\":null,"
    ++ codes "\"stale_since\":3,\"stale_by\":\"unmap\",\"reach\":\"reachable\"}")

abbrev pub group : NoteGroup
group =
    record {
      since = 5;
      findings = 3;
      pages = 2;
      spaces = 1;
      harts = 10;
      fenced = 5;
      used = 1;
      reachable = 1;
      not_reached = 1;
    }

abbrev pub note : Type 0
note =
    Prints (note_object (codes "boot.watch") 2 [] false group)
    (codes "{\"type\":\"note\",\"file\":\"boot.watch\",\"cause\":2,\"note\":null,\"findings\":3,\"pages\":2,\"spaces\":1,"
    ++ codes "\"harts\":[1,3],\"asked\":[0,2],\"used\":1,\"reachable\":1,\"not_reached\":1}")

abbrev pub note_of_kernel : Type 0
note_of_kernel =
    Prints (note_object (codes "-") 40 (codes "vunmap") true (record group { harts = 2; fenced = 0 }))
    (codes "{\"type\":\"note\",\"file\":\"-\",\"cause\":40,\"note\":\"vunmap\",\"findings\":3,\"pages\":2,\"spaces\":null,"
    ++ codes "\"harts\":[1],\"asked\":[],\"used\":1,\"reachable\":1,\"not_reached\":1}")
