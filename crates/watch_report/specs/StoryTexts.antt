-- The text of a verdict's story: a trace that alone gives the verdict, with comments.
use Rattle.std.specs.Prelude.{ℕ, Bool, true, false, Bool, codes, List, [], ◌∷◌, ◌++◌, if◌then◌else◌}
use Rattle.std.specs.Fmt.{decimal}
use Rattle.pte.specs.declared.scheme.Scheme.{Scheme}
use Rattle.pte.specs.declared.scheme.Scheme.TheVariants.{Sv39, Sv48}
use Rattle.watch.specs.declared.trace.Record.{Record}
use Rattle.watch.specs.declared.trace.Record.TheVariants.{RemoteBegin, Use}
use Rattle.watch_causes.specs.declared.reason.Reason.{Reason}
use Rattle.watch_causes.specs.declared.reason.Reason.TheVariants.{OtherHarts, OtherSpaces, OtherPages}
use Rattle.watch_causes.specs.declared.role.Role.{Role}
use Rattle.watch_causes.specs.declared.role.Role.TheVariants.{Maps, Enters, Leaves, Drops, AsksEarly, MakesStale, Misses, BeginsFlush, EndsFlush, GivesBack, GivesOut, Uses, Other}
use Rattle.watch_causes.specs.declared.stories.Part.{Part}
use Rattle.watch_engine.specs.declared.warning.Warning.{Warning}
use Rattle.watch_report.specs.declared.header.Header.{Header}
use Rattle.watch_report.specs.declared.warning.Trigger.{Trigger}
use Rattle.watch_report.specs.RecordLines.{note_text, record_text}
use Rattle.watch_report.specs.TraceText.{Noted, line_at, note_at}
use Rattle.watch_report.specs.VerdictLines.{printed_of}
use Rattle.watch_report.specs.Warnings.{hexadecimal, place_text, warning_line}

-- ---- what a record has to do with the verdict

abbrev pub hart_text : ℕ → List ℕ
hart_text hart = codes "hart " ++ decimal hart

-- one that a hart asks others for, or executes
abbrev pub fence_text : Record → List ℕ
fence_text (RemoteBegin hart token fence) = codes "a remote fence"
fence_text _ = codes "a fence"

abbrev pub missed_space : Bool → ℕ → List ℕ
missed_space global asid =
    if global then codes " by ASID, and the page is global"
    else codes ", not for asid " ++ hexadecimal asid

-- why a fence does not take the translation from the hart
abbrev pub miss_text : Warning → Reason → List ℕ
miss_text w OtherHarts = codes ", not for " ++ hart_text w.hart
miss_text w OtherSpaces = missed_space w.entry.global w.entry.asid
miss_text w OtherPages = codes ", not for page " ++ hexadecimal w.entry.page.base
miss_text w _ = codes " for the page, not known to be done"

abbrev pub use_text : Record → List ℕ
use_text (Use hart address) = hart_text hart ++ codes " uses " ++ hexadecimal address
use_text _ = codes "another record"

-- what is global is in every one
abbrev pub entered_text : Bool → List ℕ
entered_text true = codes " enters an address space"
entered_text false = codes " enters the address space"

abbrev pub role_text : Warning → Record → Role → List ℕ
role_text w made Maps = codes "a word on the way to the page"
role_text w made Enters = hart_text w.hart ++ entered_text w.entry.global
role_text w made Leaves =
    hart_text w.hart ++ codes " leaves the address space, and may keep the page"
role_text w made Drops = hart_text w.hart ++ codes " fences the page"
role_text w made AsksEarly =
    hart_text w.hart ++ codes " is asked to fence the page, before it is stale"
role_text w made MakesStale = codes "stale from here on"
role_text w made (Misses reason) = fence_text made ++ miss_text w reason
role_text w made BeginsFlush = codes "a flush begins"
role_text w made EndsFlush = codes "the flush returns"
role_text w made GivesBack = codes "frames are given back"
role_text w made GivesOut = codes "frames are given out"
role_text w made Uses = use_text made
role_text w made Other = codes "another record"

-- ---- the text

-- watch 1 HARTS SCHEME
abbrev pub scheme_text : Scheme → List ℕ
scheme_text Sv39 = codes "sv39"
scheme_text Sv48 = codes "sv48"

abbrev pub header_text : Header → List ℕ
header_text header =
    codes "watch 1 " ++ decimal header.harts ++ codes " " ++ scheme_text header.scheme

-- the header, and the verdict's line as a comment
abbrev pub head_text : List ℕ → Header → Trigger → Noted → List Noted → Warning → List ℕ
head_text file header trigger newest records w =
    header_text header ++ codes "\n# "
    ++ warning_line file (printed_of trigger newest records w) (note_at records w.stale_since) newest.by

-- FILE:LINE: ROLE as a comment, and the record with its note
abbrev pub part_text : List ℕ → Scheme → List Noted → Warning → Part → List ℕ
part_text file scheme records w part =
    codes "# " ++ place_text file (line_at records part.number)
    ++ role_text w part.made part.role ++ codes "\n" ++ record_text scheme part.made
    ++ note_text (note_at records part.number) ++ codes "\n"

abbrev pub parts_text : List ℕ → Scheme → List Noted → Warning → List Part → List ℕ
parts_text file scheme records w [] = []
parts_text file scheme records w (part ∷ parts) =
    part_text file scheme records w part ++ parts_text file scheme records w parts

-- of a verdict at the newest record, after the others
abbrev pub story_text : List ℕ → Header → Trigger → Noted → List Noted → Warning → List Part → List ℕ
story_text file header trigger newest records w parts =
    head_text file header trigger newest records w
    ++ parts_text file header.scheme (newest ∷ records) w parts
