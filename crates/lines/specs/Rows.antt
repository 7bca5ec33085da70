-- The lines of `show`. A line is made of columns: each is filled with blanks up to where the next
-- begins.
use Rattle.std.specs.Prelude.{ℕ, zero, suc, ◌+◌, ◌-◌, ◌*◌, Bool, ◌==◌, ◌||◌, not, List, [], ◌∷◌, ◌++◌, Option, Some, None, length, replicate, codes, if◌then◌else◌}
use Rattle.std.specs.Fmt.{decimal}
use Rattle.pte.specs.declared.address.PageSize.{PageSize}
use Rattle.pte.specs.declared.address.What.{What}
use Rattle.pte.specs.declared.flags.PteFlags.{PteFlags}
use Rattle.pte.specs.declared.permission.Access.{Access}
use Rattle.pte.specs.declared.permission.Access.TheVariants.{Fetch, Load, Store}
use Rattle.pte.specs.declared.scheme.Scheme.{Scheme}
use Rattle.pte.specs.declared.scheme.Scheme.TheVariants.{Sv39, Sv48}
use Rattle.pte.specs.Entry.{is_accessed, is_dirty, is_global, is_pointer, is_user, may_execute, may_read, may_write}
use Rattle.walk.specs.Stage.{Stage}
use Rattle.tlb.specs.declared.store.Entry.{Entry}
use Rattle.shoot.specs.Mailbox.{MailboxState, first_waiting}
use Rattle.shoot.specs.Request.{Request}
use Rattle.spaces.specs.declared.configuration.Config.{Config}
use Rattle.lines.specs.AnswerLines.{hex, size_text}
use Rattle.lines.specs.ReplyLines.{page_text, what_text}
use Rattle.stepcore.specs.State.{HartState}
use Rattle.stepcore.specs.declared.serving.Serving.{Serving}
use Rattle.stepcore.specs.declared.space_state.Phase.{Phase}
use Rattle.stepcore.specs.declared.space_state.Phase.TheVariants as phase
use Rattle.stepcore.specs.declared.space_state.SpaceState.{SpaceState}

-- a line filled with blanks up to a column
abbrev pub upto : ℕ → List ℕ → List ℕ
upto column line = line ++ replicate (column - length line) 32

-- the end of a line
abbrev pub end_line : List ℕ → List ℕ
end_line line = line ++ codes "\n"

-- a table after a blank line, if it has rows
abbrev pub table_text : List ℕ → List ℕ → List ℕ
table_text head [] = []
table_text head (c ∷ rows) = codes "\n" ++ head ++ (c ∷ rows)

-- ---- the first line

abbrev pub scheme_text : Scheme → List ℕ
scheme_text Sv39 = codes "sv39"
scheme_text Sv48 = codes "sv48"

-- the word behind their number
abbrev pub steps_text : ℕ → List ℕ
steps_text steps = if steps == 1 then codes " step: " else codes " steps: "

abbrev pub first_line : ℕ → Config → List ℕ
first_line steps config =
    end_line (codes "after " ++ decimal steps ++ steps_text steps ++ scheme_text config.scheme
    ++ codes ", harts " ++ decimal config.harts
    ++ codes ", window " ++ decimal config.window ++ codes ", capacity " ++ decimal config.capacity)

-- ---- spaces

-- a free space has no ASID
abbrev pub asid_text : ℕ → Phase → List ℕ
asid_text asid phase.Live = decimal asid
asid_text asid (phase.Retiring ticket) = decimal asid
asid_text asid phase.Free = codes "-"

abbrev pub phase_text : Phase → List ℕ
phase_text phase.Live = codes "live"
phase_text (phase.Retiring (Some ticket)) = codes "retiring, ticket " ++ decimal ticket
phase_text (phase.Retiring None) = codes "retiring, ticket finished"
phase_text phase.Free = codes "free"

abbrev pub space_line : ℕ → SpaceState → ℕ → ℕ → List ℕ
space_line space state home root =
    end_line (upto 35 (upto 20 (upto 14 (upto 7 (decimal space) ++ asid_text state.asid state.phase)
    ++ decimal home) ++ hex root) ++ phase_text state.phase)

-- ---- harts

abbrev pub access_text : Access → List ℕ
access_text Fetch = codes "fetch"
access_text Load = codes "load"
access_text Store = codes "store"

-- a line, and then the columns of a walk in flight: the access, its address, and the level and the
-- frame of the table that it reads next
abbrev pub with_walk : List ℕ → Option Stage → List ℕ
with_walk line None = line ++ codes "-"
with_walk line (Some walk) =
    upto 54 (upto 47 (upto 27 (line ++ access_text walk.access) ++ hex walk.va)
    ++ decimal walk.level) ++ hex walk.table

abbrev pub hart_line : ℕ → HartState → ℕ → List ℕ
hart_line number hart asid =
    end_line (with_walk (upto 20
    (upto 13 (upto 6 (decimal number) ++ decimal hart.space) ++ decimal asid)) hart.walk)

abbrev pub yes_text : Bool → List ℕ
yes_text fenced = if fenced then codes "yes" else codes "no"

abbrev pub service_line : ℕ → Serving → List ℕ
service_line number serving =
    end_line (upto 30 (upto 22 (upto 14 (upto 6 (decimal number) ++ decimal serving.from)
    ++ decimal serving.request.ticket) ++ yes_text serving.fenced)
    ++ what_text serving.request.what)

-- ---- the entries of TLBs

abbrev pub letter_if : Bool → List ℕ → List ℕ
letter_if is_set letter = if is_set then letter else []

-- the letters of the flags that are set, but for V, which each leaf has: the rights, and the others
abbrev pub rights_text : PteFlags → List ℕ
rights_text flags =
    letter_if (may_read flags.0) (codes "r") ++ letter_if (may_write flags.0) (codes "w")
    ++ letter_if (may_execute flags.0) (codes "x")

abbrev pub uses_text : PteFlags → List ℕ
uses_text flags =
    letter_if (is_user flags.0) (codes "u") ++ letter_if (is_global flags.0) (codes "g")
    ++ letter_if (is_accessed flags.0) (codes "a") ++ letter_if (is_dirty flags.0) (codes "d")

abbrev pub flags_text : PteFlags → List ℕ
flags_text flags = rights_text flags ++ uses_text flags

-- as a word of a file: `-` where no letter is left
abbrev pub has_letter : PteFlags → Bool
has_letter flags =
    not (is_pointer flags.0)
    || (is_user flags.0 || (is_global flags.0 || (is_accessed flags.0 || is_dirty flags.0)))

abbrev pub flags_word : PteFlags → List ℕ
flags_word flags = if has_letter flags then flags_text flags else codes "-"

abbrev pub owner_text : Entry → List ℕ
owner_text entry = if entry.global then codes "global" else decimal entry.asid

abbrev pub entry_line : ℕ → ℕ → Entry → List ℕ
entry_line hart age entry =
    end_line (upto 59 (upto 44 (upto 36
    (upto 11 (upto 6 (decimal hart) ++ decimal age) ++ page_text entry.page) ++ owner_text entry)
    ++ hex entry.ppn)
    ++ flags_text entry.flags)

-- ---- rows by number

-- the rows of the numbers below n, in order
abbrev pub rows_below : (ℕ → List ℕ) → ℕ → List ℕ
rows_below row zero = []
rows_below row (suc n) = rows_below row n ++ row n

-- ---- open orders

-- a place for each hart: its number where it has the mark
abbrev pub mark_text : (ℕ → Bool) → ℕ → List ℕ
mark_text has hart = if has hart then decimal hart else codes "-"

abbrev pub marks_text : ℕ → (ℕ → Bool) → List ℕ
marks_text harts has = rows_below (mark_text has) harts

abbrev pub order_line : ℕ → ℕ → ℕ → (ℕ → Bool) → (ℕ → Bool) → (ℕ → Bool) → (ℕ → Bool) → What
    → List ℕ
order_line harts hart ticket named posted acked collected what =
    end_line (upto 59 (upto 48 (upto 34
    (upto 24 (upto 14 (upto 6 (decimal hart) ++ decimal ticket) ++ marks_text harts named)
    ++ marks_text harts posted) ++ marks_text harts acked) ++ marks_text harts collected)
    ++ what_text what)

-- ---- mailboxes

-- a line, and then the columns of a request that waits
abbrev pub with_request : List ℕ → Request → List ℕ
with_request line request =
    upto 40 (upto 32 line ++ decimal request.ticket) ++ what_text request.what

abbrev pub with_first : List ℕ → Option Request → List ℕ
with_first line None = upto 32 line ++ codes "-"
with_first line (Some request) = with_request line request

abbrev pub closed_text : Bool → List ℕ
closed_text closed = if closed then codes "closed" else codes "open"

abbrev pub with_state : List ℕ → MailboxState → ℕ → List ℕ
with_state line mailbox capacity =
    upto 19 (upto 10 line ++ closed_text mailbox.closed)
    ++ (decimal mailbox.outstanding ++ codes " of " ++ decimal capacity)

abbrev pub mailbox_line : ℕ → ℕ → MailboxState → ℕ → List ℕ
mailbox_line sender receiver mailbox capacity =
    end_line (with_first (with_state (upto 6 (decimal sender) ++ decimal receiver) mailbox capacity)
    (first_waiting mailbox))

abbrev pub waiting_line : Request → List ℕ
waiting_line request = end_line (with_request [] request)

-- ---- tables

-- an index, two columns farther in for each level below the root
abbrev pub indexed : ℕ → ℕ → List ℕ
indexed depth index = upto (7 + 2 * depth) (upto (2 + 2 * depth) [] ++ decimal index)

abbrev pub global_mark : Bool → List ℕ
global_mark global = if global then codes " g" else []

abbrev pub pointer_line : ℕ → ℕ → ℕ → ℕ → Bool → List ℕ
pointer_line depth index ppn level global =
    end_line (indexed depth index
    ++ (codes "table " ++ hex ppn ++ codes " level " ++ decimal level) ++ global_mark global)

abbrev pub leaf_line : ℕ → ℕ → PageSize → ℕ → ℕ → PteFlags → List ℕ
leaf_line depth index size va ppn flags =
    end_line (upto 53
    (upto 38 (indexed depth index ++ (size_text size ++ codes ":" ++ hex va)) ++ hex ppn)
    ++ flags_text flags)
