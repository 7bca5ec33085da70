-- What is printed below a cause at the end, of the notes of the records that made its pages stale.
use Rattle.std.specs.Prelude.{ℕ, zero, suc, Bool, true, false, ◌==◌, codes, if◌then◌else◌, List, [], ◌∷◌, ◌++◌, drop, length, take}
use Rattle.std.specs.Fmt.{decimal}
use Rattle.std.specs.Int.{bit_at}
use Rattle.std.specs.List.{sum_by}
use Rattle.watch_report.specs.declared.note_group.NoteGroup.{NoteGroup}
use Rattle.watch_report.specs.ShownNotes.{shown_note}
use Rattle.watch_report.specs.Warnings.{comma_text, counted_text, verdict_counts_text}

-- ---- harts

abbrev pub has_hart : ℕ → ℕ → Bool
has_hart mask hart = bit_at mask hart == 1

-- those of a mask below a number, ascending
abbrev pub harts_below : ℕ → ℕ → List ℕ
harts_below mask zero = []
harts_below mask (suc n) =
    if has_hart mask n then harts_below mask n ++ n ∷ [] else harts_below mask n

unfoldable pub most_harts : ℕ
most_harts = 64

abbrev pub harts_in : ℕ → List ℕ
harts_in mask = harts_below mask most_harts

-- with commas between them
abbrev pub joined : Bool → List ℕ → List ℕ
joined is_first [] = []
joined is_first (hart ∷ harts) = comma_text is_first ++ decimal hart ++ joined false harts

-- hart H, or harts H, H
abbrev pub harts_text : List ℕ → List ℕ
harts_text harts =
    (if length harts == 1 then codes "hart " else codes "harts ") ++ joined true harts

-- ---- a note

-- stale by NOTE:
abbrev pub stale_by_part : List ℕ → List ℕ
stale_by_part by =
    if length by == 0 then codes "  stale without a note: "
    else codes "  stale by " ++ shown_note by ++ codes ": "

abbrev pub findings_count : ℕ → List ℕ
findings_count n = counted_text n (codes " finding") (codes " findings")

-- what is global is of no space
abbrev pub of_spaces_text : Bool → ℕ → List ℕ
of_spaces_text global spaces =
    if global then [] else codes " of " ++ counted_text spaces (codes " space") (codes " spaces")

-- N findings, N pages of N spaces, harts H, H
abbrev pub found_part : Bool → NoteGroup → List ℕ
found_part global g =
    findings_count g.findings ++ codes ", " ++ counted_text g.pages (codes " page") (codes " pages")
    ++ of_spaces_text global g.spaces ++ codes ", " ++ harts_text (harts_in g.harts)

-- the harts that their flushes asked for a fence; left out where there is none
abbrev pub fenced_part : ℕ → List ℕ
fenced_part mask =
    if mask == 0 then [] else codes "; fences asked of " ++ harts_text (harts_in mask)

-- in the order in which they are printed
abbrev pub reach_counts : NoteGroup → List (List ℕ × ℕ)
reach_counts g =
    (codes "used", g.used) ∷ (codes "reachable", g.reachable) ∷ (codes "not reached", g.not_reached) ∷ []

-- stale by NOTE: FOUND; fences asked of harts H, H; used N, reachable N, not reached N
abbrev pub note_line : List ℕ → Bool → NoteGroup → List ℕ
note_line by global g =
    stale_by_part by ++ found_part global g ++ fenced_part g.fenced ++ codes "; "
    ++ verdict_counts_text true (reach_counts g) ++ codes "\n"

-- ---- all of them

-- a line for each; `notes` gives the note of each record
abbrev pub each_note_line : (ℕ → List ℕ) → Bool → List NoteGroup → List ℕ
each_note_line notes global [] = []
each_note_line notes global (g ∷ groups) =
    note_line (notes g.since) global g ++ each_note_line notes global groups

abbrev pub findings_of : List NoteGroup → ℕ
findings_of groups = sum_by (λ g. g.findings) groups

-- N more notes: N findings
abbrev pub more_notes_line : ℕ → ℕ → List ℕ
more_notes_line notes findings =
    if notes == 0 then []
    else codes "  " ++ counted_text notes (codes " more note: ") (codes " more notes: ")
    ++ findings_count findings ++ codes "\n"

-- a line for each of the first five, and one for the others
abbrev pub note_lines : (ℕ → List ℕ) → Bool → List NoteGroup → List ℕ
note_lines notes global groups =
    each_note_line notes global (take 5 groups)
    ++ more_notes_line (length (drop 5 groups)) (findings_of (drop 5 groups))
