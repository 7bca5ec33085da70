-- The text of a story, part by part.
use Rattle.std.proofs.Common.{◌≡◌, ℕ, List, ◌∷◌, ◌++◌, [], codes, ap, refl, sym, ◌∙◌, append_assoc, append-nil}
use Rattle.std.specs.Fmt.{decimal}
use Rattle.pte.specs.declared.scheme.Scheme.{Scheme}
use Rattle.watch_causes.specs.declared.stories.Part.{Part}
use Rattle.watch_engine.specs.declared.warning.Warning.{Warning}
use Rattle.watch_report.specs.declared.header.Header.{Header}
use Rattle.watch_report.specs.declared.story.StoryRow.{StoryRow}
use Rattle.watch_report.specs.declared.warning.Trigger.{Trigger}
use Rattle.watch_report.specs.declared.warning.Warning.{Warning as PrintedWarning}
use Rattle.watch_report.specs.RecordLines.{note_text, record_text}
use Rattle.watch_report.specs.StoryTexts.{head_text, header_text, part_text, parts_text, role_text}
use Rattle.watch_report.specs.ToldStories.{row_text, rows_text}
use Rattle.watch_report.specs.TraceText.{Noted, line_at, note_at}
use Rattle.watch_report.specs.VerdictLines.{printed_of}
use Rattle.watch_report.specs.Warnings.{holder_part, owner_prefix, place_text, since_part, trigger_part, verdict_of, verdict_text, warning_line}

-- one part more
pub front_part : (file : List ℕ) (scheme : Scheme) (records : List Noted) (w : Warning) (parts : List Part) (part : Part) (rest : List Part) (front new all : List ℕ) → parts ≡ part ∷ rest
    → new ≡ front ++ part_text file scheme records w part → front ++ parts_text file scheme records w parts ≡ all → new ++ parts_text file scheme records w rest ≡ all
front_part file scheme records w parts part rest front new all is e h =
    ap (λ (n : List ℕ). n ++ parts_text file scheme records w rest) e
    ∙ append_assoc front (part_text file scheme records w part) (parts_text file scheme records w rest)
    ∙ ap (λ (ps : List Part). front ++ parts_text file scheme records w ps) (sym is)
    ∙ h

-- ---- made of rows

pub row_is_part : (file : List ℕ) (scheme : Scheme) (records : List Noted) (w : Warning) (part : Part) (row : StoryRow) → row.line ≡ line_at records part.number → row.words.items ≡ role_text w part.made part.role
    → row.text.items ≡ record_text scheme part.made ++ note_text (note_at records part.number) → row_text file row ≡ part_text file scheme records w part
row_is_part file scheme records w part row line words text =
    let before : List ℕ = codes "# " ++ place_text file (line_at records part.number) ++ role_text w part.made part.role ++ codes "\n" in
    (λ j. codes "# " ++ place_text file (line j) ++ words j ++ codes "\n" ++ text j ++ codes "\n")
    ∙ ap (λ (t : List ℕ). t ++ codes "\n") (sym (append_assoc before (record_text scheme part.made) (note_text (note_at records part.number))))

pub rows_more : (file : List ℕ) (rows : List StoryRow) (row : StoryRow) → rows_text file (rows ++ row ∷ []) ≡ rows_text file rows ++ row_text file row
rows_more file [] row = append-nil (row_text file row)
rows_more file (first ∷ rows) row =
    ap (λ (t : List ℕ). row_text file first ++ t) (rows_more file rows row) ∙ sym (append_assoc (row_text file first) (rows_text file rows) (row_text file row))

-- what stands first, and one piece more
first_stays : (first : List ℕ) (rest piece whole : List ℕ) → whole ≡ first ++ rest → whole ++ piece ≡ first ++ (rest ++ piece)
first_stays first rest piece whole e = ap (λ (t : List ℕ). t ++ piece) e ∙ append_assoc first rest piece

-- the file's name stands first
named_line : (file : List ℕ) (w : PrintedWarning) (stale_by by : List ℕ) → warning_line file w stale_by by ≡ file ++ warning_line [] w stale_by by
named_line file w stale_by by =
    let line = first_stays file (codes ":") (decimal w.line) (file ++ codes ":") refl in
    let place = first_stays file _ (codes ": ") _ line in
    let owner = first_stays file _ (owner_prefix w.entry.global) _ place in
    let verdict = first_stays file _ (verdict_text (verdict_of w.trigger)) _ owner in
    let hart = first_stays file _ (codes " hart ") _ verdict in
    let holder = first_stays file _ (holder_part w) _ hart in
    let since = first_stays file _ (since_part w stale_by) _ holder in
    first_stays file _ (trigger_part w by) _ since

pub whole_is : (file : List ℕ) (header : Header) (trigger : Trigger) (newest : Noted) (records : List Noted) (w : Warning) (old text verdict parts rows : List ℕ) → old ≡ []
    → text ≡ old ++ (head_text file header trigger newest records w ++ parts) → verdict ≡ warning_line [] (printed_of trigger newest records w) (note_at records w.stale_since) newest.by → rows ≡ parts
    → text ≡ header_text header ++ codes "\n# " ++ file ++ verdict ++ rows
whole_is file header trigger newest records w old text verdict parts rows blank e said is =
    let line : List ℕ = warning_line [] (printed_of trigger newest records w) (note_at records w.stale_since) newest.by in
    e
    ∙ ap (λ (t : List ℕ). t ++ (head_text file header trigger newest records w ++ parts)) blank
    ∙ ap (λ (t : List ℕ). (header_text header ++ codes "\n# " ++ t) ++ parts) (named_line file (printed_of trigger newest records w) (note_at records w.stale_since) newest.by)
    ∙ ap (λ (t : List ℕ). t ++ parts) (sym (append_assoc (header_text header ++ codes "\n# ") file line))
    ∙ sym (λ j. header_text header ++ codes "\n# " ++ file ++ said j ++ is j)
