-- The list of what is known to be by design, and what is printed of it at the end.
use Rattle.std.specs.Prelude.{ℕ, codes, List, [], ◌∷◌, ◌++◌, map, Option, Some, None}
use Rattle.std.specs.List.{sum}
use Rattle.watch_causes.specs.KnownFindings.{KnownEntry, known_entry}
use Rattle.watch_report.specs.declared.detail.Detail.{Detail}
use Rattle.watch_report.specs.declared.detail.Detail.TheVariants.{Causes, Counts, Verdicts}
use Rattle.watch_report.specs.declared.known_list.KnownList.{KnownList}
use Rattle.watch_report.specs.declared.options.Form.{Form}
use Rattle.watch_report.specs.declared.options.Form.TheVariants.{Json, Text}
use Rattle.watch_report.specs.JsonObjects.{json_line, known_object}
use Rattle.watch_report.specs.Warnings.{findings_text, place_text}

-- the name of the file, and its entries in the order of their lines
pub record KnownIn : Type 0 where
  pub file : List ℕ
  pub entries : List KnownEntry

abbrev pub list_of : List ℕ → List KnownEntry → KnownIn
list_of file entries = record { file = file; entries = entries }

abbrev pub known_in : KnownList → KnownIn
known_in list = list_of list.file.now (map known_entry list.entries.items)

-- no list
abbrev pub none_known : KnownIn
none_known = list_of [] []

-- ---- at the end, by how many findings each entry counts

-- FILE:LINE: by design: FINDINGS
abbrev pub known_line : List ℕ → ℕ → ℕ → List ℕ
known_line file line findings =
    place_text file line ++ codes "by design: " ++ findings_text findings ++ codes "\n"

abbrev pub known_as : Form → List ℕ → ℕ → ℕ → List ℕ
known_as Text file line findings = known_line file line findings
known_as Json file line findings = json_line (known_object file line findings)

abbrev pub known_lines : Form → List ℕ → List KnownEntry → List ℕ → List ℕ
known_lines form file [] counts = []
known_lines form file (entry ∷ entries) [] = []
known_lines form file (entry ∷ entries) (findings ∷ counts) =
    known_as form file entry.line findings ++ known_lines form file entries counts

-- a line for each entry
abbrev pub known_text : Form → Detail → KnownIn → List ℕ → List ℕ
known_text form Verdicts known counts = known_lines form known.file known.entries counts
known_text form Causes known counts = known_lines form known.file known.entries counts
known_text form Counts known counts = []

-- all of them, if the list has entries
abbrev pub design_sum : List KnownEntry → List ℕ → Option ℕ
design_sum [] counts = None
design_sum (entry ∷ entries) counts = Some (sum counts)
