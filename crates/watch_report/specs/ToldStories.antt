-- A story that is answered as a value, and how it is found in a trace.
use Rattle.std.specs.Prelude.{ℕ, Bool, true, false, ◌≡◌, List, [], ◌∷◌, ◌++◌, codes, Option, Some, None, Result, Ok, Err}
use Rattle.watch_report.specs.declared.fault.ReportFault.{ReportFault}
use Rattle.watch_report.specs.declared.fault.ReportFault.TheVariants.{Unreadable, Line, Output, BrokenPipe, BrokenPipeAtLine, NoMemory}
use Rattle.watch_report.specs.declared.header.Header.{Header}
use Rattle.watch_report.specs.declared.story.Story.{Story}
use Rattle.watch_report.specs.declared.story.StoryRow.{StoryRow}
use Rattle.watch_report.specs.Explaining.{Asked, Gives, Tells, up_to}
use Rattle.watch_report.specs.StoryTexts.{header_text}
use Rattle.watch_report.specs.TraceText.{body_of, fault_in, faulty_line, header_of}
use Rattle.watch_report.specs.Warnings.{place_text}

-- ---- what is found in a trace

-- for what its first line says and the lines after it up to that one
abbrev pub FindsBy : Asked → Result Header (List ℕ) → List (List ℕ) → Result Bool ReportFault → List ℕ
    → Type 0
FindsBy asked said lines (Ok true) text =
    (faulty_line said lines ≡ None) × Tells asked said lines text
FindsBy asked said lines (Ok false) text =
    (faulty_line said lines ≡ None) × ¬ Gives asked said lines
FindsBy asked said lines (Err (Line number fault warned)) text =
    (faulty_line said lines ≡ Some number) × (fault_in said lines number ≡ Some fault)
    × (warned ≡ false)
FindsBy asked said lines (Err Unreadable) text = Unit {0}
FindsBy asked said lines (Err NoMemory) text = Unit {0}
FindsBy asked said lines (Err Output) text = ⊥
FindsBy asked said lines (Err (BrokenPipe warned)) text = ⊥
FindsBy asked said lines (Err (BrokenPipeAtLine number fault warned)) text = ⊥

abbrev pub Finds : Asked → List ℕ → Result Bool ReportFault → List ℕ → Type 0
Finds asked all result text =
    FindsBy asked (header_of all) (up_to asked.line (body_of all)) result text

-- a story, or that there is none to tell
abbrev pub FindsStory : Asked → List ℕ → Result (Option Story) ReportFault → Type 0
FindsStory asked all (Ok (Some story)) = Finds asked all (Ok true) story.text.items
FindsStory asked all (Ok None) = Finds asked all (Ok false) []
FindsStory asked all (Err fault) = Finds asked all (Err fault) []

-- ---- its rows

-- the text of a record, made of its row
abbrev pub row_text : List ℕ → StoryRow → List ℕ
row_text file row =
    codes "# " ++ place_text file row.line ++ row.words.items ++ codes "\n" ++ row.text.items
    ++ codes "\n"

abbrev pub rows_text : List ℕ → List StoryRow → List ℕ
rows_text file [] = []
rows_text file (row ∷ rows) = row_text file row ++ rows_text file rows

-- the text is that of the verdict and the rows, behind a header
abbrev pub IsWhole : List ℕ → Story → Type 0
IsWhole file story = (header : Header) × (story.text.items ≡ header_text header ++ codes "\n# "
    ++ file ++ story.verdict.items ++ rows_text file story.rows.items)

-- nothing was told, and the verdict and the rows are wanted
pub record IsBlank (story : Story) : Type 0 where
  pub text : story.text.items ≡ []
  pub verdict : story.verdict.items ≡ []
  pub rows : story.rows.items ≡ []
  pub wanted : story.has_rows ≡ true
