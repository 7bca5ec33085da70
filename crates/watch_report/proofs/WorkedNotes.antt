-- The worked notes and findings, computed.
use Rattle.std.proofs.Common.{◌≡◌, ℕ, List, ap, refl, sym, ◌∙◌, false, true}
use Rattle.std.specs.Fmt.{digits}
use Rattle.std.specs.Str.{bytes_eq}
use Rattle.std.proofs.lemmas.Bool.{false≢true}
use Rattle.watch_report.specs.NoteLines.{most_harts}
use Rattle.watch_report.specs.WorkedNotes as rows
use Rattle.watch_report.proofs.WorkedJson.{computing}

pub two_harts : rows.two_harts
unfolding digits most_harts
two_harts = refl

pub without_a_note : rows.without_a_note
unfolding digits most_harts
without_a_note = refl

pub two_spaces : rows.two_spaces
unfolding digits most_harts
two_spaces = refl

pub of_kernel : rows.of_kernel
unfolding digits most_harts
of_kernel = refl

pub most_findings_first : rows.most_findings_first
unfolding digits most_harts
most_findings_first = refl

pub no_findings : rows.no_findings
no_findings = refl

pub five : rows.five
unfolding digits most_harts
five = refl

pub six : rows.six
unfolding digits most_harts
six = refl

pub seven : rows.seven
unfolding digits most_harts
seven = refl

pub ruleset notes = (two_harts, without_a_note, two_spaces, of_kernel, most_findings_first, no_findings, five, six, seven)

differ : (told other : List ℕ) → bytes_eq told other ≡ false → bytes_eq other other ≡ true → told ≡ other → ⊥
differ told other is self same = false≢true (sym is ∙ ap (λ (t : List ℕ). bytes_eq t other) same ∙ self)

pub six_lines : rows.six_lines
unfolding digits most_harts
six_lines says = differ _ _ refl refl says

pub last_first : rows.last_first
unfolding digits most_harts
last_first says = differ _ _ refl refl says

pub one_space : rows.one_space
unfolding digits most_harts
one_space says = differ _ _ refl refl says

pub ruleset refused = (six_lines, last_first, one_space)

pub finding : rows.finding
unfolding computing
finding = refl

pub finding_of_kernel : rows.finding_of_kernel
unfolding computing
finding_of_kernel = refl

pub note : rows.note
unfolding computing
note = refl

pub note_of_kernel : rows.note_of_kernel
unfolding computing
note_of_kernel = refl

pub ruleset objects = (finding, finding_of_kernel, note, note_of_kernel)
