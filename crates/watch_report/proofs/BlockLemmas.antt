-- One block more, and one line more.
use Rattle.std.proofs.Common.{◌≡◌, ℕ, ◌+◌, ◌≤◌, List, ◌∷◌, ◌++◌, length, drop, ap, sym, ◌∙◌, append_assoc, append-nil}
use Rattle.std.proofs.lemmas.List.{drop_all}
use Rattle.watch_causes.specs.declared.tally.Tally.{Tally}
use Rattle.watch_report.specs.declared.warning.Trigger.{Trigger}
use Rattle.watch_report.specs.declared.options.Form.{Form}
use Rattle.watch_report.specs.Forms.{block_as}
use Rattle.watch_report.specs.Reports.{block_lines}
use Rattle.watch_report.specs.TraceText.{Noted, note_at}
use Rattle.watch_report.specs.VerdictLines.{printed_of}

abbrev pub block_of : Form → List ℕ → ℕ → Trigger → Noted → List Noted → Tally → List ℕ
block_of form file number trigger newest records t =
    block_as form file number t.cause (printed_of trigger newest records t.example.warning) (note_at records t.example.warning.stale_since) newest.by

pub front_block : (form : Form) (file : List ℕ) (number : ℕ) (trigger : Trigger) (newest : Noted) (records : List Noted) (tallies : List Tally) (t : Tally) (rest : List Tally) (front new all : List ℕ) → tallies ≡ t ∷ rest
    → new ≡ front ++ block_of form file number trigger newest records t → front ++ block_lines form file number trigger newest records tallies ≡ all
    → new ++ block_lines form file (number + 1) trigger newest records rest ≡ all
front_block form file number trigger newest records tallies t rest front new all is e h =
    ap (λ (n : List ℕ). n ++ block_lines form file (number + 1) trigger newest records rest) e
    ∙ append_assoc front (block_of form file number trigger newest records t) (block_lines form file (number + 1) trigger newest records rest)
    ∙ ap (λ (ts : List Tally). front ++ block_lines form file number trigger newest records ts) (sym is)
    ∙ h

pub no_more_blocks : (form : Form) (file : List ℕ) (number : ℕ) (trigger : Trigger) (newest : Noted) (records : List Noted) (tallies : List Tally) (place : ℕ) (text all : List ℕ) → length tallies ≤ place
    → text ++ block_lines form file number trigger newest records (drop place tallies) ≡ all → text ≡ all
no_more_blocks form file number trigger newest records tallies place text all most h =
    sym (append-nil text) ∙ ap (λ (ts : List Tally). text ++ block_lines form file number trigger newest records ts) (sym (drop_all place tallies most)) ∙ h
